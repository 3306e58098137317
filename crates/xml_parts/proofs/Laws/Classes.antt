-- The table of the classes (specs/Answers.antt) has the bit of a class where the byte is of the class: a test that antt computes at all 256 bytes. Assumes
-- nothing.
use Prim.Native.Nat.{ℕ, ◌<◌}
use denote.Enum.Declared.{tag_of}
use mathlib.Core.Path.{◌≡◌, refl, ap, ◌∙◌}
use mathlib.Core.List.{◌∷◌}
use mathlib.Core.Bool.{Bool, true, not, ◌&&◌}
use lib.Dec.{eqb, ltb, leb}
use native.Mathlib.Omega.{arith}
use lib.ListN.{get_or}
use borrow.Author.Tests.{not-true, ltb-true, leb-true, eqb-true}
use Rattle.text.specs.Text.{Text, between}
use Rattle.text.specs.Trim.{is_white_space}
use Rattle.text.proofs.Laws.Table.{passes}
use Rattle.text.proofs.Laws.Agree.{agree, same_bytes}
use Rattle.text.proofs.Laws.Tests.{and-true-left, and-true-right}
use Rattle.xml.proofs.Laws.Grammar.Basics.{class-in}
use Rattle.plain_bytes.specs.Scan.{is_text_run, is_value_run, is_comment_run, is_section_run, is_one}
use Rattle.xml.specs.Classes.{is_char, is_letter, is_name_start, is_name, is_encoding, is_byte_of}
use Rattle.xml.specs.Values.{is_quote, is_in_text, is_in_value}
use Rattle.xml_parts.specs.Answers.{Before, class_of, class_table, has_bit}
use Rattle.xml_parts.specs.contracts.classes.Class.{the_type}
use Rattle.xml_parts.specs.declared.classes.Class.{Class}

-- the bit of a class is its discriminant
abbrev bit_of : Class → ℕ
bit_of class = tag_of the_type class

all-bits : (class : Class) → passes (λ (k : ℕ). agree (has_bit (get_or class_table k 0) (bit_of class)) (class_of class k)) 256 ≡ true
unfolding class_table has_bit is_byte_of is_white_space is_letter is_name_start is_name is_encoding is_char is_quote is_in_text is_in_value between
all-bits Class.Space = refl
all-bits Class.NameStart = refl
all-bits Class.Name = refl
all-bits Class.Digit = refl
all-bits Class.Letter = refl
all-bits Class.Encoding = refl
all-bits Class.InText = refl
all-bits Class.InValue = refl

pub class-bit : (class : Class) (b : ℕ) → b < 256 → has_bit (get_or class_table b 0) (bit_of class) ≡ class_of class b
class-bit class b h = same_bytes (λ (k : ℕ). has_bit (get_or class_table k 0) (bit_of class)) (class_of class) (all-bits class) b h

-- the bytes that are passed over eight at a time are of the classes that are then passed over one by one
plain-small : (b : ℕ) (rest : Bool) → ltb b 128 && rest ≡ true → b < 128
plain-small b rest e = ltb-true b 128 (and-true-left (ltb b 128) rest e)

pub text-run : (b : ℕ) → is_text_run b ≡ true → is_in_text b ≡ true
unfolding is_text_run is_in_text is_char between
text-run b e = class-in is_text_run is_in_text refl b (plain-small b _ (and-true-left _ _ (and-true-left _ _ (and-true-left _ _ e)))) e

pub run-in-value : (b : ℕ) → is_value_run b ≡ true → is_in_value b ≡ true
unfolding is_value_run is_in_value is_char is_quote between
run-in-value b e = class-in is_value_run is_in_value refl b (omega (arith, leb-true b 127 (and-true-right (leb 40 b) (leb b 127) (and-true-left (between 40 127 b) (not (eqb b 60)) e)))) e

-- the bytes that are passed over before the word that ends a comment or a section
before : (p : ℕ → Bool) (w : ℕ) (word : Text) → ((b : ℕ) → p b ≡ true → is_char b && not (eqb b w) ≡ true) → Before p (w ∷ word)
before p w word h = record {
  some = omega arith;
  chars = λ b e. and-true-left (is_char b) (not (eqb b w)) (h b e);
  others = λ b e. not-true (eqb b w) (and-true-right (is_char b) (not (eqb b w)) (h b e));
}

pub comment-run : (rest : Text) → Before is_comment_run (45 ∷ rest)
unfolding is_comment_run is_char between
comment-run rest = before is_comment_run 45 rest (λ b e. class-in is_comment_run (λ (k : ℕ). is_char k && not (eqb k 45)) refl b (plain-small b _ (and-true-left _ _ e)) e)

pub section-run : (rest : Text) → Before is_section_run (93 ∷ rest)
unfolding is_section_run is_char between
section-run rest = before is_section_run 93 rest (λ b e. class-in is_section_run (λ (k : ℕ). is_char k && not (eqb k 93)) refl b (plain-small b _ (and-true-left _ _ e)) e)

-- the bytes of a line end and of an indent
pub one-run : (c : ℕ) → is_in_text c ≡ true → (b : ℕ) → is_one c b ≡ true → is_in_text b ≡ true
unfolding is_one
one-run c h b e = ap is_in_text (eqb-true b c e) ∙ h

pub space-in-text : is_in_text 32 ≡ true
unfolding is_in_text is_char between
space-in-text = refl

pub tab-in-text : is_in_text 9 ≡ true
unfolding is_in_text is_char between
tab-in-text = refl

pub line-in-text : is_in_text 10 ≡ true
unfolding is_in_text is_char between
line-in-text = refl

pub return-in-text : is_in_text 13 ≡ true
unfolding is_in_text is_char between
return-in-text = refl
