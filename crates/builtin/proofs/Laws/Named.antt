-- Named in docs/PORT.md. No contract cites them. Assumes nothing.
--     key_of        a word's length and first byte, 0 where it is longer than any built-in name; keys_of: the keys of a list's names
use Rattle.std.specs.Prelude.{if◌then◌else◌}
use Prim.Native.String.{String}
use Prim.Native.Nat.{ℕ, ◌+◌, ◌*◌}
use mathlib.Core.Path.{◌≡◌, refl, sym, ap}
use mathlib.Core.Bool.{Bool, false}
use mathlib.Core.List.{List, [], ◌∷◌}
use mathlib.Core.Option.{none}
use lib.Dec.{eqb, ltb}
use lib.ListN.{length}
use borrow.Author.Tests.{eqb-false}
use Rattle.text.specs.Text.{Text, bytes, first, is, contains}
use Rattle.text.proofs.Laws.Texts.{same-eq}
use Rattle.std.proofs.lemmas.Bool.{false_from_ne_true}
use Rattle.text.proofs.Laws.Tests.{or-false-left, or-false-right}
use Rattle.builtin.specs.Builtin.{RustType, string, bool, decimal, date, date_time, first_match}
use Rattle.builtin.specs.declared.Builtin.{Builtin}
use Rattle.builtin.specs.Answers.{builtin_type}

unfoldable pub key_of : Text → ℕ
key_of w = if ltb 18 (length w) then 0 else 256 * length w + first w

unfoldable pub keys_of : List (String × RustType) → List ℕ
keys_of [] = []
keys_of (e ∷ es) = key_of (bytes e.0) ∷ keys_of es

-- a word with another key is another word
other_key : (word : Text) (name : String) → (key_of (bytes name) ≡ key_of word → ⊥) → is word name ≡ false
unfolding is
other_key word name h = false_from_ne_true _ (λ e. h (sym (ap key_of (same-eq word (bytes name) e))))

-- where no name has the word's key, none is the word
pub no_key : (word : Text) (es : List (String × RustType)) → contains (key_of word) (keys_of es) ≡ false → first_match word es ≡ none
unfolding contains keys_of first_match
no_key word [] e = refl
no_key word (x ∷ xs) e =
    let first = or-false-left (eqb (key_of (bytes x.0)) (key_of word)) (contains (key_of word) (keys_of xs)) e in
    let rest = or-false-right (eqb (key_of (bytes x.0)) (key_of word)) (contains (key_of word) (keys_of xs)) e in
    rw (other_key word x.0 (eqb-false _ _ first)) (no_key word xs rest)

-- the code's value for each type
abbrev pub builtin_of : RustType → Builtin
builtin_of string = Builtin.String
builtin_of bool = Builtin.Bool
builtin_of decimal = Builtin.Decimal
builtin_of date = Builtin.Date
builtin_of date_time = Builtin.DateTime

pub type_of-digit : (t : RustType) → builtin_type (builtin_of t) ≡ t
type_of-digit string = refl
type_of-digit bool = refl
type_of-digit decimal = refl
type_of-digit date = refl
type_of-digit date_time = refl

-- the fifth type is that of every other value
pub type_of-rest : (b : Builtin) → (b ≡ Builtin.String → ⊥) → (b ≡ Builtin.Bool → ⊥) → (b ≡ Builtin.Decimal → ⊥) → (b ≡ Builtin.Date → ⊥) → builtin_type b ≡ date_time
type_of-rest Builtin.String s b d t = absurd (s refl)
type_of-rest Builtin.Bool s b d t = absurd (b refl)
type_of-rest Builtin.Decimal s b d t = absurd (d refl)
type_of-rest Builtin.Date s b d t = absurd (t refl)
type_of-rest Builtin.DateTime s b d t = refl
