-- Named in docs/PORT.md and docs/DESIGN-PASS.md. No contract cites them. Assumes nothing.
use Rattle.std.specs.Prelude.{if◌then◌else◌, Option, Some, None}
use Rattle.std.specs.Borrow.{Bor}
use Prim.Native.Nat.{ℕ, zero, suc, ◌+◌, ◌≤◌}
use mathlib.Core.Path.{◌≡◌, refl, ap}
use mathlib.Core.Bool.{Bool, true, false}
use mathlib.Core.List.{List, [], ◌∷◌, ◌++◌, append-nil}
use native.Mathlib.Omega.{arith}
use native.Mathlib.Nat.{min-le_right}
use lib.ListN.{length, get_or, drop, length-append, length-take, length-drop}
use lib.Seq.{take-nil}
use Rattle.text.specs.Text.{Text, join}
use Rattle.sheet.specs.Rows.{Row, row}
use Rattle.xsd_types.specs.Rows.{namespace_row}
use Rattle.xsd_parser.specs.Tape.{Pair, pair_text}
use Rattle.rows.specs.Texts.{used_texts, used_length, listed}
use Rattle.xsd_actions.specs.declared.NewRow.{NewRow}
use Rattle.xsd_actions.specs.Answers.{new_texts, new_row}
use Rattle.xsd_actions.specs.Actions.{Action, namespace_after, rows_after}
use Rattle.xsd_act.specs.Ready.{rows_after_all}

-- the bytes of no text, of one or of two
abbrev pub new_bytes : Option (Bor Text) → Option (Bor Text) → ℕ
new_bytes None second = 0
new_bytes (Some first) second = length first.now + length (join (listed second))

pub pair_text-bound : (text : Text) (p : Pair) → length (pair_text text p) ≤ length text
unfolding pair_text
pair_text-bound text p =
    let rest = drop p.offset text in
    omega (arith, length-take p.size rest, min-le_right p.size (length rest), length-drop p.offset text)

pub used_texts-two : (n : ℕ) (t u : Text) → (n ≤ 2 → ⊥) → used_texts n t u ≡ used_texts 2 t u
used_texts-two zero t u h = absurd (h (omega arith))
used_texts-two (suc zero) t u h = absurd (h (omega arith))
used_texts-two (suc (suc n)) t u h = ap (λ (l : List Text). t ∷ u ∷ l) (take-nil n)

pub join_one : (t : Text) → length (join (t ∷ [])) ≡ length t
unfolding join
join_one t = rw append-nil

pub used_length-empty-bound : (n a : ℕ) → used_length n a 0 ≤ a
used_length-empty-bound zero a = omega arith
used_length-empty-bound (suc zero) a = omega arith
used_length-empty-bound (suc (suc n)) a = omega arith

pub text_at_mark-bound : (text : Text) (marks : List ℕ) (at : ℕ) → length (pair_text text (record { offset = get_or marks at 0; size = get_or marks (at + 1) 0 })) ≤ length text
text_at_mark-bound text marks at = pair_text-bound text _

pub content_pairs-bound : (b : Bool) → (1 ≤ (if b then 2 else 1)) × ((if b then 2 else 1) ≤ 2)
content_pairs-bound true = (omega arith, omega arith)
content_pairs-bound false = (omega arith, omega arith)

-- the bytes of a new row's texts: without a first one there is none
texts-bytes : (first second : Option (Bor Text)) → length (join (new_texts first second)) ≡ new_bytes first second
unfolding join
texts-bytes None second = refl
texts-bytes (Some first) second = length-append first.now (join (listed second))

pub new_row-bytes : (n : NewRow) → length (join (new_row n).texts) ≡ new_bytes n.first n.second
unfolding new_row row
new_row-bytes n = texts-bytes n.first n.second

-- the rows after an action that adds one
pub after-add : (namespace : Text) (done last : List Row) (r : Row) → rows_after_all (Action.add r) namespace done last ≡ (namespace_row namespace ∷ (done ++ last)) ++ r ∷ []
unfolding rows_after_all namespace_after rows_after
after-add namespace done last r = refl
