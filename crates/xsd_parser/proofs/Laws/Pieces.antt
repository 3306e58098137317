-- "a tape may be cut between any events over the same text": any number of cuts. Assumes nothing.
use mathlib.Core.Path.{◌≡◌, sym, ap, ◌∙◌}
use mathlib.Core.Bool.{true, false}
use mathlib.Core.List.{List, [], ◌∷◌, ◌++◌, append_assoc}
use Prim.Native.Nat.{ℕ, ◌+◌}
use native.Mathlib.Omega.{arith}
use lib.Dec.{eqb}
use borrow.Author.Tests.{eqb-true, eqb-false}
use Rattle.sheet.specs.Lengths.{Lengths}
use Rattle.text.specs.Text.{Text, every, join}
use Rattle.xsd_types.specs.State.{State}
use Rattle.xsd_parser.specs.Read.{Reading, read_state}
use Rattle.xsd_parser.specs.Whole.{whole_records}
use Rattle.xsd_parser.specs.Pieces.{onward, read_pieces}
use Rattle.xsd_parser.proofs.Laws.Reads.{stopped}
use Rattle.xsd_parser.proofs.Laws.Accepts.{later}
use Rattle.xsd_parser.proofs.Laws.Cut.{cut-accepted}
use Rattle.xsd_parser.proofs.Laws.CutRefused.{cut-refused}
use Rattle.std.proofs.lemmas.Bool.{and_parts}
use Rattle.text.proofs.Laws.Tests.{bool_cases}

pub onward-zero : (r x : Reading) → eqb r.answer.number 0 ≡ true → onward r x ≡ later r.answer.place x
unfolding onward
onward-zero r x e = rw e

pub onward-other : (r x : Reading) → eqb r.answer.number 0 ≡ false → onward r x ≡ r
unfolding onward
onward-other r x e = rw e

-- one cut
pub cut-once : (lent : Lengths) (s : State) (text : Text) (m₁ m₂ : List ℕ) → whole_records text m₁ ≡ true
    → read_state lent s text (m₁ ++ m₂) ≡ onward (read_state lent s text m₁) (read_state lent (read_state lent s text m₁).state text m₂)
cut-once lent s text m₁ m₂ w =
    let r = read_state lent s text m₁ in
    bool_cases (eqb r.answer.number 0)
    (λ e. cut-accepted lent s text m₁ m₂ (eqb-true _ 0 e) ∙ sym (onward-zero r _ e))
    (λ e. cut-refused lent s text m₁ m₂ (eqb-false _ 0 e) (λ z. w) ∙ sym (onward-other r _ e))

-- any number of cuts; how the last piece ends does not matter
pub onward-none : (r : Reading) → onward r (stopped 0 0 r.state) ≡ r
onward-none r =
    bool_cases (eqb r.answer.number 0)
    (λ e. let h : 0 ≡ r.answer.number = sym (eqb-true _ 0 e) in let k : r.answer.place + 0 ≡ r.answer.place = omega arith in
    onward-zero r _ e ∙ rw k (ap (λ n. stopped n r.answer.place r.state) h))
    (λ e. onward-other r _ e)

pub cut-pieces : (lent : Lengths) (s : State) (text : Text) (pieces : List (List ℕ)) (last : List ℕ) → every (whole_records text) pieces ≡ true
    → read_state lent s text (join pieces ++ last) ≡ read_pieces lent s text (pieces ++ last ∷ [])
unfolding every join read_pieces
cut-pieces lent s text [] last w = sym (onward-none (read_state lent s text last))
cut-pieces lent s text (m ∷ ms) last w =
    let p = and_parts (whole_records text m) (every (whole_records text) ms) w in
    let r = read_state lent s text m in
    rw (append_assoc m (join ms) last) (cut-once lent s text m (join ms ++ last) p.0 ∙ ap (onward r) (cut-pieces lent r.state text ms last p.1))
