-- `xml_parts::steps::leading_name` meets its contract: a name ends inside the text, and past the text's end none stands. Assumes nothing.
use Prim.Native.Nat.{ℕ, ◌-◌, min}
use native.Mathlib.Omega.{arith}
use mathlib.Core.Path.{◌≡◌, sym, ap, ◌∙◌}
use lib.Dec.{leb}
use lib.ListN.{length, drop, length-drop, drop_of_length-le}
use borrow.Author.Tests.{leb-true, leb-false}
use Rattle.text.specs.Text.{Text}
use Rattle.text.proofs.Laws.Tests.{bool_cases}
use Rattle.xml.specs.Steps.{leading_name}
use Rattle.xml.proofs.Laws.Names.{name_of-take, name_of-length}
use Rattle.xml_parts.proofs.steps.leading_name.Goals as goal

-- from the text's end on nothing is left, however far
from-end : (s : Text) (at : ℕ) → drop (min at (length s)) s ≡ drop at s
from-end s at =
    bool_cases (leb at (length s))
    (λ h. let e : min at (length s) ≡ at = omega (arith, leb-true at (length s) h) in ap (λ (k : ℕ). drop k s) e)
    (λ h. drop_of_length-le s (omega (arith, leb-false at (length s) h)) ∙ sym (drop_of_length-le s (omega (arith, leb-false at (length s) h))))

pub slice_bounds-result-count : goal.slice_bounds-result-count
slice_bounds-result-count c = omega (arith, c.long_end-end.ensures)

pub slice_bounds-result-end : goal.slice_bounds-result-end
slice_bounds-result-end c =
    omega (arith, c.long_end-end.ensures, c.min-from.ensures, name_of-length (drop c.min-from.result c.args.text.now), length-drop c.min-from.result c.args.text.now)

pub returns : goal.returns
returns c =
    let s = drop c.min-from.result c.args.text.now in
    let size : c.long_end-end.result - c.min-from.result ≡ length (leading_name s) = omega (arith, c.long_end-end.ensures) in
    rw size (name_of-take s) ∙ ap leading_name (ap (λ (k : ℕ). drop k c.args.text.now) c.min-from.ensures ∙ from-end c.args.text.now c.args.at)
