-- `xml_parts::steps::long_name` meets its contract: where a name starts, it is its first character and the characters of names behind it. Assumes nothing.
use Prim.Native.Nat.{ℕ, ◌+◌, ◌≤◌}
use native.Mathlib.Omega.{arith}
use mathlib.Core.Path.{◌≡◌, sym, ap, ◌∙◌}
use borrow.Author.Rules.{rules}
use mathlib.Core.Bool.{true}
use lib.ListN.{length, drop, length-drop}
use lib.Seq.{drop-drop}
use Rattle.text.specs.Text.{Text}
use Rattle.xml.specs.Classes.{is_name_start, begins}
use Rattle.xml.specs.Steps.{behind, leading_name}
use Rattle.xml.proofs.Laws.Names.{name-begun, name-no-start}
use Rattle.xml_parts.specs.Answers.{start_width}
use Rattle.xml_parts.proofs.Laws.Letters.{width-positive, width-some}
use Rattle.xml_parts.proofs.steps.long_name.Goals as goal

pub returns-in_err-first : goal.returns-in_err-first
returns-in_err-first c = rw c.from_residual.ensures (sym (name-no-start c.args.at _ c.in_err-first.ensures))

-- the first character lies in the text
first-inside : (at : ℕ) (text : Text) → begins is_name_start (drop at text) ≡ true → at + start_width (drop at text) ≤ length text
first-inside at text e =
    let s = drop at text in
    omega (arith, width-positive s e, (width-some s e).0, length-drop at text)

pub overflow_add-at : goal.overflow_add-at
overflow_add-at c =
    let inside = rw (sym c.in_ok-first.ensures.1) at (first-inside c.args.at c.args.text.now c.in_ok-first.ensures.0) in
    search rules

pub returns : goal.returns
returns c =
    let text = c.args.text.now in
    let s = drop c.args.at text in
    let b = c.in_ok-first.ensures.0 in
    let w = width-some s b in
    let rest : length (leading_name (drop (c.args.at + c.in_ok-first.first) text)) ≡ length (leading_name (drop (start_width s) s)) =
    ap (λ (k : ℕ). length (leading_name (drop (c.args.at + k) text))) c.in_ok-first.ensures.1 ∙ ap (λ (t : Text). length (leading_name t)) (sym (drop-drop (start_width s) c.args.at text)) in
    let end : c.long_end.result ≡ c.args.at + length (leading_name s) = omega (arith, c.long_end.ensures, c.in_ok-first.ensures.1, rest, w.1) in
    ap (λ (k : ℕ). behind k (drop k text)) end
    ∙ sym (name-begun c.args.at s b ∙ ap (behind (c.args.at + length (leading_name s))) (drop-drop (length (leading_name s)) c.args.at text))
