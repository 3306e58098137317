-- `xml_parts::steps::matched_name` meets its contract: where a name starts, it is the characters of names that stand there. Assumes nothing.
use Prim.Native.Nat.{ℕ, ◌+◌}
use native.Mathlib.Omega.{arith}
use mathlib.Core.Path.{◌≡◌, sym, ap, ◌∙◌}
use mathlib.Core.Bool.{true, false}
use lib.ListN.{length, drop}
use lib.Seq.{drop-drop}
use Rattle.std.specs.Prelude.{Option, Some, None, is_some, IfSome}
use Rattle.text.specs.Text.{Text, same}
use Rattle.text.proofs.Laws.Tests.{bool_cases}
use Rattle.xml.specs.Classes.{is_name_start, begins}
use Rattle.xml.specs.Steps.{bad, behind, leading_name}
use Rattle.xml.proofs.Laws.Names.{name-no-start, name-begun}
use Rattle.xml_parts.specs.Answers.{GoesAlike, moved, matched}
use Rattle.xml_parts.proofs.steps.matched_name.Goals as goal

no-start : (text : Text) (at top : ℕ) → begins is_name_start (drop at text) ≡ false → matched text at top ≡ bad
unfolding matched
no-start text at top e =
    bool_cases (same (leading_name (drop at text)) (leading_name (drop top text))) (λ h. rw h (name-no-start at (drop at text) e)) (λ h. rw h)

start : (text : Text) (at top : ℕ) (r : Option ℕ) → begins is_name_start (drop at text) ≡ true → is_some r ≡ same (leading_name (drop at text)) (leading_name (drop top text))
    → IfSome r (λ e. e ≡ at + length (leading_name (drop at text))) → moved text r ≡ matched text at top
unfolding matched
start text at top (Some e) s h m =
    rw (sym h)
    (ap (λ (k : ℕ). behind k (drop k text)) m
    ∙ sym (name-begun at (drop at text) s ∙ ap (behind (at + length (leading_name (drop at text)))) (drop-drop (length (leading_name (drop at text))) at text)))
start text at top None s h m = rw (sym h)

pub returns-in_err-start_width : goal.returns-in_err-start_width
returns-in_err-start_width c = rw c.from_residual.ensures (sym (no-start c.args.text.now c.args.at c.args.top c.in_err-start_width.ensures))

-- where the rest of the name ends, it ends
ends-there : (text : Text) (at top n : ℕ) → GoesAlike text at top n → (r : Option ℕ) → IfSome r (λ e. e ≡ at + n + length (leading_name (drop (at + n) text)))
    → IfSome r (λ e. e ≡ at + length (leading_name (drop at text)))
ends-there text at top n g (Some e) h = omega (arith, g.ends)
ends-there text at top n g None h = h

pub returns : goal.returns
returns c =
    let text = c.args.text.now in
    let g = c.alike_bytes-same.ensures in
    start text c.args.at c.args.top _ c.in_ok-start_width.ensures.0 (c.same_run.ensures.alike ∙ g.alike) (ends-there text c.args.at c.args.top _ g _ c.same_run.ensures.ends)
