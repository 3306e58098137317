-- `pattern::expression::is_expression` meets its contract: the scan of the whole decides, and it is that of the derivations. Assumes nothing.
use Prim.Native.Nat.{ℕ, ◌+◌}
use mathlib.Core.Path.{◌≡◌, refl, sym, ◌∙◌}
use mathlib.Core.Bool.{Bool, true, false, false≢true}
use lib.Dec.{leb}
use lib.ListN.{length, drop, get_or}
use borrow.Author.Tests.{eqb-true, leb-true, leb-false}
use Rattle.text.specs.Text.{Text}
use Rattle.pattern.specs.Grammar.{Derives, reg_exp}
use Rattle.pattern.specs.Scan.{start, go, scan, pattern_step, fresh, leave, final}
use Rattle.pattern.specs.Answers.{Goes, ExpressionJudged, is_close}
use Rattle.pattern.proofs.Laws.Places.{byte-to, stop-at, end-at}
use Rattle.pattern.proofs.Laws.One.{derived-true}
use Rattle.pattern.proofs.Laws.Sound.{scan-derived}
use Rattle.pattern.proofs.expression.is_expression.Goals as goal

judged-false : (s : Text) → scan (go 0 start) s ≡ false → Derives reg_exp s → ⊥
judged-false s e k = false≢true (sym e ∙ derived-true s k)

judged : (s : Text) (e : ℕ) → Goes s start 0 start 0 e is_close → ExpressionJudged s (leb (length s) e)
unfolding is_close pattern_step fresh leave final
judged s e g = go_on (leb (length s) e) refl
  where
    go_on : (t : Bool) → leb (length s) e ≡ t → ExpressionJudged s t
    go_on true w = scan-derived s (g.reads 0 ∙ end-at (go 0 start) s e (leb-true (length s) e w))
    go_on false w =
        let h = leb-false (length s) e w in
        judged-false s (g.reads 0 ∙ byte-to (go 0 start) s e 41 h (eqb-true (get_or s e 0) 41 (g.stops h)) refl ∙ stop-at (drop (e + 1) s))

pub returns-in-None : goal.returns-in-None
returns-in-None c = judged-false c.args.s.now (c.in-None.ensures 0)

pub returns-in-Some : goal.returns-in-Some
returns-in-Some c = judged _ _ c.in-Some.ensures
