-- What the writers leave is what the action says: the rows after it, by the laws of `xsd_needs`. Assumes nothing.
use Prim.Native.Nat.{ℕ, ◌+◌, ◌*◌}
use mathlib.Core.Path.{◌≡◌, sym, subst, ap, ◌∙◌}
use mathlib.Core.List.{List, [], ◌∷◌, ◌++◌}
use lib.ListN.{get_or}
use Rattle.text.specs.Text.{Text}
use Rattle.sheet.specs.Rows.{Row, row}
use Rattle.xsd_types.specs.Rows.{namespace_row}
use Rattle.xsd_parser.specs.Handlers.{ok, refuse}
use Rattle.rows.specs.declared.writer.SheetWriter.{SheetWriter}
use Rattle.rows.specs.declared.numbers.RowNumbers.{RowNumbers}
use Rattle.rows.specs.Writer.{SameBuffers, Held}
use Rattle.rows.specs.Append.{Appended}
use Rattle.rows.proofs.Laws.Writer.{same_itself}
use Rattle.xsd_replace.specs.Head.{HeadReplaced}
use Rattle.xsd_replace.specs.Spots.{TextReplaced}
use Rattle.xsd_actions.specs.Actions.{Action, namespace_after, rows_after, Fitting}
use Rattle.xsd_act.specs.Ready.{Ready, rows_after_all}
use Rattle.xsd_act.proofs.Laws.Ready.{ready-root, ready-head, ready-event, ready-base}
use Rattle.xsd_act.proofs.Laws.After.{after-content, after-base, after-root}
use Rattle.xsd_act.proofs.Laws.Needs.{ok-back, refuse-ok}
use Rattle.xsd_act.specs.Acts.{Done}

module _ {w : SheetWriter} {head : ℕ} {w' : SheetWriter} where
  pub done_ok : (a : Action) → SameBuffers w w'
      → ((z : List ℕ) (namespace : Text) (done last : List Row) → Ready w.rows.now w.names.now w.used head z namespace done last → Fitting a last → Held w' z (rows_after_all a namespace done last))
      → Done w head (ok a) w'
  done_ok a same h =
      record {
        same = same;
        holds = λ z namespace done last b g o. subst (λ (x : Action). Fitting x last → Held w' z (rows_after_all x namespace done last)) (ok-back o) (h z namespace done last g);
      }

  -- an action that adds a row
  pub done_more : (a : Action) (new : Row) → ((namespace : Text) (done last : List Row) → rows_after_all a namespace done last ≡ (namespace_row namespace ∷ (done ++ last)) ++ new ∷ [])
      → Appended new w w' → Done w head (ok a) w'
  done_more a new after h =
      done_ok a h.same (λ z namespace done last g k. subst (λ (l : List Row). Held w' z l) (sym (after namespace done last)) (h.holds z _ g.holds))

  pub done-root : (n : Text) → TextReplaced w 1 0 n w' → Done w head (ok (Action.root n)) w'
  done-root n h =
      done_ok (Action.root n) h.same
      (λ z namespace done last g k. subst (λ (l : List Row). Held w' z l) (sym (after-root namespace done last z n)) (h.holds _ (ready-root g)))

  pub done-base : (v : Text) → TextReplaced w head 1 v w' → Done w head (ok (Action.base v)) w'
  unfolding Fitting
  done-base v h =
      done_ok (Action.base v) h.same
      (λ z namespace done last g k. subst (λ (l : List Row). Held w' z l) (sym (after-base namespace done last z v k)) (h.holds _ (ready-base g k)))

  pub done-content : (n : RowNumbers) (more : List Text) → n.b ≡ 0 → n.c ≡ get_or w.rows.now (10 * head + 9) 0 → HeadReplaced w head n more w' → Done w head (ok (Action.content n.tag more n.a)) w'
  unfolding Fitting
  done-content n more b c h =
      done_ok (Action.content n.tag more n.a) h.same (λ z namespace done last g k.
      let kept : n.c ≡ k.c = c ∙ ready-event g k in
      let as_row : row n.tag (k.name ∷ more) n.a 0 k.c ≡ row n.tag (k.name ∷ more) n.a n.b n.c = rw (b, kept) in
      subst (λ (l : List Row). Held w' z l) (sym (after-content namespace done last n.tag n.a more k ∙ ap (λ (x : Row). (namespace_row namespace ∷ done) ++ x ∷ []) as_row))
      (h.holds z (namespace_row namespace ∷ done) k.name (ready-head g k)))

-- nothing is stored
pub done-refuse : {w : SheetWriter} {head n : ℕ} → Done w head (refuse n) w
done-refuse {w} = record { same = same_itself w; holds = λ z namespace done last a h o k. absurd (refuse-ok o) }

pub done-keep : {w : SheetWriter} {head : ℕ} → Done w head (ok Action.keep) w
unfolding rows_after_all namespace_after rows_after
done-keep {w} = done_ok Action.keep (same_itself w) (λ z namespace done last g k. g.holds)
