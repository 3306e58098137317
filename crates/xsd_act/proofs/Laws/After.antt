-- The rows after an action and their count. A row more adds its texts, a replaced head ends the rows, a replaced text changes the bytes alone.
-- Assumes nothing.
use Prim.Native.Nat.{ℕ, ◌+◌, ◌-◌}
use mathlib.Core.Path.{◌≡◌, refl, sym, ap, ◌∙◌}
use mathlib.Core.List.{List, [], ◌∷◌, ◌++◌}
use native.Mathlib.Omega.{arith}
use lib.ListN.{length, length-append}
use Rattle.text.specs.Text.{Text, join}
use Rattle.sheet.specs.Rows.{Row, row, names_of}
use Rattle.xsd_types.specs.Rows.{namespace_row}
use Rattle.rows.specs.declared.numbers.Used.{Used}
use Rattle.xsd_replace.specs.Spots.{Spot, spot_row, spot_rows, TextAt}
use Rattle.xsd_actions.specs.Actions.{Action, namespace_after, rows_after, first_text, head_with, base_with, NamedHead, BasedHead}
use Rattle.rows.proofs.Laws.Write.{names-one, length_more}
use Rattle.xsd_replace.proofs.Laws.Spot.{spot-bytes}
use Rattle.xsd_act.specs.Ready.{rows_after_all}
use Rattle.xsd_act.specs.Needs.{Counted}
use Rattle.xsd_act.proofs.Laws.Ready.{root_spot, base_spot}

-- the rows after an action, as the writers leave them
module _ (namespace : Text) (done last : List Row) where
  pub after-content : (tag a : ℕ) (more : List Text) (h : NamedHead last)
      → rows_after_all (Action.content tag more a) namespace done last ≡ (namespace_row namespace ∷ done) ++ row tag (h.name ∷ more) a 0 h.c ∷ []
  unfolding rows_after_all namespace_after rows_after head_with first_text row
  after-content tag a more h = ap (λ (l : List Row). namespace_row namespace ∷ (done ++ head_with tag more a l)) h.is

  pub after-base : (z : List ℕ) (v : Text) (h : BasedHead last) → rows_after_all (Action.base v) namespace done last ≡ spot_rows (base_spot z namespace done last h) v
  unfolding rows_after_all namespace_after rows_after base_with first_text row
  after-base z v h = ap (λ (l : List Row). namespace_row namespace ∷ (done ++ base_with v l)) h.is

  pub after-root : (z : List ℕ) (n : Text) → rows_after_all (Action.root n) namespace done last ≡ spot_rows (root_spot z namespace done last) n
  unfolding rows_after_all namespace_after rows_after namespace_row
  after-root z n = refl

-- one row behind others
pub counted-one : {used : Used} (rs : List Row) (r : Row) → used.rows ≡ 2 + length rs → used.names ≡ length (names_of rs) + length (join r.texts) → Counted used (rs ++ r ∷ [])
counted-one rs r e f =
    record { rows = omega (arith, length_more rs r); names = f ∙ sym (ap length (names-one rs r) ∙ length-append (names_of rs) (join r.texts)) }

-- another text at a spot
pub counted-spot : {rows names : List ℕ} {used used' : Used} {place pair : ℕ} {x : Spot} → TextAt rows names used place pair x → (new : Text)
    → used'.rows ≡ used.rows → used'.names ≡ used.names - length x.old + length new → Counted used' (spot_rows x new)
counted-spot {x = x} h new e f =
    record {
      rows = omega (arith, h.holds.rows_used, length-append x.rs (spot_row x new ∷ x.us), length-append x.rs (spot_row x x.old ∷ x.us));
      names = f ∙ sym (spot-bytes h new);
    }
