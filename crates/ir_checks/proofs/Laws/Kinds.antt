-- The places of the heads of one kind, from a place on: the row there decides, or the rest does. Assumes nothing.
use Prim.Native.Nat.{ℕ, ◌+◌, ◌*◌, ◌≤◌, ◌<◌}
use mathlib.Core.Path.{◌≡◌, refl, ap, ◌∙◌}
use mathlib.Core.Bool.{true, false}
use mathlib.Core.List.{[], ◌∷◌, ◌++◌}
use lib.ListN.{get_or}
use Rattle.rows.specs.declared.part.SheetPart.{SheetPart}
use Rattle.std.proofs.lemmas.Bool.{or_left, or_right}
use Rattle.ir_rows.specs.Types.{is_simple, is_complex, is_type, places_of, type_places}
use Rattle.ir_rows.specs.Parts.{part_places}
use Rattle.xsd_types.proofs.Laws.Places.{row_at-tag, rows_from-cons, rows_from-end}
use Rattle.ir_checks.specs.declared.TypeKind.{TypeKind}
use Rattle.ir_checks.specs.Kinds.{is_kind, kind_places}

module _ (part : SheetPart) (kind : TypeKind) (p : ℕ) where
  pub kind-hit : p < part.end → is_kind kind (get_or part.rows.now (10 * p) 0) ≡ true → kind_places part kind p ≡ p ∷ kind_places part kind (p + 1)
  unfolding kind_places places_of
  kind-hit h e = rw (rows_from-cons part.rows.now part.names.now p part.end h) (rw (ap (is_kind kind) (row_at-tag part.rows.now part.names.now p) ∙ e))

  pub kind-on : p < part.end → is_kind kind (get_or part.rows.now (10 * p) 0) ≡ false → kind_places part kind p ≡ kind_places part kind (p + 1)
  unfolding kind_places places_of
  kind-on h e = rw (rows_from-cons part.rows.now part.names.now p part.end h) (rw (ap (is_kind kind) (row_at-tag part.rows.now part.names.now p) ∙ e))

  pub kind-end : part.end ≤ p → kind_places part kind p ≡ []
  unfolding kind_places places_of
  kind-end h = rw (rows_from-end part.rows.now part.names.now p part.end h)

-- simple types, then complex ones
pub kinds-types : (part : SheetPart) → part_places part ≡ kind_places part TypeKind.Simple 2 ++ kind_places part TypeKind.Complex 2
unfolding type_places kind_places is_kind
kinds-types part = refl

pub kind-type : (kind : TypeKind) (tag : ℕ) → is_kind kind tag ≡ true → is_type tag ≡ true
unfolding is_kind is_type
kind-type TypeKind.Simple tag e = or_left _ (is_complex tag) e
kind-type TypeKind.Complex tag e = or_right (is_simple tag) _ e
