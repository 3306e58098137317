-- Row 0 of a schema sheet: from ten numbers and back nothing is lost, either way round; its tests of nesting and open tags by context.
-- Assumes nothing.
use Rattle.std.specs.Prelude.{if◌then◌else◌}
use mathlib.Core.Path.{◌≡◌, refl}
use mathlib.Core.Bool.{Bool, ◌&&◌, and-true}
use Prim.Native.Nat.{ℕ, ◌+◌}
use lib.Dec.{eqb, leb}
use Rattle.text.proofs.Laws.Tests.{bool_cases}
use Rattle.sheet.specs.Rows.{Ten}
use Rattle.xsd_types.specs.State.{schema_nesting_ok}
use Rattle.xsd_types.specs.Row0.{Row0, row0_from, row0_ten}
use Rattle.xsd_types.specs.Good.{open_tags_test, nesting_zero, nesting_test}

pub ten-row0 : (t : Ten) → row0_ten (row0_from t) ≡ t
ten-row0 t = refl

pub row0-ten : (z : Row0) → row0_from (row0_ten z) ≡ z
row0-ten z = refl

-- the nesting and the open tags that a context allows
unfoldable pub nested_ok : Bool → ℕ → ℕ → ℕ → Bool
nested_ok by_standard context depth open_tags =
    if leb 2 context then leb (depth + 2) open_tags else
    if eqb context 1 then schema_nesting_ok by_standard depth && leb (depth + 1) open_tags else eqb depth 0

pub nesting-both : (z : Row0) → nesting_test z ≡ nested_ok (eqb z.choice 1) z.context z.nesting z.open_tags
unfolding nesting_test nesting_zero open_tags_test nested_ok schema_nesting_ok
nesting-both z =
    bool_cases (leb 2 z.context) (λ e. rw e) (λ e. rw e (bool_cases (eqb z.context 1) (λ f. rw f) (λ f. rw f (and-true (eqb z.nesting 0)))))
