-- The bounds of a proper state's counters. Assumes nothing.
use mathlib.Core.Path.{◌≡◌}
use mathlib.Core.Bool.{Bool, true}
use Prim.Native.Nat.{ℕ, ◌≤◌}
use native.Mathlib.Omega.{arith}
use Rattle.xsd_types.specs.State.{Context, State, proper, context_ok}
use Rattle.xsd_types.specs.Rows.{nesting}
use Rattle.xsd_parser.proofs.Laws.Readers.{simple-parts, complex-parts, schema-parts}
use Rattle.xsd_parser.proofs.Laws.Steps.{proper-parts}

-- "contexts 2 and 3 have at least nesting + 2" open tags, context 1 at least nesting + 1
pub nesting-bound : (by_standard : Bool) (c : Context) (n : ℕ) → context_ok by_standard c n ≡ true → n ≤ 255 → nesting c ≤ 254
unfolding nesting
nesting-bound b Context.no_context n e h = omega arith
nesting-bound b (Context.in_schema depth) n e h = let p = schema-parts b depth n e in omega arith
nesting-bound b (Context.in_simple_type t) n e h = let p = simple-parts b t n e in omega arith
nesting-bound b (Context.in_complex_type t) n e h = let p = complex-parts b t n e in omega arith

module _ (s : State) (e : proper s ≡ true) where
  pub proper-events : s.events ≤ 1000000
  proper-events = (proper-parts s e).events

  pub proper-nesting : nesting s.reader.context ≤ 254
  proper-nesting =
      let p = proper-parts s e in
      nesting-bound s.by_standard s.reader.context s.open_tags p.reader.context p.tags
