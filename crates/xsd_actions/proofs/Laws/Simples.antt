-- What an event does to the open simple type is what was decided, test by test. Assumes nothing.
--     Simple b d b' a    the open simple type b', at nesting d, is b after the action a
use mathlib.Core.Path.{◌≡◌, refl}
use mathlib.Core.Bool.{◌&&◌}
use mathlib.Core.List.{[], ◌∷◌, ◌++◌, map}
use Prim.Native.Nat.{ℕ, suc}
use lib.Dec.{eqb}
use Rattle.text.specs.Text.{Text}
use Rattle.xsd_types.specs.Types.{Facet}
use Rattle.xsd_types.specs.State.{SimpleTypeBuilder, Context}
use Rattle.xsd_types.specs.Rows.{facet_row, simple_type_rows, context_rows, context_number, extension_flag}
use Rattle.xsd_parser.specs.declared.words.Word.{Word}
use Rattle.xsd_parser.specs.Words.{facet_word}
use Rattle.xsd_parser.specs.Event.{or_empty}
use Rattle.xsd_parser.specs.Seen.{Seen, tag_is}
use Rattle.xsd_parser.specs.Handlers.{with_base, with_facet, raised_simple, on_start_in_simple_type, facet_value, on_empty_in_simple_type}
use Rattle.xsd_actions.specs.Actions.{Action}
use Rattle.xsd_actions.specs.Decided.{base_set, start_in_simple_type, facet_added, empty_in_simple_type}
use Rattle.xsd_actions.proofs.Laws.Agree.{Agree, values, if-both, agree-if, agree-facet}
use Rattle.xsd_actions.proofs.Laws.Changes.{Changed, changed-keep, changed-add, changed-base, rows_more}

pub record Simple (b : SimpleTypeBuilder) (d : ℕ) (b' : SimpleTypeBuilder) (a : Action) : Type 0 where
  pub nesting : b'.nesting_depth ≡ d
  pub changed : Changed (Context.in_simple_type b) a (Context.in_simple_type b')

module _ (b : SimpleTypeBuilder) (d : ℕ) where
  pub simple-keep : Simple b d (record { head = b.head; base = b.base; facets = b.facets; nesting_depth = d }) Action.keep
  unfolding context_number extension_flag context_rows
  simple-keep = record { nesting = refl; changed = changed-keep refl refl refl }

  pub simple-base : (v : Text) → Simple b d (record { head = b.head; base = v; facets = b.facets; nesting_depth = d }) (Action.base v)
  unfolding context_number extension_flag context_rows simple_type_rows
  simple-base v = record { nesting = refl; changed = changed-base 3 b.head.name b.base v 0 0 b.head.event (map facet_row b.facets) refl refl refl refl }

  pub simple-facet : (f : Facet) → Simple b d (record { head = b.head; base = b.base; facets = b.facets ++ f ∷ []; nesting_depth = d }) (facet_added f)
  unfolding context_number extension_flag context_rows simple_type_rows facet_added
  simple-facet f = record { nesting = refl; changed = changed-add refl refl (facet_row f) (rows_more _ facet_row b.facets f) }

-- a start in a simple type raises the nesting
pub start_in_simple-agrees : (t : Seen) (b : SimpleTypeBuilder)
    → Simple b (suc b.nesting_depth) (on_start_in_simple_type t (raised_simple b)) (start_in_simple_type t (suc b.nesting_depth))
unfolding on_start_in_simple_type raised_simple with_base start_in_simple_type base_set
start_in_simple-agrees t b =
    let d = suc b.nesting_depth in
    if-both (Simple b d) (eqb d 1 && tag_is t Word.Restriction) (simple-base b d (or_empty t.base)) (simple-keep b d)

-- an empty tag in a simple type keeps the nesting
abbrev pub Emptied : SimpleTypeBuilder → SimpleTypeBuilder → Action → Type 0
Emptied b b' a = Simple b b.nesting_depth b' a

pub emptied-facet : (b : SimpleTypeBuilder) (f : Facet) → Emptied b (with_facet b f) (facet_added f)
unfolding with_facet
emptied-facet b f = simple-facet b b.nesting_depth f

pub emptied-base : (t : Seen) (b : SimpleTypeBuilder) → Emptied b (with_base (or_empty t.base) b) (base_set t)
unfolding with_base base_set
emptied-base t b = simple-base b b.nesting_depth (or_empty t.base)

pub empty_in_simple-agrees : (t : Seen) (b : SimpleTypeBuilder) → Agree (Emptied b) (on_empty_in_simple_type t b) (empty_in_simple_type t)
unfolding on_empty_in_simple_type empty_in_simple_type
empty_in_simple-agrees t b =
    agree-if (tag_is t Word.Restriction) (values (emptied-base t b))
    (agree-facet (facet_word t.word) (facet_value t) (with_facet b) facet_added b Action.keep (emptied-facet b) (simple-keep b b.nesting_depth))
