-- What a start tag does is what was decided, context by context. Assumes nothing.
use mathlib.Core.Path.{refl}
use mathlib.Core.Bool.{Bool}
use Prim.Native.Nat.{ℕ, zero, suc}
use lib.Dec.{eqb-suc-zero}
use Prim.Native.Nat.{ℕ}
use Rattle.xsd_types.specs.State.{Context, Reader}
use Rattle.xsd_types.specs.Rows.{context_number, nesting}
use Rattle.xsd_parser.specs.declared.words.Word.{Word}
use Rattle.xsd_parser.specs.Event.{Tag, Event}
use Rattle.xsd_parser.specs.Seen.{seen, tag_is}
use Rattle.xsd_parser.specs.Handlers.{ok, in_context, with_content, below_schema, on_direct_child, on_start_in_schema, raised_complex, on_start, on_top_level_element}
use Rattle.xsd_actions.specs.Actions.{Action, mode_of, raises, mode_after, head_tag, Acted}
use Rattle.xsd_actions.specs.Decided.{root_found, direct_child, start_in_schema, decided_start, top_element}
use Rattle.xsd_actions.proofs.Laws.Agree.{Agree, values, if-both, agree-if, agree_then, agree-name}
use Rattle.xsd_actions.proofs.Laws.Changes.{changed-keep, changed-start}
use Rattle.xsd_actions.proofs.Laws.Inside.{start_in_complex-agrees}
use Rattle.xsd_actions.proofs.Laws.Simples.{start_in_simple-agrees}
use Rattle.xsd_actions.proofs.Laws.Tops.{top, depth_below, below-is, below-kept, below-mode, top-acted, root-start, simple-opened, complex-opened}

module _ (by_standard : Bool) (m : ℕ) (t : Tag) (r : Reader) where
  -- the reader after a start in a context, and the action
  abbrev pub Started : Context → Reader → Action → Type 0
  Started x r' a = Acted by_standard (Event.start t) (in_context x r) a r'

  pub start_outside-kept : Started Context.no_context (in_context Context.no_context r) Action.keep
  unfolding raises context_number
  start_outside-kept = changed-start by_standard t r refl (changed-keep refl refl refl)

  pub start_outside-agrees : Agree (Started Context.no_context) (on_start by_standard m (seen t) (in_context Context.no_context r) Context.no_context) (ok (root_found (seen t)))
  unfolding on_start root_found
  start_outside-agrees = values (if-both (Started Context.no_context) (tag_is (seen t) Word.Schema) (root-start by_standard t r) start_outside-kept)

  pub start-element : Started (Context.in_schema 0) (below_schema by_standard 0 (on_top_level_element m (seen t) (top 0 r))) (top_element m (seen t))
  unfolding mode_after
  start-element =
      top-acted by_standard (Event.start t) r (depth_below by_standard 0) (below_schema by_standard 0) (below-is by_standard 0)
      (below-kept by_standard t 0 r) (below-mode by_standard r) m (seen t)

  pub direct_child-agrees : Agree (Started (Context.in_schema 0)) (on_direct_child by_standard m (seen t) (top 0 r)) (direct_child m (seen t))
  unfolding on_direct_child direct_child
  direct_child-agrees =
      agree-if (tag_is (seen t) Word.SimpleType) (agree-name (seen t) _ _ (simple-opened by_standard t r m))
      (agree-if (tag_is (seen t) Word.ComplexType) (agree-name (seen t) _ _ (complex-opened by_standard t r m))
      (agree-if (tag_is (seen t) Word.Element) (values start-element) (values (below-kept by_standard t 0 r))))

  pub start_in_schema-agrees : (n : ℕ) → Agree (Started (Context.in_schema n)) (on_start_in_schema by_standard m (seen t) n (top n r)) (start_in_schema m (seen t) n)
  unfolding on_start_in_schema start_in_schema
  start_in_schema-agrees zero = direct_child-agrees
  start_in_schema-agrees (suc n) = rw (eqb-suc-zero n) (values (below-kept by_standard t (suc n) r))

  pub start-agrees : (x : Context) → Agree (Started x) (on_start by_standard m (seen t) (in_context x r) x) (decided_start m (seen t) (mode_of (in_context x r)) (head_tag x))
  unfolding on_start decided_start mode_of in_context head_tag context_number nesting with_content raised_complex raises
  start-agrees Context.no_context = start_outside-agrees
  start-agrees (Context.in_schema n) = start_in_schema-agrees n
  start-agrees (Context.in_simple_type b) = let h = start_in_simple-agrees (seen t) b in values (changed-start by_standard t r h.nesting h.changed)
  start-agrees (Context.in_complex_type b) = agree_then _ (λ c a h. changed-start by_standard t r refl h)
      (start_in_complex-agrees b.head.event b.head.name b.nesting_depth _ (seen t) (raised_complex b))
