-- What an empty tag does is what was decided, context by context. Assumes nothing.
use Rattle.std.specs.Prelude.{if◌then◌else◌}
use mathlib.Core.Path.{refl}
use mathlib.Core.Bool.{Bool, ◌&&◌}
use Prim.Native.Nat.{ℕ, zero, suc}
use lib.Dec.{eqb, eqb-suc-zero}
use Prim.Native.Nat.{ℕ}
use Rattle.xsd_types.specs.State.{Context, Reader}
use Rattle.xsd_types.specs.Rows.{context_number, nesting, extension_flag}
use Rattle.xsd_parser.specs.declared.words.Word.{Word}
use Rattle.xsd_parser.specs.Event.{Tag, Event}
use Rattle.xsd_parser.specs.Seen.{seen, tag_is}
use Rattle.xsd_parser.specs.Handlers.{in_context, with_content, found_root, on_top_level_element, on_empty}
use Rattle.xsd_actions.specs.Actions.{Action, mode_of, mode_after, head_tag, Acted}
use Rattle.xsd_actions.specs.Decided.{root_found, top_element, decided_empty}
use Rattle.xsd_actions.proofs.Laws.Agree.{Agree, values, if-both, agree_then}
use Rattle.xsd_actions.proofs.Laws.Changes.{changed-keep, changed-empty}
use Rattle.xsd_actions.proofs.Laws.Inside.{empty_in_complex-agrees}
use Rattle.xsd_actions.proofs.Laws.Simples.{empty_in_simple-agrees}
use Rattle.xsd_actions.proofs.Laws.Tops.{top, mode-still, top-acted, root-empty}

module _ (by_standard : Bool) (m : ℕ) (t : Tag) (r : Reader) where
  -- the reader after an empty tag in a context, and the action
  abbrev pub Passed : Context → Reader → Action → Type 0
  Passed x r' a = Acted by_standard (Event.empty t) (in_context x r) a r'

  pub empty-kept : (x : Context) → Passed x (in_context x r) Action.keep
  empty-kept x = changed-empty by_standard t r refl (changed-keep refl refl refl)

  pub empty_outside-agrees : Passed Context.no_context
      (if tag_is (seen t) Word.Schema then found_root (seen t) (in_context Context.no_context r) else in_context Context.no_context r) (root_found (seen t))
  unfolding root_found
  empty_outside-agrees = if-both (Passed Context.no_context) (tag_is (seen t) Word.Schema) (root-empty by_standard t r) (empty-kept Context.no_context)

  pub empty-element : Passed (Context.in_schema 0) (on_top_level_element m (seen t) (top 0 r)) (top_element m (seen t))
  unfolding mode_after
  empty-element = top-acted by_standard (Event.empty t) r 0 (λ q. q) (λ q. refl) (empty-kept (Context.in_schema 0)) (mode-still by_standard r) m (seen t)

  pub empty_in_schema-agrees : (n : ℕ) → Passed (Context.in_schema n) (if eqb n 0 && tag_is (seen t) Word.Element then on_top_level_element m (seen t) (top n r) else top n r)
      (if eqb n 0 && tag_is (seen t) Word.Element then top_element m (seen t) else Action.keep)
  empty_in_schema-agrees zero = if-both (Passed (Context.in_schema 0)) (tag_is (seen t) Word.Element) empty-element (empty-kept (Context.in_schema 0))
  empty_in_schema-agrees (suc n) = rw (eqb-suc-zero n) (empty-kept (Context.in_schema (suc n)))

  pub empty-agrees : (x : Context) → Agree (Passed x) (on_empty m (seen t) (in_context x r) x) (decided_empty m (seen t) (mode_of (in_context x r)) (head_tag x))
  unfolding on_empty decided_empty mode_of in_context head_tag context_number nesting extension_flag with_content
  empty-agrees Context.no_context = values empty_outside-agrees
  empty-agrees (Context.in_schema n) = values (empty_in_schema-agrees n)
  empty-agrees (Context.in_simple_type b) = agree_then _ (λ b' a h. changed-empty by_standard t r h.nesting h.changed) (empty_in_simple-agrees (seen t) b)
  empty-agrees (Context.in_complex_type b) =
      agree_then _ (λ c a h. changed-empty by_standard t r refl h) (empty_in_complex-agrees b.head.event b.head.name b.nesting_depth b.nesting_depth (seen t) b.content)
