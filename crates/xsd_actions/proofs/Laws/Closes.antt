-- What a close does is what was decided: it lowers the nesting, or at 0 the open type's rows are those of the finished item. Assumes nothing.
use mathlib.Core.Path.{◌≡◌, refl, sym, ◌∙◌}
use mathlib.Core.Bool.{Bool, false, and-false}
use mathlib.Core.List.{List, ◌++◌}
use Prim.Native.Nat.{ℕ, zero, suc, ◌-◌}
use native.Mathlib.Omega.{arith}
use lib.Dec.{eqb, eqb-suc-zero}
use Rattle.text.specs.Text.{Text}
use Rattle.sheet.specs.Rows.{Row, row}
use Rattle.xsd_types.specs.Types.{Facet, Item}
use Rattle.xsd_types.specs.State.{ComplexContentBuilder, Context, Reader, started, finish}
use Rattle.xsd_types.specs.Rows.{complex_type_rows, item_rows, items_rows, context_rows, context_number, nesting, content_flag, extension_flag}
use Rattle.xsd_parser.specs.Event.{Event}
use Rattle.xsd_parser.specs.Handlers.{in_context, with_item, close_simple_type, close_complex_type, close_in_schema, on_end}
use Rattle.xsd_actions.specs.declared.Mode.{Mode}
use Rattle.xsd_actions.specs.Actions.{Action, mode_of, content_tag, head_tag, reader_rows, close_mode, mode_after, namespace_after, rows_after, head_with, first_text, Fitting, Acted}
use Rattle.xsd_actions.specs.Decided.{decided_close}
use Rattle.xsd_actions.proofs.Laws.Changes.{Inner, inner-namespace, changed-keep, changed-acted}
use Rattle.xsd_actions.proofs.Laws.Contents.{complex_of, head-named}
use Rattle.xsd_actions.proofs.Laws.Tops.{top, items-behind, no-type}

-- above 0 the nesting is lowered
pub mode-lowered : (k n : ℕ) (seen flag : Bool)
    → record { context = k; nesting = n; root_seen = seen; extension = flag }
    ≡ close_mode (record { context = k; nesting = suc n; root_seen = seen; extension = flag })
unfolding close_mode
mode-lowered k n seen flag = let p : suc n - 1 ≡ n = omega arith in rw (eqb-suc-zero n, p)

pub decided-lowered : (n head : ℕ) (m : Mode) → m.nesting ≡ suc n → decided_close m head ≡ Action.keep
unfolding decided_close
decided-lowered n head m q = rw (q, eqb-suc-zero n, and-false (eqb head 16))

-- the context of an open simple type
abbrev pub simple_of : ℕ → Text → Text → List Facet → ℕ → Context
simple_of event name base facets d = Context.in_simple_type (record { head = record { name = name; event = event }; base = base; facets = facets; nesting_depth = d })

module _ (by_standard : Bool) (r : Reader) where
  -- outside the schema, and in it
  pub close-outside : Acted by_standard Event.close (in_context Context.no_context r) Action.keep (in_context Context.no_context r)
  unfolding in_context mode_of mode_after close_mode context_number nesting
  close-outside = changed-acted by_standard Event.close r refl (changed-keep refl refl refl)

  pub close-schema : (n : ℕ) → Acted by_standard Event.close (top n r) Action.keep (close_in_schema n (top n r))
  unfolding in_context close_in_schema mode_of mode_after close_mode reader_rows context_rows context_number nesting extension_flag namespace_after rows_after Fitting
  close-schema zero = record { mode = refl; namespace = refl; rows = refl; items = λ h. refl; fitting = tt }
  close-schema (suc n) = changed-acted by_standard Event.close r (mode-lowered 1 n r.root_seen false) (changed-keep refl refl refl)

  -- at 0: the item's rows stand where the open type's stood
  pub close-finished : (x : Context) (i : Item) {a : Action} → Inner a → mode_of (top 0 r) ≡ close_mode (mode_of (in_context x r))
      → ((done : List Row) → done ++ item_rows i ≡ rows_after a done (context_rows x)) → Fitting a (context_rows x)
      → Acted by_standard Event.close (in_context x r) a (top 0 (with_item i (in_context x r)))
  unfolding in_context with_item mode_of mode_after reader_rows context_rows context_number
  close-finished x i q m h f =
      record {
        mode = m;
        namespace = sym (inner-namespace r.schema.target_namespace q);
        rows = items-behind r.schema.items i ∙ h (items_rows r.schema.items);
        items = no-type;
        fitting = f;
      }

  -- a simple type, at 0 and above
  pub close_simple-acted : (event : ℕ) (name base : Text) (facets : List Facet) (d : ℕ)
      → Acted by_standard Event.close (in_context (simple_of event name base facets d) r) Action.keep
      (close_simple_type (record { head = record { name = name; event = event }; base = base; facets = facets; nesting_depth = d }) d (in_context (simple_of event name base facets d) r))
  unfolding close_simple_type in_context item_rows context_rows context_number nesting extension_flag mode_of mode_after close_mode rows_after Fitting
  close_simple-acted event name base facets zero =
      close-finished (simple_of event name base facets 0) (Item.simple_type (record { name = name; base = base; facets = facets; event = event })) Inner.keep refl (λ done. refl) tt
  close_simple-acted event name base facets (suc n) = changed-acted by_standard Event.close r (mode-lowered 2 n r.root_seen false) (changed-keep refl refl refl)

  -- "Content still absent at the close becomes 15 with a = 0."
  pub finished-acted : (event : ℕ) (name : Text) (c : ComplexContentBuilder)
      → Acted by_standard Event.close (in_context (complex_of event name c 0) r) (decided_close (mode_of (in_context (complex_of event name c 0) r)) (content_tag c))
      (close_complex_type (record { head = record { name = name; event = event }; content = c; nesting_depth = 0 }) 0 (in_context (complex_of event name c 0) r))
  unfolding close_complex_type decided_close content_tag started finish in_context item_rows context_rows context_number nesting extension_flag mode_of close_mode rows_after Fitting
      complex_type_rows head_with first_text row
  finished-acted event name ComplexContentBuilder.empty = close-finished _ _ Inner.content refl (λ done. refl) (head-named event name ComplexContentBuilder.empty)
  finished-acted event name (ComplexContentBuilder.sequence es) = close-finished _ _ Inner.keep refl (λ done. refl) tt
  finished-acted event name (ComplexContentBuilder.choice vs) = close-finished _ _ Inner.keep refl (λ done. refl) tt
  finished-acted event name (ComplexContentBuilder.simple_content base xs flag) = close-finished _ _ Inner.keep refl (λ done. refl) tt
  finished-acted event name (ComplexContentBuilder.any n) = close-finished _ _ Inner.keep refl (λ done. refl) tt

  -- a complex type above 0, at any nesting, and any context
  pub complex-lowered : (event : ℕ) (name : Text) (c : ComplexContentBuilder) (n : ℕ)
      → Acted by_standard Event.close (in_context (complex_of event name c (suc n)) r) Action.keep (in_context (complex_of event name c n) r)
  unfolding in_context mode_of mode_after context_rows context_number nesting extension_flag
  complex-lowered event name c n = changed-acted by_standard Event.close r (mode-lowered 3 n r.root_seen (eqb (content_flag c) 1)) (changed-keep refl refl refl)

  pub close_complex-acted : (event : ℕ) (name : Text) (c : ComplexContentBuilder) (d : ℕ)
      → Acted by_standard Event.close (in_context (complex_of event name c d) r) (decided_close (mode_of (in_context (complex_of event name c d) r)) (content_tag c))
      (close_complex_type (record { head = record { name = name; event = event }; content = c; nesting_depth = d }) d (in_context (complex_of event name c d) r))
  unfolding close_complex_type in_context mode_of nesting
  close_complex-acted event name c zero = finished-acted event name c
  close_complex-acted event name c (suc n) = rw (decided-lowered n (content_tag c) (mode_of (in_context (complex_of event name c (suc n)) r)) refl) (complex-lowered event name c n)

  pub close-acted : (x : Context) → Acted by_standard Event.close (in_context x r) (decided_close (mode_of (in_context x r)) (head_tag x)) (on_end (in_context x r) x)
  unfolding on_end head_tag decided_close
  close-acted Context.no_context = close-outside
  close-acted (Context.in_schema n) = close-schema n
  close-acted (Context.in_simple_type b) = close_simple-acted b.head.event b.head.name b.base b.facets b.nesting_depth
  close-acted (Context.in_complex_type b) = close_complex-acted b.head.event b.head.name b.content b.nesting_depth
