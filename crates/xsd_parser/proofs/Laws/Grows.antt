-- Items are only added: after every event, and after every reading, the finished items are those of before with more behind them. Assumes nothing.
use mathlib.Core.Path.{◌≡◌, sym, ap, ◌∙◌}
use mathlib.Core.Bool.{Bool, true, false, ◌&&◌}
use mathlib.Core.List.{List, [], ◌∷◌, ◌++◌, append-nil, append_assoc}
use mathlib.Core.Option.{Option, some, none}
use Prim.Native.Nat.{ℕ, zero, suc}
use lib.Dec.{eqb}
use Rattle.text.specs.Text.{Text}
use Rattle.text.proofs.Laws.Tests.{if-either}
use Rattle.sheet.specs.Lengths.{Lengths}
use Rattle.xsd_types.specs.Types.{Item}
use Rattle.xsd_types.specs.State.{SimpleTypeBuilder, ComplexTypeBuilder, Context, Reader, State}
use Rattle.xsd_parser.specs.declared.words.Word.{Word}
use Rattle.xsd_parser.specs.Event.{Event}
use Rattle.xsd_parser.specs.Seen.{Seen, seen, tag_is}
use Rattle.xsd_parser.specs.Tape.{records}
use Rattle.xsd_parser.specs.Handlers.{in_context, with_item, found_root, kept_element, on_top_level_element, below_schema, on_direct_child, on_start_in_schema, raised_complex}
use Rattle.xsd_parser.specs.Handlers.{on_start_in_complex_type, on_start, on_empty_in_simple_type, on_empty_in_complex_type, on_empty, close_simple_type, close_complex_type}
use Rattle.xsd_parser.specs.Handlers.{close_in_schema, on_end}
use Rattle.xsd_parser.specs.Step.{handled}
use Rattle.xsd_parser.specs.Read.{read_state}
use Rattle.xsd_parser.proofs.Laws.EventTexts.{events-are-text}
use Rattle.xsd_parser.proofs.Laws.Outcomes.{Gives, value, Any, gives-if, gives-and_then, gives-name, gives-value, gives-any}
use Rattle.xsd_parser.proofs.Laws.Steps.{step-reader}
use Rattle.xsd_parser.proofs.Laws.Reads.{reads-keep}

module _ (is : List Item) where
  -- the reader's items are these with more behind them
  abbrev pub Grown : Reader → Type 0
  Grown r = (more : List Item) × (r.schema.items ≡ is ++ more)

  context-grows : (r : Reader) (x : Context) → Grown r → Grown (in_context x r)
  unfolding in_context
  context-grows r x h = h

  item-grows : (r : Reader) (i : Item) → Grown r → Grown (with_item i r)
  unfolding with_item
  item-grows r i h = (h.0 ++ i ∷ [], ap (λ (l : List Item). l ++ i ∷ []) h.1 ∙ append_assoc is h.0 (i ∷ []))

  root-grows : (t : Seen) (r : Reader) → Grown r → Grown (found_root t r)
  unfolding found_root
  root-grows t r h = h

  kept-grows : (n : ℕ) (name type_name : Option Text) (r : Reader) → Grown r → Grown (kept_element n name type_name r)
  unfolding kept_element
  kept-grows n none type_name r h = h
  kept-grows n (some name) none r h = h
  kept-grows n (some name) (some type_name) r h = item-grows r _ h

  top-grows : (n : ℕ) (t : Seen) (r : Reader) → Grown r → Grown (on_top_level_element n t r)
  unfolding on_top_level_element
  top-grows n t r h = kept-grows n t.name t.type_name r h

  below-grows : (by_standard : Bool) (depth : ℕ) (r : Reader) → Grown r → Grown (below_schema by_standard depth r)
  unfolding below_schema
  below-grows false depth r h = h
  below-grows true depth r h = context-grows r _ h

  child-grows : (by_standard : Bool) (n : ℕ) (t : Seen) (r : Reader) → Grown r → Gives Grown Any (on_direct_child by_standard n t r)
  unfolding on_direct_child
  child-grows b n t r h =
      gives-if (tag_is t Word.SimpleType) (gives-name t _ (λ v q. context-grows r _ h) tt)
      (gives-if (tag_is t Word.ComplexType) (gives-name t _ (λ v q. context-grows r _ h) tt)
      (gives-if (tag_is t Word.Element) (value (below-grows b 0 _ (top-grows n t r h))) (value (below-grows b 0 r h))))

  start-grows : (by_standard : Bool) (n : ℕ) (t : Seen) (r : Reader) (x : Context) → Grown r → Gives Grown Any (on_start by_standard n t r x)
  unfolding on_start on_start_in_schema
  start-grows b n t r Context.no_context h = value (if-either Grown (tag_is t Word.Schema) (context-grows (found_root t r) (Context.in_schema 0) (root-grows t r h)) h)
  start-grows b n t r (Context.in_schema depth) h = gives-if (eqb depth 0) (child-grows b n t r h) (value (below-grows b depth r h))
  start-grows b n t r (Context.in_simple_type y) h = value (context-grows r _ h)
  start-grows b n t r (Context.in_complex_type y) h = gives-and_then (gives-any (on_start_in_complex_type t (raised_complex y))) λ c u. value (context-grows r _ h)

  empty-grows : (n : ℕ) (t : Seen) (r : Reader) (x : Context) → Grown r → Gives Grown Any (on_empty n t r x)
  unfolding on_empty
  empty-grows n t r Context.no_context h = value (if-either Grown (tag_is t Word.Schema) (root-grows t r h) h)
  empty-grows n t r (Context.in_schema depth) h = value (if-either Grown (eqb depth 0 && tag_is t Word.Element) (top-grows n t r h) h)
  empty-grows n t r (Context.in_simple_type y) h = gives-and_then (gives-any (on_empty_in_simple_type t y)) λ c u. value (context-grows r _ h)
  empty-grows n t r (Context.in_complex_type y) h = gives-and_then (gives-any (on_empty_in_complex_type t y.content)) λ c u. value (context-grows r _ h)

  -- a close finishes a type, or ends nothing
  simple-grows : (b : SimpleTypeBuilder) (d : ℕ) (r : Reader) → Grown r → Grown (close_simple_type b d r)
  unfolding close_simple_type
  simple-grows b zero r h = context-grows (with_item _ r) (Context.in_schema 0) (item-grows r _ h)
  simple-grows b (suc d) r h = context-grows r _ h

  complex-grows : (b : ComplexTypeBuilder) (d : ℕ) (r : Reader) → Grown r → Grown (close_complex_type b d r)
  unfolding close_complex_type
  complex-grows b zero r h = context-grows (with_item _ r) (Context.in_schema 0) (item-grows r _ h)
  complex-grows b (suc d) r h = context-grows r _ h

  close-grows : (r : Reader) (x : Context) → Grown r → Grown (on_end r x)
  unfolding on_end close_in_schema
  close-grows r Context.no_context h = h
  close-grows r (Context.in_schema zero) h = context-grows r Context.no_context h
  close-grows r (Context.in_schema (suc depth)) h = context-grows r (Context.in_schema depth) h
  close-grows r (Context.in_simple_type b) h = simple-grows b b.nesting_depth r h
  close-grows r (Context.in_complex_type b) h = complex-grows b b.nesting_depth r h

  handled-grows : (by_standard : Bool) (n : ℕ) (e : Event) (r : Reader) → Grown r → Gives Grown Any (handled by_standard n e r)
  unfolding handled
  handled-grows b n (Event.start t) r h = start-grows b n (seen t) r r.context h
  handled-grows b n (Event.empty t) r h = empty-grows n (seen t) r r.context h
  handled-grows b n Event.close r h = value (close-grows r r.context h)

-- over a tape
pub items-grow : (lent : Lengths) (s : State) (text : Text) (marks : List ℕ) → Grown s.reader.schema.items (read_state lent s text marks).state.reader
unfolding read_state
items-grow lent s text marks =
    let is = s.reader.schema.items in
    reads-keep (λ (x : State). Grown is x.reader) lent
    (λ x e y k h q. gives-value (handled-grows is x.by_standard x.events e x.reader h) (step-reader lent x e y q)) 0 s (records text marks)
    (events-are-text text marks)
    ([], sym (append-nil is))
