-- Reading without numbers: from a state whose numbers are cleared, reading as it was before order 5 gives the same answer, and the state reached is the one
-- that is reached with the numbers, cleared. The handlers look at no number. Assumes nothing.
use mathlib.Core.Path.{◌≡◌, refl, sym, ap, ◌∙◌}
use mathlib.Core.Bool.{Bool, true, false, ◌&&◌}
use mathlib.Core.List.{List, [], ◌∷◌, map, map-append}
use mathlib.Core.Option.{Option, some, none}
use Prim.Native.Nat.{ℕ, zero, suc}
use lib.Dec.{eqb, ltb}
use Rattle.text.specs.Text.{Text}
use Rattle.text.proofs.Laws.Tests.{if-in}
use Rattle.sheet.specs.Lengths.{Lengths}
use Rattle.sheet.specs.Rows.{Row, row}
use Rattle.xsd_types.specs.Types.{Item, Facet}
use Rattle.xsd_types.specs.State.{SimpleTypeBuilder, ComplexTypeBuilder, Context, Reader, State}
use Rattle.xsd_types.specs.Rows.{rows_of}
use Rattle.xsd_types.specs.Sheet.{state_fits}
use Rattle.xsd_types.specs.Unnumbered.{cleared_row, unnumbered_item, unnumbered_head, unnumbered_simple, unnumbered_complex, unnumbered_context, unnumbered_schema, unnumbered_reader, unnumbered}
use Rattle.xsd_types.proofs.Laws.Unnumbered.{rows-cleared}
use Rattle.xsd_parser.specs.declared.words.Word.{Word}
use Rattle.xsd_parser.specs.declared.words.FacetWord.{FacetWord}
use Rattle.xsd_parser.specs.Words.{facet_word}
use Rattle.xsd_parser.specs.Event.{Event}
use Rattle.xsd_parser.specs.Seen.{Seen, seen, tag_is}
use Rattle.xsd_parser.specs.Tape.{Judged, event, refused, records}
use Rattle.xsd_parser.specs.Handlers.{Outcome, ok, refuse, ◌and_then◌, in_context, with_item, found_root, kept_element, on_top_level_element, require_name, with_base}
use Rattle.xsd_parser.specs.Handlers.{with_facet, with_content, open_simple_type, open_complex_type, below_schema, on_direct_child, on_start_in_schema, raised_simple}
use Rattle.xsd_parser.specs.Handlers.{on_start_in_simple_type, raised_complex, on_start_in_complex_type, on_start, facet_value, facet_by_word, on_facet, on_empty_in_simple_type}
use Rattle.xsd_parser.specs.Handlers.{on_empty_in_complex_type, on_empty, close_simple_type, close_complex_type, close_in_schema, on_end}
use Rattle.xsd_parser.specs.Step.{handled, tags_after, counted, room_for, step}
use Rattle.xsd_parser.specs.Read.{read_records, read_state}
use Rattle.xsd_parser.specs.Numbered.{step_by, read_records_by, read_state_by, unknown_number, unnumbered_reading}
use Rattle.xsd_parser.proofs.Laws.Outcomes.{outcome-cases}
use Rattle.xsd_parser.proofs.Laws.Reads.{read_ok, read-refuse}
use Rattle.xsd_parser.proofs.Laws.CloseRoom.{texts_of, same-room}

-- a value of an outcome changed
unfoldable pub changed : {A B : Type 0} → (A → B) → Outcome A → Outcome B
changed f (ok x) = ok (f x)
changed f (refuse r) = refuse r

changed-name : {A B : Type 0} (f : A → B) (t : Seen) (g : Text → A) → changed f (require_name t g) ≡ require_name t (λ v. f (g v))
unfolding require_name changed
changed-name f t g = elim t.name as (λ o. changed f (elim o [ none ↦ refuse 9 | some v ↦ ok (g v) ]) ≡ elim o [ none ↦ refuse 9 | some v ↦ ok (f (g v)) ]) [ none ↦ refl | some v ↦ refl ]

changed_then : {A B C : Type 0} (f : B → C) (o : Outcome A) (g : A → Outcome B) → changed f (o and_then g) ≡ (o and_then (λ x. changed f (g x)))
unfolding ◌and_then◌ changed
changed_then f (ok x) g = refl
changed_then f (refuse r) g = refl

then-changed : {A B C : Type 0} (f : A → B) (o : Outcome A) (g : B → Outcome C) → (changed f o and_then g) ≡ (o and_then (λ x. g (f x)))
unfolding ◌and_then◌ changed
then-changed f (ok x) g = refl
then-changed f (refuse r) g = refl

changed-facet : {A B : Type 0} (f : A → B) (o : Option FacetWord) (v : Text) (g : Facet → A) (x : A) → changed f (on_facet o v g x) ≡ on_facet o v (λ y. f (g y)) (f x)
unfolding on_facet changed
changed-facet f none v g x = refl
changed-facet f (some w) v g x = changed_then f (facet_by_word w v) (λ y. ok (g y))

-- the reader's changes
item-unnumbered : (i : Item) (r : Reader) → unnumbered_reader (with_item i r) ≡ with_item (unnumbered_item i) (unnumbered_reader r)
unfolding unnumbered_reader unnumbered_schema with_item
item-unnumbered i r =
    ap (λ (is : List Item). record {
      schema = record { target_namespace = r.schema.target_namespace; items = is };
      root_seen = r.root_seen;
      context = unnumbered_context
          r.context;
    }) (map-append unnumbered_item r.schema.items (i ∷ []))

kept-unnumbered : (n : ℕ) (name type_name : Option Text) (r : Reader) → unnumbered_reader (kept_element n name type_name r) ≡ kept_element 0 name type_name (unnumbered_reader r)
unfolding kept_element unnumbered_item
kept-unnumbered n none type_name r = refl
kept-unnumbered n (some name) none r = refl
kept-unnumbered n (some name) (some type_name) r = item-unnumbered _ r

module _ (n : ℕ) (t : Seen) where
  top-unnumbered : (r : Reader) → unnumbered_reader (on_top_level_element n t r) ≡ on_top_level_element 0 t (unnumbered_reader r)
  unfolding on_top_level_element
  top-unnumbered r = kept-unnumbered n t.name t.type_name r

  below-unnumbered : (by_standard : Bool) (depth : ℕ) (r : Reader) → unnumbered_reader (below_schema by_standard depth r) ≡ below_schema by_standard depth (unnumbered_reader r)
  unfolding below_schema unnumbered_reader unnumbered_context in_context
  below-unnumbered false depth r = refl
  below-unnumbered true depth r = refl

  direct_child-unnumbered : (by_standard : Bool) (r : Reader) → changed unnumbered_reader (on_direct_child by_standard n t r) ≡ on_direct_child by_standard 0 t (unnumbered_reader r)
  unfolding on_direct_child open_simple_type open_complex_type unnumbered_reader unnumbered_context unnumbered_head unnumbered_simple unnumbered_complex in_context changed
  direct_child-unnumbered b r =
      if-in (changed unnumbered_reader) (tag_is t Word.SimpleType) (changed-name unnumbered_reader t _)
      (if-in (changed unnumbered_reader) (tag_is t Word.ComplexType) (changed-name unnumbered_reader t _)
      (if-in (changed unnumbered_reader) (tag_is t Word.Element) (ap ok (below-unnumbered b 0 (on_top_level_element n t r) ∙ ap (below_schema b 0) (top-unnumbered r)))
      (ap ok (below-unnumbered b 0 r))))

  start_in_schema-unnumbered : (by_standard : Bool) (depth : ℕ) (r : Reader)
      → changed unnumbered_reader (on_start_in_schema by_standard n t depth r) ≡ on_start_in_schema by_standard 0 t depth (unnumbered_reader r)
  unfolding on_start_in_schema changed
  start_in_schema-unnumbered b depth r = if-in (changed unnumbered_reader) (eqb depth 0) (direct_child-unnumbered b r) (ap ok (below-unnumbered b depth r))

  start_in_simple-unnumbered : (b : SimpleTypeBuilder) → unnumbered_simple (on_start_in_simple_type t (raised_simple b)) ≡ on_start_in_simple_type t (raised_simple (unnumbered_simple b))
  unfolding on_start_in_simple_type raised_simple unnumbered_simple with_base
  start_in_simple-unnumbered b = if-in unnumbered_simple (eqb (suc b.nesting_depth) 1 && tag_is t Word.Restriction) refl refl

  start-unnumbered : (by_standard : Bool) (r : Reader) (x : Context) → changed unnumbered_reader (on_start by_standard n t r x) ≡ on_start by_standard 0 t (unnumbered_reader r) (unnumbered_context x)
  unfolding on_start changed unnumbered_reader unnumbered_schema unnumbered_context unnumbered_complex in_context found_root with_content raised_complex on_start_in_complex_type
  start-unnumbered s r Context.no_context = ap ok (if-in unnumbered_reader (tag_is t Word.Schema) refl refl)
  start-unnumbered s r (Context.in_schema depth) = start_in_schema-unnumbered s depth r
  start-unnumbered s r (Context.in_simple_type b) = ap (λ (c : SimpleTypeBuilder). ok (in_context (Context.in_simple_type c) (unnumbered_reader r))) (start_in_simple-unnumbered b)
  start-unnumbered s r (Context.in_complex_type b) = changed_then unnumbered_reader (on_start_in_complex_type t (raised_complex b)) _

  empty_in_simple-unnumbered : (b : SimpleTypeBuilder) → changed unnumbered_simple (on_empty_in_simple_type t b) ≡ on_empty_in_simple_type t (unnumbered_simple b)
  unfolding on_empty_in_simple_type changed unnumbered_simple with_base with_facet
  empty_in_simple-unnumbered b =
      if-in (changed unnumbered_simple) (tag_is t Word.Restriction) refl (changed-facet unnumbered_simple (facet_word t.word) (facet_value t) (with_facet b) b)

  empty-unnumbered : (r : Reader) (x : Context) → changed unnumbered_reader (on_empty n t r x) ≡ on_empty 0 t (unnumbered_reader r) (unnumbered_context x)
  unfolding on_empty changed unnumbered_reader unnumbered_schema unnumbered_context unnumbered_complex in_context found_root with_content
  empty-unnumbered r Context.no_context = ap ok (if-in unnumbered_reader (tag_is t Word.Schema) refl refl)
  empty-unnumbered r (Context.in_schema depth) = ap ok (if-in unnumbered_reader (eqb depth 0 && tag_is t Word.Element) (top-unnumbered r) refl)
  empty-unnumbered r (Context.in_simple_type b) =
      changed_then unnumbered_reader (on_empty_in_simple_type t b) _
      ∙ sym (then-changed unnumbered_simple (on_empty_in_simple_type t b) (λ c. ok (in_context (Context.in_simple_type c) (unnumbered_reader r))))
      ∙ ap (λ (o : Outcome SimpleTypeBuilder). o and_then (λ c. ok (in_context (Context.in_simple_type c) (unnumbered_reader r)))) (empty_in_simple-unnumbered b)
  empty-unnumbered r (Context.in_complex_type b) = changed_then unnumbered_reader (on_empty_in_complex_type t b.content) _

close_simple-unnumbered : (b : SimpleTypeBuilder) (d : ℕ) (r : Reader) → unnumbered_reader (close_simple_type b d r) ≡ close_simple_type (unnumbered_simple b) d (unnumbered_reader r)
unfolding close_simple_type unnumbered_head unnumbered_simple unnumbered_context unnumbered_reader in_context unnumbered_item
close_simple-unnumbered b zero r = ap (in_context (Context.in_schema 0)) (item-unnumbered _ r)
close_simple-unnumbered b (suc d) r = refl

close_complex-unnumbered : (b : ComplexTypeBuilder) (d : ℕ) (r : Reader) → unnumbered_reader (close_complex_type b d r) ≡ close_complex_type (unnumbered_complex b) d (unnumbered_reader r)
unfolding close_complex_type unnumbered_head unnumbered_complex unnumbered_context unnumbered_reader in_context unnumbered_item
close_complex-unnumbered b zero r = ap (in_context (Context.in_schema 0)) (item-unnumbered _ r)
close_complex-unnumbered b (suc d) r = refl

end-unnumbered : (r : Reader) (x : Context) → unnumbered_reader (on_end r x) ≡ on_end (unnumbered_reader r) (unnumbered_context x)
unfolding on_end close_in_schema in_context unnumbered_reader unnumbered_context unnumbered_simple unnumbered_complex
end-unnumbered r Context.no_context = refl
end-unnumbered r (Context.in_schema zero) = refl
end-unnumbered r (Context.in_schema (suc n)) = refl
end-unnumbered r (Context.in_simple_type b) = close_simple-unnumbered b b.nesting_depth r
end-unnumbered r (Context.in_complex_type b) = close_complex-unnumbered b b.nesting_depth r

pub handled-unnumbered : (by_standard : Bool) (n : ℕ) (e : Event) (r : Reader) → changed unnumbered_reader (handled by_standard n e r) ≡ handled by_standard 0 e (unnumbered_reader r)
unfolding handled changed unnumbered_reader
handled-unnumbered s n (Event.start t) r = start-unnumbered n (seen t) s r r.context
handled-unnumbered s n (Event.empty t) r = empty-unnumbered n (seen t) r r.context
handled-unnumbered s n Event.close r = ap ok (end-unnumbered r r.context)

-- a state without numbers needs the same room
texts-cleared : (rs : List Row) → texts_of (map cleared_row rs) ≡ texts_of rs
unfolding cleared_row row
texts-cleared [] = refl
texts-cleared (r ∷ rs) = ap (λ (ts : List (List Text)). r.texts ∷ ts) (texts-cleared rs)

pub room-unnumbered : (rows names : ℕ) (s : State) → state_fits rows names (unnumbered s) ≡ state_fits rows names s
room-unnumbered rows names s = same-room rows names (unnumbered s) s (ap texts_of (sym (rows-cleared s)) ∙ texts-cleared (rows_of s))

room_for-unnumbered : (lent : Lengths) (s : State) → changed unnumbered (room_for lent s) ≡ room_for lent (unnumbered s)
unfolding room_for changed
room_for-unnumbered lent s = rw (room-unnumbered lent.rows lent.names s) (if-in (changed unnumbered) (state_fits lent.rows lent.names s) refl refl)

pub step-unnumbered : (lent : Lengths) (s : State) (e : Event) → changed unnumbered (step lent s e) ≡ step_by unknown_number lent (unnumbered s) e
unfolding step step_by unknown_number unnumbered counted changed
step-unnumbered lent s e =
    if-in (changed unnumbered) (ltb s.events 1000000)
    (changed_then unnumbered (tags_after e s.open_tags) _
    ∙ ap (λ (g : ℕ → Outcome State). tags_after e s.open_tags and_then g) (λ i k.
    (changed_then unnumbered (handled s.by_standard s.events e s.reader) (λ r. room_for lent (counted s k r))
    ∙ ap (λ (g : Reader → Outcome State). handled s.by_standard s.events e s.reader and_then g) (λ j r. room_for-unnumbered lent (counted s k r) j)
    ∙ sym (then-changed unnumbered_reader (handled s.by_standard s.events e s.reader) (λ r. room_for lent (counted (unnumbered s) k r)))
    ∙ ap (λ (o : Outcome Reader). o and_then (λ r. room_for lent (counted (unnumbered s) k r))) (handled-unnumbered s.by_standard s.events e s.reader)) i))
    refl

-- a reading
read_by-ok : (number : ℕ → ℕ) (lent : Lengths) (n : ℕ) (s s' : State) (e : Event) (js : List Judged) → step_by number lent s e ≡ ok s'
    → read_records_by number lent n s (event e ∷ js) ≡ read_records_by number lent (suc n) s' js
unfolding read_records_by
read_by-ok number lent n s s' e js q = rw (q, read_records_by)

read_by-refuse : (number : ℕ → ℕ) (lent : Lengths) (n : ℕ) (s : State) (e : Event) (js : List Judged) (k : ℕ) → step_by number lent s e ≡ refuse k
    → read_records_by number lent n s (event e ∷ js) ≡ record { answer = record { number = k; place = n }; state = s }
unfolding read_records_by
read_by-refuse number lent n s e js k q = rw (q, read_records_by)

pub read_records-unnumbered : (lent : Lengths) (n : ℕ) (s : State) (js : List Judged) → unnumbered_reading (read_records lent n s js) ≡ read_records_by unknown_number lent n (unnumbered s) js
unfolding read_records read_records_by unnumbered_reading changed
read_records-unnumbered lent n s [] = refl
read_records-unnumbered lent n s (refused r ∷ js) = refl
read_records-unnumbered lent n s (event e ∷ js) =
    outcome-cases (step lent s e)
    (λ x q. ap unnumbered_reading (read_ok lent n s x e js q) ∙ read_records-unnumbered lent (suc n) x js
    ∙ sym (read_by-ok unknown_number lent n (unnumbered s) (unnumbered x) e js (sym (step-unnumbered lent s e) ∙ ap (changed unnumbered) q)))
    (λ k q. ap unnumbered_reading (read-refuse lent n s e js k q)
    ∙ sym (read_by-refuse unknown_number lent n (unnumbered s) e js k (sym (step-unnumbered lent s e) ∙ ap (changed unnumbered) q)))

pub read_state-unnumbered : (lent : Lengths) (s : State) (text : Text) (marks : List ℕ)
    → unnumbered_reading (read_state lent s text marks) ≡ read_state_by unknown_number lent (unnumbered s) text marks
unfolding read_state read_state_by
read_state-unnumbered lent s text marks = read_records-unnumbered lent 0 s (records text marks)

-- by the events done the numbered reading is Read's
pub read_records-numbered : (lent : Lengths) (n : ℕ) (s : State) (js : List Judged) → read_records_by (λ k. k) lent n s js ≡ read_records lent n s js
unfolding read_records read_records_by step step_by
read_records-numbered lent n s [] = refl
read_records-numbered lent n s (refused r ∷ js) = refl
read_records-numbered lent n s (event e ∷ js) =
    outcome-cases (step lent s e)
    (λ x q. read_by-ok (λ k. k) lent n s x e js q ∙ read_records-numbered lent (suc n) x js ∙ sym (read_ok lent n s x e js q))
    (λ k q. read_by-refuse (λ k. k) lent n s e js k q ∙ sym (read-refuse lent n s e js k q))
