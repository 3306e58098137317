-- Named in docs/PORT.md: heads that pass a test of name and number still do after each step of a start, an empty tag and a close, where of a tag that a head is
-- made of the name passes with the event's number (`handled-makes` and `handled-passes` of Numbers say it of an event); and that each list of records is accepted, or has a first
-- that is refused. No contract cites them. Assumes nothing.
use mathlib.Core.Path.{◌≡◌, refl}
use mathlib.Core.Bool.{Bool, true, false, ◌&&◌, ◌||◌}
use mathlib.Core.Option.{Option, some, none}
use Prim.Native.Nat.{ℕ, zero, suc, ◌+◌}
use native.Mathlib.Omega.{arith}
use mathlib.Core.Logic.{⊎_elim}
use lib.ListN.{length, length-append}
use lib.Dec.{eqb}
use Rattle.text.specs.Text.{Text, every, join}
use Rattle.xsd_types.specs.Types.{Item}
use Rattle.xsd_types.specs.State.{SimpleTypeBuilder, ComplexTypeBuilder, Context, Reader, item_passes, open_passes, heads_pass, State}
use Rattle.xsd_parser.specs.declared.words.Word.{Word}
use Rattle.xsd_parser.specs.Words.{facet_word}
use Rattle.xsd_parser.specs.Seen.{Seen, tag_is}
use Rattle.xsd_parser.specs.Handlers.{in_context, with_item, found_root, kept_element, on_top_level_element, with_base, with_facet, with_content, open_simple_type, ok}
use Rattle.xsd_parser.specs.Handlers.{open_complex_type, below_schema, on_direct_child, on_start_in_schema, raised_simple, on_start_in_simple_type, raised_complex}
use Rattle.xsd_parser.specs.Handlers.{on_start_in_complex_type, on_start, facet_value, facet_by_word, on_empty_in_simple_type, close_simple_type}
use Rattle.xsd_parser.specs.Handlers.{close_complex_type}
use Rattle.xsd_parser.proofs.Laws.Outcomes.{Gives, value, Any, gives-if, gives-and_then, gives-name, gives-facet, gives-any, outcome-cases}
use Rattle.xsd_types.proofs.Laws.Events.{passing-parts}
use Rattle.text.proofs.Laws.Tests.{and-true, if-either, bool_cases}
use Rattle.text.proofs.Laws.Every.{every-one-more}
use mathlib.Core.List.{List, [], ◌∷◌, ◌++◌, append-nil}
use Rattle.sheet.specs.Rows.{names_of, row}
use Rattle.sheet.proofs.Laws.Packs.{names_of-append}
use Rattle.xsd_types.specs.Rows.{namespace_row, items_rows, context_rows, rows_of, rows_used, names_used}
use Rattle.sheet.specs.Lengths.{Lengths}
use Rattle.xsd_parser.specs.Event.{Event}
use Rattle.xsd_parser.specs.Tape.{Judged, event, refused, records}
use Rattle.xsd_parser.specs.Read.{read_state}
use Rattle.xsd_parser.specs.Pieces.{read_pieces}
use Rattle.xsd_parser.specs.Whole.{all_events, whole_records}
use Rattle.xsd_parser.proofs.Laws.Answers.{reading-number}
use Rattle.xsd_parser.proofs.Laws.Reads.{read_state-place}
use Rattle.xsd_parser.proofs.Laws.Cut.{cut-accepted}
use Rattle.xsd_parser.proofs.Laws.CutRefused.{events-whole_from}
use Rattle.xsd_parser.proofs.Laws.Pieces.{cut-pieces}
use Rattle.xsd_parser.specs.Step.{step}
use Rattle.xsd_parser.specs.Accepted.{Accepted, none_left, one_more, Refused, by_form, by_state}

-- each list of records is one or the other: all are accepted, or a first one is refused
pub data Viewed (lent : Lengths) (s : State) : List Judged → Type 0 where
  all_accepted : {js : List Judged} {s₁ : State} → Accepted lent s js s₁ → Viewed lent s js
  first_refused : {js : List Judged} {j : Judged} {k : ℕ} {s₁ : State} (rest : List Judged) → Accepted lent s js s₁ → Refused lent s₁ j k → Viewed lent s (js ++ j ∷ rest)

pub view-more : {lent : Lengths} {s x : State} {e : Event} {js : List Judged} → step lent s e ≡ ok x → Viewed lent x js → Viewed lent s (event e ∷ js)
view-more q (all_accepted a) = all_accepted (one_more q a)
view-more q (first_refused rest a r) = first_refused rest (one_more q a) r

pub records-view : (lent : Lengths) (s : State) (js : List Judged) → Viewed lent s js
records-view lent s [] = all_accepted none_left
records-view lent s (refused k ∷ js) = first_refused js none_left by_form
records-view lent s (event e ∷ js) =
    outcome-cases (step lent s e) (λ x q. view-more q (records-view lent x js)) (λ k q. first_refused js none_left (by_state q))

module _ (p : Text → ℕ → Bool) where
  abbrev pub Passing : Reader → Type 0
  Passing r = heads_pass p r ≡ true

  -- another context, one item more, the namespace anew
  context-passes : (r : Reader) (x : Context) → Passing r → open_passes p x ≡ true → Passing (in_context x r)
  unfolding heads_pass in_context
  context-passes r x h k = and-true (passing-parts p r h).0 k

  item-passes : (r : Reader) (i : Item) → Passing r → item_passes p i ≡ true → Passing (with_item i r)
  unfolding heads_pass with_item
  item-passes r i h k = and-true (every-one-more (item_passes p) r.schema.items i (passing-parts p r h).0 k) (passing-parts p r h).1

  root-passes : (t : Seen) (r : Reader) → Passing r → Passing (found_root t r)
  unfolding heads_pass found_root
  root-passes t r h = h

  module _ (n : ℕ) where
    -- the name at hand passes with the number
    abbrev pub Named : Option Text → Type 0
    Named name = (v : Text) → name ≡ some v → p v n ≡ true

    -- where the tag at hand is one that a head is made of
    abbrev pub Naming : Bool → Option Text → Type 0
    Naming made name = made ≡ true → Named name

    abbrev pub starts : Seen → Bool
    starts t = tag_is t Word.SimpleType || tag_is t Word.ComplexType || tag_is t Word.Element

    kept-passes : (name type_name : Option Text) (r : Reader) → Named name → Passing r → Passing (kept_element n name type_name r)
    unfolding kept_element item_passes
    kept-passes none type_name r k h = h
    kept-passes (some name) none r k h = h
    kept-passes (some name) (some type_name) r k h = item-passes r _ h (k name refl)

    top-passes : (t : Seen) (r : Reader) → Named t.name → Passing r → Passing (on_top_level_element n t r)
    unfolding on_top_level_element
    top-passes t r k h = kept-passes t.name t.type_name r k h

    below-passes : (by_standard : Bool) (depth : ℕ) (r : Reader) → Passing r → Passing (below_schema by_standard depth r)
    unfolding below_schema open_passes
    below-passes false depth r h = h
    below-passes true depth r h = context-passes r _ h refl

    pub direct_child-passes : (by_standard : Bool) (t : Seen) (r : Reader) → Naming (starts t) t.name → Passing r → Gives Passing Any (on_direct_child by_standard n t r)
    unfolding on_direct_child open_passes open_simple_type open_complex_type
    direct_child-passes b t r k h =
        bool_cases (tag_is t Word.SimpleType) (λ a. rw a (gives-name t _ (λ v q. context-passes r _ h (k (rw a) v q)) tt))
        (λ a. bool_cases (tag_is t Word.ComplexType) (λ c. rw (a, c) (gives-name t _ (λ v q. context-passes r _ h (k (rw (a, c)) v q)) tt))
        (λ c. bool_cases (tag_is t Word.Element) (λ d. rw (a, c, d) (value (below-passes b 0 _ (top-passes t r (k (rw (a, c, d))) h)))) (λ d. rw (a, c, d) (value (below-passes b 0 r h)))))

    pub start_in_schema-passes : (by_standard : Bool) (t : Seen) (depth : ℕ) (r : Reader) → Naming (starts t) t.name → Passing r → Gives Passing Any (on_start_in_schema by_standard n t depth r)
    unfolding on_start_in_schema
    start_in_schema-passes b t depth r k h = gives-if (eqb depth 0) (direct_child-passes b t r k h) (value (below-passes b depth r h))

    -- inside a type the open type keeps name and number
    pub start_in_simple-passes : (t : Seen) (b : SimpleTypeBuilder) → p b.head.name b.head.event ≡ true → open_passes p (Context.in_simple_type (on_start_in_simple_type t (raised_simple b))) ≡ true
    unfolding on_start_in_simple_type raised_simple with_base open_passes
    start_in_simple-passes t b h = if-either (λ (x : SimpleTypeBuilder). p x.head.name x.head.event ≡ true) (eqb (suc b.nesting_depth) 1 && tag_is t Word.Restriction) h h

    pub start-passes : (by_standard : Bool) (t : Seen) (r : Reader) (x : Context) → r.context ≡ x → Naming (starts t) t.name → Passing r → Gives Passing Any (on_start by_standard n t r x)
    unfolding on_start open_passes raised_complex with_content
    start-passes s t r Context.no_context q k h =
        value (if-either Passing (tag_is t Word.Schema) (context-passes (found_root t r) (Context.in_schema 0) (root-passes t r h) refl) h)
    start-passes s t r (Context.in_schema depth) q k h = start_in_schema-passes s t depth r k h
    start-passes s t r (Context.in_simple_type b) q k h = value (context-passes r _ h (start_in_simple-passes t b (rw q at (passing-parts p r h).1)))
    start-passes s t r (Context.in_complex_type b) q k h =
        gives-and_then (gives-any (on_start_in_complex_type t (raised_complex b))) λ c u. value (context-passes r _ h (rw q at (passing-parts p r h).1))

    pub empty_in_simple-passes : (t : Seen) (b : SimpleTypeBuilder) → p b.head.name b.head.event ≡ true
        → Gives (λ (x : SimpleTypeBuilder). p x.head.name x.head.event ≡ true) Any (on_empty_in_simple_type t b)
    unfolding on_empty_in_simple_type with_base with_facet
    empty_in_simple-passes t b h =
        gives-if (tag_is t Word.Restriction) (value h) (gives-facet (facet_word t.word) (facet_value t) (with_facet b) b (λ w. gives-any (facet_by_word w (facet_value t))) (λ f u. h) h)

    -- a close: the type is finished with the name and the number that it had
    pub close_simple-passes : (b : SimpleTypeBuilder) (d : ℕ) (r : Reader) → p b.head.name b.head.event ≡ true → Passing r → Passing (close_simple_type b d r)
    unfolding close_simple_type item_passes open_passes
    close_simple-passes b zero r k h = context-passes (with_item _ r) (Context.in_schema 0) (item-passes r _ h k) refl
    close_simple-passes b (suc d) r k h = context-passes r _ h k

    pub close_complex-passes : (b : ComplexTypeBuilder) (d : ℕ) (r : Reader) → p b.head.name b.head.event ≡ true → Passing r → Passing (close_complex_type b d r)
    unfolding close_complex_type item_passes open_passes
    close_complex-passes b zero r k h = context-passes (with_item _ r) (Context.in_schema 0) (item-passes r _ h k) refl
    close_complex-passes b (suc d) r k h = context-passes r _ h k

-- ---- Named in docs/DESIGN-PASS.md

-- a reading on a state never answers 1
pub reading-not-one : (lent : Lengths) (s : State) (text : Text) (marks : List ℕ) → (read_state lent s text marks).answer.number ≡ 1 → ⊥
reading-not-one lent s text marks e = ⊎_elim (λ h. omega arith) (λ h. omega arith) (reading-number lent s text marks)

-- the number in the run of the event that a cut tape stops at, or of the next one, is that of the whole tape
pub cut-number-in-run : (lent : Lengths) (s : State) (text : Text) (m₁ m₂ : List ℕ) → (read_state lent s text m₁).answer.number ≡ 0
    → s.events + (read_state lent s text (m₁ ++ m₂)).answer.place
    ≡ (read_state lent s text m₁).state.events + (read_state lent (read_state lent s text m₁).state text m₂).answer.place
cut-number-in-run lent s text m₁ m₂ h = let k = read_state-place lent s text m₁ in rw (cut-accepted lent s text m₁ m₂ h) (omega arith)

pub pieces-number-in-run : (lent : Lengths) (s : State) (text : Text) (pieces : List (List ℕ)) (last : List ℕ) → every (whole_records text) pieces ≡ true
    → s.events + (read_pieces lent s text (pieces ++ last ∷ [])).answer.place ≡ (read_pieces lent s text (pieces ++ last ∷ [])).state.events
pieces-number-in-run lent s text pieces last w = rw (cut-pieces lent s text pieces last w) at (read_state-place lent s text (join pieces ++ last))

-- a tape whose records are all events is whole
pub events-whole : (text : Text) (marks : List ℕ) → all_events (records text marks) ≡ true → whole_records text marks ≡ true
unfolding records whole_records
events-whole text marks a = events-whole_from (length marks) text marks a

-- a state's rows and bytes are those of the namespace, of the finished items and of the open type
pub rows-parts : (s : State) → rows_used s ≡ 2 + length (items_rows s.reader.schema.items) + length (context_rows s.reader.context)
unfolding rows_used rows_of
rows-parts s = simp length-append (omega arith)

pub names-parts : (s : State) → names_used s
    ≡ length s.reader.schema.target_namespace + length (names_of (items_rows s.reader.schema.items)) + length (names_of (context_rows s.reader.context))
unfolding names_used rows_of names_of namespace_row row join
names-parts s = simp (append-nil, names_of-append, length-append) (omega arith)
