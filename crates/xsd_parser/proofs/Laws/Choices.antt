-- The two choices beside each other. No reading changes the choice. Where directly below the schema only types are started, a step under both choices gives the
-- same: nesting in context 1 stays 0, and the handlers give the same. Assumes nothing.
--     Flat x        nesting is 0 where the context x is the schema's
--     reading_chosen the reading with its state under choice 1
use mathlib.Core.Path.{◌≡◌, refl, sym, ◌∙◌}
use mathlib.Core.Bool.{Bool, true, false, not, ◌&&◌, ◌||◌}
use mathlib.Core.List.{List}
use Prim.Native.Nat.{ℕ, zero, suc}
use native.Mathlib.Omega.{arith}
use lib.Dec.{eqb, ltb}
use Rattle.text.specs.Text.{Text}
use Rattle.text.proofs.Laws.Tests.{bool_cases, if-either}
use Rattle.sheet.specs.Lengths.{Lengths}
use Rattle.xsd_types.specs.Types.{Schema}
use Rattle.xsd_types.specs.State.{SimpleTypeBuilder, ComplexTypeBuilder, Context, Reader, State}
use Rattle.xsd_types.specs.Sheet.{state_fits}
use Rattle.xsd_types.specs.Choice.{chosen}
use Rattle.xsd_types.proofs.Laws.Choice.{fits-chosen}
use Rattle.xsd_parser.specs.declared.words.Word.{Word}
use Rattle.xsd_parser.specs.Event.{Event}
use Rattle.xsd_parser.specs.Seen.{Seen, seen, tag_is}
use Rattle.xsd_parser.specs.Tape.{records}
use Rattle.xsd_parser.specs.Handlers.{Outcome, ok, refuse, ◌and_then◌, in_context, found_root, on_top_level_element, open_simple_type, open_complex_type, below_schema}
use Rattle.xsd_parser.specs.Handlers.{on_direct_child, on_start_in_schema, raised_complex, on_start_in_complex_type, on_start, on_empty_in_simple_type, on_empty_in_complex_type}
use Rattle.xsd_parser.specs.Handlers.{on_empty, close_simple_type, close_complex_type, close_in_schema, on_end}
use Rattle.xsd_parser.specs.Step.{handled, tags_after, counted, room_for, step}
use Rattle.xsd_parser.specs.Read.{Reading, read_state}
use Rattle.xsd_parser.specs.Children.{starts_no_other}
use Rattle.xsd_parser.proofs.Laws.Outcomes.{Gives, value, Any, gives-if, gives-and_then, gives-name, gives-any}
use Rattle.xsd_parser.proofs.Laws.EventTexts.{events-are-text}
use Rattle.xsd_parser.proofs.Laws.Steps.{step-choice}
use Rattle.xsd_parser.proofs.Laws.Reads.{reads-keep}
use Rattle.xsd_parser.proofs.Laws.Children.{depth_in, at, kept-context}

-- "kept as the last number of row 0"
pub read_state-choice : (lent : Lengths) (s : State) (text : Text) (marks : List ℕ) → (read_state lent s text marks).state.by_standard ≡ s.by_standard
unfolding read_state
read_state-choice lent s text marks =
    reads-keep (λ x. x.by_standard ≡ s.by_standard) lent (λ x e y h p q. step-choice lent x e y q ∙ p) 0 s (records text marks) (events-are-text text marks) refl

-- ---- one event under both choices

abbrev pub Flat : Context → Type 0
Flat Context.no_context = Unit {0}
Flat (Context.in_schema n) = n ≡ 0
Flat (Context.in_simple_type t) = Unit {0}
Flat (Context.in_complex_type t) = Unit {0}

-- what is asked of an event at a depth
abbrev pub NoOther : ℕ → Event → Type 0
NoOther depth e = not (eqb depth 1) || starts_no_other e ≡ true

pub child-same : (m : ℕ) (t : Seen) (r : Reader) → tag_is t Word.SimpleType || tag_is t Word.ComplexType ≡ true → on_direct_child true m t r ≡ on_direct_child false m t r
unfolding on_direct_child
child-same m t r e =
    bool_cases (tag_is t Word.SimpleType) (λ h. rw h) (λ h. let c : tag_is t Word.ComplexType ≡ true = rw h at e in rw (h, c))

pub start-same : (m : ℕ) (t : Seen) (r : Reader) (x : Context) → Flat x → (not (eqb (depth_in x) 1) || (tag_is t Word.SimpleType || tag_is t Word.ComplexType) ≡ true)
    → on_start true m t r x ≡ on_start false m t r x
unfolding on_start on_start_in_schema starts_no_other
start-same m t r Context.no_context f c = refl
start-same m t r (Context.in_schema zero) f c = child-same m t r c
start-same m t r (Context.in_schema (suc n)) f c = absurd (omega arith)
start-same m t r (Context.in_simple_type b) f c = refl
start-same m t r (Context.in_complex_type b) f c = refl

pub handled-same : (m : ℕ) (e : Event) (r : Reader) → Flat r.context → NoOther (depth_in r.context) e → handled true m e r ≡ handled false m e r
unfolding handled starts_no_other
handled-same m (Event.start t) r f c = start-same m (seen t) r r.context f c
handled-same m (Event.empty t) r f c = refl
handled-same m Event.close r f c = refl

-- with choice 0 nesting in context 1 stays 0
abbrev pub FlatIn : Reader → Type 0
FlatIn r = Flat r.context

module _ (m : ℕ) (s : Schema) (root : Bool) where
  pub child-flat : (t : Seen) → Gives FlatIn Any (on_direct_child false m t (at s root (Context.in_schema 0)))
  unfolding on_direct_child in_context open_simple_type open_complex_type below_schema on_top_level_element
  child-flat t =
      gives-if (tag_is t Word.SimpleType) (gives-name t _ (λ v q. tt) tt)
      (gives-if (tag_is t Word.ComplexType) (gives-name t _ (λ v q. tt) tt)
      (gives-if (tag_is t Word.Element) (value (rw (kept-context m t.name t.type_name (at s root (Context.in_schema 0))) refl)) (value refl)))

  pub start-flat : (t : Seen) (x : Context) → Flat x → Gives FlatIn Any (on_start false m t (at s root x) x)
  unfolding on_start on_start_in_schema in_context found_root
  start-flat t Context.no_context f = value (if-either FlatIn (tag_is t Word.Schema) refl tt)
  start-flat t (Context.in_schema zero) f = child-flat t
  start-flat t (Context.in_schema (suc n)) f = absurd (omega arith)
  start-flat t (Context.in_simple_type b) f = value tt
  start-flat t (Context.in_complex_type b) f = gives-and_then (gives-any (on_start_in_complex_type t (raised_complex b))) λ c q. value tt

  pub empty-flat : (t : Seen) (x : Context) → Flat x → Gives FlatIn Any (on_empty m t (at s root x) x)
  unfolding on_empty on_top_level_element in_context found_root
  empty-flat t Context.no_context f = value (if-either FlatIn (tag_is t Word.Schema) tt tt)
  empty-flat t (Context.in_schema n) f =
      let r = at s root (Context.in_schema n) in
      value (if-either FlatIn (eqb n 0 && tag_is t Word.Element) {x = on_top_level_element m t r} {y = r} (rw (kept-context m t.name t.type_name r) f) f)
  empty-flat t (Context.in_simple_type b) f = gives-and_then (gives-any (on_empty_in_simple_type t b)) λ c q. value tt
  empty-flat t (Context.in_complex_type b) f = gives-and_then (gives-any (on_empty_in_complex_type t b.content)) λ c q. value tt

  pub close_simple-flat : (b : SimpleTypeBuilder) (d : ℕ) → FlatIn (close_simple_type b d (at s root (Context.in_simple_type b)))
  unfolding close_simple_type in_context
  close_simple-flat b zero = refl
  close_simple-flat b (suc d) = tt

  pub close_complex-flat : (b : ComplexTypeBuilder) (d : ℕ) → FlatIn (close_complex_type b d (at s root (Context.in_complex_type b)))
  unfolding close_complex_type in_context
  close_complex-flat b zero = refl
  close_complex-flat b (suc d) = tt

  pub close-flat : (x : Context) → Flat x → FlatIn (on_end (at s root x) x)
  unfolding on_end close_in_schema in_context
  close-flat Context.no_context f = tt
  close-flat (Context.in_schema zero) f = tt
  close-flat (Context.in_schema (suc n)) f = absurd (omega arith)
  close-flat (Context.in_simple_type b) f = close_simple-flat b b.nesting_depth
  close-flat (Context.in_complex_type b) f = close_complex-flat b b.nesting_depth

pub handled-flat : (m : ℕ) (e : Event) (r : Reader) → FlatIn r → Gives FlatIn Any (handled false m e r)
unfolding handled
handled-flat m (Event.start t) r f = start-flat m r.schema r.root_seen (seen t) r.context f
handled-flat m (Event.empty t) r f = empty-flat m r.schema r.root_seen (seen t) r.context f
handled-flat m Event.close r f = value (close-flat m r.schema r.root_seen r.context f)

-- ---- one step under both choices

abbrev pub standardly : State → Outcome State
standardly x = ok (chosen true x)

pub then-maps : {A B C : Type 0} (o : Outcome A) (f : A → Outcome C) (g : A → Outcome B) (h : B → Outcome C)
    → ((x : A) → f x ≡ g x and_then h) → o and_then f ≡ (o and_then g) and_then h
unfolding ◌and_then◌
then-maps (ok x) f g h k = k x
then-maps (refuse r) f g h k = refl

pub room-chosen : (lent : Lengths) (s : State) → room_for lent (chosen true s) ≡ room_for lent (chosen false s) and_then standardly
unfolding room_for ◌and_then◌ chosen
room-chosen lent s =
    let r = lent.rows in
    let n = lent.names in
    bool_cases (state_fits r n s)
    (λ h. rw (fits-chosen true s r n ∙ h, fits-chosen false s r n ∙ h))
    (λ h. rw (fits-chosen true s r n ∙ h, fits-chosen false s r n ∙ h))

pub step-chosen : (lent : Lengths) (s : State) (e : Event) → FlatIn s.reader → NoOther (depth_in s.reader.context) e
    → step lent (chosen true s) e ≡ step lent (chosen false s) e and_then standardly
unfolding step counted chosen ◌and_then◌
step-chosen lent s e f c =
    bool_cases (ltb s.events 1000000)
    (λ h. rw h (then-maps (tags_after e s.open_tags) _ _ standardly (λ o.
    rw (handled-same s.events e s.reader f c) (then-maps (handled false s.events e s.reader) _ _ standardly (λ r. room-chosen lent (counted s o r))))))
    (λ h. rw h)

-- ---- a reading under both choices

abbrev pub reading_chosen : Reading → Reading
reading_chosen r = record { answer = r.answer; state = chosen true r.state }

pub chosen-same : (s : State) → s.by_standard ≡ false → chosen false s ≡ s
unfolding chosen
chosen-same s e = λ i. record { reader = s.reader; events = s.events; open_tags = s.open_tags; by_standard = sym e i }
