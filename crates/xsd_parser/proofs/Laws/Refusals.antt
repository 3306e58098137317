-- The numbers of refusals: a record's are 3 to 5, an event's 6 to 11, of which 9 and 10 are the handlers'. Assumes nothing.
--     Within low high k    the number k is one of low to high
use Rattle.std.specs.Prelude.{if◌then◌else◌}
use mathlib.Core.Path.{◌≡◌}
use mathlib.Core.Bool.{Bool, true, false}
use mathlib.Core.List.{List, [], ◌∷◌}
use mathlib.Core.Option.{Option, some, none}
use Prim.Native.Nat.{ℕ, zero, suc, ◌≤◌, ◌*◌, ◌^◌}
use native.Mathlib.Omega.{arith}
use lib.Dec.{eqb, ltb}
use lib.ListN.{length, drop}
use Rattle.sheet.specs.Lengths.{Lengths}
use Rattle.text.specs.Text.{Text}
use Rattle.text.specs.Trim.{trimmed}
use Rattle.number.specs.Number.{Parsed, parsed, refused, number, number_below, plain_below, is_minus_zeros, numeral, below, is_numeral, decimal_value as digits_value, after_plus}
use Rattle.xsd_types.specs.Types.{MaxOccurs, SequenceElement}
use Rattle.xsd_types.specs.State.{SimpleTypeBuilder, ComplexContentBuilder, ComplexTypeBuilder, Context, Reader, State}
use Rattle.xsd_types.specs.Sheet.{state_fits}
use Rattle.xsd_parser.specs.declared.words.Word.{Word}
use Rattle.xsd_parser.specs.declared.words.FacetWord.{FacetWord}
use Rattle.xsd_parser.specs.Words.{facet_word}
use Rattle.xsd_parser.specs.Event.{Event}
use Rattle.xsd_parser.specs.Seen.{Seen, seen, tag_is}
use Rattle.xsd_parser.specs.Tape.{Pair, all_inside, all_ascii, Recorded, finished, bad, form_test, pair_count, pairs_of, tag_record, record1}
use Rattle.xsd_parser.specs.Handlers.{Outcome, refuse, on_parsed, parse_min_occurs, parse_max_occurs, is_unbounded, sequence_element, on_element_inside_complex}
use Rattle.xsd_parser.specs.Handlers.{content_at_two, on_direct_child, on_start_in_schema, on_start_in_complex_type, raised_complex, on_start, facet_value, with_facet, facet_by_word}
use Rattle.xsd_parser.specs.Handlers.{on_empty_in_simple_type, on_empty_in_complex_type, on_empty}
use Rattle.xsd_parser.specs.Step.{handled, closed, tags_after, counted, room_for, step}
use Rattle.xsd_parser.proofs.Laws.Outcomes.{Gives, value, refusal, Any, gives-if, gives-and_then, gives-parsed, gives-name, gives-facet, gives-refusal, gives-wider}
use Rattle.text.proofs.Laws.Tests.{if-either}

-- a number's refusal is 10, `InvalidAttributeValue`
pub if-refused : (b : Bool) (p : Parsed) (r : ℕ) → ((k : ℕ) → p ≡ refused k → k ≡ 10) → ◌≡◌ {A = Parsed} (if b then p else refused 10) (refused r) → r ≡ 10
if-refused true p r h e = h r e
if-refused false p r h e = cc

pub below-refusal : (limit w r : ℕ) → below limit w ≡ refused r → r ≡ 10
unfolding below
below-refusal limit w r e = if-refused (ltb w limit) (parsed w) r (λ k q. let z : ◌≡◌ {A = ℕ} 0 1 = cc in absurd (omega arith)) e

pub plain-refusal : (limit : ℕ) (s : Text) (r : ℕ) → plain_below limit s ≡ refused r → r ≡ 10
unfolding plain_below numeral
plain-refusal limit s r e = if-refused (is_numeral (after_plus s)) _ r (below-refusal limit (digits_value 0 (after_plus s))) e

pub number-refusal : (w : ℕ) (s : Text) (r : ℕ) → number w s ≡ refused r → r ≡ 10
unfolding number number_below
number-refusal w s r e = go (is_minus_zeros (trimmed s)) e
  where
    go : (t : Bool) → (if t then parsed 0 else plain_below (2 ^ w) (trimmed s)) ≡ refused r → r ≡ 10
    go true q = let z : ◌≡◌ {A = ℕ} 0 1 = cc in absurd (omega arith)
    go false q = plain-refusal (2 ^ w) (trimmed s) r q

abbrev pub Within : ℕ → ℕ → ℕ → Type 0
Within low high k = (low ≤ k) × (k ≤ high)

-- the handlers refuse with 9, `MissingAttribute`, or 10, `InvalidAttributeValue`
abbrev pub HandlerRefusal : {A : Type 0} → Outcome A → Type 0
HandlerRefusal o = Gives Any (Within 9 10) o

pub parsed-refusal : {A : Type 0} (w : ℕ) (v : Text) (f : ℕ → A) → HandlerRefusal (on_parsed (number w v) f)
parsed-refusal w v f = gives-parsed (number w v) f (λ n q. tt) (λ r q. let h = number-refusal w v r q in omega arith)

pub min-refusal : (o : Option Text) → HandlerRefusal (on_parsed (parse_min_occurs o) (λ min. min))
unfolding parse_min_occurs on_parsed
min-refusal none = value tt
min-refusal (some v) = parsed-refusal 32 v (λ min. min)

pub max-refusal : (o : Option Text) → HandlerRefusal (parse_max_occurs o)
unfolding parse_max_occurs
max-refusal none = value tt
max-refusal (some v) = gives-if (is_unbounded v) (value tt) (parsed-refusal 32 v MaxOccurs.bounded)

pub sequence_element-refusal : (t : Seen) (name type_name : Option Text) (es : List SequenceElement) → HandlerRefusal (sequence_element t name type_name es)
unfolding sequence_element
sequence_element-refusal t none type_name es = value tt
sequence_element-refusal t (some name) none es = value tt
sequence_element-refusal t (some name) (some type_name) es =
    gives-and_then (min-refusal t.min_occurs) λ min p. gives-and_then (max-refusal t.max_occurs) λ max q. value tt

pub element_inside-refusal : (t : Seen) (c : ComplexContentBuilder) → HandlerRefusal (on_element_inside_complex t c)
unfolding on_element_inside_complex
element_inside-refusal t ComplexContentBuilder.empty = value tt
element_inside-refusal t (ComplexContentBuilder.sequence es) = sequence_element-refusal t t.name t.type_name es
element_inside-refusal t (ComplexContentBuilder.choice vs) = value tt
element_inside-refusal t (ComplexContentBuilder.simple_content base xs flag) = value tt
element_inside-refusal t (ComplexContentBuilder.any n) = value tt

pub direct_child-refusal : (by_standard : Bool) (m : ℕ) (t : Seen) (r : Reader) → HandlerRefusal (on_direct_child by_standard m t r)
unfolding on_direct_child
direct_child-refusal b m t r =
    gives-if (tag_is t Word.SimpleType) (gives-name t _ (λ v q. tt) (omega arith))
    (gives-if (tag_is t Word.ComplexType) (gives-name t _ (λ v q. tt) (omega arith))
    (gives-if (tag_is t Word.Element) (value tt) (value tt)))

pub start_in_schema-refusal : (by_standard : Bool) (m : ℕ) (t : Seen) (n : ℕ) (r : Reader) → HandlerRefusal (on_start_in_schema by_standard m t n r)
unfolding on_start_in_schema
start_in_schema-refusal b m t n r = gives-if (eqb n 0) (direct_child-refusal b m t r) (value tt)

pub start_in_complex-refusal : (t : Seen) (b : ComplexTypeBuilder) → HandlerRefusal (on_start_in_complex_type t b)
unfolding on_start_in_complex_type content_at_two
start_in_complex-refusal t b =
    gives-if (eqb b.nesting_depth 1) (value tt)
    (gives-if (eqb b.nesting_depth 2)
    (gives-if (tag_is t Word.Extension) (value tt) (gives-if (tag_is t Word.Element) (element_inside-refusal t b.content) (value tt)))
    (value tt))

pub start-refusal : (by_standard : Bool) (m : ℕ) (t : Seen) (r : Reader) (x : Context) → HandlerRefusal (on_start by_standard m t r x)
unfolding on_start
start-refusal s m t r Context.no_context = value tt
start-refusal s m t r (Context.in_schema n) = start_in_schema-refusal s m t n r
start-refusal s m t r (Context.in_simple_type b) = value tt
start-refusal s m t r (Context.in_complex_type b) = gives-and_then (start_in_complex-refusal t (raised_complex b)) λ c p. value tt

pub facet_of-refusal : (w : FacetWord) (v : Text) → HandlerRefusal (facet_by_word w v)
unfolding facet_by_word
facet_of-refusal FacetWord.Enumeration v = value tt
facet_of-refusal FacetWord.Pattern v = value tt
facet_of-refusal FacetWord.MinLength v = parsed-refusal 64 v _
facet_of-refusal FacetWord.MaxLength v = parsed-refusal 64 v _
facet_of-refusal FacetWord.MinInclusive v = value tt
facet_of-refusal FacetWord.MaxInclusive v = value tt
facet_of-refusal FacetWord.TotalDigits v = parsed-refusal 32 v _
facet_of-refusal FacetWord.FractionDigits v = parsed-refusal 32 v _

pub empty_in_simple-refusal : (t : Seen) (b : SimpleTypeBuilder) → HandlerRefusal (on_empty_in_simple_type t b)
unfolding on_empty_in_simple_type
empty_in_simple-refusal t b =
    gives-if (tag_is t Word.Restriction) (value tt) (gives-facet (facet_word t.word) (facet_value t) (with_facet b) b (λ w. facet_of-refusal w (facet_value t)) (λ f u. tt) tt)

pub empty_in_complex-refusal : (t : Seen) (c : ComplexContentBuilder) → HandlerRefusal (on_empty_in_complex_type t c)
unfolding on_empty_in_complex_type
empty_in_complex-refusal t c =
    gives-if (tag_is t Word.Element) (element_inside-refusal t c)
    (gives-if (tag_is t Word.Any) (value tt) (gives-if (tag_is t Word.Attribute) (value tt) (value tt)))

pub empty-refusal : (m : ℕ) (t : Seen) (r : Reader) (x : Context) → HandlerRefusal (on_empty m t r x)
unfolding on_empty
empty-refusal m t r Context.no_context = value tt
empty-refusal m t r (Context.in_schema n) = value tt
empty-refusal m t r (Context.in_simple_type b) = gives-and_then (empty_in_simple-refusal t b) λ c p. value tt
empty-refusal m t r (Context.in_complex_type b) = gives-and_then (empty_in_complex-refusal t b.content) λ c p. value tt

pub handled-refusal : (by_standard : Bool) (m : ℕ) (e : Event) (r : Reader) → HandlerRefusal (handled by_standard m e r)
unfolding handled
handled-refusal b m (Event.start t) r = start-refusal b m (seen t) r r.context
handled-refusal b m (Event.empty t) r = empty-refusal m (seen t) r r.context
handled-refusal b m Event.close r = value tt

-- 6 and 7 are the open tags'
pub closed-refusal : (n : ℕ) → Gives Any (Within 6 11) (closed n)
unfolding closed
closed-refusal zero = refusal {r = 6} (omega arith)
closed-refusal (suc n) = value tt

pub tags-refusal : (e : Event) (n : ℕ) → Gives Any (Within 6 11) (tags_after e n)
unfolding tags_after
tags-refusal (Event.start t) n = gives-if (ltb n 255) (value tt) (refusal (omega arith))
tags-refusal (Event.empty t) n = value tt
tags-refusal Event.close n = closed-refusal n

-- 11 is the room's, 8 the events'
pub room-refusal : (lent : Lengths) (s : State) → Gives Any (Within 6 11) (room_for lent s)
unfolding room_for
room-refusal lent s = gives-if (state_fits lent.rows lent.names s) (value tt) (refusal (omega arith))

pub step_gives : (lent : Lengths) (s : State) (e : Event) → Gives Any (Within 6 11) (step lent s e)
unfolding step
step_gives lent s e =
    gives-if (ltb s.events 1000000)
    (gives-and_then (tags-refusal e s.open_tags) λ n p.
    gives-and_then (gives-wider (λ r q. omega arith) (handled-refusal s.by_standard s.events e s.reader)) λ r q. room-refusal lent (counted s n r))
    (refusal (omega arith))

pub step-refusal : (lent : Lengths) (s : State) (e : Event) (k : ℕ) → step lent s e ≡ refuse k → Within 6 11 k
step-refusal lent s e k q = gives-refusal (step_gives lent s e) q

-- a record's refusal
abbrev pub RecordRefusal : Recorded → Type 0
RecordRefusal r = (k : ℕ) → r ≡ bad k → Within 3 5 k

pub no-refusal : (r : Recorded) → ((k : ℕ) → r ≡ bad k → ◌≡◌ {A = ℕ} 0 1) → RecordRefusal r
no-refusal r h k q = let z = h k q in absurd (omega arith)

pub tag_record-refusal : (text : Text) (kind : ℕ) (ps : List Pair) (rest : List ℕ) → RecordRefusal (tag_record text kind ps rest)
unfolding tag_record
tag_record-refusal text kind ps rest =
    if-either RecordRefusal (all_inside (length text) 0 ps)
    (if-either RecordRefusal (all_ascii text ps) (no-refusal _ λ k q. cc) (λ k q. let h : 5 ≡ k = cc in omega arith))
    (λ k q. let h : 4 ≡ k = cc in omega arith)

pub record-refusal : (text : Text) (marks : List ℕ) (k : ℕ) → record1 text marks ≡ bad k → Within 3 5 k
unfolding record1
record-refusal text [] = no-refusal finished λ k q. cc
record-refusal text (kind ∷ []) = λ k q. let h : 3 ≡ k = cc in omega arith
record-refusal text (kind ∷ count ∷ rest) =
    if-either RecordRefusal (form_test kind count (length rest))
    (if-either RecordRefusal (eqb kind 3) (no-refusal _ λ k q. cc)
    (tag_record-refusal text kind (pairs_of (pair_count count) rest) (drop (2 * pair_count count) rest)))
    (λ k q. let h : 3 ≡ k = cc in omega arith)
