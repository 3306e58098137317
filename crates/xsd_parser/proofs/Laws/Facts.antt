-- Facts of paper 01, "What an event does": nesting and a close in the schema, and tags that are not known. Assumes nothing.
use mathlib.Core.Path.{◌≡◌, refl, sym, ap, ◌∙◌}
use mathlib.Core.Bool.{true, false}
use Prim.Native.Nat.{ℕ}
use borrow.Author.Tests.{eqb-true}
use Rattle.sheet.specs.Lengths.{Lengths}
use Rattle.xsd_types.specs.State.{Context, Reader, State, schema_nesting_ok, proper}
use Rattle.xsd_parser.specs.declared.words.Word.{Word}
use Rattle.xsd_parser.specs.Event.{Tag, Event}
use Rattle.xsd_parser.specs.Seen.{seen, tag_is}
use Rattle.xsd_parser.specs.Handlers.{ok, in_context, close_in_schema, on_start, on_empty, on_end}
use Rattle.xsd_parser.specs.Step.{handled, step}
use Rattle.xsd_parser.proofs.Laws.Readers.{schema-parts}
use Rattle.xsd_parser.proofs.Laws.Steps.{step-reader, proper-parts}

-- order 3: "with 0, nesting there stays 0"
pub schema-original : (s : State) (n : ℕ) → proper s ≡ true → s.by_standard ≡ false → s.reader.context ≡ Context.in_schema n → n ≡ 0
unfolding schema_nesting_ok
schema-original s n p b c =
    let o = (proper-parts s p).reader.context in
    eqb-true n 0 (schema-parts false n s.open_tags (rw (b, c) at o)).nested

-- "Any close leads to context 0." Order 3: with choice 1 "a close at 0 ends it"; with choice 0 nesting is 0 there, by `schema-original`
pub end-in-schema : (r : Reader) → on_end r (Context.in_schema 0) ≡ in_context Context.no_context r
unfolding on_end close_in_schema
end-in-schema r = refl

pub close-in-schema : (lent : Lengths) (s s' : State) → s.reader.context ≡ Context.in_schema 0 → step lent s Event.close ≡ ok s'
    → s'.reader ≡ in_context Context.no_context s.reader
unfolding handled
close-in-schema lent s s' c h =
    let p : ok (on_end s.reader s.reader.context) ≡ ok s'.reader = step-reader lent s Event.close s' h in
    let q : on_end s.reader s.reader.context ≡ s'.reader = cc in
    sym q ∙ ap (on_end s.reader) c ∙ end-in-schema s.reader

-- in context 0 an event of a tag other than `schema`, and a close, change only the counters
pub start-unknown : (lent : Lengths) (s s' : State) (t : Tag) → s.reader.context ≡ Context.no_context → tag_is (seen t) Word.Schema ≡ false
    → step lent s (Event.start t) ≡ ok s' → s'.reader ≡ s.reader
unfolding handled on_start
start-unknown lent s s' t c u h =
    let p : on_start s.by_standard s.events (seen t) s.reader Context.no_context
    ≡ ok s'.reader = sym (ap (on_start s.by_standard s.events (seen t) s.reader) c) ∙ step-reader lent s (Event.start t) s' h in
    let q : ok s.reader ≡ ok s'.reader = rw u at p in
    cc

pub empty-unknown : (lent : Lengths) (s s' : State) (t : Tag) → s.reader.context ≡ Context.no_context → tag_is (seen t) Word.Schema ≡ false
    → step lent s (Event.empty t) ≡ ok s' → s'.reader ≡ s.reader
unfolding handled on_empty
empty-unknown lent s s' t c u h =
    let p : on_empty s.events (seen t) s.reader Context.no_context ≡ ok s'.reader = sym (ap (on_empty s.events (seen t) s.reader) c) ∙ step-reader lent s (Event.empty t) s' h in
    let q : ok s.reader ≡ ok s'.reader = rw u at p in
    cc

pub close-outside : (lent : Lengths) (s s' : State) → s.reader.context ≡ Context.no_context → step lent s Event.close ≡ ok s' → s'.reader ≡ s.reader
unfolding handled on_end
close-outside lent s s' c h =
    let p : ok (on_end s.reader s.reader.context) ≡ ok s'.reader = step-reader lent s Event.close s' h in
    let q : on_end s.reader s.reader.context ≡ s.reader = ap (on_end s.reader) c in
    cc
