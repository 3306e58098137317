-- Order 14: a lookup of one of the nine words passes over the other attributes, so that of a tag without its notes the same is seen; and events of which the
-- same is seen step alike. Assumes nothing.
use Rattle.std.specs.Prelude.{if◌then◌else◌}
use mathlib.Core.Path.{◌≡◌, refl, sym, ap, ◌∙◌}
use mathlib.Core.Bool.{Bool, true, false, false≢true}
use mathlib.Core.List.{List, [], ◌∷◌}
use mathlib.Core.Option.{Option, some}
use Prim.Native.String.{String}
use Rattle.text.specs.Text.{Text, is, local_name}
use Rattle.sheet.specs.Lengths.{Lengths}
use Rattle.xsd_types.specs.State.{State}
use Rattle.xsd_parser.specs.Event.{Attr, Tag, Event, lookup, attr_value}
use Rattle.xsd_parser.specs.Words.{word_of}
use Rattle.xsd_parser.specs.Seen.{seen}
use Rattle.xsd_parser.specs.Step.{step}
use Rattle.xsd_parser.proofs.Laws.Alike.{SeenAlike, step-alike as seen_step}
use Rattle.runs.specs.Notes.{read_words, is_one, read_of, AlikeTags, AlikeEvents}
use Rattle.std.proofs.lemmas.Bool.{or_right}

-- a lookup of one of the words passes over the others
look-step : (x : Attr) (xs : List Attr) (word : String) (r b : Bool) → is_one read_words (local_name x.key) ≡ r → is (local_name x.key) word ≡ b
    → (b ≡ true → r ≡ true) → lookup (read_of xs) word ≡ lookup xs word
    → lookup (if r then x ∷ read_of xs else read_of xs) word ≡ (if b then some x.value else lookup xs word)
unfolding lookup
look-step x xs word true b e f h on = rw f (ap (λ (o : Option Text). if b then some x.value else o) on)
look-step x xs word false true e f h on = absurd (false≢true (h refl))
look-step x xs word false false e f h on = on

look-read : (xs : List Attr) (word : String) → ((t : Text) → is t word ≡ true → is_one read_words t ≡ true) → lookup (read_of xs) word ≡ lookup xs word
unfolding lookup read_of
look-read [] word h = refl
look-read (x ∷ xs) word h = look-step x xs word (is_one read_words (local_name x.key)) (is (local_name x.key) word) refl refl (h (local_name x.key)) (look-read xs word h)

pub data Word (w : String) : List String → Type 0 where
  here : {ws : List String} → Word w (w ∷ ws)
  there : {v : String} {ws : List String} → Word w ws → Word w (v ∷ ws)

word_read : {w : String} {ws : List String} → Word w ws → (t : Text) → is t w ≡ true → is_one ws t ≡ true
unfolding is_one
word_read Word.here t e = rw e
word_read (Word.there {v} {ws} k) t e = or_right (is t v) (is_one ws t) (word_read k t e)

-- a tag without its notes
unfoldable pub read_tag : Tag → Tag
read_tag t = record { name = t.name; attributes = read_of t.attributes }

pub at-word : (t : Tag) (w : String) → Word w read_words → attr_value (read_tag t) w ≡ attr_value t w
unfolding attr_value read_tag
at-word t w k = look-read t.attributes w (word_read k)

module _ (t : Tag) where
  abbrev u : Tag
  u = read_tag t

  at_name : attr_value u "name" ≡ attr_value t "name"
  unfolding read_words
  at_name = at-word t "name" Word.here

  at-type : attr_value u "type" ≡ attr_value t "type"
  unfolding read_words
  at-type = at-word t "type" (Word.there Word.here)

  at_base : attr_value u "base" ≡ attr_value t "base"
  unfolding read_words
  at_base = at-word t "base" (Word.there (Word.there Word.here))

  at_value : attr_value u "value" ≡ attr_value t "value"
  unfolding read_words
  at_value = at-word t "value" (Word.there (Word.there (Word.there Word.here)))

  at-min : attr_value u "minOccurs" ≡ attr_value t "minOccurs"
  unfolding read_words
  at-min = at-word t "minOccurs" (Word.there (Word.there (Word.there (Word.there Word.here))))

  at-max : attr_value u "maxOccurs" ≡ attr_value t "maxOccurs"
  unfolding read_words
  at-max = at-word t "maxOccurs" (Word.there (Word.there (Word.there (Word.there (Word.there Word.here)))))

  at-use : attr_value u "use" ≡ attr_value t "use"
  unfolding read_words
  at-use = at-word t "use" (Word.there (Word.there (Word.there (Word.there (Word.there (Word.there Word.here))))))

  at-namespace : attr_value u "namespace" ≡ attr_value t "namespace"
  unfolding read_words
  at-namespace = at-word t "namespace" (Word.there (Word.there (Word.there (Word.there (Word.there (Word.there (Word.there Word.here)))))))

  at_target : attr_value u "targetNamespace" ≡ attr_value t "targetNamespace"
  unfolding read_words
  at_target = at-word t "targetNamespace" (Word.there (Word.there (Word.there (Word.there (Word.there (Word.there (Word.there (Word.there Word.here))))))))

-- of a tag without its notes the same is seen
seen_read : (t : Tag) → seen (read_tag t) ≡ seen t
unfolding seen read_tag
seen_read t =
    λ i. record {
      word = word_of (local_name t.name);
      name = at_name t i;
      type_name = at-type t i;
      base = at_base t i;
      value = at_value t i;
      min_occurs = at-min t i;
      max_occurs = at-max t i;
      usage = at-use t i;
      namespace = at-namespace t i;
      target_namespace = at_target t i;
    }

tags-alike : {t t' : Tag} → AlikeTags t t' → seen t ≡ seen t'
unfolding read_tag
tags-alike {t} {t'} w =
    let sequence : read_of t.attributes ≡ read_of t'.attributes = w.attributes in
    let same : read_tag t ≡ read_tag t' = λ i. record { name = w.name i; attributes = sequence i } in
    sym (seen_read t) ∙ ap seen same ∙ seen_read t'

seen_alike : {e e' : Event} → AlikeEvents e e' → SeenAlike e e'
seen_alike (AlikeEvents.start w) = SeenAlike.start (tags-alike w)
seen_alike (AlikeEvents.empty w) = SeenAlike.empty (tags-alike w)
seen_alike AlikeEvents.close = SeenAlike.close

pub step-alike : (lent : Lengths) (s : State) {e e' : Event} → AlikeEvents e e' → step lent s e ≡ step lent s e'
step-alike lent s w = seen_step lent s (seen_alike w)
