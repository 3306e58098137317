-- `tape::attributes::find_seen` meets its contract: the word is the name's, and each place leads to what its lookup gives. Assumes nothing.
use mathlib.Core.Path.{refl, sym, ap, ◌∙◌}
use native.Mathlib.Omega.{arith}
use Rattle.text.specs.Text.{Text, local_name}
use Rattle.xsd_parser.specs.Words.{word_of}
use Rattle.xsd_parser.specs.Seen.{seen}
use Rattle.tape.specs.Pairs.{tag_at}
use Rattle.tape.specs.Keys.{key_words, key_number}
use Rattle.tape.specs.Lookup.{value_under, seen_at}
use Rattle.tape.proofs.Laws.Pairs.{name-inside}
use Rattle.tape.proofs.Laws.Attributes.{tag-name}
use Rattle.tape.proofs.Laws.Places.{place-value}
use Rattle.tape.proofs.attributes.find_seen.Goals as goal

pub word_under-requires : goal.word_under-requires
word_under-requires c = name-inside _ _ _ _ c.requires

pub returns : goal.returns
unfolding seen_at value_under key_number seen key_words
returns c =
    let a = c.args in
    let t = tag_at a.v.text.now a.v.marks.now a.pairs a.count in
    let p = c.find_places.ensures in
    let word = c.word_under.ensures ∙ ap (λ (l : Text). word_of (local_name l)) (sym (tag-name a.v.text.now a.v.marks.now a.pairs a.count)) in
    rw (
      word,
      place-value t "name" p 0 (omega arith) refl,
      place-value t "type" p 1 (omega arith) refl,
      place-value t "base" p 2 (omega arith) refl,
      place-value t "value" p 3 (omega arith) refl,
      place-value t "minOccurs" p 4 (omega arith) refl,
      place-value t "maxOccurs" p 5 (omega arith) refl,
      place-value t "use" p 6 (omega arith) refl,
      place-value t "namespace" p 7 (omega arith) refl,
      place-value t "targetNamespace" p 8 (omega arith) refl,
    )
