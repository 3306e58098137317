-- What is seen of a tag whose texts are such as a sheet may hold: so are all values. Assumes nothing.
--     SeenText      each value that is seen, if it is there, is a text
use mathlib.Core.Path.{◌≡◌, refl}
use mathlib.Core.Bool.{true}
use mathlib.Core.List.{List, [], ◌∷◌}
use mathlib.Core.Option.{Option, some, none}
use Prim.Native.String.{String}
use Rattle.text.specs.Text.{Text, every, is_text, is, local_name}
use Rattle.xsd_types.specs.State.{namespace_ok}
use Rattle.xsd_parser.specs.Event.{Attr, Tag, lookup, attr_value, or_empty}
use Rattle.xsd_parser.specs.Seen.{Seen, seen}
use Rattle.xsd_parser.specs.EventText.{attr_is_text, tag_ok}
use Rattle.std.proofs.lemmas.Bool.{and_parts}
use Rattle.text.proofs.Laws.Tests.{if-keeps}
use Rattle.text.proofs.Laws.Class.{empty-text}

pub lookup-text : (xs : List Attr) (word : String) → every attr_is_text xs ≡ true → namespace_ok (lookup xs word) ≡ true
unfolding lookup every attr_is_text namespace_ok
lookup-text [] word e = refl
lookup-text (x ∷ xs) word e =
    let p = and_parts (attr_is_text x) (every attr_is_text xs) e in
    let q = and_parts (is_text x.key) (is_text x.value) p.0 in
    if-keeps namespace_ok (is (local_name x.key) word) (λ b. q.1) (λ b. lookup-text xs word p.1)

-- the value of an attribute is a text
pub value-text : (t : Tag) (word : String) → tag_ok t ≡ true → namespace_ok (attr_value t word) ≡ true
unfolding attr_value tag_ok
value-text t word e = lookup-text t.attributes word (and_parts (is_text t.name) (every attr_is_text t.attributes) e).1

pub or-empty-text : (o : Option Text) → namespace_ok o ≡ true → is_text (or_empty o) ≡ true
unfolding namespace_ok or_empty
or-empty-text none e = empty-text
or-empty-text (some v) e = e

pub record SeenText (t : Seen) : Type 0 where
  pub name : namespace_ok t.name ≡ true
  pub type_name : namespace_ok t.type_name ≡ true
  pub base : namespace_ok t.base ≡ true
  pub value : namespace_ok t.value ≡ true
  pub namespace : namespace_ok t.namespace ≡ true
  pub target_namespace : namespace_ok t.target_namespace ≡ true

pub seen-text : (t : Tag) → tag_ok t ≡ true → SeenText (seen t)
unfolding seen
seen-text t e =
    record {
      name = value-text t "name" e;
      type_name = value-text t "type" e;
      base = value-text t "base" e;
      value = value-text t "value" e;
      namespace = value-text t "namespace" e;
      target_namespace = value-text t "targetNamespace" e;
    }
