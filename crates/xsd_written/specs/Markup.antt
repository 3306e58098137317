-- Tags as a writer puts them one behind the other. Order 8: "nothing stands between tags".
--     Markup        a start tag, an empty tag, an end tag
--     markup_text    as text; markups_text: one behind the other
use Prim.Native.Char.{code}
use Rattle.std.specs.Prelude.{List, [], ◌∷◌, ◌++◌}
use Rattle.text.specs.Text.{Text}
use Rattle.xsd_parser.specs.Kinds.{start_kind, empty_kind}
use Rattle.xsd_parser.specs.Event.{Tag}
use Rattle.xml.specs.Written.{written_tag}

pub data Markup : Type 0 where
  starts : Tag → Markup
  empties : Tag → Markup
  ends : Text → Markup

-- "one space before each" attribute, "quotes double unless the value has one": as `written_tag` has it
unfoldable pub markup_text : Markup → Text
markup_text (starts t) = written_tag start_kind t
markup_text (empties t) = written_tag empty_kind t
markup_text (ends n) = code "<" ∷ code "/" ∷ (n ++ code ">" ∷ [])

unfoldable pub markups_text : List Markup → Text
markups_text [] = []
markups_text (m ∷ ms) = markup_text m ++ markups_text ms
