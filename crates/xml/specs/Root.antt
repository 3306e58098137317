-- The root: XML 1.0 (Fifth Edition), [39] element ::= EmptyElemTag | STag content ETag and [43] content, as a list of open tags and a turn for each piece of content.
--     Piece         what stands next inside the root: a piece that gives no event, an end tag with its name, or the place of another tag
--     close         [42] ETag
--     piece         the next piece behind character data
--     Level         the open tags, the events of the piece, and what is left
--     turn          one piece, and what it does to the open tags
--     Rooted        the events of the root, and what is left
--     root          the whole root
use Rattle.std.specs.Prelude.{ℕ, zero, suc, List, [], ◌∷◌, ◌++◌, Bool, true, false, eqb, length, if◌then◌else◌}
use Rattle.text.specs.Text.{Text, bytes, same}
use Rattle.xsd_parser.specs.Kinds.{start_kind}
use Rattle.xml.specs.Steps.{Step, bad, behind, ◌and_then◌, starts_with, literal, spaces, name, leading_name, comment, instruction, section}
use Rattle.xml.specs.Values.{char_data}
use Rattle.xml.specs.Tape.{TapeEvent}
use Rattle.xml.specs.Tags.{Tagged, untagged, tagged, tag}

pub data Piece : Type 0 where
  wrong : Piece
  passed : ℕ → Text → Piece
  ending : Text → ℕ → Text → Piece
  starting : ℕ → Text → Piece

-- a step that gives no event
abbrev pub passed_by : Step → Piece
passed_by bad = wrong
passed_by (behind a r) = passed a r

-- the name of an end tag, and a step behind it
abbrev pub ending_by : Text → Step → Piece
ending_by n bad = wrong
ending_by n (behind a r) = ending n a r

abbrev pub close_behind : Step → Piece
close_behind bad = wrong
close_behind (behind n t) = ending_by (leading_name t) (name n t and_then spaces and_then literal (bytes ">"))

-- [42] ETag ::= '</' Name S? '>'
unfoldable pub close : ℕ → Text → Piece
close at s = close_behind (literal (bytes "</") at s)

-- "(element | Reference | CDSect | PI | Comment)", at its `<`
unfoldable pub markup : ℕ → Text → Piece
markup at s =
    if starts_with (bytes "</") s then close at s else
    if starts_with (bytes "<!--") s then passed_by (comment at s) else
    if starts_with (bytes "<![CDATA[") s then passed_by (section at s) else
    if starts_with (bytes "<?") s then passed_by (instruction at s) else starting at s

-- [43] content ::= CharData? ((element | Reference | CDSect | PI | Comment) CharData?)*
abbrev pub markup_behind : Step → Piece
markup_behind bad = wrong
markup_behind (behind a r) = markup a r

unfoldable pub piece : ℕ → Text → Piece
piece at s = markup_behind (char_data at s)

pub data Level : Type 0 where
  stop : Level
  on : List Text → List TapeEvent → ℕ → Text → Level

-- the open tags behind a tag: a start tag is one more
unfoldable pub opened : ℕ → Text → List Text → List Text
opened kind n tags = if eqb kind start_kind then n ∷ tags else tags

abbrev pub level_of_tag : List Text → Tagged → Level
level_of_tag tags untagged = stop
level_of_tag tags (tagged kind pair xs n a r) = on (opened kind n tags) (TapeEvent.tag kind pair xs ∷ []) a r

-- "Element Type Match": "The Name in an element's end-tag MUST match the element type in the start-tag."
abbrev pub level_of_close : List Text → Text → ℕ → Text → Level
level_of_close [] n a r = stop
level_of_close (m ∷ tags) n a r = if same n m then on tags (TapeEvent.close ∷ []) a r else stop

abbrev pub level_of : List Text → Piece → Level
level_of tags wrong = stop
level_of tags (passed a r) = on tags [] a r
level_of tags (ending n a r) = level_of_close tags n a r
level_of tags (starting a r) = level_of_tag tags (tag a r)

unfoldable pub turn : List Text → ℕ → Text → Level
turn tags at s = level_of tags (piece at s)

pub data Rooted : Type 0 where
  unrooted : Rooted
  rooted : List TapeEvent → ℕ → Text → Rooted

abbrev pub none_open : List Text → Bool
none_open [] = true
none_open (m ∷ tags) = false

-- events in front of those of the rest
unfoldable pub add_events : List TapeEvent → Rooted → Rooted
add_events events unrooted = unrooted
add_events events (rooted more at s) = rooted (events ++ more) at s

-- `next` reads on behind a piece
abbrev pub on_level : (List Text → ℕ → Text → Rooted) → Level → Rooted
on_level next stop = unrooted
on_level next (on tags events a r) = add_events events (next tags a r)

-- the content of the open tags, the innermost first, up to the end of the outermost. Each turn takes a byte, so one turn more than there are bytes left is
-- enough.
unfoldable pub inside : ℕ → List Text → ℕ → Text → Rooted
inside zero tags at s = unrooted
inside (suc turns) tags at s = if none_open tags then rooted [] at s else on_level (inside turns) (turn tags at s)

abbrev pub inside_all : List Text → ℕ → Text → Rooted
inside_all tags at s = inside (suc (length s)) tags at s

unfoldable pub root : ℕ → Text → Rooted
root at s = on_level inside_all (level_of_tag [] (tag at s))
