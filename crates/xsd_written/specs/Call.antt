-- The call of order 8. "order 1 (over 65,536 bytes of text lent too), 2, 12, 22, 23, text zero from 12 on; accepted, place is the length and the rest is zero".
--     holds         a value that XML 1.0 can hold in an attribute, between the quotes that are written around it
--     unheld_from    the place of the first row, the rows being counted from a place on, one of whose texts is not such
--     first_unheld   of the finished part: row 1, the namespace, then the rows of the items
--     Wrote         number, place and text afterwards
--     text_unchanged, zeroed    a refusal that leaves the text, that makes it zero
--     write_back     the call; WriteIs: what it says of itself
use Rattle.std.specs.Prelude.{ℕ, suc, ◌≡◌, List, [], ◌∷◌, Bool, ◌&&◌, leb, length, if◌then◌else◌}
use Rattle.std.proofs.Math.Option.{Option, some, none}
use Rattle.text.specs.Text.{Text, every}
use Rattle.sheet.specs.Rows.{Row, Sheet, filled}
use Rattle.sheet.specs.Lengths.{lengths_of, good_lengths}
use Rattle.sheet.specs.Limits.{text_limit}
use Rattle.sheet.specs.Returned.{accepted, bad_length, not_good, no_root, unheld_value, short_text}
use Rattle.xsd_types.specs.Types.{Schema}
use Rattle.xsd_types.specs.State.{State}
use Rattle.xsd_types.specs.Rows.{items_rows}
use Rattle.xsd_types.specs.Count.{good, state_of}
use Rattle.xml.specs.Written.{is_value, quote_of}
use Rattle.xsd_written.specs.Schema.{schema_text}

-- "a value XML 1.0 cannot hold in an attribute (a `<`, both quotes, a forbidden control byte, a `&` that starts no predefined entity or legal character
-- reference)"
unfoldable pub holds : Text → Bool
holds v = is_value (quote_of v) v

unfoldable pub unheld_from : ℕ → List Row → Option ℕ
unheld_from place [] = none
unheld_from place (r ∷ rs) = if every holds r.texts then unheld_from (suc place) rs else some place

-- "place the first such row"; "a good sheet's finished part (all below row 0 but an open type)"
unfoldable pub first_unheld : Schema → Option ℕ
first_unheld s = if holds s.target_namespace then unheld_from 2 (items_rows s.items) else some 1

pub record Wrote : Type 0 where
  pub number : ℕ
  pub place : ℕ
  pub text : List ℕ

unfoldable pub text_unchanged : ℕ → List ℕ → Wrote
text_unchanged number text = record { number = number; place = 0; text = text }

-- "text zero from 12 on"
unfoldable pub zeroed : ℕ → ℕ → ℕ → Wrote
zeroed number place lent = record { number = number; place = place; text = filled lent [] }

-- 23: "text longer than lent"; "accepted, place is the length and the rest is zero"
unfoldable pub text_written : Text → ℕ → Wrote
text_written text lent =
    if leb (length text) lent
    then record { number = accepted; place = length text; text = filled lent text }
    else zeroed short_text 0 lent

abbrev pub unheld_or_written : Option ℕ → Schema → ℕ → Wrote
unheld_or_written (some place) s lent = zeroed unheld_value place lent
unheld_or_written none s lent = text_written (schema_text s) lent

-- 12: "no root seen". The schema is the finished part: the open type is in the context
unfoldable pub write_state : State → ℕ → Wrote
write_state s lent =
    if s.reader.root_seen
    then unheld_or_written (first_unheld s.reader.schema) s.reader.schema lent
    else zeroed no_root 0 lent

unfoldable pub write_back : Sheet → List ℕ → Wrote
write_back x text =
    if good_lengths (lengths_of x) && leb (length text) text_limit
    then if good x then write_state (state_of x) (length text) else text_unchanged not_good text
    else text_unchanged bad_length text

-- what a writing says of itself: number, place and text afterwards are the definition's; the sheet is lent for reading alone
abbrev pub WriteIs : Sheet → List ℕ → ℕ → ℕ → List ℕ → Type 0
WriteIs x before number place after = ◌≡◌ {A = Wrote} (record { number = number; place = place; text = after }) (write_back x before)
