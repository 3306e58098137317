-- A name as it is compared, and what is left of one that is read byte by byte.
--     spelled       the name as it normalises where the flag is set, else as it stands; spelled_text: as the functions take it
--     form_left, rest_left    what is left of a character's form, and of what is behind it: as it stands, or by its segments
--     reading_of    by its segments, or as it stands
--     bytes_left    what is left of a name: both
--     snake_left    the same of a name's snake form
use Rattle.std.specs.Prelude.{ℕ, [], Bool, ◌++◌, if◌then◌else◌}
use Rattle.text.specs.Text.{Text}
use Rattle.text.specs.Characters.{characters}
use Rattle.names.specs.Names.{normalize_type_name, snake_from}
use Rattle.names.specs.Scans.{segments}
use Rattle.names.specs.Short.{short_bytes, form_bytes}
use Rattle.names.specs.declared.same.Spelled.{Spelled}
use Rattle.names.specs.declared.reading.Reading.{Reading}
use Rattle.names.specs.declared.segments.SegmentBytes.{SegmentBytes}
use Rattle.names.specs.declared.snake.SnakeBytes.{SnakeBytes}

unfoldable pub spelled : Bool → Text → Text
spelled normalised name = if normalised then normalize_type_name name else name

abbrev pub spelled_text : Spelled → Text
spelled_text s = spelled s.normalised s.name.now

abbrev pub form_left : Reading → Text
form_left Reading.Whole = []
form_left Reading.Segments = []
form_left (Reading.Form form) = short_bytes form

abbrev pub reading_of : Bool → Reading
reading_of parted = if parted then Reading.Segments else Reading.Whole

abbrev pub rest_left : Reading → ℕ → Bool → Bool → Text → Text
rest_left Reading.Whole separator lowers up s = s
rest_left Reading.Segments separator lowers up s = segments separator lowers up (characters s)
rest_left (Reading.Form form) separator lowers up s = segments separator lowers up (characters s)

abbrev pub bytes_left : SegmentBytes → Text
bytes_left s = form_left s.reading ++ rest_left s.reading s.separator s.lowers s.up s.rest.now

abbrev pub snake_left : SnakeBytes → Text
snake_left s = form_bytes s.form ++ snake_from (form_bytes s.before) (characters s.rest.now)
