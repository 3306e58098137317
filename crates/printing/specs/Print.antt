-- What the program prints. Paper 01: the line `read` with number and place, the line `lower` with number and place, and the graph; a refusal prints its line and stops.
--     answer_text word a    the line of an answer
--     lowered_text a x      the line of lowering's answer, and the graph where there is one
--     made_text r a x       the same behind the line of reading's answer
--     empty_sheet           the buffers of a sheet as the program begins
--     Worked                the answers and the graph are those of the work on a tape, begun with empty buffers
--     TapePrinted           what is printed of a tape: bytes that are known grow by the text of such answers and such a graph
--     numbers_read count s    so many numbers of the bytes s, each of four, the first of them the lowest
--     PrintedAs             what is printed of an input that is such a one
--     InputPrinted          what is printed of an input
use Rattle.std.specs.Prelude.{ℕ, ◌/◌, List, [], ◌++◌, codes, Result, Ok, Err, length, take, drop, map, replicate}
use Rattle.std.specs.Fmt.{decimal}
use Rattle.std.specs.Int.{from_le_bytes, w32}
use Rattle.std.specs.Simd.{first_chunks}
use Rattle.std.specs.Io.KnownBytes.{Appends}
use Rattle.std.specs.declared.option.Option.{Option}
use Rattle.text.specs.Text.{Text}
use Rattle.sheet.specs.Rows.{Sheet}
use Rattle.sheet.specs.Calls.{sheet}
use Rattle.sheet.specs.Lengths.{Answer}
use Rattle.rows.specs.Answers.{answer_of}
use Rattle.rows.specs.declared.answers.Refused.{Refused}
use Rattle.program.specs.Print.{sheet_text}
use Rattle.printing.specs.declared.Input.{Input}
use Rattle.printing.specs.Input.{input_of}
use Rattle.printing.specs.Work.{WorkIs}

unfoldable pub answer_text : Text → Answer → Text
answer_text word a = word ++ (codes " " ++ (decimal a.number ++ (codes " " ++ (decimal a.place ++ codes "\n"))))

unfoldable pub lowered_text : Result ℕ Refused → Sheet → Text
lowered_text (Ok place) graph = answer_text (codes "lower") (answer_of (Ok place)) ++ sheet_text graph
lowered_text (Err refused) graph = answer_text (codes "lower") (answer_of (Err refused))

unfoldable pub made_text : Result ℕ Refused → Result ℕ Refused → Sheet → Text
made_text (Ok place) lowered graph = answer_text (codes "read") (answer_of (Ok place)) ++ lowered_text lowered graph
made_text (Err refused) lowered graph = answer_text (codes "read") (answer_of (Err refused))

unfoldable pub empty_sheet : Sheet
empty_sheet = sheet (replicate 16000 0) (replicate 65536 0)

abbrev pub Worked : Text → List ℕ → Result ℕ Refused → Result ℕ Refused → Sheet → Type 0
Worked text marks read lowered graph =
    (scratch : List ℕ) × (last : Sheet) × WorkIs empty_sheet text marks empty_sheet (replicate 4096 0) (answer_of read) (record { answer = answer_of lowered; graph = graph; scratch = scratch }) last

abbrev pub TapePrinted : Text → List ℕ → Option Text → Option Text → Type 0
TapePrinted text marks old new =
    (read : Result ℕ Refused) × (lowered : Result ℕ Refused) × (graph : Sheet) × Worked text marks read lowered graph × Appends old new (made_text read lowered graph)

unfoldable pub numbers_read : ℕ → List ℕ → List ℕ
numbers_read count bytes = map (from_le_bytes w32) (take count (first_chunks 4 (length bytes / 4) bytes))

abbrev pub PrintedAs : Input → List ℕ → Option Text → Option Text → Type 0
PrintedAs Input.TooLong input old new = Appends old new (codes "read 1 0\n")
PrintedAs Input.Short input old new = Appends old new (codes "short\n")
PrintedAs (Input.Tape text marks) input old new = TapePrinted (take text (drop 8 input)) (numbers_read marks (drop text (drop 8 input))) old new

abbrev pub InputPrinted : List ℕ → Option Text → Option Text → Type 0
InputPrinted input old new = PrintedAs (input_of input) input old new
