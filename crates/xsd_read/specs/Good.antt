-- The reading of a good sheet: with 0 for its count, and with its count.
--     GoodSheet     the sheet is good with 0 for its count, and the buffers are no longer than the paper has it
--     GoodRead      answer and sheet afterwards are those of the definition's reading of the sheet's state, without the count
--     CountedSheet  the sheet is good, in such buffers
--     CountedRead   answer and sheet afterwards are those of the definition's reading of the sheet's state
use Rattle.std.specs.Prelude.{ℕ, ◌≡◌, true, List, length}
use Rattle.text.specs.Text.{Text}
use Rattle.sheet.specs.Rows.{Sheet}
use Rattle.sheet.specs.Lengths.{Answer}
use Rattle.sheet.specs.Calls.{sheet}
use Rattle.xsd_types.specs.Good.{bare_good}
use Rattle.xsd_types.specs.Back.{bare_state_of}
use Rattle.xsd_types.specs.Sheet.{bare_sheet_of}
use Rattle.xsd_types.specs.Count.{state_of, good}
use Rattle.xsd_progress.specs.Progress.{lent_to, Lent}
use Rattle.xsd_parser.specs.Read.{ReadAnswer, read_state, sheet_of_reading}

pub record GoodSheet (rows names : List ℕ) (text : Text) : Type 0 where
  pub is_good : bare_good (sheet rows names) ≡ true
  pub lent : Lent rows names text

pub record GoodRead (rows names : List ℕ) (text : Text) (marks : List ℕ) (answer : Answer) (after : Sheet) : Type 0 where
  pub answers : answer ≡ (read_state (lent_to rows names) (bare_state_of (sheet rows names)) text marks).answer
  pub leaves : after ≡ bare_sheet_of (read_state (lent_to rows names) (bare_state_of (sheet rows names)) text marks).state (length rows) (length names)

pub record CountedSheet (rows names : List ℕ) (text : Text) : Type 0 where
  pub is_good : good (sheet rows names) ≡ true
  pub lent : Lent rows names text

abbrev pub CountedRead : List ℕ → List ℕ → Text → List ℕ → Answer → Sheet → Type 0
CountedRead rows names text marks answer after =
    ◌≡◌ {A = ReadAnswer} (record { answer = answer; sheet = after }) (sheet_of_reading (lent_to rows names) (read_state (lent_to rows names) (state_of (sheet rows names)) text marks))
