-- The bytes of the rows that open a type. Assumes nothing.
use Prim.Native.Nat.{ℕ}
use mathlib.Core.Path.{◌≡◌}
use mathlib.Core.List.{append-nil}
use lib.ListN.{length}
use Rattle.text.specs.Text.{Text, join}
use Rattle.sheet.specs.Rows.{row}
use Rattle.xsd_actions.specs.Actions.{open_simple_row, open_complex_row}

pub open_simple-bytes : (n : ℕ) (t : Text) → length (join (open_simple_row n t).texts) ≡ length t
unfolding open_simple_row row join
open_simple-bytes n t = rw append-nil

pub open_complex-bytes : (n : ℕ) (t : Text) → length (join (open_complex_row n t).texts) ≡ length t
unfolding open_complex_row row join
open_complex-bytes n t = rw append-nil
