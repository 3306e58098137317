-- The numbers of packed rows behind row 0: of two lists put together, and how many they are. Assumes nothing.
use Prim.Native.Nat.{ℕ, ◌+◌, ◌*◌}
use mathlib.Core.Path.{◌≡◌}
use mathlib.Core.List.{List, ◌++◌, append_assoc}
use native.Mathlib.Nat.{zero-add}
use native.Mathlib.Omega.{arith}
use lib.ListN.{length, length-append}
use Rattle.sheet.specs.Rows.{Row, numbers, pack, names_of}
use Rattle.sheet.proofs.Laws.Numbers.{length-numbers, numbers-append}
use Rattle.sheet.proofs.Laws.Packs.{length-pack, pack-append}

-- the numbers of a packing behind row 0
pub used-append : (z : List ℕ) (rs us : List Row) → z ++ numbers (pack 0 (rs ++ us)) ≡ z ++ numbers (pack 0 rs) ++ numbers (pack (length (names_of rs)) us)
used-append z rs us = rw (pack-append 0 rs us, numbers-append, zero-add, append_assoc)

pub used-length : (z : List ℕ) (rs : List Row) → length z ≡ 10 → length (z ++ numbers (pack 0 rs)) ≡ 10 * (1 + length rs)
used-length z rs e = rw (length-append, length-numbers, length-pack) (omega arith)
