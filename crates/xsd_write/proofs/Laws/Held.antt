-- The first value that XML cannot hold, row by row (the crate `xsd_written`, specs/Call.antt). Assumes nothing.
use Rattle.std.specs.List.{find, range_with_len}
use Prim.Native.Nat.{ℕ, zero, suc, ◌+◌, ◌-◌, ◌≤◌}
use native.Mathlib.Omega.{arith}
use native.Mathlib.Numerals.{add-one}
use mathlib.Core.Path.{◌≡◌, refl}
use mathlib.Core.Bool.{Bool, true, not}
use mathlib.Core.List.{List, [], ◌∷◌}
use lib.ListN.{take, drop}
use Rattle.text.specs.Text.{Text, every}
use Rattle.text.proofs.Laws.Tests.{and-true, bool_cases}
use Rattle.text.proofs.Laws.Every.{every-head, every-tail}
use Rattle.sheet.specs.Rows.{text_at}
use Rattle.xsd_types.specs.Places.{row_at, rows_from}
use Rattle.xsd_types.proofs.Laws.Places.{rows_from-cons, rows_from-end}
use Rattle.xml.specs.Values.{is_in_value}
use Rattle.xml.specs.Written.{quote_of}
use Rattle.xml.proofs.Laws.Written.{quote-is}
use Rattle.xml_parts.proofs.Laws.Held.{plain-held}
use Rattle.xsd_written.specs.Call.{holds, unheld_from}
use Rattle.xsd_write.specs.Steps.{unheld_of}

-- the place of the first row with such a text, among n of them from row p on
pub unheld-found : (rows names : List ℕ) (end n p : ℕ) → end - p ≡ n
    → unheld_of (find (λ (i : ℕ). not (every holds (row_at rows names i).texts)) (range_with_len p n)) ≡ unheld_from p (rows_from rows names p end)
unfolding unheld_from
unheld-found rows names end zero p h = rw (rows_from-end rows names p end (omega arith)) refl
unheld-found rows names end (suc n) p h =
    rw (rows_from-cons rows names p end (omega arith))
    (bool_cases (every holds (row_at rows names p).texts) (λ e. rw (e, ← add-one p) (unheld-found rows names end n (p + 1) (omega arith))) (λ e. rw e refl))

-- a part of bytes that need no look is held
take-every : (p : ℕ → Bool) (c n : ℕ) (s : Text) → n ≤ c → every p (take c s) ≡ true → every p (take n s) ≡ true
unfolding every
take-every p c zero s h e = refl
take-every p zero (suc n) s h e = absurd (omega arith)
take-every p (suc c) (suc n) [] h e = refl
take-every p (suc c) (suc n) (b ∷ s) h e = and-true (every-head p b (take c s) e) (take-every p c n s (omega arith) (every-tail p b (take c s) e))

part-every : (p : ℕ → Bool) (c at n : ℕ) (s : Text) → at + n ≤ c → every p (take c s) ≡ true → every p (take n (drop at s)) ≡ true
unfolding every
part-every p c zero n s h e = take-every p c n s (omega arith) e
part-every p c (suc at) zero [] h e = refl
part-every p c (suc at) (suc n) [] h e = refl
part-every p zero (suc at) n (b ∷ s) h e = absurd (omega arith)
part-every p (suc c) (suc at) n (b ∷ s) h e = part-every p c at n s (omega arith) (every-tail p b (take c s) e)

pub plain-holds : (names : Text) (c at len : ℕ) → at + len ≤ c → every is_in_value (take c names) ≡ true → holds (text_at names at len) ≡ true
unfolding holds text_at
plain-holds names c at len h e = plain-held (quote_of (take len (drop at names))) (quote-is (take len (drop at names))) (take len (drop at names)) (part-every is_in_value c at len names h e)
