-- The work on buffers that are known to be empty, and the first of a list where it may be shorter. Assumes nothing.
use Prim.Native.Nat.{ℕ, ◌≤◌, ◌<◌}
use mathlib.Core.Path.{◌≡◌, ap, sym, ◌∙◌}
use mathlib.Core.Logic.{⊎_elim}
use mathlib.Core.List.{List}
use native.Mathlib.Omega.{arith}
use lib.ListN.{length, take, replicate}
use Rattle.std.proofs.Common.{min}
use Rattle.std.proofs.lemmas.Bool.{cases_lt}
use Rattle.std.proofs.lemmas.List.{take_all}
use Rattle.std.specs.Prelude.{Result}
use Rattle.text.specs.Text.{Text}
use Rattle.sheet.specs.Rows.{Sheet}
use Rattle.sheet.specs.Calls.{sheet}
use Rattle.rows.specs.Answers.{answer_of}
use Rattle.rows.specs.declared.answers.Refused.{Refused}
use Rattle.printing.specs.Work.{WorkIs}
use Rattle.printing.specs.Print.{empty_sheet, Worked}

pub worked-from : (text : Text) (marks : List ℕ) (read lowered : Result ℕ Refused) (rows names graph_rows graph_names scratch : List ℕ) → (graph last : Sheet) (scratch' : List ℕ)
    → rows ≡ replicate 16000 0 → names ≡ replicate 65536 0 → graph_rows ≡ replicate 16000 0 → graph_names ≡ replicate 65536 0 → scratch ≡ replicate 4096 0
    → WorkIs (sheet rows names) text marks (sheet graph_rows graph_names) scratch (answer_of read) (record { answer = answer_of lowered; graph = graph; scratch = scratch' }) last
    → Worked text marks read lowered graph
unfolding empty_sheet
worked-from text marks read lowered rows names graph_rows graph_names scratch graph last scratch' r n gr gn s work = (scratch', last, rw (r, n, gr, gn, s) at work)

pub take-min : {A : Type 0} (n : ℕ) (xs : List A) → take (min (length xs) n) xs ≡ take n xs
take-min n xs =
    ⊎_elim (λ (l : n < length xs). let all : min (length xs) n ≡ n = omega (arith, l) in ap (λ k. take k xs) all)
    (λ (l : length xs ≤ n). take_all (min (length xs) n) xs (omega (arith, l)) ∙ sym (take_all n xs l)) (cases_lt n (length xs))
