-- One text put behind another is both put (specs/Puts.antt). Assumes nothing.
use Prim.Native.Nat.{ℕ, ◌+◌, ◌≤◌, ◌<◌}
use native.Mathlib.Omega.{arith}
use mathlib.Core.Path.{◌≡◌, refl, sym, ◌∙◌}
use mathlib.Core.List.{List, [], ◌++◌}
use lib.Dec.{leb}
use lib.ListN.{length, length-append}
use lib.Seq.{sets}
use borrow.Author.Tests.{leb-true, leb-false}
use Rattle.text.specs.Text.{Text}
use Rattle.text.proofs.Laws.Tests.{bool_cases}
use Rattle.xml_text.proofs.Laws.Marks.{sets-append}
use Rattle.xsd_write.specs.Puts.{Puts, Writes, Going}
use Rattle.xsd_write.specs.declared.put.Writer.{Writer}

module _ {t u : Text} {at : ℕ} {o : List ℕ} {r : ℕ} {o' : List ℕ} {q : ℕ} {o'' : List ℕ} (p : Puts t at o r o') (k : Puts u r o' q o'') where
  both-fit : at + length (t ++ u) ≤ length o → (q ≡ at + length (t ++ u)) × (o'' ≡ sets o at (t ++ u))
  both-fit h =
      let n = length-append t u in
      let a = p.fits (omega (arith, n)) in
      let b = k.fits (omega (arith, n, a.0, p.kept)) in
      (omega (arith, n, a.0, b.0), b.1 ∙ rw (a.1, a.0) (sym (sets-append o at t u)))

  one-past : length o < at + length (t ++ u) → length o < q
  one-past h =
      let n = length-append t u in
      bool_cases (leb (at + length t) (length o))
      (λ e. let a = p.fits (leb-true _ _ e) in omega (arith, p.kept, k.past (omega (arith, n, a.0, p.kept))))
      (λ e. let a = p.past (leb-false _ _ e) in omega (arith, p.kept, k.past (omega (arith, a, p.kept))))

  pub puts_then : Puts (t ++ u) at o q o''
  puts_then = record { kept = k.kept ∙ p.kept; fits = both-fit; past = one-past }

pub writes_then : {t u : Text} {v w x : Writer} → Writes t v w → Writes u w x → Writes (t ++ u) v x
writes_then p k = record { same = k.same ∙ p.same; puts = puts_then p.puts k.puts }

-- what the buffer holds once the writer is gone
pub writes_back : {t : Text} {v w : Writer} {out : List ℕ} → Writes t v w → (v.out.ghost_name ≡ w.out.ghost_name → out ≡ w.out.now) → Puts t v.at v.out.now w.at out
writes_back p e = rw (e (sym p.same)) p.puts

pub writes_none : (w : Writer) → Writes [] w w
writes_none w = record { same = refl; puts = record { kept = refl; fits = λ h. (omega arith, refl); past = λ h. omega arith } }

-- ---- on and on

pub going_start : (all : Text) (w : Writer) → Going all w all w
going_start all w = record { on = λ after p. p }

pub going_step : {all : Text} {start : Writer} {rest : Text} {here : Writer} (x y : Text) {next : Writer} → Going all start rest here → rest ≡ x ++ y
    → Writes x here next → Going all start y next
going_step x y g e p =
    record { on = λ after k. g.on after (rw e (writes_then p k)) }
