-- A text written byte by byte into a lent part: what holds at each step, and what follows at the end. Assumes nothing.
use Prim.Native.Nat.{ℕ, suc, ◌+◌, ◌≤◌, ◌<◌}
use Rattle.std.specs.Prelude.{Option, Some, None}
use mathlib.Core.Path.{◌≡◌, refl, sym, ap, ◌∙◌}
use mathlib.Core.List.{[], ◌∷◌, ◌++◌, append_assoc}
use native.Mathlib.Numerals.{add-one}
use native.Mathlib.Omega.{arith}
use lib.ListN.{length, take, drop, set, get_or, length-drop, length-append, drop_of_length-le}
use Rattle.std.proofs.lemmas.Slice.{drop-append-drop}
use lib.Seq.{take_all, length-take-le, take-suc, drop-cons, set_at}
use borrow.Author.Tests.{le-leb, lt-leb}
use Rattle.text.specs.Text.{Text}
use Rattle.names.specs.Answers.{PutByte, Put, written, placed}

-- n bytes of t stand in the part, which was `before` and is `out` now; `rest` is still to be written
pub record Writing (t before : Text) (n : ℕ) (out rest : Text) : Type 0 where
  pub within : n ≤ length t
  pub fits : n ≤ length before
  pub holds : out ≡ take n t ++ drop n before
  pub left : drop n t ≡ rest

pub writing_start : (t before : Text) → Writing t before 0 before t
writing_start t before = record { within = omega arith; fits = omega arith; holds = refl; left = refl }

pub writing-length : {t before : Text} {n : ℕ} {out rest : Text} → Writing t before n out rest → length out ≡ length before
writing-length {t} {before} {n} w =
    ap length w.holds ∙ simp (length-append, length-take-le n t w.within, length-drop) (omega (arith, w.fits))

pub writing-rest : {t before : Text} {n : ℕ} {out rest : Text} → Writing t before n out rest → length t ≡ n + length rest
writing-rest {t} {before} {n} w = omega (arith, w.within, simp length-drop at (ap length w.left))

pub writing-as : {t before : Text} {n : ℕ} {out rest rest' : Text} → Writing t before n out rest → rest ≡ rest' → Writing t before n out rest'
writing-as w e = record { within = w.within; fits = w.fits; holds = w.holds; left = w.left ∙ e }

pub writing_more : {t before : Text} {n b : ℕ} {out rest : Text} → Writing t before n out (b ∷ rest) → n < length before → Writing t before (n + 1) (set out n b) rest
writing_more {t} {before} {n} {b} {out} {rest} w h =
    let k : n < length t = omega (arith, writing-rest w) in
    let e : get_or t n 0 ∷ drop (suc n) t ≡ b ∷ rest = sym (drop-cons t n 0 k) ∙ w.left in
    let eb : get_or t n 0 ≡ b = cc in
    let er : drop (suc n) t ≡ rest = cc in
    rw add-one (record {
      within = omega arith;
      fits = omega arith;
      holds = rw (w.holds, drop-cons before n 0 h, set_at (take n t) (get_or before n 0) (drop (suc n) before) b n (length-take-le n t w.within), take-suc t n 0 k, append_assoc, eb);
      left = er;
    })

pub writing-end : {t before : Text} {n : ℕ} {out : Text} → Writing t before n out [] → Put t before (Some n) out
unfolding written placed
writing-end {t} {before} {n} w =
    let e : n ≡ length t = omega (arith, writing-rest w) in
    record {
      counted = rw (le-leb (length t) (length before) (omega arith)) (ap Some e);
      holds = w.holds ∙ rw (take_all n t (omega arith), take_all (length before) t (omega arith), e);
    }

pub writing-full : {t before : Text} {n b : ℕ} {out rest : Text} → Writing t before n out (b ∷ rest) → length before ≤ n → Put t before None out
unfolding written placed
writing-full {t} {before} {n} w h =
    let e : n ≡ length before = omega (arith, w.fits) in
    let k : length before < length t = omega (arith, writing-rest w) in
    record {
      counted = rw (lt-leb (length t) (length before) k);
      holds = w.holds ∙ rw (drop_of_length-le before h, drop_of_length-le before {i = length t} (omega arith), e);
    }

-- the next byte of the text was put
pub writing_put : {t before : Text} {n b m : ℕ} {out rest after : Text} → Writing t before n out (b ∷ rest) → PutByte out n b (Some m) after → Writing t before m after rest
writing_put w p = rw (p.1, p.2) (writing_more w (omega (arith, writing-length w, p.0)))

-- it had no room
pub writing-refused : {t before : Text} {n b : ℕ} {out rest after : Text} → Writing t before n out (b ∷ rest) → PutByte out n b None after → Put t before None after
writing-refused w p = rw p.1 (writing-full w (omega (arith, writing-length w, p.0)))

-- the same text put from the start again
pub put_again : {t before : Text} {n : ℕ} {out rest : Text} {answer : Option ℕ} {after : Text} → Writing t before n out rest → Put t out answer after → Put t before answer after
unfolding written placed
put_again {t} {before} {n} {out} w p =
    let l = writing-length w in
    let same : drop (length t) out ≡ drop (length t) before = rw w.holds (drop-append-drop n before (take n t) (length t) w.within (length-take-le n t w.within)) in
    record { counted = rw l at p.counted; holds = p.holds ∙ rw (l, same) }

-- the text that was put, under another name
pub put_as : {t t' before : Text} {answer : Option ℕ} {after : Text} → Put t before answer after → t ≡ t' → Put t' before answer after
put_as h e = rw e at h
