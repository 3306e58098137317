-- The scan from a place of a pattern on, as the code reads it. Assumes nothing.
use Rattle.std.specs.Prelude.{if◌then◌else◌}
use Rattle.std.specs.List.{find, range_with_len}
use Rattle.std.specs.Option.{unwrap_or}
use Prim.Native.Nat.{ℕ, zero, suc, ◌+◌, ◌≤◌, ◌<◌}
use native.Mathlib.Numerals.{add-one}
use native.Mathlib.Omega.{arith}
use native.Mathlib.Nat.{add-zero}
use mathlib.Core.Path.{◌≡◌, refl, sym, ap, ◌∙◌}
use mathlib.Core.Bool.{Bool, true, false, not, false≢true}
use mathlib.Core.List.{[], ◌∷◌}
use lib.Dec.{eqb, ltb}
use lib.ListN.{length, drop, get_or, drop_of_length-le}
use lib.Seq.{drop-cons}
use borrow.Author.Tests.{ltb-true, ltb-false, ne_eqb}
use Rattle.text.specs.Text.{Text, between, first, contains, bytes}
use Rattle.text.proofs.Laws.Tests.{bool_cases, or-false-left, or-false-right}
use Rattle.text.proofs.Laws.Texts.{first-drop}
use Rattle.xml.specs.Classes.{is_char}
use Rattle.pattern.specs.Grammar.{char_but, is_normal, is_mark, is_in_class, is_single, is_multi}
use Rattle.pattern.specs.Answers.{Goes, Ends, Escapes, is_close, is_branch_end, is_bracket, any_byte}
use Rattle.std.specs.Prelude.{Option, Some, None}
use Rattle.pattern.specs.Scan.{Mode, start, atom, ScanState, stop, go, is_escaped, is_single_char, fresh, class_step, pattern_step, final, scan}
use Rattle.pattern.proofs.Laws.Derived.{differs, plain-fresh, plain-unmarked, unmarked-scan}

pub step-at : (q : ScanState) (s : Text) (i : ℕ) → i < length s → scan q (drop i s) ≡ scan (pattern_step q (get_or s i 0)) (drop (i + 1) s)
unfolding scan
step-at q s i h = rw (add-one i, drop-cons s i 0 h)

pub end-at : (q : ScanState) (s : Text) (i : ℕ) → length s ≤ i → scan q (drop i s) ≡ final q
unfolding scan
end-at q s i h = rw (drop_of_length-le s h)

pub stop-at : (t : Text) → scan stop t ≡ false
unfolding scan final pattern_step
stop-at [] = refl
stop-at (b ∷ t) = stop-at t

-- a byte that leads from one state to another
pub to_at : (q : ScanState) {q' : ScanState} (s : Text) (i : ℕ) → i < length s → pattern_step q (get_or s i 0) ≡ q' → scan q (drop i s) ≡ scan q' (drop (i + 1) s)
to_at q s i h e = step-at q s i h ∙ ap (λ (x : ScanState). scan x (drop (i + 1) s)) e

pub off_at : (q : ScanState) (s : Text) (i : ℕ) → i < length s → pattern_step q (get_or s i 0) ≡ stop → scan q (drop i s) ≡ false
off_at q s i h e = to_at q s i h e ∙ stop-at (drop (i + 1) s)

pub escaped-inside : (s : Text) (i : ℕ) → is_escaped (first (drop i s)) ≡ true → i < length s
unfolding is_escaped is_single is_multi contains bytes first
escaped-inside s i e =
    bool_cases (ltb i (length s)) (λ h. ltb-true i (length s) h)
    (λ h. absurd (false≢true (rw (drop_of_length-le s (ltb-false i (length s) h)) at e)))

-- behind a backslash, in a class or not
module _ (m n : Mode) (steps : (d b : ℕ) → pattern_step (go d m) b ≡ (if is_escaped b then go d n else stop)) (ends : (d : ℕ) → final (go d m) ≡ false) (s : Text) (i : ℕ) where
  pub escaped-on : is_escaped (first (drop i s)) ≡ true → (d : ℕ) → scan (go d m) (drop i s) ≡ scan (go d n) (drop (i + 1) s)
  escaped-on e d =
      let f : is_escaped (get_or s i 0) ≡ true = rw first-drop at e in
      to_at (go d m) s i (escaped-inside s i e) (steps d (get_or s i 0) ∙ rw f)

  pub escaped-off : is_escaped (first (drop i s)) ≡ false → (d : ℕ) → scan (go d m) (drop i s) ≡ false
  escaped-off e d =
      let f : is_escaped (get_or s i 0) ≡ false = rw first-drop at e in
      bool_cases (ltb i (length s)) (λ h. off_at (go d m) s i (ltb-true i (length s) h) (steps d (get_or s i 0) ∙ rw f))
      (λ h. end-at (go d m) s i (ltb-false i (length s) h) ∙ ends d)

-- behind a backslash at `at`, in a class or not
pub escaped-part : (m n : Mode) → ((d b : ℕ) → pattern_step (go d m) b ≡ (if is_escaped b then go d n else stop)) → ((d : ℕ) → final (go d m) ≡ false) → (s : Text) (l : Mode) (at : ℕ)
    → ((d : ℕ) → scan (go d l) (drop at s) ≡ scan (go d m) (drop (at + 1) s)) → is_escaped (first (drop (at + 1) s)) ≡ true → Goes s l at n (at + 1) (at + 2) any_byte
escaped-part m n steps ends s l at slash x =
    let two : at + 1 + 1 ≡ at + 2 = omega arith in
    record {
      onward = omega arith;
      within = omega (arith, escaped-inside s (at + 1) x);
      stops = λ _. refl;
      reads = λ d. slash d ∙ escaped-on m n steps ends s (at + 1) x d ∙ ap (λ (k : ℕ). scan (go d n) (drop k s)) two;
    }

pub byte-to : (q : ScanState) {q' : ScanState} (s : Text) (i c : ℕ) → i < length s → get_or s i 0 ≡ c → pattern_step q c ≡ q' → scan q (drop i s) ≡ scan q' (drop (i + 1) s)
byte-to q s i c h e k = to_at q s i h (ap (pattern_step q) e ∙ k)

-- a step before a part
pub before : (s : Text) (m n : Mode) (at next : ℕ) (l : Mode) (least : ℕ) (P : ℕ → Bool) → ((d : ℕ) → scan (go d m) (drop at s) ≡ scan (go d n) (drop next s))
    → (r : Option ℕ) → Ends s n next l least P r → Ends s m at l least P r
before s m n at next l least P e (Some x) g = record { onward = g.onward; within = g.within; stops = g.stops; reads = λ d. e d ∙ g.reads d }
before s m n at next l least P e None g = λ d. e d ∙ g d

-- a step behind a part
pub behind : {s : Text} {m n l : Mode} {at least e next : ℕ} {P : ℕ → Bool} → Goes s m at n least e P → e ≤ next → next ≤ length s
    → ((d : ℕ) → scan (go d n) (drop e s) ≡ scan (go d l) (drop next s)) → Goes s m at l least next any_byte
behind g h k f = record { onward = omega (arith, g.onward); within = k; stops = λ _. refl; reads = λ d. g.reads d ∙ f d }

pub open-final : (d : ℕ) → final (go (suc d) start) ≡ false
unfolding final
open-final d = ne_eqb (suc d) 0 (λ e. omega (arith, e))

pub close-byte : (b : ℕ) → is_branch_end b ≡ true → (b ≡ 124 → ⊥) → is_close b ≡ true
unfolding is_branch_end is_close
close-byte b e h = rw (ne_eqb b 124 h) at e

-- at a byte that begins no atom and ends no branch
pub fresh-off : (d b : ℕ) → (b ≡ 40 → ⊥) → is_branch_end b ≡ false → (b ≡ 91 → ⊥) → (b ≡ 92 → ⊥) → is_single_char b ≡ false → fresh d b ≡ stop
unfolding fresh is_branch_end
fresh-off d b h t k l p = rw (ne_eqb b 40 h, or-false-right (eqb b 124) (eqb b 41) t, or-false-left (eqb b 124) (eqb b 41) t, ne_eqb b 91 k, ne_eqb b 92 l, p)

-- behind an atom with no quantifier
pub unmarked-at : (d : ℕ) (s : Text) (i : ℕ) → is_mark (get_or s i 0) ≡ false → scan (go d atom) (drop i s) ≡ scan (go d start) (drop i s)
unmarked-at d s i h = unmarked-scan d (drop i s) (rw first-drop h)

pub unmarked-end : (d : ℕ) (s : Text) (i : ℕ) → length s ≤ i → scan (go d atom) (drop i s) ≡ scan (go d start) (drop i s)
unfolding final
unmarked-end d s i h = end-at (go d atom) s i h ∙ sym (end-at (go d start) s i h)

pub mark-at : (d : ℕ) (s : Text) (i : ℕ) → i < length s → is_mark (get_or s i 0) ≡ true → scan (go d atom) (drop i s) ≡ scan (go d start) (drop (i + 1) s)
unfolding pattern_step
mark-at d s i h e = to_at (go d atom) s i h (rw e)

-- no atom begins with a quantifier
mark-fresh : (d b : ℕ) → is_mark b ≡ true → fresh d b ≡ stop
unfolding fresh is_mark contains bytes
mark-fresh d b h =
    let p : is_single_char b ≡ false = bool_cases (is_single_char b) (λ e. absurd (false≢true (sym (plain-unmarked b e) ∙ h))) (λ e. e) in
    rw (differs is_mark 40 h refl, differs is_mark 41 h refl, differs is_mark 124 h refl, differs is_mark 91 h refl, differs is_mark 92 h refl, p)

pub marked-off : (d : ℕ) (r : Text) → is_mark (first r) ≡ true → scan (go d start) r ≡ false
unfolding scan pattern_step first is_mark contains bytes
marked-off d [] h = absurd (false≢true h)
marked-off d (b ∷ r) h = ap (λ (q : ScanState). scan q r) (mark-fresh d b h) ∙ stop-at r

-- a class: right behind its opening bracket only the closing one is read otherwise
opened-same : (d : ℕ) (r : Text) → is_bracket (first r) ≡ false → scan (go d Mode.opened) r ≡ scan (go d Mode.class) r
unfolding scan final pattern_step first is_bracket
opened-same d [] h = refl
opened-same d (b ∷ r) h = rw h

pub opened-at : (s : Text) (i : ℕ) → (first (drop i s) ≡ 93 → ⊥) → (d : ℕ) → scan (go d Mode.opened) (drop i s) ≡ scan (go d Mode.class) (drop i s)
unfolding is_bracket
opened-at s i h d = opened-same d (drop i s) (ne_eqb _ 93 h)

pub bracket-first : (s : Text) (i : ℕ) → first (drop i s) ≡ 93 → (d : ℕ) → scan (go d Mode.opened) (drop i s) ≡ false
unfolding pattern_step final class_step is_in_class char_but is_char contains bytes between
bracket-first s i e d =
    let f : get_or s i 0 ≡ 93 = rw first-drop at e in
    bool_cases (ltb i (length s)) (λ h. off_at (go d Mode.opened) s i (ltb-true i (length s) h) (ap (pattern_step (go d Mode.opened)) f))
    (λ h. end-at (go d Mode.opened) s i (ltb-false i (length s) h) ∙ refl)

-- an escape in a class, at a byte that is no closing bracket and may not stand there by itself
pub class-escapes : (b : ℕ) → is_bracket b ≡ false → is_in_class b ≡ false → Escapes Mode.class Mode.class_escape Mode.class b
unfolding pattern_step class_step final is_bracket
class-escapes b h x =
    record { begins = λ d. refl; others = λ m d. rw (h, ne_eqb b 92 m, x); goes_on = λ d c. refl; unfinished = λ d. refl }

-- .. and outside, at a byte that begins nothing else
pub atom-escapes : (b : ℕ) → (b ≡ 40 → ⊥) → is_branch_end b ≡ false → (b ≡ 91 → ⊥) → is_single_char b ≡ false → Escapes start Mode.escape atom b
unfolding pattern_step fresh final
atom-escapes b h t k x =
    record { begins = λ d. refl; others = λ m d. fresh-off d b h t k m x; goes_on = λ d c. refl; unfinished = λ d. refl }

-- a character behind an atom
pub plain_at : (d : ℕ) (s : Text) (i : ℕ) → i < length s → is_single_char (get_or s i 0) ≡ true → scan (go d atom) (drop i s) ≡ scan (go d atom) (drop (i + 1) s)
unfolding pattern_step
plain_at d s i h e = to_at (go d atom) s i h (rw (plain-unmarked _ e, plain-fresh d _ e))

pub plain-no_tail : (b : ℕ) → is_single_char b ≡ true → is_branch_end b ≡ false
unfolding is_branch_end is_single_char is_normal char_but is_char contains bytes between
plain-no_tail b e = rw (differs is_single_char 124 e refl, differs is_single_char 41 e refl)

-- a character in a class
pub in_class_at : (d : ℕ) (s : Text) (i : ℕ) → i < length s → is_in_class (get_or s i 0) ≡ true → scan (go d Mode.class) (drop i s) ≡ scan (go d Mode.class) (drop (i + 1) s)
unfolding pattern_step class_step is_in_class char_but is_char contains bytes between
in_class_at d s i h e =
    let b = get_or s i 0 in
    to_at (go d Mode.class) s i h (rw (differs is_in_class 93 e refl, differs is_in_class 92 e refl, e))

-- a run of bytes of one class, n bytes before the end: the scan goes on at the first that is no such one, or at the end
module _ (P : ℕ → Bool) (m : Mode) (s : Text) (on : (d i : ℕ) → i < length s → P (get_or s i 0) ≡ true → scan (go d m) (drop i s) ≡ scan (go d m) (drop (i + 1) s)) where
  pub run-found : (n at : ℕ) → at + n ≡ length s → Goes s m at m at (unwrap_or (find (λ (i : ℕ). not (P (get_or s i 0))) (range_with_len at n)) (length s)) (λ b. not (P b))
  run-found zero at h = rw (sym h) (record { onward = omega arith; within = omega arith; stops = λ l. absurd (omega arith); reads = λ d. rw (add-zero at) refl })
  run-found (suc n) at h =
      bool_cases (P (get_or s at 0))
      (λ e. let g = run-found n (at + 1) (omega arith) in
      rw e (record { onward = omega (arith, g.onward); within = g.within; stops = g.stops; reads = λ d. on d at (omega arith) e ∙ g.reads d }))
      (λ e. rw e (record { onward = omega arith; within = omega arith; stops = λ l. rw e; reads = λ d. refl }))

-- .. whatever byte it is
pub any-stop : {s : Text} {m n : Mode} {at least e : ℕ} {P : ℕ → Bool} → Goes s m at n least e P → Goes s m at n least e any_byte
any-stop g = record { onward = g.onward; within = g.within; stops = λ _. refl; reads = g.reads }
