-- `pattern::class::class_end` meets its contract: a class that does not begin with its closing bracket is read like the rest of a class. The loop's invariant:
-- the scan goes on at i, inside the class. The measure is what is left. Assumes nothing.
use Prim.Native.Nat.{ℕ, ◌+◌}
use mathlib.Core.Bool.{not, true}
use lib.ListN.{get_or}
use borrow.Author.Tests.{ne_eqb, not-true}
use native.Mathlib.Omega.{arith}
use mathlib.Core.Path.{◌≡◌, refl, sym, ◌∙◌}
use Rattle.std.specs.Prelude.{Option, Some, None}
use Rattle.text.specs.Text.{Text}
use Rattle.pattern.specs.Grammar.{is_in_class}
use Rattle.pattern.specs.Scan.{Mode, go, pattern_step, final}
use Rattle.pattern.specs.Answers.{Ends, Escapes, is_bracket, any_byte}
use Rattle.pattern.proofs.Laws.Places.{byte-to, end-at, opened-at, bracket-first, class-escapes}
use Rattle.pattern.proofs.class.class_end.Goals as goal

pub returns-then-byte_at-eq93 : goal.returns-then-byte_at-eq93
returns-then-byte_at-eq93 c =
    bracket-first c.args.s.now c.args.at (sym c.byte_at.ensures ∙ c.if-byte_at-eq93.true)

pub loop-i-init : goal.loop-i-init
loop-i-init c =
    (omega arith, omega arith, opened-at c.args.s.now c.args.at (λ e. c.if-byte_at-eq93.false (c.byte_at.ensures ∙ e)))

pub returns-then-s-e : goal.returns-then-s-e
unfolding final
returns-then-s-e c =
    let z = c.loop-i in
    let g = c.in_class_end-e.ensures in
    λ d. z.invariant.2 d ∙ g.reads d ∙ end-at (go d Mode.class) _ c.in_class_end-e.result c.if-s-e.true

pub returns-then-s-e-eq93 : goal.returns-then-s-e-eq93
unfolding pattern_step
returns-then-s-e-eq93 c =
    let z = c.loop-i in
    let g = c.in_class_end-e.ensures in
    record {
      onward = omega (arith, g.onward);
      within = omega arith;
      stops = λ _. refl;
      reads = λ d. z.invariant.2 d ∙ g.reads d ∙ byte-to (go d Mode.class) _ c.in_class_end-e.result 93 c.if-s-e.false c.if-s-e-eq93.true refl;
    }

-- at the byte where the run of characters ends
escaped : (s : Text) (e : ℕ) (r : Option ℕ) → (get_or s e 0 ≡ 93 → ⊥) → not (is_in_class (get_or s e 0)) ≡ true
    → ((m n k : Mode) → Escapes m n k (get_or s e 0) → Ends s m e k (e + 1) any_byte r) → Ends s Mode.class e Mode.class (e + 1) any_byte r
unfolding is_bracket
escaped s e r m x f = f Mode.class Mode.class_escape Mode.class (class-escapes _ (ne_eqb _ 93 m) (not-true _ x))

pub returns-in_err-i : goal.returns-in_err-i
returns-in_err-i c =
    let g = c.in_class_end-e.ensures in
    let off = escaped c.args.s.now c.in_class_end-e.result None c.if-s-e-eq93.false (g.stops c.if-s-e.false) c.in_err-i.ensures in
    rw c.from_residual.ensures (λ d. c.loop-i.invariant.2 d ∙ g.reads d ∙ off d)

pub loop-i-preserved : goal.loop-i-preserved
loop-i-preserved c =
    let g = c.in_class_end-e.ensures in
    let h = escaped c.args.s.now c.in_class_end-e.result (Some _) c.if-s-e-eq93.false (g.stops c.if-s-e.false) c.in_ok-i.ensures in
    (omega (arith, g.onward, h.onward), h.within, λ d. c.loop-i.invariant.2 d ∙ g.reads d ∙ h.reads d)

pub loop-i-smaller : goal.loop-i-smaller
loop-i-smaller c =
    let g = c.in_class_end-e.ensures in
    let h = escaped c.args.s.now c.in_class_end-e.result (Some _) c.if-s-e-eq93.false (g.stops c.if-s-e.false) c.in_ok-i.ensures in
    omega (arith, g.onward, h.onward)

pub returns : goal.returns
unfolding final
returns c =
    let z = c.loop-i in
    λ d. z.invariant.2 d ∙ end-at (go d Mode.class) _ z.i c.loop-i-test.false
