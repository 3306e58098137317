-- `expression`, `branch`, `piece` and `atom` of `pattern::expression` meet their contracts, together. Assumes nothing.
use native.Mathlib.Omega.{arith}
use Prim.Native.Nat.{ℕ, suc, ◌+◌}
use mathlib.Core.Path.{◌≡◌, refl, sym, ap, ◌∙◌}
use mathlib.Core.Bool.{true}
use borrow.Author.Tests.{eqb-true}
use Rattle.pattern.specs.Grammar.{is_mark}
use Rattle.pattern.specs.Scan as scanning
use Rattle.pattern.specs.Scan.{go, scan, pattern_step, fresh, leave, final, start}
use Rattle.pattern.specs.Answers.{is_close, is_branch_end, any_byte}
use Rattle.pattern.proofs.Laws.Places.{end-at, to_at, byte-to, before, behind, open-final, close-byte, unmarked-at, unmarked-end, mark-at, marked-off}
use Rattle.pattern.proofs.Laws.Places.{atom-escapes, plain-no_tail}
use Rattle.pattern.proofs.Laws.Derived.{plain-fresh}
use Rattle.pattern.proofs.expression.+atom_branch_expression_piece.Goals.{branch-else-not-is_plain-via-then-not-is_plain+else-s-i, branch-else-not-is_plain-via-else-not-is_plain}
use Rattle.pattern.proofs.expression.+atom_branch_expression_piece.Goals as goal

closing : (b : ℕ) → is_close b ≡ true → b ≡ 41
unfolding is_close
closing b e = eqb-true b 41 e

pub atom-returns-in_err-e : goal.atom-returns-in_err-e
unfolding pattern_step fresh
atom-returns-in_err-e t c =
    rw c.from_residual.ensures (λ d. byte-to (go d start) c.args.s.now c.args.at 40 c.requires.0 c.if-b-eq40.true refl ∙ c.in_err-e.ensures (suc d))

pub atom-returns-then-s-e : goal.atom-returns-then-s-e
unfolding pattern_step fresh
atom-returns-then-s-e t c =
    let s = c.args.s.now in
    λ d. byte-to (go d start) s c.args.at 40 c.requires.0 c.if-b-eq40.true refl ∙ c.in_ok-e.ensures.reads (suc d)
    ∙ end-at (go (suc d) start) s c.in_ok-e.e c.if-s-e.true ∙ open-final d

pub atom-returns-then-b-eq40 : goal.atom-returns-then-b-eq40
unfolding pattern_step fresh leave
atom-returns-then-b-eq40 t c =
    let s = c.args.s.now in
    let g = c.in_ok-e.ensures in
    let e = c.in_ok-e.e in
    record {
      onward = omega (arith, g.onward);
      within = omega arith;
      stops = λ _. refl;
      reads = λ d. byte-to (go d start) s c.args.at 40 c.requires.0 c.if-b-eq40.true refl ∙ g.reads (suc d)
          ∙ byte-to (go (suc d) start) s e 41 c.if-s-e.false (closing _ (g.stops c.if-s-e.false)) refl;
    }

pub atom-returns-then-b-eq91 : goal.atom-returns-then-b-eq91
unfolding pattern_step fresh
atom-returns-then-b-eq91 t c =
    let s = c.args.s.now in
    let at = c.args.at in
    before s start scanning.opened at (at + 1) scanning.atom (at + 1) any_byte
    (λ d. byte-to (go d start) s at 91 c.requires.0 c.if-b-eq91.true refl) c.class_end.result c.class_end.ensures

pub atom-returns-then-is_plain : goal.atom-returns-then-is_plain
unfolding pattern_step
atom-returns-then-is_plain t c =
    let g = c.plain_end.ensures in
    record {
      onward = omega (arith, g.onward);
      within = g.within;
      stops = λ _. refl;
      reads = λ d. to_at (go d start) c.args.s.now c.args.at c.requires.0 (plain-fresh d _ (sym c.is_plain.ensures ∙ c.if-is_plain.true)) ∙ g.reads d;
    }

pub atom-returns : goal.atom-returns
atom-returns t c =
    c.escape.ensures start scanning.escape scanning.atom (atom-escapes _ c.if-b-eq40.false c.requires.1 c.if-b-eq91.false (sym c.is_plain.ensures ∙ c.if-is_plain.false))

pub branch-returns-then-s-i : goal.branch-returns-then-s-i
unfolding is_branch_end
branch-returns-then-s-i t c =
    let z = c.loop-i.invariant in
    record { onward = z.0; within = z.1; stops = λ _. c.if-s-i.true; reads = z.2 }

pub branch-piece-requires : goal.branch-piece-requires
unfolding is_branch_end
branch-piece-requires t c = (
  omega arith,
  (
    omega arith,
    elim c.else-not-is_plain.branch [
      | branch-else-not-is_plain-via-then-not-is_plain+else-s-i w ↦ w.if-s-i.false
      | branch-else-not-is_plain-via-else-not-is_plain w ↦ plain-no_tail _ (sym c.is_plain.ensures ∙ w.if-not-is_plain.false)
    ],
  ),
)

pub expression-returns-then-s-e-ne124 : goal.expression-returns-then-s-e-ne124
expression-returns-then-s-e-ne124 t c =
    let g = c.in_ok-e.ensures in
    record {
      onward = omega (arith, g.onward);
      within = g.within;
      stops = λ h. close-byte _ (g.stops h) c.if-s-e-ne124.true;
      reads = λ d. c.loop-e.invariant.2 d ∙ g.reads d;
    }

pub expression-loop-e-preserved : goal.expression-loop-e-preserved
unfolding pattern_step fresh
expression-loop-e-preserved t c =
    let g = c.in_ok-e.ensures in (
      omega (arith, g.onward),
      omega arith,
      λ d. c.loop-e.invariant.2 d ∙ g.reads d ∙ byte-to (go d start) c.args.s.now c.in_ok-e.e 124 c.if-s-e.false c.if-s-e-ne124.false refl,
    )

pub piece-returns-then-s-e : goal.piece-returns-then-s-e
piece-returns-then-s-e t c =
    let g = c.in_ok-e.ensures in
    behind g (omega arith) g.within (λ d. unmarked-end d c.args.s.now c.in_ok-e.e c.if-s-e.true)

pub piece-returns-then-not-is_mark : goal.piece-returns-then-not-is_mark
piece-returns-then-not-is_mark t c =
    let g = c.in_ok-e.ensures in
    behind g (omega arith) g.within (λ d. unmarked-at d c.args.s.now c.in_ok-e.e (sym c.is_mark.ensures ∙ c.if-not-is_mark.true))

pub piece-returns-then-is_mark : goal.piece-returns-then-is_mark
piece-returns-then-is_mark t c =
    let x = sym (c.is_mark-2.ensures ∙ ap is_mark c.byte_at.ensures) ∙ c.if-is_mark.true in
    λ d. c.in_ok-e.ensures.reads d ∙ mark-at d c.args.s.now c.in_ok-e.e c.if-s-e.false (sym c.is_mark.ensures ∙ c.if-not-is_mark.false) ∙ marked-off d _ x

pub piece-returns : goal.piece-returns
piece-returns t c =
    behind c.in_ok-e.ensures (omega arith) (omega arith) (λ d. mark-at d c.args.s.now c.in_ok-e.e c.if-s-e.false (sym c.is_mark.ensures ∙ c.if-not-is_mark.false))
