-- `pattern::class::escape` meets its contract: the first byte decides, and behind a backslash the one after it. Assumes nothing.
use Prim.Native.Nat.{◌+◌}
use mathlib.Core.Path.{sym, ap, ◌∙◌}
use Rattle.pattern.specs.Scan.{go, is_escaped}
use Rattle.pattern.proofs.Laws.Places.{off_at, byte-to, escaped-part, escaped-off}
use Rattle.pattern.proofs.class.escape.Goals as goal

pub returns-then-s-at-ne92 : goal.returns-then-s-at-ne92
returns-then-s-at-ne92 c = λ m e n p d. off_at (go d m) c.args.s.now c.args.at c.requires (p.others c.if-s-at-ne92.true d)

pub returns-then-is_escaped : goal.returns-then-is_escaped
returns-then-is_escaped c =
    let s = c.args.s.now in
    let x = sym (c.is_escaped.ensures ∙ ap is_escaped c.byte_at.ensures) ∙ c.if-is_escaped.true in
    λ m e n p. escaped-part e n p.goes_on p.unfinished s m c.args.at (λ d. byte-to (go d m) s c.args.at 92 c.requires c.if-s-at-ne92.false (p.begins d)) x

pub returns : goal.returns
returns c =
    let s = c.args.s.now in
    let x = sym (c.is_escaped.ensures ∙ ap is_escaped c.byte_at.ensures) ∙ c.if-is_escaped.false in
    λ m e n p d. byte-to (go d m) s c.args.at 92 c.requires c.if-s-at-ne92.false (p.begins d) ∙ escaped-off e n p.goes_on p.unfinished s (c.args.at + 1) x d
