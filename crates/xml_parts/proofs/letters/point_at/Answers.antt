-- `xml_parts::letters::point_at` meets its contract: a byte that is not 0 stands inside the text, so one may look behind it. Assumes nothing.
use Prim.Native.Nat.{ℕ, suc, ◌+◌}
use native.Mathlib.Omega.{arith}
use native.Mathlib.Numerals.{add-one}
use mathlib.Core.Path.{◌≡◌, sym, ap, ◌∙◌}
use borrow.Author.Rules.{rules}
use lib.ListN.{drop}
use Rattle.text.specs.Text.{Text, first}
use Rattle.xml.specs.Classes.{point_of}
use Rattle.xml.proofs.Laws.Names.{first-inside}
use Rattle.xml_parts.specs.Answers.{point_by}
use Rattle.xml_parts.proofs.Laws.Letters.{low-point, pair-bounds}
use Rattle.xml_parts.proofs.letters.point_at.Goals as goal

tail-byte : (at : ℕ) (text : Text) {b : ℕ} → b ≡ first (drop (at + 1) text) → b ≡ first (drop (suc at) text)
tail-byte at text e = e ∙ ap (λ (k : ℕ). first (drop k text)) (add-one at)

pub returns-then-lead-eq0 : goal.returns-then-lead-eq0
returns-then-lead-eq0 c = sym (low-point _ _ (omega (arith, c.byte_at-lead.ensures, c.if-lead-eq0.true)))

pub overflow_add-at : goal.overflow_add-at
overflow_add-at c =
    let h = first-inside c.args.text.now c.args.at (λ q. c.if-lead-eq0.false (c.byte_at-lead.ensures ∙ q)) in
    search rules

pub returns-then-not-is_pair : goal.returns-then-not-is_pair
unfolding point_by
returns-then-not-is_pair c =
    let t = tail-byte c.args.at c.args.text.now c.byte_at-tail.ensures in
    rw (sym c.byte_at-lead.ensures, sym t, sym c.is_pair.ensures ∙ c.if-not-is_pair.true)

pub overflow_sub-result : goal.overflow_sub-result
overflow_sub-result c = omega (arith, pair-bounds _ _ (sym c.is_pair.ensures ∙ c.if-not-is_pair.false))

pub overflow_sub-result-2 : goal.overflow_sub-result-2
overflow_sub-result-2 c = omega (arith, pair-bounds _ _ (sym c.is_pair.ensures ∙ c.if-not-is_pair.false))

pub returns : goal.returns
unfolding point_by point_of
returns c =
    let t = tail-byte c.args.at c.args.text.now c.byte_at-tail.ensures in
    rw (sym c.byte_at-lead.ensures, sym t, sym c.is_pair.ensures ∙ c.if-not-is_pair.false)
