-- `xml_parts::steps::name` meets its contract: behind a first byte below 128 stand the characters of names. Assumes nothing.
use Prim.Native.Nat.{ℕ, ◌+◌}
use native.Mathlib.Omega.{arith}
use native.Mathlib.Nat.{le_refl}
use mathlib.Core.Path.{◌≡◌, sym, ap, ◌∙◌}
use mathlib.Core.Bool.{true}
use lib.ListN.{length, drop, drop_of_length-le}
use lib.Seq.{drop-drop}
use Rattle.text.specs.Text.{Text, first}
use Rattle.text.proofs.Laws.Texts.{first-drop}
use Rattle.xml.specs.Classes.{is_name_start, is_byte_of, begins}
use Rattle.xml.specs.Steps.{behind, name, leading_name}
use Rattle.xml.proofs.Laws.Names.{name-begun, name-no-start}
use Rattle.xml_parts.proofs.Laws.Letters.{nothing-begins, one-begins, width-some}
use Rattle.xml_parts.proofs.steps.name.Goals as goal

-- a name whose first character is one byte
one-byte : (text : Text) (at end : ℕ) → is_byte_of is_name_start (first (drop at text)) ≡ true → end ≡ at + 1 + length (leading_name (drop (at + 1) text))
    → behind end (drop end text) ≡ name at (drop at text)
one-byte text at end e h =
    let s = drop at text in
    let (b, one) = one-begins text at e in
    let rest : length (leading_name (drop 1 s)) ≡ length (leading_name (drop (at + 1) text)) = ap (λ (t : Text). length (leading_name t)) (drop-drop 1 at text) in
    let whole : 1 + length (leading_name (drop 1 s)) ≡ length (leading_name s) = rw (sym one) at (width-some s b).1 in
    let k : end ≡ at + length (leading_name s) = omega (arith, h, rest, whole) in
    ap (λ (n : ℕ). behind n (drop n text)) k ∙ sym (name-begun at s b ∙ ap (behind (at + length (leading_name s))) (drop-drop (length (leading_name s)) at text))

pub returns-in_err-get : goal.returns-in_err-get
returns-in_err-get c =
    let past = drop_of_length-le c.args.text.now c.in_err-get.ensures.lookup.3 in
    rw c.from_residual.ensures (sym (name-no-start c.args.at _ (ap (begins is_name_start) past ∙ nothing-begins)))

pub name_end-requires : goal.name_end-requires
name_end-requires c = omega (arith, c.in_ok-get.ensures.lookup.3.0)

pub returns-then-in_class : goal.returns-then-in_class
returns-then-in_class c =
    let text = c.args.text.now in
    let at = c.args.at in
    let l = c.in_ok-get.ensures.lookup in
    one-byte text at c.name_end.result (ap (is_byte_of is_name_start) (first-drop text at ∙ sym (l.4 (le_refl at) 0)) ∙ sym c.in_class.ensures ∙ c.if-in_class.true) c.name_end.ensures
