-- `xml_parts::steps::alike_bytes` meets its contract: eight bytes more, where the parts of eight are the same and hold name bytes alone. Assumes nothing.
use Rattle.std.proofs.Common.{rules}
use native.Mathlib.Omega.{arith}
use Prim.Native.Nat.{ℕ, ◌+◌, ◌-◌, ◌<◌}
use mathlib.Core.Path.{◌≡◌, sym, ap, ◌∙◌}
use mathlib.Core.Bool.{true}
use lib.ListN.{length, get_or, take, drop, length-take, length-drop}
use Rattle.std.proofs.lemmas.List.{get_or-take, get_or-drop}
use Rattle.text.specs.Text.{Text, first}
use Rattle.text.proofs.Laws.Texts.{first-drop, same-eq}
use Rattle.xml.specs.Classes.{is_name, is_byte_of}
use Rattle.xml_parts.proofs.Laws.Alike.{BytesAlike, more-alike}
use Rattle.xml_parts.proofs.steps.alike_bytes.Goals as goal

-- a byte of a part of eight bytes
in-part : (s : Text) (i n k : ℕ) → k < n → first (drop (i + k) s) ≡ get_or (take n (drop i s)) k 0
in-part s i n k l = first-drop s (i + k) ∙ sym (get_or-take n (drop i s) k 0 l ∙ get_or-drop i s k 0)

pub loop-k-preserved : goal.loop-k-preserved
loop-k-preserved c =
    let s = c.args.text.now in
    let i = c.args.a + c.loop-k.k in
    let j = c.args.b + c.loop-k.k in
    let n = i + 8 - i in
    let m = j + 8 - j in
    let names : (k : ℕ) → k < length (take n (drop i s)) → is_byte_of is_name (get_or (take n (drop i s)) k 0) ≡ true = search rules in
    let e : take n (drop i s) ≡ take m (drop j s) = same-eq _ _ (sym c.same_bytes.ensures ∙ c.if-not-same_bytes.false) in
    let alike : BytesAlike s i j 8 = (λ k l. (
      ap (is_byte_of is_name) (in-part s i n k (omega arith)) ∙ names k (omega (arith, length-take n (drop i s), length-drop i s)),
      in-part s i n k (omega arith) ∙ ap (λ (t : Text). get_or t k 0) e ∙ sym (in-part s j m k (omega arith)),
    )) in
    more-alike s c.args.a c.args.b c.loop-k.k 8 c.loop-k.invariant (omega arith) (omega arith) alike
