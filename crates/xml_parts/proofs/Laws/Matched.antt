-- A name whose bytes stand at another place too, where no name goes on behind them, is the name there. No contract cites it: an end tag's name is held against the open tag's while
-- it is read. Assumes nothing.
use Prim.Native.Nat.{ℕ, ◌+◌}
use mathlib.Core.Path.{◌≡◌, refl, sym, ap, ap₂, ◌∙◌}
use mathlib.Core.List.{◌∷◌, ◌++◌}
use mathlib.Core.Bool.{true}
use lib.ListN.{length, take, drop, take-append-drop}
use lib.Seq.{drop-drop}
use Rattle.text.specs.Text.{Text, same}
use Rattle.text.proofs.Laws.Texts.{same_refl}
use Rattle.xml.specs.Steps.{leading_name}
use Rattle.xml.proofs.Laws.Names.{by_name, name_of-none, name_of-some, name_of-pair, name_of-take}
use Rattle.xml.proofs.Laws.Written.{name_of-written}
use Rattle.xml_parts.specs.Answers.{StandsAt}

name_of-again : (s : Text) → leading_name (leading_name s) ≡ leading_name s
unfolding leading_name
name_of-again s =
    by_name (λ u. leading_name (leading_name u) ≡ leading_name u)
    (λ u e. rw (name_of-none u e) refl)
    (λ b u e h. rw (name_of-some b u e, name_of-some b (leading_name u) e) (ap (λ (t : Text). b ∷ t) h))
    (λ b t u e h. rw (name_of-pair b t u e, name_of-pair b t (leading_name u) e) (ap (λ (v : Text). b ∷ t ∷ v) h))
    s

pub same-there : (s : Text) (at n top : ℕ) → n ≡ length (leading_name (drop at s)) → StandsAt s at n top → same (leading_name (drop at s)) (leading_name (drop top s)) ≡ true
same-there s at n top e h =
    let name = leading_name (drop at s) in
    let p : take n (drop at s) ≡ name = ap (λ (k : ℕ). take k (drop at s)) e ∙ name_of-take (drop at s) in
    let d : drop top s ≡ name ++ drop (top + n) s =
    sym (take-append-drop n (drop top s)) ∙ ap₂ (λ (x y : Text). x ++ y) (sym h.bytes ∙ p) (drop-drop n top s) in
    ap (same name) (ap leading_name d ∙ name_of-written name (drop (top + n) s) (name_of-again (drop at s)) h.ends) ∙ same_refl name
