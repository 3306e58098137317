-- `text::local_is` meets its contract: a word without a colon is the local name of a part that ends with it and has nothing or a colon before it.
-- Assumes nothing.
use Rattle.std.proofs.Common.{◌≡◌, ℕ, suc, ◌-◌, ◌<◌, ◌∙◌, true, sym, ap, arith, length, get_or, drop, nat_eq}
use Rattle.std.specs.Cmp.Lexicographic.{pointwise}
use Rattle.std.proofs.lemmas.List.{get_or-take}
use Rattle.text.specs.Text.{Text}
use Rattle.text.proofs.Laws.Texts.{same-eq}
use Rattle.text.proofs.Laws.Local.{local-other, local-whole, local-behind}
use Rattle.text.proofs.Laws.Std.{same_is}
use Rattle.text.proofs.local_is.Goals as goal

-- the part ends with the word
ending : (part word : Text) → pointwise nat_eq (drop (length part - length word) part) word ≡ true → drop (length part - length word) part ≡ word
ending part word e = same-eq _ word (sym (same_is _ word) ∙ e)

pub returns-in-None : goal.returns-in-None
returns-in-None c =
    let a = c.args in
    sym (local-other a.part.now a.word.now (sym (same_is _ a.word.now) ∙ c.in-None.ensures.cases))

pub returns-in-Some-empty : goal.returns-in-Some-empty
returns-in-Some-empty c =
    let part = c.args.part.now in
    let word = c.args.word.now in
    let h = c.in-Some-empty.ensures.cases in
    let none : length part - length word ≡ 0 = omega (arith, h.2) in
    sym (local-whole part word c.requires (ap (λ (i : ℕ). drop i part) (sym none) ∙ ending part word h.0))

pub returns-in-Some-len1-up : goal.returns-in-Some-len1-up
returns-in-Some-len1-up c =
    let part = c.args.part.now in
    let word = c.args.word.now in
    let before = c.in-Some-len1-up.field-0.now in
    let h = c.in-Some-len1-up.ensures.cases in
    let n : suc (length before - 1) ≡ length part - length word = omega (arith, h.2) in
    let last : length before - 1 < length part - length word = omega arith in
    ap (λ (s : Text). nat_eq (get_or s (length before - 1) 0) 58) h.1
    ∙ ap (λ (b : ℕ). nat_eq b 58) (get_or-take _ part (length before - 1) 0 last)
    ∙ sym (local-behind part word c.requires (length before - 1) n (ap (λ (i : ℕ). drop i part) n ∙ ending part word h.0))
