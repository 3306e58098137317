-- `builtin::map_builtin` meets its contract: the one name that the word can be, by its slot, is the word, or no name is. Assumes nothing.
use Rattle.std.proofs.Common.{◌≡◌, Bool, sym, ap, ◌∙◌}
use Rattle.std.specs.Cmp.Lexicographic.{pointwise}
use Rattle.std.proofs.Common.{nat_eq, ℕ}
use Rattle.std.proofs.Math.Option.{some}
use Rattle.text.specs.Text.{Text, same, is}
use Rattle.text.proofs.Laws.Std.{same_is}
use Rattle.text.proofs.Laws.Tests.{bool_cases}
use Rattle.builtin.specs.Builtin.{RustType, builtins, first_match, map_builtin}
use Rattle.builtin.specs.Answers.{entry_at, named_entry, of_builtin}
use Rattle.builtin.proofs.Laws.Builtins.{place-bound, place-hit, place_other, place_none}
use Rattle.builtin.proofs.map_builtin.Goals as goal

-- the word against the name of the entry
compared : (word name : Text) (t : RustType) (k : ℕ) {b : Bool} → (name, t) ≡ named_entry (entry_at k) → pointwise nat_eq word name ≡ b → is word (entry_at k).0 ≡ b
unfolding is
compared word name t k e h = ap (λ (n : Text × RustType). same word n.0) (sym e) ∙ sym (same_is word name) ∙ h

pub returns-in_err-builtin_place : goal.returns-in_err-builtin_place
unfolding map_builtin
returns-in_err-builtin_place c =
    let word = c.local_name-word in
    ap of_builtin c.from_residual.ensures ∙ sym (place_none word.result.now (sym c.builtin_place.ensures ∙ c.in_err-builtin_place.was))
    ∙ ap (λ (w : Text). first_match w builtins) word.ensures.bytes

pub entry_at-builtin-requires : goal.entry_at-builtin-requires
entry_at-builtin-requires c = place-bound c.local_name-word.result.now _ (sym c.builtin_place.ensures ∙ c.in_ok-builtin_place.was)

pub returns : goal.returns
unfolding map_builtin
returns c =
    let word = c.local_name-word in
    let entry = c.entry_at-builtin in
    let place = sym c.builtin_place.ensures ∙ c.in_ok-builtin_place.was in
    bool_cases c.eq.result
    (λ t. rw (c.then_some.ensures, t)
    (ap (λ (n : Text × RustType). some n.1) entry.ensures ∙ sym (place-hit word.result.now _ place (compared _ _ _ _ entry.ensures (sym c.eq.ensures ∙ t)))
    ∙ ap (λ (w : Text). first_match w builtins) word.ensures.bytes))
    (λ f. rw (c.then_some.ensures, f)
    (sym (place_other word.result.now _ place (compared _ _ _ _ entry.ensures (sym c.eq.ensures ∙ f))) ∙ ap (λ (w : Text). first_match w builtins) word.ensures.bytes))
