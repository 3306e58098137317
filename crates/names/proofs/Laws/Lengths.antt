-- How long what a conversion gives can be: a normalised name has at most one byte more than the name, a code form half as many again, a snake form twice as many.
-- Assumes nothing.
use mathlib.Core.Bool.{Bool, true, false}
use mathlib.Core.List.{[], ◌∷◌}
use Prim.Native.Nat.{ℕ, suc, ◌+◌, ◌*◌, ◌≤◌}
use Prim.Native.Char.{code}
use native.Mathlib.Omega.{arith}
use lib.ListN.{length, get_or, length-append}
use Rattle.text.specs.Text.{Text, contains}
use Rattle.text.specs.Characters.{characters, is_byte}
use Rattle.text.proofs.Laws.Tests.{if-cases}
use Rattle.text.proofs.Laws.Characters.{characters-one, characters-two, by_characters}
use Rattle.names.specs.Cases.{first_lower}
use Rattle.names.specs.Names.{normalize_type_name, starts_word, snake_from, xml_to_snake_case, code_to_pascal_case}
use Rattle.names.specs.Scans.{cased, segments}
use Rattle.names.proofs.Laws.Cases.{upper_of-longer, lower_of-longer, first_lower-length}
use Rattle.names.proofs.Laws.Names.{segments-normalize, segments-pascal}

-- the byte that a first character may have more
abbrev extra : Bool → ℕ
extra true = 1
extra false = 0

extra-most : (up : Bool) → extra up ≤ 1
extra-most true = omega arith
extra-most false = omega arith

first-longer : (up : Bool) (c : Text) → length (cased up false c) ≤ length c + extra up
unfolding cased
first-longer true c = (upper_of-longer c).by_one
first-longer false c = omega arith

cased-longer : (up lowers : Bool) (c : Text) → 2 * length (cased up lowers c) ≤ 3 * length c
unfolding cased
cased-longer true lowers c = (upper_of-longer c).by_half
cased-longer false true c = (lower_of-longer c).by_half
cased-longer false false c = omega arith

-- each separator gives way to one byte
segments-extra : (c : ℕ) (s : Text) (up : Bool) → length (segments c false up (characters s)) ≤ length s + extra up
unfolding segments characters
segments-extra c s =
    by_characters (λ u. (up : Bool) → length (segments c false up (characters u)) ≤ length u + extra up) (λ up. omega arith)
    (λ b u e h up. rw (characters-one b u e)
    (if-cases (λ (r : Text). length r ≤ suc (length u) + extra up) (is_byte c (b ∷ [])) (λ k. omega (arith, h true))
    (λ k. omega (arith, h false, length-append (cased up false (b ∷ [])) (segments c false false (characters u)), first-longer up (b ∷ [])))))
    (λ b t u e h up. rw (characters-two b t u e)
    (if-cases (λ (r : Text). length r ≤ suc (suc (length u)) + extra up) (is_byte c (b ∷ t ∷ [])) (λ k. omega (arith, h true))
    (λ k. omega (arith, h false, length-append (cased up false (b ∷ t ∷ [])) (segments c false false (characters u)), first-longer up (b ∷ t ∷ [])))))
    s

segments-half : (c : ℕ) (lowers : Bool) (s : Text) (up : Bool) → 2 * length (segments c lowers up (characters s)) ≤ 3 * length s
unfolding segments characters
segments-half c lowers s =
    by_characters (λ u. (up : Bool) → 2 * length (segments c lowers up (characters u)) ≤ 3 * length u) (λ up. omega arith)
    (λ b u e h up. rw (characters-one b u e)
    (if-cases (λ (r : Text). 2 * length r ≤ 3 * suc (length u)) (is_byte c (b ∷ [])) (λ k. omega (arith, h true))
    (λ k. omega (arith, h false, length-append (cased up lowers (b ∷ [])) (segments c lowers false (characters u)), cased-longer up lowers (b ∷ [])))))
    (λ b t u e h up. rw (characters-two b t u e)
    (if-cases (λ (r : Text). 2 * length r ≤ 3 * suc (suc (length u))) (is_byte c (b ∷ t ∷ [])) (λ k. omega (arith, h true))
    (λ k. omega (arith, h false, length-append (cased up lowers (b ∷ t ∷ [])) (segments c lowers false (characters u)), cased-longer up lowers (b ∷ t ∷ [])))))
    s

pub normalize-length : (s : Text) → length (normalize_type_name s) ≤ length s + 1
normalize-length s = omega (arith, extra-most (contains (code "_") s), rw segments-normalize at (segments-extra (code "_") s (contains (code "_") s)))

pub pascal-length : (s : Text) → 2 * length (code_to_pascal_case s) ≤ 3 * length s
pascal-length s = rw segments-pascal at (segments-half (code "-") true s true)

pub snake_from-length : (s prev : Text) → length (snake_from prev (characters s)) ≤ 2 * length s
unfolding snake_from characters
snake_from-length s =
    by_characters (λ u. (prev : Text) → length (snake_from prev (characters u)) ≤ 2 * length u) (λ prev. omega arith)
    (λ b u e h prev. rw (characters-one b u e)
    (let l = length-append (first_lower (b ∷ [])) (snake_from (b ∷ []) (characters u)) in
    let k = h (b ∷ []) in let m = first_lower-length (b ∷ []) in
    if-cases (λ (r : Text). length r ≤ 2 * suc (length u)) (starts_word prev (b ∷ []) (get_or (characters u) 0 [])) (λ w. omega arith) (λ w. omega arith)))
    (λ b t u e h prev. rw (characters-two b t u e)
    (let l = length-append (first_lower (b ∷ t ∷ [])) (snake_from (b ∷ t ∷ []) (characters u)) in
    let k = h (b ∷ t ∷ []) in let m = first_lower-length (b ∷ t ∷ []) in
    if-cases (λ (r : Text). length r ≤ 2 * suc (suc (length u))) (starts_word prev (b ∷ t ∷ []) (get_or (characters u) 0 [])) (λ w. omega arith) (λ w. omega arith)))
    s

pub snake-length : (s : Text) → length (xml_to_snake_case s) ≤ 2 * length s
unfolding xml_to_snake_case
snake-length s = snake_from-length s []
