-- A hash is below 2^32, and a bucket below their number; a name's bytes go in one by one. Assumes nothing.
use Prim.Native.Nat.{ℕ, zero, suc, ◌+◌, ◌*◌, ◌/◌, ◌%◌, ◌≤◌, ◌<◌}
use Prim.Native.Char.{code}
use mathlib.Core.Path.{◌≡◌, refl, sym, ap, ◌∙◌}
use mathlib.Core.Bool.{Bool, true, false}
use mathlib.Core.List.{List, [], ◌∷◌}
use native.Mathlib.Numerals.{add-one}
use lib.ListN.{length, get_or, take, drop, drop_of_length-le, length-drop}
use Rattle.std.specs.Simd.{first_chunks}
use lib.Seq.{drop-cons, drop-drop, get_or-take}
use native.Mathlib.Omega.{arith}
use Rattle.std.proofs.Math.Nat.{add-mul-mod_self_left}
use native.Mathlib.Nat.{mul-le-mul, mul-lt-mul_of_pos_right}
use Rattle.text.specs.Text.{Text, contains}
use Rattle.names.specs.Same.{spelled}
use Rattle.names.proofs.Laws.Names.{normalize-plain}
use Rattle.name_index.specs.Hash.{mixed, hash_from, hash, bucket_of}

pub mixed-below : (h b : ℕ) → mixed h b < 4294967296
unfolding mixed
mixed-below h b = omega arith

-- a byte goes in, whether the hash was reduced before or not
mixed-mod : (x b : ℕ) → mixed (x % 4294967296) b ≡ mixed x b
unfolding mixed
mixed-mod x b = omega arith

-- four bytes go in at once, by the powers of the factor
pub mixed-four : (h a b c d : ℕ) → ((h + a) * 527875265 + b * 3422824465 + c * 4293315681 + d * 2654435761) % 4294967296 ≡ mixed (mixed (mixed (mixed h a) b) c) d
unfolding mixed
mixed-four h a b c d =
    let k : ℕ = 2654435761 in
    let one = (h + a) * k in
    let two = (one + b) * k in
    let three = (two + c) * k in
    let four = (h + a) * 527875265 + b * 3422824465 + c * 4293315681 + d * 2654435761 in
    let whole = (h + a) * 11559232980470552387898399731 + b * 4354685523116922921 + c * 1640531515 in
    let all : (three + d) * k ≡ four + 4294967296 * whole = omega arith in
    sym (ap (λ (x : ℕ). x % 4294967296) all ∙ add-mul-mod_self_left _ 4294967296 _)
    ∙ sym (mixed-mod three d) ∙ ap (λ (x : ℕ). mixed x d) (sym (mixed-mod two c) ∙ ap (λ (x : ℕ). mixed x c) (sym (mixed-mod one b)))

-- the first four bytes of a text go in
abbrev four_in : ℕ → Text → ℕ
four_in h s = mixed (mixed (mixed (mixed h (get_or s 0 0)) (get_or s 1 0)) (get_or s 2 0)) (get_or s 3 0)

hash-fours : (h : ℕ) (s : Text) → 4 ≤ length s → hash_from (four_in h s) (drop 4 s) ≡ hash_from h s
unfolding hash_from
hash-fours h [] l = absurd (let no : ⊥ = omega arith in no)
hash-fours h (a ∷ []) l = absurd (let no : ⊥ = omega arith in no)
hash-fours h (a ∷ b ∷ []) l = absurd (let no : ⊥ = omega arith in no)
hash-fours h (a ∷ b ∷ c ∷ []) l = absurd (let no : ⊥ = omega arith in no)
hash-fours h (a ∷ b ∷ c ∷ d ∷ s) l = refl

-- a text in chunks of four: chunk i is of the bytes from 4 * i on
chunk-at : (k : ℕ) (s : Text) (i : ℕ) (z : Text) → i < k → get_or (first_chunks 4 k s) i z ≡ take 4 (drop (4 * i) s)
chunk-at zero s i z l = absurd (let no : ⊥ = omega arith in no)
chunk-at (suc k) s zero z l = refl
chunk-at (suc k) s (suc i) z l =
    let next : 4 * suc i ≡ 4 + 4 * i = omega arith in
    chunk-at k (drop 4 s) i z (omega arith) ∙ rw next (ap (take 4) (drop-drop (4 * i) 4 s))

pub hash-chunk : (h : ℕ) (s : Text) (fours : List Text) (i : ℕ) (z : Text) → fours ≡ first_chunks 4 (length s / 4) s → i < length s / 4
    → hash_from (four_in h (get_or fours i z)) (drop (4 * (i + 1)) s) ≡ hash_from h (drop (4 * i) s)
hash-chunk h s fours i z e l =
    let t = drop (4 * i) s in
    let next : 4 * (i + 1) ≡ 4 * i + 4 = omega arith in
    let byte : (j : ℕ) → j < 4 → get_or (take 4 t) j 0 ≡ get_or t j 0 = λ j b. get_or-take 4 t j 0 b in
    rw (e, chunk-at (length s / 4) s i z l, next, ← drop-drop 4 (4 * i) s, byte 0 (omega arith), byte 1 (omega arith), byte 2 (omega arith), byte 3 (omega arith))
    (hash-fours h t (rw length-drop (omega arith)))

-- the byte at a place goes in, and behind the last nothing is left
pub hash-on : (h : ℕ) (s : Text) (i : ℕ) → i < length s → hash_from h (drop i s) ≡ hash_from (mixed h (get_or s i 0)) (drop (i + 1) s)
unfolding hash_from
hash-on h s i l = rw (drop-cons s i 0 l, add-one i)

pub hash-end : (h : ℕ) (s : Text) (i : ℕ) → length s ≤ i → hash_from h (drop i s) ≡ h
unfolding hash_from
hash-end h s i l = rw (drop_of_length-le s l)

-- a name without an underscore is spelled as it stands
pub spelled-plain : (normalised : Bool) (s : Text) → (normalised ≡ true → contains (code "_") s ≡ false) → spelled normalised s ≡ s
unfolding spelled
spelled-plain true s w = normalize-plain s (w refl)
spelled-plain false s w = refl

hash_from-below : (h : ℕ) (s : Text) → h < 4294967296 → hash_from h s < 4294967296
unfolding hash_from
hash_from-below h [] k = k
hash_from-below h (b ∷ s) k = hash_from-below (mixed h b) s (mixed-below h b)

pub hash-below : (s : Text) → hash s < 4294967296
unfolding hash
hash-below s = hash_from-below 0 s (omega arith)

-- a product of a number below 2^32 with k, divided by 2^32
pub share-below : (h k : ℕ) → h < 4294967296 → 0 < k → h * k / 4294967296 < k
share-below h k l m = omega (arith, mul-lt-mul_of_pos_right l m)

pub share-fits : (s : Text) (k : ℕ) → k ≤ 40960 → hash s * k ≤ 4294967296 * 40960
share-fits s k h = let l : hash s ≤ 4294967296 = omega (arith, hash-below s) in mul-le-mul l h

pub bucket-below : (k : ℕ) (s : Text) → 0 < k → bucket_of k s < k
unfolding bucket_of
bucket-below k s m = share-below (hash s) k (hash-below s) m
