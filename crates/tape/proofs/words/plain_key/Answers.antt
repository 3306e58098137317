-- `tape::words::plain_key` meets its contract: of the keys only those of the length are compared. Assumes nothing.
use Prim.Native.Nat.{ℕ}
use mathlib.Core.Path.{◌≡◌, refl, sym, ap, ◌∙◌}
use mathlib.Core.List.{List, [], ◌∷◌, map}
use lib.ListN.{length}
use Rattle.std.specs.Prelude.{Option, Some, None}
use Rattle.std.specs.Option.{option_or}
use borrow.Author.Tests.{ne_eqb}
use Rattle.text.specs.Text.{Text, bytes, every}
use Rattle.xsd_parser.specs.Words.{found}
use Rattle.tape.specs.declared.words.Key.{Key}
use Rattle.tape.specs.Keys.{numbered, key_words, key_number, key_of}
use Rattle.tape.proofs.Laws.Words.{sized, key-sized, found_none, found-then, key-found}
use native.Mathlib.Omega.{arith}
use Rattle.tape.proofs.words.plain_key.Goals as goal

-- a key looked for among those of the name's length, which are a part of all
sized_key : (xs : List (Text × Option Key)) (s : Text) {n : ℕ} {r : Option Key} → r ≡ found None xs s → length s ≡ n
    → map (λ (x : Text × Option Key). (x.0, key_number x.1)) xs ≡ sized n (numbered 0 key_words) → key_number r ≡ key_of s
sized_key xs s h e q = ap key_number h ∙ key-found xs s ∙ ap (λ (l : List (Text × ℕ)). found 9 l s) q ∙ key-sized s e

-- one of three keys, asked for one behind the other
one-of-three : (x y z : Text × Key) (s : Text) {a b c ab r : Option Key} → r ≡ option_or ab c → ab ≡ option_or a b → a ≡ found None ((x.0, Some x.1) ∷ []) s
    → b ≡ found None ((y.0, Some y.1) ∷ []) s
    → c ≡ found None ((z.0, Some z.1) ∷ []) s → r ≡ found None ((x.0, Some x.1) ∷ (y.0, Some y.1) ∷ (z.0, Some z.1) ∷ []) s
unfolding every
one-of-three x y z s h g i j k = found-then _ _ s h (found-then _ _ s g i j refl) k refl

pub returns-in-3 : goal.returns-in-3
unfolding key_words numbered sized bytes key_number
returns-in-3 c = sized_key _ c.args.name.now c.value_if.ensures c.in-3.is refl

pub returns-in-4 : goal.returns-in-4
unfolding key_words numbered sized bytes key_number
returns-in-4 c = sized_key _ c.args.name.now (one-of-three _ _ _ _ c.or-in-4.ensures c.or.ensures c.value_if-in-4.ensures c.value_if-in-4-2.ensures c.value_if-in-4-3.ensures) c.in-4.is refl

pub returns-in-5 : goal.returns-in-5
unfolding key_words numbered sized bytes key_number
returns-in-5 c = sized_key _ c.args.name.now c.value_if-in-5.ensures c.in-5.is refl

pub returns-in-9 : goal.returns-in-9
unfolding key_words numbered sized bytes key_number
returns-in-9 c = sized_key _ c.args.name.now (one-of-three _ _ _ _ c.or-in-9-2.ensures c.or-in-9.ensures c.value_if-in-9.ensures c.value_if-in-9-2.ensures c.value_if-in-9-3.ensures) c.in-9.is refl

pub returns-in-15 : goal.returns-in-15
unfolding key_words numbered sized bytes key_number
returns-in-15 c = sized_key _ c.args.name.now c.value_if-in-15.ensures c.in-15.is refl

pub returns-in_default : goal.returns-in_default
unfolding key_of key_words numbered every bytes key_number
returns-in_default c =
    let s = c.args.name.now in
    sym (found_none 9 (numbered 0 key_words) s
    (rw (
      ne_eqb 4 (length s) (λ e. omega (arith, e)),
      ne_eqb 5 (length s) (λ e. omega (arith, e)),
      ne_eqb 9 (length s) (λ e. omega (arith, e)),
      ne_eqb 3 (length s) (λ e. omega (arith, e)),
      ne_eqb 15 (length s) (λ e. omega (arith, e)),
    )))
