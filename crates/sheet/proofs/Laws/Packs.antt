-- From rows to numbers and names, and back: rows whose texts are as many as their tag and a say come back from their numbers and names,
-- and their pairs cover the names. Assumes nothing.
use mathlib.Core.Path.{◌≡◌, refl, sym, ap, ◌∙◌}
use mathlib.Core.Bool.{Bool, true, ◌&&◌}
use mathlib.Core.List.{List, [], ◌∷◌, ◌++◌, map, append_assoc}
use Prim.Native.Nat.{ℕ, ◌+◌, ◌≤◌}
use native.Mathlib.Omega.{arith}
use native.Mathlib.Nat.{add-zero, add_assoc}
use lib.Dec.{eqb, leb}
use lib.ListN.{length, take, drop, length-append}
use lib.Seq.{drop_at, take_at, drop-drop}
use borrow.Author.Tests.{eqb-true, leb-true, eq-eqb}
use Rattle.text.specs.Text.{Text, every, is_plain, join}
use Rattle.sheet.specs.Rows.{Row, Pairs, pairs, pack_row, pack, names_of, text_at, unpack_row}
use Rattle.sheet.specs.Form.{texts_counted, pair_form, row_covers, end_of, covers, covered}
use Rattle.std.proofs.lemmas.Bool.{and_parts}
use Rattle.text.proofs.Laws.Tests.{and-true-left, and-true-right, and-true}
use Rattle.text.proofs.Laws.Every.{every-head, every-tail}
use Rattle.text.proofs.Laws.Class.{plain-append, each-plain}

pub counted-used : (used : ℕ → ℕ → ℕ) (r : Row) → texts_counted used r ≡ true → used r.tag r.a ≡ length r.texts
unfolding texts_counted
counted-used used r e = sym (eqb-true (length r.texts) (used r.tag r.a) (and-true-left _ _ e))

pub counted-small : (used : ℕ → ℕ → ℕ) (r : Row) → texts_counted used r ≡ true → length r.texts ≤ 3
unfolding texts_counted
counted-small used r e = leb-true (length r.texts) 3 (and-true-right (eqb (length r.texts) (used r.tag r.a)) (leb (length r.texts) 3) e)

module _ (names : List ℕ) (k : ℕ) (t rest : Text) (e : drop k names ≡ t ++ rest) where
  pub text-here : text_at names k (length t) ≡ t
  unfolding text_at
  text-here = rw e (take_at t rest (length t) refl)

  pub text-next : drop (k + length t) names ≡ rest
  text-next = sym (drop-drop (length t) k names) ∙ ap (λ (l : List ℕ). drop (length t) l) e ∙ drop_at t rest (length t) refl

-- the texts that a row's pairs name
unfoldable pub texts_at : List ℕ → Pairs → List Text
texts_at names p = text_at names p.at0 p.len0 ∷ text_at names p.at1 p.len1 ∷ text_at names p.at2 p.len2 ∷ []

two_back : (names : List ℕ) (k : ℕ) (t u post : Text) → drop k names ≡ t ++ (u ++ post) → text_at names k (length t) ∷ text_at names (k + length t) (length u) ∷ [] ≡ t ∷ u ∷ []
two_back names k t u post e = rw (text-here names k t (u ++ post) e, text-here names (k + length t) u post (text-next names k t (u ++ post) e))

three_back : (names : List ℕ) (k : ℕ) (t u v post : Text) → drop k names ≡ t ++ (u ++ (v ++ post)) → texts_at names (pairs k (t ∷ u ∷ v ∷ [])) ≡ t ∷ u ∷ v ∷ []
unfolding texts_at pairs
three_back names k t u v post e =
    let f = text-next names k t (u ++ (v ++ post)) e in
    rw (text-here names k t (u ++ (v ++ post)) e, text-here names (k + length t) u (v ++ post) f, text-here names (k + length t + length u) v post (text-next names (k + length t) u (v ++ post) f))

pub texts-back : (names : List ℕ) (k : ℕ) (ts : List Text) (post : Text) → length ts ≤ 3 → drop k names ≡ join ts ++ post → take (length ts) (texts_at names (pairs k ts)) ≡ ts
unfolding texts_at pairs join
texts-back names k [] post h e = refl
texts-back names k (t ∷ []) post h e = rw (text-here names k t post (e ∙ simp append_assoc))
texts-back names k (t ∷ u ∷ []) post h e = two_back names k t u post (e ∙ simp append_assoc)
texts-back names k (t ∷ u ∷ v ∷ []) post h e = three_back names k t u v post (e ∙ simp append_assoc)
texts-back names k (t ∷ u ∷ v ∷ w ∷ ts) post h e = absurd (omega arith)

module _ (used : ℕ → ℕ → ℕ) where
  pub row_back : (names : List ℕ) (k : ℕ) (r : Row) (post : Text) → texts_counted used r ≡ true → drop k names ≡ join r.texts ++ post → unpack_row used names (pack_row k r) ≡ r
  unfolding unpack_row pack_row texts_at
  row_back names k r post h e =
      let p : take (used r.tag r.a) (texts_at names (pairs k r.texts)) ≡ r.texts = rw (counted-used used r h) (texts-back names k r.texts post (counted-small used r h) e) in
      λ i. record { tag = r.tag; texts = p i; a = r.a; b = r.b; c = r.c }

  pub rows_back : (names : List ℕ) (k : ℕ) (rs : List Row) (post : Text) → every (texts_counted used) rs ≡ true → drop k names ≡ names_of rs ++ post → map (unpack_row used names) (pack k rs) ≡ rs
  unfolding pack names_of
  rows_back names k [] post h e = refl
  rows_back names k (r ∷ rs) post h e =
      let e₀ : drop k names ≡ join r.texts ++ (names_of rs ++ post) = e ∙ append_assoc (join r.texts) (names_of rs) post in
      let first = row_back names k r _ (every-head (texts_counted used) r rs h) e₀ in
      let rest = rows_back names (k + length (join r.texts)) rs post (every-tail (texts_counted used) r rs h) (text-next names k (join r.texts) _ e₀) in
      rw (first, rest)

pub pairs-cover : (k : ℕ) (ts : List Text) → length ts ≤ 3
    → let p = pairs k ts in pair_form (leb 1 (length ts)) k p.at0 p.len0 && pair_form (leb 2 (length ts)) (k + p.len0) p.at1 p.len1
    && pair_form (leb 3 (length ts)) (k + p.len0 + p.len1) p.at2 p.len2 ≡ true
unfolding pairs pair_form
pairs-cover k [] h = refl
pairs-cover k (t ∷ []) h = rw (eq-eqb k k refl)
pairs-cover k (t ∷ u ∷ []) h = rw (eq-eqb k k refl, eq-eqb (k + length t) (k + length t) refl)
pairs-cover k (t ∷ u ∷ v ∷ []) h =
    rw (eq-eqb k k refl, eq-eqb (k + length t) (k + length t) refl, eq-eqb (k + length t + length u) (k + length t + length u) refl)
pairs-cover k (t ∷ u ∷ v ∷ w ∷ ts) h = absurd (omega arith)

pub pairs_end : (k : ℕ) (ts : List Text) → length ts ≤ 3 → let p = pairs k ts in k + p.len0 + p.len1 + p.len2 ≡ k + length (join ts)
unfolding pairs join
pairs_end k [] h = omega arith
pairs_end k (t ∷ []) h = simp length-append (omega arith)
pairs_end k (t ∷ u ∷ []) h = simp length-append (omega arith)
pairs_end k (t ∷ u ∷ v ∷ []) h = simp length-append (omega arith)
pairs_end k (t ∷ u ∷ v ∷ w ∷ ts) h = absurd (omega arith)

pub end_of-pack : (k : ℕ) (r : Row) → length r.texts ≤ 3 → end_of k (pack_row k r) ≡ k + length (join r.texts)
unfolding end_of pack_row
end_of-pack k r h = pairs_end k r.texts h

module _ (used : ℕ → ℕ → ℕ) where
  pub row_covers-pack : (k : ℕ) (r : Row) → texts_counted used r ≡ true → row_covers used k (pack_row k r) ≡ true
  unfolding row_covers pack_row
  row_covers-pack k r h = rw (counted-used used r h) (pairs-cover k r.texts (counted-small used r h))

  pub covers-pack : (k : ℕ) (rs : List Row) → every (texts_counted used) rs ≡ true → covers used k (pack k rs) ≡ true
  unfolding covers pack
  covers-pack k [] h = refl
  covers-pack k (r ∷ rs) h =
      let c = every-head (texts_counted used) r rs h in
      rw (end_of-pack k r (counted-small used r c)) (and-true (row_covers-pack k r c) (covers-pack (k + length (join r.texts)) rs (every-tail (texts_counted used) r rs h)))

  pub covered-pack : (k : ℕ) (rs : List Row) → every (texts_counted used) rs ≡ true → covered k (pack k rs) ≡ k + length (names_of rs)
  unfolding covered pack names_of
  covered-pack k [] h = omega arith
  covered-pack k (r ∷ rs) h =
      let n = counted-small used r (every-head (texts_counted used) r rs h) in
      let m = k + length (join r.texts) in
      ap (λ (e : ℕ). covered e (pack m rs)) (end_of-pack k r n) ∙ covered-pack m rs (every-tail (texts_counted used) r rs h) ∙ rw (length-append (join r.texts) (names_of rs)) (omega arith)

pub length-pack : (k : ℕ) (rs : List Row) → length (pack k rs) ≡ length rs
unfolding pack
length-pack k [] = refl
length-pack k (r ∷ rs) = rw (length-pack (k + length (join r.texts)) rs)

-- the texts of rows pass where their names are plain as a whole; `ok` is a test of texts that plain ones pass
pub plain-rows : (ok : Text → Bool) → ((s : Text) → is_plain s ≡ true → ok s ≡ true) → (rs : List Row) → is_plain (names_of rs) ≡ true → every (λ (r : Row). every ok r.texts) rs ≡ true
unfolding names_of every
plain-rows ok plain [] e = refl
plain-rows ok plain (r ∷ rs) e =
    let (x, y) = and_parts (is_plain (join r.texts)) (is_plain (names_of rs)) (sym (plain-append (join r.texts) (names_of rs)) ∙ e) in
    and-true (each-plain ok plain r.texts x) (plain-rows ok plain rs y)

-- names of two lists of rows, one behind the other
pub names_of-append : (rs ts : List Row) → names_of (rs ++ ts) ≡ names_of rs ++ names_of ts
unfolding names_of
names_of-append [] ts = refl
names_of-append (r ∷ rs) ts = rw (names_of-append rs ts, append_assoc)

pub pack-append : (k : ℕ) (rs us : List Row) → pack k (rs ++ us) ≡ pack k rs ++ pack (k + length (names_of rs)) us
unfolding pack names_of
pack-append k [] us = rw add-zero
pack-append k (r ∷ rs) us = rw (pack-append (k + length (join r.texts)) rs us, length-append, add_assoc)
