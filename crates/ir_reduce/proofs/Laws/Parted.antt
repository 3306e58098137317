-- Rows parted and put together again. Assumes nothing.
use mathlib.Core.Path.{◌≡◌, refl, sym, ap, ◌∙◌}
use mathlib.Core.Bool.{Bool, true, false, not, ◌&&◌}
use mathlib.Core.List.{List, [], ◌∷◌, ◌++◌, append-nil}
use Rattle.text.specs.Text.{every}
use Rattle.text.proofs.Laws.Tests.{and-true-left, and-true-right, and-true}
use Rattle.sheet.specs.Rows.{Row}
use Rattle.ir_types.specs.Form.{is_type_tag}
use Rattle.ir_reduce.specs.Groups.{GraphType, Parted, add_graph_row, parted, rows_of_types, rows_of_parted}
use Rattle.ir_reduce.specs.Reach.{Reduced}
use Rattle.ir_reduce.proofs.Laws.Reach.{kept-every, reduced-twice}
use Rattle.std.proofs.lemmas.Bool.{not-true}

-- ---- parting loses nothing
added : (r : Row) (p : Parted) (b : Bool) → is_type_tag r.tag ≡ b → rows_of_parted (add_graph_row r p) ≡ r ∷ rows_of_parted p
unfolding rows_of_parted add_graph_row rows_of_types
added r p true e = rw e
added r p false e = rw e

pub rows-parted : (rs : List Row) → rows_of_parted (parted rs) ≡ rs
unfolding parted rows_of_parted rows_of_types
rows-parted [] = refl
rows-parted (r ∷ rs) = added r (parted rs) (is_type_tag r.tag) refl ∙ ap (λ (l : List Row). r ∷ l) (rows-parted rs)

-- ---- and what is so shaped is parted as it was
unfoldable pub is_child_row : Row → Bool
is_child_row r = not (is_type_tag r.tag)

unfoldable pub type_shaped : GraphType → Bool
type_shaped t = is_type_tag t.head.tag && every is_child_row t.children

unfoldable pub shaped : Parted → Bool
shaped p = every is_child_row p.front && every type_shaped p.types

front-on : (rs rest : List Row) → every is_child_row rs ≡ true → parted (rs ++ rest) ≡ record { front = rs ++ (parted rest).front; types = (parted rest).types }
unfolding parted add_graph_row every is_child_row
front-on [] rest h = refl
front-on (r ∷ rs) rest h =
    rw (not-true (is_type_tag r.tag) (and-true-left (not (is_type_tag r.tag)) (every is_child_row rs) h), front-on rs rest (and-true-right (not (is_type_tag r.tag)) (every is_child_row rs) h))

pub parted-types : (ts : List GraphType) → every type_shaped ts ≡ true → parted (rows_of_types ts) ≡ record { front = []; types = ts }
unfolding rows_of_types every type_shaped parted add_graph_row
parted-types [] h = refl
parted-types (t ∷ ts) h =
    let s = and-true-left (is_type_tag t.head.tag && every is_child_row t.children) (every type_shaped ts) h in
    rw (
      front-on t.children (rows_of_types ts) (and-true-right (is_type_tag t.head.tag) (every is_child_row t.children) s),
      parted-types ts (and-true-right (is_type_tag t.head.tag && every is_child_row t.children) (every type_shaped ts) h),
      and-true-left (is_type_tag t.head.tag) (every is_child_row t.children) s,
      append-nil t.children,
    )

pub parted-rows : (p : Parted) → shaped p ≡ true → parted (rows_of_parted p) ≡ p
unfolding shaped rows_of_parted
parted-rows p h =
    front-on p.front (rows_of_types p.types) (and-true-left (every is_child_row p.front) (every type_shaped p.types) h)
    ∙ rw (parted-types p.types (and-true-right (every is_child_row p.front) (every type_shaped p.types) h), append-nil p.front)

-- rows that are parted are so shaped
shaped-added : (r : Row) (p : Parted) (b : Bool) → is_type_tag r.tag ≡ b → shaped p ≡ true → shaped (add_graph_row r p) ≡ true
unfolding shaped add_graph_row every is_child_row type_shaped
shaped-added r p true e h = rw (e, e) h
shaped-added r p false e h = rw (e, e) h

pub shaped-parted : (rs : List Row) → shaped (parted rs) ≡ true
unfolding parted shaped every
shaped-parted [] = refl
shaped-parted (r ∷ rs) = shaped-added r (parted rs) (is_type_tag r.tag) refl (shaped-parted rs)

-- so the rows of a reduced graph are parted as it is: reducing them again is reducing it again
pub reduced-parted : (rs : List Row) {q : Parted} → Reduced (parted rs) q → parted (rows_of_parted q) ≡ q
unfolding shaped
reduced-parted rs {q} w =
    let s = shaped-parted rs in
    parted-rows q (and-true {a = every is_child_row q.front}
    (rw w.front (and-true-left (every is_child_row (parted rs).front) (every type_shaped (parted rs).types) s))
    (kept-every type_shaped w.types (and-true-right (every is_child_row (parted rs).front) (every type_shaped (parted rs).types) s)))

twice_of : {p q q' r : Parted} → Reduced p q → q' ≡ q → Reduced q' r → r ≡ q
twice_of w e v = reduced-twice w (rw (sym e) v)

-- "reducing twice equals reducing once", of rows
pub rows-twice : (rs : List Row) {q r : Parted} → Reduced (parted rs) q → Reduced (parted (rows_of_parted q)) r → r ≡ q
rows-twice rs w v = twice_of w (reduced-parted rs w) v
