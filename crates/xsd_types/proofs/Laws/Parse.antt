-- Rows in order are items, one behind another, and at most one type with no content yet behind them. Assumes nothing.
use mathlib.Core.Path.{◌≡◌, refl, sym, ap, ◌∙◌}
use mathlib.Core.Logic.{◌⊎◌, inl, inr}
use mathlib.Core.Bool.{true, false, not, false≢true}
use mathlib.Core.List.{List, [], ◌∷◌, ◌++◌, append_assoc}
use mathlib.Core.Option.{Option, some, none}
use Prim.Native.Nat.{ℕ}
use lib.Dec.{eqb}
use Rattle.text.specs.Text.{Text, every, is_text}
use Rattle.std.proofs.lemmas.Bool.{cases_Bool}
use Rattle.text.proofs.Laws.Tests.{and-true-left, and-true-right, and-true}
use Rattle.sheet.specs.Rows.{Row}
use Rattle.xsd_types.specs.Types.{Item}
use Rattle.xsd_types.specs.State.{ComplexContentBuilder, namespace_ok, item_ok}
use Rattle.xsd_types.specs.Rows.{complex_type_rows, item_rows, items_rows}
use Rattle.xsd_types.specs.Good.{is_head, is_child, may_follow, head_after, in_order}
use Rattle.xsd_types.proofs.Laws.Order.{tags, after-child, after-head}
use Rattle.xsd_types.proofs.Laws.Heads.{full_row, full-sound, full-word, loose_row, head_tags, Headed, headed}
use Rattle.text.proofs.Laws.Every.{every-head, every-tail}

unfoldable pub still_rows : ℕ → Option Text → List Row
still_rows event none = []
still_rows event (some name) = complex_type_rows event name ComplexContentBuilder.empty

-- the rows behind a head h: children of it, then items, then at most one type with no content yet
pub record Parsed (h : ℕ) (rs : List Row) : Type 0 where
  pub loose : List Row
  pub items : List Item
  pub event : ℕ
  pub still : Option Text
  pub same : rs ≡ loose ++ (items_rows items ++ still_rows event still)
  pub loose_ok : every (loose_row h) loose ≡ true
  pub items_ok : every item_ok items ≡ true
  pub still_ok : namespace_ok still ≡ true

pub nothing-behind : (rs : List Row) → in_order 16 (tags rs) ≡ true → rs ≡ []
unfolding in_order may_follow
nothing-behind [] e = refl
nothing-behind (r ∷ rs) e = absurd (false≢true e)

module _ (h : ℕ) (r : Row) (rs : List Row) (full : full_row r ≡ true) where
  -- a child of the head before it
  pub parse-child : is_child h r.tag ≡ true → Parsed h rs → Parsed h (r ∷ rs)
  unfolding every loose_row
  parse-child c p =
      let same = ap (λ (l : List Row). r ∷ l) p.same in
      record { loose = r ∷ p.loose; items = p.items; event = p.event; still = p.still; same = same; loose_ok = and-true (and-true full c) p.loose_ok; items_ok = p.items_ok; still_ok = p.still_ok }

  -- a new head: an item, or a type with no content yet
  pub parse-item : (p : Parsed r.tag rs) (i : Item) → item_ok i ≡ true → r ∷ p.loose ≡ item_rows i → Parsed h (r ∷ rs)
  unfolding every items_rows
  parse-item p i ok e =
      let rest = items_rows p.items ++ still_rows p.event p.still in
      let same = ap (λ (l : List Row). r ∷ l) p.same ∙ ap (λ (l : List Row). l ++ rest) e ∙ sym (append_assoc (item_rows i) (items_rows p.items) (still_rows p.event p.still)) in
      record { loose = []; items = i ∷ p.items; event = p.event; still = p.still; same = same; loose_ok = refl; items_ok = and-true ok p.items_ok; still_ok = p.still_ok }

  pub parse-still : in_order r.tag (tags rs) ≡ true → (event : ℕ) (name : Text) → is_text name ≡ true → r.tag ≡ 16
      → r ∷ [] ≡ complex_type_rows event name ComplexContentBuilder.empty → Parsed h (r ∷ rs)
  unfolding every items_rows still_rows namespace_ok
  parse-still o event name ok t e =
      let same = ap (λ (l : List Row). r ∷ l) (nothing-behind rs (rw t at o)) ∙ e in
      record { loose = []; items = []; event = event; still = some name; same = same; loose_ok = refl; items_ok = refl; still_ok = ok }

  pub parse-head : in_order r.tag (tags rs) ≡ true → (p : Parsed r.tag rs) → Headed r p.loose → Parsed h (r ∷ rs)
  parse-head o p (Headed.item i ok e) = parse-item p i ok e
  parse-head o p (Headed.still event name ok t e) = parse-still o event name ok t e

  -- the row decides which
  pub parse-row : may_follow h r.tag ≡ true → in_order (head_after h r.tag) (tags rs) ≡ true → Parsed (head_after h r.tag) rs
      → (is_head r.tag ≡ true) ⊎ (is_head r.tag ≡ false) → Parsed h (r ∷ rs)
  unfolding may_follow
  parse-row m o p (inl e) =
      let q : Parsed r.tag rs = rw (after-head h r.tag e) at p in
      parse-head (rw (after-head h r.tag e) at o) q (headed r q.loose (full-sound r full) (full-word r full) (head_tags r.tag e) refl q.loose_ok)
  parse-row m o p (inr e) =
      let c : is_child h r.tag ≡ true = rw e at (and-true-right (not (eqb h 16)) _ m) in
      parse-child c (rw (after-child h r.tag c) at p)

pub parse : (h : ℕ) (rs : List Row) → every full_row rs ≡ true → in_order h (tags rs) ≡ true → Parsed h rs
unfolding in_order items_rows still_rows every namespace_ok
parse h [] f o = record { loose = []; items = []; event = 0; still = none; same = refl; loose_ok = refl; items_ok = refl; still_ok = refl }
parse h (r ∷ rs) f o =
    let m : may_follow h r.tag ≡ true = and-true-left _ _ o in
    let n = and-true-right (may_follow h r.tag) (in_order (head_after h r.tag) (tags rs)) o in
    parse-row h r rs (every-head full_row r rs f) m n (parse (head_after h r.tag) rs (every-tail full_row r rs f) n) (cases_Bool (is_head r.tag))
