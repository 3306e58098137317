-- Rows in order that pass the tests of row 0 are the rows of items and of a context. Assumes nothing.
use mathlib.Core.Path.{◌≡◌, refl, sym, ap, ◌∙◌}
use mathlib.Core.Bool.{Bool, true, false, not, ◌&&◌, ◌||◌, or-false, false≢true}
use mathlib.Core.List.{List, [], ◌∷◌, ◌++◌, append-nil, append_assoc}
use mathlib.Core.Option.{Option, some, none}
use Prim.Native.Nat.{ℕ, zero, suc, ◌+◌, ◌≤◌}
use native.Mathlib.Omega.{arith}
use lib.Dec.{eqb, leb}
use borrow.Author.Tests.{eqb-true}
use Rattle.text.specs.Text.{Text, every, is_text, between}
use Rattle.text.proofs.Laws.Texts.{between-low}
use Rattle.text.proofs.Laws.Tests.{three, and-true-left, and-true-right, and-true}
use Rattle.sheet.specs.Rows.{Row, row}
use Rattle.sheet.specs.Form.{is_flag}
use Rattle.xsd_types.specs.Types.{SimpleType, ComplexContent, Item}
use Rattle.xsd_types.specs.State.{ComplexContentBuilder, Context, facet_ok, namespace_ok, content_ok, started, item_ok, schema_nesting_ok, context_ok}
use Rattle.xsd_types.specs.Rows.{simple_type_rows, complex_type_rows, item_rows, items_rows, context_rows, context_number, nesting, content_flag, extension_flag}
use Rattle.xsd_types.specs.Good.{last_head, context_test}
use Rattle.xsd_types.proofs.Laws.Row0.{nested_ok}
use Rattle.xsd_types.proofs.Laws.Order.{tags}
use Rattle.xsd_types.proofs.Laws.Groups.{head_tag}
use Rattle.xsd_types.proofs.Laws.Items.{group-item, group-complex, head-complex}
use Rattle.xsd_types.proofs.Laws.Made.{head-behind}
use Rattle.xsd_types.proofs.Laws.Rows.{bit-again}
use Rattle.xsd_types.proofs.Laws.Parse.{still_rows}
use Rattle.text.proofs.Laws.Every.{every_append}

-- the items and the context of rows, for the choice and row 0's context, nesting, open tags and extension flag
pub record Opened (by_standard : Bool) (n depth open_tags flag : ℕ) (rs : List Row) : Type 0 where
  pub items : List Item
  pub context : Context
  pub same : rs ≡ items_rows items ++ context_rows context
  pub items_ok : every item_ok items ≡ true
  pub context_is_ok : context_ok by_standard context open_tags ≡ true
  pub number_is : context_number context ≡ n
  pub depth_is : nesting context ≡ depth
  pub flag_is : extension_flag context ≡ flag

-- a list that is empty or has a last element
pub data Ended {A : Type 0} : List A → Type 0 where
  nothing : Ended []
  last : (xs : List A) (x : A) → Ended (xs ++ (x ∷ []))

pub ended-cons : {A : Type 0} (y : A) {xs : List A} → Ended xs → Ended (y ∷ xs)
ended-cons y nothing = Ended.last [] y
ended-cons y (last xs x) = Ended.last (y ∷ xs) x

pub ended : {A : Type 0} (xs : List A) → Ended xs
ended [] = Ended.nothing
ended (x ∷ xs) = ended-cons x (ended xs)

pub items_rows-last : (is : List Item) (i : Item) → items_rows (is ++ (i ∷ [])) ≡ items_rows is ++ item_rows i
unfolding items_rows
items_rows-last [] i = append-nil (item_rows i)
items_rows-last (j ∷ is) i = rw (items_rows-last is i) (sym (append_assoc (item_rows j) (items_rows is) (item_rows i)))

-- a content with the flag that row 0 gives simple content
unfoldable pub flagged : ComplexContent → Bool → ComplexContentBuilder
flagged (ComplexContent.sequence es) f = ComplexContentBuilder.sequence es
flagged (ComplexContent.choice vs) f = ComplexContentBuilder.choice vs
flagged (ComplexContent.simple_content base xs) f = ComplexContentBuilder.simple_content base xs f
flagged (ComplexContent.any n) f = ComplexContentBuilder.any n

pub flagged-rows : (event : ℕ) (name : Text) (c : ComplexContent) (f : Bool) → complex_type_rows event name (started c) ≡ complex_type_rows event name (flagged c f)
unfolding complex_type_rows started flagged
flagged-rows event name (ComplexContent.sequence es) f = refl
flagged-rows event name (ComplexContent.choice vs) f = refl
flagged-rows event name (ComplexContent.simple_content base xs) f = refl
flagged-rows event name (ComplexContent.any n) f = refl

pub flagged-ok : (c : ComplexContent) (f : Bool) → content_ok (started c) ≡ content_ok (flagged c f)
unfolding content_ok started flagged
flagged-ok (ComplexContent.sequence es) f = refl
flagged-ok (ComplexContent.choice vs) f = refl
flagged-ok (ComplexContent.simple_content base xs) f = refl
flagged-ok (ComplexContent.any n) f = refl

pub zero_flag : (b : ℕ) → eqb b 0 || false ≡ true → 0 ≡ b
zero_flag b e = sym (eqb-true b 0 (rw (or-false (eqb b 0)) at e))

pub flagged-flag : (event : ℕ) (name : Text) (c : ComplexContent) (b : ℕ) → is_flag b ≡ true → eqb b 0 || eqb (head_tag (complex_type_rows event name (started c))) 14 ≡ true
    → content_flag (flagged c (eqb b 1)) ≡ b
unfolding complex_type_rows started flagged content_flag head_tag row
flagged-flag event name (ComplexContent.sequence es) b f e = zero_flag b e
flagged-flag event name (ComplexContent.choice vs) b f e = zero_flag b e
flagged-flag event name (ComplexContent.simple_content base xs) b f e = bit-again b f
flagged-flag event name (ComplexContent.any none) b f e = zero_flag b e
flagged-flag event name (ComplexContent.any (some n)) b f e = zero_flag b e

-- behind items the rows' last head is the type's that stands there
pub head-still : (is : List Item) (event : ℕ) (name : Text) → last_head 0 (tags (items_rows is ++ complex_type_rows event name ComplexContentBuilder.empty)) ≡ 16
unfolding head_tag complex_type_rows row
head-still is event name = head-behind 0 (items_rows is) (complex_type_rows event name ComplexContentBuilder.empty) (group-complex event name ComplexContentBuilder.empty)

pub head-last : (is : List Item) (i : Item) → last_head 0 (tags (items_rows is ++ item_rows i)) ≡ head_tag (item_rows i)
head-last is i = head-behind 0 (items_rows is) (item_rows i) (group-item i)

-- contexts 0 and 1: no type is open
pub none_open : (is : List Item) (event : ℕ) (st : Option Text) → not (eqb (last_head 0 (tags (items_rows is ++ still_rows event st))) 16) ≡ true → still_rows event st ≡ []
unfolding still_rows
none_open is event none e = refl
none_open is event (some name) e = absurd (false≢true (rw (head-still is event name) at e))

module _ (by_standard : Bool) (depth open_tags flag : ℕ) (rs : List Row) (is : List Item) (ok : every item_ok is ≡ true) where
  pub open_none : rs ≡ items_rows is ++ [] → 0 ≡ depth → 0 ≡ flag → Opened by_standard 0 depth open_tags flag rs
  unfolding context_rows context_ok context_number nesting extension_flag
  open_none e d f = record { items = is; context = Context.no_context; same = e; items_ok = ok; context_is_ok = refl; number_is = refl; depth_is = d; flag_is = f }

  pub open-schema : rs ≡ items_rows is ++ [] → 0 ≡ flag → schema_nesting_ok by_standard depth && leb (depth + 1) open_tags ≡ true → Opened by_standard 1 depth open_tags flag rs
  unfolding context_rows context_ok context_number nesting extension_flag
  open-schema e f l = record { items = is; context = Context.in_schema depth; same = e; items_ok = ok; context_is_ok = l; number_is = refl; depth_is = refl; flag_is = f }

  pub open-simple_type : (t : SimpleType) → item_ok (Item.simple_type t) ≡ true → leb (depth + 2) open_tags ≡ true → 0 ≡ flag
      → rs ≡ items_rows is ++ item_rows (Item.simple_type t) → Opened by_standard 2 depth open_tags flag rs
  unfolding item_rows context_rows context_ok context_number nesting extension_flag item_ok
  open-simple_type t o l f e =
      let v = three (is_text t.name) (is_text t.base) (every facet_ok t.facets) o in
      let c = Context.in_simple_type (record { head = record { name = t.name; event = t.event }; base = t.base; facets = t.facets; nesting_depth = depth }) in
      record { items = is; context = c; same = e; items_ok = ok; context_is_ok = and-true (and-true (and-true l v.0) v.1) v.2; number_is = refl; depth_is = refl; flag_is = f }

  pub open-simple : (i : Item) → item_ok i ≡ true → eqb (head_tag (item_rows i)) 3 ≡ true → leb (depth + 2) open_tags ≡ true → 0 ≡ flag → rs ≡ items_rows is ++ item_rows i
      → Opened by_standard 2 depth open_tags flag rs
  unfolding item_rows head_tag row
  open-simple (Item.element t) o h l f e = absurd (false≢true h)
  open-simple (Item.simple_type t) o h l f e = open-simple_type t o l f e
  open-simple (Item.complex_type t) o h l f e =
      let k = head_tag (complex_type_rows t.event t.name (started t.content)) in
      absurd (omega (arith, eqb-true k 3 h, between-low 12 16 k (head-complex t.event t.name (started t.content))))

  pub open-content : (event : ℕ) (name : Text) (c : ComplexContentBuilder) → is_text name ≡ true → content_ok c ≡ true → leb (depth + 2) open_tags ≡ true
      → content_flag c ≡ flag → rs ≡ items_rows is ++ complex_type_rows event name c → Opened by_standard 3 depth open_tags flag rs
  unfolding context_rows context_ok context_number nesting extension_flag
  open-content event name c o p l f e =
      let d = Context.in_complex_type (record { head = record { name = name; event = event }; content = c; nesting_depth = depth }) in
      record { items = is; context = d; same = e; items_ok = ok; context_is_ok = and-true (and-true l o) p; number_is = refl; depth_is = refl; flag_is = f }

  pub open-empty : (event : ℕ) (name : Text) → is_text name ≡ true → leb (depth + 2) open_tags ≡ true → 0 ≡ flag
      → rs ≡ items_rows is ++ complex_type_rows event name ComplexContentBuilder.empty → Opened by_standard 3 depth open_tags flag rs
  unfolding content_ok content_flag
  open-empty event name o l f e = open-content event name ComplexContentBuilder.empty o refl l f e

  pub open-complex : (i : Item) → item_ok i ≡ true → between 12 16 (head_tag (item_rows i)) ≡ true → leb (depth + 2) open_tags ≡ true → is_flag flag ≡ true
      → eqb flag 0 || eqb (head_tag (item_rows i)) 14 ≡ true → rs ≡ items_rows is ++ item_rows i → Opened by_standard 3 depth open_tags flag rs
  unfolding item_rows simple_type_rows head_tag row between item_ok
  open-complex (Item.element t) o h l f x e = absurd (false≢true h)
  open-complex (Item.simple_type t) o h l f x e = absurd (false≢true h)
  open-complex (Item.complex_type t) o h l f x e =
      let p = rw (flagged-ok t.content (eqb flag 1)) at (and-true-right (is_text t.name) _ o) in
      let same = e ∙ ap (λ (l : List Row). items_rows is ++ l) (flagged-rows t.event t.name t.content (eqb flag 1)) in
      open-content t.event t.name (flagged t.content (eqb flag 1)) (and-true-left _ _ o) p l (flagged-flag t.event t.name t.content flag f x) same

-- how rows end that are items and at most one type with no content yet
pub data Ends (rs : List Row) : Type 0 where
  nowhere : last_head 0 (tags rs) ≡ 0 → Ends rs
  finished : (is : List Item) (i : Item) → every item_ok is ≡ true → item_ok i ≡ true → rs ≡ items_rows is ++ item_rows i → last_head 0 (tags rs) ≡ head_tag (item_rows i) → Ends rs
  absent : (is : List Item) (event : ℕ) (name : Text) → every item_ok is ≡ true → is_text name ≡ true
      → rs ≡ items_rows is ++ complex_type_rows event name ComplexContentBuilder.empty → last_head 0 (tags rs) ≡ 16 → Ends rs

module _ (rs : List Row) where
  pub ends-items : {is : List Item} → Ended is → every item_ok is ≡ true → rs ≡ items_rows is ++ [] → Ends rs
  unfolding items_rows last_head every
  ends-items nothing ok e = Ends.nowhere (rw e)
  ends-items (last is i) ok e =
      let both = rw (every_append item_ok is (i ∷ [])) at ok in
      let same : rs ≡ items_rows is ++ item_rows i = e ∙ append-nil (items_rows (is ++ (i ∷ []))) ∙ items_rows-last is i in
      Ends.finished is i (and-true-left _ _ both) (and-true-left _ _ (and-true-right (every item_ok is) (every item_ok (i ∷ [])) both)) same (rw same (head-last is i))

  pub ends : (is : List Item) → every item_ok is ≡ true → (event : ℕ) (st : Option Text) → namespace_ok st ≡ true → rs ≡ items_rows is ++ still_rows event st → Ends rs
  unfolding still_rows namespace_ok
  ends is ok event none o e = ends-items (ended is) ok e
  ends is ok event (some name) o e = Ends.absent is event name ok o e (rw e (head-still is event name))

-- contexts 2 and 3: the last type is open
module _ (by_standard : Bool) (depth open_tags flag : ℕ) (rs : List Row) (l : leb (depth + 2) open_tags ≡ true) where
  pub open-two : Ends rs → eqb (last_head 0 (tags rs)) 3 ≡ true → 0 ≡ flag → Opened by_standard 2 depth open_tags flag rs
  open-two (nowhere n) h f = absurd (false≢true (rw n at h))
  open-two (finished is i ok o e n) h f = open-simple by_standard depth open_tags flag rs is ok i o (rw n at h) l f e
  open-two (absent is event name ok o e n) h f = absurd (false≢true (rw n at h))

  pub open-three : Ends rs → between 12 16 (last_head 0 (tags rs)) ≡ true → is_flag flag ≡ true → eqb flag 0 || eqb (last_head 0 (tags rs)) 14 ≡ true → Opened by_standard 3 depth open_tags flag rs
  unfolding between
  open-three (nowhere n) h f x = absurd (false≢true (rw n at h))
  open-three (finished is i ok o e n) h f x = open-complex by_standard depth open_tags flag rs is ok i o (rw n at h) l f (rw n at x) e
  open-three (absent is event name ok o e n) h f x = open-empty by_standard depth open_tags flag rs is ok event name o l (zero_flag flag (rw n at x)) e

-- the tests of row 0
module _ (by_standard : Bool) (depth open_tags flag : ℕ) (rs : List Row) (is : List Item) (ok : every item_ok is ≡ true) (event : ℕ) (st : Option Text)
    (st_ok : namespace_ok st ≡ true) (same : rs ≡ items_rows is ++ still_rows event st) (f : is_flag flag ≡ true) where
  pub shut : not (eqb (last_head 0 (tags rs)) 16) ≡ true → rs ≡ items_rows is ++ []
  shut c = same ∙ ap (λ (l : List Row). items_rows is ++ l) (none_open is event st (rw same at c))

  pub opened : (n : ℕ) → n ≤ 3
      → nested_ok by_standard n depth open_tags ≡ true
      → context_test n (last_head 0 (tags rs)) ≡ true
      → eqb flag 0 || (eqb n 3 && eqb (last_head 0 (tags rs)) 14) ≡ true → Opened by_standard n depth open_tags flag rs
  unfolding context_test nested_ok
  opened zero h d c x = open_none by_standard depth open_tags flag rs is ok (shut c) (sym (eqb-true depth 0 d)) (zero_flag flag x)
  opened (suc zero) h d c x = open-schema by_standard depth open_tags flag rs is ok (shut c) (zero_flag flag x) d
  opened (suc (suc zero)) h d c x = open-two by_standard depth open_tags flag rs d (ends rs is ok event st st_ok same) c (zero_flag flag x)
  opened (suc (suc (suc zero))) h d c x = open-three by_standard depth open_tags flag rs d (ends rs is ok event st st_ok same) c f x
  opened (suc (suc (suc (suc n)))) h d c x = absurd (omega arith)
