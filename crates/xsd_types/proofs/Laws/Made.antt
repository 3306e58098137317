-- The sheet of a proper state is good, part by part, and gives the state back. Assumes nothing.
use mathlib.Core.Path.{◌≡◌, refl, ap}
use mathlib.Core.Bool.{Bool, true, false, not, ◌&&◌, ◌||◌, false≢true}
use mathlib.Core.List.{List, [], ◌∷◌, ◌++◌, map, append-nil}
use Prim.Native.Nat.{ℕ, ◌+◌}
use lib.Dec.{eqb, leb}
use lib.ListN.{length}
use Prim.Native.Nat.{◌+◌}
use Rattle.text.specs.Text.{Text, every, is_text, join}
use Rattle.std.proofs.lemmas.Bool.{or_right}
use Rattle.text.proofs.Laws.Tests.{three, four, and-true-left, and-true-right, and-true}
use Rattle.sheet.specs.Rows.{Ten, Row, row, bit, pack_row, pack, names_of}
use Rattle.sheet.specs.Form.{is_flag}
use Rattle.xsd_types.specs.Types.{Item}
use Rattle.xsd_types.specs.State.{ComplexContentBuilder, facet_ok, content_ok, Context, State, context_ok, is_no_context, is_empty}
use Rattle.xsd_types.specs.Rows.{namespace_row, simple_type_rows, complex_type_rows, item_rows, items_rows, context_rows, rows_of, context_number, nesting, content_flag}
use Rattle.xsd_types.specs.Rows.{extension_flag, rows_used, names_used, row0}
use Rattle.xsd_types.specs.Good.{in_order, last_head, ten_form, root_test, context_test}
use Rattle.xsd_types.proofs.Laws.Row0.{nested_ok}
use Rattle.xsd_types.proofs.Laws.Order.{tags, tags-append, in_order-append, last_head-append}
use Rattle.xsd_types.proofs.Laws.Groups.{is_group, head_tag, in_order-group, last_head-group}
use Rattle.xsd_types.proofs.Laws.Sound.{formed_row, body_rows}
use Rattle.xsd_types.proofs.Laws.Items.{group-simple, group-complex, group-item, head-item, head-complex}

-- packing keeps the tags and the numbers
pub tags-pack : (k : ℕ) (rs : List Row) → map (λ (t : Ten). t.tag) (pack k rs) ≡ tags rs
unfolding pack pack_row
tags-pack k [] = refl
tags-pack k (r ∷ rs) = ap (λ (l : List ℕ). r.tag ∷ l) (tags-pack (k + length (join r.texts)) rs)

pub form-pack : (k : ℕ) (rs : List Row) → every ten_form (pack k rs) ≡ every formed_row rs
unfolding pack pack_row every ten_form formed_row
form-pack k [] = refl
form-pack k (r ∷ rs) = ap (λ (b : Bool). formed_row r && b) (form-pack (k + length (join r.texts)) rs)

-- items: the order behind any head but 16, and the last head is none
pub order-items : (n : ℕ) (is : List Item) → not (eqb n 16) ≡ true → in_order n (tags (items_rows is)) && not (eqb (last_head n (tags (items_rows is))) 16) ≡ true
unfolding items_rows in_order last_head
order-items n [] o = o
order-items n (i ∷ is) o =
    let h = head_tag (item_rows i) in
    let l : last_head n (tags (item_rows i)) ≡ h = last_head-group n (item_rows i) (group-item i) in
    rw (
      tags-append (item_rows i) (items_rows is),
      in_order-append n (tags (item_rows i)) (tags (items_rows is)),
      last_head-append n (tags (item_rows i)) (tags (items_rows is)),
      l,
      in_order-group n (item_rows i) o (group-item i),
    ) (order-items h is (head-item i))

pub order-context : (n : ℕ) (c : Context) → not (eqb n 16) ≡ true → in_order n (tags (context_rows c)) ≡ true
unfolding context_rows in_order
order-context n Context.no_context o = refl
order-context n (Context.in_schema depth) o = refl
order-context n (Context.in_simple_type t) o = in_order-group n (simple_type_rows t.head.event t.head.name t.base t.facets) o (group-simple t.head.event t.head.name t.base t.facets)
order-context n (Context.in_complex_type t) o = in_order-group n (complex_type_rows t.head.event t.head.name t.content) o (group-complex t.head.event t.head.name t.content)

pub order-body : (n : ℕ) (s : State) → not (eqb n 16) ≡ true → in_order n (tags (body_rows s)) ≡ true
unfolding body_rows
order-body n s o =
    let is = s.reader.schema.items in
    let c = s.reader.context in
    let e = order-items n is o in
    let l = and-true-right (in_order n (tags (items_rows is))) (not (eqb (last_head n (tags (items_rows is))) 16)) e in
    let f : in_order n (tags (items_rows is)) ≡ true = and-true-left _ _ e in
    rw (tags-append (items_rows is) (context_rows c), in_order-append n (tags (items_rows is)) (tags (context_rows c))) (and-true f (order-context (last_head n (tags (items_rows is))) c l))

pub head-behind : (n : ℕ) (rs gs : List Row) → is_group gs ≡ true → last_head n (tags (rs ++ gs)) ≡ head_tag gs
head-behind n rs gs g = rw (tags-append rs gs, last_head-append n (tags rs) (tags gs)) (last_head-group (last_head n (tags rs)) gs g)

-- the last head is what the context says
pub test-context : (n : ℕ) (is : List Item) (c : Context) → not (eqb n 16) ≡ true → context_test (context_number c) (last_head n (tags (items_rows is ++ context_rows c))) ≡ true
unfolding context_test context_number context_rows head_tag simple_type_rows row
test-context n is Context.no_context o = rw (append-nil (items_rows is)) (and-true-right (in_order n (tags (items_rows is))) _ (order-items n is o))
test-context n is (Context.in_schema depth) o = rw (append-nil (items_rows is)) (and-true-right (in_order n (tags (items_rows is))) _ (order-items n is o))
test-context n is (Context.in_simple_type t) o = rw (head-behind n (items_rows is) (simple_type_rows t.head.event t.head.name t.base t.facets) (group-simple t.head.event t.head.name t.base t.facets))
test-context n is (Context.in_complex_type t) o = rw
    (head-behind n (items_rows is) (complex_type_rows t.head.event t.head.name t.content) (group-complex t.head.event t.head.name t.content))
    (head-complex t.head.event t.head.name t.content)

pub flag-complex : (event : ℕ) (name : Text) (c : ComplexContentBuilder) → eqb (content_flag c) 0 || eqb (head_tag (complex_type_rows event name c)) 14 ≡ true
unfolding head_tag complex_type_rows row content_flag
flag-complex event name ComplexContentBuilder.empty = refl
flag-complex event name (ComplexContentBuilder.sequence es) = refl
flag-complex event name (ComplexContentBuilder.choice vs) = refl
flag-complex event name (ComplexContentBuilder.simple_content base xs flag) = or_right (eqb (bit flag) 0) _ refl
flag-complex event name (ComplexContentBuilder.any n) = refl

pub test-extension : (n : ℕ) (is : List Item) (c : Context) → eqb (extension_flag c) 0 || (eqb (context_number c) 3 && eqb (last_head n (tags (items_rows is ++ context_rows c))) 14) ≡ true
unfolding extension_flag context_number context_rows
test-extension n is Context.no_context = refl
test-extension n is (Context.in_schema depth) = refl
test-extension n is (Context.in_simple_type t) = refl
test-extension n is (Context.in_complex_type t) = rw
    (head-behind n (items_rows is) (complex_type_rows t.head.event t.head.name t.content) (group-complex t.head.event t.head.name t.content))
    (flag-complex t.head.event t.head.name t.content)

pub test-nesting : (by_standard : Bool) (c : Context) (open_tags : ℕ) → context_ok by_standard c open_tags ≡ true → nested_ok by_standard (context_number c) (nesting c) open_tags ≡ true
unfolding context_ok context_number nesting nested_ok
test-nesting b Context.no_context n ok = refl
test-nesting b (Context.in_schema depth) n ok = ok
test-nesting b (Context.in_simple_type t) n ok = (four (leb (t.nesting_depth + 2) n) (is_text t.head.name) (is_text t.base) (every facet_ok t.facets) ok).0
test-nesting b (Context.in_complex_type t) n ok = (three (leb (t.nesting_depth + 2) n) (is_text t.head.name) (content_ok t.content) ok).0

pub small-context : (c : Context) → leb (context_number c) 3 ≡ true
unfolding context_number
small-context Context.no_context = refl
small-context (Context.in_schema n) = refl
small-context (Context.in_simple_type t) = refl
small-context (Context.in_complex_type t) = refl

pub flag-bit : (b : Bool) → is_flag (bit b) ≡ true
unfolding is_flag bit
flag-bit true = refl
flag-bit false = refl

pub flag-content : (c : ComplexContentBuilder) → is_flag (content_flag c) ≡ true
unfolding content_flag bit
flag-content ComplexContentBuilder.empty = flag-bit false
flag-content (ComplexContentBuilder.sequence es) = flag-bit false
flag-content (ComplexContentBuilder.choice vs) = flag-bit false
flag-content (ComplexContentBuilder.simple_content base xs flag) = flag-bit flag
flag-content (ComplexContentBuilder.any n) = flag-bit false

pub flag-context : (c : Context) → is_flag (extension_flag c) ≡ true
unfolding extension_flag bit
flag-context Context.no_context = flag-bit false
flag-context (Context.in_schema n) = flag-bit false
flag-context (Context.in_simple_type t) = flag-bit false
flag-context (Context.in_complex_type t) = flag-content t.content

-- without a root there are two rows and no names
pub test-root : (ns : Text) (is : List Item) (root : Bool) (c : Context) (events open_tags : ℕ) (by_standard : Bool)
    → root || (is_no_context c && is_empty is && is_empty ns) ≡ true
    → root_test (row0 (record {
      reader = record { schema = record { target_namespace = ns; items = is }; root_seen = root; context = c };
      events = events;
      open_tags = open_tags;
      by_standard = by_standard;
    })) ≡ true
unfolding root_test row0 bit context_number rows_used names_used rows_of context_rows items_rows namespace_row row names_of join is_no_context is_empty
test-root ns is true c events open_tags b ok = refl
test-root [] [] false Context.no_context events open_tags b ok = refl
test-root (x ∷ ns) [] false Context.no_context events open_tags b ok = absurd (false≢true ok)
test-root ns (i ∷ is) false Context.no_context events open_tags b ok = absurd (false≢true ok)
test-root ns is false (Context.in_schema n) events open_tags b ok = absurd (false≢true ok)
test-root ns is false (Context.in_simple_type t) events open_tags b ok = absurd (false≢true ok)
test-root ns is false (Context.in_complex_type t) events open_tags b ok = absurd (false≢true ok)
