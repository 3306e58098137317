-- The state comes back from its rows: the groups of a state's rows are those of its items and of the open type. Assumes nothing.
use mathlib.Core.Path.{◌≡◌, refl, sym, ap, ◌∙◌}
use mathlib.Core.Bool.{Bool, true, false}
use mathlib.Core.List.{List, [], ◌∷◌, ◌++◌, map, append-nil, append_assoc}
use Prim.Native.Nat.{ℕ}
use lib.Dec.{eqb, leb}
use Rattle.sheet.specs.Rows.{Row, row}
use Rattle.xsd_types.specs.Types.{Facet, Item}
use Rattle.xsd_types.specs.State.{SimpleTypeBuilder, ComplexContentBuilder, ComplexTypeBuilder, Context, State}
use Rattle.xsd_types.specs.Rows.{namespace_row, facet_row, simple_type_rows, complex_type_rows, item_rows, items_rows}
use Rattle.xsd_types.specs.Rows.{context_rows, rows_of, context_number, nesting, content_flag, extension_flag, row0}
use Rattle.xsd_types.specs.Back.{Group, Grouped, grouped, text0, text1, facet_of, content_of, items_of, last_group, no_group, context_of, namespace_in, behind_namespace, state_of_rows}
use Rattle.xsd_types.proofs.Laws.Groups.{is_group, as_group, grouped-group}
use Rattle.xsd_types.proofs.Laws.Items.{group-simple, group-complex, group-item, map_back, facet-back, bit-back, flag_in, content-back, name_back, event-back, item_back}

unfoldable pub item_group : Item → Group
item_group i = as_group (item_rows i)

unfoldable pub open_groups : Context → List Group
open_groups Context.no_context = []
open_groups (Context.in_schema n) = []
open_groups (Context.in_simple_type t) = as_group (simple_type_rows t.head.event t.head.name t.base t.facets) ∷ []
open_groups (Context.in_complex_type t) = as_group (complex_type_rows t.head.event t.head.name t.content) ∷ []

pub grouped-one : (rs : List Row) → is_group rs ≡ true → grouped rs ≡ record { loose = []; groups = as_group rs ∷ [] }
unfolding grouped
grouped-one rs g = ap grouped (sym (append-nil rs)) ∙ grouped-group rs [] g refl

pub grouped-context : (c : Context) → grouped (context_rows c) ≡ record { loose = []; groups = open_groups c }
unfolding grouped context_rows open_groups
grouped-context Context.no_context = refl
grouped-context (Context.in_schema n) = refl
grouped-context (Context.in_simple_type t) = grouped-one (simple_type_rows t.head.event t.head.name t.base t.facets) (group-simple t.head.event t.head.name t.base t.facets)
grouped-context (Context.in_complex_type t) = grouped-one (complex_type_rows t.head.event t.head.name t.content) (group-complex t.head.event t.head.name t.content)

pub grouped-body : (is : List Item) (c : Context) → grouped (items_rows is ++ context_rows c) ≡ record { loose = []; groups = map item_group is ++ open_groups c }
unfolding items_rows item_group
grouped-body [] c = grouped-context c
grouped-body (i ∷ is) c =
    let rest = grouped-body is c in
    ap grouped (append_assoc (item_rows i) (items_rows is) (context_rows c))
    ∙ grouped-group (item_rows i) (items_rows is ++ context_rows c) (group-item i) (ap (λ (g : Grouped). g.loose) rest)
    ∙ ap (λ (g : Grouped). record { loose = []; groups = as_group (item_rows i) ∷ g.groups }) rest

pub closed-back : (is : List Item) → items_of false (map item_group is ++ []) ≡ is
unfolding items_of item_group
closed-back [] = refl
closed-back (i ∷ is) = rw (item_back i, closed-back is)

pub open-back : (is : List Item) (g : Group) → items_of true (map item_group is ++ (g ∷ [])) ≡ is
unfolding items_of item_group
open-back [] g = refl
open-back (i ∷ []) g = rw (item_back i)
open-back (i ∷ j ∷ is) g = rw (item_back i, open-back (j ∷ is) g)

pub items_back : (is : List Item) (c : Context) → items_of (leb 2 (context_number c)) (map item_group is ++ open_groups c) ≡ is
unfolding context_number open_groups
items_back is Context.no_context = closed-back is
items_back is (Context.in_schema n) = closed-back is
items_back is (Context.in_simple_type t) = open-back is (as_group (simple_type_rows t.head.event t.head.name t.base t.facets))
items_back is (Context.in_complex_type t) = open-back is (as_group (complex_type_rows t.head.event t.head.name t.content))

pub last-back : (h g : Group) (is : List Item) → last_group h (map item_group is ++ (g ∷ [])) ≡ g
unfolding last_group
last-back h g [] = refl
last-back h g (i ∷ is) = last-back (item_group i) g is

pub flag-back : (c : ComplexContentBuilder) → eqb (content_flag c) 1 ≡ flag_in c
unfolding content_flag flag_in
flag-back ComplexContentBuilder.empty = refl
flag-back (ComplexContentBuilder.sequence es) = refl
flag-back (ComplexContentBuilder.choice vs) = refl
flag-back (ComplexContentBuilder.simple_content base xs flag) = bit-back flag
flag-back (ComplexContentBuilder.any n) = refl

-- the open type that a group says, with its flag and nesting
unfoldable pub open_simple : Group → ℕ → Context
open_simple g n = Context.in_simple_type (record { head = record { name = text0 g.head; event = g.head.c }; base = text1 g.head; facets = map facet_of g.children; nesting_depth = n })

unfoldable pub open_complex : Bool → Group → ℕ → Context
open_complex flag g n = Context.in_complex_type (record { head = record { name = text0 g.head; event = g.head.c }; content = content_of flag g; nesting_depth = n })

pub simple-open : (t : SimpleTypeBuilder) → open_simple (as_group (simple_type_rows t.head.event t.head.name t.base t.facets)) t.nesting_depth ≡ Context.in_simple_type t
unfolding open_simple as_group simple_type_rows row text0 text1
simple-open t = ap (λ (fs : List Facet). Context.in_simple_type (record { head = t.head; base = t.base; facets = fs; nesting_depth = t.nesting_depth }))
    (map_back facet_row facet_of facet-back t.facets)

pub complex-open : (t : ComplexTypeBuilder)
    → open_complex (eqb (content_flag t.content) 1) (as_group (complex_type_rows t.head.event t.head.name t.content)) t.nesting_depth ≡ Context.in_complex_type t
unfolding open_complex
complex-open t =
    let content = ap (λ (b : Bool). content_of b (as_group (complex_type_rows t.head.event t.head.name t.content))) (flag-back t.content) ∙ content-back t.head.event t.head.name t.content in
    λ i. Context.in_complex_type (record {
      head = record { name = name_back t.head.event t.head.name t.content i; event = event-back t.head.event t.head.name t.content i };
      content = content i;
      nesting_depth = t.nesting_depth;
    })

pub context-back : (s : State) (is : List Item) (c : Context) → s.reader.context ≡ c → context_of (row0 s) (map item_group is ++ open_groups c) ≡ c
unfolding context_of row0 open_groups context_number nesting extension_flag open_simple open_complex
context-back s is Context.no_context e = rw e
context-back s is (Context.in_schema n) e = rw e
context-back s is (Context.in_simple_type t) e = rw (e, last-back no_group (as_group (simple_type_rows t.head.event t.head.name t.base t.facets)) is) (simple-open t)
context-back s is (Context.in_complex_type t) e = rw (e, last-back no_group (as_group (complex_type_rows t.head.event t.head.name t.content)) is) (complex-open t)

pub state-back : (s : State) → state_of_rows (row0 s) (rows_of s) ≡ s
unfolding state_of_rows rows_of behind_namespace namespace_in namespace_row row text0 row0
state-back s =
    let is = s.reader.schema.items in
    let c = s.reader.context in
    let items = ap (λ (g : Grouped). items_of (leb 2 (context_number c)) g.groups) (grouped-body is c) ∙ items_back is c in
    let context = ap (λ (g : Grouped). context_of (row0 s) g.groups) (grouped-body is c) ∙ context-back s is c refl in
    λ i. record {
      reader = record {
        schema = record { target_namespace = s.reader.schema.target_namespace; items = items i };
        root_seen = bit-back
            s.reader.root_seen i;
        context = context i;
      };
      events = s.events;
      open_tags = s.open_tags;
      by_standard = bit-back s.by_standard i;
    }
