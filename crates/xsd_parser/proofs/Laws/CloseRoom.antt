-- A close needs no more rows or names than the state before it, so it is never refused with 11. Assumes nothing.
--     texts_of       the texts of rows, which decide how many rows and names they need
use mathlib.Core.Path.{◌≡◌, refl, sym, ap, ap₂, ◌∙◌}
use mathlib.Core.Bool.{true}
use mathlib.Core.List.{List, [], ◌∷◌, ◌++◌, map, append-nil, append_assoc, map-append}
use Prim.Native.Nat.{ℕ, zero, suc, ◌+◌}
use native.Mathlib.Omega.{arith}
use lib.Dec.{ltb}
use lib.ListN.{length, length-map}
use Rattle.text.specs.Text.{Text, join}
use Rattle.sheet.specs.Rows.{Row, row, names_of}
use Rattle.sheet.specs.Lengths.{fits, Lengths}
use Rattle.xsd_types.specs.Types.{Item}
use Rattle.xsd_types.specs.State.{SimpleTypeBuilder, ComplexContentBuilder, ComplexTypeBuilder, Context, Reader, State, started, finish}
use Rattle.xsd_types.specs.Rows.{namespace_row, complex_type_rows, item_rows, items_rows, context_rows, rows_of, rows_used, names_used}
use Rattle.xsd_types.specs.Sheet.{state_fits}
use Rattle.xsd_parser.specs.Event.{Event}
use Rattle.xsd_parser.specs.Handlers.{refuse, ◌and_then◌, in_context, with_item, close_simple_type, close_complex_type, close_in_schema, on_end}
use Rattle.xsd_parser.specs.Step.{handled, closed, tags_after, counted, room_for, step}
use Rattle.xsd_parser.proofs.Laws.Outcomes.{Gives, value, refusal, Any, gives-if, gives-and_then, gives-refusal}

abbrev pub texts_of : List Row → List (List Text)
texts_of rs = map (λ r. r.texts) rs

pub names-texts : (rs : List Row) → names_of rs ≡ join (map join (texts_of rs))
unfolding names_of join
names-texts [] = refl
names-texts (r ∷ rs) = ap (λ t. join r.texts ++ t) (names-texts rs)

pub same_length : (rs qs : List Row) → texts_of rs ≡ texts_of qs → length rs ≡ length qs
same_length rs qs e = sym (length-map rs (λ r. r.texts)) ∙ ap length e ∙ length-map qs (λ r. r.texts)

pub same_names : (rs qs : List Row) → texts_of rs ≡ texts_of qs → names_of rs ≡ names_of qs
same_names rs qs e = names-texts rs ∙ ap (λ t. join (map join t)) e ∙ sym (names-texts qs)

-- a state with the same texts needs the same room
pub same-room : (rows names : ℕ) (s s' : State) → texts_of (rows_of s) ≡ texts_of (rows_of s') → state_fits rows names s ≡ state_fits rows names s'
unfolding state_fits rows_used names_used
same-room rows names s s' e =
    ap₂ (λ k n. fits (1 + k) (length n) rows names) (same_length (rows_of s) (rows_of s') e) (same_names (rows_of s) (rows_of s') e)

pub items-one-more : (xs : List Item) (i : Item) → items_rows (xs ++ i ∷ []) ≡ items_rows xs ++ item_rows i
unfolding items_rows
items-one-more [] i = append-nil (item_rows i)
items-one-more (x ∷ xs) i = ap (λ rs. item_rows x ++ rs) (items-one-more xs i) ∙ sym (append_assoc (item_rows x) (items_rows xs) (item_rows i))

-- "Content still absent at the close becomes 15 with a = 0": its row has the same texts
pub finish-texts : (event : ℕ) (name : Text) (c : ComplexContentBuilder) → texts_of (complex_type_rows event name (started (finish c))) ≡ texts_of (complex_type_rows event name c)
unfolding complex_type_rows started finish row
finish-texts event name ComplexContentBuilder.empty = refl
finish-texts event name (ComplexContentBuilder.sequence es) = refl
finish-texts event name (ComplexContentBuilder.choice vs) = refl
finish-texts event name (ComplexContentBuilder.simple_content base xs flag) = refl
finish-texts event name (ComplexContentBuilder.any n) = refl

-- the rows of a reader behind the namespace's
abbrev pub rest_texts : List Item → List Row → List (List Text)
rest_texts xs rs = texts_of (items_rows xs ++ rs)

pub finished-texts : (xs : List Item) (i : Item) (rs : List Row) → texts_of (item_rows i) ≡ texts_of rs → rest_texts (xs ++ i ∷ []) [] ≡ rest_texts xs rs
finished-texts xs i rs e =
    ap texts_of (append-nil (items_rows (xs ++ i ∷ [])) ∙ items-one-more xs i)
    ∙ map-append _ (items_rows xs) (item_rows i) ∙ ap (λ t. texts_of (items_rows xs) ++ t) e ∙ sym (map-append _ (items_rows xs) rs)

abbrev pub reader_texts : Reader → List (List Text)
reader_texts r = rest_texts r.schema.items (context_rows r.context)

pub close_simple-texts : (b : SimpleTypeBuilder) (d : ℕ) (r : Reader)
    → reader_texts (close_simple_type b d r) ≡ rest_texts r.schema.items (context_rows (Context.in_simple_type b))
unfolding close_simple_type in_context with_item context_rows item_rows
close_simple-texts b zero r = finished-texts r.schema.items _ (context_rows (Context.in_simple_type b)) refl
close_simple-texts b (suc d) r = refl

pub close_complex-texts : (b : ComplexTypeBuilder) (d : ℕ) (r : Reader)
    → reader_texts (close_complex_type b d r) ≡ rest_texts r.schema.items (context_rows (Context.in_complex_type b))
unfolding close_complex_type in_context with_item context_rows item_rows
close_complex-texts b zero r = finished-texts r.schema.items _ (context_rows (Context.in_complex_type b)) (finish-texts b.head.event b.head.name b.content)
close_complex-texts b (suc d) r = refl

pub close_schema-texts : (n : ℕ) (r : Reader) → reader_texts (close_in_schema n r) ≡ rest_texts r.schema.items []
unfolding close_in_schema in_context context_rows
close_schema-texts zero r = refl
close_schema-texts (suc n) r = refl

pub close-texts : (r : Reader) (x : Context) → r.context ≡ x → reader_texts (on_end r x) ≡ rest_texts r.schema.items (context_rows x)
unfolding on_end context_rows
close-texts r Context.no_context q = ap (λ x. rest_texts r.schema.items (context_rows x)) q
close-texts r (Context.in_schema n) q = close_schema-texts n r
close-texts r (Context.in_simple_type b) q = close_simple-texts b b.nesting_depth r
close-texts r (Context.in_complex_type b) q = close_complex-texts b b.nesting_depth r

-- a close leaves the namespace
pub close_simple-namespace : (b : SimpleTypeBuilder) (d : ℕ) (r : Reader) → (close_simple_type b d r).schema.target_namespace ≡ r.schema.target_namespace
unfolding close_simple_type in_context with_item
close_simple-namespace b zero r = refl
close_simple-namespace b (suc d) r = refl

pub close_complex-namespace : (b : ComplexTypeBuilder) (d : ℕ) (r : Reader) → (close_complex_type b d r).schema.target_namespace ≡ r.schema.target_namespace
unfolding close_complex_type in_context with_item
close_complex-namespace b zero r = refl
close_complex-namespace b (suc d) r = refl

pub close_schema-namespace : (n : ℕ) (r : Reader) → (close_in_schema n r).schema.target_namespace ≡ r.schema.target_namespace
unfolding close_in_schema in_context
close_schema-namespace zero r = refl
close_schema-namespace (suc n) r = refl

pub close-namespace : (r : Reader) (x : Context) → (on_end r x).schema.target_namespace ≡ r.schema.target_namespace
unfolding on_end
close-namespace r Context.no_context = refl
close-namespace r (Context.in_schema n) = close_schema-namespace n r
close-namespace r (Context.in_simple_type b) = close_simple-namespace b b.nesting_depth r
close-namespace r (Context.in_complex_type b) = close_complex-namespace b b.nesting_depth r

-- a close keeps the room that the state needs
pub close-room : (rows names : ℕ) (s : State) (n : ℕ) → state_fits rows names (counted s n (on_end s.reader s.reader.context)) ≡ state_fits rows names s
unfolding counted rows_of
close-room rows names s n =
    let r = s.reader in
    same-room rows names (counted s n (on_end r r.context)) s
    (ap₂ (λ t ts. (namespace_row t).texts ∷ ts) (close-namespace r r.context) (close-texts r r.context refl))

-- 11 is never a close's refusal
pub closed-gives : (n : ℕ) → Gives Any (λ k. k ≡ 11 → ⊥) (closed n)
unfolding closed
closed-gives zero = refusal {r = 6} (λ e. omega arith)
closed-gives (suc n) = value tt

pub close-gives : (lent : Lengths) (s : State) → state_fits lent.rows lent.names s ≡ true → Gives Any (λ k. k ≡ 11 → ⊥) (step lent s Event.close)
unfolding step tags_after handled room_for ◌and_then◌
close-gives lent s h =
    gives-if (ltb s.events 1000000)
    (gives-and_then (closed-gives s.open_tags) λ n p. rw (close-room lent.rows lent.names s n, h) (value tt))
    (refusal (λ e. omega arith))

pub close-not-11 : (lent : Lengths) (s : State) → state_fits lent.rows lent.names s ≡ true → step lent s Event.close ≡ refuse 11 → ⊥
close-not-11 lent s h q = gives-refusal (close-gives lent s h) q refl
