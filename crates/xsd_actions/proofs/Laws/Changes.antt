-- A change of the open type alone: from the contexts before and after it to the readers. Assumes nothing.
--     Inner a       the action a concerns the open type alone
--     Changed x a y    the open type in the context y is that in x after the action a
use Rattle.std.specs.Prelude.{if◌then◌else◌}
use mathlib.Core.Path.{◌≡◌, refl, sym, ap, ◌∙◌}
use mathlib.Core.Bool.{Bool, true, false, ◌&&◌}
use mathlib.Core.List.{List, [], ◌∷◌, ◌++◌, map, append_assoc, map-append}
use Prim.Native.Nat.{ℕ, suc}
use lib.Dec.{eqb}
use Rattle.text.specs.Text.{Text}
use Rattle.sheet.specs.Rows.{Row, row}
use Rattle.xsd_types.specs.State.{Context, Reader}
use Rattle.xsd_types.specs.Rows.{items_rows, context_rows, context_number, nesting, extension_flag}
use Rattle.xsd_parser.specs.Event.{Tag, Event}
use Rattle.xsd_parser.specs.Handlers.{in_context}
use Rattle.xsd_actions.specs.Actions.{Action, mode_of, reader_rows, context_after, root_after, flag_after, raises, tag_mode}
use Rattle.xsd_actions.specs.Actions.{mode_after, namespace_after, first_text, base_with, rows_after, Fitting, Acted}

pub data Inner : Action → Type 0 where
  keep : Inner Action.keep
  add : {r : Row} → Inner (Action.add r)
  content : {tag : ℕ} {more : List Text} {a : ℕ} → Inner (Action.content tag more a)
  base : {v : Text} → Inner (Action.base v)

pub inner-context : (start : Bool) (context : ℕ) {a : Action} → Inner a → context_after start a context ≡ context
unfolding context_after
inner-context start context keep = refl
inner-context start context add = refl
inner-context start context content = refl
inner-context start context base = refl

pub inner-root : (seen : Bool) {a : Action} → Inner a → root_after a seen ≡ seen
unfolding root_after
inner-root seen keep = refl
inner-root seen add = refl
inner-root seen content = refl
inner-root seen base = refl

pub inner-namespace : (n : Text) {a : Action} → Inner a → namespace_after a n ≡ n
unfolding namespace_after
inner-namespace n keep = refl
inner-namespace n add = refl
inner-namespace n content = refl
inner-namespace n base = refl

pub record Changed (x : Context) (a : Action) (y : Context) : Type 0 where
  pub inner : Inner a
  pub context : context_number y ≡ context_number x
  pub flag : eqb (extension_flag y) 1 ≡ flag_after a (context_number x) (eqb (extension_flag x) 1)
  pub rows : (done : List Row) → done ++ context_rows y ≡ rows_after a done (context_rows x)
  pub fitting : Fitting a (context_rows x)

-- the nesting after a start, and after an empty tag
abbrev pub nesting_after : Bool → Bool → Action → Context → ℕ
nesting_after by_standard start a x = if start && raises by_standard a (context_number x) then suc (nesting x) else nesting x

pub changed-mode : (by_standard start : Bool) (r : Reader) {x y : Context} {a : Action} → nesting y ≡ nesting_after by_standard start a x → Changed x a y
    → mode_of (in_context y r) ≡ tag_mode by_standard start a (mode_of (in_context x r))
unfolding mode_of in_context tag_mode
changed-mode b start r {x} {y} {a} n c =
    let k = c.context ∙ sym (inner-context start (context_number x) c.inner) in
    let s = sym (inner-root r.root_seen c.inner) in
    let f = c.flag in λ i. record { context = k i; nesting = n i; root_seen = s i; extension = f i }

pub changed-acted : (by_standard : Bool) (e : Event) (r : Reader) {x y : Context} {a : Action}
    → mode_of (in_context y r) ≡ mode_after by_standard e a (mode_of (in_context x r)) → Changed x a y → Acted by_standard e (in_context x r) a (in_context y r)
unfolding in_context reader_rows
changed-acted b e r m c =
    record {
      mode = m;
      namespace = sym (inner-namespace r.schema.target_namespace c.inner);
      rows = c.rows (items_rows r.schema.items);
      items = λ h. refl;
      fitting = c.fitting;
    }

pub changed-start : (by_standard : Bool) (t : Tag) (r : Reader) {x y : Context} {a : Action} → nesting y ≡ nesting_after by_standard true a x → Changed x a y
    → Acted by_standard (Event.start t) (in_context x r) a (in_context y r)
unfolding mode_after
changed-start b t r n c = changed-acted b (Event.start t) r (changed-mode b true r n c) c

pub changed-empty : (by_standard : Bool) (t : Tag) (r : Reader) {x y : Context} {a : Action} → nesting y ≡ nesting x → Changed x a y
    → Acted by_standard (Event.empty t) (in_context x r) a (in_context y r)
unfolding mode_after
changed-empty b t r n c = changed-acted b (Event.empty t) r (changed-mode b false r n c) c

-- nothing changed but the nesting; one row more
module _ {x y : Context} (k : context_number y ≡ context_number x) (f : extension_flag y ≡ extension_flag x) where
  pub changed-keep : context_rows y ≡ context_rows x → Changed x Action.keep y
  unfolding flag_after rows_after Fitting
  changed-keep e = record { inner = keep; context = k; flag = ap (λ n. eqb n 1) f; rows = λ done. ap (λ rs. done ++ rs) e; fitting = tt }

  pub changed-add : (new : Row) → context_rows y ≡ context_rows x ++ new ∷ [] → Changed x (Action.add new) y
  unfolding flag_after rows_after Fitting
  changed-add new e =
      record {
        inner = add;
        context = k;
        flag = ap (λ n. eqb n 1) f;
        rows = λ done. ap (λ rs. done ++ rs) e ∙ sym (append_assoc done (context_rows x) (new ∷ []));
        fitting = tt;
      }

-- another base in the head
pub changed-base : {x y : Context} (tag : ℕ) (name old v : Text) (a b c : ℕ) (kids : List Row) → context_number y ≡ context_number x
    → eqb (extension_flag y) 1 ≡ eqb (context_number x) 3 → context_rows x ≡ row tag (name ∷ old ∷ []) a b c ∷ kids → context_rows y ≡ row tag (name ∷ v ∷ []) a b c ∷ kids
    → Changed x (Action.base v) y
unfolding flag_after rows_after base_with first_text Fitting row
changed-base tag name old v a b c kids k f p q =
    record {
      inner = base;
      context = k;
      flag = f;
      rows = λ done. ap (λ rs. done ++ rs) (q ∙ ap (base_with v) (sym p));
      fitting = record { tag = tag; name = name; old = old; a = a; b = b; c = c; kids = kids; is = p };
    }

-- one child more behind a head
pub rows_more : {A : Type 0} (head : Row) (f : A → Row) (xs : List A) (x : A) → head ∷ map f (xs ++ x ∷ []) ≡ (head ∷ map f xs) ++ f x ∷ []
rows_more head f xs x = ap (λ rs. head ∷ rs) (map-append f xs (x ∷ []))
