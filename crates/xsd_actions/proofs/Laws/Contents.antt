-- A content kept, with one child more, replaced, or with another base, as the actions say it of the open type's rows. Assumes nothing.
--     complex_of     the context of an open complex type
--     Content event name d d' c c' a    the content c' at nesting d' is c at nesting d after the action a
use mathlib.Core.Path.{◌≡◌, refl, sym, ap, ◌∙◌}
use mathlib.Core.Bool.{Bool, true}
use mathlib.Core.List.{List, [], ◌∷◌, ◌++◌, map}
use mathlib.Core.Option.{some, none}
use Prim.Native.Nat.{ℕ}
use lib.Dec.{eqb}
use Rattle.text.specs.Text.{Text}
use Rattle.sheet.specs.Rows.{Row, row, bit}
use Rattle.xsd_types.specs.Types.{SequenceElement, ChoiceVariant, Attribute}
use Rattle.xsd_types.specs.State.{ComplexContentBuilder, Context}
use Rattle.xsd_types.specs.Rows.{element_row, variant_row, attribute_row, complex_type_rows, context_rows, context_number, content_flag, extension_flag}
use Rattle.xsd_actions.specs.Actions.{Action, flag_after, first_text, head_with, rows_after, NamedHead, Fitting}
use Rattle.xsd_actions.proofs.Laws.Changes.{Inner, Changed, changed-keep, changed-add, changed-base, rows_more}

abbrev pub complex_of : ℕ → Text → ComplexContentBuilder → ℕ → Context
complex_of event name c d = Context.in_complex_type (record { head = record { name = name; event = event }; content = c; nesting_depth = d })

-- the head of the open type has the type's name, whatever the content
pub head-named : (event : ℕ) (name : Text) (c : ComplexContentBuilder) → NamedHead (complex_type_rows event name c)
unfolding complex_type_rows
head-named event name ComplexContentBuilder.empty = record { tag = 16; name = name; more = []; a = 0; b = 0; c = event; kids = []; is = refl }
head-named event name (ComplexContentBuilder.sequence es) =
    record { tag = 12; name = name; more = []; a = 0; b = 0; c = event; kids = map element_row es; is = refl }
head-named event name (ComplexContentBuilder.choice vs) =
    record { tag = 13; name = name; more = []; a = 0; b = 0; c = event; kids = map variant_row vs; is = refl }
head-named event name (ComplexContentBuilder.simple_content base xs flag) =
    record { tag = 14; name = name; more = base ∷ []; a = 0; b = 0; c = event; kids = map attribute_row xs; is = refl }
head-named event name (ComplexContentBuilder.any none) = record { tag = 15; name = name; more = []; a = 0; b = 0; c = event; kids = []; is = refl }
head-named event name (ComplexContentBuilder.any (some n)) = record { tag = 15; name = name; more = n ∷ []; a = 1; b = 0; c = event; kids = []; is = refl }

pub head_with-content : (tag : ℕ) (more : List Text) (a event : ℕ) (name : Text) (c : ComplexContentBuilder)
    → head_with tag more a (complex_type_rows event name c) ≡ row tag (name ∷ more) a 0 event ∷ []
unfolding complex_type_rows head_with first_text row
head_with-content tag more a event name ComplexContentBuilder.empty = refl
head_with-content tag more a event name (ComplexContentBuilder.sequence es) = refl
head_with-content tag more a event name (ComplexContentBuilder.choice vs) = refl
head_with-content tag more a event name (ComplexContentBuilder.simple_content base xs flag) = refl
head_with-content tag more a event name (ComplexContentBuilder.any none) = refl
head_with-content tag more a event name (ComplexContentBuilder.any (some n)) = refl

abbrev pub Content : ℕ → Text → ℕ → ℕ → ComplexContentBuilder → ComplexContentBuilder → Action → Type 0
Content event name d d' c c' a = Changed (complex_of event name c d) a (complex_of event name c' d')

module _ {event : ℕ} {name : Text} {d d' : ℕ} where
  pub content-keep : (c : ComplexContentBuilder) → Content event name d d' c c Action.keep
  unfolding context_number extension_flag context_rows
  content-keep c = changed-keep refl refl refl

  pub content-add : (c c' : ComplexContentBuilder) (new : Row) → content_flag c' ≡ content_flag c → complex_type_rows event name c' ≡ complex_type_rows event name c ++ new ∷ []
      → Content event name d d' c c' (Action.add new)
  unfolding context_number extension_flag context_rows
  content-add c c' new f e = changed-add refl f new e

  pub content-replaced : (c c' : ComplexContentBuilder) (tag : ℕ) (more : List Text) (a : ℕ) → content_flag c' ≡ 0
      → complex_type_rows event name c' ≡ row tag (name ∷ more) a 0 event ∷ [] → Content event name d d' c c' (Action.content tag more a)
  unfolding context_number extension_flag context_rows flag_after rows_after Fitting
  content-replaced c c' tag more a f e =
      record {
        inner = Inner.content;
        context = refl;
        flag = ap (λ n. eqb n 1) f;
        rows = λ done. ap (λ rs. done ++ rs) (e ∙ sym (head_with-content tag more a event name c));
        fitting = head-named event name c;
      }

  pub content-based : (base v : Text) (xs : List Attribute) (flag : Bool)
      → Content event name d d' (ComplexContentBuilder.simple_content base xs flag) (ComplexContentBuilder.simple_content v xs true) (Action.base v)
  unfolding context_number extension_flag content_flag bit context_rows complex_type_rows
  content-based base v xs flag = changed-base 14 name base v 0 0 event (map attribute_row xs) refl refl refl refl

  -- one child more, of each kind
  pub element-more : (es : List SequenceElement) (e : SequenceElement)
      → Content event name d d' (ComplexContentBuilder.sequence es) (ComplexContentBuilder.sequence (es ++ e ∷ [])) (Action.add (element_row e))
  unfolding content_flag complex_type_rows
  element-more es e = content-add _ _ (element_row e) refl (rows_more _ element_row es e)

  pub variant-more : (vs : List ChoiceVariant) (v : ChoiceVariant)
      → Content event name d d' (ComplexContentBuilder.choice vs) (ComplexContentBuilder.choice (vs ++ v ∷ [])) (Action.add (variant_row v))
  unfolding content_flag complex_type_rows
  variant-more vs v = content-add _ _ (variant_row v) refl (rows_more _ variant_row vs v)

  pub attribute-more : (base : Text) (xs : List Attribute) (x : Attribute)
      → Content event name d d' (ComplexContentBuilder.simple_content base xs true) (ComplexContentBuilder.simple_content base (xs ++ x ∷ []) true) (Action.add (attribute_row x))
  unfolding content_flag complex_type_rows
  attribute-more base xs x = content-add _ _ (attribute_row x) refl (rows_more _ attribute_row xs x)
