-- The heads' names are those of the definition: a head of a finished type has its name in its first pair. By the law of a head's first text. Assumes nothing.
use Prim.Native.Nat.{ℕ, zero, suc, ◌+◌, ◌-◌, ◌*◌}
use mathlib.Core.Path.{◌≡◌, refl, sym, ap, ◌∙◌}
use mathlib.Core.Bool.{true}
use mathlib.Core.List.{List, [], ◌∷◌, map}
use native.Mathlib.Nat.{add-zero}
use lib.Dec.{ltb}
use lib.ListN.{get_or, drop}
use lib.Seq.{get_or-drop}
use Rattle.text.specs.Text.{Text}
use Rattle.text.proofs.Laws.Tests.{bool_cases}
use Rattle.names.specs.Names.{normalize_type_name}
use Rattle.names.specs.Same.{spelled}
use Rattle.sheet.specs.Rows.{ten}
use Rattle.xsd_types.specs.Places.{row_at}
use Rattle.xsd_types.proofs.Laws.Places.{name-at as first-text}
use Rattle.rows.specs.declared.part.SheetPart.{SheetPart}
use Rattle.ir_lower.specs.Repeated.{Head, type_head_names}
use Rattle.ir_rows.specs.Places.{name_at}
use Rattle.ir_rows.specs.Types.{is_type, type_head_at}
use Rattle.ir_rows.specs.Parts.{part_name, part_head, part_heads}
use Rattle.ir_rows.proofs.Laws.Inside.{type-head}
use Rattle.ir_checks.specs.declared.TypeKind.{TypeKind}
use Rattle.ir_checks.specs.Kinds.{is_kind}
use Rattle.ir_checks.proofs.Laws.Kinds.{kind-type}
use Rattle.name_index.specs.Index.{head_name, spelled_name_at}
use Rattle.ir_index.specs.Heads.{kind_place, head_place, with_place, places_from, head_text, head_in_part, heads_from}
use Rattle.ir_index.proofs.Laws.Turns.{all-turns}

module _ (part : SheetPart) where
  name-at : (p : ℕ) → is_type (get_or part.rows.now (10 * p) 0) ≡ true → part_name part p ≡ head_text part p
  unfolding name_at row_at spelled_name_at spelled head_name ten
  name-at p e =
      let rows = part.rows.now in
      let r = drop (10 * p) rows in
      let tag : get_or r 0 0 ≡ get_or rows (10 * p) 0 = get_or-drop (10 * p) rows 0 0 ∙ rw add-zero in
      let head = type-head (get_or r 0 0) (ap is_type tag ∙ e) in
      ap normalize_type_name (first-text part.names.now (ten r) head ∙ rw (get_or-drop (10 * p) rows 1 0, get_or-drop (10 * p) rows 2 0))

  -- a head is that of the definition
  kind-head : (kind : TypeKind) (p : ℕ) → is_kind kind (get_or part.rows.now (10 * p) 0) ≡ true → head_in_part part p ≡ part_head part p
  unfolding head_in_part type_head_at
  kind-head kind p e = ap (λ (t : Text). record { row = p; name = t }) (sym (name-at p (kind-type kind _ e)))

  with-heads : (kind : TypeKind) (p : ℕ) (ps : List ℕ) → map (head_in_part part) ps ≡ map (part_head part) ps
      → map (head_in_part part) (with_place (kind_place part kind p) ps) ≡ map (part_head part) (with_place (kind_place part kind p) ps)
  unfolding with_place kind_place
  with-heads kind p ps h =
      bool_cases
      (is_kind kind (get_or part.rows.now (10 * p) 0))
      (λ e. rw (e, kind-head kind p e) (ap (λ (l : List Head). part_head part p ∷ l) h))
      (λ e. rw e h)

  turns-heads : (turn n : ℕ) → map (head_in_part part) (places_from part turn n) ≡ map (part_head part) (places_from part turn n)
  unfolding places_from head_place
  turns-heads turn zero = refl
  turns-heads turn (suc n) =
      let rest = turns-heads (turn + 1) n in
      bool_cases
      (ltb turn (part.end - 2))
      (λ e. rw e (with-heads TypeKind.Simple (turn + 2) (places_from part (turn + 1) n) rest))
      (λ e. rw e (with-heads TypeKind.Complex (turn - (part.end - 2) + 2) (places_from part (turn + 1) n) rest))

  pub all-heads : heads_from part 0 (2 * (part.end - 2)) ≡ part_heads part
  all-heads = turns-heads 0 (2 * (part.end - 2)) ∙ ap (map (part_head part)) (all-turns part)

  -- the names of heads
  pub heads-names : (ps : List ℕ) → type_head_names (map (head_in_part part) ps) ≡ map (head_text part) ps
  unfolding type_head_names head_in_part
  heads-names [] = refl
  heads-names (p ∷ ps) = ap (λ (l : List Text). head_text part p ∷ l) (heads-names ps)
