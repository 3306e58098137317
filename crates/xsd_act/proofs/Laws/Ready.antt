-- Where the texts and the head of a sheet stand that an action is done to: row 1 first, the finished items' rows behind it, then the open type's.
-- Assumes nothing.
use Prim.Native.Nat.{ℕ, ◌+◌, ◌*◌}
use mathlib.Core.Path.{◌≡◌, refl, subst}
use mathlib.Core.List.{List, [], ◌∷◌, ◌++◌}
use native.Mathlib.Omega.{arith}
use lib.ListN.{get_or}
use Rattle.text.specs.Text.{Text}
use Rattle.sheet.specs.Rows.{Row}
use Rattle.xsd_types.specs.Rows.{namespace_a, namespace_row}
use Rattle.rows.specs.declared.numbers.Used.{Used}
use Rattle.rows.specs.Packing.{Holds}
use Rattle.xsd_replace.specs.Offsets.{RightPairs}
use Rattle.xsd_replace.specs.Head.{HeadAt}
use Rattle.xsd_replace.proofs.Laws.Head.{head-last}
use Rattle.xsd_replace.specs.Spots.{Paired, Spot, TextAt}
use Rattle.xsd_actions.specs.Actions.{NamedHead, BasedHead}
use Rattle.xsd_act.specs.Ready.{Ready}

pub paired-behind : (rs us : List Row) → Paired (rs ++ us) → Paired us
paired-behind [] us p = p
paired-behind (r ∷ rs) us (Paired.more h p) = paired-behind rs us p

pub paired-rest : {r : Row} {rs : List Row} → Paired (r ∷ rs) → Paired rs
paired-rest (Paired.more h p) = p

pub paired-first : {r : Row} {rs : List Row} → Paired (r ∷ rs) → RightPairs r
paired-first (Paired.more h p) = h

-- the namespace as a text of row 1, and the base as the second text of the open type's head
abbrev pub root_spot : List ℕ → Text → List Row → List Row → Spot
root_spot z namespace done last =
    record { z = z; rs = []; tag = 1; before = []; old = namespace; behind = []; a = namespace_a; b = 0; c = 0; us = done ++ last }

abbrev pub base_spot : List ℕ → Text → List Row → (last : List Row) → BasedHead last → Spot
base_spot z namespace done last h =
    record { z = z; rs = namespace_row namespace ∷ done; tag = h.tag; before = h.name ∷ []; old = h.old; behind = []; a = h.a; b = h.b; c = h.c; us = h.kids }

module _ {rows names : List ℕ} {used : Used} {head : ℕ} {z : List ℕ} {namespace : Text} {done last : List Row} (h : Ready rows names used head z namespace done last) where
  pub ready-root : TextAt rows names used 1 0 (root_spot z namespace done last)
  unfolding namespace_row
  ready-root = record { holds = h.holds; here = refl; there = refl; right = paired-first h.paired; paired = paired-rest h.paired }

  ready-last : (r : Row) (kids : List Row) → last ≡ r ∷ kids → Holds rows names used z ((namespace_row namespace ∷ done) ++ r ∷ kids)
  ready-last r kids e = subst (λ (l : List Row). Holds rows names used z (namespace_row namespace ∷ (done ++ l))) e h.holds

  ready-paired : (r : Row) (kids : List Row) → last ≡ r ∷ kids → Paired (r ∷ kids)
  ready-paired r kids e = subst (λ (l : List Row). Paired l) e (paired-behind (namespace_row namespace ∷ done) last h.paired)

  pub ready-head : (k : NamedHead last) → HeadAt rows names used head z (namespace_row namespace ∷ done) k.name
  ready-head k =
      record { tag = k.tag; more = k.more; a = k.a; b = k.b; c = k.c; kids = k.kids; here = omega (arith, h.here _ _ k.is); holds = ready-last _ _ k.is }

  -- c of the head, as the sheet has it
  pub ready-event : (k : NamedHead last) → get_or rows (10 * head + 9) 0 ≡ k.c
  ready-event k =
      let at : HeadAt rows names used head z (namespace_row namespace ∷ done) k.name =
      record { tag = k.tag; more = k.more; a = k.a; b = k.b; c = k.c; kids = k.kids; here = omega (arith, h.here _ _ k.is); holds = ready-last _ _ k.is } in
      head-last at

  pub ready-base : (k : BasedHead last) → TextAt rows names used head 1 (base_spot z namespace done last k)
  ready-base k =
      let p = ready-paired _ _ k.is in
      record { holds = ready-last _ _ k.is; here = omega (arith, h.here _ _ k.is); there = refl; right = paired-first p; paired = paired-rest p }
