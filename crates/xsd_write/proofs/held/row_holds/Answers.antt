-- `xsd_write::held::row_holds` meets its contract: the first pairs are those that are used, and one text that is not held decides. Assumes nothing.
use Rattle.std.specs.Prelude.{if◌then◌else◌}
use Prim.Native.Nat.{ℕ}
use mathlib.Core.Path.{◌≡◌, sym, ap, ap₂, ◌∙◌}
use mathlib.Core.Bool.{Bool, true, false, ◌&&◌, false≢true}
use mathlib.Core.List.{[], ◌∷◌}
use lib.Dec.{leb}
use lib.ListN.{take}
use Rattle.text.specs.Text.{Text, every}
use Rattle.sheet.specs.Rows.{text_at, unpack_row}
use Rattle.rows.proofs.Laws.Used.{used-three}
use Rattle.xsd_written.specs.Call.{holds}
use Rattle.xsd_write.proofs.held.row_holds.Goals as goal
use Rattle.xsd_write.proofs.held.row_holds.Goals.{then-pair_holds, else-pair_holds}

-- of three texts, where so many are used
module _ (a b c : Text) (used : ℕ) where
  abbrev first : Bool
  first = if leb 1 used then holds a else true

  abbrev second : Bool
  second = if leb 2 used then holds b else true

  abbrev third : Bool
  third = if leb 3 used then holds c else true

  abbrev all : Bool
  all = every holds (take used (a ∷ b ∷ c ∷ []))

  first-fails : first ≡ false → false ≡ all
  first-fails e = sym (ap (λ (x : Bool). x && second && third) e) ∙ used-three holds a b c used

  second-fails : first ≡ true → second ≡ false → false ≡ all
  second-fails e f = sym (ap₂ (λ (x y : Bool). x && y && third) e f) ∙ used-three holds a b c used

  third-decides : first ≡ true → second ≡ true → third ≡ all
  third-decides e f = sym (ap₂ (λ (x y : Bool). x && y && third) e f) ∙ used-three holds a b c used

pub returns-then-pair_holds-2 : goal.returns-then-pair_holds-2
unfolding unpack_row
returns-then-pair_holds-2 c =
    let names = c.args.row.names.now in
    let t = c.args.row.numbers in
    let x = text_at names t.at0 t.len0 in
    let y = text_at names t.at1 t.len1 in
    let z = text_at names t.at2 t.len2 in
    let used = c.used_pairs-used.result in
    let p : c.pair_holds.result ≡ first x y z used = rw c.pair.ensures at c.pair_holds.ensures in
    let r : c.pair_holds-then-pair_holds-2.result ≡ third x y z used = rw c.pair-then-pair_holds-2.ensures at c.pair_holds-then-pair_holds-2.ensures in
    elim c.if-pair_holds.branch [
      | then-pair_holds w ↦
          let q : w.pair_holds-then-pair_holds.result ≡ second x y z used = rw w.pair-then-pair_holds.ensures at w.pair_holds-then-pair_holds.ensures in
          r ∙ third-decides x y z used (sym p ∙ w.if-pair_holds.true) (sym q ∙ sym w.value-is ∙ c.if-pair_holds-2.true)
          ∙ ap (λ (u : ℕ). all x y z u) c.used_pairs-used.ensures
      | else-pair_holds w ↦ absurd (false≢true (sym w.if-pair_holds.false ∙ sym w.value-is ∙ c.if-pair_holds-2.true))
    ]

pub returns-else-pair_holds-2 : goal.returns-else-pair_holds-2
unfolding unpack_row
returns-else-pair_holds-2 c =
    let names = c.args.row.names.now in
    let t = c.args.row.numbers in
    let x = text_at names t.at0 t.len0 in
    let y = text_at names t.at1 t.len1 in
    let z = text_at names t.at2 t.len2 in
    let used = c.used_pairs-used.result in
    let p : c.pair_holds.result ≡ first x y z used = rw c.pair.ensures at c.pair_holds.ensures in
    let none : false ≡ all x y z used = elim c.if-pair_holds.branch [
      | then-pair_holds w ↦
          let q : w.pair_holds-then-pair_holds.result ≡ second x y z used = rw w.pair-then-pair_holds.ensures at w.pair_holds-then-pair_holds.ensures in
          second-fails x y z used (sym p ∙ w.if-pair_holds.true) (sym q ∙ sym w.value-is ∙ c.if-pair_holds-2.false)
      | else-pair_holds w ↦ first-fails x y z used (sym p ∙ w.if-pair_holds.false)
    ] in
    c.if-pair_holds-2.false ∙ none ∙ ap (λ (u : ℕ). all x y z u) c.used_pairs-used.ensures
