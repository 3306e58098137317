-- Paper 01's rule, where no name comes twice: each definition is put behind the others, so all stay in their order. Assumes nothing.
use mathlib.Core.Path.{◌≡◌, refl, sym, ◌∙◌}
use mathlib.Core.Bool.{true, false}
use mathlib.Core.List.{List, [], ◌∷◌, ◌++◌, map, map-append, append-nil}
use lib.Seq.{append_snoc}
use Rattle.text.specs.Text.{same}
use Rattle.text.proofs.Laws.Tests.{or-false-left, or-false-right}
use Rattle.ir_types.specs.Types.{TypeDef, name_of}
use Rattle.ir_types.specs.Distinct.{type_names, among, distinct}
use Rattle.ir_types.specs.Last.{insert, insert_all}
use Rattle.ir_types.proofs.Laws.Distinct.{distinct-before}

insert-new : (d : TypeDef) (ds : List TypeDef) → among (name_of d) (type_names ds) ≡ false → insert d ds ≡ ds ++ (d ∷ [])
unfolding insert type_names among
insert-new d [] h = refl
insert-new d (e ∷ es) h =
    rw (
      or-false-left (same (name_of e) (name_of d)) (among (name_of d) (map name_of es)) h,
      insert-new d es (or-false-right (same (name_of e) (name_of d)) (among (name_of d) (map name_of es)) h),
    )

insert_all-new : (ds types : List TypeDef) → distinct (types ++ ds) ≡ true → insert_all ds types ≡ types ++ ds
unfolding insert_all distinct type_names
insert_all-new [] types h = sym (append-nil types)
insert_all-new (d ∷ ds) types h =
    let new = distinct-before (name_of d) (map name_of types) (map name_of ds) (rw (map-append name_of types (d ∷ ds)) at h) in
    rw (insert-new d types new) (insert_all-new ds (types ++ (d ∷ [])) (rw (append_snoc types d ds) h) ∙ append_snoc types d ds)

pub last-distinct : (ds : List TypeDef) → distinct ds ≡ true → insert_all ds [] ≡ ds
last-distinct ds h = insert_all-new ds [] h
