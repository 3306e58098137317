-- What was found is the part of the names or of the word list that is the label. Assumes nothing.
use Rattle.std.specs.Prelude.{if◌then◌else◌}
use Prim.Native.Nat.{ℕ, ◌+◌, ◌-◌, ◌≤◌}
use mathlib.Core.Path.{◌≡◌}
use mathlib.Core.Bool.{Bool}
use mathlib.Core.List.{List}
use native.Mathlib.Omega.{arith}
use lib.ListN.{length, take, drop}
use Rattle.text.specs.Text.{StartsAt}
use Rattle.text.proofs.Laws.Tests.{if-cases}
use Rattle.sheet.specs.Rows.{text_at}
use Rattle.ir_types.specs.Label.{label, LabelIs}
use Rattle.ir_types.proofs.Laws.Words.{PartOf, label-word-part, label-name-part}
use Rattle.ir_label.specs.Spot.{in_words, LabelStands}
use Rattle.ir_label.specs.declared.Spot.{Spot}

module _ (rows names words : List ℕ) (k : ℕ) where
  -- a label is a part of the buffer that it lies in
  label_inside : PartOf (if (label rows names words k).in_words then words else names) (label rows names words k).text (label rows names words k).at
  label_inside =
      let l = label rows names words k in
      if-cases (λ s. PartOf s l.text l.at) l.in_words {x = words} {y = names} (label-word-part rows names words k) (label-name-part rows names words k)

  module _ (s : Spot) (here : LabelStands (label rows names words k) s) (b : Bool) (t : in_words s.buffer ≡ b) where
    pub spot-inside : s.at + s.len ≤ length (if b then words else names)
    spot-inside =
        rw (← t, ← here.buffer, ← here.at, ← here.len) label_inside.inside

    spot-bytes : take (s.at + s.len - s.at) (drop s.at (if b then words else names)) ≡ (label rows names words k).text
    unfolding text_at
    spot-bytes =
        let n : s.at + s.len - s.at ≡ s.len = omega arith in
        rw (n, ← t, ← here.buffer, ← here.at, ← here.len) label_inside.same

    spot-starts : (names_place words_place place : ℕ × ℕ) → StartsAt (if b then words_place else names_place) s.at place
        → StartsAt (if (label rows names words k).in_words then words_place else names_place) (label rows names words k).at place
    spot-starts names_place words_place place h = rw (here.buffer, here.at, t) h

    pub spot-is : (names_place words_place place : ℕ × ℕ) → StartsAt (if b then words_place else names_place) s.at place
        → LabelIs rows names words k names_place words_place place (take (s.at + s.len - s.at) (drop s.at (if b then words else names)))
    spot-is names_place words_place place h = record { bytes = spot-bytes; starts = spot-starts names_place words_place place h }
