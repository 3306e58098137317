-- Where a label stands.
--     in_words      whether a buffer is the word list
--     IsSpot        the definition's label as the code has it, with the length in place of the bytes: the refusal for the label of number 16
use Rattle.std.specs.Prelude.{◌≡◌, Bool, true, false, Result, Ok, Err, length}
use Rattle.sheet.specs.declared.refusal.Refusal.{Refusal}
use Rattle.ir_types.specs.Label.{Labelled, no_label}
use Rattle.ir_label.specs.declared.Buffer.{Buffer}
use Rattle.ir_label.specs.declared.Buffer.TheVariants.{Names, Words}
use Rattle.ir_label.specs.declared.Spot.{Spot}

abbrev pub in_words : Buffer → Bool
in_words Names = false
in_words Words = true

pub record LabelStands (l : Labelled) (s : Spot) : Type 0 where
  pub number : l.number ≡ 0
  pub buffer : l.in_words ≡ in_words s.buffer
  pub at : l.at ≡ s.at
  pub len : length l.text ≡ s.len

abbrev pub IsSpot : Labelled → Result Spot Refusal → Type 0
IsSpot l (Ok s) = LabelStands l s
IsSpot l (Err refusal) = (l ≡ no_label) × (refusal ≡ Refusal.BadLabel)
