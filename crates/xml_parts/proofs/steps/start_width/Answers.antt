-- `xml_parts::steps::start_width` meets its contract: a byte below 128, or a character of two bytes; past the text's end no name starts. Assumes nothing.
use Prim.Native.Nat.{ℕ, suc}
use mathlib.Core.Path.{◌≡◌, sym, ap, ◌∙◌}
use mathlib.Core.Bool.{Bool, true, false}
use native.Mathlib.Nat.{le_refl}
use lib.ListN.{drop, drop_of_length-le}
use Rattle.std.specs.Prelude.{MatchOption}
use Rattle.std.specs.Bool.{then_some}
use Rattle.text.specs.Text.{Text, first}
use Rattle.text.proofs.Laws.Texts.{first-drop}
use Rattle.xml.specs.Classes.{is_name_start, is_byte_of, is_pair_of, begins}
use Rattle.xml.proofs.Laws.Names.{begins-place, zero-no-start}
use Rattle.xml_parts.specs.Answers.{start_width}
use Rattle.xml_parts.proofs.Laws.Letters.{nothing-begins, one-begins}
use Rattle.xml_parts.proofs.steps.start_width.Goals as goal
use Rattle.xml_parts.proofs.steps.start_width.Goals.{After-in_class}

-- whether the byte there begins a name
asked : (c : After-in_class) → is_byte_of is_name_start (first (drop c.args.at c.args.text.now)) ≡ c.in_class.result
asked c = ap (is_byte_of is_name_start) (first-drop c.args.text.now c.args.at ∙ sym (c.in_ok-get.ensures.lookup.4 (le_refl c.args.at) 0)) ∙ sym c.in_class.ensures

-- a character of two bytes, where no byte below 128 begins a name
two-begin : (text : Text) (at : ℕ) (r : Bool) → is_byte_of is_name_start (first (drop at text)) ≡ false
    → r ≡ is_pair_of is_name_start (first (drop at text)) (first (drop (suc at) text))
    → MatchOption (then_some r 2) (begins is_name_start (drop at text) ≡ false) (λ n. (begins is_name_start (drop at text) ≡ true) × (n ≡ start_width (drop at text)))
unfolding start_width
two-begin text at true e h =
    let b : begins is_name_start (drop at text) ≡ true = begins-place is_name_start text at zero-no-start ∙ rw (e, sym h) in
    (b, rw (b, e))
two-begin text at false e h = begins-place is_name_start text at zero-no-start ∙ rw (e, sym h)

pub returns-in_err-get : goal.returns-in_err-get
returns-in_err-get c = rw c.from_residual.ensures (ap (begins is_name_start) (drop_of_length-le c.args.text.now c.in_err-get.ensures.lookup.3) ∙ nothing-begins)

pub returns-then-in_class : goal.returns-then-in_class
returns-then-in_class c = one-begins c.args.text.now c.args.at (asked (goal.at.returns-then-in_class c).After-in_class ∙ c.if-in_class.true)

pub returns : goal.returns
returns c =
    rw c.then_some.ensures
    (two-begin c.args.text.now c.args.at c.is_start_at.result (asked (goal.at.returns c).After-in_class ∙ c.if-in_class.false) c.is_start_at.ensures)
