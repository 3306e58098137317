-- `printing::write_input` is safe: a tape lies inside the input, and its marks are few enough. Assumes nothing.
use mathlib.Core.Path.{sym, ◌∙◌}
use Rattle.printing.proofs.Laws.Input.{tape-inside, tape-few}
use Rattle.printing.proofs.write_input.Goals as goal

pub put_behind-requires : goal.put_behind-requires
put_behind-requires g c =
    let tape = sym c.in-Tape.is ∙ c.input_of.ensures in
    (tape-inside c.args.input.now _ _ tape, tape-few c.args.input.now _ _ tape)
