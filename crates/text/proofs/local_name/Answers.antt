-- `text::local_name` meets its contract: a name that holds no colon is its own local name. Assumes nothing.
use Rattle.std.proofs.Common.{arith, refl, sym, ◌∙◌}
use Rattle.text.specs.Text.{colon}
use Rattle.text.proofs.Laws.Std.{local_name-whole, contains-not}
use Rattle.text.proofs.local_name.Goals as goal

pub returns-then-not-has_byte : goal.returns-then-not-has_byte
returns-then-not-has_byte c =
    let name = c.args.name.now in
    record { bytes = sym (local_name-whole name (contains-not colon name (sym c.has_byte.ensures ∙ c.if-not-has_byte.true))); starts = (refl, omega arith) }
