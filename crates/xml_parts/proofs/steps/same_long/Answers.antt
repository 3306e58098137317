-- `xml_parts::steps::same_long` meets its contract: a name ends inside the text. Assumes nothing.
use Prim.Native.Nat.{◌-◌, ◌≤◌}
use native.Mathlib.Omega.{arith}
use mathlib.Core.Path.{ap}
use borrow.Author.Rules.{rules}
use lib.ListN.{length, drop, length-drop}
use Rattle.xml.proofs.Laws.Names.{name_of-length}
use Rattle.xml_parts.proofs.steps.same_long.Goals as goal

pub overflow_add-a : goal.overflow_add-a
overflow_add-a c =
    let inside : length c.leading_name-name.result.now ≤ length c.args.text.now - c.args.a =
    omega (arith, ap length c.leading_name-name.ensures, name_of-length (drop c.args.a c.args.text.now), length-drop c.args.a c.args.text.now) in
    search rules
