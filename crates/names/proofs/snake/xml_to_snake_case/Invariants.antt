-- `names::snake::xml_to_snake_case` meets its contract. The loop's invariant: `end` bytes of the target are written, and the snake form of the name
-- from i on is what is still to be written.
use Rattle.std.proofs.Common.{[], ◌∷◌}
use lib.ListN.{drop}
use Rattle.text.specs.Characters.{characters}
use Rattle.names.specs.Names.{snake_from, xml_to_snake_case}
use Rattle.names.proofs.Laws.Writing.{Writing}
use Rattle.names.proofs.snake.xml_to_snake_case.Given as goal

abbrev pub invariant-loop-i : goal.invariant-loop-i
invariant-loop-i l = Writing (xml_to_snake_case l.name) l.initial.out l.end l.out (snake_from (l.prev ∷ []) (characters (drop l.i l.name)))
