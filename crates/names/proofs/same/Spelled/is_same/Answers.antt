-- `names::same::Spelled::is_same` meets its contract: the two names give their bytes one by one. Assumes nothing.
use Rattle.names.specs.Same.{bytes_left}
use Rattle.names.proofs.Laws.Compared.{compared}
use Rattle.names.proofs.same.Spelled.is_same.Goals as goal

pub returns : goal.returns
returns c = rw (c.bytes.ensures, c.bytes-2.ensures) at (compared bytes_left c.eq.result c.bytes.result c.bytes-2.result c.eq.ensures.ran)
