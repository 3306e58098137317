-- `ir_append::put_behind` meets its contract: what is put into the part from `at` on is stored there. Assumes nothing.
use Rattle.ir_append.proofs.Laws.Stored.{stores-part}
use Rattle.ir_append.proofs.put_behind.Goals as goal

pub returns : goal.returns
returns c =
    let put = c.put_spelled in
    stores-part c.args.names.now c.args.at c.requires _ put.new.part put.result put.ensures
