-- `ir_write::put_types` meets its contract: the simple types, then the complex ones behind them. Assumes nothing.
use Rattle.ir_append.proofs.Laws.Grows.{grows_then, grows-full}
use Rattle.ir_write.proofs.Laws.Rest.{types-kinds}
use Rattle.ir_write.proofs.put_types.Goals as goal

pub returns-in_err-put_kind : goal.returns-in_err-put_kind
returns-in_err-put_kind c = rw (c.from_residual.ensures, types-kinds) (grows-full _ c.in_err-put_kind.ensures)

pub returns : goal.returns
returns c = rw types-kinds (grows_then c.in_ok-put_kind.ensures c.put_kind-2.ensures)
