-- `ir_write::put_graph` meets its contract: the namespace's row, the elements' and the types', one behind the other. Assumes nothing.
use Rattle.ir_append.proofs.Laws.Grows.{grows_then, grows-full}
use Rattle.ir_write.proofs.Laws.Rest.{graph-on}
use Rattle.ir_write.proofs.put_graph.Goals as goal

pub returns-in_err-put_lowered : goal.returns-in_err-put_lowered
returns-in_err-put_lowered c = rw (c.from_residual.ensures, graph-on) (grows-full _ c.in_err-put_lowered.ensures)

pub returns-in_err-put_roots : goal.returns-in_err-put_roots
returns-in_err-put_roots c = rw (c.from_residual-in_err-put_roots.ensures, graph-on) (grows_then c.in_ok-put_lowered.ensures (grows-full _ c.in_err-put_roots.ensures))

pub returns : goal.returns
returns c = rw graph-on (grows_then c.in_ok-put_lowered.ensures (grows_then c.in_ok-put_roots.ensures c.put_types.ensures))
