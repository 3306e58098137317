-- `ir_write::put_type` meets its contract: the head's row, then the children's. Assumes nothing.
use Rattle.ir_append.proofs.Laws.Grows.{grows_then, grows-full}
use Rattle.ir_write.proofs.Laws.Rest.{type-on}
use Rattle.ir_write.proofs.put_type.Goals as goal

pub returns-in_err-put_lowered : goal.returns-in_err-put_lowered
returns-in_err-put_lowered c =
    let a = c.args in
    let on = type-on a.part.now a.place _ c.requires (c.is_code_enum-code_enum.ensures a.part.now.names.now) in
    rw (c.from_residual.ensures, on) (grows-full _ c.in_err-put_lowered.ensures)

pub returns : goal.returns
returns c =
    let a = c.args in
    let on = type-on a.part.now a.place _ c.requires (c.is_code_enum-code_enum.ensures a.part.now.names.now) in
    rw on (grows_then c.in_ok-put_lowered.ensures c.put_children.ensures)
