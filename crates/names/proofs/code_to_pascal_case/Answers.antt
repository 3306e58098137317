-- `names::code_to_pascal_case` meets its contract: the scan of the segments is the conversion. Assumes nothing.
use Rattle.names.proofs.Laws.Writing.{put_as}
use Rattle.names.proofs.Laws.Names.{segments-pascal}
use Rattle.names.proofs.code_to_pascal_case.Goals as goal

pub returns : goal.returns
returns c =
    let value = c.args.value.now in
    put_as c.put_segments.ensures (segments-pascal value)
