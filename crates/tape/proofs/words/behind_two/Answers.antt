-- `tape::words::behind_two` meets its contract: what stands behind the last colon is the local name. Assumes nothing.
use Rattle.std.proofs.lemmas.List.{take_rest}
use Rattle.text.specs.Text.{colon, local_name}
use Rattle.text.proofs.Laws.Local.{after_last-at}
use Rattle.tape.proofs.Laws.Words.{local-clean}
use Rattle.tape.proofs.words.behind_two.Goals as goal

pub returns-then-name-eq58 : goal.returns-then-name-eq58
unfolding local_name
returns-then-name-eq58 c =
    let s = c.args.name.now in
    rw (take_rest s 3) (after_last-at colon s s 2 c.if-name-gt2.true c.if-name-eq58.true)

pub returns : goal.returns
returns c = local-clean c.args.name.now
