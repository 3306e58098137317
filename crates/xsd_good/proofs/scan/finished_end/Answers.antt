-- `xsd_good::scan::finished_end` meets its contract: the definition's test; the numbers of a buffer of u32 are u32. Assumes nothing.
use Rattle.rows.proofs.Laws.Words.{words-each}
use Rattle.xsd_good.proofs.scan.finished_end.Goals as goal

pub returns-then-context-ge-SIMPLE_TYPE-clause-words : goal.returns-then-context-ge-SIMPLE_TYPE-clause-words
returns-then-context-ge-SIMPLE_TYPE-clause-words c = words-each _ (λ i. (c.type_inv.rows i).fits)

pub returns-else-context-ge-SIMPLE_TYPE-clause-words : goal.returns-else-context-ge-SIMPLE_TYPE-clause-words
returns-else-context-ge-SIMPLE_TYPE-clause-words c = words-each _ (λ i. (c.type_inv.rows i).fits)
