-- `xsd_progress::mode::close_mode` meets its contract: each branch is the one that the definition takes. Assumes nothing.
use borrow.Author.Tests.{le-leb, lt-leb, eq-eqb, ne_eqb}
use Rattle.xsd_actions.specs.Actions.{close_mode}
use Rattle.xsd_progress.proofs.mode.close_mode.Goals as goal

pub returns-then-m-ne0 : goal.returns-then-m-ne0
unfolding close_mode
returns-then-m-ne0 c = rw (ne_eqb _ _ c.if-m-ne0.true)

pub returns-then-m-le-SCHEMA : goal.returns-then-m-le-SCHEMA
unfolding close_mode
returns-then-m-le-SCHEMA c = rw (eq-eqb _ _ c.if-m-ne0.false, le-leb _ _ c.if-m-le-SCHEMA.true, c.if-m-ne0.false)

pub returns : goal.returns
unfolding close_mode
returns c = rw (eq-eqb _ _ c.if-m-ne0.false, lt-leb _ _ c.if-m-le-SCHEMA.false, c.if-m-ne0.false)
