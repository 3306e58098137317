-- `xsd_write::put::Writer::put_close` meets its contract: each arm puts what its tag closes. Assumes nothing.
use borrow.Author.Tests.{ne_eqb}
use Rattle.text.specs.Text.{bytes}
use Rattle.xsd_written.specs.ByRows.{close_text}
use Rattle.xsd_write.proofs.Laws.Puts.{writes_none}
use Rattle.xsd_write.proofs.put.Writer.put_close.Goals as goal

pub returns-in-3 : goal.returns-in-3
unfolding close_text bytes
returns-in-3 c = rw c.in-3.is c.put.ensures

pub returns-in-12 : goal.returns-in-12
unfolding close_text bytes
returns-in-12 c = rw c.in-12.is c.put-in-12.ensures

pub returns-in-15 : goal.returns-in-15
unfolding close_text bytes
returns-in-15 c = rw c.in-15.is c.put-in-15.ensures

pub returns-in-13 : goal.returns-in-13
unfolding close_text bytes
returns-in-13 c = rw c.in-13.is c.put-in-13.ensures

pub returns-in-14 : goal.returns-in-14
unfolding close_text bytes
returns-in-14 c = rw c.in-14.is c.put-in-14.ensures

pub returns-in_default : goal.returns-in_default
unfolding close_text
returns-in_default c =
    let rest = c.in_default.in_default-own.rest in
    let a = c.args in
    let tag = a.tag in
    rw (
      ne_eqb (tag) 3 rest.0.0.0.0.1,
      ne_eqb (tag) 12 rest.0.0.0.1,
      ne_eqb (tag) 15 rest.0.0.1,
      ne_eqb (tag) 13 rest.0.1,
      ne_eqb (tag) 14 rest.1,
    ) (writes_none a.self.now)
