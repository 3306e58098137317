-- `xsd_write::put::Writer::put_word` meets its contract: each arm puts its tag's word. Assumes nothing.
use borrow.Author.Tests.{ne_eqb}
use Rattle.text.specs.Text.{bytes}
use Rattle.xsd_written.specs.ByRows.{facet_word_text}
use Rattle.xsd_write.proofs.put.Writer.put_word.Goals as goal

pub returns-in-4 : goal.returns-in-4
unfolding facet_word_text bytes
returns-in-4 c = rw c.in-4.is c.put.ensures

pub returns-in-5 : goal.returns-in-5
unfolding facet_word_text bytes
returns-in-5 c = rw c.in-5.is c.put-in-5.ensures

pub returns-in-6 : goal.returns-in-6
unfolding facet_word_text bytes
returns-in-6 c = rw c.in-6.is c.put-in-6.ensures

pub returns-in-7 : goal.returns-in-7
unfolding facet_word_text bytes
returns-in-7 c = rw c.in-7.is c.put-in-7.ensures

pub returns-in-8 : goal.returns-in-8
unfolding facet_word_text bytes
returns-in-8 c = rw c.in-8.is c.put-in-8.ensures

pub returns-in-9 : goal.returns-in-9
unfolding facet_word_text bytes
returns-in-9 c = rw c.in-9.is c.put-in-9.ensures

pub returns-in-10 : goal.returns-in-10
unfolding facet_word_text bytes
returns-in-10 c = rw c.in-10.is c.put-in-10.ensures

pub returns-in_default : goal.returns-in_default
unfolding facet_word_text bytes
returns-in_default c =
    let rest = c.in_default.in_default-own.rest in
    let tag = c.args.tag in
    rw (
      ne_eqb (tag) 4 rest.0.0.0.0.0.0.1,
      ne_eqb (tag) 5 rest.0.0.0.0.0.1,
      ne_eqb (tag) 6 rest.0.0.0.0.1,
      ne_eqb (tag) 7 rest.0.0.0.1,
      ne_eqb (tag) 8 rest.0.0.1,
      ne_eqb (tag) 9 rest.0.1,
      ne_eqb (tag) 10 rest.1,
    ) c.put-in_default.ensures
