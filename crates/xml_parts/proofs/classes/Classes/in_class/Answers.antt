-- `xml_parts::classes::Classes::in_class` meets its contract: the table has the bit of a class where the byte is of the class. Assumes nothing.
use borrow.Author.Rules.{rules}
use Rattle.xml_parts.proofs.Laws.Classes.{class-bit}
use Rattle.xml_parts.proofs.classes.Classes.in_class.Goals as goal

pub returns : goal.returns
returns c =
    let a = c.args in
    rw (c.has_bit.ensures, a.self.now.table) (class-bit a.class a.b (search rules))
