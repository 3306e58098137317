-- `xml_text::tags::put_attribute` meets its contract: four stores. Assumes nothing.
use Prim.Native.Nat.{◌-◌}
use mathlib.Core.Path.{◌∙◌}
use Rattle.xml.specs.Tape.{attribute_marks}
use Rattle.xml_text.proofs.Laws.Marks.{put_four}
use Rattle.xml_text.proofs.tags.put_attribute.Goals as goal

pub returns : goal.returns
unfolding attribute_marks
returns c =
    let a = c.args in
    c.put_four.ensures ∙ put_four a.marks.now a.at a.it.key (a.it.key_end - a.it.key) a.it.quote (a.it.behind - 1)
