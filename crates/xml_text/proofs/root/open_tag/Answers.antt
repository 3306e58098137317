-- `xml_text::root::open_tag` meets its contract: the tag with its keys above the open tags; a start tag takes the first slot above them. Assumes nothing.
use borrow.Author.Rules.{rules}
use native.Mathlib.Omega.{arith}
use Prim.Native.Nat.{ℕ, ◌-◌, ◌≤◌}
use mathlib.Core.Path.{◌≡◌}
use mathlib.Core.List.{List}
use lib.ListN.{length, take}
use borrow.Rule.Slice.PartMut.{put_mid, take_put}
use Rattle.xml.specs.Tape.{TapeEvent}
use Rattle.xsd_parser.specs.Kinds.{kind_number}
use Rattle.xml_text.proofs.Laws.Root.{open-start, open-empty, one-tag}
use Rattle.xml_text.proofs.root.open_tag.Goals as goal

-- the slots below a part are as they were
below : (n : ℕ) (slots keys : List ℕ) → n ≤ length slots → take n (put_mid n (length slots - n) slots keys) ≡ take n slots
below n slots keys h = take_put n (length slots - n) slots keys (omega arith)

pub returns-in-Start : goal.returns-in-Start
returns-in-Start c =
    let a = c.args in
    let e = c.in_ok-whole.ensures in
    let kind = c.in_ok-whole.whole.kind in
    one-tag a.text.now a.here.at _ a.marks.now a.here.used _ _ _ _ (TapeEvent.tag (kind_number kind) e.0 e.1) _ e.2
    (open-start a.text.now a.slots.now _ a.here.count _ kind e.0 e.1 _ _ c.in-Start.is (below a.here.count a.slots.now c.tag.new.keys (omega (arith, c.requires, a.here.opened))) (search rules)) e.3
    e.4 (omega (arith, e.8)) e.7

pub returns-in-Empty : goal.returns-in-Empty
returns-in-Empty c =
    let a = c.args in
    let e = c.in_ok-whole.ensures in
    let kind = c.in_ok-whole.whole.kind in
    one-tag a.text.now a.here.at _ a.marks.now a.here.used _ _ _ _ (TapeEvent.tag (kind_number kind) e.0 e.1) _ e.2
    (open-empty a.text.now a.slots.now _ a.here.count _ kind e.0 e.1 _ _ c.in-Empty.is (below a.here.count a.slots.now c.tag.new.keys (omega (arith, c.requires, a.here.opened)))) e.3
    e.4 (omega (arith, e.8)) e.7
