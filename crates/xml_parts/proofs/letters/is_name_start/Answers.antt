-- `xml_parts::letters::is_name_start` meets its contract: the ranges of [4] from U+0080 on. Assumes nothing.
use mathlib.Core.Path.{◌≡◌, sym}
use borrow.Author.Rules.{rules}
use Rattle.text.specs.Text.{between}
use Rattle.xml_parts.proofs.Laws.Letters.{high-start}
use Rattle.xml_parts.proofs.letters.is_name_start.Goals as goal

pub returns : goal.returns
unfolding between
returns c =
    let x : c.contains.result ≡ between 192 214 c.args.point = search rules in
    let y : c.contains-2.result ≡ between 216 246 c.args.point = search rules in
    let z : c.contains-3.result ≡ between 248 383 c.args.point = search rules in
    rw (x, y, z) (sym (high-start c.args.point))
