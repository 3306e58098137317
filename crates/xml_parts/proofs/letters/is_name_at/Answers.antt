-- `xml_parts::letters::name_at` meets its contract: a byte below 128 leads no character, else the code point is of the class. Assumes nothing.
use native.Mathlib.Omega.{arith}
use mathlib.Core.Path.{sym, ◌∙◌}
use borrow.Author.Tests.{lt-leb}
use Rattle.xml.specs.Classes.{is_name}
use Rattle.xml.proofs.Laws.Names.{low-no-pair}
use Rattle.xml_parts.proofs.Laws.Letters.{point-asked}
use Rattle.xml_parts.proofs.letters.is_name_at.Goals as goal

pub returns-then-byte_at-ge128 : goal.returns-then-byte_at-ge128
returns-then-byte_at-ge128 c = point-asked is_name _ _ c.point_at.result c.point_at.ensures c.is_some_and.ensures

pub returns-else-byte_at-ge128 : goal.returns-else-byte_at-ge128
returns-else-byte_at-ge128 c =
    lt-leb 128 _ (omega (arith, c.if-byte_at-ge128.false)) ∙ sym (low-no-pair is_name _ _ (omega (arith, c.byte_at.ensures, c.if-byte_at-ge128.false)))
