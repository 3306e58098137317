-- `xml_parts::steps::name_end` meets its contract: where a byte below 128 stands behind the run of name bytes, the name ends there. Assumes nothing.
use native.Mathlib.Omega.{arith}
use mathlib.Core.Path.{sym, ap}
use lib.ListN.{length}
use Rattle.xml.specs.Classes.{is_name, is_byte_of}
use Rattle.xml.proofs.Laws.Names.{low-no-pair, many-name, many-stops, zero-no-byte}
use Rattle.xml_parts.proofs.Laws.Alike.{name-stops}
use Rattle.xml_parts.proofs.steps.name_end.Goals as goal

pub returns-then-byte_at-lt128 : goal.returns-then-byte_at-lt128
returns-then-byte_at-lt128 c =
    let m = sym c.name_bytes-end.ensures in
    let stops = many-stops (is_byte_of is_name) _ _ _ _ zero-no-byte m in
    let low = low-no-pair is_name _ _ (omega (arith, c.byte_at.ensures, c.if-byte_at-lt128.true)) in
    omega (arith, ap length (name-stops c.args.text.now c.name_bytes-end.result stops low), (many-name _ _ _ _ m).1)
