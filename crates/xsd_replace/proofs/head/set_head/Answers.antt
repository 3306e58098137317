-- `xsd_replace::head::set_head` meets its contract: the name stays where it is, what is behind it is freed, and the row and its second text are stored anew.
-- Assumes nothing.
use Prim.Native.Nat.{ℕ, ◌+◌, ◌-◌, ◌≤◌}
use mathlib.Core.Path.{◌∙◌}
use native.Mathlib.Omega.{arith}
use lib.ListN.{length}
use Rattle.rows.specs.declared.writer.SheetWriter.{SheetWriter}
use Rattle.rows.specs.Texts.{used_length}
use Rattle.rows.proofs.Laws.Texts.{used-rest}
use Rattle.xsd_replace.specs.Head.{HeadRoom}
use Rattle.xsd_replace.proofs.Laws.Head.{HeadNumbers, head-numbers, head-replaced}
use Rattle.xsd_replace.proofs.head.set_head.Goals as goal

facts : {w : SheetWriter} {place more : ℕ} (h : HeadRoom w place more) → HeadNumbers w.rows.now w.names.now w.used place h.rs h.name
facts h = head-numbers h.head

pub overflow_mul-place : goal.overflow_mul-place
overflow_mul-place c = omega (arith, facts c.requires.head)

pub overflow_add-place : goal.overflow_add-place
overflow_add-place c = omega (arith, facts c.requires.head)

pub pair_at-name-requires : goal.pair_at-name-requires
pair_at-name-requires c = omega (arith, facts c.requires.head)

pub overflow_add-end : goal.overflow_add-end
overflow_add-end c = omega (arith, facts c.requires.head, c.pair_at-name.ensures)

pub cut-requires : goal.cut-requires
cut-requires c = omega (arith, facts c.requires.head, c.pair_at-name.ensures)

pub set_row-requires : goal.set_row-requires
set_row-requires c =
    let found = c.pair_at-name in
    omega (
      arith,
      facts c.requires.head,
      found.ensures,
      c.cut.ensures.same,
      c.requires,
      c.requires.head.room,
      used-rest c.args.pairs found.result.len (length c.args.second.now) c.requires.pairs.0 c.requires.pairs.1,
    )

pub put_texts-names_end-requires : goal.put_texts-names_end-requires
put_texts-names_end-requires c =
    omega (
      arith,
      facts c.requires.head,
      c.pair_at-name.ensures,
      c.cut.ensures.same,
      c.requires,
      c.requires.head.room,
    )

pub overflow_add-sheet : goal.overflow_add-sheet
overflow_add-sheet c = omega (
  arith,
  facts c.requires.head,
)

pub returns : goal.returns
returns c =
    let a = c.args in
    let found = c.pair_at-name in
    let freed = c.cut in
    let set = c.set_row in
    let stored = c.put_texts-names_end in
    let space : found.result.at + found.result.len + used_length (a.pairs - 1) (length a.second.now) (length a.second.now) ≤ length a.sheet.now.names.now = omega
    (arith, facts c.requires.head, found.ensures, c.requires, c.requires.head.room) in
    record {
      same = record {
        rows = freed.ensures.same.rows;
        names = freed.ensures.same.names;
        rows_length = set.auto.rows ∙ freed.ensures.same.rows_length;
        names_length = stored.auto.names ∙ freed.ensures.same.names_length;
      };
      holds = λ z rs name h. head-replaced h a.n a.pairs a.second.now found.result.at found.result.len stored.result c.requires.pairs.0
          c.requires.pairs.1 found.ensures.0 found.ensures.1 space freed.ensures.rows freed.ensures.names set.ensures stored.ensures.texts
          stored.ensures.end;
    }
