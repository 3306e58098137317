-- `xsd_act::needs::needed_content` meets its contract: the names end behind the head's name, or behind the text that follows it. Assumes nothing.
use Prim.Native.Nat.{ℕ}
use mathlib.Core.List.{List}
use native.Mathlib.Omega.{arith}
use Rattle.rows.specs.declared.numbers.Used.{Used}
use Rattle.xsd_act.specs.Needs.{HeadSeen}
use Rattle.xsd_replace.proofs.Laws.Head.{HeadNumbers, head-numbers}
use Rattle.xsd_act.proofs.needs.needed_content.Goals as goal

facts : {rows : List ℕ} {used : Used} {head : ℕ} (h : HeadSeen rows used head) → HeadNumbers rows h.names used head h.rs h.name
facts h = head-numbers h.head

pub name_end-end-requires : goal.name_end-end-requires
name_end-end-requires c = omega (arith, facts c.requires.head_seen)

pub overflow_add-result : goal.overflow_add-result
overflow_add-result c = omega (arith, facts c.requires.head_seen)

pub overflow_add-result-2 : goal.overflow_add-result-2
overflow_add-result-2 c =
    omega (arith, facts c.requires.head_seen, c.name_end-end.ensures _ _ _ _ _ c.requires.head_seen.head, c.bytes_of.ensures.small)

pub returns : goal.returns
returns c =
    let a = c.args in
    record {
      few = omega (arith, facts c.requires.head_seen);
      held = omega (arith, facts c.requires.head_seen, c.name_end-end.ensures _ _ _ _ _ c.requires.head_seen.head, c.bytes_of.ensures.small);
      counted = λ names z rs name h.
          let end = c.name_end-end.ensures names a.used z rs name h in
          (omega (arith, h.here), omega arith);
    }
