-- Rows added one after the other, told by what is still to be added: a loop's invariant. By the laws of rows added together. Assumes nothing.
--     Onward        `all` is added from the first writer on where `rest` is from the one at hand on
use Rattle.std.specs.Prelude.{Option, Some, None}
use mathlib.Core.Path.{◌≡◌}
use mathlib.Core.List.{List, [], ◌++◌}
use Rattle.sheet.specs.Rows.{Row}
use Rattle.ir_append.specs.declared.writer.GraphWriter.{GraphWriter}
use Rattle.ir_append.specs.Grows.{Grows}
use Rattle.ir_append.proofs.Laws.Grows.{grows_none, grows_then, grows-full}

pub record Onward (start : GraphWriter) (all : List Row) (w : GraphWriter) (rest : List Row) : Type 0 where
  pub on : (w' : GraphWriter) (r : Option (Unit {0})) → Grows w rest w' r → Grows start all w' r

pub onward-start : {w : GraphWriter} (all : List Row) → Onward w all w all
onward-start all = record { on = λ w' r g. g }

pub onward-step : {start w w' : GraphWriter} {all rest xs ys : List Row} {u : Unit {0}} → Onward start all w rest → rest ≡ xs ++ ys → Grows w xs w' (Some u)
    → Onward start all w' ys
onward-step o e g = record { on = λ w' r k. o.on w' r (rw e (grows_then g k)) }

pub onward-end : {start w : GraphWriter} {all rest : List Row} {u : Unit {0}} → Onward start all w rest → rest ≡ [] → Grows start all w (Some u)
onward-end {w = w} {u = u} o e = o.on w (Some u) (rw e grows_none)

pub onward-full : {start w w' : GraphWriter} {all rest xs : List Row} (ys : List Row) → Onward start all w rest → rest ≡ xs ++ ys → Grows w xs w' None → Grows start all w' None
onward-full {w' = w'} ys o e g = o.on w' None (rw e (grows-full ys g))
