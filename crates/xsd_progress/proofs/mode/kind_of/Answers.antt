-- `xsd_progress::mode::kind_of` meets its contract: a number that is no kind's is neither a start's nor a close's. Assumes nothing.
use Rattle.std.specs.Prelude.{Result, Ok, Err}
use Rattle.std.specs.Result.{result_unwrap_or}
use Prim.Native.Nat.{ℕ}
use mathlib.Core.Path.{◌≡◌, sym, ap, ◌∙◌}
use native.Mathlib.Omega.{arith}
use Rattle.sheet.specs.declared.refusal.Refusal.{Refusal}
use Rattle.xsd_parser.specs.declared.kinds.Kind.{Kind}
use Rattle.xsd_parser.specs.Event.{Tag}
use Rattle.xsd_parser.specs.Kinds.{kind_number, KindRead}
use Rattle.xsd_progress.specs.Answers.{event_as}
use Rattle.xsd_progress.proofs.Laws.Kinds.{as-empty}
use Rattle.xsd_progress.proofs.mode.kind_of.Goals as goal

kind-or : (n : ℕ) (r : Result Kind Refusal) → KindRead n r → (t : Tag) → event_as (kind_number (result_unwrap_or r Kind.Empty)) t ≡ event_as n t
kind-or n (Ok kind) e t = ap (λ (k : ℕ). event_as k t) e
kind-or n (Err refusal) e t = as-empty 2 t (λ k. omega (arith, k)) (λ k. omega (arith, k)) ∙ sym (as-empty n t e.1 e.3)

pub returns : goal.returns
returns c t = ap (λ (kind : Kind). event_as (kind_number kind) t) c.unwrap_or.ensures ∙ kind-or c.args.number c.try_from.result c.try_from.ensures t
