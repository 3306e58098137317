-- `xsd_act::needs::bytes_of` meets its contract, by cases. Assumes nothing.
use Rattle.std.specs.Prelude.{Option, Some, None}
use Rattle.std.specs.Borrow.{Bor}
use Rattle.std.specs.Option.{unwrap_or}
use mathlib.Core.Path.{◌≡◌, refl, ap, ◌∙◌}
use mathlib.Core.List.{[], append-nil}
use lib.ListN.{length}
use Rattle.text.specs.Text.{Text, join}
use Rattle.rows.specs.Texts.{listed}
use Rattle.xsd_act.proofs.needs.bytes_of.Goals as goal

bytes-listed : (text : Option (Bor Text)) (none : Bor Text) → none.now ≡ [] → length (unwrap_or text none).now ≡ length (join (listed text))
unfolding join
bytes-listed (Some t) none e = rw append-nil
bytes-listed None none e = rw e

pub returns-clause-bytes : goal.returns-clause-bytes
returns-clause-bytes c = ap (λ (t : Bor Text). length t.now) c.unwrap_or.ensures ∙ bytes-listed c.args.text _ refl
