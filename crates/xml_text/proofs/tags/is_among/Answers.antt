-- `xml_text::tags::is_among` meets its contract: the names at the keys, one after the other. Assumes nothing.
use borrow.Author.Rules.{rules}
use Prim.Native.Nat.{ℕ}
use mathlib.Core.Path.{sym, ap, ◌∙◌}
use native.Mathlib.Nat.{le_refl}
use lib.ListN.{length, drop}
use lib.Seq.{take_all}
use Rattle.std.specs.List.{list_any}
use Rattle.std.proofs.lemmas.Iterator.{YieldsList-from_slice}
use Rattle.std.proofs.lemmas.Iterator.Search.{any_from_yields_List}
use Rattle.text.specs.Text.{same}
use Rattle.xml.specs.Steps.{leading_name}
use Rattle.xml_text.proofs.Laws.Tags.{among-any}
use Rattle.xml_text.proofs.tags.is_among.Goals as goal

pub returns : goal.returns
returns c =
    let text = c.args.text.now in
    let keys = c.args.keys.now in
    let f = (λ (s : ℕ). same (leading_name (drop c.args.key text)) (leading_name (drop s text))) in
    any_from_yields_List f _ _ _ c.any.ensures.ran (YieldsList-from_slice keys cc) (λ x b q k. search rules)
    ∙ ap (list_any f) (sym (take_all (length keys) keys (le_refl (length keys)))) ∙ among-any (leading_name (drop c.args.key text)) text keys (length keys) (le_refl (length keys))
