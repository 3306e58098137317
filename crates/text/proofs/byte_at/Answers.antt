-- `text::byte_at` meets its contract: past the end nothing is left, and `first` of nothing is 0. Assumes nothing.
use Rattle.std.proofs.Common.{◌≡◌, ◌∙◌, sym, rules, get_or}
use Rattle.text.proofs.Laws.Texts.{first-drop}
use Rattle.text.proofs.byte_at.Goals as goal

pub returns : goal.returns
returns c =
    let found : c.unwrap_or.result ≡ get_or c.args.s.now c.args.i 0 = search rules in
    found ∙ sym (first-drop c.args.s.now c.args.i)
