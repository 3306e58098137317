-- `tape::words::key_of` meets its contract: a name that is a key is its own local name. Assumes nothing.
use Rattle.std.proofs.Common.{rules, tests}
use Rattle.std.specs.Prelude.{Option, Some, None, MatchOption}
use mathlib.Core.Path.{◌≡◌, sym, ap, ◌∙◌}
use native.Mathlib.Omega.{arith}
use Rattle.text.specs.Text.{Text, local_name}
use Rattle.tape.specs.declared.words.Key.{Key}
use Rattle.tape.specs.Keys.{key_number, key_of}
use Rattle.tape.proofs.Laws.Words.{key-few, key-local}
use Rattle.tape.proofs.words.key_of.Goals as goal

found : (P : Type 0) (s : Text) (o r : Option Key) → key_number o ≡ key_of s → MatchOption o P (λ k. r ≡ Some k) → (P → key_number r ≡ key_of (local_name s))
    → key_number r ≡ key_of (local_name s)
found P s None r e h f = f h
found P s (Some k) r e h f = ap key_number h ∙ e ∙ ap key_of (sym (key-local s (omega (arith, e, key-few k))))

pub returns : goal.returns
returns c = found _ c.args.name.now c.plain_key.result c.or_else.result c.plain_key.ensures c.or_else.ensures (λ h. search (rules, tests))
