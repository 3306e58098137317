-- What each rule of characters of two bytes must prove: none begins with 255. Assumes nothing.
use Rattle.std.specs.Prelude.{ℕ, ◌≡◌, refl, false}
use Rattle.text.specs.Text.{between, is_pair, is_graph_pair}

pub no-lead : (b : ℕ) → is_pair 255 b ≡ false
unfolding is_pair between
no-lead b = refl

pub no-graph-lead : (b : ℕ) → is_graph_pair 255 b ≡ false
unfolding is_graph_pair is_pair between
no-graph-lead b = refl
