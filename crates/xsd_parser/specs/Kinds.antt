-- Paper 01, "Tape": the kinds of an event.
--     kind_number    the number of a kind
--     KindRead       a number is that of the kind, or it is none's and refused by 3
use Rattle.std.specs.Prelude.{ℕ, ◌≡◌, Result, MatchResult}
use Rattle.sheet.specs.declared.refusal.Refusal.{Refusal}
use Rattle.xsd_parser.specs.declared.kinds.Kind.{Kind}

-- "Kind 1 start"
abbrev pub start_kind : ℕ
start_kind = 1

-- "2 empty"
abbrev pub empty_kind : ℕ
empty_kind = 2

-- "3 close"
abbrev pub close_kind : ℕ
close_kind = 3

abbrev pub kind_number : Kind → ℕ
kind_number Kind.Start = start_kind
kind_number Kind.Empty = empty_kind
kind_number Kind.Close = close_kind

abbrev pub KindRead : ℕ → Result Kind Refusal → Type 0
KindRead n r = MatchResult r (λ kind. kind_number kind ≡ n) (λ refusal. (refusal ≡ Refusal.BadRecord) × (n ≡ start_kind → ⊥) × (n ≡ empty_kind → ⊥) × (n ≡ close_kind → ⊥))
