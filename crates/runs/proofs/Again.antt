-- Calls that do jobs may be cut again: where the jobs that calls do as they stand are done by other calls, these do the first jobs too. A tape's pieces that
-- are cut again are pieces of the tape, and readings that meet 1 stand between them or between jobs. Assumes nothing.
use Prim.Native.Nat.{ℕ}
use mathlib.Core.Path.{◌≡◌, refl, sym, ap, ◌∙◌}
use mathlib.Core.Bool.{true, false, not}
use mathlib.Core.List.{List, [], ◌∷◌, ◌++◌, append_assoc}
use lib.ListN.{length}
use borrow.Author.Tests.{not-true}
use Rattle.text.specs.Text.{Text, every}
use Rattle.std.proofs.lemmas.Bool.{and_parts}
use Rattle.text.proofs.Laws.Tests.{and-true, bool_cases}
use Rattle.text.proofs.Laws.Every.{every_append}
use Rattle.sheet.specs.Rows.{Sheet}
use Rattle.sheet.specs.Lengths.{tape_lengths, Lengths}
use Rattle.xsd_types.specs.State.{State}
use Rattle.xsd_parser.specs.Read.{read_state}
use Rattle.xsd_parser.specs.Whole.{whole_records}
use Rattle.xsd_parser.proofs.Laws.Accepts.{accepted-events}
use Rattle.xsd_parser.proofs.Laws.Cut.{cut-accepted, zero-accepted}
use Rattle.xsd_parser.proofs.Laws.CutRefused.{cut-refused, whole-behind}
use Rattle.runs.specs.Runs.{Call}
use Rattle.runs.specs.Cuts.{Job, jobs_of, passes_by, Pieces, CutInto}

-- ---- the jobs that calls do as they stand

jobs-read : (text : Text) (marks : List ℕ) (calls : List Call) → tape_lengths (length text) (length marks) ≡ true
    → jobs_of (Call.reading text marks ∷ calls) ≡ Job.tape text marks ∷ jobs_of calls
unfolding jobs_of
jobs-read text marks calls t = rw t

jobs-long : (text : Text) (marks : List ℕ) (calls : List Call) → tape_lengths (length text) (length marks) ≡ false → jobs_of (Call.reading text marks ∷ calls) ≡ jobs_of calls
unfolding jobs_of
jobs-long text marks calls t = rw t

jobs_of-append : (a b : List Call) → jobs_of (a ++ b) ≡ jobs_of a ++ jobs_of b
unfolding jobs_of
jobs_of-append [] b = refl
jobs_of-append (Call.reading text marks ∷ a) b =
    bool_cases (tape_lengths (length text) (length marks))
    (λ t. rw t (ap (λ (js : List Job). Job.tape text marks ∷ js) (jobs_of-append a b)))
    (λ t. rw t (jobs_of-append a b))
jobs_of-append (Call.lowering graph scratch ∷ a) b = ap (λ (js : List Job). Job.lowering graph scratch ∷ js) (jobs_of-append a b)

-- calls do their own jobs
pub cut-self : (lent : Lengths) (s : State) (calls : List Call) → CutInto lent s (jobs_of calls) calls
unfolding jobs_of
cut-self lent s [] = CutInto.done
cut-self lent s (Call.reading text marks ∷ calls) =
    bool_cases (tape_lengths (length text) (length marks))
    (λ t. rw t (CutInto.tape (Call.reading text marks ∷ []) calls (Pieces.last t) (cut-self lent (read_state lent s text marks).state calls)))
    (λ t. rw t (CutInto.too_long t (cut-self lent s calls)))
cut-self lent s (Call.lowering graph scratch ∷ calls) = CutInto.lowering (cut-self lent s calls)

-- ---- readings that meet 1, in front

data Long : List Call → Type 0 where
  none : Long []
  long : {text : Text} {marks : List ℕ} {calls : List Call} → tape_lengths (length text) (length marks) ≡ false → Long calls → Long (Call.reading text marks ∷ calls)

-- such a reading passes by
long-one : (text : Text) (marks : List ℕ) → tape_lengths (length text) (length marks) ≡ false → passes_by (Call.reading text marks) ≡ true
unfolding passes_by
long-one text marks t = cc

long-passes : {calls : List Call} → Long calls → every passes_by calls ≡ true
unfolding every
long-passes Long.none = refl
long-passes (Long.long {text = text} {marks = marks} t l) = and-true (long-one text marks t) (long-passes l)

long-cut : {lent : Lengths} {s : State} {jobs : List Job} {front rest : List Call} → Long front → CutInto lent s jobs rest → CutInto lent s jobs (front ++ rest)
long-cut Long.none c = c
long-cut (Long.long t l) c = CutInto.too_long t (long-cut l c)

-- ---- what stands in front of the first job's calls

record TapeFirst (lent : Lengths) (s : State) (text : Text) (marks : List ℕ) (jobs : List Job) (calls : List Call) : Type 0 where
  front : List Call
  pieces : List Call
  rest : List Call
  parts : calls ≡ front ++ (pieces ++ rest)
  passed : Long front
  cut : Pieces lent text s marks pieces
  onward : CutInto lent (read_state lent s text marks).state jobs rest

tape-first : {lent : Lengths} {s : State} {text : Text} {marks : List ℕ} {jobs : List Job} {calls : List Call} → CutInto lent s (Job.tape text marks ∷ jobs) calls
    → TapeFirst lent s text marks jobs calls
tape-first (CutInto.tape ps calls p c) = record { front = []; pieces = ps; rest = calls; parts = refl; passed = Long.none; cut = p; onward = c }
tape-first (CutInto.too_long {text = text} {marks = marks} t c) =
    let r = tape-first c in
    record {
      front = Call.reading text marks ∷ r.front;
      pieces = r.pieces;
      rest = r.rest;
      parts = ap (λ (cs : List Call). Call.reading text marks ∷ cs) r.parts;
      passed = Long.long t r.passed;
      cut = r.cut;
      onward = r.onward;
    }

-- calls that pass by, and the rest
record Passing (lent : Lengths) (s : State) (jobs : List Job) (calls : List Call) : Type 0 where
  front : List Call
  rest : List Call
  parts : calls ≡ front ++ rest
  passed : every passes_by front ≡ true
  onward : CutInto lent s jobs rest

record LoweringFirst (lent : Lengths) (s : State) (graph : Sheet) (scratch : List ℕ) (jobs : List Job) (calls : List Call) : Type 0 where
  front : List Call
  rest : List Call
  parts : calls ≡ front ++ (Call.lowering graph scratch ∷ rest)
  passed : Long front
  onward : CutInto lent s jobs rest

lowering-first : {lent : Lengths} {s : State} {graph : Sheet} {scratch : List ℕ} {jobs : List Job} {calls : List Call} → CutInto lent s (Job.lowering graph scratch ∷ jobs) calls
    → LoweringFirst lent s graph scratch jobs calls
lowering-first (CutInto.lowering {calls = calls} c) = record { front = []; rest = calls; parts = refl; passed = Long.none; onward = c }
lowering-first (CutInto.too_long {text = text} {marks = marks} t c) =
    let r = lowering-first c in
    record {
      front = Call.reading text marks ∷ r.front;
      rest = r.rest;
      parts = ap (λ (cs : List Call). Call.reading text marks ∷ cs) r.parts;
      passed = Long.long t r.passed;
      onward = r.onward;
    }

passes-append : (a b : List Call) → every passes_by a ≡ true → every passes_by b ≡ true → every passes_by (a ++ b) ≡ true
passes-append a b e f = every_append passes_by a b ∙ and-true e f

-- the jobs of calls that pass by are lowerings, and other calls that do them pass by too
passing-first : {lent : Lengths} {s : State} {jobs : List Job} (ls : List Call) {calls : List Call} → every passes_by ls ≡ true → CutInto lent s (jobs_of ls ++ jobs) calls
    → Passing lent s jobs calls
unfolding every passes_by jobs_of
passing-first [] {calls} e c = record { front = []; rest = calls; parts = refl; passed = refl; onward = c }
passing-first (Call.reading text marks ∷ ls) e c =
    let both = and_parts (not (tape_lengths (length text) (length marks))) (every passes_by ls) e in
    passing-first ls both.1 (rw (jobs-long text marks ls (not-true (tape_lengths (length text) (length marks)) both.0)) at c)
passing-first (Call.lowering graph scratch ∷ ls) e c =
    let f = lowering-first c in
    let r = passing-first ls e f.onward in
    record {
      front = f.front ++ (Call.lowering graph scratch ∷ r.front);
      rest = r.rest;
      parts = f.parts ∙ ap (λ (cs : List Call). f.front ++ (Call.lowering graph scratch ∷ cs)) r.parts ∙ sym (append_assoc f.front (Call.lowering graph scratch ∷ r.front) r.rest);
      passed = passes-append f.front (Call.lowering graph scratch ∷ r.front) (long-passes f.passed) r.passed;
      onward = r.onward;
    }

-- ---- pieces behind pieces

again-parts : (ps b f qs rest : List Call) {mid end : List Call} → mid ≡ b ++ end → end ≡ f ++ (qs ++ rest) → ps ++ mid ≡ (ps ++ ((b ++ f) ++ qs)) ++ rest
again-parts ps b f qs rest e g =
    rw (e, g, append_assoc ps ((b ++ f) ++ qs) rest, append_assoc (b ++ f) qs rest, append_assoc b f (qs ++ rest))

module _ {lent : Lengths} {text : Text} where
  -- the pieces of an accepted part, calls that pass by, and the pieces of the rest
  pieces-join : {s : State} {m₁ : List ℕ} (m₂ : List ℕ) {ps : List Call} (between qs : List Call) → Pieces lent text s m₁ ps → (read_state lent s text m₁).answer.number ≡ 0
      → every passes_by between ≡ true → Pieces lent text (read_state lent s text m₁).state m₂ qs → Pieces lent text s (m₁ ++ m₂) (ps ++ (between ++ qs))
  pieces-join m₂ between qs (Pieces.last {marks = marks} t) z o q = Pieces.onward marks m₂ between qs t z o q
  pieces-join {s} m₂ between qs (Pieces.onward ma mb ls cs t za oa p) z o q =
      let e = cut-accepted lent s text ma mb za in
      rw (append_assoc ma mb m₂, append_assoc ls cs (between ++ qs))
      (Pieces.onward ma (mb ++ m₂) ls (cs ++ (between ++ qs)) t za oa (pieces-join m₂ between qs p (rw e at z) o (rw e at q)))
  pieces-join {s} m₂ between qs (Pieces.dropped ma mb t w r) z o q = absurd (r (rw (cut-refused lent s text ma mb r (λ n. w)) at z))

  -- the pieces of a part that is refused, where the rest is dropped
  pieces-dropped : {s : State} {m₁ : List ℕ} (m₂ : List ℕ) {ps : List Call} → Pieces lent text s m₁ ps → whole_records text m₁ ≡ true
      → ((read_state lent s text m₁).answer.number ≡ 0 → ⊥) → Pieces lent text s (m₁ ++ m₂) ps
  pieces-dropped m₂ (Pieces.last {marks = marks} t) w r = Pieces.dropped marks m₂ t w r
  pieces-dropped {s} m₂ (Pieces.onward ma mb ls cs t za oa p) w r =
      let e = cut-accepted lent s text ma mb za in
      let whole = whole-behind text ma mb (accepted-events (zero-accepted lent s text ma za)) w in
      rw (append_assoc ma mb m₂) (Pieces.onward ma (mb ++ m₂) ls cs t za oa (pieces-dropped m₂ p whole (λ z. r (rw e z))))
  pieces-dropped m₂ (Pieces.dropped ma mb t wa ra) w r = rw (append_assoc ma mb m₂) (Pieces.dropped ma (mb ++ m₂) t wa ra)

  -- what stands for an accepted part, what passes by, and what stands for the rest
  first-onward : {s : State} {m₁ m₂ : List ℕ} {jobs₁ jobs₂ jobs : List Job} {calls : List Call} → (read_state lent s text m₁).answer.number ≡ 0
      → (f : TapeFirst lent s text m₁ jobs₁ calls) (b : Passing lent (read_state lent s text m₁).state jobs₂ f.rest)
      → TapeFirst lent (read_state lent s text m₁).state text m₂ jobs b.rest → TapeFirst lent s text (m₁ ++ m₂) jobs calls
  first-onward {s} {m₁} {m₂} z f b r =
      record {
        front = f.front;
        pieces = f.pieces ++ ((b.front ++ r.front) ++ r.pieces);
        rest = r.rest;
        parts = f.parts ∙ ap (λ (cs : List Call). f.front ++ cs) (again-parts f.pieces b.front r.front r.pieces r.rest b.parts r.parts);
        passed = f.passed;
        cut = pieces-join m₂ (b.front ++ r.front) r.pieces f.cut z (passes-append b.front r.front b.passed (long-passes r.passed)) r.cut;
        onward = rw (cut-accepted lent s text m₁ m₂ z) r.onward;
      }

  -- a tape's pieces, cut again, are its pieces
  pieces-again : {s : State} {marks : List ℕ} {ps : List Call} {jobs : List Job} {calls : List Call} → Pieces lent text s marks ps → CutInto lent s (jobs_of ps ++ jobs) calls
      → TapeFirst lent s text marks jobs calls
  unfolding jobs_of
  pieces-again (Pieces.last {marks = marks} t) c = tape-first (rw (jobs-read text marks [] t) at c)
  pieces-again {s} (Pieces.dropped m₁ m₂ t w r) c =
      let f = tape-first (rw (jobs-read text m₁ [] t) at c) in
      record {
        front = f.front;
        pieces = f.pieces;
        rest = f.rest;
        parts = f.parts;
        passed = f.passed;
        cut = pieces-dropped m₂ f.cut w r;
        onward = rw (cut-refused lent s text m₁ m₂ r (λ n. w)) f.onward;
      }
  pieces-again {s} {jobs = jobs} (Pieces.onward m₁ m₂ ls cs t z o p) c =
      let f = tape-first (rw (jobs-read text m₁ (ls ++ cs) t, jobs_of-append ls cs, append_assoc (jobs_of ls) (jobs_of cs) jobs) at c) in
      let b = passing-first ls o f.onward in
      first-onward z f b (pieces-again p b.onward)

-- ---- the calls

-- what does the jobs that calls do does the jobs that these are cut into
pub cut-again : {lent : Lengths} {s : State} {jobs : List Job} {calls again : List Call} → CutInto lent s jobs calls → CutInto lent s (jobs_of calls) again → CutInto lent s jobs again
unfolding jobs_of
cut-again CutInto.done c = c
cut-again (CutInto.tape ps calls p k) c =
    let f = pieces-again p (rw (jobs_of-append ps calls) at c) in
    rw f.parts (long-cut f.passed (CutInto.tape f.pieces f.rest f.cut (cut-again k f.onward)))
cut-again (CutInto.lowering k) c =
    let f = lowering-first c in
    rw f.parts (long-cut f.passed (CutInto.lowering (cut-again k f.onward)))
cut-again (CutInto.too_long {text = text} {marks = marks} {calls = calls} t k) c = cut-again k (rw (jobs-long text marks calls t) at c)
