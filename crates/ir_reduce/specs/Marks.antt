-- What the loops that mark say of marks and queue. Rows stand in groups: a row whose tag is not 0 is a head, the rows behind it up to the next head are its
-- children; row 1 and the roots behind it are the first group. to[i] is the place of the head that row i leads to, 0 for nowhere.
--     head_at        the row at a place is a type's head; head_flags: the tags, 1 of a head and 0 of another row, of the first n rows
--     InGroup       a row of the group of the head at p; Leads: a row of that group leads to q
--     ReachedPlace  the places that are reached from row 1
--     marked_count  how many numbers are not 0
--     Marked, Targeted    what marking a place, and what a row leads to, does
--     Queued        a place is among the first n of the queue
--     Marking       the marked places are those in the queue, and all are reached; QueueMarked: what the first k of the queue lead to is marked
--     Room          the lengths, and that what is marked is counted
--     Grown         marks stay, and so does the queue
--     Led, GroupDone, AllDone    what the rows of a group so far, those of a group, and the queue so far lead to is marked
use Rattle.std.specs.Prelude.{ℕ, zero, suc, ◌+◌, ◌*◌, ◌≤◌, ◌<◌, ◌≡◌, Bool, true, false, List, [], ◌∷◌, eqb, length, get_or, set}
use Rattle.sheet.specs.Rows.{bit}
use Rattle.ir_types.specs.Form.{is_type_tag}

unfoldable pub head_at : List ℕ → ℕ → Bool
head_at rows p = is_type_tag (get_or rows (10 * p) 0)

unfoldable pub flags_from : List ℕ → ℕ → ℕ → List ℕ
flags_from rows p zero = []
flags_from rows p (suc n) = bit (head_at rows p) ∷ flags_from rows (suc p) n

abbrev pub head_flags : List ℕ → ℕ → List ℕ
head_flags rows n = flags_from rows 0 n

pub record InGroup (tags : List ℕ) (p row : ℕ) : Type 0 where
  pub from : p ≤ row
  pub inside : row < length tags
  pub children : (i : ℕ) → p < i → i ≤ row → get_or tags i 0 ≡ 0

pub record Leads (tags to : List ℕ) (p q : ℕ) : Type 0 where
  pub row : ℕ
  pub in_group : InGroup tags p row
  pub target : get_or to row 0 ≡ q
  pub some : 0 < q

pub data ReachedPlace (tags to : List ℕ) : ℕ → Type 0 where
  start : ReachedPlace tags to 1
  onward : (p q : ℕ) → ReachedPlace tags to p → Leads tags to p q → ReachedPlace tags to q

abbrev pub pick {ℓ} : {A : Type ℓ} → Bool → A → A → A
pick true a b = a
pick false a b = b

unfoldable pub marked_count : List ℕ → ℕ
marked_count [] = 0
marked_count (m ∷ ms) = pick (eqb m 0) (marked_count ms) (suc (marked_count ms))

-- what marking a place does: nothing where it is marked
pub record Marked (marks queue : List ℕ) (n place : ℕ) (marks' queue' : List ℕ) (n' : ℕ) : Type 0 where
  pub flag : marks' ≡ pick (eqb (get_or marks place 0) 0) (set marks place 1) marks
  pub entry : queue' ≡ pick (eqb (get_or marks place 0) 0) (set queue n place) queue
  pub count : n' ≡ pick (eqb (get_or marks place 0) 0) (n + 1) n

pub record Queued (queue : List ℕ) (n q : ℕ) : Type 0 where
  pub at : ℕ
  pub before : at < n
  pub holds : get_or queue at 0 ≡ q

-- the marked places are those in the queue, and all are reached
pub record Marking (tags to marks queue : List ℕ) (n : ℕ) : Type 0 where
  pub each : (q : ℕ) → 0 < get_or marks q 0 → ReachedPlace tags to q
  pub queued : (q : ℕ) → 0 < get_or marks q 0 → Queued queue n q
  pub held : (i : ℕ) → i < n → (get_or queue i 0 < length tags) × (0 < get_or marks (get_or queue i 0) 0)
  pub count : n ≡ marked_count marks
  pub long : length tags ≤ length marks
  pub room : length marks ≤ length queue

-- what the first k of the queue lead to is marked
pub record QueueMarked (tags to marks queue : List ℕ) (k : ℕ) : Type 0 where
  pub led : (i q : ℕ) → i < k → Leads tags to (get_or queue i 0) q → 0 < get_or marks q 0

-- what marking a target does: 0 is nowhere
abbrev pub Targeted : Bool → List ℕ → List ℕ → ℕ → ℕ → List ℕ → List ℕ → ℕ → Type 0
Targeted true marks queue n q marks' queue' n' = (marks' ≡ marks) × (queue' ≡ queue) × (n' ≡ n)
Targeted false marks queue n q marks' queue' n' = Marked marks queue n q marks' queue' n'

-- the lengths, and that what is marked is counted
pub record Room (tags to marks queue : List ℕ) (n : ℕ) : Type 0 where
  pub tos : length tags ≤ length to
  pub targets : (i : ℕ) → get_or to i 0 < length tags
  pub count : n ≡ marked_count marks
  pub long : length tags ≤ length marks
  pub room : length marks ≤ length queue
  pub few : length marks ≤ 4096

-- marks stay, and so do the first n of the queue
pub record Grown (marks queue : List ℕ) (n : ℕ) (marks' queue' : List ℕ) (n' : ℕ) : Type 0 where
  pub kept : (q : ℕ) → 0 < get_or marks q 0 → 0 < get_or marks' q 0
  pub prefix : (i : ℕ) → i < n → get_or queue' i 0 ≡ get_or queue i 0
  pub more : n ≤ n'

-- all that the rows of p's group below a row lead to is marked
pub record Led (tags to : List ℕ) (p row : ℕ) (marks : List ℕ) : Type 0 where
  pub led : (i : ℕ) → p ≤ i → i < row → 0 < get_or to i 0 → 0 < get_or marks (get_or to i 0) 0
  pub plain : (i : ℕ) → p < i → i < row → get_or tags i 0 ≡ 0

pub record GroupDone (tags to : List ℕ) (p : ℕ) (marks queue : List ℕ) (n : ℕ) (marks' queue' : List ℕ) (n' : ℕ) : Type 0 where
  pub marking : Marking tags to marks' queue' n'
  pub grown : Grown marks queue n marks' queue' n'
  pub all : (q : ℕ) → Leads tags to p q → 0 < get_or marks' q 0

pub record AllDone (tags to : List ℕ) (m q : List ℕ) (n : ℕ) (m' q' : List ℕ) (n' k : ℕ) : Type 0 where
  pub marking : Marking tags to m' q' n'
  pub grown : Grown m q n m' q' n'
  pub done : QueueMarked tags to m' q' k
