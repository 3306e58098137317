-- What an index of names answers, and what its table holds.
--     head_name      the name in the first pair of the row at place p
--     spelled_name_at  that name, spelled
--     place_of       the last of the places whose name is the text t; None where there is none
--     places_in      the places entered: of the entry behind the k buckets, n of them, the low 16 bits
--     SameAnswers   two lists of places in which every text has the same last place: an order of the places is told by that alone
--     last_in        1 + the last of the first n entries that is in the bucket b; 0 where there is none
--     in_bucket     how many of the first n entries are in the bucket b; chain: the most that a bucket has
--     order         how two texts stand in order: the first byte that differs decides, and else the shorter one is first
--     Hashed        a bucket has its last entry and few enough, an entry the one before it in its bucket, and no two entries have one name
--     Sorted        the entries stand in order of their names, which differ
--     Index         the table holds n entries behind k buckets, arranged in one of these two ways
--     IndexOf, place_asked    an index of these heads, and the place in it of the name asked for
--     Starts        what a table must be before an index starts
--     IndexIn       a writer's table is an index of these heads; Started: it has no entries
--     Entering      what must be known to enter the head at place p
--     Added         it is one entry more: every text has the place that it has among the places before and, behind them, p
--     Entered       that, or the place of the last entry that has its name
--     Enters        that, of a writer
--     Parted        the first i of n names are before a text, and the others behind it; SearchIs: what a search in sorted entries answers, where a text stands or would
--     Passed        how many entries a walk that found nothing passed
--     Inserted      a place stands among numbers, and those from there up to an end stand one further
--     PutInOrder    the entries are sorted, and are the same
use Rattle.std.specs.Prelude.{ℕ, zero, suc, ◌+◌, ◌*◌, ◌/◌, ◌%◌, ◌≤◌, ◌<◌, ◌≡◌, List, [], ◌∷◌, ◌++◌, map, Bool, true, false, eqb, length, get_or, take, drop, if◌then◌else◌, Option, Some, None, is_some}
use Rattle.std.specs.Prelude.{Result, Ok, Err}
use Rattle.std.specs.declared.cmp.Ordering.{Ordering}
use Rattle.std.specs.declared.cmp.Ordering.TheVariants.{Less, Equal, Greater}
use Rattle.std.specs.Ordering.{nat_cmp}
use Rattle.std.specs.Cmp.Lexicographic.{slice_cmp}
use Rattle.text.specs.Text.{Text, same}
use Rattle.names.specs.Same.{spelled, spelled_text}
use Rattle.sheet.specs.Limits.{rows_limit}
use Rattle.sheet.specs.Rows.{text_at}
use Rattle.name_index.specs.declared.Heads.{Heads}
use Rattle.name_index.specs.declared.Table.{Table}
use Rattle.name_index.specs.declared.TableWriter.{TableWriter}
use Rattle.names.specs.declared.same.Spelled.{Spelled}
use Rattle.name_index.specs.Hash.{bucket_of}

unfoldable pub head_name : List ℕ → List ℕ → ℕ → Text
head_name rows names p = text_at names (get_or rows (10 * p + 1) 0) (get_or rows (10 * p + 2) 0)

unfoldable pub spelled_name_at : List ℕ → List ℕ → Bool → ℕ → Text
spelled_name_at rows names normalised p = spelled normalised (head_name rows names p)

unfoldable pub place_from : Option ℕ → (ℕ → Text) → Text → List ℕ → Option ℕ
place_from found name t [] = found
place_from found name t (p ∷ ps) = place_from (if same (name p) t then Some p else found) name t ps

unfoldable pub place_of : (ℕ → Text) → Text → List ℕ → Option ℕ
place_of name t ps = place_from None name t ps

unfoldable pub places_in : ℕ → ℕ → List ℕ → List ℕ
places_in k n table = map (λ (e : ℕ). e % 65536) (take n (drop k table))

abbrev pub SameAnswers : (ℕ → Text) → List ℕ → List ℕ → Type 0
SameAnswers name ps qs = (t : Text) → place_of name t ps ≡ place_of name t qs

-- by the names of the entries, counted from 0
unfoldable pub last_in : ℕ → ℕ → (ℕ → Text) → ℕ → ℕ
last_in k b name zero = zero
last_in k b name (suc n) = if eqb (bucket_of k (name n)) b then suc n else last_in k b name n

unfoldable pub in_bucket : ℕ → ℕ → (ℕ → Text) → ℕ → ℕ
in_bucket k b name zero = zero
in_bucket k b name (suc n) = if eqb (bucket_of k (name n)) b then suc (in_bucket k b name n) else in_bucket k b name n

-- with so many buckets as entries a chain of so many does not come by chance
abbrev pub chain : ℕ
chain = 16

abbrev pub order : Text → Text → Ordering
order s t = slice_cmp nat_cmp s t

-- the place, and the name, of an entry
abbrev pub place_in : List ℕ → ℕ → ℕ → ℕ
place_in table k j = get_or table (k + j) 0 % 65536

abbrev pub name_in : List ℕ → List ℕ → Bool → List ℕ → ℕ → ℕ → Text
name_in rows names normalised table k j = spelled_name_at rows names normalised (place_in table k j)

pub record Hashed (rows names : List ℕ) (normalised : Bool) (table : List ℕ) (k n : ℕ) : Type 0 where
  pub heads : (b : ℕ) → b < k → get_or table b 0 ≡ last_in k b (name_in rows names normalised table k) n
  pub nexts : (j : ℕ) → j < n → get_or table (k + j) 0 / 65536 ≡ last_in k (bucket_of k (name_in rows names normalised table k j)) (name_in rows names normalised table k) j
  pub short : (b : ℕ) → in_bucket k b (name_in rows names normalised table k) n ≤ chain
  pub once : (j : ℕ) → j < n → place_of (spelled_name_at rows names normalised) (name_in rows names normalised table k j) (places_in k j table) ≡ None

pub record Sorted (rows names : List ℕ) (normalised : Bool) (table : List ℕ) (k n : ℕ) : Type 0 where
  pub rising : (i j : ℕ) → i < j → j < n → order (name_in rows names normalised table k i) (name_in rows names normalised table k j) ≡ Less

abbrev pub Arranged : List ℕ → List ℕ → Bool → List ℕ → ℕ → ℕ → Bool → Type 0
Arranged rows names normalised table k n false = Hashed rows names normalised table k n
Arranged rows names normalised table k n true = Sorted rows names normalised table k n

pub record Index (rows names : List ℕ) (normalised : Bool) (table : List ℕ) (k n : ℕ) (sorted : Bool) : Type 0 where
  pub some : 0 < k
  pub inside : k + n ≤ length table
  pub small : length table ≤ rows_limit
  pub placed : (j : ℕ) → j < n → (0 < place_in table k j) × (10 * place_in table k j + 10 ≤ length rows)
  pub arranged : Arranged rows names normalised table k n sorted

-- what is said of heads, of a table and of a name asked for, as the functions take them
abbrev pub IndexOf : Heads → Table → Type 0
IndexOf heads table = Index heads.rows.now heads.names.now heads.normalised table.numbers.now table.buckets table.entries table.sorted

abbrev pub name_asked : Heads → Table → ℕ → Text
name_asked heads table = name_in heads.rows.now heads.names.now heads.normalised table.numbers.now table.buckets

abbrev pub place_asked : Heads → Table → Spelled → Option ℕ
place_asked heads table asked = place_of (spelled_name_at heads.rows.now heads.names.now heads.normalised) (spelled_text asked) (places_in table.buckets table.entries table.numbers.now)

pub record Starts (table : List ℕ) (k : ℕ) : Type 0 where
  pub some : 0 < k
  pub inside : k ≤ length table
  pub small : length table ≤ rows_limit

abbrev pub IndexIn : List ℕ → List ℕ → Bool → TableWriter → Type 0
IndexIn rows names normalised w = Index rows names normalised w.numbers.now w.buckets w.entries w.sorted

pub record Started (before : List ℕ) (k : ℕ) (w : TableWriter) : Type 0 where
  pub buckets_are : w.buckets ≡ k
  pub same_length : length w.numbers.now ≡ length before
  pub index : (rows names : List ℕ) (normalised : Bool) → Index rows names normalised w.numbers.now k 0 w.sorted
  pub none : w.entries ≡ 0

pub record Entering (rows table : List ℕ) (k n p : ℕ) : Type 0 where
  pub above : 0 < p
  pub inside : 10 * p + 10 ≤ length rows
  pub small : length rows ≤ rows_limit
  pub room : k + n < length table

pub record Added (rows names : List ℕ) (normalised : Bool) (before : List ℕ) (k n p : ℕ) (after : List ℕ) (sorted : Bool) : Type 0 where
  pub answers : SameAnswers (spelled_name_at rows names normalised) (places_in k (n + 1) after) (places_in k n before ++ (p ∷ []))
  pub index : Index rows names normalised after k (n + 1) sorted

pub record Entered (rows names : List ℕ) (normalised : Bool) (before : List ℕ) (k n p : ℕ) (after : List ℕ) (sorted : Bool) (r : Option ℕ) : Type 0 where
  pub place : r ≡ place_of (spelled_name_at rows names normalised) (spelled_name_at rows names normalised p) (places_in k n before)
  pub added : r ≡ None → Added rows names normalised before k n p after sorted

-- the writer still holds the same numbers
pub record Enters (heads : Heads) (w : TableWriter) (p : ℕ) (w' : TableWriter) (r : Option ℕ) : Type 0 where
  pub same_numbers : w'.numbers.ghost_name ≡ w.numbers.ghost_name
  pub same_buckets : w'.buckets ≡ w.buckets
  pub same_length : length w'.numbers.now ≡ length w.numbers.now
  pub count : w'.entries ≡ (if is_some r then w.entries else w.entries + 1)
  pub entered : Entered heads.rows.now heads.names.now heads.normalised w.numbers.now w.buckets w.entries p w'.numbers.now w'.sorted r

-- what a walk along a bucket and a search in sorted entries say
abbrev pub Passed : Heads → Table → ℕ → Option ℕ → ℕ → Type 0
Passed heads table b found passed = found ≡ None → passed ≡ in_bucket table.buckets b (name_asked heads table) table.entries

pub record Parted (name : ℕ → Text) (t : Text) (n i : ℕ) : Type 0 where
  pub bound : i ≤ n
  pub below : (j : ℕ) → j < i → order (name j) t ≡ Less
  pub above : (j : ℕ) → i ≤ j → j < n → order (name j) t ≡ Greater

abbrev pub SearchIs : (ℕ → Text) → Text → ℕ → Result ℕ ℕ → Type 0
SearchIs name t n (Ok i) = (i < n) × (order (name i) t ≡ Equal)
SearchIs name t n (Err i) = Parted name t n i

pub record Inserted (before : List ℕ) (from end p : ℕ) (after : List ℕ) : Type 0 where
  pub same_length : length after ≡ length before
  pub below : (j : ℕ) → j < from → get_or after j 0 ≡ get_or before j 0
  pub at : get_or after from 0 ≡ p
  pub moved : (j : ℕ) → from ≤ j → j < end → get_or after (j + 1) 0 ≡ get_or before j 0
  pub behind : (j : ℕ) → end < j → get_or after j 0 ≡ get_or before j 0

pub record PutInOrder (rows names : List ℕ) (normalised : Bool) (before : List ℕ) (k n : ℕ) (after : List ℕ) : Type 0 where
  pub same_length : length after ≡ length before
  pub answers : SameAnswers (spelled_name_at rows names normalised) (places_in k n after) (places_in k n before)
  pub index : Index rows names normalised after k n true
