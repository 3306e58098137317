-- What is used after each action: the count of the rows after it, by the laws of After. Assumes nothing.
use Prim.Native.Nat.{ℕ, ◌+◌, ◌*◌, ◌≤◌, min}
use mathlib.Core.Path.{◌≡◌, sym, subst, ap, ◌∙◌}
use mathlib.Core.Bool.{Bool, ◌&&◌}
use mathlib.Core.List.{List, [], ◌∷◌, ◌++◌}
use native.Mathlib.Omega.{arith}
use lib.Dec.{leb}
use lib.ListN.{length, length-append}
use borrow.Author.Tests.{leb-true, leb-false, le-leb, lt-leb}
use Rattle.text.specs.Text.{Text, join}
use Rattle.text.proofs.Laws.Tests.{bool_cases}
use Rattle.sheet.specs.Rows.{Row, row, names_of}
use Rattle.sheet.specs.Lengths.{fits}
use Rattle.xsd_types.specs.Rows.{namespace_row}
use Rattle.xsd_parser.specs.Handlers.{Outcome, ok, refuse}
use Rattle.rows.specs.declared.numbers.Used.{Used}
use Rattle.xsd_actions.specs.Actions.{Action, namespace_after, rows_after, Fitting}
use Rattle.xsd_act.specs.Ready.{Ready, rows_after_all}
use Rattle.xsd_act.specs.Needs.{Counted, Small, RowNeeded, HeadNeeded, TextNeeded, AllNeeded, Needed}
use Rattle.xsd_act.proofs.Laws.Ready.{ready-root, ready-head, ready-base}
use Rattle.xsd_act.proofs.Laws.After.{after-content, after-base, after-root, counted-one, counted-spot}

pub ok-back : {a b : Action} → ok a ≡ ok b → a ≡ b
ok-back e = cc

-- a refusal is no action
pub refuse-ok : {n : ℕ} {a : Action} → refuse n ≡ ok a → ⊥
refuse-ok e = cc

-- a cap above a bound does not change what is within it
leb-capped : (x m : ℕ) → m ≤ 65536 → leb (min x 18446744073709551615) m ≡ leb x m
leb-capped x m few =
    bool_cases (leb x m)
    (λ e. let h = leb-true x m e in le-leb (min x 18446744073709551615) m (omega arith) ∙ sym e)
    (λ e. let h = leb-false x m e in lt-leb (min x 18446744073709551615) m (omega arith) ∙ sym e)

all_ok : {rows : List ℕ} {used : Used} {head : ℕ} {r : Used} (a : Action) → r.rows ≤ 4097
    → ((names z : List ℕ) (namespace : Text) (done last : List Row) → Ready rows names used head z namespace done last → Fitting a last → Counted r (rows_after_all a namespace done last))
    → AllNeeded rows used head (ok a) r
all_ok {rows} {used} {head} {r} a few counts =
    record {
      few = few;
      counted = λ names z namespace done last b h e. subst (λ (x : Action). Fitting x last → Counted r (rows_after_all x namespace done last)) (ok-back e) (counts names z namespace done last h);
    }

module _ {rows : List ℕ} {used : Used} {head : ℕ} {r : Used} where
  -- a sum that is a usize
  needed-ok : (a : Action) → r.rows ≤ 4097 → r.names ≤ 18446744073709551615
      → ((names z : List ℕ) (namespace : Text) (done last : List Row) → Ready rows names used head z namespace done last → Fitting a last → Counted r (rows_after_all a namespace done last))
      → Needed rows used head (ok a) r
  needed-ok a few held counts =
      let small : min r.names 18446744073709551615 ≡ r.names = omega arith in
      record { all = r; is = λ i. record { rows = r.rows; names = sym small i }; needed = all_ok a few counts }

  -- an action that adds a row
  pub needed-more : (a : Action) (new : Row) → ((namespace : Text) (done last : List Row) → rows_after_all a namespace done last ≡ (namespace_row namespace ∷ (done ++ last)) ++ new ∷ [])
      → used.rows ≤ 4096 → RowNeeded used (length (join new.texts)) r → Needed rows used head (ok a) r
  needed-more a new after few e =
      let all : Used = record { rows = used.rows + 1; names = used.names + length (join new.texts) } in
      record {
        all = all;
        is = e;
        needed = all_ok a (omega arith) (λ names z namespace done last h k.
            subst (λ (l : List Row). Counted all l) (sym (after namespace done last))
            (counted-one (namespace_row namespace ∷ (done ++ last)) new (omega (arith, h.holds.rows_used)) (omega (arith, h.holds.names_used))));
      }

  pub needed-root : (n : Text) → used.rows ≤ 4096 → TextNeeded rows used 1 0 (length n) r → Needed rows used head (ok (Action.root n)) r
  needed-root n few e =
      needed-ok (Action.root n) (omega arith) e.held (λ names z namespace done last h k.
      subst (λ (l : List Row). Counted r l) (sym (after-root namespace done last z n)) (counted-spot (ready-root h) n e.same_rows (e.bytes names _ (ready-root h))))

  pub needed-base : (v : Text) → used.rows ≤ 4096 → TextNeeded rows used head 1 (length v) r → Needed rows used head (ok (Action.base v)) r
  unfolding Fitting
  needed-base v few e =
      needed-ok (Action.base v) (omega arith) e.held (λ names z namespace done last h k.
      subst (λ (l : List Row). Counted r l) (sym (after-base namespace done last z v k)) (counted-spot (ready-base h k) v e.same_rows (e.bytes names _ (ready-base h k))))

  pub needed-content : (tag a : ℕ) (more : List Text) → HeadNeeded rows used head (length (join more)) r → Needed rows used head (ok (Action.content tag more a)) r
  unfolding Fitting row join
  needed-content tag a more e =
      needed-ok (Action.content tag more a) e.few e.held (λ names z namespace done last h k.
      let rs = namespace_row namespace ∷ done in
      let new = row tag (k.name ∷ more) a 0 k.c in
      let found = e.counted names z rs k.name (ready-head h k) in
      subst (λ (l : List Row). Counted r l) (sym (after-content namespace done last tag a more k))
      (counted-one rs new found.0 (found.1 ∙ ap (λ (m : ℕ). length (names_of rs) + m) (sym (length-append k.name (join more))))))

  pub needed-keep : Small used → r ≡ used → Needed rows used head (ok Action.keep) r
  unfolding rows_after_all namespace_after rows_after
  needed-keep small e =
      needed-ok Action.keep (omega (arith, ap (λ (u : Used). u.rows) e, small)) (omega (arith, ap (λ (u : Used). u.names) e, small)) (λ names z namespace done last h k.
      subst (λ (u : Used). Counted u (namespace_row namespace ∷ (done ++ last))) (sym e) (record { rows = h.holds.rows_used; names = h.holds.names_used }))

  -- a refusal needs nothing
  pub needed-refuse : {n : ℕ} → Small used → r ≡ used → Needed rows used head (refuse n) r
  needed-refuse small e =
      let held : min r.names 18446744073709551615 ≡ r.names = omega (arith, ap (λ (u : Used). u.names) e, small) in
      record {
        all = r;
        is = λ i. record { rows = r.rows; names = sym held i };
        needed = record { few = omega (arith, ap (λ (u : Used). u.rows) e, small); counted = λ names z namespace done last a h o k. absurd (refuse-ok o) };
      }

  -- what is needed has room in buffers as the paper has them where the whole sum has
  pub needed-fits : {o : Outcome Action} (n m : ℕ) → m ≤ 65536 → (h : Needed rows used head o r) → fits r.rows r.names n m ≡ fits h.all.rows h.all.names n m
  unfolding fits
  needed-fits n m few h = rw h.is (ap (λ (b : Bool). leb (10 * h.all.rows) n && b) (leb-capped h.all.names m few))
