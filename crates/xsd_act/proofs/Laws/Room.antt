-- The room that the writers ask for: the rows after an action have room, and the writers use no more. Assumes nothing.
use Prim.Native.Nat.{ℕ, ◌+◌, ◌-◌, ◌*◌, ◌≤◌}
use mathlib.Core.Path.{◌≡◌, refl, sym, subst, ◌∙◌}
use mathlib.Core.Bool.{true}
use mathlib.Core.List.{List, [], ◌∷◌, ◌++◌}
use native.Mathlib.Omega.{arith}
use lib.ListN.{length, length-append}
use Rattle.text.specs.Text.{Text, join}
use Rattle.sheet.specs.Rows.{Row, row, names_of}
use Rattle.sheet.specs.Lengths.{fits}
use Rattle.xsd_types.specs.Rows.{namespace_row}
use Rattle.xsd_parser.specs.Handlers.{Outcome, ok}
use Rattle.rows.specs.declared.numbers.Used.{Used}
use Rattle.rows.proofs.Laws.Room.{fits-room}
use Rattle.rows.specs.declared.writer.SheetWriter.{SheetWriter}
use Rattle.rows.specs.Append.{RowRoom}
use Rattle.xsd_replace.specs.Head.{HeadRoom}
use Rattle.xsd_replace.specs.Spots.{TextRoom}
use Rattle.xsd_actions.specs.Actions.{Action, NamedHead, BasedHead, Fitting}
use Rattle.xsd_act.specs.Ready.{Ready, rows_after_all}
use Rattle.xsd_act.specs.Needs.{Counted, Needed}
use Rattle.xsd_act.proofs.Laws.Ready.{ready-root, ready-head, ready-base}
use Rattle.xsd_act.proofs.Laws.Needs.{ok-back, needed-fits}
use Rattle.xsd_act.specs.Acts.{ActRoom}
use Rattle.xsd_act.proofs.Laws.After.{after-content, after-base, after-root, counted-one, counted-spot}

-- rows of which the sheet's two buffers have room
abbrev pub Roomy : List ℕ → List ℕ → List Row → Type 0
Roomy rows names rs = fits (1 + length rs) (length (names_of rs)) (length rows) (length names) ≡ true

-- what is used by such rows lies inside the buffers
pub counted-room : (rows names : List ℕ) {used : Used} {rs : List Row} → Counted used rs → Roomy rows names rs → (10 * used.rows ≤ length rows) × (used.names ≤ length names)
counted-room rows names {used} {rs} h e =
    let found = fits-room (1 + length rs) (length (names_of rs)) (length rows) (length names) e in
    (omega (arith, h.rows), omega (arith, h.names))

-- the room for an action, and that of the action of an outcome
pub record RoomFor (w : SheetWriter) (head : ℕ) (a : Action) : Type 0 where
  pub z : List ℕ
  pub namespace : Text
  pub done : List Row
  pub last : List Row
  pub ready : Ready w.rows.now w.names.now w.used head z namespace done last
  pub fitting : Fitting a last
  pub roomy : Roomy w.rows.now w.names.now (rows_after_all a namespace done last)

pub room_for : {w : SheetWriter} {head : ℕ} {o : Outcome Action} → ActRoom w head o → (a : Action) → o ≡ ok a → RoomFor w head a
room_for {w} q a e =
    let same : q.action ≡ a = ok-back (sym q.decided ∙ e) in
    record {
      z = q.z;
      namespace = q.namespace;
      done = q.done;
      last = q.last;
      ready = q.ready;
      fitting = subst (λ (x : Action). Fitting x q.last) same q.fitting;
      roomy = subst (λ (x : Action). Roomy w.rows.now w.names.now (rows_after_all x q.namespace q.done q.last)) same q.room;
    }

module _ {w : SheetWriter} {head : ℕ} {z : List ℕ} {namespace : Text} {done last : List Row} (h : Ready w.rows.now w.names.now w.used head z namespace done last) where
  -- for one row more
  pub more_room : (new : Row) → Roomy w.rows.now w.names.now ((namespace_row namespace ∷ (done ++ last)) ++ new ∷ [])
      → RowRoom w (length (join new.texts))
  more_room new e =
      let r : Used = record { rows = w.used.rows + 1; names = w.used.names + length (join new.texts) } in
      let room = counted-room w.rows.now w.names.now {used = r} (counted-one (namespace_row namespace ∷ (done ++ last)) new (omega (arith, h.holds.rows_used)) (omega (arith, h.holds.names_used))) e in
      record { rows = room.0; names = room.1 }

  -- for another namespace, and another base
  pub root-room : (n : Text) → Roomy w.rows.now w.names.now (rows_after_all (Action.root n) namespace done last) → TextRoom w 1 0 (length n)
  root-room n e =
      let t = ready-root h in
      let r : Used = record { rows = w.used.rows; names = w.used.names - length namespace + length n } in
      record {
        spot = _;
        text = t;
        room = (counted-room w.rows.now w.names.now {used = r} (counted-spot t n refl refl)
            (subst (λ (l : List Row). Roomy w.rows.now w.names.now l) (after-root namespace done last z n) e)).1;
      }

  pub base-room : (v : Text) (k : BasedHead last) → Roomy w.rows.now w.names.now (rows_after_all (Action.base v) namespace done last) → TextRoom w head 1 (length v)
  base-room v k e =
      let t = ready-base h k in
      let r : Used = record { rows = w.used.rows; names = w.used.names - length k.old + length v } in
      record {
        spot = _;
        text = t;
        room = (counted-room w.rows.now w.names.now {used = r} (counted-spot t v refl refl)
            (subst (λ (l : List Row). Roomy w.rows.now w.names.now l) (after-base namespace done last z v k) e)).1;
      }

  -- for another content
  pub content-room : (tag a : ℕ) (more : List Text) (k : NamedHead last) → Roomy w.rows.now w.names.now (rows_after_all (Action.content tag more a) namespace done last)
      → HeadRoom w head (length (join more))
  unfolding row join
  content-room tag a more k e =
      let rs = namespace_row namespace ∷ done in
      let new = row tag (k.name ∷ more) a 0 k.c in
      let bytes : length (join new.texts) ≡ length k.name + length (join more) = length-append k.name (join more) in
      let r : Used = record { rows = 2 + length rs; names = length (names_of rs) + length (join new.texts) } in
      let room = (counted-room w.rows.now w.names.now {used = r} (counted-one rs new refl refl)
      (subst (λ (l : List Row). Roomy w.rows.now w.names.now l) (after-content namespace done last tag a more k) e)).1 in
      record { z = z; rs = rs; name = k.name; head = ready-head h k; room = omega (arith, room, bytes) }

-- what was counted for an action has room exactly if the rows after it have
pub counted-fits : {used : Used} {rs : List Row} (rows names : ℕ) → Counted used rs → fits used.rows used.names rows names ≡ fits (1 + length rs) (length (names_of rs)) rows names
counted-fits rows names h = rw (h.rows, h.names)

-- so a caller that asked for the room of what is needed may act
pub act-room : {w : SheetWriter} {head : ℕ} {o : Outcome Action} {r : Used} {z : List ℕ} {namespace : Text} {done last : List Row} {a : Action}
    → Needed w.rows.now w.used head o r → Ready w.rows.now w.names.now w.used head z namespace done last → o ≡ ok a → Fitting a last
    → fits r.rows r.names (length w.rows.now) (length w.names.now) ≡ true → ActRoom w head o
act-room {w} {z = z} {namespace} {done} {last} {a} n h e k room =
    record {
      z = z;
      namespace = namespace;
      done = done;
      last = last;
      action = a;
      ready = h;
      decided = e;
      fitting = k;
      room = sym (counted-fits (length w.rows.now) (length w.names.now) (n.needed.counted w.names.now z namespace done last a h e k))
          ∙ sym (needed-fits (length w.rows.now) (length w.names.now) w.few n) ∙ room;
    }
