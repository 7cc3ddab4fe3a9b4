-- Every core is sound after an event that changes one session's seat and locks, and the registered snapshots.
use Rattle.std.proofs.Common.{ap, arith, refl, subst, sym, ◌∙◌}
use Rattle.std.proofs.lemmas.Bool.Decides.{nat_tests}
use Rattle.std.proofs.lemmas.List.{length-set}
use Rattle.std.specs.Prelude.{Bool, Contains, List, None, Option, Some, [], false, length, option_map, option_to_list, slice_get, slice_set, suc, true, ℕ, ◌-◌, ◌==◌, ◌≡◌, ◌≢◌}
use Rattle.list_facts.proofs.Members.{first_in}
use Rattle.xact_status.specs.Xacts.{Xacts}
use Rattle.snapshot_registry.specs.Laws.{IsRegistryOf}
use Rattle.snapshot_registry.specs.Snapshots.{Snaps, held_at, holders_at}
use Rattle.snapshot_registry.specs.declared.Held.{Held}
use Rattle.snapshot_registry.specs.declared.Snapshot.{Snapshot}
use Rattle.change_log.specs.declared.entry.LogEntry.{LogEntry}
use Rattle.lock_table.specs.Held.{holds_row}
use Rattle.lock_table.specs.Locks.{held_by}
use Rattle.lock_table.specs.declared.held.SessionLocks.{SessionLocks}
use Rattle.lock_table.specs.declared.lock.RowKey.{RowKey}
use Rattle.table_state.specs.Tables.{IsTable}
use Rattle.table_state.specs.declared.table.Table.{Table}
use Rattle.write_steps.specs.Dropped.{keeps}
use Rattle.core_state.proofs.Frames.{IsLaterFor, seat_later}
use Rattle.core_state.proofs.Lists.{in_append_left, sum_stays}
use Rattle.core_state.proofs.Seats.{each_seated, owners_same, seat_there}
use Rattle.core_state.specs.Facts.{AreApart, AreTouched, IsSound, LogIsSound, SeatIsSound, Uses, ViewIsSound, uses_in}
use Rattle.core_state.specs.Lines.{seated}
use Rattle.core_state.specs.State.{CoreState, IsSession, seat_of, snapshot_of, uses_of, xid_of}
use Rattle.core_state.specs.Views.{registered}
use Rattle.core_state.specs.declared.seat.Seat.{Seat}

-- what a session has locked is kept
pub record KeepsLocks (locks later : List SessionLocks) (s : ℕ) : Type 0 where
  pub others : (other : ℕ) → other ≢ s → held_by later other ≡ held_by locks other
  pub rows : (row : RowKey) → holds_row (held_by locks s).rows row ≡ true → holds_row (held_by later s).rows row ≡ true
  pub uses : (t : ℕ) → Uses (held_by locks s) t → Uses (held_by later s) t

rows_kept : (locks later : List SessionLocks) (s other : ℕ) (row : RowKey) → KeepsLocks locks later s → holds_row (held_by locks other).rows row ≡ true → holds_row (held_by later other).rows row ≡ true
rows_kept locks later s other row keeps e = by (other == s) refl
  where
    by : (b : Bool) → (other == s) ≡ b → holds_row (held_by later other).rows row ≡ true
    by true same =
        let is : other ≡ s = grind (arith, nat_tests, same) in
        let here = subst (λ (n : ℕ). holds_row (held_by locks n).rows row ≡ true) is e in
        subst (λ (n : ℕ). holds_row (held_by later n).rows row ≡ true) (sym is) (keeps.rows row here)
    by false differ =
        let apart : other ≢ s = grind (arith, nat_tests, differ) in
        subst (λ (held : SessionLocks). holds_row held.rows row ≡ true) (sym (keeps.others other apart)) e

uses_kept : (locks later : List SessionLocks) (s other t : ℕ) → KeepsLocks locks later s → Uses (held_by locks other) t → Uses (held_by later other) t
uses_kept locks later s other t keeps e = by (other == s) refl
  where
    by : (b : Bool) → (other == s) ≡ b → Uses (held_by later other) t
    by true same =
        let is : other ≡ s = grind (arith, nat_tests, same) in
        let here = subst (λ (n : ℕ). Uses (held_by locks n) t) is e in
        subst (λ (n : ℕ). Uses (held_by later n) t) (sym is) (keeps.uses t here)
    by false differ =
        let apart : other ≢ s = grind (arith, nat_tests, differ) in
        subst (λ (held : SessionLocks). Uses held t) (sym (keeps.others other apart)) e

touched_kept : (xacts : Xacts) (locks later : List SessionLocks) (tables : List Table) (s : ℕ) → KeepsLocks locks later s → AreTouched xacts locks tables → AreTouched xacts later tables
touched_kept xacts locks later tables s keeps old = record {
  used = λ xid owner t tid version e f g. uses_kept locks later s owner t keeps (old.used xid owner t tid version e f g);
  claimed = λ xid owner t tid version e f g. rows_kept locks later s owner (record { table = t; key = version.key }) keeps (old.claimed xid owner t tid version e f g);
}

log_kept : (xacts : Xacts) (locks later : List SessionLocks) (log : List LogEntry) (tables : List Table) (s : ℕ) → KeepsLocks locks later s → LogIsSound xacts locks log tables → LogIsSound xacts later log tables
log_kept xacts locks later log tables s keeps old = record {
  given = old.given;
  put = old.put;
  changed = λ entry owner p e f g.
      let before = old.changed entry owner p e f g in
      record { claimed = rows_kept locks later s owner (record { table = p.table; key = p.key }) keeps before.claimed; own = before.own };
}

-- what is registered later under an id that a session uses was registered before, and is the same snapshot
abbrev pub ShowsBack : Snaps → Snaps → List ℕ → Type 0
ShowsBack snaps later uses = (id : ℕ) (held : Held) → Contains uses id → held_at later id ≡ Some held → (before : Held) × (held_at snaps id ≡ Some before) × (held.snapshot ≡ before.snapshot)

-- the snapshot of a state is one of its session's
pub state_uses : (seat : Seat) (id : ℕ) → snapshot_of seat.state ≡ Some id → Contains (uses_of seat) id
state_uses seat id e = in_append_left (option_to_list (snapshot_of seat.state)) _ id (rw e (first_in id [] id refl))

pub view_later : (xacts : Xacts) (snaps later : Snaps) (held : SessionLocks) (tables : List Table) (seat : Seat) → ShowsBack snaps later (uses_of seat) → ViewIsSound xacts snaps held tables seat.state → ViewIsSound xacts later held tables seat.state
view_later xacts snaps later held tables seat back old = record {
  level = old.level;
  claimed = λ snapshot own row e f g. old.claimed snapshot own row (was (snapshot_of seat.state) refl snapshot e) f g;
}
  where
    at : (id : ℕ) (o : Option Held) (snapshot : Snapshot) → snapshot_of seat.state ≡ Some id → held_at later id ≡ o → option_map (λ (h : Held). h.snapshot) o ≡ Some snapshot → option_map (λ (h : Held). h.snapshot) (held_at snaps id) ≡ Some snapshot
    at id None snapshot mine is e = absurd (cc)
    at id (Some h) snapshot mine is e =
        let before = back id h (state_uses seat id mine) is in
        let same : Some before.0.snapshot ≡ Some snapshot = ap Some (sym before.2) ∙ e in
        ap (option_map (λ (x : Held). x.snapshot)) before.1 ∙ same

    was : (o : Option ℕ) → snapshot_of seat.state ≡ o → (snapshot : Snapshot) → registered later o ≡ Some snapshot → registered snaps o ≡ Some snapshot
    was None mine snapshot e = absurd (cc)
    was (Some id) mine snapshot e = at id (held_at later id) snapshot mine refl e

-- one seat, the locks of its session and the snapshots change
pub sound_moved : (c : CoreState) (s : ℕ) (seat : Seat) (later : Snaps) (locks : List SessionLocks) → IsSession c.seats s → xid_of seat.state ≡ xid_of (seat_of c s).state → IsSound c
    → length locks ≡ length c.locks → KeepsLocks c.locks locks s → AreApart locks
    → IsRegistryOf c.xacts later → ((id : ℕ) → holders_at later id ≡ uses_in (slice_set c.seats (s - 1) seat) id)
    → ((number : ℕ) (table : Table) → IsTable number c.xacts c.snaps table → IsTable number c.xacts later table)
    → ((i : ℕ) (other : Seat) → suc i ≢ s → slice_get c.seats i ≡ Some other → IsLaterFor c.xacts c.xacts c.snaps later c.tables (held_by c.locks (suc i)) (uses_of other) (xid_of other.state) × ShowsBack c.snaps later (uses_of other))
    → SeatIsSound c.xacts later c.ids (held_by locks s) c.tables s seat
    → IsSound (seated (record c { snaps = later; locks = locks }) s seat)
sound_moved c s seat later locks there same sound long keeps apart registry counted tables moves here = record {
  few = (sound.few.0, rw (length-set c.seats (s - 1) seat) sound.few.1);
  places = rw (length-set c.seats (s - 1) seat) (long ∙ sound.places);
  registry = registry;
  counted = counted;
  room = sound.room ∙ sym (sum_stays (λ (x : Seat). length (option_to_list (xid_of x.state))) c.seats (s - 1) (seat_of c s) seat (seat_there c.seats s there) (ap (λ (o : Option ℕ). length (option_to_list o)) same));
  tables = λ i table e. tables (suc i) table (sound.tables i table e);
  each = each_seated c s seat c.xacts later c.ids locks c.tables there sound here (λ i other differ at old.
      let both = moves i other differ at in
      subst (λ (held : SessionLocks). SeatIsSound c.xacts later c.ids held c.tables (suc i) other) (sym (keeps.others (suc i) differ))
      (seat_later c.xacts c.xacts c.snaps later c.ids c.tables (held_by c.locks (suc i)) (suc i) other both.0 old.runs (view_later c.xacts c.snaps later (held_by c.locks (suc i)) c.tables other both.1 old.view) old));
  owners = owners_same c s seat there same sound;
  apart = apart;
  hands = sound.hands;
  touched = touched_kept c.xacts c.locks locks c.tables s keeps sound.touched;
  log = log_kept c.xacts c.locks locks c.log.entries c.tables s keeps sound.log;
}
