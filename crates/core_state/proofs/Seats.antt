-- The seats of sessions: what an event of one leaves of all.
use Rattle.std.proofs.Common.{ap, arith, refl, subst, sym, ◌∙◌}
use Rattle.std.proofs.lemmas.Bool.Decides.{nat_tests}
use Rattle.std.proofs.lemmas.List.{length-set}
use Rattle.std.specs.Prelude.{Bool, List, Option, Some, count_by, false, length, option_to_list, slice_get, slice_index_or, slice_set, suc, true, ℕ, ◌-◌, ◌<◌, ◌==◌, ◌≡◌, ◌≢◌, ◌≤◌}
use Rattle.list_facts.proofs.Changed.{each_set}
use Rattle.xact_status.specs.Xacts.{Xacts, session_at}
use Rattle.snapshot_registry.specs.Snapshots.{Snaps}
use Rattle.value_ids.specs.Ids.{Pool}
use Rattle.lock_table.specs.Locks.{held_by}
use Rattle.lock_table.specs.declared.held.SessionLocks.{SessionLocks}
use Rattle.table_state.specs.declared.table.Table.{Table}
use Rattle.core_state.proofs.Lists.{read_other, read_there, read_written, sum_stays}
use Rattle.core_state.specs.Facts.{IsSound, SeatIsSound}
use Rattle.core_state.specs.Lines.{seated}
use Rattle.core_state.specs.State.{CoreState, IsSession, nobody, seat_of, uses_of, xid_of}
use Rattle.core_state.specs.declared.seat.Seat.{Seat}

pub place_within : (seats : List Seat) (s : ℕ) → IsSession seats s → s - 1 < length seats
place_within seats s there =
    let low = there.from_one in
    let high = there.within in
    omega (arith, low, high)

-- the seat of a session that is there stands at its place
pub seat_there : (seats : List Seat) (s : ℕ) → IsSession seats s → slice_get seats (s - 1) ≡ Some (slice_index_or seats (s - 1) nobody)
seat_there seats s there = read_there seats (s - 1) nobody (place_within seats s there)

-- the seat of a session after it was written
pub seat_written : (seats : List Seat) (s : ℕ) (seat : Seat) → IsSession seats s → slice_index_or (slice_set seats (s - 1) seat) (s - 1) nobody ≡ seat
seat_written seats s seat there = read_written seats (s - 1) seat nobody (place_within seats s there)

-- a session is there after a seat was written
pub session_written : (seats : List Seat) (s t : ℕ) (seat : Seat) → IsSession seats t → IsSession (slice_set seats (s - 1) seat) t
session_written seats s t seat there = record { from_one = there.from_one; within = rw (length-set seats (s - 1) seat) there.within }

pub number_at : (s : ℕ) → 1 ≤ s → suc (s - 1) ≡ s
number_at s low = omega (arith, low)

-- what is true of a session
pub sound_of : (c : CoreState) (s : ℕ) → IsSession c.seats s → IsSound c → SeatIsSound c.xacts c.snaps c.ids (held_by c.locks s) c.tables s (seat_of c s)
sound_of c s there sound =
    let number = number_at s there.from_one in
    subst (λ (n : ℕ). SeatIsSound c.xacts c.snaps c.ids (held_by c.locks n) c.tables n (seat_of c s)) number (sound.each (s - 1) (seat_of c s) (seat_there c.seats s there))

-- what is true of each session once the parts that an event changes are as they are then
pub each_seated : (c : CoreState) (s : ℕ) (seat : Seat) (xacts : Xacts) (snaps : Snaps) (ids : Pool) (locks : List SessionLocks) (tables : List Table)
    → IsSession c.seats s → IsSound c → SeatIsSound xacts snaps ids (held_by locks s) tables s seat
    → ((i : ℕ) (other : Seat) → suc i ≢ s → slice_get c.seats i ≡ Some other → SeatIsSound c.xacts c.snaps c.ids (held_by c.locks (suc i)) c.tables (suc i) other → SeatIsSound xacts snaps ids (held_by locks (suc i)) tables (suc i) other)
    → (i : ℕ) (other : Seat) → slice_get (slice_set c.seats (s - 1) seat) i ≡ Some other → SeatIsSound xacts snaps ids (held_by locks (suc i)) tables (suc i) other
each_seated c s seat xacts snaps ids locks tables there sound here others =
    let number = number_at s there.from_one in
    each_set (λ (i : ℕ) (other : Seat). SeatIsSound c.xacts c.snaps c.ids (held_by c.locks (suc i)) c.tables (suc i) other) (λ (i : ℕ) (other : Seat). SeatIsSound xacts snaps ids (held_by locks (suc i)) tables (suc i) other)
    c.seats (s - 1) seat
    (subst (λ (n : ℕ). SeatIsSound xacts snaps ids (held_by locks n) tables n seat) (sym number) here)
    (λ (i : ℕ) (other : Seat) apart at old. others i other (λ e. apart (omega (arith, e))) at old)
    sound.each

-- the xids of sessions after a seat was written
pub xid_written : (seats : List Seat) (s t xid : ℕ) (seat : Seat) → IsSession seats s → 1 ≤ t → (t ≡ s → xid_of seat.state ≡ Some xid) → (t ≢ s → xid_of (slice_index_or seats (t - 1) nobody).state ≡ Some xid)
    → xid_of (slice_index_or (slice_set seats (s - 1) seat) (t - 1) nobody).state ≡ Some xid
xid_written seats s t xid seat there low here other = by ((t - 1) == (s - 1)) refl
  where
    by : (b : Bool) → ((t - 1) == (s - 1)) ≡ b → xid_of (slice_index_or (slice_set seats (s - 1) seat) (t - 1) nobody).state ≡ Some xid
    by true same =
        let at : t - 1 ≡ s - 1 = grind (arith, nat_tests, same) in
        let from_one = there.from_one in
        let is : t ≡ s = omega (arith, at, low, from_one) in
        rw at (ap (λ (x : Seat). xid_of x.state) (seat_written seats s seat there) ∙ here is)
    by false differ =
        let apart : t - 1 ≢ s - 1 = grind (arith, nat_tests, differ) in
        let t_differs : t ≢ s = λ is. apart (ap (λ (n : ℕ). n - 1) is) in
        ap (λ (x : Seat). xid_of x.state) (read_other seats (s - 1) (t - 1) seat nobody apart) ∙ other t_differs

-- sessions own their xids after a seat was written that has the xid as before
pub owners_same : (c : CoreState) (s : ℕ) (seat : Seat) → IsSession c.seats s → xid_of seat.state ≡ xid_of (seat_of c s).state → IsSound c
    → (xid t : ℕ) → session_at c.xacts xid ≡ Some t → (1 ≤ t) × (xid_of (slice_index_or (slice_set c.seats (s - 1) seat) (t - 1) nobody).state ≡ Some xid)
owners_same c s seat there same sound xid t runs =
    let owns = sound.owners xid t runs in
    (owns.0, xid_written c.seats s t xid seat there owns.0 (λ is. same ∙ ap (λ (n : ℕ). xid_of (slice_index_or c.seats (n - 1) nobody).state) (sym is) ∙ owns.1) (λ differ. owns.1))

-- how often a seat uses a snapshot
abbrev pub uses_by : ℕ → Seat → ℕ
uses_by id seat = count_by (λ other. other == id) (uses_of seat)

-- a seat is written that has the xid and the snapshots as before
pub sound_seated : (c : CoreState) (s : ℕ) (seat : Seat) → IsSession c.seats s → xid_of seat.state ≡ xid_of (seat_of c s).state → ((id : ℕ) → uses_by id seat ≡ uses_by id (seat_of c s))
    → SeatIsSound c.xacts c.snaps c.ids (held_by c.locks s) c.tables s seat → IsSound c → IsSound (seated c s seat)
sound_seated c s seat there same uses here sound = record {
  few = (sound.few.0, rw (length-set c.seats (s - 1) seat) sound.few.1);
  places = rw (length-set c.seats (s - 1) seat) sound.places;
  registry = sound.registry;
  counted = λ id. sound.counted id ∙ sym (sum_stays (uses_by id) c.seats (s - 1) (seat_of c s) seat (seat_there c.seats s there) (uses id));
  room = sound.room ∙ sym (sum_stays (λ (x : Seat). length (option_to_list (xid_of x.state))) c.seats (s - 1) (seat_of c s) seat (seat_there c.seats s there) (ap (λ (o : Option ℕ). length (option_to_list o)) same));
  tables = sound.tables;
  each = each_seated c s seat c.xacts c.snaps c.ids c.locks c.tables there sound here (λ i other apart at old. old);
  owners = owners_same c s seat there same sound;
  apart = sound.apart;
  hands = sound.hands;
  touched = sound.touched;
  log = sound.log;
}
