-- What a core has once a session uses a table: all but its locks, its snapshots and the session's own snapshot is as it was.
use Rattle.std.proofs.Common.{ap, refl, ◌∙◌}
use Rattle.std.specs.Prelude.{Bool, None, Option, Some, false, if◌then◌else◌, is_none, true, ℕ, ◌&&◌, ◌≡◌}
use Rattle.snapshot_registry.specs.Snapshots.{after_take, least_free}
use Rattle.lock_table.specs.Locks.{granted, held_by, table_lock}
use Rattle.lock_table.specs.declared.lock.LockMode.TheVariants.{Use}
use Rattle.core_state.proofs.Seats.{seat_written, session_written}
use Rattle.core_state.specs.Facts.{Uses}
use Rattle.core_state.specs.Lines.{after_use, seated, takes_copy, with_snapshot}
use Rattle.core_state.specs.State.{CoreState, IsSession, is_open, is_repeatable, seat_of, snapshot_of}
use Rattle.core_state.specs.declared.seat.Seat.{Seat}
use Rattle.core_state.specs.declared.seat.State.{State}
use Rattle.core_looks.proofs.Locks.{uses_it}
use Rattle.command_set.specs.declared.Level.TheVariants as levels
use Rattle.core_state.specs.declared.seat.State.TheVariants as states

pub record UseLeaves (c : CoreState) (s t : ℕ) (u : CoreState) : Type 0 where
  pub tables : u.tables ≡ c.tables
  pub there : IsSession u.seats s
  pub job : (seat_of u s).job ≡ (seat_of c s).job
  pub handles : (seat_of u s).handles ≡ (seat_of c s).handles
  pub inside : is_open (seat_of u s).state ≡ true
  pub repeats : is_repeatable (seat_of u s).state ≡ is_repeatable (seat_of c s).state
  pub used : Uses (held_by u.locks s) t
  -- a repeatable read transaction has a snapshot then
  pub copied : is_repeatable (seat_of u s).state ≡ true → (id : ℕ) × (snapshot_of (seat_of u s).state ≡ Some id)

open_with : (state : State) (id : ℕ) → is_open state ≡ true → is_open (with_snapshot state id) ≡ true
open_with states.Outside id e = e
open_with states.Failed id e = e
open_with (states.Open level xid snapshot) id e = refl

repeats_with : (state : State) (id : ℕ) → is_repeatable (with_snapshot state id) ≡ is_repeatable state
repeats_with states.Outside id = refl
repeats_with states.Failed id = refl
repeats_with (states.Open levels.Rc xid snapshot) id = refl
repeats_with (states.Open levels.Rr xid snapshot) id = refl

snapshot_with : (state : State) (id : ℕ) → is_open state ≡ true → snapshot_of (with_snapshot state id) ≡ Some id
snapshot_with states.Outside id e = absurd (cc)
snapshot_with states.Failed id e = absurd (cc)
snapshot_with (states.Open level xid snapshot) id e = refl

-- one that takes no copy has it, if it reads repeatably
has_copy : (state : State) → takes_copy state ≡ false → is_repeatable state ≡ true → (id : ℕ) × (snapshot_of state ≡ Some id)
has_copy state takes repeats = by (is_repeatable state) (snapshot_of state) refl repeats takes
  where
    by : (b : Bool) (o : Option ℕ) → snapshot_of state ≡ o → b ≡ true → (b && is_none o) ≡ false → (id : ℕ) × (snapshot_of state ≡ Some id)
    by false o is e f = absurd (cc)
    by true None is e f = absurd (cc)
    by true (Some id) is e f = (id, is)

pub use_leaves : (c : CoreState) (s t : ℕ) → IsSession c.seats s → is_open (seat_of c s).state ≡ true → UseLeaves c s t (after_use c s t)
use_leaves c s t there inside = by (takes_copy (seat_of c s).state) refl
  where
    used : CoreState
    used = record c { locks = granted c.locks s (table_lock t Use) }

    taken : Seat
    taken = record (seat_of c s) { state = with_snapshot (seat_of c s).state (least_free c.snaps) }

    by : (b : Bool) → takes_copy (seat_of c s).state ≡ b → UseLeaves c s t (if b then seated (record used { snaps = after_take c.snaps c.xacts }) s taken else used)
    by true takes =
        let its = seat_written c.seats s taken there in
        record {
          tables = refl;
          there = session_written c.seats s s taken there;
          job = ap (λ (seat : Seat). seat.job) its;
          handles = ap (λ (seat : Seat). seat.handles) its;
          inside = ap (λ (seat : Seat). is_open seat.state) its ∙ open_with (seat_of c s).state (least_free c.snaps) inside;
          repeats = ap (λ (seat : Seat). is_repeatable seat.state) its ∙ repeats_with (seat_of c s).state (least_free c.snaps);
          used = uses_it c.locks s t;
          copied = λ e. (least_free c.snaps, ap (λ (seat : Seat). snapshot_of seat.state) its ∙ snapshot_with (seat_of c s).state (least_free c.snaps) inside);
        }
    by false takes = record {
      tables = refl;
      there = there;
      job = refl;
      handles = refl;
      inside = inside;
      repeats = refl;
      used = uses_it c.locks s t;
      copied = λ e. has_copy (seat_of c s).state takes e;
    }
