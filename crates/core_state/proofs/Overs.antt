-- Every core is sound after a command is submitted, and after one is over that has changed nothing but what its session is in.
use Rattle.std.proofs.Common.{ap, refl, subst, sym, ◌∙◌}
use Rattle.std.specs.Ordering.{nat_cmp}
use Rattle.std.specs.Prelude.{Contains, List, Option, [], count_by, false, map, option_to_list, ℕ, ◌++◌, ◌==◌, ◌≡◌}
use Rattle.list_facts.proofs.Members.{none_in_nil}
use Rattle.xact_status.specs.Xacts.{Xacts}
use Rattle.snapshot_registry.specs.Snapshots.{Snaps}
use Rattle.value_ids.specs.Ids.{Pool}
use Rattle.lock_table.specs.Held.{nothing}
use Rattle.lock_table.specs.Locks.{held_by}
use Rattle.lock_table.specs.declared.held.SessionLocks.{SessionLocks}
use Rattle.command_set.specs.declared.Command.{Command}
use Rattle.table_state.specs.declared.table.Table.{Table}
use Rattle.core_state.proofs.Lists.{sorted_nil}
use Rattle.core_state.proofs.Seats.{sound_of, sound_seated, uses_by}
use Rattle.core_state.specs.Commands.{IsFitting}
use Rattle.core_state.specs.Facts.{HandsAreSound, IsSound, MayHold, MayPin, PinsAreSound, SeatIsSound}
use Rattle.core_state.specs.Lines.{after_over, after_submit}
use Rattle.core_state.specs.State.{CoreState, IsBare, IsSession, is_open, job_snapshot, schemas_of, seat_of, snapshot_of}
use Rattle.core_state.specs.declared.seat.Handle.{Handle}
use Rattle.core_state.specs.declared.seat.Job.{Job}
use Rattle.core_state.specs.declared.seat.Seat.{Seat}
use Rattle.core_state.specs.declared.seat.State.{State}
use Rattle.core_state.specs.declared.seat.Job.TheVariants as jobs
use Rattle.core_state.specs.declared.seat.State.TheVariants as states

-- a session's seat with a command that is submitted
seat_submitted : (xacts : Xacts) (snaps : Snaps) (ids : Pool) (held : SessionLocks) (tables : List Table) (s : ℕ) (seat : Seat) (command : Command) → seat.job ≡ jobs.Idle → IsFitting (schemas_of tables) command
    → SeatIsSound xacts snaps ids held tables s seat → SeatIsSound xacts snaps ids held tables s (record seat { job = jobs.Submitted command })
seat_submitted xacts snaps ids held tables s seat command is fits old = record {
  runs = old.runs;
  locks = old.locks;
  view = old.view;
  handles = record { outside = old.handles.outside; named = old.handles.named; each = old.handles.each };
  job = fits;
  pins = record { each = λ t leaf e. subst (MayPin t) is (old.pins.each t leaf e) };
  hands = record { each = λ one there of. subst (MayHold one.table) is (old.hands.each one there of) };
}

-- the snapshots that a seat uses besides a job's own
uses_without : (seat : Seat) (id : ℕ) (job other : Job) → job_snapshot job ≡ job_snapshot other → uses_by id (record seat { job = job }) ≡ uses_by id (record seat { job = other })
uses_without seat id job other same =
    ap (λ (o : Option ℕ). count_by (λ (n : ℕ). n == id) (option_to_list (snapshot_of seat.state) ++ (option_to_list o ++ map (λ (handle : Handle). handle.snapshot) seat.handles))) same

pub sound_submitted : (c : CoreState) (s : ℕ) (command : Command) → IsSession c.seats s → (seat_of c s).job ≡ jobs.Idle → IsFitting (schemas_of c.tables) command → IsSound c → IsSound (after_submit c s command)
sound_submitted c s command there is fits sound =
    sound_seated c s (record (seat_of c s) { job = jobs.Submitted command }) there refl
    (λ id. uses_without (seat_of c s) id (jobs.Submitted command) (seat_of c s).job (sym (ap job_snapshot is)))
    (seat_submitted c.xacts c.snaps c.ids (held_by c.locks s) c.tables s (seat_of c s) command is fits (sound_of c s there sound)) sound

-- ---- over

-- a seat whose command is over in the same state
seat_over : (xacts : Xacts) (snaps : Snaps) (ids : Pool) (held : SessionLocks) (tables : List Table) (s : ℕ) (seat : Seat) (command : Command) → seat.job ≡ jobs.Submitted command
    → SeatIsSound xacts snaps ids held tables s seat → SeatIsSound xacts snaps ids held tables s (record seat { job = jobs.Idle })
seat_over xacts snaps ids held tables s seat command is old = record {
  runs = old.runs;
  locks = old.locks;
  view = old.view;
  handles = record { outside = old.handles.outside; named = old.handles.named; each = old.handles.each };
  job = tt;
  pins = record { each = λ t leaf e. subst (MayPin t) is (old.pins.each t leaf e) };
  hands = record { each = λ one there of. subst (MayHold one.table) is (old.hands.each one there of) };
}

pub sound_refused : (c : CoreState) (s : ℕ) (command : Command) → IsSession c.seats s → (seat_of c s).job ≡ jobs.Submitted command → IsSound c → IsSound (after_over c s (seat_of c s).state)
sound_refused c s command there is sound =
    sound_seated c s (record (seat_of c s) { job = jobs.Idle }) there refl
    (λ id. uses_without (seat_of c s) id jobs.Idle (seat_of c s).job (sym (ap job_snapshot is)))
    (seat_over c.xacts c.snaps c.ids (held_by c.locks s) c.tables s (seat_of c s) command is (sound_of c s there sound)) sound

-- what is in no open transaction has nothing
bare_closed : (state : State) → is_open state ≡ false → IsBare state
bare_closed states.Outside closed = record { xid = refl; snapshot = refl }
bare_closed states.Failed closed = record { xid = refl; snapshot = refl }
bare_closed (states.Open level xid snapshot) closed = absurd (cc)

-- a seat that has nothing
pub seat_bare : (xacts : Xacts) (snaps : Snaps) (ids : Pool) (tables : List Table) (s : ℕ) (state : State) → IsBare state → PinsAreSound tables s jobs.Idle → HandsAreSound ids.in_hand s jobs.Idle
    → SeatIsSound xacts snaps ids nothing tables s (record { state = state; handles = []; job = jobs.Idle })
seat_bare xacts snaps ids tables s state bare pins hands = record {
  runs = λ xid e. absurd (cc (bare.xid));
  locks = record { outside = λ closed. refl; unclaimed = λ row e. refl; used = λ row e. absurd (cc); plain = λ lock e. absurd (none_in_nil lock e) };
  view = record { level = λ id e. absurd (cc (bare.snapshot)); claimed = λ snapshot own row e f g. absurd (cc) };
  handles = record { outside = λ closed. refl; named = sorted_nil (λ (handle other : Handle). nat_cmp handle.name other.name); each = λ handle e. absurd (none_in_nil handle e) };
  job = tt;
  pins = pins;
  hands = hands;
}

-- a seat that leaves a state with nothing for another
seat_turned : (xacts : Xacts) (snaps : Snaps) (ids : Pool) (held : SessionLocks) (tables : List Table) (s : ℕ) (seat : Seat) (command : Command) (state : State) → seat.job ≡ jobs.Submitted command → is_open seat.state ≡ false → IsBare state
    → SeatIsSound xacts snaps ids held tables s seat → SeatIsSound xacts snaps ids held tables s (record seat { state = state; job = jobs.Idle })
seat_turned xacts snaps ids held tables s seat command state is closed bare old =
    let none = bare.xid in
    let without = bare.snapshot in
    record {
      runs = λ xid e. absurd (cc);
      locks = record { outside = λ e. old.locks.outside closed; unclaimed = λ row e. old.locks.unclaimed row (bare_closed seat.state closed).xid; used = old.locks.used; plain = old.locks.plain };
      view = record { level = λ id e. absurd (cc); claimed = λ snapshot own row e f g. absurd (cc) };
      handles = record {
        outside = λ e. old.handles.outside closed;
        named = old.handles.named;
        each = λ handle e. absurd (none_in_nil handle (subst (λ (handles : List Handle). Contains handles handle) (old.handles.outside closed) e));
      };
      job = tt;
      pins = record { each = λ t leaf e. subst (MayPin t) is (old.pins.each t leaf e) };
      hands = record { each = λ one there of. subst (MayHold one.table) is (old.hands.each one there of) };
    }

uses_turned : (seat : Seat) (id : ℕ) (state : State) (command : Command) → seat.job ≡ jobs.Submitted command → snapshot_of state ≡ snapshot_of seat.state → uses_by id (record seat { state = state; job = jobs.Idle }) ≡ uses_by id seat
uses_turned seat id state command is same =
    ap (λ (o : Option ℕ). count_by (λ (n : ℕ). n == id) (option_to_list o ++ ([] ++ map (λ (handle : Handle). handle.snapshot) seat.handles))) same
    ∙ ap (λ (o : Option ℕ). count_by (λ (n : ℕ). n == id) (option_to_list (snapshot_of seat.state) ++ (option_to_list o ++ map (λ (handle : Handle). handle.snapshot) seat.handles))) (sym (ap job_snapshot is))

-- a session leaves a state with nothing for another: it begins, or leaves its failed transaction
pub sound_turned : (c : CoreState) (s : ℕ) (command : Command) (state : State) → IsSession c.seats s → (seat_of c s).job ≡ jobs.Submitted command → is_open (seat_of c s).state ≡ false → IsBare state → IsSound c → IsSound (after_over c s state)
sound_turned c s command state there is closed bare sound =
    let was = bare_closed (seat_of c s).state closed in
    sound_seated c s (record (seat_of c s) { state = state; job = jobs.Idle }) there (bare.xid ∙ sym was.xid)
    (λ id. uses_turned (seat_of c s) id state command is (bare.snapshot ∙ sym was.snapshot))
    (seat_turned c.xacts c.snaps c.ids (held_by c.locks s) c.tables s (seat_of c s) command state is closed bare (sound_of c s there sound)) sound
