-- What open handles keep in line is short, through every line.
use Rattle.std.proofs.Common.{arith, inl, inr, refl, subst, sym}
use Rattle.std.specs.Option.{option_map_or}
use Rattle.std.specs.Prelude.{Bool, Contains, List, None, Option, Some, [], false, filter, if◌then◌else◌, not, slice_index_or, slice_set, true, ℕ, ℤ, ⊤, ◌-◌, ◌==◌, ◌∷◌, ◌≡◌}
use Rattle.list_facts.proofs.Changed.{after_set}
use Rattle.list_facts.proofs.Members.{cases_in, first_in, later_in, none_in_nil}
use Rattle.tuple_layout.specs.declared.cell.Cell.{Cell}
use Rattle.tuple_layout.specs.declared.cell.Cell.TheVariants.{Inline, Null, Out}
use Rattle.snapshot_registry.specs.Snapshots.{after_take, least_free}
use Rattle.lock_table.specs.Locks.{granted, table_lock}
use Rattle.lock_table.specs.declared.lock.LockMode.TheVariants.{Use}
use Rattle.toast_store.specs.Stores.{Store}
use Rattle.command_set.specs.Answers.{table_of}
use Rattle.command_set.specs.Replies.{fails, is_granted}
use Rattle.command_set.specs.declared.Command.{Command}
use Rattle.command_set.specs.declared.Reply.{Reply}
use Rattle.read_steps.specs.Reads.{Reading, cell_of, held_read, needs_store}
use Rattle.read_steps.specs.declared.stage.ReadStep.{ReadStep}
use Rattle.write_steps.specs.Writes.{Writing}
use Rattle.write_steps.specs.declared.stage.OldRow.{OldRow}
use Rattle.write_steps.specs.declared.stage.WriteStep.{WriteStep}
use Rattle.core_state.proofs.Seats.{seat_there}
use Rattle.core_state.specs.Begun.{held_in, held_size, keys_claimed, part_wanted, row_read, span_of, updated_row, write_begun}
use Rattle.core_state.specs.Events.{Closed, Committed, FetchBegun, GivenUp, IsDue, IsWriteDue, Looked, MomentLine, Opened, Over, ReadBegun, WriteBegun, at_moment, line_due, line_fetching, line_granted, line_reading, line_spared, read_on_by, read_told, write_on_by, write_told}
use Rattle.core_state.specs.Lines.{after_failing, after_use, failed_state, seated, takes_copy, with_handle, with_snapshot}
use Rattle.core_state.specs.State.{CoreState, IsSession, handle_of, is_open, is_repeatable, nobody, seat_of}
use Rattle.core_state.specs.Views.{row_seen}
use Rattle.core_state.specs.declared.advance.Advance.{Advance}
use Rattle.core_state.specs.declared.seat.Handle.{Handle}
use Rattle.core_state.specs.declared.seat.Job.{Job}
use Rattle.core_state.specs.declared.seat.Seat.{Seat}
use Rattle.core_state.specs.declared.seat.State.{State}
use Rattle.core_looks.proofs.Before.{fits_at, table_in}
use Rattle.core_looks.proofs.Used.{session_used}
use Rattle.core_reads.proofs.Handles.{among_opened}
use Rattle.core_events.specs.Laws.{IsSoundAt}
use Rattle.core_counts.proofs.Beginning.{seen_short}
use Rattle.core_counts.proofs.Sizes.{IsShortCell, short_column}
use Rattle.core_counts.specs.Laws.{ShortStays}
use Rattle.core_counts.specs.Least.{AreShort, IsShort}
use Rattle.command_set.specs.declared.Command.TheVariants as commands
use Rattle.command_set.specs.declared.Reply.TheVariants as replies
use Rattle.core_state.specs.declared.advance.Advance.TheVariants as advances
use Rattle.core_state.specs.declared.seat.Job.TheVariants as jobs
use Rattle.core_state.specs.declared.seat.State.TheVariants as states
use Rattle.read_steps.specs.declared.stage.ReadStep.TheVariants as steps
use Rattle.read_steps.specs.declared.wanted.Wanted.TheVariants as wanteds
use Rattle.write_steps.specs.declared.stage.WriteStep.TheVariants as writes

-- the handles of a list keep short values
abbrev pub OwnShort : List Handle → Type 0
OwnShort handles = (handle : Handle) → Contains handles handle → IsShort handle.held

pub none_short : OwnShort []
none_short handle e = absurd (none_in_nil handle e)

-- a seat is written with such handles
pub set_short : (seats : List Seat) (i : ℕ) (seat : Seat) → OwnShort seat.handles → AreShort seats → AreShort (slice_set seats i seat)
set_short seats i seat its old = record {
  each = λ k other handle at has. elim (after_set seats i seat k other at) [
    | inl h ↦ its handle (subst (λ (x : Seat). Contains x.handles handle) h.1 has)
    | inr h ↦ old.each k other handle h.1 has
  ];
}

pub own_short : (seats : List Seat) (s : ℕ) → IsSession seats s → AreShort seats → OwnShort (Seat.handles (slice_index_or seats (s - 1) nobody))
own_short seats s there old handle has = old.each (s - 1) (slice_index_or seats (s - 1) nobody) handle (seat_there seats s there) has

-- ---- a later step

read_short : (c : CoreState) (s t : ℕ) (snapshot : Option ℕ) (read : Reading) (step : ReadStep) → IsSession c.seats s → AreShort c.seats → AreShort (read_on_by c s t snapshot read step).seats
read_short c s t snapshot read steps.More there old = set_short c.seats (s - 1) _ (own_short c.seats s there old) old
read_short c s t snapshot read (steps.Done reply) there old = set_short c.seats (s - 1) _ (own_short c.seats s there old) old

write_short : (c : CoreState) (s t : ℕ) (write : Writing) (toast : Store) (step : WriteStep) → IsSession c.seats s → AreShort c.seats → AreShort (write_on_by c s t write toast step).seats
write_short c s t write toast writes.More there old = set_short c.seats (s - 1) _ (own_short c.seats s there old) old
write_short c s t write toast writes.Done there old = set_short c.seats (s - 1) _ (own_short c.seats s there old) old

pub failing_short : (c : CoreState) (s : ℕ) → AreShort c.seats → AreShort (after_failing c s).seats
failing_short c s old = set_short c.seats (s - 1) _ none_short old

-- ---- a moment

abbrev used_by : Bool → CoreState → ℕ → ℕ → CoreState
used_by b c s t =
    let seat = seat_of c s in
    let used = record c { locks = granted c.locks s (table_lock t Use) } in
    if b then seated (record used { snaps = after_take c.snaps c.xacts }) s (record seat { state = with_snapshot seat.state (least_free c.snaps) }) else used

pub used_short : (c : CoreState) (s t : ℕ) → IsSession c.seats s → AreShort c.seats → AreShort (after_use c s t).seats
used_short c s t there old = by (takes_copy (seat_of c s).state)
  where
    by : (b : Bool) → AreShort (CoreState.seats (used_by b c s t))
    by true = set_short c.seats (s - 1) _ (own_short c.seats s there old) old
    by false = old

-- a core in which a read has begun, by whether it takes no snapshot of its own
abbrev begun_by : Bool → CoreState → ℕ → ℕ → Reading → CoreState
begun_by b c s t read =
    let used = after_use c s t in
    let seat = seat_of used s in
    if b then seated used s (record seat { job = jobs.Reading t None read }) else seated (record used { snaps = after_take used.snaps used.xacts }) s (record seat { job = jobs.Reading t (Some (least_free used.snaps)) read })

-- the line opens no handle, or one with a short value
abbrev LineShort : MomentLine → Type 0
LineShort (Over state) = ⊤
LineShort (Looked t) = ⊤
LineShort Committed = ⊤
LineShort (GivenUp state) = ⊤
LineShort (ReadBegun t read) = ⊤
LineShort (FetchBegun t read) = ⊤
LineShort (WriteBegun t keys write) = ⊤
LineShort (Opened t name held) = IsShort held
LineShort (Closed handle) = ⊤

opened_short : (handles : List Handle) (handle : Handle) → IsShort handle.held → OwnShort handles → OwnShort (with_handle handles handle)
opened_short handles handle its old other e = elim (among_opened handles handle other e) [
  | inl same ↦ subst (λ (h : Handle). IsShort h.held) same its
  | inr has ↦ old other has
]

closed_short : (p : Handle → Bool) (handles : List Handle) → OwnShort handles → OwnShort (filter p handles)
closed_short p [] old handle e = absurd (none_in_nil handle e)
closed_short p (first ∷ handles) old handle e = by (closed_short p handles (λ other h. old other (later_in first handles other h)) handle) (p first) e
  where
    by : (Contains (filter p handles) handle → IsShort handle.held) → (b : Bool) → Contains (if b then first ∷ filter p handles else filter p handles) handle → IsShort handle.held
    by rest true f = elim (cases_in first (filter p handles) handle f) [ inl h ↦ old handle (first_in first handles handle h) | inr h ↦ rest h ]
    by rest false f = rest f

moment_short : (line : MomentLine) (c : CoreState) (s : ℕ) → IsSession c.seats s → LineShort line → AreShort c.seats → AreShort (at_moment line c s).seats
moment_short (Over state) c s there is old = set_short c.seats (s - 1) _ (own_short c.seats s there old) old
moment_short (Looked t) c s there is old =
    let used = used_short c s t there old in
    set_short (after_use c s t).seats (s - 1) _ (own_short (after_use c s t).seats s (session_used c s t there) used) used
moment_short Committed c s there is old = set_short c.seats (s - 1) _ none_short old
moment_short (GivenUp state) c s there is old = set_short c.seats (s - 1) _ none_short old
moment_short (ReadBegun t read) c s there is old = by (is_repeatable (seat_of (after_use c s t) s).state)
  where
    used : AreShort (after_use c s t).seats
    used = used_short c s t there old

    own : OwnShort (Seat.handles (seat_of (after_use c s t) s))
    own = own_short (after_use c s t).seats s (session_used c s t there) (used_short c s t there old)

    by : (b : Bool) → AreShort (CoreState.seats (begun_by b c s t read))
    by true = set_short (after_use c s t).seats (s - 1) _ own used
    by false = set_short (after_use c s t).seats (s - 1) _ own used
moment_short (FetchBegun t read) c s there is old = set_short c.seats (s - 1) _ (own_short c.seats s there old) old
moment_short (WriteBegun t keys write) c s there is old =
    let used = used_short c s t there old in
    set_short (after_use c s t).seats (s - 1) _ (own_short (after_use c s t).seats s (session_used c s t there) used) used
moment_short (Opened t name held) c s there is old =
    let used = used_short c s t there old in
    let own = own_short (after_use c s t).seats s (session_used c s t there) used in
    set_short (after_use c s t).seats (s - 1) _ (opened_short (Seat.handles (seat_of (after_use c s t) s)) _ is own) used
moment_short (Closed handle) c s there is old = set_short c.seats (s - 1) _ (closed_short (λ other. not (other.name == handle.name)) (Seat.handles (seat_of c s)) (own_short c.seats s there old)) old

-- ---- the line that is due

reading_short : (t : ℕ) (read : Reading) → LineShort (line_reading t read)
reading_short t read = by (needs_store read)
  where
    by : (b : Bool) → LineShort (if b then ReadBegun t read else Looked t)
    by true = tt
    by false = tt

fetching_short : (state : State) (t : ℕ) (read : Reading) → LineShort (line_fetching state t read)
fetching_short state t read = by (needs_store read)
  where
    by : (b : Bool) → LineShort (if b then FetchBegun t read else Over state)
    by true = tt
    by false = tt

-- a line by what is found, if anything is
found_short : {X : Type 0} (f : X → MomentLine) (none : MomentLine) (o : Option X) → ((x : X) → LineShort (f x)) → LineShort none → LineShort (option_map_or f o none)
found_short f none None each its = its
found_short f none (Some x) each its = each x

-- the value that an open keeps
kept_short : (cell : Cell) → IsShortCell cell → IsShort (held_in cell)
kept_short Null is = omega arith
kept_short (Inline value) is = is
kept_short (Out pointer) is = tt

open_short : (c : CoreState) (s name t : ℕ) (key : ℤ) (column : ℕ) → IsSoundAt c s → (seat_of c s).job ≡ jobs.Submitted (commands.Open name t key column) → LineShort (line_granted c s (commands.Open name t key column))
open_short c s name t key column at is = by (row_seen c s t key) refl
  where
    by : (o : Option OldRow) → row_seen c s t key ≡ o → LineShort (option_map_or (λ (old : OldRow). Opened t name (held_in (cell_of old.stored.cells column))) o (Looked t))
    by None seen = tt
    by (Some old) seen =
        let table = table_in c t (fits_at c s (commands.Open name t key column) at.there at.sound is).of_table in
        kept_short (cell_of old.stored.cells column) (short_column old.stored.cells (column - 1) (seen_short c s t key old at.there table at.sound at.parts seen))

granted_short : (c : CoreState) (s : ℕ) (command : Command) → IsSoundAt c s → (seat_of c s).job ≡ jobs.Submitted command → LineShort (line_granted c s command)
granted_short c s (commands.Begin level) at is = tt
granted_short c s commands.Commit at is = tt
granted_short c s commands.Rollback at is = by (is_open (seat_of c s).state)
  where
    by : (b : Bool) → LineShort (if b then GivenUp states.Outside else Over states.Outside)
    by true = tt
    by false = tt
granted_short c s (commands.Get t key) at is = found_short (λ (old : OldRow). line_reading t (row_read s wanteds.Row old)) (Looked t) (row_seen c s t key) (λ old. reading_short t (row_read s wanteds.Row old)) tt
granted_short c s (commands.Part t key column offset len) at is =
    found_short (λ (old : OldRow). line_reading t (row_read s (part_wanted old column offset len) old)) (Looked t) (row_seen c s t key) (λ old. reading_short t (row_read s (part_wanted old column offset len) old)) tt
granted_short c s (commands.Open name t key column) at is = open_short c s name t key column at is
granted_short c s (commands.Fetch name offset len) at is =
    found_short (λ (handle : Handle). line_fetching (seat_of c s).state handle.table (held_read handle.held (span_of (held_size handle.held) offset len) s)) (Over (seat_of c s).state) (handle_of (seat_of c s).handles name)
    (λ handle. fetching_short (seat_of c s).state handle.table (held_read handle.held (span_of (held_size handle.held) offset len) s)) tt
granted_short c s (commands.Close name) at is = found_short Closed (Over (seat_of c s).state) (handle_of (seat_of c s).handles name) (λ handle. tt) tt
granted_short c s (commands.Insert t key row) at is = tt
granted_short c s (commands.Update t key sets) at is =
    found_short (λ (old : OldRow). WriteBegun t (keys_claimed (commands.Update t key sets)) (write_begun c s t (Some old) (Some (updated_row old.stored key sets)))) (Looked t) (row_seen c s t key) (λ old. tt) tt
granted_short c s (commands.Rekey t from to sets) at is =
    found_short (λ (old : OldRow). WriteBegun t (keys_claimed (commands.Rekey t from to sets)) (write_begun c s t (Some old) (Some (updated_row old.stored to sets)))) (Looked t) (row_seen c s t from) (λ old. tt) tt
granted_short c s (commands.Delete t key) at is = found_short (λ (old : OldRow). WriteBegun t (keys_claimed (commands.Delete t key)) (write_begun c s t (Some old) None)) (Looked t) (row_seen c s t key) (λ old. tt) tt
granted_short c s (commands.VacuumMain t) at is = tt
granted_short c s (commands.VacuumToast t) at is = tt
granted_short c s (commands.Rewrite t) at is = tt

spared_short : (state : State) (table : Option ℕ) (reply : Reply) → LineShort (line_spared state table reply)
spared_short state None replies.RolledBack = tt
spared_short state None reply = tt
spared_short state (Some t) replies.RolledBack = tt
spared_short state (Some t) replies.Absent = tt
spared_short state (Some t) replies.Null = tt
spared_short state (Some t) reply = tt

due_short : (c : CoreState) (s : ℕ) (command : Command) (reply : Reply) → IsSoundAt c s → (seat_of c s).job ≡ jobs.Submitted command → LineShort (line_due c s command reply)
due_short c s command reply at is = by (is_granted reply) (fails reply)
  where
    by : (a b : Bool) → LineShort (if a then line_granted c s command else (if b then GivenUp (failed_state (seat_of c s).state) else line_spared (seat_of c s).state (table_of command) reply))
    by true b = granted_short c s command at is
    by false true = tt
    by false false = spared_short (seat_of c s).state (table_of command) reply

-- ---- an event

to_short : (new made : CoreState) → new ≡ made → AreShort made.seats → AreShort new.seats
to_short new made is short = subst (λ (core : CoreState). AreShort core.seats) (sym is) short

write_due_short : (c : CoreState) (s t : ℕ) (write : Writing) (new : CoreState) (reply : Reply) → IsSession c.seats s → AreShort c.seats → IsWriteDue c s t write new (advances.Done reply) → AreShort new.seats
write_due_short c s t write new replies.NoValueId there old due = to_short new (after_failing c s) due.is (failing_short c s old)
write_due_short c s t write new reply there old due = to_short new (write_on_by c s t write due.toast (write_told c t write)) due.is (write_short c s t write due.toast (write_told c t write) there old)

event_short : (c : CoreState) (s : ℕ) (new : CoreState) (advance : Advance) (job : Job) → IsSoundAt c s → AreShort c.seats → (seat_of c s).job ≡ job → IsDue job c s new advance → AreShort new.seats
event_short c s new advance jobs.Idle at old is due = to_short new c due.0 old
event_short c s new advances.Idle (jobs.Submitted command) at old is due = absurd due
event_short c s new advances.More (jobs.Submitted command) at old is due = to_short new (at_moment (line_granted c s command) c s) due.0 (moment_short (line_granted c s command) c s at.there (granted_short c s command at is) old)
event_short c s new (advances.Done reply) (jobs.Submitted command) at old is due =
    to_short new (at_moment (line_due c s command reply) c s) due.0 (moment_short (line_due c s command reply) c s at.there (due_short c s command reply at is) old)
event_short c s new advance (jobs.Reading t snapshot read) at old is due = to_short new (read_on_by c s t snapshot read (read_told c t read)) due.0 (read_short c s t snapshot read (read_told c t read) at.there old)
event_short c s new advances.Idle (jobs.Writing t write) at old is due = to_short new (write_on_by c s t write due.toast (write_told c t write)) due.is (write_short c s t write due.toast (write_told c t write) at.there old)
event_short c s new advances.More (jobs.Writing t write) at old is due = to_short new (write_on_by c s t write due.toast (write_told c t write)) due.is (write_short c s t write due.toast (write_told c t write) at.there old)
event_short c s new (advances.Done reply) (jobs.Writing t write) at old is due = write_due_short c s t write new reply at.there old due

pub short_stays : ShortStays
short_stays = record {
  submitted = λ c s command there old. set_short c.seats (s - 1) (record (seat_of c s) { job = jobs.Submitted command }) (own_short c.seats s there old) old;
  event = λ c s new advance at old event. event_short c s new advance (seat_of c s).job at old refl event.is;
  failing = λ c s old. failing_short c s old;
}
