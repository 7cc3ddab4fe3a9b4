-- Each read under way is one that its type allows, through every line.
use Rattle.std.proofs.Common.{arith, inl, inr, refl, subst, sym}
use Rattle.std.specs.Option.{option_map_or}
use Rattle.std.specs.Prelude.{Bool, List, None, Option, Some, false, if◌then◌else◌, is_some, length, nat_lt, negsuc, pos, replicate, slice_set, true, ℕ, ℤ, ⊤, ◌-◌, ◌≡◌}
use Rattle.list_facts.proofs.Changed.{after_set}
use Rattle.external_pointer.specs.declared.external.Pointer.{Pointer}
use Rattle.tuple_layout.specs.Slices.{slice}
use Rattle.tuple_layout.specs.declared.cell.Cell.{Cell}
use Rattle.tuple_layout.specs.declared.cell.Cell.TheVariants.{Inline, Null, Out}
use Rattle.tuple_layout.specs.declared.cell.Stored.{Stored}
use Rattle.snapshot_registry.specs.Snapshots.{after_take, least_free}
use Rattle.lock_table.specs.Locks.{granted, table_lock}
use Rattle.lock_table.specs.declared.lock.LockMode.TheVariants.{Use}
use Rattle.toast_store.specs.Fetches.{fetch_after, new_fetch}
use Rattle.toast_store.specs.Stores.{Store}
use Rattle.command_set.specs.Answers.{table_of}
use Rattle.command_set.specs.Replies.{fails, is_granted}
use Rattle.command_set.specs.declared.Command.{Command}
use Rattle.command_set.specs.declared.Reply.{Reply}
use Rattle.read_steps.proofs.Fetching.{some_fetched}
use Rattle.read_steps.proofs.Rows.{cell_found}
use Rattle.read_steps.specs.Columns.{IsWithin, LiesIn, next_out}
use Rattle.read_steps.specs.Reads.{Reading, bytes_due, cell_of, held_read, needs_store, part_step, read_after, row_begun, row_step, stage_held, stepped, whole_fetch, with_value}
use Rattle.read_steps.specs.Sound.{IsReadStage}
use Rattle.read_steps.specs.declared.stage.ReadStage.{ReadStage}
use Rattle.read_steps.specs.declared.stage.ReadStep.{ReadStep}
use Rattle.read_steps.specs.declared.wanted.Held.{Held}
use Rattle.write_steps.specs.Writes.{Writing}
use Rattle.write_steps.specs.declared.stage.OldRow.{OldRow}
use Rattle.write_steps.specs.declared.stage.WriteStep.{WriteStep}
use Rattle.core_state.proofs.Answered.{within}
use Rattle.core_state.proofs.Seats.{seat_there}
use Rattle.core_state.specs.Begun.{cell_size, held_in, held_size, keys_claimed, part_wanted, row_read, span_of, updated_row, write_begun}
use Rattle.core_state.specs.Events.{Closed, Committed, FetchBegun, GivenUp, Looked, MomentLine, Opened, Over, ReadBegun, WriteBegun, at_moment, line_due, line_fetching, line_granted, line_reading, line_spared, read_on_by, read_told, write_on_by}
use Rattle.core_state.specs.Lines.{failed_state, after_use, seated, takes_copy, with_snapshot}
use Rattle.core_state.specs.State.{CoreState, IsSession, handle_of, is_open, is_repeatable, seat_of, table_at}
use Rattle.core_state.specs.Views.{row_seen}
use Rattle.core_state.specs.declared.seat.Handle.{Handle}
use Rattle.core_state.specs.declared.seat.Job.{Job}
use Rattle.core_state.specs.declared.seat.Seat.{Seat}
use Rattle.core_state.specs.declared.seat.State.{State}
use Rattle.core_reads.proofs.Spans.{span_within}
use Rattle.core_reads.proofs.Stepped.{left_by, part_by}
use Rattle.core_reads.specs.Laws.{IsJobMade, MadeStays, ReadsAreMade}
use Rattle.command_set.specs.declared.Command.TheVariants as commands
use Rattle.command_set.specs.declared.Reply.TheVariants as replies
use Rattle.core_state.specs.declared.seat.Job.TheVariants as jobs
use Rattle.core_state.specs.declared.seat.State.TheVariants as states
use Rattle.read_steps.specs.declared.stage.ReadStage.TheVariants as read_stages
use Rattle.read_steps.specs.declared.stage.ReadStep.TheVariants as steps
use Rattle.read_steps.specs.declared.wanted.Held.TheVariants as helds
use Rattle.read_steps.specs.declared.wanted.Wanted.TheVariants as wanteds
use Rattle.write_steps.specs.declared.stage.WriteStep.TheVariants as writes

-- a seat is written with such a job
set_made : (seats : List Seat) (i : ℕ) (seat : Seat) → IsJobMade seat.job → ReadsAreMade seats → ReadsAreMade (slice_set seats i seat)
set_made seats i seat its old = record {
  each = λ k other at. elim (after_set seats i seat k other at) [
    | inl h ↦ subst (λ (x : Seat). IsJobMade x.job) (sym h.1) its
    | inr h ↦ old.each k other h.1
  ];
}

-- ---- a step of a read

made_stepped : (store : Store) (session : ℕ) (stage : ReadStage) → IsReadStage session stage → IsReadStage session (stepped store session stage).0
made_stepped store session (read_stages.Row stored) is = by (next_out stored.cells) refl
  where
    by : (next : Option (ℕ × Pointer)) → next_out stored.cells ≡ next → IsReadStage session (row_begun store session stored next).0
    by None e = tt
    by (Some (at, pointer)) e = (within stored.cells at (Out pointer) (cell_found stored.cells at pointer e), some_fetched store session (whole_fetch pointer session) (fetch_after store (whole_fetch pointer session)) refl refl)
made_stepped store session (read_stages.RowValue stored at fetch) is = by (bytes_due store fetch)
  where
    rest : (left : Stored) (b : Bool) → IsReadStage session (left_by left b).0
    rest left true = tt
    rest left false = tt

    by : (o : Option (List ℕ)) → IsReadStage session (row_step store stored at fetch o).0
    by None = (is.0, some_fetched store session fetch (fetch_after store fetch) is.1.of_session refl)
    by (Some bytes) = rest (with_value stored at bytes) (is_some (next_out (Stored.cells (with_value stored at bytes))))
made_stepped store session (read_stages.Part Null span) is = tt
made_stepped store session (read_stages.Part (Inline value) span) is = tt
made_stepped store session (read_stages.Part (Out pointer) span) is = by (nat_lt span.start span.end)
  where
    by : (b : Bool) → IsReadStage session (part_by store (new_fetch pointer span session) b).0
    by true = some_fetched store session (new_fetch pointer span session) (fetch_after store (new_fetch pointer span session)) refl refl
    by false = tt
made_stepped store session (read_stages.PartValue fetch) is = by (bytes_due store fetch)
  where
    by : (o : Option (List ℕ)) → IsReadStage session (part_step store fetch o).0
    by None = some_fetched store session fetch (fetch_after store fetch) is.of_session refl
    by (Some bytes) = tt
made_stepped store session (read_stages.Ready bytes) is = tt
made_stepped store session read_stages.Over is = tt

read_made : (c : CoreState) (s t : ℕ) (snapshot : Option ℕ) (read : Reading) (step : ReadStep) → IsSession c.seats s → (seat_of c s).job ≡ jobs.Reading t snapshot read → ReadsAreMade c.seats → ReadsAreMade (read_on_by c s t snapshot read step).seats
read_made c s t snapshot read steps.More there is old =
    let its = subst IsJobMade is (old.each (s - 1) (seat_of c s) (seat_there c.seats s there)) in
    set_made c.seats (s - 1) (record (seat_of c s) { job = jobs.Reading t snapshot (read_after (table_at c.tables t).toast read) }) (made_stepped (table_at c.tables t).toast read.session read.stage its) old
read_made c s t snapshot read (steps.Done reply) there is old = set_made c.seats (s - 1) (record (seat_of c s) { job = jobs.Idle }) tt old

write_made : (c : CoreState) (s t : ℕ) (write : Writing) (toast : Store) (step : WriteStep) → ReadsAreMade c.seats → ReadsAreMade (write_on_by c s t write toast step).seats
write_made c s t write toast writes.More old = set_made c.seats (s - 1) _ tt old
write_made c s t write toast writes.Done old = set_made c.seats (s - 1) _ tt old

-- ---- a moment

abbrev used_by : Bool → CoreState → ℕ → ℕ → CoreState
used_by b c s t =
    let seat = seat_of c s in
    let used = record c { locks = granted c.locks s (table_lock t Use) } in
    if b then seated (record used { snaps = after_take c.snaps c.xacts }) s (record seat { state = with_snapshot seat.state (least_free c.snaps) }) else used

used_made : (c : CoreState) (s t : ℕ) → IsJobMade (seat_of c s).job → ReadsAreMade c.seats → ReadsAreMade (after_use c s t).seats
used_made c s t its old = by (takes_copy (seat_of c s).state)
  where
    by : (b : Bool) → ReadsAreMade (CoreState.seats (used_by b c s t))
    by true = set_made c.seats (s - 1) _ its old
    by false = old

-- a core in which a read has begun, by whether it takes no snapshot of its own
abbrev begun_by : Bool → CoreState → ℕ → ℕ → Reading → CoreState
begun_by b c s t read =
    let used = after_use c s t in
    let seat = seat_of used s in
    if b then seated used s (record seat { job = jobs.Reading t None read }) else seated (record used { snaps = after_take used.snaps used.xacts }) s (record seat { job = jobs.Reading t (Some (least_free used.snaps)) read })

-- the line's read is one that its type allows
abbrev LineMade : MomentLine → Type 0
LineMade (Over state) = ⊤
LineMade (Looked t) = ⊤
LineMade Committed = ⊤
LineMade (GivenUp state) = ⊤
LineMade (ReadBegun t read) = IsReadStage read.session read.stage
LineMade (FetchBegun t read) = IsReadStage read.session read.stage
LineMade (WriteBegun t keys write) = ⊤
LineMade (Opened t name held) = ⊤
LineMade (Closed handle) = ⊤

moment_made : (line : MomentLine) (c : CoreState) (s : ℕ) → IsJobMade (seat_of c s).job → LineMade line → ReadsAreMade c.seats → ReadsAreMade (at_moment line c s).seats
moment_made (Over state) c s its is old = set_made c.seats (s - 1) _ tt old
moment_made (Looked t) c s its is old = set_made (after_use c s t).seats (s - 1) _ tt (used_made c s t its old)
moment_made Committed c s its is old = set_made c.seats (s - 1) _ tt old
moment_made (GivenUp state) c s its is old = set_made c.seats (s - 1) _ tt old
moment_made (ReadBegun t read) c s its is old = by (is_repeatable (seat_of (after_use c s t) s).state)
  where
    by : (b : Bool) → ReadsAreMade (CoreState.seats (begun_by b c s t read))
    by true = set_made (after_use c s t).seats (s - 1) _ is (used_made c s t its old)
    by false = set_made (after_use c s t).seats (s - 1) _ is (used_made c s t its old)
moment_made (FetchBegun t read) c s its is old = set_made c.seats (s - 1) _ is old
moment_made (WriteBegun t keys write) c s its is old = set_made (after_use c s t).seats (s - 1) _ tt (used_made c s t its old)
moment_made (Opened t name held) c s its is old = set_made (after_use c s t).seats (s - 1) _ tt (used_made c s t its old)
moment_made (Closed handle) c s its is old = set_made c.seats (s - 1) _ tt old

-- ---- the line that is due

-- a span of a slice lies in the value, whatever the offset
span_lies : (size : ℕ) (offset len : ℤ) → IsWithin (span_of size offset len) size
span_lies size (pos n) len = span_within size n len
span_lies size (negsuc n) len =
    let zeros : List ℕ = replicate size 0 in
    let none : length (slice zeros (negsuc n) len) ≡ 0 = refl in
    record { ordered = omega arith; within = omega (arith, none) }

cell_lies : (cell : Cell) (offset len : ℤ) → LiesIn (span_of (cell_size cell) offset len) cell
cell_lies Null offset len = tt
cell_lies (Inline value) offset len = span_lies (length value) offset len
cell_lies (Out pointer) offset len = span_lies pointer.size offset len

reading_made : (t : ℕ) (read : Reading) → IsReadStage read.session read.stage → LineMade (line_reading t read)
reading_made t read is = by (needs_store read)
  where
    by : (b : Bool) → LineMade (if b then ReadBegun t read else Looked t)
    by true = is
    by false = tt

fetching_made : (state : State) (t : ℕ) (read : Reading) → IsReadStage read.session read.stage → LineMade (line_fetching state t read)
fetching_made state t read is = by (needs_store read)
  where
    by : (b : Bool) → LineMade (if b then FetchBegun t read else Over state)
    by true = is
    by false = tt

held_made : (s : ℕ) (held : Held) (offset len : ℤ) → IsReadStage s (stage_held held (span_of (held_size held) offset len))
held_made s (helds.Inline bytes) offset len = tt
held_made s (helds.Out pointer) offset len = span_lies pointer.size offset len

-- a line by what is found, if anything is
found_made : {X : Type 0} (f : X → MomentLine) (none : MomentLine) (o : Option X) → ((x : X) → LineMade (f x)) → LineMade none → LineMade (option_map_or f o none)
found_made f none None each its = its
found_made f none (Some x) each its = each x

granted_made : (c : CoreState) (s : ℕ) (command : Command) → LineMade (line_granted c s command)
granted_made c s (commands.Begin level) = tt
granted_made c s commands.Commit = tt
granted_made c s commands.Rollback = by (is_open (seat_of c s).state)
  where
    by : (b : Bool) → LineMade (if b then GivenUp states.Outside else Over states.Outside)
    by true = tt
    by false = tt
granted_made c s (commands.Get t key) = found_made (λ (old : OldRow). line_reading t (row_read s wanteds.Row old)) (Looked t) (row_seen c s t key) (λ old. reading_made t (row_read s wanteds.Row old) tt) tt
granted_made c s (commands.Part t key column offset len) =
    found_made (λ (old : OldRow). line_reading t (row_read s (part_wanted old column offset len) old)) (Looked t) (row_seen c s t key)
    (λ old. reading_made t (row_read s (part_wanted old column offset len) old) (cell_lies (cell_of old.stored.cells column) offset len)) tt
granted_made c s (commands.Open name t key column) = found_made (λ (old : OldRow). Opened t name (held_in (cell_of old.stored.cells column))) (Looked t) (row_seen c s t key) (λ old. tt) tt
granted_made c s (commands.Fetch name offset len) =
    found_made (λ (handle : Handle). line_fetching (seat_of c s).state handle.table (held_read handle.held (span_of (held_size handle.held) offset len) s)) (Over (seat_of c s).state) (handle_of (seat_of c s).handles name)
    (λ handle. fetching_made (seat_of c s).state handle.table (held_read handle.held (span_of (held_size handle.held) offset len) s) (held_made s handle.held offset len)) tt
granted_made c s (commands.Close name) = found_made Closed (Over (seat_of c s).state) (handle_of (seat_of c s).handles name) (λ handle. tt) tt
granted_made c s (commands.Insert t key row) = tt
granted_made c s (commands.Update t key sets) =
    found_made (λ (old : OldRow). WriteBegun t (keys_claimed (commands.Update t key sets)) (write_begun c s t (Some old) (Some (updated_row old.stored key sets)))) (Looked t) (row_seen c s t key) (λ old. tt) tt
granted_made c s (commands.Rekey t from to sets) =
    found_made (λ (old : OldRow). WriteBegun t (keys_claimed (commands.Rekey t from to sets)) (write_begun c s t (Some old) (Some (updated_row old.stored to sets)))) (Looked t) (row_seen c s t from) (λ old. tt) tt
granted_made c s (commands.Delete t key) = found_made (λ (old : OldRow). WriteBegun t (keys_claimed (commands.Delete t key)) (write_begun c s t (Some old) None)) (Looked t) (row_seen c s t key) (λ old. tt) tt
granted_made c s (commands.VacuumMain t) = tt
granted_made c s (commands.VacuumToast t) = tt
granted_made c s (commands.Rewrite t) = tt

spared_made : (state : State) (table : Option ℕ) (reply : Reply) → LineMade (line_spared state table reply)
spared_made state None replies.RolledBack = tt
spared_made state None reply = tt
spared_made state (Some t) replies.RolledBack = tt
spared_made state (Some t) replies.Absent = tt
spared_made state (Some t) replies.Null = tt
spared_made state (Some t) reply = tt

due_made : (c : CoreState) (s : ℕ) (command : Command) (reply : Reply) → LineMade (line_due c s command reply)
due_made c s command reply = by (is_granted reply) (fails reply)
  where
    by : (a b : Bool) → LineMade (if a then line_granted c s command else (if b then GivenUp (failed_state (seat_of c s).state) else line_spared (seat_of c s).state (table_of command) reply))
    by true b = granted_made c s command
    by false true = tt
    by false false = spared_made (seat_of c s).state (table_of command) reply

submitted_made : (job : Job) (command : Command) → job ≡ jobs.Submitted command → IsJobMade job
submitted_made job command is = subst IsJobMade (sym is) tt

pub made_stays : MadeStays
made_stays = record {
  submitted = λ c s command old. set_made c.seats (s - 1) (record (seat_of c s) { job = jobs.Submitted command }) tt old;
  moment = λ c s command reply before old. moment_made (line_due c s command reply) c s (submitted_made (seat_of c s).job command before) (due_made c s command reply) old;
  read = λ c s t snapshot read there is old. read_made c s t snapshot read (read_told c t read) there is old;
  write = λ c s t write toast step old. write_made c s t write toast step old;
  failing = λ c s old. set_made c.seats (s - 1) _ tt old;
}
