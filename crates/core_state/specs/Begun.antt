-- The job by which a granted command goes on from its moment: nothing is read or written yet.
use Rattle.std.specs.List.{enumerate_from}
use Rattle.std.specs.Option.{option_map_or, unwrap_or}
use Rattle.std.specs.Prelude.{List, None, Option, Some, [], if◌then◌else◌, length, map, min, replicate, unsigned_abs, ℕ, ℤ, ◌+◌, ◌∷◌}
use Rattle.tuple_layout.specs.Places.{Row}
use Rattle.tuple_layout.specs.Slices.{slice}
use Rattle.tuple_layout.specs.Tuples.{cell_widths}
use Rattle.tuple_layout.specs.declared.Storage.{Storage}
use Rattle.tuple_layout.specs.declared.cell.Cell.{Cell}
use Rattle.tuple_layout.specs.declared.cell.Cell.TheVariants.{Inline, Null, Out}
use Rattle.tuple_layout.specs.declared.cell.Stored.{Stored}
use Rattle.tuple_toaster.specs.Pushed.{pushed, tuple_target}
use Rattle.slice_fetch.specs.declared.Span.{Span}
use Rattle.xact_status.specs.Xacts.{next_xid}
use Rattle.snapshot_registry.specs.Snapshots.{Snaps, least_free}
use Rattle.command_set.specs.Plain.{value_set}
use Rattle.command_set.specs.declared.Command.{Command}
use Rattle.command_set.specs.declared.Set.{Set}
use Rattle.read_steps.specs.Reads.{Reading, cell_of, held_read, needs_store, new_read}
use Rattle.read_steps.specs.declared.wanted.Held.{Held}
use Rattle.read_steps.specs.declared.wanted.Wanted.{Wanted}
use Rattle.write_steps.specs.Writes.{Writing, new_write}
use Rattle.write_steps.specs.declared.stage.OldRow.{OldRow}
use Rattle.core_state.specs.State.{CoreState, handle_of, is_repeatable, seat_of, table_at, xid_of}
use Rattle.core_state.specs.Views.{row_seen}
use Rattle.core_state.specs.declared.seat.Handle.{Handle}
use Rattle.core_state.specs.declared.seat.Job.{Job}
use Rattle.core_state.specs.declared.seat.State.{State}
use Rattle.command_set.specs.declared.Command.TheVariants as commands
use Rattle.core_state.specs.declared.seat.Job.TheVariants as jobs
use Rattle.read_steps.specs.declared.wanted.Held.TheVariants as helds
use Rattle.read_steps.specs.declared.wanted.Wanted.TheVariants as wanteds

-- a value in line, or a null
abbrev pub cell_in_line : Option (List ℕ) → Cell
cell_in_line None = Null
cell_in_line (Some value) = Inline value

-- the row of an insert, and that of an update or a rekey: the columns that are not set keep their cells
abbrev pub inserted_row : ℤ → Row → Stored
inserted_row key row = record { key = key; cells = map cell_in_line row }

abbrev pub cells_with : List Cell → List Set → List Cell
cells_with cells sets = map (λ (column, cell). option_map_or cell_in_line (value_set sets column) cell) (enumerate_from 1 cells)

abbrev pub updated_row : Stored → ℤ → List Set → Stored
updated_row old key sets = record { key = key; cells = cells_with old.cells sets }

-- the columns that go out, in the order in which they are saved
abbrev pub plan_of : List Storage → Option Stored → List ℕ
plan_of storages None = []
plan_of storages (Some new) = pushed storages (cell_widths new.cells) tuple_target

-- a write by a session whose transaction has an xid, or is given the next one
abbrev pub write_begun : CoreState → ℕ → ℕ → Option OldRow → Option Stored → Writing
write_begun c s t old new = new_write t s (unwrap_or (xid_of (seat_of c s).state) (next_xid c.xacts)) old new (plan_of (table_at c.tables t).rows.schema.storages new)

abbrev pub job_writing : CoreState → ℕ → ℕ → Option OldRow → Option Stored → Job
job_writing c s t old new = jobs.Writing t (write_begun c s t old new)

-- a read that wants nothing of the store answers at its moment
abbrev pub job_reading : ℕ → Option ℕ → Reading → Job
job_reading t snapshot read = if needs_store read then jobs.Reading t snapshot read else jobs.Idle

-- the snapshot that a read takes for itself, under read committed
abbrev pub own_snapshot : Snaps → State → Option ℕ
own_snapshot snaps state = if is_repeatable state then None else Some (least_free snaps)

-- how many bytes a cell's value has
abbrev pub cell_size : Cell → ℕ
cell_size Null = 0
cell_size (Inline value) = length value
cell_size (Out pointer) = pointer.size

abbrev pub held_size : Held → ℕ
held_size (helds.Inline value) = length value
held_size (helds.Out pointer) = pointer.size

-- the span of a slice of a value of so many bytes
abbrev pub span_of : ℕ → ℤ → ℤ → Span
span_of size offset len = record { start = min (unsigned_abs offset) size; end = min (unsigned_abs offset) size + length (slice (replicate size 0) offset len) }

-- the read of a row that was found
abbrev pub row_read : ℕ → Wanted → OldRow → Reading
row_read s wanted old = new_read old.stored wanted s

-- what is wanted of a column of a row that was found
abbrev pub part_wanted : OldRow → ℕ → ℤ → ℤ → Wanted
part_wanted old column offset len = wanteds.Part column (span_of (cell_size (cell_of old.stored.cells column)) offset len)

abbrev pub handle_read : ℕ → ℤ → ℤ → Handle → Job
handle_read s offset len handle = job_reading handle.table None (held_read handle.held (span_of (held_size handle.held) offset len) s)

-- the job of a granted command after its moment; one that is over then has none
abbrev pub begun : CoreState → ℕ → Command → Job
begun c s (commands.Get t key) = option_map_or (λ old. job_reading t (own_snapshot c.snaps (seat_of c s).state) (row_read s wanteds.Row old)) (row_seen c s t key) jobs.Idle
begun c s (commands.Part t key column offset len) = option_map_or (λ old. job_reading t (own_snapshot c.snaps (seat_of c s).state) (row_read s (part_wanted old column offset len) old)) (row_seen c s t key) jobs.Idle
begun c s (commands.Fetch name offset len) = option_map_or (handle_read s offset len) (handle_of (seat_of c s).handles name) jobs.Idle
begun c s (commands.Insert t key row) = job_writing c s t None (Some (inserted_row key row))
begun c s (commands.Update t key sets) = option_map_or (λ old. job_writing c s t (Some old) (Some (updated_row old.stored key sets))) (row_seen c s t key) jobs.Idle
begun c s (commands.Rekey t from to sets) = option_map_or (λ old. job_writing c s t (Some old) (Some (updated_row old.stored to sets))) (row_seen c s t from) jobs.Idle
begun c s (commands.Delete t key) = option_map_or (λ old. job_writing c s t (Some old) None) (row_seen c s t key) jobs.Idle
begun c s command = jobs.Idle

-- the keys that a write claims
abbrev pub keys_claimed : Command → List ℤ
keys_claimed (commands.Insert t key row) = key ∷ []
keys_claimed (commands.Update t key sets) = key ∷ []
keys_claimed (commands.Delete t key) = key ∷ []
keys_claimed (commands.Rekey t from to sets) = from ∷ to ∷ []
keys_claimed command = []

-- the value that a granted open keeps
abbrev pub held_in : Cell → Held
held_in Null = helds.Inline []
held_in (Inline value) = helds.Inline value
held_in (Out pointer) = helds.Out pointer
