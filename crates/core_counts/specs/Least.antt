-- How many turns a command under way still takes at least, by its job alone.
use Rattle.std.specs.Prelude.{List, if◌then◌else◌, length, nat_lt, slice_get, slice_set, sum_by, Some, ℕ, ◌+◌, ◌-◌, ◌≡◌, ◌≤◌, Contains}
use Rattle.tuple_layout.specs.declared.cell.Cell.{Cell}
use Rattle.tuple_layout.specs.declared.cell.Cell.TheVariants.{Inline, Null, Out}
use Rattle.slice_fetch.specs.declared.Span.{Span}
use Rattle.toast_store.specs.Fetches.{Fetching}
use Rattle.toast_store.specs.Saves.{steps_left}
use Rattle.toast_store.specs.Walks.{Walking}
use Rattle.toast_store.specs.declared.walk.WalkStage.{WalkStage}
use Rattle.read_steps.specs.declared.stage.ReadStage.{ReadStage}
use Rattle.read_steps.specs.declared.wanted.Held.{Held}
use Rattle.write_steps.specs.Writes.{column_at}
use Rattle.write_steps.specs.declared.stage.WriteStage.{WriteStage}
use Rattle.core_state.specs.declared.seat.Handle.{Handle}
use Rattle.core_state.specs.declared.seat.Job.{Job}
use Rattle.core_state.specs.declared.seat.Seat.{Seat}
use Rattle.core_counts.specs.Counts.{longest_inline, pieces_between, save_turns}
use Rattle.core_state.specs.declared.seat.Job.TheVariants as jobs
use Rattle.read_steps.specs.declared.stage.ReadStage.TheVariants as reads
use Rattle.read_steps.specs.declared.wanted.Held.TheVariants as helds
use Rattle.toast_store.specs.declared.walk.WalkStage.TheVariants as walks
use Rattle.write_steps.specs.declared.stage.WriteStage.TheVariants as stages

-- ---- reads

-- a batch that is still to be asked for takes one
abbrev pub asks_least : WalkStage → ℕ
asks_least walks.Empty = 0
asks_least (walks.Asking after) = 1
asks_least (walks.Reading batch at) = 0
asks_least walks.Over = 0

-- a fetch: the pieces that are still to be read
abbrev pub fetch_least : Fetching → ℕ
fetch_least fetch = Walking.end (Fetching.walk fetch) - fetch.next + asks_least (Walking.stage (Fetching.walk fetch))

-- a span of a cell's value, before its fetch
abbrev pub span_least : Span → Cell → ℕ
span_least span Null = 0
span_least span (Inline value) = 0
span_least span (Out pointer) = if nat_lt span.start span.end then pieces_between span.start span.end + 1 else 0

-- a cell's whole value
abbrev pub cell_least : Cell → ℕ
cell_least Null = 0
cell_least (Inline value) = 0
cell_least (Out pointer) = if nat_lt 0 pointer.size then pieces_between 0 pointer.size + 1 else 0

abbrev pub cells_least : List Cell → ℕ
cells_least cells = sum_by cell_least cells

abbrev pub read_least : ReadStage → ℕ
read_least (reads.Row stored) = cells_least stored.cells
read_least (reads.RowValue stored at fetch) = fetch_least fetch + cells_least (slice_set stored.cells at Null)
read_least (reads.Part cell span) = span_least span cell
read_least (reads.PartValue fetch) = fetch_least fetch
read_least (reads.Ready bytes) = 0
read_least reads.Over = 0

-- ---- writes

-- a cell that is still to be saved, if its value is too long to stay in line
abbrev pub inline_least : Cell → ℕ
inline_least Null = 0
inline_least (Inline value) = save_turns value
inline_least (Out pointer) = 0

abbrev pub inlines_least : List Cell → ℕ
inlines_least cells = sum_by inline_least cells

-- the steps of the save under way, those of the long values that are still in line, and the version step. Marks are not counted
abbrev pub write_least : WriteStage → ℕ
write_least (stages.Saving old new plan at save) = steps_left save + inlines_least (slice_set new.cells (column_at plan at - 1) Null) + 1
write_least (stages.Put old new plan) = inlines_least new.cells + 1
write_least (stages.Remove old) = 1
write_least (stages.Marking dropped at mark) = 0
write_least stages.Over = 0

-- ---- jobs

-- a job past its moment; a command that has none to come is over
abbrev pub job_least : Job → ℕ
job_least jobs.Idle = 0
job_least (jobs.Submitted command) = 0
job_least (jobs.Reading t snapshot read) = read_least read.stage
job_least (jobs.Writing t write) = write_least write.stage

-- ---- handles

-- a value that a handle keeps in line is one that a tuple can hold
abbrev pub IsShort : Held → Type 0
IsShort (helds.Inline value) = length value ≤ longest_inline
IsShort (helds.Out pointer) = Unit {0}

pub record AreShort (seats : List Seat) : Type 0 where
  pub each : (i : ℕ) (seat : Seat) (handle : Handle) → slice_get seats i ≡ Some seat → Contains seat.handles handle → IsShort handle.held
