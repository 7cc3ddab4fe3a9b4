-- A read by steps: what it comes to, and what each step does (PostgreSQL, "TOAST, Out-of-Line, On-Disk TOAST Storage").
use Rattle.std.specs.Prelude.{ℕ, ◌≡◌, ◌+◌, ◌-◌, ◌<◌, ◌≤◌, Bool, nat_lt, max, if◌then◌else◌, Result, Ok, Err, Option, Some, None, is_some, IfSome, List, [], ◌∷◌, length, slice_index_or, slice_set, ⊤}
use Rattle.std.specs.Option.{option_and_then, option_map, option_map_or}
use Rattle.std.specs.Result.{result_ok}
use Rattle.external_pointer.specs.declared.external.Pointer.{Pointer}
use Rattle.tuple_layout.specs.Places.{Row}
use Rattle.tuple_layout.specs.declared.cell.Cell.{Cell}
use Rattle.tuple_layout.specs.declared.cell.Cell.TheVariants.{Null, Inline, Out}
use Rattle.tuple_layout.specs.declared.cell.Stored.{Stored}
use Rattle.slice_fetch.specs.declared.Span.{Span}
use Rattle.slice_fetch.specs.Spans.{bytes_in}
use Rattle.chunk_index.specs.declared.entry.Entry.{Entry}
use Rattle.command_set.specs.declared.Reply.{Reply}
use Rattle.command_set.specs.declared.Reply.TheVariants as replies
use Rattle.toast_store.specs.Stores.{Store}
use Rattle.toast_store.specs.Walks.{CanStep, IsBatchHeld, index_walked, steps_left}
use Rattle.toast_store.specs.Fetches.{Fetching, answer_due, fetch_after, new_fetch, outcome}
use Rattle.toast_store.specs.declared.fault.FetchFault.{FetchFault}
use Rattle.toast_store.specs.declared.fetch.FetchStep.{FetchStep}
use Rattle.toast_store.specs.declared.fetch.FetchStep.TheVariants as fetches
use Rattle.read_steps.specs.Columns.{IsWithin, LiesIn, next_out, pointer_in, row_in, whole_span}
use Rattle.read_steps.specs.declared.stage.ReadStage.{ReadStage}
use Rattle.read_steps.specs.declared.stage.ReadStage.TheVariants as stages
use Rattle.read_steps.specs.declared.stage.ReadStep.{ReadStep}
use Rattle.read_steps.specs.declared.stage.ReadStep.TheVariants.{More, Done}
use Rattle.read_steps.specs.declared.wanted.Wanted.{Wanted}
use Rattle.read_steps.specs.declared.wanted.Wanted.TheVariants as wanteds
use Rattle.read_steps.specs.declared.wanted.Held.{Held}
use Rattle.read_steps.specs.declared.wanted.Held.TheVariants as helds

-- a read: whose it is, and how far it is
pub record Reading : Type 0 where
  pub session : ℕ
  pub stage : ReadStage

-- ---- before the first step

-- the cell of a column, from 1
abbrev pub cell_of : List Cell → ℕ → Cell
cell_of cells column = slice_index_or cells (column - 1) Null

-- a part is wanted of a column that is there, and lies in its value
pub record IsPart (stored : Stored) (column : ℕ) (span : Span) : Type 0 where
  pub first : 1 ≤ column
  pub last : column ≤ length stored.cells
  pub lies : LiesIn span (cell_of stored.cells column)

abbrev pub CanWant : Stored → Wanted → Type 0
CanWant stored wanteds.Row = ⊤
CanWant stored (wanteds.Part column span) = IsPart stored column span

abbrev pub stage_wanted : Stored → Wanted → ReadStage
stage_wanted stored wanteds.Row = stages.Row stored
stage_wanted stored (wanteds.Part column span) = stages.Part (cell_of stored.cells column) span

-- a read of a row, or of a part of one of its columns, before its first step
abbrev pub new_read : Stored → Wanted → ℕ → Reading
new_read stored wanted session = record { session = session; stage = stage_wanted stored wanted }

-- a span lies in a kept value
abbrev pub CanHold : Held → Span → Type 0
CanHold (helds.Inline value) span = IsWithin span (length value)
CanHold (helds.Out pointer) span = IsWithin span pointer.size

abbrev pub stage_held : Held → Span → ReadStage
stage_held (helds.Inline value) span = stages.Ready (bytes_in span value)
stage_held (helds.Out pointer) span = stages.Part (Out pointer) span

-- a read of a part of a kept value, before its first step
abbrev pub held_read : Held → Span → ℕ → Reading
held_read value span session = record { session = session; stage = stage_held value span }

-- ---- what it still comes to

-- the fetch of a whole value, and that of a part of a column that has bytes there
abbrev pub whole_fetch : Pointer → ℕ → Fetching
whole_fetch pointer session = new_fetch pointer (whole_span pointer) session

abbrev pub part_fetch : ℕ → Span → Cell → Option Fetching
part_fetch session span Null = None
part_fetch session span (Inline value) = None
part_fetch session span (Out pointer) = if nat_lt span.start span.end then Some (new_fetch pointer span session) else None

-- the bytes that a fetch comes to, if it does not come to a fault
abbrev pub bytes_of : Store → Fetching → Option (List ℕ)
bytes_of store fetch = result_ok (outcome store fetch)

-- a column's value, if it is out of line as its fetch comes to it
abbrev pub value_of : Store → ℕ → Cell → Option (Option (List ℕ))
value_of store session Null = Some None
value_of store session (Inline value) = Some (Some value)
value_of store session (Out pointer) = option_map (λ bytes. Some bytes) (bytes_of store (whole_fetch pointer session))

-- a row's values, if each comes to its bytes
abbrev pub row_of : Store → ℕ → List Cell → Option Row
row_of store session [] = Some []
row_of store session (cell ∷ cells) = option_and_then (λ value. option_map (λ row. value ∷ row) (row_of store session cells)) (value_of store session cell)

-- the reply of a row
abbrev pub row_reply : Store → ℕ → Stored → Option Reply
row_reply store session stored = option_map (λ row. replies.Row stored.key row) (row_of store session stored.cells)

-- a row with the value of a column in hand
abbrev pub with_value : Stored → ℕ → List ℕ → Stored
with_value stored at bytes = record stored { cells = slice_set stored.cells at (Inline bytes) }

-- the reply of a part of a column
abbrev pub part_reply : Store → ℕ → Span → Cell → Option Reply
part_reply store session span Null = Some replies.Null
part_reply store session span (Inline value) = Some (replies.Bytes (bytes_in span value))
part_reply store session span (Out pointer) = option_map (λ bytes. replies.Bytes bytes) (bytes_of store (new_fetch pointer span session))

abbrev pub reply_at : Store → ℕ → ReadStage → Option Reply
reply_at store session (stages.Row stored) = row_reply store session stored
reply_at store session (stages.RowValue stored at fetch) = option_and_then (λ bytes. row_reply store session (with_value stored at bytes)) (bytes_of store fetch)
reply_at store session (stages.Part cell span) = part_reply store session span cell
reply_at store session (stages.PartValue fetch) = option_map (λ bytes. replies.Bytes bytes) (bytes_of store fetch)
reply_at store session (stages.Ready bytes) = Some (replies.Bytes bytes)
reply_at store session stages.Over = None

-- the reply that a read comes to where the store stays as it is, if each value that it still reads comes to its bytes
abbrev pub reply_of : Store → Reading → Option Reply
reply_of store read = reply_at store read.session read.stage

-- ---- a step

-- the fetch of a row's first value out of line
abbrev pub row_fetch : List Cell → ℕ → Option Fetching
row_fetch cells session = option_map (λ (at, pointer). whole_fetch pointer session) (next_out cells)

-- the fetch of which the next step is one, if it is
abbrev pub fetch_at : ℕ → ReadStage → Option Fetching
fetch_at session (stages.Row stored) = row_fetch stored.cells session
fetch_at session (stages.RowValue stored at fetch) = Some fetch
fetch_at session (stages.Part cell span) = part_fetch session span cell
fetch_at session (stages.PartValue fetch) = Some fetch
fetch_at session (stages.Ready bytes) = None
fetch_at session stages.Over = None

abbrev pub fetch_due : Reading → Option Fetching
fetch_due read = fetch_at read.session read.stage

-- whether an entry of a batch, or a batch, is still to be taken
abbrev pub needs_store : Reading → Bool
needs_store read = is_some (fetch_due read)

-- a read has a step left
abbrev pub IsUnderWay : ReadStage → Type 0
IsUnderWay (stages.Row stored) = ⊤
IsUnderWay (stages.RowValue stored at fetch) = ⊤
IsUnderWay (stages.Part cell span) = ⊤
IsUnderWay (stages.PartValue fetch) = ⊤
IsUnderWay (stages.Ready bytes) = ⊤
IsUnderWay stages.Over = ⊥

-- it may make its next step: where that asks for a batch, its session holds no pin
pub record CanRead (store : Store) (read : Reading) : Type 0 where
  pub under_way : IsUnderWay read.stage
  pub can_step : IfSome (fetch_due read) (λ fetch. CanStep store.index fetch.walk)

-- the bytes that a step of a fetch answers, if it is its last
abbrev pub bytes_told : Result FetchStep FetchFault → Option (List ℕ)
bytes_told (Ok fetches.More) = None
bytes_told (Ok (fetches.Done bytes)) = Some bytes
bytes_told (Err fault) = None

abbrev pub bytes_due : Store → Fetching → Option (List ℕ)
bytes_due store fetch = bytes_told (answer_due store fetch)

-- where a row's read stands that is not fetching a value, and what it answers: the row once each value is in hand
abbrev pub row_left : Stored → ReadStage × ReadStep
row_left stored = if is_some (next_out stored.cells) then (stages.Row stored, More) else (stages.Over, Done (replies.Row stored.key (row_in stored.cells)))

-- a row's step: the first one of its next value out of line; where it has none it answers the row
abbrev pub row_begun : Store → ℕ → Stored → Option (ℕ × Pointer) → ReadStage × ReadStep
row_begun store session stored None = (stages.Over, Done (replies.Row stored.key (row_in stored.cells)))
row_begun store session stored (Some (at, pointer)) = (stages.RowValue stored at (fetch_after store (whole_fetch pointer session)), More)

-- a row's step within a value: it goes on, or the value is in hand
abbrev pub row_step : Store → Stored → ℕ → Fetching → Option (List ℕ) → ReadStage × ReadStep
row_step store stored at fetch None = (stages.RowValue stored at (fetch_after store fetch), More)
row_step store stored at fetch (Some bytes) = row_left (with_value stored at bytes)

-- a part's step: the first one of its value, if that is out of line and has bytes there; else it answers
abbrev pub part_begun : Store → ℕ → Span → Cell → ReadStage × ReadStep
part_begun store session span Null = (stages.Over, Done replies.Null)
part_begun store session span (Inline value) = (stages.Over, Done (replies.Bytes (bytes_in span value)))
part_begun store session span (Out pointer) = if nat_lt span.start span.end then (stages.PartValue (fetch_after store (new_fetch pointer span session)), More) else (stages.Over, Done (replies.Bytes []))

-- a part's step within its value
abbrev pub part_step : Store → Fetching → Option (List ℕ) → ReadStage × ReadStep
part_step store fetch None = (stages.PartValue (fetch_after store fetch), More)
part_step store fetch (Some bytes) = (stages.Over, Done (replies.Bytes bytes))

-- where a read stands after its next step, and what that answers
abbrev pub stepped : Store → ℕ → ReadStage → ReadStage × ReadStep
stepped store session (stages.Row stored) = row_begun store session stored (next_out stored.cells)
stepped store session (stages.RowValue stored at fetch) = row_step store stored at fetch (bytes_due store fetch)
stepped store session (stages.Part cell span) = part_begun store session span cell
stepped store session (stages.PartValue fetch) = part_step store fetch (bytes_due store fetch)
stepped store session (stages.Ready bytes) = (stages.Over, Done (replies.Bytes bytes))
stepped store session stages.Over = (stages.Over, More)

-- a read after its next step, and what that answers
abbrev pub read_after : Store → Reading → Reading
read_after store read = record read { stage = (stepped store read.session read.stage).0 }

abbrev pub answer_of : Store → Reading → ReadStep
answer_of store read = (stepped store read.session read.stage).1

-- the store after a step of a fetch: a batch pins its leaf, and its last entry drops the pin
abbrev pub store_fetched : Store → Option Fetching → Store
store_fetched store None = store
store_fetched store (Some fetch) = record store { index = index_walked store.index fetch.walk }

-- the store after a read's next step: as before where the step takes nothing of it
abbrev pub store_read : Store → Reading → Store
store_read store read = store_fetched store (fetch_due read)

-- ---- what a step leaves

-- how many steps of fetches of these columns are left at most
abbrev pub value_steps : List Entry → ℕ → Cell → ℕ
value_steps entries session cell = option_map_or (λ pointer. steps_left entries (Fetching.walk (whole_fetch pointer session))) (pointer_in cell) 0

abbrev pub row_steps : List Entry → ℕ → List Cell → ℕ
row_steps entries session [] = 0
row_steps entries session (cell ∷ cells) = value_steps entries session cell + row_steps entries session cells

-- how many steps are left at most, by where a read stands, where the index stays as it is: those of its fetches, and one where there is none
abbrev pub steps_at : List Entry → ℕ → ReadStage → ℕ
steps_at entries session (stages.Row stored) = max 1 (row_steps entries session stored.cells)
steps_at entries session (stages.RowValue stored at fetch) = steps_left entries fetch.walk + row_steps entries session (slice_set stored.cells at Null)
steps_at entries session (stages.Part cell span) = option_map_or (λ (fetch : Fetching). steps_left entries fetch.walk) (part_fetch session span cell) 1
steps_at entries session (stages.PartValue fetch) = steps_left entries fetch.walk
steps_at entries session (stages.Ready bytes) = 1
steps_at entries session stages.Over = 0

abbrev pub read_left : List Entry → Reading → ℕ
read_left entries read = steps_at entries read.session read.stage

-- what is left of a batch stands in the index and is of the fetched value
abbrev pub IsBatchKept : List Entry → Reading → Type 0
IsBatchKept entries read = IfSome (fetch_due read) (λ fetch. IsBatchHeld entries fetch.walk)

-- a read that goes on comes to the same reply, may make its next step, and has fewer steps left
pub record GoesOn (old : Store) (before : Reading) (new : Store) (after : Reading) : Type 0 where
  pub same : reply_of new after ≡ reply_of old before
  pub can : CanRead new after
  pub fewer : read_left new.index.entries after < read_left old.index.entries before
  pub batch : IsBatchKept old.index.entries before → IsBatchKept new.index.entries after

-- one that is done has answered the reply that it came to
pub record Ends (old : Store) (before after : Reading) (reply : Reply) : Type 0 where
  pub came : reply_of old before ≡ Some reply
  pub over : after.stage ≡ stages.Over

-- what a step leaves, by what it answers
abbrev pub Leaves : Store → Reading → Store → Reading → ReadStep → Type 0
Leaves old before new after More = GoesOn old before new after
Leaves old before new after (Done reply) = Ends old before after reply
