-- Which columns of a core's rows are out of line, beside what the stream tells of it.
use Rattle.std.specs.Option.{option_map_or}
use Rattle.std.specs.Prelude.{Bool, List, None, Option, Some, false, option_map, slice_get, slice_index_or, suc, true, ℕ, ℤ, ⊤, ◌||◌, ◌≡◌}
use Rattle.tuple_layout.specs.Places.{same_place}
use Rattle.tuple_layout.specs.declared.Place.{Place}
use Rattle.tuple_layout.specs.declared.cell.Cell.{Cell}
use Rattle.tuple_layout.specs.declared.cell.Cell.TheVariants.{Inline, Null, Out}
use Rattle.tuple_layout.specs.declared.cell.Stored.{Stored}
use Rattle.tuple_toaster.specs.Pushed.{is_among}
use Rattle.xact_status.specs.Versions.{counts_for}
use Rattle.xact_status.specs.Xacts.{Xacts, is_committed}
use Rattle.command_set.specs.Changes.{place}
use Rattle.table_rows.specs.Worlds.{tuple_in}
use Rattle.table_state.specs.Cells.{cells_in}
use Rattle.table_state.specs.declared.table.Table.{Table}
use Rattle.write_steps.specs.declared.stage.WriteStage.{WriteStage}
use Rattle.core_state.specs.Coming.{new_left, to_push}
use Rattle.core_state.specs.State.{CoreState, is_open, table_at, xid_of}
use Rattle.core_state.specs.declared.seat.Job.{Job}
use Rattle.core_state.specs.declared.seat.Seat.{Seat}
use Rattle.core_state.specs.declared.seat.Job.TheVariants as jobs
use Rattle.change_stream.specs.Streams.{outs_with}
use Rattle.change_stream.specs.declared.written.Written.{Written}

-- ---- the columns of a row

-- whether a cell has a pointer
abbrev pub is_out : Cell → Bool
is_out Null = false
is_out (Inline value) = false
is_out (Out pointer) = true

-- these columns are those that are out of line in a row
pub record AreOut (columns : List ℕ) (cells : List Cell) : Type 0 where
  pub each : (k : ℕ) → is_among columns (suc k) ≡ is_out (slice_index_or cells k Null)

-- they are those that are out of line once these go out too
pub record WillBeOut (columns : List ℕ) (cells : List Cell) (plan : List ℕ) : Type 0 where
  pub each : (k : ℕ) → is_among columns (suc k) ≡ (is_out (slice_index_or cells k Null) || is_among plan (suc k))

-- ---- the rows that a world has

-- the columns that are told of each place are those that are out of line in the row that a world has there, but for the places that are passed over
pub record AreOutIn (tables : List Table) (counts : ℕ → Bool) (outs : Place → List ℕ) (skip : Place → Bool) : Type 0 where
  pub each : (p : Place) (bytes : List ℕ) → skip p ≡ false → tuple_in counts (table_at tables p.table).rows.pages p.key ≡ Some bytes → AreOut (outs p) (cells_in (table_at tables p.table).rows.schema.storages bytes)

-- ---- a session

-- the place where a job is still to put a row
abbrev pub put_place : Job → Option Place
put_place jobs.Idle = None
put_place (jobs.Submitted command) = None
put_place (jobs.Reading t snapshot read) = None
put_place (jobs.Writing t write) = option_map (λ new. place t new.key) (new_left write.stage)

abbrev pub is_put_at : Job → Place → Bool
is_put_at job p = option_map_or (λ q. same_place q p) (put_place job) false

-- the columns that are told of the new row's key are those that will be out of line
abbrev pub PutsAt : (ℤ → List ℕ) → WriteStage → Type 0
PutsAt outs stage = (new : Stored) → new_left stage ≡ Some new → WillBeOut (outs new.key) new.cells (to_push stage)

abbrev pub PutsOut : (Place → List ℕ) → Job → Type 0
PutsOut outs jobs.Idle = ⊤
PutsOut outs (jobs.Submitted command) = ⊤
PutsOut outs (jobs.Reading t snapshot read) = ⊤
PutsOut outs (jobs.Writing t write) = PutsAt (λ key. outs (place t key)) write.stage

-- what is told of a session's places: where its transaction is open, of each row that is there for it, and of the one that it is still to put
pub record SeatOuts (xacts : Xacts) (tables : List Table) (outs : Place → List ℕ) (seat : Seat) : Type 0 where
  pub now : is_open seat.state ≡ true → AreOutIn tables (counts_for xacts (xid_of seat.state)) outs (is_put_at seat.job)
  pub coming : PutsOut outs seat.job

-- ---- a core

-- what is told of the committed rows, and by each session's changes beside them
pub record OutsStand (c : CoreState) (outs : Place → List ℕ) (written : ℕ → List Written) : Type 0 where
  pub latest : AreOutIn c.tables (is_committed c.xacts) outs (λ p. false)
  pub each : (i : ℕ) (seat : Seat) → slice_get c.seats i ≡ Some seat → SeatOuts c.xacts c.tables (outs_with outs (written (suc i))) seat
