-- What the granted moment of a write keeps and does, with a field for each command that writes.
use Rattle.std.specs.List.{All}
use Rattle.std.specs.Prelude.{List, Option, Some, length, true, ℕ, ℤ, ◌<◌, ◌≡◌}
use Rattle.tuple_layout.specs.Places.{Row}
use Rattle.tuple_layout.specs.Tuples.{IsWithinLimits}
use Rattle.tuple_layout.specs.declared.Storage.{Storage}
use Rattle.tuple_layout.specs.declared.cell.Stored.{Stored}
use Rattle.command_set.specs.Replies.{is_granted}
use Rattle.command_set.specs.declared.Command.{Command}
use Rattle.command_set.specs.declared.Set.{Set}
use Rattle.write_steps.specs.Standing.{CanBegin}
use Rattle.write_steps.specs.declared.stage.OldRow.{OldRow}
use Rattle.core_state.specs.Begun.{inserted_row, plan_of, updated_row}
use Rattle.core_state.specs.Commands.{AreSetsOf, IsRowOf}
use Rattle.core_state.specs.Events.{at_moment, left, line_granted}
use Rattle.core_state.specs.Facts.{IsSound, PartsAreSound}
use Rattle.core_state.specs.Moves.{Runs}
use Rattle.core_state.specs.State.{CoreState, IsSession, is_past_moment, schemas_of, seat_of, table_at}
use Rattle.core_state.specs.Views.{row_seen}
use Rattle.core_looks.specs.Due.{reply_due}
use Rattle.command_set.specs.declared.Command.TheVariants as commands
use Rattle.core_state.specs.declared.advance.Advance.TheVariants as advances
use Rattle.core_state.specs.declared.seat.Job.TheVariants as jobs

-- a session of a sound core has a command submitted, and none of its refusals holds there
pub record IsDueGranted (c : CoreState) (s : ℕ) (command : Command) : Type 0 where
  pub there : IsSession c.seats s
  pub sound : IsSound c
  pub parts : PartsAreSound c
  pub job : (seat_of c s).job ≡ jobs.Submitted command
  pub granted : is_granted (reply_due c s command) ≡ true

-- the core after the granted moment of a command
abbrev pub granted_to : CoreState → ℕ → Command → CoreState
granted_to c s command = at_moment (line_granted c s command) c s

-- the core is sound after it
pub record WritesKeep : Type 0 where
  pub insert : (c : CoreState) (s t : ℕ) (key : ℤ) (row : Row) → IsDueGranted c s (commands.Insert t key row) → IsSound (granted_to c s (commands.Insert t key row))
  pub update : (c : CoreState) (s t : ℕ) (key : ℤ) (sets : List Set) → IsDueGranted c s (commands.Update t key sets) → IsSound (granted_to c s (commands.Update t key sets))
  pub delete : (c : CoreState) (s t : ℕ) (key : ℤ) → IsDueGranted c s (commands.Delete t key) → IsSound (granted_to c s (commands.Delete t key))
  pub rekey : (c : CoreState) (s t : ℕ) (from to : ℤ) (sets : List Set) → IsDueGranted c s (commands.Rekey t from to sets) → IsSound (granted_to c s (commands.Rekey t from to sets))

-- it stands for the plain store's state after the command, whose reply is the plain store's, and the command goes on
pub record WritesRun : Type 0 where
  pub insert : (c : CoreState) (s t : ℕ) (key : ℤ) (row : Row) → IsDueGranted c s (commands.Insert t key row) → Runs c s (commands.Insert t key row) (granted_to c s (commands.Insert t key row)) advances.More
  pub update : (c : CoreState) (s t : ℕ) (key : ℤ) (sets : List Set) → IsDueGranted c s (commands.Update t key sets) → Runs c s (commands.Update t key sets) (granted_to c s (commands.Update t key sets)) advances.More
  pub delete : (c : CoreState) (s t : ℕ) (key : ℤ) → IsDueGranted c s (commands.Delete t key) → Runs c s (commands.Delete t key) (granted_to c s (commands.Delete t key)) advances.More
  pub rekey : (c : CoreState) (s t : ℕ) (from to : ℤ) (sets : List Set) → IsDueGranted c s (commands.Rekey t from to sets) → Runs c s (commands.Rekey t from to sets) (granted_to c s (commands.Rekey t from to sets)) advances.More

-- the command is past its moment, and what is left of it falls
pub record WriteGoesOn (c new : CoreState) (s : ℕ) : Type 0 where
  pub past : is_past_moment (seat_of new s).job ≡ true
  pub falls : left new s < left c s

pub record WritesFall : Type 0 where
  pub insert : (c : CoreState) (s t : ℕ) (key : ℤ) (row : Row) → IsDueGranted c s (commands.Insert t key row) → WriteGoesOn c (granted_to c s (commands.Insert t key row)) s
  pub update : (c : CoreState) (s t : ℕ) (key : ℤ) (sets : List Set) → IsDueGranted c s (commands.Update t key sets) → WriteGoesOn c (granted_to c s (commands.Update t key sets)) s
  pub delete : (c : CoreState) (s t : ℕ) (key : ℤ) → IsDueGranted c s (commands.Delete t key) → WriteGoesOn c (granted_to c s (commands.Delete t key)) s
  pub rekey : (c : CoreState) (s t : ℕ) (from to : ℤ) (sets : List Set) → IsDueGranted c s (commands.Rekey t from to sets) → WriteGoesOn c (granted_to c s (commands.Rekey t from to sets)) s

-- ---- before the moment

-- a row can be written, unless its tuple is too large: it has a cell for each column of its table, each within limits, and the columns that are to go out may
pub record CanWrite (storages : List Storage) (new : Stored) : Type 0 where
  pub one_each : length new.cells ≡ length storages
  pub limits : All IsWithinLimits new.cells
  pub begins : (old : Option OldRow) → CanBegin old (Some new) (plan_of storages (Some new))

-- the storages of a table's columns
abbrev pub columns_of : CoreState → ℕ → List Storage
columns_of c t = (table_at c.tables t).rows.schema.storages

pub record RowsCanBeWritten : Type 0 where
  -- the row of an insert
  pub inserted : (c : CoreState) (t : ℕ) (key : ℤ) (row : Row) → IsRowOf (schemas_of c.tables) t row → CanWrite (columns_of c t) (inserted_row key row)
  -- a row that the session sees, with some of its columns set, at whatever key
  pub updated : (c : CoreState) (s t : ℕ) (key to : ℤ) (sets : List Set) (old : OldRow) → IsSound c → row_seen c s t key ≡ Some old → AreSetsOf (schemas_of c.tables) t sets → CanWrite (columns_of c t) (updated_row old.stored to sets)
