-- A new core.
use Rattle.std.specs.List.{enumerate_from}
use Rattle.std.specs.Prelude.{Contains, List, [], map, replicate, ℕ, ⊤, ◌+◌}
use Rattle.tuple_layout.specs.Schemas.{TableSchema}
use Rattle.lock_table.specs.Held.{nothing}
use Rattle.table_state.specs.LookUps.{no_rows}
use Rattle.table_state.specs.declared.table.Table.{Table}
use Rattle.core_state.specs.Facts.{IsTableMade}
use Rattle.core_state.specs.State.{CoreState, nobody}
use Rattle.core_state.specs.declared.seat.Job.{Job}
use Rattle.core_state.specs.declared.seat.Job.TheVariants as jobs

-- the tables of these schemas, without a row, the first of which has this number
abbrev pub tables_from : ℕ → List TableSchema → List Table
tables_from number schemas = map (λ (number, schema). no_rows schema number) (enumerate_from number schemas)

abbrev pub tables_of : List TableSchema → List Table
tables_of schemas = tables_from 1 schemas

-- a core of these tables, without a row, with this range of ids and so many sessions, which are in no transaction
abbrev pub first_core : List TableSchema → ℕ → ℕ → ℕ → CoreState
first_core schemas low high sessions = record {
  ids = record { low = low; high = high; next = low; in_hand = [] };
  xacts = [];
  snaps = [];
  locks = replicate (sessions + 1) nothing;
  log = record { entries = []; ends = 0 };
  tables = tables_of schemas;
  seats = replicate sessions nobody;
}

-- a session is not about to begin a command
abbrev pub IsUnsubmitted : Job → Type 0
IsUnsubmitted jobs.Idle = ⊤
IsUnsubmitted (jobs.Submitted command) = ⊥
IsUnsubmitted (jobs.Reading table snapshot read) = ⊤
IsUnsubmitted (jobs.Writing table write) = ⊤

-- each table is one by the types of its parts
pub record AreTablesMade (tables : List Table) : Type 0 where
  pub each : (table : Table) → Contains tables table → IsTableMade table
