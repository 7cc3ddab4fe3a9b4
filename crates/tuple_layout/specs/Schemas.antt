-- A table as contracts see it.
use Rattle.std.specs.Prelude.{ℕ, ◌≤◌, List, []}
use Rattle.tuple_layout.specs.declared.Storage.{Storage}

-- a table has 1 to 8 byte-string columns beside its key
abbrev pub HasColumns : ℕ → Type 0
HasColumns columns = (1 ≤ columns) × (columns ≤ 8)

-- a table: the storages of its byte-string columns, in order
pub record TableSchema : Type 0 where
  pub storages : List Storage

-- no column, where there is no table
abbrev pub no_columns : TableSchema
no_columns = record { storages = [] }
