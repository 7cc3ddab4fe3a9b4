-- The commands that a core with these tables takes.
use Rattle.std.specs.List.{IsDistinct}
use Rattle.std.specs.Option.{ForSome}
use Rattle.std.specs.Int.{w64}
use Rattle.std.specs.Int.RustNames.{FitsSigned}
use Rattle.std.specs.Prelude.{Contains, List, Option, length, map, nat_eq, ℕ, ⊤, ◌≡◌, ◌≤◌}
use Rattle.tuple_layout.specs.Places.{Row}
use Rattle.tuple_layout.specs.Schemas.{TableSchema}
use Rattle.tuple_layout.specs.declared.Storage.{Storage}
use Rattle.command_set.specs.Replies.{schema_of}
use Rattle.command_set.specs.declared.Command.{Command}
use Rattle.command_set.specs.declared.Set.{Set}
use Rattle.table_state.specs.Tables.{longest_value}
use Rattle.command_set.specs.declared.Command.TheVariants as commands

pub record IsTableIn (schemas : List TableSchema) (t : ℕ) : Type 0 where
  pub from_one : 1 ≤ t
  pub within : t ≤ length schemas

-- the storages of a table's columns
abbrev pub storages_of : List TableSchema → ℕ → List Storage
storages_of schemas t = (schema_of schemas t).storages

-- a value, if it is not null, has at most 65,536 bytes
abbrev pub IsValue : Option (List ℕ) → Type 0
IsValue value = ForSome value (λ bytes. length bytes ≤ longest_value)

pub record IsColumnIn (schemas : List TableSchema) (t column : ℕ) : Type 0 where
  pub of_table : IsTableIn schemas t
  pub from_one : 1 ≤ column
  pub within : column ≤ length (storages_of schemas t)

pub record IsRowOf (schemas : List TableSchema) (t : ℕ) (row : Row) : Type 0 where
  pub of_table : IsTableIn schemas t
  pub one_each : length row ≡ length (storages_of schemas t)
  pub values : (value : Option (List ℕ)) → Contains row value → IsValue value

-- no column is set twice
pub record AreSetsOf (schemas : List TableSchema) (t : ℕ) (sets : List Set) : Type 0 where
  pub of_table : IsTableIn schemas t
  pub columns : (set : Set) → Contains sets set → IsColumnIn schemas t set.column
  pub values : (set : Set) → Contains sets set → IsValue set.value
  pub once : IsDistinct nat_eq (map (λ set. set.column) sets)

-- upkeep is not built; a key that is to be new is a number of 64 bits
abbrev pub IsFitting : List TableSchema → Command → Type 0
IsFitting schemas (commands.Begin level) = ⊤
IsFitting schemas commands.Commit = ⊤
IsFitting schemas commands.Rollback = ⊤
IsFitting schemas (commands.Get t key) = IsTableIn schemas t
IsFitting schemas (commands.Part t key column offset len) = IsColumnIn schemas t column
IsFitting schemas (commands.Open name t key column) = IsColumnIn schemas t column
IsFitting schemas (commands.Fetch name offset len) = ⊤
IsFitting schemas (commands.Close name) = ⊤
IsFitting schemas (commands.Insert t key row) = IsRowOf schemas t row × FitsSigned w64 key
IsFitting schemas (commands.Update t key sets) = AreSetsOf schemas t sets
IsFitting schemas (commands.Delete t key) = IsTableIn schemas t
IsFitting schemas (commands.Rekey t from to sets) = AreSetsOf schemas t sets × FitsSigned w64 to
IsFitting schemas command = ⊥
