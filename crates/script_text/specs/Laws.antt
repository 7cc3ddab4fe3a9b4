-- What is true of every script that is read.
use Rattle.std.specs.Int.{w32, w64}
use Rattle.std.specs.Int.RustNames.{FitsSigned}
use Rattle.std.specs.List.{IsDistinct}
use Rattle.std.specs.Prelude.{ℕ, ℤ, ◌≡◌, ◌≤◌, ⊤, List, Contains, Option, Some, Ok, length, map, nat_eq, slice_get}
use Rattle.tuple_layout.specs.Places.{Row}
use Rattle.tuple_layout.specs.Schemas.{HasColumns, TableSchema}
use Rattle.command_set.specs.Journals.{command_at}
use Rattle.command_set.specs.Replies.{schema_of}
use Rattle.command_set.specs.declared.Command.{Command}
use Rattle.command_set.specs.declared.Command.TheVariants as commands
use Rattle.command_set.specs.declared.Item.{Item}
use Rattle.command_set.specs.declared.Item.TheVariants.{Once, Times, Whole}
use Rattle.command_set.specs.declared.Passage.{Passage}
use Rattle.command_set.specs.declared.Script.{Script}
use Rattle.command_set.specs.declared.Set.{Set}
use Rattle.script_words.specs.Values.{IsShort}
use Rattle.script_text.specs.Scripts.{command_count, script_in}

-- a table's number is one of the script's
pub record NamesTable (schemas : List TableSchema) (t : ℕ) : Type 0 where
  pub from_one : 1 ≤ t
  pub within : t ≤ length schemas

-- a column's number is one of its table's
pub record NamesColumn (schemas : List TableSchema) (t column : ℕ) : Type 0 where
  pub of_table : NamesTable schemas t
  pub from_one : 1 ≤ column
  pub within : column ≤ length (schema_of schemas t).storages

-- a handle's name
pub record NamesHandle (handle : ℕ) : Type 0 where
  pub from_one : 1 ≤ handle
  pub within : handle ≤ 64

-- an offset and a length are numbers of 32 bits
pub record NamesSpan (offset len : ℤ) : Type 0 where
  pub offset_fits : FitsSigned w32 offset
  pub length_fits : FitsSigned w32 len

-- a row has a value for each column of its table
pub record FillsTable (schemas : List TableSchema) (t : ℕ) (row : Row) : Type 0 where
  pub of_table : NamesTable schemas t
  pub one_each : length row ≡ length (schema_of schemas t).storages
  pub values : (value : Option (List ℕ)) → Contains row value → IsShort value

-- each column that is set is one of the table's, and none is set twice
pub record SetsColumns (schemas : List TableSchema) (t : ℕ) (sets : List Set) : Type 0 where
  pub of_table : NamesTable schemas t
  pub columns : (set : Set) → Contains sets set → NamesColumn schemas t set.column
  pub values : (set : Set) → Contains sets set → IsShort set.value
  pub once : IsDistinct nat_eq (map (λ set. set.column) sets)

-- a command names only what the tables have; upkeep is not read
abbrev pub Suits : List TableSchema → Command → Type 0
Suits schemas (commands.Begin level) = ⊤
Suits schemas commands.Commit = ⊤
Suits schemas commands.Rollback = ⊤
Suits schemas (commands.Get t key) = NamesTable schemas t × FitsSigned w64 key
Suits schemas (commands.Part t key column offset len) = NamesColumn schemas t column × FitsSigned w64 key × NamesSpan offset len
Suits schemas (commands.Open handle t key column) = NamesHandle handle × NamesColumn schemas t column × FitsSigned w64 key
Suits schemas (commands.Fetch handle offset len) = NamesHandle handle × NamesSpan offset len
Suits schemas (commands.Close handle) = NamesHandle handle
Suits schemas (commands.Insert t key row) = FillsTable schemas t row × FitsSigned w64 key
Suits schemas (commands.Update t key sets) = SetsColumns schemas t sets × FitsSigned w64 key
Suits schemas (commands.Delete t key) = NamesTable schemas t × FitsSigned w64 key
Suits schemas (commands.Rekey t from to sets) = SetsColumns schemas t sets × FitsSigned w64 from × FitsSigned w64 to
Suits schemas command = ⊥

-- the session of an item
abbrev pub session_of_item : Item → ℕ
session_of_item (Once s) = s
session_of_item (Times s count) = s
session_of_item (Whole s) = s

-- a session's number is one of the script's
pub record NamesSession (script : Script) (s : ℕ) : Type 0 where
  pub from_one : 1 ≤ s
  pub within : s ≤ length script.sessions

-- a script keeps the rules of its grammar
pub record KeepsRules (script : Script) : Type 0 where
  pub low : 16384 ≤ script.low
  pub high : script.low ≤ script.high
  pub highest : script.high ≤ 4294967295
  pub tables : length script.schemas ≤ 16
  pub columns : (schema : TableSchema) → Contains script.schemas schema → HasColumns (length schema.storages)
  pub sessions : length script.sessions ≤ 64
  pub commands : command_count script ≤ 10000
  pub suits : (s n : ℕ) (command : Command) → command_at script s n ≡ Some command → Suits script.schemas command
  pub items : (i j : ℕ) (passage : Passage) (item : Item) → slice_get script.schedule i ≡ Some passage → slice_get passage.items j ≡ Some item → NamesSession script (session_of_item item)

-- every script that bytes spell does
abbrev pub ScriptsKeepRules : Type 0
ScriptsKeepRules = (bytes : List ℕ) (script : Script) → script_in bytes ≡ Ok script → KeepsRules script
