-- The scripts that bytes spell are ones that a hub runs.
use Rattle.std.proofs.Common.{◌≡◌, ℕ, List, Ok}
use Rattle.tuple_layout.specs.Places.{Row}
use Rattle.tuple_layout.specs.Schemas.{TableSchema}
use Rattle.command_set.specs.declared.Command.{Command}
use Rattle.command_set.specs.declared.Command.TheVariants as commands
use Rattle.command_set.specs.declared.Item.{Item}
use Rattle.command_set.specs.declared.Item.TheVariants.{Once, Times, Whole}
use Rattle.command_set.specs.declared.Script.{Script}
use Rattle.command_set.specs.declared.Set.{Set}
use Rattle.script_text.proofs.Proved.{scripts_keep_rules}
use Rattle.script_text.specs.Laws.{FillsTable, NamesColumn, NamesSession, NamesTable, SetsColumns, Suits, session_of_item}
use Rattle.script_text.specs.Scripts.{script_in}
use Rattle.core_state.specs.Commands.{AreSetsOf, IsColumnIn, IsFitting, IsRowOf, IsTableIn}
use Rattle.session_shell.specs.Hubs.{IsScript, IsSessionOf, session_in}

table_fits : (schemas : List TableSchema) (t : ℕ) → NamesTable schemas t → IsTableIn schemas t
table_fits schemas t h = record { from_one = h.from_one; within = h.within }

column_fits : (schemas : List TableSchema) (t column : ℕ) → NamesColumn schemas t column → IsColumnIn schemas t column
column_fits schemas t column h = record { of_table = table_fits schemas t h.of_table; from_one = h.from_one; within = h.within }

row_fits : (schemas : List TableSchema) (t : ℕ) (row : Row) → FillsTable schemas t row → IsRowOf schemas t row
row_fits schemas t row h = record { of_table = table_fits schemas t h.of_table; one_each = h.one_each; values = h.values }

sets_fit : (schemas : List TableSchema) (t : ℕ) (sets : List Set) → SetsColumns schemas t sets → AreSetsOf schemas t sets
sets_fit schemas t sets h = record {
  of_table = table_fits schemas t h.of_table;
  columns = λ set in_sets. column_fits schemas t set.column (h.columns set in_sets);
  values = h.values;
  once = h.once;
}

-- a command that suits the tables is one that the core takes
command_fits : (schemas : List TableSchema) (command : Command) → Suits schemas command → IsFitting schemas command
command_fits schemas (commands.Begin level) h = tt
command_fits schemas commands.Commit h = tt
command_fits schemas commands.Rollback h = tt
command_fits schemas (commands.Get t key) h = table_fits schemas t h.0
command_fits schemas (commands.Part t key column offset len) h = column_fits schemas t column h.0
command_fits schemas (commands.Open handle t key column) h = column_fits schemas t column h.1
command_fits schemas (commands.Fetch handle offset len) h = tt
command_fits schemas (commands.Close handle) h = tt
command_fits schemas (commands.Insert t key row) h = (row_fits schemas t row h.0, h.1)
command_fits schemas (commands.Update t key sets) h = sets_fit schemas t sets h.0
command_fits schemas (commands.Delete t key) h = table_fits schemas t h.0
command_fits schemas (commands.Rekey t from to sets) h = (sets_fit schemas t sets h.0, h.2)
command_fits schemas (commands.VacuumMain t) h = absurd h
command_fits schemas (commands.VacuumToast t) h = absurd h
command_fits schemas (commands.Rewrite t) h = absurd h

item_fits : (script : Script) (item : Item) → NamesSession script (session_of_item item) → IsSessionOf script (session_in item)
item_fits script (Once s) h = record { from_one = h.from_one; within = h.within }
item_fits script (Times s count) h = record { from_one = h.from_one; within = h.within }
item_fits script (Whole s) h = record { from_one = h.from_one; within = h.within }

-- the script that bytes spell is one that a hub runs
pub script_is : (bytes : List ℕ) (script : Script) → script_in bytes ≡ Ok script → IsScript script
script_is bytes script e =
    let h = scripts_keep_rules bytes script e in
    record {
      low = h.low;
      high = h.high;
      tables = h.tables;
      sessions = h.sessions;
      commands = h.commands;
      fits = λ s n command there. command_fits script.schemas command (h.suits s n command there);
      items = λ i j passage item there at. item_fits script item (h.items i j passage item there at);
    }
