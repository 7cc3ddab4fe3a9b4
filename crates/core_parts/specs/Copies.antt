-- Which commands hold values.
use Rattle.std.specs.Prelude.{Bool, false, true}
use Rattle.command_set.specs.declared.Command.{Command}
use Rattle.command_set.specs.declared.Command.TheVariants as commands

-- whether a command holds values
abbrev pub has_values : Command → Bool
has_values (commands.Insert table key row) = true
has_values (commands.Update table key sets) = true
has_values (commands.Rekey table from to sets) = true
has_values command = false

-- whether a command reads a row, a part of a value or a kept one
abbrev pub is_read : Command → Bool
is_read (commands.Get table key) = true
is_read (commands.Part table key column offset length) = true
is_read (commands.Fetch handle offset length) = true
is_read command = false
