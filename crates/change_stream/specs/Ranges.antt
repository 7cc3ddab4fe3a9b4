-- The ranges of what a script writes, and of the messages that come of it.
use Rattle.std.specs.Prelude.{◌≡◌, ℕ, ◌≤◌, List, Option, Some, None, length, All}
use Rattle.tuple_layout.specs.Places.{Row}
use Rattle.command_set.specs.declared.Command.{Command}
use Rattle.command_set.specs.declared.Command.TheVariants as commands
use Rattle.command_set.specs.declared.JournalEntry.{JournalEntry}
use Rattle.command_set.specs.declared.Script.{Script}
use Rattle.command_set.specs.declared.Set.{Set}
use Rattle.command_set.specs.Journals.{command_at}
use Rattle.stream_wire.specs.Spelling.{IsInRange, IsTable}
use Rattle.change_stream.specs.Streams.{stream}

-- a value has at most 65,536 bytes
abbrev pub IsValue : Option (List ℕ) → Type 0
IsValue None = Unit {0}
IsValue (Some bytes) = length bytes ≤ 65536

-- a row has 1 to 8 columns
abbrev pub IsRow : Row → Type 0
IsRow row = (1 ≤ length row) × (length row ≤ 8) × All IsValue row

-- what a command writes is in range
abbrev pub WritesInRange : Command → Type 0
WritesInRange (commands.Insert table key row) = IsTable table × IsRow row
WritesInRange (commands.Update table key sets) = IsTable table × All (λ (s : Set). IsValue s.value) sets
WritesInRange (commands.Delete table key) = IsTable table
WritesInRange (commands.Rekey table from to sets) = IsTable table × All (λ (s : Set). IsValue s.value) sets
WritesInRange command = Unit {0}

-- and so is what a script writes
pub record HasRanges (script : Script) : Type 0 where
  pub each : (s n : ℕ) (command : Command) → command_at script s n ≡ Some command → WritesInRange command

-- the messages of such a script's journal are in range
abbrev pub StreamRanges : Type 0
StreamRanges = (script : Script) (journal : List JournalEntry) → HasRanges script → All IsInRange (stream script journal)
