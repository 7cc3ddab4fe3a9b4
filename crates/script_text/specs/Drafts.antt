-- What stands in the parser's draft and reader.
use Rattle.std.specs.Prelude.{◌≡◌, ◌<◌, true, length, Result, Ok, Err}
use Rattle.command_set.specs.declared.Script.{Script}
use Rattle.script_text.specs.Scripts.{Read, command_count, byte_count, turn_count, is_within}
use Rattle.script_text.specs.declared.draft.Draft.{Draft}
use Rattle.script_text.specs.declared.reader.Reader.{Reader}
use Rattle.script_words.specs.declared.fault.LineFault.{LineFault}
use Rattle.script_words.specs.declared.fault.Refusal.{Refusal}
use Rattle.script_words.specs.declared.fault.Refusal.TheVariants.{Fault, Memory}
use Rattle.script_text.specs.declared.forms.Line.{Line}
use Rattle.script_text.specs.declared.forms.Line.TheVariants as line

-- the script of the lines so far
abbrev pub script_of : Draft → Script
script_of draft = record { low = draft.low; high = draft.high; schemas = draft.schemas; sessions = draft.sessions.items; schedule = draft.schedule }

-- the counts are those of the script, which is within all limits
pub record Counts (draft : Draft) : Type 0 where
  pub commands : draft.commands ≡ command_count (script_of draft)
  pub bytes : draft.bytes ≡ byte_count (script_of draft)
  pub turns : draft.turns ≡ turn_count (script_of draft)
  pub within : is_within (script_of draft) ≡ true

-- there is a session for a line that is a command
abbrev pub HasRoom : Script → Line → Type 0
HasRoom script (line.Command command) = 0 < length script.sessions
HasRoom script line = Unit {0}

-- what a reader has read
abbrev pub read_of : Reader → Read
read_of reader = record { script = script_of reader.draft; part = reader.part; has_ids = reader.has_ids }

-- the draft's script is the one that was to be made, or the fault is the one that was found; want of memory says nothing
abbrev pub Leaves : {A : Type 0} → Draft → Result A Refusal → Result Script LineFault → Type 0
Leaves draft (Ok x) made = (made ≡ Ok (script_of draft)) × Counts draft
Leaves draft (Err Memory) made = Unit {0}
Leaves draft (Err (Fault fault)) made = made ≡ Err fault

-- the same of a reader and what was to be read
abbrev pub Reads : {A : Type 0} → Reader → Result A Refusal → Result Read LineFault → Type 0
Reads reader (Ok x) read = (read ≡ Ok (read_of reader)) × Counts reader.draft
Reads reader (Err Memory) read = Unit {0}
Reads reader (Err (Fault fault)) read = read ≡ Err fault
