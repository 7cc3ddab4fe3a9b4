-- Scripts: what their lines make, line by line, or the first bad line and why it is bad.
use Rattle.std.specs.Prelude.{◌≡◌, ℕ, ◌+◌, min, ◌&&◌, ◌||◌, not, nat_le, Bool, true, false, List, [], ◌∷◌, ◌++◌, length, sum_by, Option, Some, None, Result, Ok, Err, if◌then◌else◌}
use Rattle.command_set.specs.declared.Command.{Command}
use Rattle.command_set.specs.declared.Command.TheVariants as commands
use Rattle.command_set.specs.declared.Script.{Script}
use Rattle.command_set.specs.declared.Set.{Set}
use Rattle.script_words.specs.Lines.{lines, content, words}
use Rattle.script_words.specs.Words.{counted}
use Rattle.script_words.specs.Items.{passage_turns}
use Rattle.script_words.specs.Reading.{◌>>=◌}
use Rattle.script_words.specs.declared.fault.LineFault.{LineFault}
use Rattle.script_words.specs.declared.fault.LineFault.TheVariants.{UnknownWord, OutOfPlace, TooMany}
use Rattle.script_text.specs.Commands.{command_in}
use Rattle.script_text.specs.Forms.{form_in, ids_line, table_line, go_line, loop_line}
use Rattle.script_text.specs.declared.fault.ScriptFault.{ScriptFault}
use Rattle.script_text.specs.declared.fault.ScriptFault.TheVariants.{BadScript, Memory}
use Rattle.script_text.specs.declared.forms.Form.{Form}
use Rattle.script_text.specs.declared.forms.Form.TheVariants as forms
use Rattle.script_text.specs.declared.forms.Part.{Part}
use Rattle.script_text.specs.declared.forms.Part.TheVariants.{Range, Tables, Sessions, Schedule}
use Rattle.script_text.specs.declared.forms.Line.{Line}
use Rattle.script_text.specs.declared.forms.Line.TheVariants as line

-- what was read so far: its script, the part of the last line, and whether there was an `ids` line
pub record Read : Type 0 where
  pub script : Script
  pub part : Part
  pub has_ids : Bool

-- the script of no lines
abbrev pub empty_script : Script
empty_script = record { low = 16384; high = 4294967295; schemas = []; sessions = []; schedule = [] }

-- before the first line
abbrev pub nothing_read : Read
nothing_read = record { script = empty_script; part = Range; has_ids = false }

-- whether a list has no items
abbrev pub is_none_of : {A : Type 0} → List A → Bool
is_none_of [] = true
is_none_of (x ∷ xs) = false

-- the part that a line of this form belongs to
abbrev pub part_of : Form → Part
part_of forms.Ids = Range
part_of forms.Table = Tables
part_of forms.Session = Sessions
part_of (forms.Command form) = Sessions
part_of forms.Go = Schedule
part_of forms.Loop = Schedule

-- the place of a part in a script, from 0
abbrev pub place_of : Part → ℕ
place_of Range = 0
place_of Tables = 1
place_of Sessions = 2
place_of Schedule = 3

-- whether there may be a line of this form: a second `ids` line may not, and a command needs a session
abbrev pub is_free : Read → Form → Bool
is_free read forms.Ids = not read.has_ids
is_free read (forms.Command form) = not (is_none_of read.script.sessions)
is_free read form = true

-- whether a line of this form may stand next: there may be one, and no line of a later part has stood before
abbrev pub is_placed : Read → Form → Bool
is_placed read form = nat_le (place_of read.part) (place_of (part_of form)) && is_free read form

-- what a line of this form says, by the words after its first
unfoldable pub line_in : Script → Form → List (List ℕ) → Result Line LineFault
line_in script forms.Ids words = ids_line words >>= λ range. Ok (line.Ids range.0 range.1)
line_in script forms.Table words = table_line words >>= λ schema. Ok (line.Table schema)
line_in script forms.Session words = counted 0 words >>= λ _. Ok line.Session
line_in script (forms.Command form) words = command_in script.schemas form words >>= λ command. Ok (line.Command command)
line_in script forms.Go words = go_line (length script.sessions) words >>= λ passage. Ok (line.Passage passage)
line_in script forms.Loop words = loop_line (length script.sessions) words >>= λ passage. Ok (line.Passage passage)

-- the sessions with a command at the end of the last one
abbrev pub with_command : Command → List (List Command) → List (List Command)
with_command command [] = []
with_command command (session ∷ []) = (session ++ command ∷ []) ∷ []
with_command command (session ∷ next ∷ sessions) = session ∷ with_command command (next ∷ sessions)

-- the script with one more line
abbrev pub with_line : Script → Line → Script
with_line script (line.Ids low high) = record script { low = low; high = high }
with_line script (line.Table schema) = record script { schemas = script.schemas ++ schema ∷ [] }
with_line script line.Session = record script { sessions = script.sessions ++ [] ∷ [] }
with_line script (line.Command command) = record script { sessions = with_command command script.sessions }
with_line script (line.Passage passage) = record script { schedule = script.schedule ++ passage ∷ [] }

-- how many bytes a value has
abbrev pub value_bytes : Option (List ℕ) → ℕ
value_bytes None = 0
value_bytes (Some bytes) = length bytes

-- how many bytes the value has that an update sets
abbrev pub set_bytes : Set → ℕ
set_bytes set = value_bytes set.value

-- how many bytes the values of a command have
abbrev pub command_bytes : Command → ℕ
command_bytes (commands.Insert table key row) = sum_by value_bytes row
command_bytes (commands.Update table key sets) = sum_by set_bytes sets
command_bytes (commands.Rekey table key to sets) = sum_by set_bytes sets
command_bytes (commands.Begin level) = 0
command_bytes commands.Commit = 0
command_bytes commands.Rollback = 0
command_bytes (commands.Get table key) = 0
command_bytes (commands.Part table key column offset len) = 0
command_bytes (commands.Open handle table key column) = 0
command_bytes (commands.Fetch handle offset len) = 0
command_bytes (commands.Close handle) = 0
command_bytes (commands.Delete table key) = 0
command_bytes (commands.VacuumMain table) = 0
command_bytes (commands.VacuumToast table) = 0
command_bytes (commands.Rewrite table) = 0

-- how many commands a script has
abbrev pub command_count : Script → ℕ
command_count script = sum_by length script.sessions

-- how many bytes its values have
abbrev pub byte_count : Script → ℕ
byte_count script = sum_by (λ session. sum_by command_bytes session) script.sessions

-- how many turns its schedule is
abbrev pub turn_count : Script → ℕ
turn_count script = sum_by passage_turns script.schedule

-- whether a script is within all limits
abbrev pub is_within : Script → Bool
is_within script =
    nat_le (length script.schemas) 16 && nat_le (length script.sessions) 64 && nat_le (command_count script) 10000
    && nat_le (byte_count script) 67108864 && nat_le (turn_count script) 10000000

-- a script that is within all limits
abbrev pub limited : Script → Result Script LineFault
limited script = if is_within script then Ok script else Err TooMany

-- whether a line of this form is an `ids` line
abbrev pub is_ids : Form → Bool
is_ids forms.Ids = true
is_ids form = false

-- what was read after a line of this form, which made this script
abbrev pub read_by : Read → Form → Script → Read
read_by read form script = record { script = script; part = part_of form; has_ids = read.has_ids || is_ids form }

-- what was read with a line of this form, or the first cause against it: its place, then its words, then the limits
abbrev pub with_form : Read → Form → List (List ℕ) → Result Read LineFault
with_form read form words =
    if is_placed read form
    then (line_in read.script form words >>= λ line. limited (with_line read.script line) >>= λ script. Ok (read_by read form script))
    else Err OutOfPlace

-- the same, where there may be no such form
abbrev pub with_known : Read → Option Form → List (List ℕ) → Result Read LineFault
with_known read None words = Err UnknownWord
with_known read (Some form) words = with_form read form words

-- what was read with a line of these words; one without words is skipped
unfoldable pub with_words : Read → List (List ℕ) → Result Read LineFault
with_words read [] = Ok read
with_words read (first ∷ words) = with_known read (form_in first) words

-- the number of the next line; 4,294,967,295 stands for all lines from there on
abbrev pub next_number : ℕ → ℕ
next_number n = min (n + 1) 4294967295

-- what goes on from a line with this number: its fault, or the lines after it
abbrev pub goes_on : ℕ → Result Read LineFault → (Read → Result Script ScriptFault) → Result Script ScriptFault
goes_on n (Ok read) more = more read
goes_on n (Err cause) more = Err (BadScript n cause)

-- the script after these lines, the first of which has this number, or the first bad line and its cause
unfoldable pub after_lines : ℕ → Read → List (List ℕ) → Result Script ScriptFault
after_lines n read [] = Ok read.script
after_lines n read (line ∷ lines) = goes_on n (with_words read (words (content line))) (λ next. after_lines (next_number n) next lines)

-- the script that the bytes spell, or the first bad line and its cause
unfoldable pub script_in : List ℕ → Result Script ScriptFault
script_in bytes = after_lines 1 nothing_read (lines bytes)

-- what was parsed is what the bytes spell, script or fault; want of memory says nothing
abbrev pub Tells : Result Script ScriptFault → Result Script ScriptFault → Type 0
Tells (Ok script) spelled = spelled ≡ Ok script
Tells (Err (BadScript n cause)) spelled = spelled ≡ Err (BadScript n cause)
Tells (Err Memory) spelled = Unit {0}
