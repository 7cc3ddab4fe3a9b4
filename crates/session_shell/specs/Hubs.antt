-- What a hub holds, and what is true of every hub: the fact of its type.
use Rattle.std.specs.Prelude.{◌≡◌, ℕ, ◌-◌, ◌*◌, ◌≤◌, Bool, true, false, ◌&&◌, List, [], Option, Some, None, length, map as mapped, slice_get, slice_index_or, slice_set, ◌==◌, if◌then◌else◌}
use Rattle.std.specs.List.{sum_by}
use Rattle.std.specs.Option.{option_map, option_map_or, unwrap_or}
use Rattle.command_set.specs.Plain.{nth}
use Rattle.command_set.specs.Replies.{is_granted}
use Rattle.command_set.specs.declared.journal.Line.{Line}
use Rattle.command_set.specs.declared.journal.Run.{Run}
use Rattle.command_set.specs.declared.journal.Told.{Told}
use Rattle.command_set.specs.Journals.{run_of, told_of, command_at, is_legal, is_data, is_under_way, writes_values}
use Rattle.command_set.specs.declared.Script.{Script}
use Rattle.command_set.specs.declared.Item.{Item}
use Rattle.command_set.specs.declared.Item.TheVariants as items
use Rattle.command_set.specs.declared.Passage.{Passage}
use Rattle.command_set.specs.declared.Command.{Command}
use Rattle.command_set.specs.declared.Command.TheVariants as commands
use Rattle.command_set.specs.declared.JournalEntry.{JournalEntry}
use Rattle.command_set.specs.declared.Kind.{Kind}
use Rattle.command_set.specs.declared.Kind.TheVariants as kinds
use Rattle.command_set.specs.declared.Reply.{Reply}
use Rattle.script_text.specs.Scripts.{command_count}
use Rattle.write_steps.specs.declared.stage.WriteStage.{WriteStage}
use Rattle.write_steps.specs.declared.stage.WriteStage.TheVariants as stages
use Rattle.core_state.specs.Commands.{IsFitting}
use Rattle.core_state.specs.Stands.{Stands}
use Rattle.core_state.specs.State.{CoreState, is_past_moment, schemas_of, seat_of}
use Rattle.core_state.specs.declared.seat.Job.{Job}
use Rattle.core_state.specs.declared.seat.Job.TheVariants as jobs
use Rattle.session_shell.specs.declared.hub.KeptLine.{KeptLine}
use Rattle.session_shell.specs.declared.hub.Progress.{Progress}

-- a hub: its script, the store, the journal so far, and the printed lines so far
pub record HubState : Type 0 where
  pub script : Script
  pub core : CoreState
  pub journal : List JournalEntry
  pub kept : List KeptLine

abbrev pub hub_of : Script → CoreState → List JournalEntry → List KeptLine → HubState
hub_of script core journal kept = record { script = script; core = core; journal = journal; kept = kept }

-- whether a session's command is past its moment
abbrev pub is_past : CoreState → ℕ → Bool
is_past core s = is_past_moment (seat_of core s).job

-- a session's number is one of the script's
pub record IsSessionOf (script : Script) (s : ℕ) : Type 0 where
  pub from_one : 1 ≤ s
  pub within : s ≤ length script.sessions

-- the session of an item of the schedule
abbrev pub session_in : Item → ℕ
session_in (items.Once s) = s
session_in (items.Times s count) = s
session_in (items.Whole s) = s

-- a script keeps the rules of its grammar, and its commands are ones that the core takes
pub record IsScript (script : Script) : Type 0 where
  pub low : 16384 ≤ script.low
  pub high : script.low ≤ script.high
  pub tables : length script.schemas ≤ 16
  pub sessions : length script.sessions ≤ 64
  pub commands : command_count script ≤ 10000
  pub fits : (s n : ℕ) (command : Command) → command_at script s n ≡ Some command → IsFitting script.schemas command
  pub items : (i j : ℕ) (passage : Passage) (item : Item) → slice_get script.schedule i ≡ Some passage → slice_get passage.items j ≡ Some item → IsSessionOf script (session_in item)

-- the commands of a session, from 1
abbrev pub commands_of : Script → ℕ → List Command
commands_of script s = unwrap_or (nth script.sessions s) []

-- whether a command answers with what it reads
abbrev pub is_read : Command → Bool
is_read (commands.Get table key) = true
is_read (commands.Part table key column offset len) = true
is_read (commands.Fetch handle offset len) = true
is_read command = false

-- whether a command takes one step, granted or not
abbrev pub is_one_step : Command → Bool
is_one_step (commands.Begin level) = true
is_one_step commands.Commit = true
is_one_step commands.Rollback = true
is_one_step (commands.Open handle table key column) = true
is_one_step (commands.Close handle) = true
is_one_step command = false

-- whether a write saves a value
abbrev pub is_at_save : WriteStage → Bool
is_at_save (stages.Saving old new plan at save) = true
is_at_save stage = false

-- whether a job is a write that saves a value, and so may be refused an id
abbrev pub is_saving : Job → Bool
is_saving (jobs.Writing table write) = is_at_save write.stage
is_saving job = false

-- what each session's last moment answered
abbrev pub replies_of : Run → List (Option Reply)
replies_of run = mapped (λ told. told.reply) run.told

-- whether a line is that of a read under way
abbrev pub is_of_read_under_way : Script → Run → CoreState → Line → Bool
is_of_read_under_way script run core line =
    (line.number == (told_of run line.session).begun) && (is_past_moment (seat_of core line.session).job && option_map_or is_read (command_at script line.session line.number) false)

-- a printed line as the hub keeps it: the line of a read under way has no reply before the read's end
abbrev pub kept_of : Script → Run → CoreState → Line → KeptLine
kept_of script run core line = record {
  session = line.session;
  number = line.number;
  reply = if is_of_read_under_way script run core line then None else Some line.reply;
}

-- how far a session is that has begun nothing
abbrev pub at_start : Progress
at_start = record { begun = 0; entry = 0; line = 0 }

-- how far a session is, from 1
abbrev pub progress_of : List Progress → ℕ → Progress
progress_of progress s = slice_index_or progress (s - 1) at_start

-- a session's last entry is the granted Run of a command that goes on with this job
pub record IsBusy (script : Script) (s : ℕ) (told : Told) (job : Job) : Type 0 where
  pub begun : 1 ≤ told.begun
  pub last : told.last ≡ Some kinds.Run
  pub reply : Reply
  pub answered : told.reply ≡ Some reply
  pub granted : is_granted reply ≡ true
  pub command : Command
  pub there : command_at script s told.begun ≡ Some command
  pub for_rows : is_data command ≡ true
  pub steps : is_one_step command ≡ false
  pub values : is_saving job ≡ true → writes_values command ≡ true

-- a session is busy exactly where the core has a command of it under way, and then the command has passed its moment
abbrev pub IsBusyBy : Script → ℕ → Told → Job → Type 0
IsBusyBy script s told jobs.Idle = Unit {0}
IsBusyBy script s told (jobs.Submitted command) = ⊥
IsBusyBy script s told (jobs.Reading table snapshot read) = IsBusy script s told (jobs.Reading table snapshot read)
IsBusyBy script s told (jobs.Writing table write) = IsBusy script s told (jobs.Writing table write)

-- at this place stands the only line of a session's last command that has begun
pub record IsLine (lines : List Line) (at s : ℕ) (told : Told) : Type 0 where
  pub reply : Reply
  pub there : slice_get lines at ≡ Some (record { session = s; number = told.begun; reply = reply })
  pub answered : told.last ≡ Some kinds.Run → told.reply ≡ Some reply
  pub only : (k : ℕ) (line : Line) → slice_get lines k ≡ Some line → line.session ≡ s → line.number ≡ told.begun → k ≡ at

-- at this place stands a session's last entry, which is one of its command of this number
pub record IsLastEntry (journal : List JournalEntry) (at s number : ℕ) : Type 0 where
  pub kind : Kind
  pub there : slice_get journal at ≡ Some (record { session = s; number = number; kind = kind })
  pub last : (k : ℕ) (e : JournalEntry) → slice_get journal k ≡ Some e → e.session ≡ s → k ≤ at

-- what is true of a session, by its number
pub record SessionIs (script : Script) (journal : List JournalEntry) (lines : List Line) (s : ℕ) (told : Told) (job : Job) (progress : Progress) : Type 0 where
  pub begun : progress.begun ≡ told.begun
  pub within : told.begun ≤ length (commands_of script s)
  pub busy : IsBusyBy script s told job
  pub quiet : is_under_way told ≡ false
  pub below : (k : ℕ) (line : Line) → slice_get lines k ≡ Some line → line.session ≡ s → line.number ≤ told.begun
  pub line : 1 ≤ told.begun → IsLine lines progress.line s told
  pub entry : 1 ≤ told.begun → IsLastEntry journal progress.entry s told.begun
  pub kind : (kind : Kind) → told.last ≡ Some kind → slice_get journal progress.entry ≡ Some (record { session = s; number = told.begun; kind = kind })

-- the most entries that a session's commands have so far
abbrev pub most_entries_by : ℕ → Option Kind → ℕ
most_entries_by begun None = 0
most_entries_by begun (Some kinds.Run) = 2 * begun - 1
most_entries_by begun (Some kind) = 2 * begun

-- the same, as a journal tells
abbrev pub most_entries : Told → ℕ
most_entries told = most_entries_by told.begun told.last

-- what is true of a hub, where its journal tells this run
pub record Keeps (script : Script) (core : CoreState) (journal : List JournalEntry) (kept : List KeptLine) (progress : List Progress) (run : Run) : Type 0 where
  pub rules : IsScript script
  pub schemas : schemas_of core.tables ≡ script.schemas
  pub seats : length core.seats ≡ length script.sessions
  pub told : length run.told ≡ length script.sessions
  pub places : length progress ≡ length script.sessions
  pub stands : Stands core run.plain (replies_of run)
  pub legal : is_legal script journal ≡ true
  pub lines : (k : ℕ) → slice_get kept k ≡ option_map (kept_of script run core) (slice_get run.lines k)
  pub from_one : (k : ℕ) (line : Line) → slice_get run.lines k ≡ Some line → 1 ≤ line.session
  pub each : (s : ℕ) → 1 ≤ s → s ≤ length script.sessions → SessionIs script journal run.lines s (told_of run s) (seat_of core s).job (progress_of progress s)
  pub entries : length journal ≤ sum_by most_entries run.told
  pub fewer : length run.lines ≤ length journal

-- what a hub's journal tells of the hub: the core stands for the state at its end, it is legal, and its printed lines are kept
pub record TellsHub (hub : HubState) : Type 0 where
  pub stands : Stands hub.core (run_of hub.script hub.journal).plain (replies_of (run_of hub.script hub.journal))
  pub legal : is_legal hub.script hub.journal ≡ true
  pub lines : (k : ℕ) → slice_get hub.kept k ≡ option_map (kept_of hub.script (run_of hub.script hub.journal) hub.core) (slice_get (run_of hub.script hub.journal).lines k)

-- the last entry of a session is the Run of a command of more than one step, which was granted
pub record LastIsRun (hub : HubState) (s : ℕ) : Type 0 where
  pub at : ℕ
  pub number : ℕ
  pub there : slice_get hub.journal at ≡ Some (record { session = s; number = number; kind = kinds.Run })
  pub last : (k : ℕ) (e : JournalEntry) → slice_get hub.journal k ≡ Some e → e.session ≡ s → k ≤ at
  pub reply : Reply
  pub answered : (told_of (run_of hub.script hub.journal) s).reply ≡ Some reply
  pub granted : is_granted reply ≡ true
  pub command : Command
  pub is : command_at hub.script s number ≡ Some command
  pub steps : is_one_step command ≡ false

-- what is true of every hub: the core stands for the state at the journal's end, the journal is legal, and the kept lines are the printed ones
abbrev pub IsHub : HubState → List Progress → Type 0
IsHub hub progress = Keeps hub.script hub.core hub.journal hub.kept progress (run_of hub.script hub.journal)

-- how far the sessions are once one has begun its command of this number, whose entry and line come behind these
abbrev pub with_begun : List Progress → ℕ → ℕ → List JournalEntry → List KeptLine → List Progress
with_begun progress s number journal kept = slice_set progress (s - 1) (record { begun = number; entry = length journal; line = length kept })
