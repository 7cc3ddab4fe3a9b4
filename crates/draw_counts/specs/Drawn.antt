-- What holds between a core and the journal of what came of its commands.
use Rattle.std.specs.Prelude.{List, Option, Some, length, slice_get, take, ℕ, ◌+◌, ◌-◌, ◌≡◌, ◌≤◌, ⊤}
use Rattle.command_set.specs.Answers.{table_of}
use Rattle.command_set.specs.Journals.{command_at, moments, run_of, told_of}
use Rattle.command_set.specs.declared.Command.{Command}
use Rattle.command_set.specs.declared.Kind.TheVariants as kinds
use Rattle.command_set.specs.declared.JournalEntry.{JournalEntry}
use Rattle.command_set.specs.declared.Script.{Script}
use Rattle.core_state.specs.Facts.{IsSound, PartsAreSound}
use Rattle.core_state.specs.State.{CoreState, seat_of}
use Rattle.core_state.specs.declared.seat.Job.{Job}
use Rattle.core_draws.specs.Draws.{draws_counted}
use Rattle.change_stream.specs.Streams.{Stream, first_stream, stream_through}
use Rattle.core_outs.specs.Counts.{draw_count}
use Rattle.core_outs.specs.Laws.{StreamOuts}
use Rattle.core_state.specs.declared.seat.Job.TheVariants as jobs

-- what is told after a journal's moments
abbrev pub stream_at : Script → List JournalEntry → Stream
stream_at script journal = stream_through script (first_stream (length script.sessions)) (moments script journal)

-- each entry that tells of a refused draw stands where the draw count of its command's table has reached the number of ids
pub record ReachesIds (script : Script) (journal : List JournalEntry) : Type 0 where
  pub each : (i : ℕ) (e : JournalEntry) (command : Command) (t : ℕ) → slice_get journal i ≡ Some e → e.kind ≡ kinds.NoValueId → command_at script e.session e.number ≡ Some command → table_of command ≡ Some t
      → script.high - script.low + 1 ≤ draw_count script (take i journal) t

-- a write under way is on the table of this command
abbrev pub IsOfTable : Option ℕ → Job → Type 0
IsOfTable table jobs.Idle = ⊤
IsOfTable table (jobs.Submitted command) = ⊤
IsOfTable table (jobs.Reading t snapshot read) = ⊤
IsOfTable table (jobs.Writing t write) = table ≡ Some t

-- the core is sound, it has the script's ids, its columns are out of line as the journal's stream tells, and of each table the ids in use and the draws that are owed are no more than the draw count
pub record IsDrawn (script : Script) (core : CoreState) (journal : List JournalEntry) : Type 0 where
  pub sound : IsSound core
  pub parts : PartsAreSound core
  pub low : core.ids.low ≡ script.low
  pub high : core.ids.high ≡ script.high
  pub outs : StreamOuts core (stream_at script journal)
  pub counted : (t : ℕ) → draws_counted core t ≤ draw_count script journal t
  -- a session's write is that of its last command
  pub tables : (s : ℕ) (command : Command) → 1 ≤ s → command_at script s (told_of (run_of script journal) s).begun ≡ Some command → IsOfTable (table_of command) (seat_of core s).job
  pub reached : ReachesIds script journal
