-- What each turn of a core, and the entry that tells of it, make of the draws that are counted.
use Rattle.std.specs.Prelude.{List, Option, Some, [], length, true, ℕ, ◌++◌, ◌-◌, ◌<◌, ◌∷◌, ◌≡◌, ◌≢◌, ◌⊎◌}
use Rattle.command_set.specs.Journals.{command_at, run_of, told_of}
use Rattle.command_set.specs.declared.Command.{Command}
use Rattle.command_set.specs.declared.JournalEntry.{JournalEntry}
use Rattle.command_set.specs.declared.Kind.{Kind}
use Rattle.command_set.specs.declared.Kind.TheVariants as kinds
use Rattle.command_set.specs.declared.Reply.{Reply}
use Rattle.command_set.specs.declared.Script.{Script}
use Rattle.write_steps.specs.Writes.{Writing}
use Rattle.core_state.specs.Commands.{IsFitting}
use Rattle.core_state.specs.Events.{Event}
use Rattle.core_state.specs.Facts.{IsSound, PartsAreSound}
use Rattle.core_state.specs.Lines.{after_failing, after_submit}
use Rattle.core_state.specs.Moves.{OthersStay, Runs}
use Rattle.core_state.specs.Stands.{Stands}
use Rattle.core_state.specs.State.{CoreState, IsSession, is_past_moment, schemas_of, seat_of}
use Rattle.core_state.specs.declared.advance.Advance.{Advance}
use Rattle.core_parts.specs.First.{first_core}
use Rattle.core_events.specs.Advanced.{FailsBy}
use Rattle.draw_counts.specs.Drawn.{IsDrawn}
use Rattle.command_set.specs.declared.Reply.TheVariants as replies
use Rattle.core_state.specs.declared.advance.Advance.TheVariants as advances
use Rattle.core_state.specs.declared.seat.Job.TheVariants as jobs

-- the entry of a session's command
abbrev pub entry_of : ℕ → ℕ → Kind → JournalEntry
entry_of s n kind = record { session = s; number = n; kind = kind }

-- a session of a core of a script, at a journal's end
pub record IsAt (script : Script) (core : CoreState) (journal : List JournalEntry) (s : ℕ) : Type 0 where
  pub there : IsSession core.seats s
  pub schemas : script.schemas ≡ schemas_of core.tables
  pub seats : length core.seats ≡ length script.sessions
  pub told : length (run_of script journal).told ≡ length script.sessions
  pub drawn : IsDrawn script core journal

-- it has nothing under way, and is to begin a command
pub record IsNext (script : Script) (core : CoreState) (journal : List JournalEntry) (s n : ℕ) (command : Command) : Type 0 where
  pub at : IsAt script core journal s
  pub idle : (seat_of core s).job ≡ jobs.Idle
  pub is : command_at script s n ≡ Some command
  pub fits : IsFitting (schemas_of core.tables) command
  -- the core stands for the plain store's state at the journal's end
  pub replies : List (Option Reply)
  pub answered : s - 1 < length replies
  pub stands : Stands core (run_of script journal).plain replies

-- it has a command under way past its moment
pub record IsOn (script : Script) (core : CoreState) (journal : List JournalEntry) (s n : ℕ) (command : Command) : Type 0 where
  pub at : IsAt script core journal s
  pub past : is_past_moment (seat_of core s).job ≡ true
  pub is : command_at script s n ≡ Some command
  pub last : n ≡ (told_of (run_of script journal) s).begun

-- what a turn leaves
pub record IsLeft (core : CoreState) (s : ℕ) (new : CoreState) : Type 0 where
  pub sound : IsSound new
  pub parts : PartsAreSound new
  pub others : OthersStay core s new

pub record DrawnKeeps : Type 0 where
  -- before the first turn
  pub first : (script : Script) → IsSound (first_core script.schemas script.low script.high (length script.sessions)) → PartsAreSound (first_core script.schemas script.low script.high (length script.sessions))
      → IsDrawn script (first_core script.schemas script.low script.high (length script.sessions)) []
  -- a command's moment, and want of memory for it
  pub run : (script : Script) (core : CoreState) (journal : List JournalEntry) (s n : ℕ) (command : Command) (new : CoreState) (advance : Advance) → IsNext script core journal s n command → Event (after_submit core s command) s new advance → Runs core s command new advance
      → IsLeft core s new → IsDrawn script new (journal ++ entry_of s n kinds.Run ∷ [])
  pub wants : (script : Script) (core : CoreState) (journal : List JournalEntry) (s n : ℕ) (command : Command) (new : CoreState) → IsNext script core journal s n command → (new ≡ after_failing core s) ⊎ FailsBy (after_submit core s command) s new
      → IsLeft core s new → IsDrawn script new (journal ++ entry_of s n kinds.Memory ∷ [])
  -- a later step, a draw that is refused, and want of memory
  pub steps : (script : Script) (core : CoreState) (journal : List JournalEntry) (s n : ℕ) (command : Command) (new : CoreState) (advance : Advance) → IsOn script core journal s n command → Event core s new advance → advance ≢ advances.Done replies.NoValueId
      → IsLeft core s new → IsDrawn script new journal
  pub refused : (script : Script) (core : CoreState) (journal : List JournalEntry) (s n : ℕ) (command : Command) (new : CoreState) (t : ℕ) (write : Writing) → IsOn script core journal s n command → (seat_of core s).job ≡ jobs.Writing t write
      → Event core s new (advances.Done replies.NoValueId) → IsLeft core s new → IsDrawn script new (journal ++ entry_of s n kinds.NoValueId ∷ [])
  pub cut : (script : Script) (core : CoreState) (journal : List JournalEntry) (s n : ℕ) (command : Command) (new : CoreState) → IsOn script core journal s n command → FailsBy core s new
      → IsLeft core s new → IsDrawn script new (journal ++ entry_of s n kinds.Memory ∷ [])
