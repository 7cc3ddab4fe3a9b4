-- How many turns the command of each session still takes at least, turn by turn.
use Rattle.std.specs.Prelude.{Bool, List, None, Option, Some, [], false, if◌then◌else◌, length, replicate, slice_index_or, slice_set, true, ℕ, ◌&&◌, ◌+◌, ◌-◌, ◌∷◌, ◌≡◌, ◌≤◌}
use Rattle.command_set.specs.Answers.{answer}
use Rattle.command_set.specs.Journals.{command_at, is_run, run_on}
use Rattle.command_set.specs.Replies.{is_granted}
use Rattle.command_set.specs.declared.Command.{Command}
use Rattle.command_set.specs.declared.JournalEntry.{JournalEntry}
use Rattle.command_set.specs.declared.Script.{Script}
use Rattle.command_set.specs.declared.journal.Run.{Run}
use Rattle.core_counts.specs.Counts.{least_turns}
use Rattle.session_shell.specs.Turns.{Ended, Place, TurnMade, after_turn, entry_in, place_of}

-- before the first turn no session owes any
abbrev pub first_owed : Script → List ℕ
first_owed script = replicate (length script.sessions) 0

-- what a session owes, from 1
abbrev pub owed_of : List ℕ → ℕ → ℕ
owed_of owed s = slice_index_or owed (s - 1) 0

-- what a command owes from its first turn on, by that turn's entry: all turns that it takes at least, if its Run grants it. Any other may end at once
abbrev pub due_first : Script → Run → ℕ → Command → Option JournalEntry → ℕ
due_first script run s command None = 0
due_first script run s command (Some e) = if is_run e.kind && is_granted (answer script.schemas run.plain s command).reply then least_turns run.plain s command else 0

abbrev pub due_next : Script → Run → ℕ → Option Command → Option JournalEntry → ℕ
due_next script run s None entry = 0
due_next script run s (Some command) entry = due_first script run s command entry

-- and from a later turn on: what is left of them. One that an entry ends early owes none
abbrev pub due_later : ℕ → Option JournalEntry → ℕ
due_later owed None = owed
due_later owed (Some e) = 0

abbrev pub due_by : Bool → Script → Run → ℕ → ℕ → TurnMade → ℕ
due_by true script run begun owed t = due_later owed t.entry
due_by false script run begun owed t = due_next script run t.session (command_at script t.session (begun + 1)) t.entry

-- what a session owes from one of its turns on, that turn counted
abbrev pub due_at : Script → Run → List Place → List ℕ → TurnMade → ℕ
due_at script run places owed t = due_by (place_of places t.session).under_way script run (place_of places t.session).begun (owed_of owed t.session) t

-- what each session owes after a turn
abbrev pub owed_after : Script → Run → List Place → List ℕ → TurnMade → List ℕ
owed_after script run places owed t = slice_set owed (t.session - 1) (due_at script run places owed t - 1)

-- no command that was granted ends before it has taken as many turns as it takes at least
abbrev pub AreEnough : Script → Run → List Place → List ℕ → List TurnMade → Type 0
AreEnough script run places owed [] = Unit {0}
AreEnough script run places owed (t ∷ ts) = (t.end ≡ Ended → due_at script run places owed t ≤ 1) × AreEnough script (run_on script run (entry_in t.entry)) (after_turn places t) (owed_after script run places owed t) ts
