-- What contracts see of a shared store and of its passes, and what a turn makes of a pass.
use Rattle.std.specs.Prelude.{◌≡◌, ◌≤◌, ◌<◌, ◌+◌, ℕ, ◌%◌, List, [], ◌∷◌, ◌++◌, Option, Some, None, length, true, false}
use mathlib.Core.List.{IsPrefix}
use Rattle.command_set.specs.declared.JournalEntry.{JournalEntry}
use Rattle.command_set.specs.declared.Script.{Script}
use Rattle.command_set.specs.Journals.{has_ended, is_complete, is_legal, run_of, told_of}
use Rattle.turn_hall.specs.Passes.{Entry, HallModel, IsPassOf, PassModel}
use Rattle.session_shell.specs.declared.hub.Turn.{Turn}
use Rattle.session_shell.specs.declared.hub.Turn.TheVariants as turns
use Rattle.session_shell.specs.History.{history_of}
use Rattle.session_shell.specs.Hubs.{HubState, LastIsRun, commands_of}
use Rattle.session_shell.specs.Turns.{MakesTurn}

-- a history is that of a journal that is legal for the script
pub record TellsLegal (script : Script) (history : List Entry) : Type 0 where
  pub journal : List JournalEntry
  pub is : history_of journal ≡ history
  pub legal : is_legal script journal ≡ true

-- a session has gone through its commands, as a history tells
pub record IsDone (script : Script) (s : ℕ) (history : List Entry) : Type 0 where
  pub tells : TellsLegal script history
  pub ended : has_ended (told_of (run_of script tells.journal) s) (length (commands_of script s)) ≡ true

-- so many sessions have, from this one on
pub record AreDoneFrom (script : Script) (from count : ℕ) (history : List Entry) : Type 0 where
  pub each : (s : ℕ) → from ≤ s → s < from + count → IsDone script s history

-- all sessions have: the journal is complete
pub record AreDone (script : Script) (history : List Entry) : Type 0 where
  pub tells : TellsLegal script history
  pub complete : is_complete script tells.journal ≡ true

-- the store gave the pass, which does not hold the hub, and has seen a legal journal of the store's script
pub record IsPassFor (store : HallModel Script) (pass : PassModel Script) : Type 0 where
  pub own : IsPassOf store pass
  pub idle : pass.turn ≡ false
  pub seen : TellsLegal store.fixed pass.seen

-- the position of a turn's entry behind a journal of this length, if the turn has one
abbrev pub positions_of : Option JournalEntry → ℕ → List ℕ
positions_of None n = []
positions_of (Some e) n = n ∷ []

-- with this pass one turn of a session was made, which answered so
pub record SharesTurn (script : Script) (old : PassModel Script) (s : ℕ) (new : PassModel Script) (turn : Turn) : Type 0 where
  -- it was a turn of a hub with the store's script, whose journal began with all that the pass had seen
  pub before : HubState
  pub after : HubState
  pub same : before.script ≡ script
  pub begins : IsPrefix old.seen (history_of before.journal)
  pub made : MakesTurn before s after turn
  pub legal : is_legal script after.journal ≡ true
  -- the pass has then seen the journal at the turn's end, and the turn's entry is its own, if it has one
  pub seen : new.seen ≡ history_of after.journal
  pub mine : new.mine ≡ old.mine ++ positions_of made.entry (length before.journal)
  -- the command goes on only where the session's last entry is the granted Run of a command of more than one step
  pub more : turn ≡ turns.More → LastIsRun after s
  -- nothing is left only where the journal has the entries of each of the session's commands
  pub nothing : turn ≡ turns.Nothing → has_ended (told_of (run_of script after.journal) s) (length (commands_of script s)) ≡ true

-- one try was made, which found the hub at home
abbrev pub TriedOnce : PassModel Script → PassModel Script → Type 0
TriedOnce old new = (word : ℕ) × (word % 2 ≡ 0) × (new.tries ≡ old.tries ++ word ∷ [])

-- a legal journal that begins with a complete one is complete
abbrev pub CompleteStays : Type 0
CompleteStays = (script : Script) (seen : List Entry) (journal : List JournalEntry) → AreDone script seen → IsPrefix seen (history_of journal) → is_legal script journal ≡ true → is_complete script journal ≡ true
