-- Turns of a hub: what each adds to the journal, and where it leaves its session.
use Rattle.std.specs.Prelude.{◌≡◌, ◌≢◌, ◌⊎◌, ◌<◌, ◌≤◌, ℕ, ◌+◌, ◌-◌, ◌*◌, Bool, true, false, List, [], ◌∷◌, ◌++◌, Option, Some, None, length, slice_set, slice_index_or, if◌then◌else◌}
use Rattle.command_set.specs.Replies.{is_granted}
use Rattle.command_set.specs.Answers.{answer}
use Rattle.command_set.specs.declared.journal.Run.{Run}
use Rattle.command_set.specs.declared.journal.Told.{Told}
use Rattle.command_set.specs.Journals.{run_of, run_on, told_of, command_at, is_run}
use Rattle.command_set.specs.declared.Script.{Script}
use Rattle.command_set.specs.declared.Command.{Command}
use Rattle.command_set.specs.declared.JournalEntry.{JournalEntry}
use Rattle.command_set.specs.declared.Kind.TheVariants as kinds
use Rattle.command_set.specs.declared.Kind.{Kind}
use Rattle.command_set.specs.declared.Reply.{Reply}
use Rattle.command_set.specs.declared.Reply.TheVariants as replies
use Rattle.core_state.specs.Events.{Event}
use Rattle.core_state.specs.Lines.{after_failing, after_submit}
use Rattle.core_state.specs.Moves.{OthersStay, Runs, StandsOn}
use Rattle.core_state.specs.Stands.{Stands}
use Rattle.core_state.specs.State.{CoreState, IsSession, is_past_moment, schemas_of, seat_of}
use Rattle.core_state.specs.declared.advance.Advance.{Advance}
use Rattle.core_state.specs.declared.advance.Advance.TheVariants as advances
use Rattle.core_state.specs.declared.seat.Seat.{Seat}
use Rattle.core_events.specs.Advanced.{FailsBy}
use Rattle.core_parts.specs.First.{first_core}
use Rattle.draw_counts.specs.Drawn.{IsDrawn}
use Rattle.script_text.specs.Scripts.{command_count}
use Rattle.toast_core.specs.Cores.{IsCore}
use Rattle.session_shell.specs.declared.hub.Turn.{Turn}
use Rattle.session_shell.specs.declared.hub.Turn.TheVariants as turns
use Rattle.session_shell.specs.declared.hub.Progress.{Progress}
use Rattle.session_shell.specs.Hubs.{HubState, IsHub, IsLastEntry, is_one_step, replies_of}

-- how a turn ends: no command was left, the command goes on, or the command is over
pub data End : Type 0 where
  Nothing : End
  More : End
  Ended : End

-- a turn: its session, the entry that it adds, if any, and how it ends
pub record TurnMade : Type 0 where
  pub session : ℕ
  pub entry : Option JournalEntry
  pub end : End

-- where a session is: how many of its commands have begun, and whether the last of these is under way
pub record Place : Type 0 where
  pub begun : ℕ
  pub under_way : Bool

-- where a session is that has begun nothing
abbrev pub at_start : Place
at_start = record { begun = 0; under_way = false }

-- where a session is, from 1
abbrev pub place_of : List Place → ℕ → Place
place_of places s = slice_index_or places (s - 1) at_start

-- a place once the next command has begun, unless one is under way
abbrev pub begun_after : Place → ℕ
begun_after place = if place.under_way then place.begun else place.begun + 1

-- a place after a turn that ends so
abbrev pub place_after : Place → End → Place
place_after place Nothing = place
place_after place More = record { begun = begun_after place; under_way = true }
place_after place Ended = record { begun = begun_after place; under_way = false }

-- the places after a turn
abbrev pub after_turn : List Place → TurnMade → List Place
after_turn places t = slice_set places (t.session - 1) (place_after (place_of places t.session) t.end)

-- the places after these turns
abbrev pub after_turns : List Place → List TurnMade → List Place
after_turns places [] = places
after_turns places (t ∷ ts) = after_turns (after_turn places t) ts

-- the entry as a list
abbrev pub entry_in : Option JournalEntry → List JournalEntry
entry_in None = []
entry_in (Some e) = e ∷ []

-- the entries of turns, in order
abbrev pub entries_of : List TurnMade → List JournalEntry
entries_of [] = []
entries_of (t ∷ ts) = entry_in t.entry ++ entries_of ts

-- a turn where no command is left does nothing
pub record Rests (t : TurnMade) : Type 0 where
  pub entry : t.entry ≡ None
  pub end : t.end ≡ Nothing

-- a turn that begins a command has the command's first entry; it goes on only after a moment that granted it, and only if it takes more than one step
pub record Begins (script : Script) (run : Run) (place : Place) (t : TurnMade) (command : Command) : Type 0 where
  pub entry : JournalEntry
  pub is : t.entry ≡ Some entry
  pub session : entry.session ≡ t.session
  pub number : entry.number ≡ place.begun + 1
  pub made : t.end ≢ Nothing
  pub more : t.end ≡ More → (entry.kind ≡ kinds.Run) × (is_granted (answer script.schemas run.plain t.session command).reply ≡ true) × (is_one_step command ≡ false)

-- a later turn of a command has at most an entry that ends it
pub record GoesOn (place : Place) (t : TurnMade) : Type 0 where
  pub made : t.end ≢ Nothing
  pub entry : (e : JournalEntry) → t.entry ≡ Some e → (e.session ≡ t.session) × (e.number ≡ place.begun) × (is_run e.kind ≡ false) × (t.end ≡ Ended)

-- what a turn is that does not go on with a command, by the session's next command
abbrev pub BeginsBy : Script → Run → Place → TurnMade → Option Command → Type 0
BeginsBy script run place t None = Rests t
BeginsBy script run place t (Some command) = Begins script run place t command

-- what a turn is, by whether a command of its session is under way
abbrev pub TurnBy : Bool → Script → Run → Place → TurnMade → Type 0
TurnBy true script run place t = GoesOn place t
TurnBy false script run place t = BeginsBy script run place t (command_at script t.session (place.begun + 1))

-- what a turn is, where its session is at this place
abbrev pub IsTurn : Script → Run → Place → TurnMade → Type 0
IsTurn script run place t = TurnBy place.under_way script run place t

-- these are turns, one after another
abbrev pub AreTurns : Script → Run → List Place → List TurnMade → Type 0
AreTurns script run places [] = Unit {0}
AreTurns script run places (t ∷ ts) = IsTurn script run (place_of places t.session) t × AreTurns script (run_on script run (entry_in t.entry)) (after_turn places t) ts

-- where each session is, by what is told of it and by its seat
abbrev pub places_by : List Told → List Seat → List Place
places_by [] seats = []
places_by (told ∷ tolds) [] = []
places_by (told ∷ tolds) (seat ∷ seats) = record { begun = told.begun; under_way = is_past_moment seat.job } ∷ places_by tolds seats

-- where each session of a hub is
abbrev pub places_in : HubState → List Place
places_in hub = places_by (run_of hub.script hub.journal).told hub.core.seats

-- ---- one event of the core

-- an event of a session, in a core of which is true what is of every core
pub record MakesEvent (old : CoreState) (s : ℕ) (new : CoreState) (advance : Advance) : Type 0 where
  pub sound : IsCore old
  pub event : Event old s new advance

-- a command was submitted, and its moment came: what it is to the plain store, and the event that was made
pub record MakesFirst (old : CoreState) (s : ℕ) (command : Command) (new : CoreState) (advance : Advance) : Type 0 where
  pub runs : Runs old s command new advance
  pub stands : StandsOn old (after_submit old s command)
  pub event : MakesEvent (after_submit old s command) s new advance

-- a moment after which its command goes on, or is over
abbrev pub MomentEnds : End → CoreState → ℕ → Command → CoreState → Type 0
MomentEnds Nothing old s command new = ⊥
MomentEnds More old s command new = MakesFirst old s command new advances.More
MomentEnds Ended old s command new = (reply : Reply) × MakesFirst old s command new (advances.Done reply)

-- memory is wanting to submit a command, or for its first event: the session's transaction has failed
abbrev pub FailsFirst : CoreState → ℕ → Command → CoreState → Type 0
FailsFirst old s command new = (new ≡ after_failing old s) ⊎ FailsBy (after_submit old s command) s new

-- a command is submitted, and its moment is made; or memory is wanting for one of the two, and the session's transaction has failed
abbrev pub EventFirst : Kind → End → CoreState → ℕ → Command → CoreState → Type 0
EventFirst kinds.Run end old s command new = MomentEnds end old s command new
EventFirst kinds.Memory end old s command new = FailsFirst old s command new
EventFirst kind end old s command new = ⊥

-- a step by which a command ends early: a draw that finds every id in use, or one for which memory is wanting
abbrev pub EventCut : Kind → CoreState → ℕ → CoreState → Type 0
EventCut kinds.NoValueId old s new = MakesEvent old s new (advances.Done replies.NoValueId)
EventCut kinds.Memory old s new = FailsBy old s new
EventCut kind old s new = ⊥

-- a step that ends its command with the reply of its moment
pub record EventLast (old : CoreState) (s : ℕ) (new : CoreState) : Type 0 where
  pub reply : Reply
  pub other : reply ≢ replies.NoValueId
  pub event : MakesEvent old s new (advances.Done reply)

-- a step of the command under way, by the entry of its turn, if there is one
abbrev pub EventLater : Option JournalEntry → End → CoreState → ℕ → CoreState → Type 0
EventLater None Nothing old s new = ⊥
EventLater None More old s new = MakesEvent old s new advances.More
EventLater None Ended old s new = EventLast old s new
EventLater (Some e) end old s new = EventCut e.kind old s new

-- the same of the turn that begins a command, whose entry tells of its moment
abbrev pub EventBegins : Option JournalEntry → End → CoreState → ℕ → Command → CoreState → Type 0
EventBegins None end old s command new = ⊥
EventBegins (Some e) end old s command new = EventFirst e.kind end old s command new

-- the same of a turn that does not go on with a command, by the session's next command
abbrev pub EventNext : Option Command → TurnMade → CoreState → CoreState → Type 0
EventNext None t old new = new ≡ old
EventNext (Some command) t old new = EventBegins t.entry t.end old t.session command new

-- the same of any turn, by whether a command of its session is under way, and by the command that is next if not
abbrev pub EventBy : Bool → Option Command → TurnMade → CoreState → CoreState → Type 0
EventBy true next t old new = EventLater t.entry t.end old t.session new
EventBy false next t old new = EventNext next t old new

-- the command that a session begins next
abbrev pub next_of : HubState → ℕ → Option Command
next_of hub s = command_at hub.script s ((place_of (places_in hub) s).begun + 1)

-- what is true of every hub, where one of its sessions takes a turn
pub record IsAtTurn (hub : HubState) (s : ℕ) : Type 0 where
  pub there : IsSession hub.core.seats s
  pub schemas : schemas_of hub.core.tables ≡ hub.script.schemas
  pub told : s - 1 < length (replies_of (run_of hub.script hub.journal))
  pub stands : Stands hub.core (run_of hub.script hub.journal).plain (replies_of (run_of hub.script hub.journal))
  pub under_way : (place_of (places_in hub) s).under_way ≡ is_past_moment (seat_of hub.core s).job

-- one turn leads from a hub to another
pub record TurnLeads (old : HubState) (t : TurnMade) (new : HubState) : Type 0 where
  pub script : new.script ≡ old.script
  -- its entry, if it has one, stands behind the journal
  pub journal : new.journal ≡ old.journal ++ entry_in t.entry
  -- it is a turn where its session is
  pub turn : IsTurn old.script (run_of old.script old.journal) (place_of (places_in old) t.session) t
  -- it made one event of the core and no more, behind a submit where nothing was under way
  pub event : EventBy (place_of (places_in old) t.session).under_way (next_of old t.session) t old.core new.core
  -- in a hub as every hub is, and the other sessions stay as they were
  pub at : IsAtTurn old t.session
  pub others : OthersStay old.core t.session new.core
  pub places : places_in new ≡ after_turn (places_in old) t

-- turns lead from a hub to another, each from the hub that the one before it left
abbrev pub Leads : HubState → List TurnMade → HubState → Type 0
Leads old [] new = new ≡ old
Leads old (t ∷ ts) new = (mid : HubState) × TurnLeads old t mid × Leads mid ts new

-- ---- turns of a hub

-- a hub has made these turns, and no others
pub record Ran (old new : HubState) (turns : List TurnMade) : Type 0 where
  pub chain : Leads old turns new
  -- what follows for the script, the journal and the places
  pub script : new.script ≡ old.script
  pub journal : new.journal ≡ old.journal ++ entries_of turns
  pub each : AreTurns old.script (run_of old.script old.journal) (places_in old) turns
  pub places : places_in new ≡ after_turns (places_in old) turns

-- a hub before its first turn
abbrev pub first_hub : Script → HubState
first_hub script = record {
  script = script;
  core = first_core script.schemas script.low script.high (length script.sessions);
  journal = [];
  kept = [];
}

-- a hub was made by turns from the first one on, and by nothing else
pub record HasTurned (hub : HubState) : Type 0 where
  pub turns : List TurnMade
  pub ran : Ran (first_hub hub.script) hub turns

-- what is true of every hub with its progress, where its journal and its kept lines have room for so many
abbrev pub Endures : HubState → List Progress → ℕ → ℕ → Type 0
Endures hub progress entries lines =
    IsHub hub progress × (2 * command_count hub.script ≤ entries) × (2 * command_count hub.script ≤ lines) × HasTurned hub × IsDrawn hub.script hub.core hub.journal

-- how an answer says that a turn ended
abbrev pub end_of : Turn → End
end_of turns.Nothing = Nothing
end_of turns.More = More
end_of (turns.Ended entry) = Ended

-- the turn that an answer tells of
abbrev pub turn_made : ℕ → Option JournalEntry → Turn → TurnMade
turn_made s entry turn = record { session = s; entry = entry; end = end_of turn }

-- an answer that a command has ended names the session's last entry
abbrev pub NamesLast : HubState → ℕ → Turn → Type 0
NamesLast hub s turns.Nothing = Unit {0}
NamesLast hub s turns.More = Unit {0}
NamesLast hub s (turns.Ended entry) = IsLastEntry hub.journal entry s (told_of (run_of hub.script hub.journal) s).begun

-- a hub has made one turn of a session, and answered so
pub record MakesTurn (old : HubState) (s : ℕ) (new : HubState) (turn : Turn) : Type 0 where
  pub entry : Option JournalEntry
  pub ran : Ran old new (turn_made s entry turn ∷ [])
  pub named : NamesLast new s turn
