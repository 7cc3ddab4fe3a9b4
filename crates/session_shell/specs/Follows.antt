-- How a journal follows its script's schedule, and then the order in which the sessions finish.
use Rattle.std.specs.Prelude.{◌≡◌, ◌≢◌, ◌<◌, ℕ, ◌+◌, slice_index_or, zero, suc, Bool, true, false, List, [], ◌∷◌, ◌++◌, length, replicate}
use Rattle.std.specs.List.{flat_map, range_with_len}
use Rattle.command_set.specs.Journals.{first_run}
use Rattle.command_set.specs.declared.Script.{Script}
use Rattle.command_set.specs.declared.Item.{Item}
use Rattle.command_set.specs.declared.Item.TheVariants.{Once, Times, Whole}
use Rattle.command_set.specs.declared.Passage.{Passage}
use Rattle.command_set.specs.declared.JournalEntry.{JournalEntry}
use Rattle.session_shell.specs.Hubs.{HubState, IsSessionOf, commands_of}
use Rattle.session_shell.specs.Owed.{AreEnough, first_owed}
use Rattle.session_shell.specs.Turns.{TurnMade, Place, More, Nothing, at_start, place_of, after_turns, entries_of, AreTurns, Ran, places_in}

-- all turns are of this session
abbrev pub AllOf : ℕ → List TurnMade → Type 0
AllOf s [] = Unit {0}
AllOf s (t ∷ ts) = (t.session ≡ s) × AllOf s ts

-- all turns are of this session, and after each its command goes on
abbrev pub AllMore : ℕ → List TurnMade → Type 0
AllMore s [] = Unit {0}
AllMore s (t ∷ ts) = (t.session ≡ s) × (t.end ≡ More) × AllMore s ts

-- a session's turns up to the first after which no command goes on
pub record IsWhole (s : ℕ) (turns : List TurnMade) : Type 0 where
  pub front : List TurnMade
  pub last : TurnMade
  pub is : turns ≡ front ++ last ∷ []
  pub goes_on : AllMore s front
  pub session : last.session ≡ s
  pub stops : last.end ≢ More

-- the turns of one item
abbrev pub AreOfItem : Item → List TurnMade → Type 0
AreOfItem (Once s) turns = (length turns ≡ 1) × AllOf s turns
AreOfItem (Times s count) turns = (length turns ≡ count) × AllOf s turns
AreOfItem (Whole s) turns = IsWhole s turns

-- a list in two parts
pub record Splits {X : Type 0} (xs : List X) (First Rest : List X → Type 0) : Type 0 where
  pub front : List X
  pub back : List X
  pub is : xs ≡ front ++ back
  pub first : First front
  pub rest : Rest back

-- the turns of these items, in order
abbrev pub AreOfItems : List Item → List TurnMade → Type 0
AreOfItems [] turns = turns ≡ []
AreOfItems (item ∷ items) turns = Splits turns (AreOfItem item) (AreOfItems items)

-- a list so many times over
abbrev pub repeated : {X : Type 0} → ℕ → List X → List X
repeated zero xs = []
repeated (suc n) xs = xs ++ repeated n xs

-- the items of a passage, so often as it says
abbrev pub items_in : Passage → List Item
items_in passage = repeated passage.count passage.items

-- the items of a schedule
abbrev pub items_of : List Passage → List Item
items_of passages = flat_map items_in passages

-- a session whose command is under way takes turns until it has ended
abbrev pub EndsBy : Bool → ℕ → List TurnMade → Type 0
EndsBy true s turns = IsWhole s turns
EndsBy false s turns = turns ≡ []

-- the same, where the sessions are at these places
pub record EndsFor (script : Script) (places : List Place) (s : ℕ) (turns : List TurnMade) : Type 0 where
  pub by : EndsBy (place_of places s).under_way s turns

-- no turn finds that nothing is left
abbrev pub NoneRests : List TurnMade → Type 0
NoneRests [] = Unit {0}
NoneRests (t ∷ ts) = (t.end ≢ Nothing) × NoneRests ts

-- all commands of a session have begun, and none is under way
pub record IsOver (script : Script) (places : List Place) (s : ℕ) : Type 0 where
  pub begun : (place_of places s).begun ≡ length (commands_of script s)
  pub ended : (place_of places s).under_way ≡ false

-- a session takes turns until it has no command left
pub record Empties (script : Script) (places : List Place) (s : ℕ) (turns : List TurnMade) : Type 0 where
  pub own : AllOf s turns
  pub made : NoneRests turns
  pub over : IsOver script (after_turns places turns) s

-- turns of these sessions, one session after another, each as the relation says where the sessions are then
abbrev pub EachInTurn : (List Place → ℕ → List TurnMade → Type 0) → List Place → List ℕ → List TurnMade → Type 0
EachInTurn R places [] turns = turns ≡ []
EachInTurn R places (s ∷ ss) turns =
    (front : List TurnMade) × (back : List TurnMade) × (turns ≡ front ++ back) × R places s front × EachInTurn R (after_turns places front) ss back

-- the sessions of a script, ascending
abbrev pub sessions_of : Script → List ℕ
sessions_of script = range_with_len 1 (length script.sessions)

-- the turns of a finish: first each session whose command is under way ends it, then each takes turns until it has no command left
pub record Finishes (script : Script) (places : List Place) (turns : List TurnMade) : Type 0 where
  pub ending : List TurnMade
  pub emptying : List TurnMade
  pub is : turns ≡ ending ++ emptying
  pub ends : EachInTurn (EndsFor script) places (sessions_of script) ending
  pub empties : EachInTurn (Empties script) (after_turns places ending) (sessions_of script) emptying

-- before the first turn
abbrev pub first_places : Script → List Place
first_places script = replicate (length script.sessions) at_start

-- a journal follows its script
pub record Follows (script : Script) (journal : List JournalEntry) : Type 0 where
  pub scheduled : List TurnMade
  pub finishing : List TurnMade
  -- the entries of the turns, in order, are the journal
  pub entries : entries_of (scheduled ++ finishing) ≡ journal
  -- each is a turn
  pub each : AreTurns script (first_run script) (first_places script) (scheduled ++ finishing)
  -- their sessions are those of the schedule's items, and then of a finish
  pub schedule : AreOfItems (items_of script.schedule) scheduled
  pub finish : Finishes script (after_turns (first_places script) scheduled) finishing
  -- no command ends in fewer turns than it takes at least
  pub enough : AreEnough script (first_run script) (first_places script) (first_owed script) (scheduled ++ finishing)

-- a journal is one of turns, in whatever order the sessions took them
pub record IsOfTurns (script : Script) (journal : List JournalEntry) : Type 0 where
  pub turns : List TurnMade
  -- the entries of the turns, in order, are the journal
  pub entries : entries_of turns ≡ journal
  -- each is a turn
  pub each : AreTurns script (first_run script) (first_places script) turns
  -- no command ends in fewer turns than it takes at least
  pub enough : AreEnough script (first_run script) (first_places script) (first_owed script) turns

-- a hub has gone through these items
pub record RunsItems (old new : HubState) (items : List Item) : Type 0 where
  pub turns : List TurnMade
  pub ran : Ran old new turns
  pub each : AreOfItems items turns

-- a hub has gone through one item
pub record RunsItem (old new : HubState) (item : Item) : Type 0 where
  pub turns : List TurnMade
  pub ran : Ran old new turns
  pub own : AreOfItem item turns

-- a passage of a script, from 0
abbrev pub passage_at : Script → ℕ → Passage
passage_at script i = slice_index_or script.schedule i (record { count = 0; items = [] })

-- a hub has finished
pub record RunsFinish (old new : HubState) : Type 0 where
  pub turns : List TurnMade
  pub ran : Ran old new turns
  pub finish : Finishes old.script (places_in old) turns

-- nothing is under way
pub record IsIdle (hub : HubState) : Type 0 where
  pub each : (s : ℕ) → IsSessionOf hub.script s → (place_of (places_in hub) s).under_way ≡ false

-- a session has taken turns up to the first after which no command goes on; it began its next command if it had one left and none under way
pub record RunsWhole (old : HubState) (s : ℕ) (new : HubState) : Type 0 where
  pub turns : List TurnMade
  pub ran : Ran old new turns
  pub whole : IsWhole s turns
  pub ended : (place_of (places_in new) s).under_way ≡ false
  pub begun : (place_of (places_in old) s).under_way ≡ false → (place_of (places_in old) s).begun < length (commands_of old.script s) → ((place_of (places_in new) s).begun ≡ (place_of (places_in old) s).begun + 1) × NoneRests turns

-- a session has ended its command under way
pub record EndsSession (old : HubState) (s : ℕ) (new : HubState) : Type 0 where
  pub turns : List TurnMade
  pub ran : Ran old new turns
  pub ends : EndsFor old.script (places_in old) s turns
  pub own : AllOf s turns
  pub ended : (place_of (places_in new) s).under_way ≡ false

-- all sessions have ended their commands under way
pub record RunsEnding (old new : HubState) : Type 0 where
  pub turns : List TurnMade
  pub ran : Ran old new turns
  pub ends : EachInTurn (EndsFor old.script) (places_in old) (sessions_of old.script) turns

-- a session has taken turns until it had no command left
pub record EmptiesSession (old : HubState) (s : ℕ) (new : HubState) : Type 0 where
  pub turns : List TurnMade
  pub ran : Ran old new turns
  pub empties : Empties old.script (places_in old) s turns

-- all sessions have
pub record RunsEmptying (old new : HubState) : Type 0 where
  pub turns : List TurnMade
  pub ran : Ran old new turns
  pub empties : EachInTurn (Empties old.script) (places_in old) (sessions_of old.script) turns
