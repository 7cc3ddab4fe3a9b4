-- What the steps of one command leave, for the hub that records them.
use Rattle.std.specs.Prelude.{◌≡◌, ℕ, ⊤, ◌-◌, ◌<◌, Bool, true, false, List, Option, Some, None, length, slice_get, slice_set, if◌then◌else◌}
use Rattle.command_set.specs.declared.state.Plain.{Plain}
use Rattle.command_set.specs.Replies.{is_granted}
use Rattle.command_set.specs.Answers.{answer}
use Rattle.command_set.specs.Journals.{is_data, takes_no_memory, writes_values}
use Rattle.command_set.specs.declared.Command.{Command}
use Rattle.command_set.specs.declared.Kind.{Kind}
use Rattle.command_set.specs.declared.Kind.TheVariants as kinds
use Rattle.command_set.specs.declared.Reply.{Reply}
use Rattle.command_set.specs.declared.Reply.TheVariants as replies
use Rattle.core_state.specs.Events.{left}
use Rattle.core_state.specs.Moves.{Falls}
use Rattle.core_state.specs.Stands.{Stands}
use Rattle.core_state.specs.State.{CoreState, is_past_moment, schemas_of, seat_of}
use Rattle.core_state.specs.declared.advance.Advance.{Advance}
use Rattle.core_state.specs.declared.advance.Advance.TheVariants as advances
use Rattle.core_state.specs.declared.seat.Job.{Job}
use Rattle.core_state.specs.declared.seat.Job.TheVariants as jobs
use Rattle.session_shell.specs.Hubs.{is_one_step, is_read, is_saving}
use Rattle.session_shell.specs.Turns.{End, More, Ended, EventCut, EventLast, MakesEvent, MakesFirst}
use Rattle.session_shell.specs.declared.steps.Cut.{Cut}
use Rattle.session_shell.specs.declared.steps.Cut.TheVariants as cuts
use Rattle.session_shell.specs.declared.steps.First.{First}
use Rattle.session_shell.specs.declared.steps.Later.{Later}
use Rattle.session_shell.specs.declared.steps.Later.TheVariants as later

-- the kind of the entry of a command that ends early
abbrev pub kind_of : Cut → Kind
kind_of cuts.NoValueId = kinds.NoValueId
kind_of cuts.Memory = kinds.Memory

-- what its line then says
abbrev pub said_of : Cut → Reply
said_of cuts.NoValueId = replies.NoValueId
said_of cuts.Memory = replies.Memory

-- a core stands for some state, with a reply for this session
pub record IsStood (core : CoreState) (s : ℕ) : Type 0 where
  pub state : Plain
  pub replies : List (Option Reply)
  pub within : s - 1 < length replies
  pub stands : Stands core state replies

-- a core stands for some state, where the last moment of this session was granted
pub record IsGranted (core : CoreState) (s : ℕ) : Type 0 where
  pub state : Plain
  pub replies : List (Option Reply)
  pub stands : Stands core state replies
  pub reply : Reply
  pub answered : slice_get replies (s - 1) ≡ Some (Some reply)
  pub granted : is_granted reply ≡ true

-- a command was submitted, and its moment came, with some answer
pub record HasMade (old : CoreState) (s : ℕ) (command : Command) (new : CoreState) : Type 0 where
  pub advance : Advance
  pub makes : MakesFirst old s command new advance

-- a command goes on after its first step: it was granted, and takes more than one step; a read's reply comes at its end
pub record SaysOn (command : Command) (job : Job) (kept : Option Reply) (reply : Reply) : Type 0 where
  pub for_rows : is_data command ≡ true
  pub granted : is_granted reply ≡ true
  pub past : is_past_moment job ≡ true
  pub steps : is_one_step command ≡ false
  pub values : is_saving job ≡ true → writes_values command ≡ true
  pub said : kept ≡ (if is_read command then None else Some reply)

-- what a command's first step says of its reply: it goes on, or it is over
abbrev pub SaysFirst : Bool → Command → Job → Option Reply → Reply → Type 0
SaysFirst true command job kept reply = SaysOn command job kept reply
SaysFirst false command job kept reply = (kept ≡ Some reply) × (job ≡ jobs.Idle)

-- what a command's first step leaves, by the kind of its entry
abbrev pub StepsFirst : Kind → CoreState → ℕ → Command → CoreState → Bool → Option Reply → Type 0
StepsFirst kinds.Run old s command new goes_on kept = (m : Plain) (replies : List (Option Reply)) → s - 1 < length replies → Stands old m replies →
    Stands new (answer (schemas_of old.tables) m s command).after (slice_set replies (s - 1) (Some (answer (schemas_of old.tables) m s command).reply))
    × SaysFirst goes_on command (seat_of new s).job kept (answer (schemas_of old.tables) m s command).reply
StepsFirst kinds.Memory old s command new goes_on kept = Falls old s new × (takes_no_memory command ≡ false) × (goes_on ≡ false) × (kept ≡ Some replies.Memory)
StepsFirst kind old s command new goes_on kept = ⊥

-- the same, as a record
pub record BeginsBy (old : CoreState) (s : ℕ) (command : Command) (new : CoreState) (first : First) : Type 0 where
  pub by : StepsFirst first.kind old s command new first.goes_on first.reply

-- a later step leaves the core standing for what it stood for
pub record StaysFor (old new : CoreState) : Type 0 where
  pub stands : (m : Plain) (replies : List (Option Reply)) → Stands old m replies → Stands new m replies

-- a later step that ends the command gives the reply of its moment
pub record EndsWith (old : CoreState) (s : ℕ) (reply : Reply) : Type 0 where
  pub said : (m : Plain) (replies : List (Option Reply)) → Stands old m replies → slice_get replies (s - 1) ≡ Some (Some reply)

-- a later step after which the command goes on; a write that saves a value did so before
pub record GoesOnLater (old : CoreState) (s : ℕ) (new : CoreState) : Type 0 where
  pub stays : StaysFor old new
  pub past : is_past_moment (seat_of new s).job ≡ true
  pub fewer : left new s < left old s
  pub values : is_saving (seat_of new s).job ≡ true → is_saving (seat_of old s).job ≡ true

-- what a later step that ends its command comes to, by what it says
abbrev pub ended_by : Reply → Later
ended_by replies.NoValueId = later.Short cuts.NoValueId
ended_by reply = later.Done reply

-- an id is refused to a write that saves a value, and to no other job
abbrev pub MayEnd : Cut → Job → Type 0
MayEnd cuts.NoValueId job = is_saving job ≡ true
MayEnd cuts.Memory job = ⊤

-- what a later step of a command leaves
abbrev pub StepsLater : CoreState → ℕ → CoreState → Later → Type 0
StepsLater old s new later.More = GoesOnLater old s new
StepsLater old s new (later.Done reply) = StaysFor old new × ((seat_of new s).job ≡ jobs.Idle) × EndsWith old s reply
StepsLater old s new (later.Short cut) = Falls old s new × MayEnd cut (seat_of old s).job

-- how a turn ends that begins a command
abbrev pub end_by : Bool → End
end_by true = More
end_by false = Ended

-- the event that a later step of a command has made
abbrev pub LaterMade : CoreState → ℕ → CoreState → Later → Type 0
LaterMade old s new later.More = MakesEvent old s new advances.More
LaterMade old s new (later.Done reply) = EventLast old s new
LaterMade old s new (later.Short cut) = EventCut (kind_of cut) old s new
