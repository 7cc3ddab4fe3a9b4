-- What the core's calls leave, one after another.
use Rattle.std.proofs.Common.{◌≡◌, ◌<◌, ◌-◌, inl, inr, ℕ, true, false, List, Option, Some, None, slice_set, refl, sym, ap, ◌∙◌, subst}
use Rattle.std.specs.Prelude.{◌≢◌, ◌⊎◌, if◌then◌else◌}
use Rattle.std.proofs.lemmas.Option.{same_Some}
use Rattle.tuple_layout.specs.Schemas.{TableSchema}
use Rattle.command_set.specs.Answers.{answer}
use Rattle.command_set.specs.Replies.{is_granted}
use Rattle.command_set.specs.declared.Command.{Command}
use Rattle.command_set.specs.declared.Kind.TheVariants as kinds
use Rattle.command_set.specs.declared.Reply.{Reply}
use Rattle.command_set.specs.declared.Reply.TheVariants as replies
use Rattle.core_state.proofs.Seats.{session_written}
use Rattle.core_state.specs.Commands.{IsFitting}
use Rattle.core_state.specs.Events.{Event, IsDue, left}
use Rattle.core_state.specs.Lines.{after_failing, after_submit}
use Rattle.core_events.specs.Advanced.{FailsBy}
use Rattle.core_state.specs.Moves.{Falls, Goes, Moved, MovedBy, Runs, Says, StandsOn, Stays}
use Rattle.core_state.specs.Stands.{Stands}
use Rattle.core_state.specs.State.{CoreState, IsSession, is_past_moment, schemas_of, seat_of}
use Rattle.core_state.specs.declared.advance.Advance.{Advance}
use Rattle.core_state.specs.declared.advance.Advance.TheVariants as advances
use Rattle.core_state.specs.declared.seat.Job.{Job}
use Rattle.core_state.specs.declared.seat.Job.TheVariants as jobs
use Rattle.session_shell.specs.Hubs.{is_read, is_saving}
use Rattle.session_shell.specs.Steps.{BeginsBy, HasMade, IsGranted, IsStood, LaterMade, StepsLater, end_by, ended_by}
use Rattle.toast_core.specs.Cores.{IsCore}
use Rattle.session_shell.specs.Turns.{EventFirst, MakesFirst}
use Rattle.session_shell.specs.declared.steps.Cut.TheVariants as cuts
use Rattle.session_shell.specs.declared.steps.Later.TheVariants as later
use Rattle.session_shell.proofs.Answered.{said_at_once}
use Rattle.session_shell.proofs.Begun.{goes_on_from, seat_submitted}
use Rattle.session_shell.proofs.Stepped.{refused_saving, saved_before}

-- a command was submitted and advanced
runs_on : (old mid new : CoreState) (s : ℕ) (command : Command) (advance : Advance) → IsSession old.seats s → mid ≡ after_submit old s command → StandsOn old mid → Moved mid s new advance → Runs old s command new advance
runs_on old mid new s command advance there is on moved m replies within stands =
    let by : Runs mid s command new advance = subst (λ (job : Job). MovedBy job mid s new advance) (ap (λ (c : CoreState). (seat_of c s).job) is ∙ seat_submitted old s command there) moved.by in
    subst (λ (schemas : List TableSchema). Stands new (answer schemas m s command).after (slice_set replies (s - 1) (Some (answer schemas m s command).reply)) × Says command (seat_of new s).job advance (answer schemas m s command).reply) (ap (λ (c : CoreState). schemas_of c.tables) is) (by m replies within (on.stands m replies stands))

pub began : (old mid new : CoreState) (s : ℕ) (command : Command) (advance : Advance) → IsSession old.seats s → mid ≡ after_submit old s command → StandsOn old mid → Moved mid s new advance → IsCore mid → Event mid s new advance → MakesFirst old s command new advance
began old mid new s command advance there is on moved sound event = record {
  runs = runs_on old mid new s command advance there is on moved;
  stands = subst (λ (c : CoreState). StandsOn old c) is on;
  event = record { sound = subst IsCore is sound; event = subst (λ (c : CoreState). Event c s new advance) is event };
}

-- the session is there after the submission
pub there_on : (old mid : CoreState) (s : ℕ) (command : Command) → IsSession old.seats s → mid ≡ after_submit old s command → IsSession mid.seats s
there_on old mid s command there is = subst (λ (c : CoreState). IsSession c.seats s) (sym is) (session_written old.seats s s _ there)

-- want of memory after the submission
pub falls_on : (old mid new : CoreState) (s : ℕ) → StandsOn old mid → Falls mid s new → Falls old s new
falls_on old mid new s on falls = record { stands = λ m replies stands. falls.stands m replies (on.stands m replies stands); over = falls.over }

-- a command that was submitted is not idle
pub never_idle : (old new : CoreState) (s : ℕ) (command : Command) (advance : Advance) → advance ≡ advances.Idle → MakesFirst old s command new advance → IsStood old s → ⊥
never_idle old new s command advance e made stood = (subst (Runs old s command new) e made.runs stood.state stood.replies stood.within stood.stands).1

-- a command of one step
pub done_first : (old new : CoreState) (s : ℕ) (command : Command) (advance : Advance) (reply : Reply) → advance ≡ advances.Done reply → MakesFirst old s command new advance → BeginsBy old s command new (record { kind = kinds.Run; reply = Some reply; goes_on = false })
done_first old new s command advance reply e made = record {
  by = λ m replies within stands. let r = subst (Runs old s command new) e made.runs m replies within stands in (r.0, (ap Some r.1.0, r.1.1));
}

-- a command that goes on
pub more_first : (old new : CoreState) (s : ℕ) (command : Command) (advance : Advance) (kept : Option Reply) → IsSession old.seats s → IsFitting (schemas_of old.tables) command → advance ≡ advances.More → kept ≡ (if is_read command then None else Some replies.Okay) → MakesFirst old s command new advance
    → BeginsBy old s command new (record { kind = kinds.Run; reply = kept; goes_on = true })
more_first old new s command advance kept there fits e said made =
    let from = goes_on_from old new s command there (session_written old.seats s s _ there) (subst (Event (after_submit old s command) s new) e made.event.event) in
    record {
      by = λ m replies within stands. let r = subst (Runs old s command new) e made.runs m replies within stands in
          (r.0, record { for_rows = r.1.0; granted = r.1.1; past = r.1.2; steps = from.steps; values = from.values; said = said ∙ said_at_once (schemas_of old.tables) m s command fits r.1.1 });
    }

-- the event of a command's first step
pub done_event : (old new : CoreState) (s : ℕ) (command : Command) (advance : Advance) (reply : Reply) → advance ≡ advances.Done reply → MakesFirst old s command new advance → EventFirst kinds.Run (end_by false) old s command new
done_event old new s command advance reply e made = (reply, subst (MakesFirst old s command new) e made)

pub more_event : (old new : CoreState) (s : ℕ) (command : Command) (advance : Advance) → advance ≡ advances.More → MakesFirst old s command new advance → EventFirst kinds.Run (end_by true) old s command new
more_event old new s command advance e made = subst (MakesFirst old s command new) e made

-- want of memory in the event after the submission
pub failed_on : (old mid new : CoreState) (s : ℕ) (command : Command) → mid ≡ after_submit old s command → FailsBy mid s new → (new ≡ after_failing old s) ⊎ FailsBy (after_submit old s command) s new
failed_on old mid new s command is fails = inr (subst (λ (c : CoreState). FailsBy c s new) is fails)

-- a step that goes on, or is over, without a refusal
more_stays : (job : Job) (old new : CoreState) (s : ℕ) → is_past_moment job ≡ true → MovedBy job old s new advances.More → Stays old s new advances.More
more_stays jobs.Idle old new s past moved = absurd (cc)
more_stays (jobs.Submitted command) old new s past moved = absurd (cc)
more_stays (jobs.Reading table snapshot read) old new s past moved = moved
more_stays (jobs.Writing table write) old new s past moved = moved

-- a command that has passed its moment is not idle
idle_never : (job : Job) (old new : CoreState) (s : ℕ) → is_past_moment job ≡ true → MovedBy job old s new advances.Idle → Stays old s new advances.Idle
idle_never jobs.Idle old new s past moved = absurd (cc)
idle_never (jobs.Submitted command) old new s past moved = absurd (cc)
idle_never (jobs.Reading table snapshot read) old new s past moved = moved
idle_never (jobs.Writing table write) old new s past moved = moved

pub later_never_idle : (old new : CoreState) (s : ℕ) (advance : Advance) → advance ≡ advances.Idle → is_past_moment (seat_of old s).job ≡ true → Moved old s new advance → IsGranted old s → ⊥
later_never_idle old new s advance e past moved granted = (idle_never (seat_of old s).job old new s past (subst (MovedBy (seat_of old s).job old s new) e moved.by) granted.state granted.replies granted.stands).1

-- a job that is past its moment is not idle
pub not_idle : (job : Job) → is_past_moment job ≡ true → job ≢ jobs.Idle
not_idle job past idle = let no : is_past_moment job ≡ false = ap is_past_moment idle in cc

pub more_later : (old new : CoreState) (s : ℕ) (advance : Advance) → advance ≡ advances.More → IsSession old.seats s → is_past_moment (seat_of old s).job ≡ true → Moved old s new advance → Event old s new advance → ((seat_of old s).job ≢ jobs.Idle → left new s < left old s) → IsGranted old s → StepsLater old s new later.More
more_later old new s advance e there past moved event fewer granted =
    let stays = more_stays (seat_of old s).job old new s past (subst (MovedBy (seat_of old s).job old s new) e moved.by) in
    record {
      stays = record { stands = λ m replies stands. (stays m replies stands).0 };
      past = (stays granted.state granted.replies granted.stands).1;
      fewer = fewer (not_idle (seat_of old s).job past);
      values = saved_before old new s there past (subst (Event old s new) e event);
    }

-- a write that is over has not been refused an id
goes_done : (reply : Reply) (old new : CoreState) (s : ℕ) → reply ≢ replies.NoValueId → Goes old s new (advances.Done reply) → Stays old s new (advances.Done reply)
goes_done replies.Okay old new s other goes = goes
goes_done replies.RolledBack old new s other goes = goes
goes_done (replies.Row key row) old new s other goes = goes
goes_done (replies.Bytes bytes) old new s other goes = goes
goes_done replies.Null old new s other goes = goes
goes_done replies.Absent old new s other goes = goes
goes_done replies.Taken old new s other goes = goes
goes_done (replies.Busy n) old new s other goes = goes
goes_done replies.Changed old new s other goes = goes
goes_done (replies.Locked n) old new s other goes = goes
goes_done replies.Failed old new s other goes = goes
goes_done replies.Outside old new s other goes = goes
goes_done replies.Inside old new s other goes = goes
goes_done (replies.TooBig n) old new s other goes = goes
goes_done replies.BadOffset old new s other goes = goes
goes_done replies.NoHandle old new s other goes = goes
goes_done replies.HandleThere old new s other goes = goes
goes_done replies.NoValueId old new s other goes = absurd (other refl)
goes_done replies.Started old new s other goes = goes
goes_done replies.Done old new s other goes = goes
goes_done replies.Memory old new s other goes = goes

done_stays : (job : Job) (old new : CoreState) (s : ℕ) (reply : Reply) → is_past_moment job ≡ true → reply ≢ replies.NoValueId → MovedBy job old s new (advances.Done reply) → Stays old s new (advances.Done reply)
done_stays jobs.Idle old new s reply past other moved = absurd (cc)
done_stays (jobs.Submitted command) old new s reply past other moved = absurd (cc)
done_stays (jobs.Reading table snapshot read) old new s reply past other moved = moved
done_stays (jobs.Writing table write) old new s reply past other moved = goes_done reply old new s other moved

done_later : (old new : CoreState) (s : ℕ) (advance : Advance) (reply : Reply) → advance ≡ advances.Done reply → reply ≢ replies.NoValueId → is_past_moment (seat_of old s).job ≡ true → Moved old s new advance → IsGranted old s → StepsLater old s new (later.Done reply)
done_later old new s advance reply e other past moved granted =
    let stays = done_stays (seat_of old s).job old new s reply past other (subst (MovedBy (seat_of old s).job old s new) e moved.by) in
    (record { stands = λ m replies stands. (stays m replies stands).0 }, (stays granted.state granted.replies granted.stands).1.1, record { said = λ m replies stands. (stays m replies stands).1.0 })

-- a read that was granted never says so
said_granted : (reply : Reply) → is_granted reply ≡ true → reply ≢ replies.NoValueId
said_granted reply granted is = let no : is_granted reply ≡ false = ap is_granted is in cc

refused_by : (job : Job) (old new : CoreState) (s : ℕ) → is_past_moment job ≡ true → MovedBy job old s new (advances.Done replies.NoValueId) → IsDue job old s new (advances.Done replies.NoValueId) → IsGranted old s → Falls old s new × (is_saving job ≡ true)
refused_by jobs.Idle old new s past moved due granted = absurd (cc)
refused_by (jobs.Submitted command) old new s past moved due granted = absurd (cc)
refused_by (jobs.Reading table snapshot read) old new s past moved due granted =
    let there = (moved granted.state granted.replies granted.stands).1.0 in
    let same : Some granted.reply ≡ Some replies.NoValueId = same_Some (Some granted.reply) (Some replies.NoValueId) (sym granted.answered ∙ there) in
    absurd (said_granted granted.reply granted.granted (same_Some granted.reply replies.NoValueId same))
refused_by (jobs.Writing table write) old new s past moved due granted = (moved, refused_saving old new s table write due)

refused_later : (old new : CoreState) (s : ℕ) (advance : Advance) → advance ≡ advances.Done replies.NoValueId → is_past_moment (seat_of old s).job ≡ true → Moved old s new advance → Event old s new advance → IsGranted old s → StepsLater old s new (later.Short cuts.NoValueId)
refused_later old new s advance e past moved event granted =
    let job = (seat_of old s).job in
    refused_by job old new s past (subst (MovedBy job old s new) e moved.by) (subst (IsDue job old s new) e event.is) granted

-- an end that says no refusal of an id is that of the command's last step
pub ended_other : (reply : Reply) → reply ≢ replies.NoValueId → ended_by reply ≡ later.Done reply
ended_other replies.Okay other = refl
ended_other replies.RolledBack other = refl
ended_other (replies.Row key row) other = refl
ended_other (replies.Bytes bytes) other = refl
ended_other replies.Null other = refl
ended_other replies.Absent other = refl
ended_other replies.Taken other = refl
ended_other (replies.Busy n) other = refl
ended_other replies.Changed other = refl
ended_other (replies.Locked n) other = refl
ended_other replies.Failed other = refl
ended_other replies.Outside other = refl
ended_other replies.Inside other = refl
ended_other (replies.TooBig n) other = refl
ended_other replies.BadOffset other = refl
ended_other replies.NoHandle other = refl
ended_other replies.HandleThere other = refl
ended_other replies.NoValueId other = absurd (other refl)
ended_other replies.Started other = refl
ended_other replies.Done other = refl
ended_other replies.Memory other = refl

-- whether an end says that an id was refused
said_cases : (reply : Reply) → (reply ≡ replies.NoValueId) ⊎ (reply ≢ replies.NoValueId)
said_cases replies.Okay = inr (λ e. cc)
said_cases replies.RolledBack = inr (λ e. cc)
said_cases (replies.Row key row) = inr (λ e. cc)
said_cases (replies.Bytes bytes) = inr (λ e. cc)
said_cases replies.Null = inr (λ e. cc)
said_cases replies.Absent = inr (λ e. cc)
said_cases replies.Taken = inr (λ e. cc)
said_cases (replies.Busy n) = inr (λ e. cc)
said_cases replies.Changed = inr (λ e. cc)
said_cases (replies.Locked n) = inr (λ e. cc)
said_cases replies.Failed = inr (λ e. cc)
said_cases replies.Outside = inr (λ e. cc)
said_cases replies.Inside = inr (λ e. cc)
said_cases (replies.TooBig n) = inr (λ e. cc)
said_cases replies.BadOffset = inr (λ e. cc)
said_cases replies.NoHandle = inr (λ e. cc)
said_cases replies.HandleThere = inr (λ e. cc)
said_cases replies.NoValueId = inl refl
said_cases replies.Started = inr (λ e. cc)
said_cases replies.Done = inr (λ e. cc)
said_cases replies.Memory = inr (λ e. cc)

pub ended_later : (old new : CoreState) (s : ℕ) (advance : Advance) (reply : Reply) → advance ≡ advances.Done reply → is_past_moment (seat_of old s).job ≡ true → Moved old s new advance → Event old s new advance → IsGranted old s → StepsLater old s new (ended_by reply)
ended_later old new s advance reply e past moved event granted = elim (said_cases reply) [
  | inl is ↦ subst (λ (r : Reply). StepsLater old s new (ended_by r)) (sym is) (refused_later old new s advance (e ∙ ap advances.Done is) past moved event granted)
  | inr other ↦ subst (StepsLater old s new) (sym (ended_other reply other)) (done_later old new s advance reply e other past moved granted)
]

pub wanted_later : (old new : CoreState) (s : ℕ) → Falls old s new → StepsLater old s new (later.Short cuts.Memory)
wanted_later old new s falls = (falls, tt)

-- the event of a later step
pub going_event : (old new : CoreState) (s : ℕ) (advance : Advance) → advance ≡ advances.More → IsCore old → Event old s new advance → LaterMade old s new later.More
going_event old new s advance e sound event = record { sound = sound; event = subst (Event old s new) e event }

pub ended_event : (old new : CoreState) (s : ℕ) (advance : Advance) (reply : Reply) → advance ≡ advances.Done reply → IsCore old → Event old s new advance → LaterMade old s new (ended_by reply)
ended_event old new s advance reply e sound event = elim (said_cases reply) [
  | inl is ↦ subst (λ (r : Reply). LaterMade old s new (ended_by r)) (sym is) (record { sound = sound; event = subst (Event old s new) (e ∙ ap advances.Done is) event })
  | inr other ↦ subst (LaterMade old s new) (sym (ended_other reply other)) (record { reply = reply; other = other; event = record { sound = sound; event = subst (Event old s new) e event } })
]

-- a first step that was made
pub has_made : (old new : CoreState) (s : ℕ) (command : Command) (advance : Advance) → MakesFirst old s command new advance → HasMade old s command new
has_made old new s command advance makes = record { advance = advance; makes = makes }
