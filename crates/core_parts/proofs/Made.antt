-- The lines of moments, for a session whose command is taken out.
use Rattle.std.proofs.Common.{ap, refl, subst, sym, ◌∙◌}
use Rattle.std.specs.Prelude.{Bool, List, None, Option, [], if◌then◌else◌, true, ℕ, ◌-◌, ◌∷◌, ◌≡◌}
use Rattle.list_facts.proofs.Changed.{set_same}
use Rattle.xact_status.specs.Xacts.{Xacts}
use Rattle.change_log.specs.declared.entry.LogEntry.{LogEntry}
use Rattle.command_set.specs.Journals.{is_data}
use Rattle.command_set.specs.Replies.{first_of}
use Rattle.command_set.specs.declared.Command.{Command}
use Rattle.command_set.specs.declared.Level.{Level}
use Rattle.command_set.specs.declared.Reply.{Reply}
use Rattle.core_looks.specs.Due.{failed_due, inside_due, outside_due, reply_due, rolled_back_due}
use Rattle.core_state.proofs.Seats.{seat_there, seat_written, session_written}
use Rattle.core_state.specs.Events.{MomentLine, at_moment, line_due}
use Rattle.core_state.specs.Lines.{after_commit_of, after_end_of, after_giving_up, after_looking, after_over, after_use, seated}
use Rattle.core_state.specs.State.{CoreState, IsSession, is_open, is_past_moment, seat_of}
use Rattle.core_state.specs.declared.advance.Advance.{Advance}
use Rattle.core_state.specs.declared.seat.Job.{Job}
use Rattle.core_state.specs.declared.seat.Seat.{Seat}
use Rattle.core_state.specs.declared.seat.State.{State}
use Rattle.core_parts.proofs.Taking.{copy_is}
use Rattle.core_parts.specs.Moments.{IsMade, told_at}
use Rattle.core_parts.specs.Takes.{copied_state, locked, with_copy}
use Rattle.command_set.specs.declared.Command.TheVariants as commands
use Rattle.command_set.specs.declared.Reply.TheVariants as replies
use Rattle.core_state.specs.Events as lines
use Rattle.core_state.specs.declared.advance.Advance.TheVariants as advances
use Rattle.core_state.specs.declared.seat.Job.TheVariants as jobs
use Rattle.core_state.specs.declared.seat.State.TheVariants as states

-- ---- the seat

pub copied_session : (c : CoreState) (s : ℕ) → IsSession c.seats s → IsSession (with_copy c s).seats s
copied_session c s there = subst (λ (v : CoreState). IsSession v.seats s) (copy_is c s there) (session_written c.seats s s (record (seat_of c s) { state = copied_state (seat_of c s).state c.snaps }) there)

pub copied_seat : (c : CoreState) (s : ℕ) → IsSession c.seats s → seat_of (with_copy c s) s ≡ record (seat_of c s) { state = copied_state (seat_of c s).state c.snaps }
copied_seat c s there = ap (λ (v : CoreState). seat_of v s) (sym (copy_is c s there)) ∙ seat_written c.seats s (record (seat_of c s) { state = copied_state (seat_of c s).state c.snaps }) there

-- a command is over that has changed nothing but what its session is in
pub turned_is : (c : CoreState) (s : ℕ) (state : State) → (seat_of c s).job ≡ jobs.Idle → seated c s (record (seat_of c s) { state = state }) ≡ after_over c s state
turned_is c s state idle = ap (λ (job : Job). seated c s (record (seat_of c s) { state = state; job = job })) idle

-- and not even that
pub over_idle : (c : CoreState) (s : ℕ) → IsSession c.seats s → (seat_of c s).job ≡ jobs.Idle → c ≡ after_over c s (seat_of c s).state
over_idle c s there idle = ap (λ (seats : List Seat). record c { seats = seats }) (sym (set_same c.seats (s - 1) (seat_of c s) (seat_there c.seats s there))) ∙ turned_is c s (seat_of c s).state idle

-- one that has used its table
pub looked_is : (c : CoreState) (s t : ℕ) → IsSession c.seats s → (seat_of c s).job ≡ jobs.Idle → with_copy (locked c s t) s ≡ after_looking c s t
looked_is c s t there idle = over_idle (after_use c s t) s (copied_session (locked c s t) s there) (ap (λ (seat : Seat). seat.job) (copied_seat (locked c s t) s there) ∙ idle)

-- ---- a moment

-- one with which the command is over
pub made_over : (c : CoreState) (s : ℕ) (command : Command) (reply : Reply) (line : MomentLine) (new : CoreState) (advance : Advance) → reply_due c s command ≡ reply → line_due c s command reply ≡ line → new ≡ at_moment line c s
    → (seat_of new s).job ≡ jobs.Idle → advance ≡ advances.Done reply → IsMade c s command new advance
made_over c s command reply line new advance due line_is is idle told = record {
  is = is ∙ ap (λ (l : MomentLine). at_moment l c s) (sym line_is) ∙ ap (λ (r : Reply). at_moment (line_due c s command r) c s) (sym due);
  told = told ∙ ap advances.Done (sym due) ∙ ap (λ (job : Job). told_at (is_past_moment job) (reply_due c s command)) (sym idle);
}

-- one from which it goes on
pub made_on : (c : CoreState) (s : ℕ) (command : Command) (reply : Reply) (line : MomentLine) (new : CoreState) (advance : Advance) → reply_due c s command ≡ reply → line_due c s command reply ≡ line → new ≡ at_moment line c s
    → is_past_moment (seat_of new s).job ≡ true → advance ≡ advances.More → IsMade c s command new advance
made_on c s command reply line new advance due line_is is past told = record {
  is = is ∙ ap (λ (l : MomentLine). at_moment l c s) (sym line_is) ∙ ap (λ (r : Reply). at_moment (line_due c s command r) c s) (sym due);
  told = told ∙ ap (λ (b : Bool). told_at b (reply_due c s command)) (sym past);
}

-- ---- in no open transaction

first_outside : (state : State) (rest : List (Option Reply)) (granted : Reply) → state ≡ states.Outside → first_of (outside_due state ∷ failed_due state ∷ rest) granted ≡ replies.Outside
first_outside state rest granted e = rw e refl

first_failed : (state : State) (rest : List (Option Reply)) (granted : Reply) → state ≡ states.Failed → first_of (outside_due state ∷ failed_due state ∷ rest) granted ≡ replies.Failed
first_failed state rest granted e = rw e refl

pub first_inside : (state : State) (rest : List (Option Reply)) (granted : Reply) → is_open state ≡ true → first_of (outside_due state ∷ failed_due state ∷ rest) granted ≡ first_of rest granted
first_inside states.Outside rest granted e = absurd (cc)
first_inside states.Failed rest granted e = absurd (cc)
first_inside (states.Open level xid snapshot) rest granted e = refl

-- a data command changes nothing there
pub made_outside : (c : CoreState) (s : ℕ) (command : Command) → IsSession c.seats s → (seat_of c s).job ≡ jobs.Idle → is_data command ≡ true → (seat_of c s).state ≡ states.Outside → IsMade c s command c (advances.Done replies.Outside)
made_outside c s command there idle mine outside = made_over c s command replies.Outside (lines.Over (seat_of c s).state) c (advances.Done replies.Outside) (due command mine) (line command mine) (over_idle c s there idle) idle refl
  where
    due : (command : Command) → is_data command ≡ true → reply_due c s command ≡ replies.Outside
    due (commands.Get t key) e = first_outside (seat_of c s).state _ _ outside
    due (commands.Part t key column offset len) e = first_outside (seat_of c s).state _ _ outside
    due (commands.Open name t key column) e = first_outside (seat_of c s).state _ _ outside
    due (commands.Fetch name offset len) e = first_outside (seat_of c s).state _ _ outside
    due (commands.Close name) e = first_outside (seat_of c s).state _ _ outside
    due (commands.Insert t key row) e = first_outside (seat_of c s).state _ _ outside
    due (commands.Update t key sets) e = first_outside (seat_of c s).state _ _ outside
    due (commands.Delete t key) e = first_outside (seat_of c s).state _ _ outside
    due (commands.Rekey t from to sets) e = first_outside (seat_of c s).state _ _ outside
    due command e = absurd (cc)

    line : (command : Command) → is_data command ≡ true → line_due c s command replies.Outside ≡ lines.Over (seat_of c s).state
    line (commands.Get t key) e = refl
    line (commands.Part t key column offset len) e = refl
    line (commands.Open name t key column) e = refl
    line (commands.Fetch name offset len) e = refl
    line (commands.Close name) e = refl
    line (commands.Insert t key row) e = refl
    line (commands.Update t key sets) e = refl
    line (commands.Delete t key) e = refl
    line (commands.Rekey t from to sets) e = refl
    line command e = absurd (cc)

pub made_failed : (c : CoreState) (s : ℕ) (command : Command) → IsSession c.seats s → (seat_of c s).job ≡ jobs.Idle → is_data command ≡ true → (seat_of c s).state ≡ states.Failed → IsMade c s command c (advances.Done replies.Failed)
made_failed c s command there idle mine failed = made_over c s command replies.Failed (lines.Over (seat_of c s).state) c (advances.Done replies.Failed) (due command mine) (line command mine) (over_idle c s there idle) idle refl
  where
    due : (command : Command) → is_data command ≡ true → reply_due c s command ≡ replies.Failed
    due (commands.Get t key) e = first_failed (seat_of c s).state _ _ failed
    due (commands.Part t key column offset len) e = first_failed (seat_of c s).state _ _ failed
    due (commands.Open name t key column) e = first_failed (seat_of c s).state _ _ failed
    due (commands.Fetch name offset len) e = first_failed (seat_of c s).state _ _ failed
    due (commands.Close name) e = first_failed (seat_of c s).state _ _ failed
    due (commands.Insert t key row) e = first_failed (seat_of c s).state _ _ failed
    due (commands.Update t key sets) e = first_failed (seat_of c s).state _ _ failed
    due (commands.Delete t key) e = first_failed (seat_of c s).state _ _ failed
    due (commands.Rekey t from to sets) e = first_failed (seat_of c s).state _ _ failed
    due command e = absurd (cc)

    line : (command : Command) → is_data command ≡ true → line_due c s command replies.Failed ≡ lines.Over (seat_of c s).state
    line (commands.Get t key) e = refl
    line (commands.Part t key column offset len) e = refl
    line (commands.Open name t key column) e = refl
    line (commands.Fetch name offset len) e = refl
    line (commands.Close name) e = refl
    line (commands.Insert t key row) e = refl
    line (commands.Update t key sets) e = refl
    line (commands.Delete t key) e = refl
    line (commands.Rekey t from to sets) e = refl
    line command e = absurd (cc)

-- ---- begin, commit, rollback

pub begun_outside : (c : CoreState) (s : ℕ) (level : Level) (new : CoreState) → IsSession c.seats s → (seat_of c s).job ≡ jobs.Idle → (seat_of c s).state ≡ states.Outside
    → new ≡ seated c s (record (seat_of c s) { state = states.Open level None None }) → IsMade c s (commands.Begin level) new (advances.Done replies.Okay)
begun_outside c s level new there idle outside is =
    made_over c s (commands.Begin level) replies.Okay (lines.Over (states.Open level None None)) new (advances.Done replies.Okay) (due (seat_of c s).state outside) refl (is ∙ turned_is c s (states.Open level None None) idle)
    (ap (λ (v : CoreState). (seat_of v s).job) is ∙ ap (λ (seat : Seat). seat.job) (seat_written c.seats s _ there) ∙ idle) refl
  where
    due : (state : State) → state ≡ states.Outside → first_of (inside_due state ∷ []) replies.Okay ≡ replies.Okay
    due state e = rw e refl

pub begun_failed : (c : CoreState) (s : ℕ) (level : Level) → IsSession c.seats s → (seat_of c s).job ≡ jobs.Idle → (seat_of c s).state ≡ states.Failed → IsMade c s (commands.Begin level) c (advances.Done replies.Inside)
begun_failed c s level there idle failed =
    made_over c s (commands.Begin level) replies.Inside (lines.Over (seat_of c s).state) c (advances.Done replies.Inside) (due (seat_of c s).state failed) refl (over_idle c s there idle) idle refl
  where
    due : (state : State) → state ≡ states.Failed → first_of (inside_due state ∷ []) replies.Okay ≡ replies.Inside
    due state e = rw e refl

pub begun_inside : (c : CoreState) (s : ℕ) (level : Level) → IsSession c.seats s → (seat_of c s).job ≡ jobs.Idle → is_open (seat_of c s).state ≡ true → IsMade c s (commands.Begin level) c (advances.Done replies.Inside)
begun_inside c s level there idle open_now =
    made_over c s (commands.Begin level) replies.Inside (lines.Over (seat_of c s).state) c (advances.Done replies.Inside) (due (seat_of c s).state open_now) refl (over_idle c s there idle) idle refl
  where
    due : (state : State) → is_open state ≡ true → first_of (inside_due state ∷ []) replies.Okay ≡ replies.Inside
    due states.Outside e = absurd (cc)
    due states.Failed e = absurd (cc)
    due (states.Open level xid snapshot) e = refl

-- ---- commit and rollback

pub open_is : (state : State) (level : Level) (xid snapshot : Option ℕ) → state ≡ states.Open level xid snapshot → is_open state ≡ true
open_is state level xid snapshot e = ap is_open e

over_job : (c : CoreState) (s : ℕ) (new : CoreState) (state : State) → IsSession c.seats s → (seat_of c s).job ≡ jobs.Idle → new ≡ seated c s (record (seat_of c s) { state = state }) → (seat_of new s).job ≡ jobs.Idle
over_job c s new state there idle is = ap (λ (v : CoreState). (seat_of v s).job) is ∙ ap (λ (seat : Seat). seat.job) (seat_written c.seats s (record (seat_of c s) { state = state }) there) ∙ idle

ended_job : (c : CoreState) (s : ℕ) (new : CoreState) (xacts : Xacts) (end : Option LogEntry) (state : State) → IsSession c.seats s → new ≡ after_end_of c s xacts end state → (seat_of new s).job ≡ jobs.Idle
ended_job c s new xacts end state there is = ap (λ (v : CoreState). (seat_of v s).job) is ∙ ap (λ (seat : Seat). seat.job) (seat_written c.seats s (record { state = state; handles = []; job = jobs.Idle }) there)

pub committed_outside : (c : CoreState) (s : ℕ) → IsSession c.seats s → (seat_of c s).job ≡ jobs.Idle → (seat_of c s).state ≡ states.Outside → IsMade c s commands.Commit c (advances.Done replies.Outside)
committed_outside c s there idle outside =
    made_over c s commands.Commit replies.Outside (lines.Over (seat_of c s).state) c (advances.Done replies.Outside) (due (seat_of c s).state outside) refl (over_idle c s there idle) idle refl
  where
    due : (state : State) → state ≡ states.Outside → first_of (outside_due state ∷ rolled_back_due state ∷ []) replies.Okay ≡ replies.Outside
    due state e = rw e refl

pub committed_failed : (c : CoreState) (s : ℕ) (new : CoreState) → IsSession c.seats s → (seat_of c s).job ≡ jobs.Idle → (seat_of c s).state ≡ states.Failed → new ≡ seated c s (record (seat_of c s) { state = states.Outside })
    → IsMade c s commands.Commit new (advances.Done replies.RolledBack)
committed_failed c s new there idle failed is =
    made_over c s commands.Commit replies.RolledBack (lines.Over states.Outside) new (advances.Done replies.RolledBack) (due (seat_of c s).state failed) refl (is ∙ turned_is c s states.Outside idle) (over_job c s new states.Outside there idle is) refl
  where
    due : (state : State) → state ≡ states.Failed → first_of (outside_due state ∷ rolled_back_due state ∷ []) replies.Okay ≡ replies.RolledBack
    due state e = rw e refl

pub committed_open : (c : CoreState) (s : ℕ) (new : CoreState) → IsSession c.seats s → is_open (seat_of c s).state ≡ true → new ≡ after_commit_of c s → IsMade c s commands.Commit new (advances.Done replies.Okay)
committed_open c s new there inside is =
    made_over c s commands.Commit replies.Okay lines.Committed new (advances.Done replies.Okay) (due (seat_of c s).state inside) refl is (ended_job c s new _ _ states.Outside there is) refl
  where
    due : (state : State) → is_open state ≡ true → first_of (outside_due state ∷ rolled_back_due state ∷ []) replies.Okay ≡ replies.Okay
    due states.Outside e = absurd (cc)
    due states.Failed e = absurd (cc)
    due (states.Open level xid snapshot) e = refl

pub rolled_outside : (c : CoreState) (s : ℕ) → IsSession c.seats s → (seat_of c s).job ≡ jobs.Idle → (seat_of c s).state ≡ states.Outside → IsMade c s commands.Rollback c (advances.Done replies.Outside)
rolled_outside c s there idle outside =
    made_over c s commands.Rollback replies.Outside (lines.Over (seat_of c s).state) c (advances.Done replies.Outside) (due (seat_of c s).state outside) refl (over_idle c s there idle) idle refl
  where
    due : (state : State) → state ≡ states.Outside → first_of (outside_due state ∷ []) replies.Okay ≡ replies.Outside
    due state e = rw e refl

pub rolled_failed : (c : CoreState) (s : ℕ) (new : CoreState) → IsSession c.seats s → (seat_of c s).job ≡ jobs.Idle → (seat_of c s).state ≡ states.Failed → new ≡ seated c s (record (seat_of c s) { state = states.Outside })
    → IsMade c s commands.Rollback new (advances.Done replies.Okay)
rolled_failed c s new there idle failed is =
    made_over c s commands.Rollback replies.Okay (lines.Over states.Outside) new (advances.Done replies.Okay) (due (seat_of c s).state failed) (line (seat_of c s).state failed) (is ∙ turned_is c s states.Outside idle) (over_job c s new states.Outside there idle is) refl
  where
    due : (state : State) → state ≡ states.Failed → first_of (outside_due state ∷ []) replies.Okay ≡ replies.Okay
    due state e = rw e refl

    line : (state : State) → state ≡ states.Failed → ◌≡◌ {A = MomentLine} (if is_open state then lines.GivenUp states.Outside else lines.Over states.Outside) (lines.Over states.Outside)
    line state e = rw e refl

pub rolled_open : (c : CoreState) (s : ℕ) (new : CoreState) → IsSession c.seats s → is_open (seat_of c s).state ≡ true → new ≡ after_giving_up c s states.Outside → IsMade c s commands.Rollback new (advances.Done replies.Okay)
rolled_open c s new there inside is =
    made_over c s commands.Rollback replies.Okay (lines.GivenUp states.Outside) new (advances.Done replies.Okay) (due (seat_of c s).state inside) (line (is_open (seat_of c s).state) inside) is (ended_job c s new _ _ states.Outside there is) refl
  where
    due : (state : State) → is_open state ≡ true → first_of (outside_due state ∷ []) replies.Okay ≡ replies.Okay
    due states.Outside e = absurd (cc)
    due states.Failed e = absurd (cc)
    due (states.Open level xid snapshot) e = refl

    line : (b : Bool) → b ≡ true → ◌≡◌ {A = MomentLine} (if b then lines.GivenUp states.Outside else lines.Over states.Outside) (lines.GivenUp states.Outside)
    line b e = rw e refl
