-- The moments of commands that are refused: the core is sound after them, and stands for the plain store's answer.
use Rattle.std.proofs.Common.{Bool, ap, inl, inr, refl, subst, sym, ◌∙◌}
use Rattle.std.specs.Prelude.{Option, [], false, if◌then◌else◌, true, ℕ, ◌≡◌}
use Rattle.command_set.specs.Answers.{table_of}
use Rattle.command_set.specs.Journals.{is_data}
use Rattle.command_set.specs.Replies.{is_granted}
use Rattle.command_set.specs.declared.Command.{Command}
use Rattle.command_set.specs.declared.Level.{Level}
use Rattle.command_set.specs.declared.Reply.{Reply}
use Rattle.core_state.proofs.Ended.{failed_bare}
use Rattle.core_state.proofs.Overs.{sound_refused}
use Rattle.core_state.proofs.Proved.{ends_keep, over_keeps}
use Rattle.core_state.proofs.Seats.{seat_written}
use Rattle.core_state.specs.Events.{GivenUp, Looked, MomentLine, at_moment, line_due, line_granted, line_refused}
use Rattle.core_state.specs.Facts.{IsSound}
use Rattle.core_state.specs.Lines.{after_giving_up, after_looking, after_over, after_use, failed_state}
use Rattle.core_state.specs.State.{CoreState, IsSession, is_open, seat_of}
use Rattle.core_state.specs.declared.seat.Seat.{Seat}
use Rattle.core_state.specs.declared.seat.State.{State}
use Rattle.core_looks.proofs.Before.{fits_at}
use Rattle.core_looks.proofs.Refusing.{fails_by, is_refusal, open_kind, refusal_kind}
use Rattle.core_looks.proofs.Replies.{begin_due, commit_due, due_failed, due_outside, rollback_due}
use Rattle.core_looks.proofs.Sights.{state_at}
use Rattle.core_looks.proofs.Used.{session_used, sound_looked}
use Rattle.core_looks.specs.Due.{is_outside, reply_due}
use Rattle.command_set.specs.declared.Command.TheVariants as commands
use Rattle.command_set.specs.declared.Reply.TheVariants as replies
use Rattle.core_state.specs.declared.seat.Job.TheVariants as jobs
use Rattle.core_state.specs.declared.seat.State.TheVariants as states

-- what a refused command's moment leaves
pub record IsRefused (c : CoreState) (s : ℕ) (command : Command) (new : CoreState) : Type 0 where
  pub sound : IsSound new
  pub over : (seat_of new s).job ≡ jobs.Idle

-- ---- the lines

pub line_by : (c : CoreState) (s : ℕ) (command : Command) (reply : Reply) → is_granted reply ≡ false → line_due c s command reply ≡ line_refused (state_at c s) (table_of command) reply
line_by c s command reply refuses = ap (λ (b : Bool). if b then line_granted c s command else line_refused (state_at c s) (table_of command) reply) refuses

-- the core after a moment with which the command is over
pub job_over : (c : CoreState) (s : ℕ) (state : State) → IsSession c.seats s → (seat_of (after_over c s state) s).job ≡ jobs.Idle
job_over c s state there = ap (λ (seat : Seat). seat.job) (seat_written c.seats s (record (seat_of c s) { state = state; job = jobs.Idle }) there)

pub job_given : (c : CoreState) (s : ℕ) (state : State) → IsSession c.seats s → (seat_of (after_giving_up c s state) s).job ≡ jobs.Idle
job_given c s state there = ap (λ (seat : Seat). seat.job) (seat_written c.seats s (record { state = state; handles = []; job = jobs.Idle }) there)

pub job_looked : (c : CoreState) (s t : ℕ) → IsSession c.seats s → (seat_of (after_looking c s t) s).job ≡ jobs.Idle
job_looked c s t there = job_over (after_use c s t) s (seat_of (after_use c s t) s).state (session_used c s t there)

-- ---- sound

-- a data command in an open transaction
open_refused : (c : CoreState) (s : ℕ) (command : Command) (reply : Reply) (level : Level) (xid snapshot : Option ℕ) → IsSession c.seats s → IsSound c → (seat_of c s).job ≡ jobs.Submitted command → state_at c s ≡ states.Open level xid snapshot
    → is_refusal (table_of command) reply ≡ true → IsRefused c s command (at_moment (line_due c s command reply) c s)
open_refused c s command reply level xid snapshot there sound job is refuses = elim (refusal_kind (table_of command) reply refuses) [
  | inl fails_is ↦
      let kind = fails_by reply fails_is in
      let line : line_due c s command reply ≡ GivenUp (failed_state (state_at c s)) = line_by c s command reply kind.refuses ∙ kind.line (state_at c s) (table_of command) in
      subst (λ (l : MomentLine). IsRefused c s command (at_moment l c s)) (sym line)
      (record { sound = ends_keep.given_up c s (failed_state (state_at c s)) there sound (failed_bare (state_at c s)); over = job_given c s (failed_state (state_at c s)) there })
  | inr looks ↦
      let line : line_due c s command reply ≡ Looked looks.t = line_by c s command reply looks.refuses ∙ looks.line (state_at c s) in
      subst (λ (l : MomentLine). IsRefused c s command (at_moment l c s)) (sym line) (record { sound = sound_looked c s looks.t command there (ap is_open is) job sound; over = job_looked c s looks.t there })
]

-- a refusal that changes nothing
plain_refused : (c : CoreState) (s : ℕ) (command : Command) → IsSession c.seats s → IsSound c → (seat_of c s).job ≡ jobs.Submitted command → IsRefused c s command (after_over c s (state_at c s))
plain_refused c s command there sound job = record { sound = sound_refused c s command there job sound; over = job_over c s (state_at c s) there }

refused_as : (c : CoreState) (s : ℕ) (command : Command) (reply due : Reply) → due ≡ reply → IsRefused c s command (at_moment (line_due c s command reply) c s) → IsRefused c s command (at_moment (line_due c s command due) c s)
refused_as c s command reply due same old = subst (λ (r : Reply). IsRefused c s command (at_moment (line_due c s command r) c s)) (sym same) old

data_refused : (c : CoreState) (s : ℕ) (command : Command) → IsSession c.seats s → IsSound c → (seat_of c s).job ≡ jobs.Submitted command → is_data command ≡ true → is_granted (reply_due c s command) ≡ false → IsRefused c s command (at_moment (line_due c s command (reply_due c s command)) c s)
data_refused c s command there sound job given refused_is = by (state_at c s) refl
  where
    by : (state : State) → state_at c s ≡ state → IsRefused c s command (at_moment (line_due c s command (reply_due c s command)) c s)
    by states.Outside is = refused_as c s command replies.Outside (reply_due c s command) (due_outside c s command given is) (plain_refused c s command there sound job)
    by states.Failed is = refused_as c s command replies.Failed (reply_due c s command) (due_failed c s command given is) (plain_refused c s command there sound job)
    by (states.Open level xid snapshot) is = elim (open_kind c s command level xid snapshot given is) [
      | inl granted_is ↦ absurd (cc)
      | inr refuses ↦ open_refused c s command (reply_due c s command) level xid snapshot there sound job is refuses
    ]

begin_refused : (c : CoreState) (s : ℕ) (level : Level) → IsSession c.seats s → IsSound c → (seat_of c s).job ≡ jobs.Submitted (commands.Begin level) → is_granted (reply_due c s (commands.Begin level)) ≡ false
    → IsRefused c s (commands.Begin level) (at_moment (line_due c s (commands.Begin level) (reply_due c s (commands.Begin level))) c s)
begin_refused c s level there sound job refused_is = by (is_outside (state_at c s)) refl
  where
    by : (b : Bool) → is_outside (state_at c s) ≡ b → IsRefused c s (commands.Begin level) (at_moment (line_due c s (commands.Begin level) (reply_due c s (commands.Begin level))) c s)
    by true is =
        let granted_is : is_granted (reply_due c s (commands.Begin level)) ≡ true = ap is_granted (begin_due c s level true is) in
        absurd (cc)
    by false is = refused_as c s (commands.Begin level) replies.Inside (reply_due c s (commands.Begin level)) (begin_due c s level false is) (plain_refused c s (commands.Begin level) there sound job)

commit_refused : (c : CoreState) (s : ℕ) → IsSession c.seats s → IsSound c → (seat_of c s).job ≡ jobs.Submitted commands.Commit → is_granted (reply_due c s commands.Commit) ≡ false → IsRefused c s commands.Commit (at_moment (line_due c s commands.Commit (reply_due c s commands.Commit)) c s)
commit_refused c s there sound job refused_is = by (state_at c s) refl
  where
    by : (state : State) → state_at c s ≡ state → IsRefused c s commands.Commit (at_moment (line_due c s commands.Commit (reply_due c s commands.Commit)) c s)
    by states.Outside is = refused_as c s commands.Commit replies.Outside (reply_due c s commands.Commit) (commit_due c s states.Outside is) (plain_refused c s commands.Commit there sound job)
    by states.Failed is =
        refused_as c s commands.Commit replies.RolledBack (reply_due c s commands.Commit) (commit_due c s states.Failed is)
        (record { sound = over_keeps.turned c s commands.Commit states.Outside there job (ap is_open is) (record { xid = refl; snapshot = refl }) sound; over = job_over c s states.Outside there })
    by (states.Open level xid snapshot) is =
        let granted_is : is_granted (reply_due c s commands.Commit) ≡ true = ap is_granted (commit_due c s (states.Open level xid snapshot) is) in
        absurd (cc)

rollback_refused : (c : CoreState) (s : ℕ) → IsSession c.seats s → IsSound c → (seat_of c s).job ≡ jobs.Submitted commands.Rollback → is_granted (reply_due c s commands.Rollback) ≡ false → IsRefused c s commands.Rollback (at_moment (line_due c s commands.Rollback (reply_due c s commands.Rollback)) c s)
rollback_refused c s there sound job refused_is = by (state_at c s) refl
  where
    by : (state : State) → state_at c s ≡ state → IsRefused c s commands.Rollback (at_moment (line_due c s commands.Rollback (reply_due c s commands.Rollback)) c s)
    by states.Outside is = refused_as c s commands.Rollback replies.Outside (reply_due c s commands.Rollback) (rollback_due c s states.Outside is) (plain_refused c s commands.Rollback there sound job)
    by states.Failed is =
        let granted_is : is_granted (reply_due c s commands.Rollback) ≡ true = ap is_granted (rollback_due c s states.Failed is) in
        absurd (cc)
    by (states.Open level xid snapshot) is =
        let granted_is : is_granted (reply_due c s commands.Rollback) ≡ true = ap is_granted (rollback_due c s (states.Open level xid snapshot) is) in
        absurd (cc)

pub refused_is : (c : CoreState) (s : ℕ) (command : Command) → IsSession c.seats s → IsSound c → (seat_of c s).job ≡ jobs.Submitted command → is_granted (reply_due c s command) ≡ false → IsRefused c s command (at_moment (line_due c s command (reply_due c s command)) c s)
refused_is c s (commands.Begin level) there sound job e = begin_refused c s level there sound job e
refused_is c s commands.Commit there sound job e = commit_refused c s there sound job e
refused_is c s commands.Rollback there sound job e = rollback_refused c s there sound job e
refused_is c s (commands.VacuumMain t) there sound job e = absurd (fits_at c s (commands.VacuumMain t) there sound job)
refused_is c s (commands.VacuumToast t) there sound job e = absurd (fits_at c s (commands.VacuumToast t) there sound job)
refused_is c s (commands.Rewrite t) there sound job e = absurd (fits_at c s (commands.Rewrite t) there sound job)
refused_is c s (commands.Get t key) there sound job e = data_refused c s (commands.Get t key) there sound job refl e
refused_is c s (commands.Part t key column offset len) there sound job e = data_refused c s (commands.Part t key column offset len) there sound job refl e
refused_is c s (commands.Open name t key column) there sound job e = data_refused c s (commands.Open name t key column) there sound job refl e
refused_is c s (commands.Fetch name offset len) there sound job e = data_refused c s (commands.Fetch name offset len) there sound job refl e
refused_is c s (commands.Close name) there sound job e = data_refused c s (commands.Close name) there sound job refl e
refused_is c s (commands.Insert t key row) there sound job e = data_refused c s (commands.Insert t key row) there sound job refl e
refused_is c s (commands.Update t key sets) there sound job e = data_refused c s (commands.Update t key sets) there sound job refl e
refused_is c s (commands.Delete t key) there sound job e = data_refused c s (commands.Delete t key) there sound job refl e
refused_is c s (commands.Rekey t from to sets) there sound job e = data_refused c s (commands.Rekey t from to sets) there sound job refl e
