-- A refused command's moment answers what the plain store answers, and the core stands for the state after it.
use Rattle.std.proofs.Common.{Bool, ap, inl, inr, refl, subst, sym, ◌∙◌}
use Rattle.std.proofs.lemmas.List.{length-set}
use Rattle.std.specs.Prelude.{List, None, Option, Some, [], false, if◌then◌else◌, slice_set, true, ℕ, ◌-◌, ◌≡◌}
use Rattle.list_facts.proofs.Changed.{get_set_other, set_twice}
use Rattle.command_set.specs.Answers.{answer, effect, failed_session, once_used, refused, table_of, with_failure, with_use}
use Rattle.command_set.specs.Changes.{said}
use Rattle.command_set.specs.Journals.{is_data}
use Rattle.command_set.specs.Plain.{session_of, with_session}
use Rattle.command_set.specs.Replies.{fails, is_granted, reply_of, transaction_of}
use Rattle.command_set.specs.declared.Command.{Command}
use Rattle.command_set.specs.declared.Level.{Level}
use Rattle.command_set.specs.declared.Reply.{Reply}
use Rattle.command_set.specs.declared.state.Plain.{Plain}
use Rattle.command_set.specs.declared.state.Session.{Session}
use Rattle.command_set.specs.declared.state.Transaction.{Transaction}
use Rattle.core_state.proofs.Answered.{answer_is, answered, sessions_set}
use Rattle.core_state.proofs.Begins.{runs_over}
use Rattle.core_state.proofs.Below.{below}
use Rattle.core_state.proofs.Falls.{stands_given_up}
use Rattle.core_state.proofs.Proved.{over_runs}
use Rattle.core_state.proofs.Standing.{its_session}
use Rattle.core_state.specs.Events.{GivenUp, Looked, MomentLine, at_moment, line_due}
use Rattle.core_state.specs.Facts.{IsSound, PartsAreSound}
use Rattle.core_state.specs.Lines.{after_giving_up, after_looking, failed_state}
use Rattle.core_state.specs.Moves.{Runs}
use Rattle.core_state.specs.Stands.{SessionStands, Stands}
use Rattle.core_state.specs.State.{CoreState, IsSession, is_open, schemas_of, seat_of}
use Rattle.core_state.specs.declared.seat.State.{State}
use Rattle.core_looks.proofs.Before.{fits_at, in_use, session_in_use, used_at}
use Rattle.core_looks.proofs.Refused.{job_given, job_looked, line_by, refused_is}
use Rattle.core_looks.proofs.Refusing.{LooksInto, fails_by, is_refusal, open_kind, refusal_kind}
use Rattle.core_looks.proofs.Replies.{begin_due, commit_due, due_failed, due_outside, has_open, inside_state, none_used, reply_is, reply_to, rollback_due}
use Rattle.core_looks.proofs.Sights.{state_at}
use Rattle.core_looks.proofs.Used.{stands_looked}
use Rattle.core_looks.specs.Due.{is_outside, reply_due}
use Rattle.command_set.specs.declared.Command.TheVariants as commands
use Rattle.command_set.specs.declared.Reply.TheVariants as replies
use Rattle.command_set.specs.declared.state.Session.TheVariants as plain
use Rattle.core_state.specs.declared.advance.Advance.TheVariants as advances
use Rattle.core_state.specs.declared.seat.Job.TheVariants as jobs
use Rattle.core_state.specs.declared.seat.State.TheVariants as states

-- ---- the plain store's answer

answer_by : (c : CoreState) (m n : Plain) (s : ℕ) (command : Command) (reply : Reply) → reply_to c m s command ≡ reply → is_granted reply ≡ false → once_used m s (session_of m s) (table_of command) ≡ n → answer (schemas_of c.tables) m s command ≡ answered reply (refused n s reply)
answer_by c m n s command reply said refuses used =
    answer_is (schemas_of c.tables) m n s command reply used (sym (ap (λ (x : Plain). reply_of (schemas_of c.tables) x s command) used) ∙ said)
    ∙ ap (λ (b : Bool). answered reply (if b then effect n s (transaction_of (session_of n s)) command else refused n s reply)) refuses

-- a transaction fails, whether its command has used a table or none
failed_use : (c : CoreState) (m : Plain) (told : List (Option Reply)) (s : ℕ) (tr : Transaction) (table : Option ℕ) → IsSession c.seats s → Stands c m told → session_of m s ≡ plain.Open tr
    → with_failure (once_used m s (session_of m s) table) s ≡ with_session m s plain.Failed
failed_use c m told s tr None there stands is = ap (λ (n : Plain). with_failure n s) (none_used m s (session_of m s)) ∙ ap (λ (session : Session). with_session m s (failed_session session)) is
failed_use c m told s tr (Some t) there stands is =
    let new = plain.Open (with_use m tr t) in
    ap (λ (n : Plain). with_failure n s) (used_at m s t tr stands.upkeep is)
    ∙ ap (λ (session : Session). with_session (with_session m s new) s (failed_session session)) (session_in_use c m told s new there stands)
    ∙ ap (λ (sessions : List Session). record m { sessions = sessions }) (set_twice m.sessions (s - 1) new plain.Failed)

-- ---- the moments

-- a failing refusal
fails_run : (c : CoreState) (s : ℕ) (command : Command) (reply : Reply) (level : Level) (xid snapshot : Option ℕ) → IsSession c.seats s → IsSound c → state_at c s ≡ states.Open level xid snapshot → fails reply ≡ true
    → ((m : Plain) (told : List (Option Reply)) → Stands c m told → reply_to c m s command ≡ reply) → Runs c s command (after_giving_up c s (failed_state (state_at c s))) (advances.Done reply)
fails_run c s command reply level xid snapshot there sound is fails_is said =
    runs_over c s command (after_giving_up c s (failed_state (state_at c s))) reply (job_given c s (failed_state (state_at c s)) there)
    (λ m told counted stands.
    let kind = fails_by reply fails_is in
    let its = its_session c s m told there stands in
    let opened = has_open c m told s there stands (ap is_open is) in
    let later = slice_set told (s - 1) (Some reply) in
    record {
      next = with_session m s plain.Failed;
      is = answer_by c m (once_used m s (session_of m s) (table_of command)) s command reply (said m told stands) kind.refuses refl
          ∙ ap (answered reply) (kind.after (once_used m s (session_of m s) (table_of command)) s ∙ failed_use c m told s opened.transaction (table_of command) there stands opened.is);
      stands = stands_given_up below.tells below.since c s (failed_state (state_at c s)) m (with_session m s plain.Failed) told later plain.Failed there sound stands refl refl (length-set m.sessions (s - 1) plain.Failed) (sessions_set m s its.session plain.Failed its.at)
          (λ locks latest.
          subst (λ (state : State). SessionStands (after_giving_up c s (failed_state (state_at c s))).xacts (after_giving_up c s (failed_state (state_at c s))).snaps locks (after_giving_up c s (failed_state (state_at c s))).log.entries
          (after_giving_up c s (failed_state (state_at c s))).tables latest (record { state = failed_state (state_at c s); handles = []; job = jobs.Idle }) state plain.Failed) (sym (ap failed_state is)) tt)
          (λ i differ. get_set_other told (s - 1) i (Some reply) differ);
    })

-- one that has looked into a table
looks_run : (c : CoreState) (s : ℕ) (command : Command) (reply : Reply) (level : Level) (xid snapshot : Option ℕ) → IsSession c.seats s → IsSound c → (seat_of c s).job ≡ jobs.Submitted command → state_at c s ≡ states.Open level xid snapshot → (looks : LooksInto (table_of command) reply)
    → ((m : Plain) (told : List (Option Reply)) → Stands c m told → reply_to c m s command ≡ reply) → Runs c s command (after_looking c s looks.t) (advances.Done reply)
looks_run c s command reply level xid snapshot there sound job is looks said =
    runs_over c s command (after_looking c s looks.t) reply (job_looked c s looks.t there)
    (λ m told counted stands.
    let opened = has_open c m told s there stands (ap is_open is) in
    let used = ap (once_used m s (session_of m s)) looks.uses ∙ used_at m s looks.t opened.transaction stands.upkeep opened.is in
    record {
      next = in_use m s opened.transaction looks.t;
      is = answer_by c m (in_use m s opened.transaction looks.t) s command reply (said m told stands) looks.refuses used ∙ ap (answered reply) (looks.after (in_use m s opened.transaction looks.t) s);
      stands = stands_looked c m told s looks.t command reply opened.transaction there job sound stands opened.is;
    })

open_runs : (c : CoreState) (s : ℕ) (command : Command) (reply : Reply) (level : Level) (xid snapshot : Option ℕ) → IsSession c.seats s → IsSound c → (seat_of c s).job ≡ jobs.Submitted command → state_at c s ≡ states.Open level xid snapshot → is_refusal (table_of command) reply ≡ true
    → ((m : Plain) (told : List (Option Reply)) → Stands c m told → reply_to c m s command ≡ reply) → Runs c s command (at_moment (line_due c s command reply) c s) (advances.Done reply)
open_runs c s command reply level xid snapshot there sound job is refuses said = elim (refusal_kind (table_of command) reply refuses) [
  | inl fails_is ↦
      let kind = fails_by reply fails_is in
      let line : line_due c s command reply ≡ GivenUp (failed_state (state_at c s)) = line_by c s command reply kind.refuses ∙ kind.line (state_at c s) (table_of command) in
      subst (λ (l : MomentLine). Runs c s command (at_moment l c s) (advances.Done reply)) (sym line) (fails_run c s command reply level xid snapshot there sound is fails_is said)
  | inr looks ↦
      let line : line_due c s command reply ≡ Looked looks.t = line_by c s command reply looks.refuses ∙ looks.line (state_at c s) in
      subst (λ (l : MomentLine). Runs c s command (at_moment l c s) (advances.Done reply)) (sym line) (looks_run c s command reply level xid snapshot there sound job is looks said)
]

-- what is due of a core's command
abbrev RunsDue : CoreState → ℕ → Command → Type 0
RunsDue c s command = Runs c s command (at_moment (line_due c s command (reply_due c s command)) c s) (advances.Done (reply_due c s command))

runs_as : (c : CoreState) (s : ℕ) (command : Command) (reply : Reply) → reply_due c s command ≡ reply → Runs c s command (at_moment (line_due c s command reply) c s) (advances.Done reply) → RunsDue c s command
runs_as c s command reply same old = subst (λ (r : Reply). Runs c s command (at_moment (line_due c s command r) c s) (advances.Done r)) (sym same) old

data_runs : (c : CoreState) (s : ℕ) (command : Command) → IsSession c.seats s → IsSound c → PartsAreSound c → (seat_of c s).job ≡ jobs.Submitted command → is_data command ≡ true → is_granted (reply_due c s command) ≡ false → RunsDue c s command
data_runs c s command there sound parts job given refused_is = by (state_at c s) refl
  where
    by : (state : State) → state_at c s ≡ state → RunsDue c s command
    by states.Outside is = runs_as c s command replies.Outside (due_outside c s command given is) (over_runs.data_outside c s command there job given is)
    by states.Failed is = runs_as c s command replies.Failed (due_failed c s command given is) (over_runs.data_failed c s command there job given is)
    by (states.Open level xid snapshot) is = elim (open_kind c s command level xid snapshot given is) [
      | inl granted_is ↦ absurd (cc)
      | inr refuses ↦ open_runs c s command (reply_due c s command) level xid snapshot there sound job is refuses (λ m told stands. reply_is c s command m told there sound parts job stands)
    ]

begin_runs : (c : CoreState) (s : ℕ) (level : Level) → IsSession c.seats s → (seat_of c s).job ≡ jobs.Submitted (commands.Begin level) → is_granted (reply_due c s (commands.Begin level)) ≡ false → RunsDue c s (commands.Begin level)
begin_runs c s level there job refused_is = by (state_at c s) refl
  where
    inside : (state : State) → state_at c s ≡ state → (state ≡ states.Outside → ⊥) → is_outside state ≡ false → RunsDue c s (commands.Begin level)
    inside state is other in_one = runs_as c s (commands.Begin level) replies.Inside (begin_due c s level false (ap is_outside is ∙ in_one)) (over_runs.begin_inside c s level there job (inside_state c s state is other))

    by : (state : State) → state_at c s ≡ state → RunsDue c s (commands.Begin level)
    by states.Outside is =
        let granted_is : is_granted (reply_due c s (commands.Begin level)) ≡ true = ap is_granted (begin_due c s level true (ap is_outside is)) in
        absurd (cc)
    by states.Failed is = inside states.Failed is (λ e. absurd (cc)) refl
    by (states.Open its_level xid snapshot) is = inside (states.Open its_level xid snapshot) is (λ e. absurd (cc)) refl

commit_runs : (c : CoreState) (s : ℕ) → IsSession c.seats s → (seat_of c s).job ≡ jobs.Submitted commands.Commit → is_granted (reply_due c s commands.Commit) ≡ false → RunsDue c s commands.Commit
commit_runs c s there job refused_is = by (state_at c s) refl
  where
    by : (state : State) → state_at c s ≡ state → RunsDue c s commands.Commit
    by states.Outside is = runs_as c s commands.Commit replies.Outside (commit_due c s states.Outside is) (over_runs.commit_outside c s there job is)
    by states.Failed is = runs_as c s commands.Commit replies.RolledBack (commit_due c s states.Failed is) (over_runs.commit_failed c s there job is)
    by (states.Open level xid snapshot) is =
        let granted_is : is_granted (reply_due c s commands.Commit) ≡ true = ap is_granted (commit_due c s (states.Open level xid snapshot) is) in
        absurd (cc)

rollback_runs : (c : CoreState) (s : ℕ) → IsSession c.seats s → (seat_of c s).job ≡ jobs.Submitted commands.Rollback → is_granted (reply_due c s commands.Rollback) ≡ false → RunsDue c s commands.Rollback
rollback_runs c s there job refused_is = by (state_at c s) refl
  where
    by : (state : State) → state_at c s ≡ state → RunsDue c s commands.Rollback
    by states.Outside is = runs_as c s commands.Rollback replies.Outside (rollback_due c s states.Outside is) (over_runs.rollback_outside c s there job is)
    by states.Failed is =
        let granted_is : is_granted (reply_due c s commands.Rollback) ≡ true = ap is_granted (rollback_due c s states.Failed is) in
        absurd (cc)
    by (states.Open level xid snapshot) is =
        let granted_is : is_granted (reply_due c s commands.Rollback) ≡ true = ap is_granted (rollback_due c s (states.Open level xid snapshot) is) in
        absurd (cc)

pub runs_refused : (c : CoreState) (s : ℕ) (command : Command) → IsSession c.seats s → IsSound c → PartsAreSound c → (seat_of c s).job ≡ jobs.Submitted command → is_granted (reply_due c s command) ≡ false → RunsDue c s command
runs_refused c s (commands.Begin level) there sound parts job e = begin_runs c s level there job e
runs_refused c s commands.Commit there sound parts job e = commit_runs c s there job e
runs_refused c s commands.Rollback there sound parts job e = rollback_runs c s there job e
runs_refused c s (commands.VacuumMain t) there sound parts job e = absurd (fits_at c s (commands.VacuumMain t) there sound job)
runs_refused c s (commands.VacuumToast t) there sound parts job e = absurd (fits_at c s (commands.VacuumToast t) there sound job)
runs_refused c s (commands.Rewrite t) there sound parts job e = absurd (fits_at c s (commands.Rewrite t) there sound job)
runs_refused c s (commands.Get t key) there sound parts job e = data_runs c s (commands.Get t key) there sound parts job refl e
runs_refused c s (commands.Part t key column offset len) there sound parts job e = data_runs c s (commands.Part t key column offset len) there sound parts job refl e
runs_refused c s (commands.Open name t key column) there sound parts job e = data_runs c s (commands.Open name t key column) there sound parts job refl e
runs_refused c s (commands.Fetch name offset len) there sound parts job e = data_runs c s (commands.Fetch name offset len) there sound parts job refl e
runs_refused c s (commands.Close name) there sound parts job e = data_runs c s (commands.Close name) there sound parts job refl e
runs_refused c s (commands.Insert t key row) there sound parts job e = data_runs c s (commands.Insert t key row) there sound parts job refl e
runs_refused c s (commands.Update t key sets) there sound parts job e = data_runs c s (commands.Update t key sets) there sound parts job refl e
runs_refused c s (commands.Delete t key) there sound parts job e = data_runs c s (commands.Delete t key) there sound parts job refl e
runs_refused c s (commands.Rekey t from to sets) there sound parts job e = data_runs c s (commands.Rekey t from to sets) there sound parts job refl e
