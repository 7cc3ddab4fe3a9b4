-- The plain store's reply at each command's moment is the one that is due.
use Rattle.std.proofs.Common.{Bool, ap, refl, sym, ◌∙◌}
use Rattle.std.specs.Prelude.{List, None, Option, Some, [], false, length, not, true, ℕ, ◌++◌, ◌∷◌, ◌≡◌, ◌≢◌}
use Rattle.tuple_layout.specs.Schemas.{TableSchema}
use Rattle.lock_table.specs.Locks.{held_by}
use Rattle.command_set.specs.Answers.{answer, once_used, table_of, with_use}
use Rattle.command_set.specs.Journals.{is_data}
use Rattle.command_set.specs.Plain.{session_of}
use Rattle.command_set.specs.Replies.{answers_if, failed, first_of, granted, outside, refusals, refused_before_use, reply_of}
use Rattle.command_set.specs.declared.Command.{Command}
use Rattle.command_set.specs.declared.Level.{Level}
use Rattle.command_set.specs.declared.Reply.{Reply}
use Rattle.command_set.specs.declared.state.Answered.{Answered}
use Rattle.command_set.specs.declared.state.Plain.{Plain}
use Rattle.command_set.specs.declared.state.Session.{Session}
use Rattle.command_set.specs.declared.state.Transaction.{Transaction}
use Rattle.core_state.proofs.Answered.{begin_inside, begin_outside, commit_failed, commit_open, commit_outside, data_failed, data_outside, rollback_inside, rollback_outside, session_at_place}
use Rattle.core_state.proofs.Begins.{failed_of, inside_of, outside_of}
use Rattle.core_state.proofs.Standing.{ItsSession, its_session}
use Rattle.core_state.specs.Commands.{IsFitting}
use Rattle.core_state.specs.Facts.{IsSound, PartsAreSound}
use Rattle.core_state.specs.Stands.{SessionStands, Stands}
use Rattle.core_state.specs.State.{CoreState, IsSession, is_open, schemas_of, seat_of, table_at}
use Rattle.core_state.specs.declared.seat.State.{State}
use Rattle.core_looks.proofs.Before.{IsBefore, fits_at, in_use, opened_at, opens, opens_due, opens_with, reply_by, schema_is, session_in_use, table_in, used_at}
use Rattle.core_looks.proofs.Firsts.{first_passes, first_stops}
use Rattle.core_looks.proofs.Refusals.{close_rest, delete_rest, fetch_rest, finds_at, get_rest, insert_rest, open_rest, part_rest, rekey_rest, update_rest}
use Rattle.core_looks.proofs.Sights.{state_at}
use Rattle.core_looks.specs.Due.{failed_due, granted_due, is_outside, outside_due, refusals_due, refusals_first, reply_due, rolled_back_due}
use Rattle.command_set.specs.declared.Command.TheVariants as commands
use Rattle.command_set.specs.declared.Reply.TheVariants as replies
use Rattle.command_set.specs.declared.state.Session.TheVariants as plain
use Rattle.core_state.specs.declared.seat.Job.TheVariants as jobs
use Rattle.core_state.specs.declared.seat.State.TheVariants as states

abbrev pub reply_to : CoreState → Plain → ℕ → Command → Reply
reply_to c m s command = Answered.reply (answer (schemas_of c.tables) m s command)

-- ---- in an open transaction

table_reply : (c : CoreState) (m : Plain) (told : List (Option Reply)) (s t : ℕ) (command : Command) (tr : Transaction) (xs ys : List (Option Reply)) → IsBefore c m told s command tr → table_of command ≡ Some t
    → refusals (schemas_of c.tables) (in_use m s tr t) s (with_use m tr t) command ≡ refused_before_use (in_use m s tr t) s t ++ xs → refusals_due c s command ≡ refusals_first c s ++ ys
    → first_of xs (granted (in_use m s tr t) (with_use m tr t) command) ≡ first_of ys (granted_due c s command) → reply_to c m s command ≡ reply_due c s command
table_reply c m told s t command tr xs ys at uses plain_is due_is rest =
    let used = ap (once_used m s (session_of m s)) uses ∙ used_at m s t tr at.stands.upkeep at.is in
    let session = session_in_use c m told s (plain.Open (with_use m tr t)) at.there at.stands in
    ap (λ (n : Plain). reply_of (schemas_of c.tables) n s command) used
    ∙ reply_by (schemas_of c.tables) (in_use m s tr t) s command (with_use m tr t) session
    ∙ ap (λ (list : List (Option Reply)). first_of list (granted (in_use m s tr t) (with_use m tr t) command)) plain_is
    ∙ opens_with (in_use m s tr t) s t (with_use m tr t) xs (granted (in_use m s tr t) (with_use m tr t) command) session at.stands.upkeep
    ∙ rest
    ∙ sym (opens_due c m s tr ys (granted_due c s command) (opened_at c m told s command tr at))
    ∙ sym (ap (λ (list : List (Option Reply)). first_of list (granted_due c s command)) due_is)

-- a command without a table uses none
pub none_used : (m : Plain) (s : ℕ) (session : Session) → once_used m s session None ≡ m
none_used m s plain.Outside = refl
none_used m s plain.Failed = refl
none_used m s (plain.Open t) = refl

handle_reply : (c : CoreState) (m : Plain) (told : List (Option Reply)) (s : ℕ) (command : Command) (tr : Transaction) (xs ys : List (Option Reply)) → IsBefore c m told s command tr → table_of command ≡ None
    → refusals (schemas_of c.tables) m s tr command ≡ outside m s ∷ failed m s ∷ xs → refusals_due c s command ≡ refusals_first c s ++ ys
    → first_of xs (granted m tr command) ≡ first_of ys (granted_due c s command) → reply_to c m s command ≡ reply_due c s command
handle_reply c m told s command tr xs ys at uses plain_is due_is rest =
    ap (λ (n : Plain). reply_of (schemas_of c.tables) n s command) (ap (once_used m s (session_of m s)) uses ∙ none_used m s (session_of m s))
    ∙ reply_by (schemas_of c.tables) m s command tr at.is
    ∙ ap (λ (list : List (Option Reply)). first_of list (granted m tr command)) plain_is
    ∙ opens m s tr xs (granted m tr command) at.is
    ∙ rest
    ∙ sym (opens_due c m s tr ys (granted_due c s command) (opened_at c m told s command tr at))
    ∙ sym (ap (λ (list : List (Option Reply)). first_of list (granted_due c s command)) due_is)

open_reply : (c : CoreState) (m : Plain) (told : List (Option Reply)) (s : ℕ) (command : Command) (tr : Transaction) → IsBefore c m told s command tr → is_data command ≡ true → IsFitting (schemas_of c.tables) command → reply_to c m s command ≡ reply_due c s command
open_reply c m told s (commands.Begin level) tr at is_one fits = absurd (cc)
open_reply c m told s commands.Commit tr at is_one fits = absurd (cc)
open_reply c m told s commands.Rollback tr at is_one fits = absurd (cc)
open_reply c m told s (commands.Get t key) tr at is_one fits = table_reply c m told s t (commands.Get t key) tr _ _ at refl refl refl (get_rest c m s t key tr (finds_at c m told s t (commands.Get t key) tr at (table_in c t fits)))
open_reply c m told s (commands.Part t key column offset len) tr at is_one fits =
    table_reply c m told s t (commands.Part t key column offset len) tr _ _ at refl refl refl (part_rest c m s t key column offset len tr (finds_at c m told s t (commands.Part t key column offset len) tr at (table_in c t fits.of_table)) fits.from_one)
open_reply c m told s (commands.Open name t key column) tr at is_one fits =
    table_reply c m told s t (commands.Open name t key column) tr _ _ at refl refl refl (open_rest c m s t name key column tr (finds_at c m told s t (commands.Open name t key column) tr at (table_in c t fits.of_table)) fits.from_one)
open_reply c m told s (commands.Fetch name offset len) tr at is_one fits = handle_reply c m told s (commands.Fetch name offset len) tr _ _ at refl refl refl (fetch_rest c m s name offset len tr (opened_at c m told s (commands.Fetch name offset len) tr at))
open_reply c m told s (commands.Close name) tr at is_one fits = handle_reply c m told s (commands.Close name) tr _ _ at refl refl refl (close_rest c m s name tr (opened_at c m told s (commands.Close name) tr at))
open_reply c m told s (commands.Insert t key row) tr at is_one fits =
    let of = table_in c t fits.0.of_table in
    let long : length row ≡ length (table_at c.tables t).rows.schema.storages = fits.0.one_each ∙ ap (λ (schema : TableSchema). length schema.storages) (schema_is c t of) in
    table_reply c m told s t (commands.Insert t key row) tr _ _ at refl refl refl (insert_rest c m s t key row tr (finds_at c m told s t (commands.Insert t key row) tr at of) long)
open_reply c m told s (commands.Update t key sets) tr at is_one fits = table_reply c m told s t (commands.Update t key sets) tr _ _ at refl refl refl (update_rest c m s t key sets tr (finds_at c m told s t (commands.Update t key sets) tr at (table_in c t fits.of_table)))
open_reply c m told s (commands.Delete t key) tr at is_one fits = table_reply c m told s t (commands.Delete t key) tr _ _ at refl refl refl (delete_rest c m s t key tr (finds_at c m told s t (commands.Delete t key) tr at (table_in c t fits)))
open_reply c m told s (commands.Rekey t from to sets) tr at is_one fits = table_reply c m told s t (commands.Rekey t from to sets) tr _ _ at refl refl refl (rekey_rest c m s t from to sets tr (finds_at c m told s t (commands.Rekey t from to sets) tr at (table_in c t fits.0.of_table)))
open_reply c m told s (commands.VacuumMain t) tr at is_one fits = absurd fits
open_reply c m told s (commands.VacuumToast t) tr at is_one fits = absurd fits
open_reply c m told s (commands.Rewrite t) tr at is_one fits = absurd fits

-- ---- in any state

-- what is due of a data command begins with these two
pub record BeginsDue (c : CoreState) (s : ℕ) (command : Command) : Type 0 where
  pub rest : List (Option Reply)
  pub is : refusals_due c s command ≡ refusals_first c s ++ rest

pub begins_due : (c : CoreState) (s : ℕ) (command : Command) → is_data command ≡ true → BeginsDue c s command
begins_due c s (commands.Begin level) e = absurd (cc)
begins_due c s commands.Commit e = absurd (cc)
begins_due c s commands.Rollback e = absurd (cc)
begins_due c s (commands.Get t key) e = record { rest = _; is = refl }
begins_due c s (commands.Part t key column offset len) e = record { rest = _; is = refl }
begins_due c s (commands.Open name t key column) e = record { rest = _; is = refl }
begins_due c s (commands.Fetch name offset len) e = record { rest = _; is = refl }
begins_due c s (commands.Close name) e = record { rest = _; is = refl }
begins_due c s (commands.Insert t key row) e = record { rest = _; is = refl }
begins_due c s (commands.Update t key sets) e = record { rest = _; is = refl }
begins_due c s (commands.Delete t key) e = record { rest = _; is = refl }
begins_due c s (commands.Rekey t from to sets) e = record { rest = _; is = refl }
begins_due c s (commands.VacuumMain t) e = absurd (cc)
begins_due c s (commands.VacuumToast t) e = absurd (cc)
begins_due c s (commands.Rewrite t) e = absurd (cc)

pub due_outside : (c : CoreState) (s : ℕ) (command : Command) → is_data command ≡ true → state_at c s ≡ states.Outside → reply_due c s command ≡ replies.Outside
due_outside c s command is_one is =
    let begins = begins_due c s command is_one in
    ap (λ (list : List (Option Reply)). first_of list (granted_due c s command)) begins.is
    ∙ first_stops (outside_due (state_at c s)) (failed_due (state_at c s) ∷ begins.rest) (granted_due c s command) replies.Outside (ap outside_due is)

pub due_failed : (c : CoreState) (s : ℕ) (command : Command) → is_data command ≡ true → state_at c s ≡ states.Failed → reply_due c s command ≡ replies.Failed
due_failed c s command is_one is =
    let begins = begins_due c s command is_one in
    ap (λ (list : List (Option Reply)). first_of list (granted_due c s command)) begins.is
    ∙ first_passes (outside_due (state_at c s)) (failed_due (state_at c s) ∷ begins.rest) (granted_due c s command) (ap outside_due is)
    ∙ first_stops (failed_due (state_at c s)) begins.rest (granted_due c s command) replies.Failed (ap failed_due is)

-- an open session of the core is open in the plain store
pub record HasOpen (m : Plain) (s : ℕ) : Type 0 where
  pub transaction : Transaction
  pub is : session_of m s ≡ plain.Open transaction

pub has_open : (c : CoreState) (m : Plain) (told : List (Option Reply)) (s : ℕ) → IsSession c.seats s → Stands c m told → is_open (state_at c s) ≡ true → HasOpen m s
has_open c m told s there stands opened =
    let its = its_session c s m told there stands in
    by (state_at c s) its.session opened its.stands (session_at_place m s its.session its.from_one its.at)
  where
    by : (state : State) (session : Session) → is_open state ≡ true → SessionStands c.xacts c.snaps (held_by c.locks s) c.log.entries c.tables m.latest (seat_of c s) state session → session_of m s ≡ session → HasOpen m s
    by states.Outside session e old is = absurd (cc)
    by states.Failed session e old is = absurd (cc)
    by (states.Open level xid snapshot) plain.Outside e old is = absurd old
    by (states.Open level xid snapshot) plain.Failed e old is = absurd old
    by (states.Open level xid snapshot) (plain.Open t) e old is = record { transaction = t; is = is }

data_reply : (c : CoreState) (m : Plain) (told : List (Option Reply)) (s : ℕ) (command : Command) → IsSession c.seats s → IsSound c → PartsAreSound c → (seat_of c s).job ≡ jobs.Submitted command → Stands c m told → is_data command ≡ true → reply_to c m s command ≡ reply_due c s command
data_reply c m told s command there sound parts job stands is_one = by (state_at c s) refl
  where
    its : ItsSession c m s
    its = its_session c s m told there stands

    by : (state : State) → state_at c s ≡ state → reply_to c m s command ≡ reply_due c s command
    by states.Outside is = ap (λ (a : Answered). a.reply) (data_outside (schemas_of c.tables) m s command is_one (outside_of c s m is its)) ∙ sym (due_outside c s command is_one is)
    by states.Failed is = ap (λ (a : Answered). a.reply) (data_failed (schemas_of c.tables) m s command is_one (failed_of c s m is its)) ∙ sym (due_failed c s command is_one is)
    by (states.Open level xid snapshot) is =
        let opened = has_open c m told s there stands (ap is_open is) in
        open_reply c m told s command opened.transaction (record { there = there; sound = sound; parts = parts; job = job; stands = stands; is = opened.is }) is_one (fits_at c s command there sound job)

-- a begin, a commit and a rollback
pub begin_due : (c : CoreState) (s : ℕ) (level : Level) (b : Bool) → is_outside (state_at c s) ≡ b → reply_due c s (commands.Begin level) ≡ first_of (answers_if (not b) replies.Inside ∷ []) replies.Okay
begin_due c s level b e = ap (λ (x : Bool). first_of (answers_if (not x) replies.Inside ∷ []) replies.Okay) e

pub commit_due : (c : CoreState) (s : ℕ) (state : State) → state_at c s ≡ state → reply_due c s commands.Commit ≡ first_of (outside_due state ∷ rolled_back_due state ∷ []) replies.Okay
commit_due c s state e = ap (λ (x : State). first_of (outside_due x ∷ rolled_back_due x ∷ []) replies.Okay) e

pub rollback_due : (c : CoreState) (s : ℕ) (state : State) → state_at c s ≡ state → reply_due c s commands.Rollback ≡ first_of (outside_due state ∷ []) replies.Okay
rollback_due c s state e = ap (λ (x : State). first_of (outside_due x ∷ []) replies.Okay) e

pub inside_state : (c : CoreState) (s : ℕ) (state : State) → state_at c s ≡ state → (state ≡ states.Outside → ⊥) → state_at c s ≢ states.Outside
inside_state c s state is other e = other (sym is ∙ e)

begin_reply : (c : CoreState) (m : Plain) (told : List (Option Reply)) (s : ℕ) (level : Level) → IsSession c.seats s → Stands c m told → reply_to c m s (commands.Begin level) ≡ reply_due c s (commands.Begin level)
begin_reply c m told s level there stands = by (state_at c s) refl
  where
    its : ItsSession c m s
    its = its_session c s m told there stands

    inside : (state : State) → state_at c s ≡ state → (state ≡ states.Outside → ⊥) → is_outside state ≡ false → reply_to c m s (commands.Begin level) ≡ reply_due c s (commands.Begin level)
    inside state is other in_one =
        ap (λ (a : Answered). a.reply) (begin_inside (schemas_of c.tables) m s level its.session (session_at_place m s its.session its.from_one its.at) (inside_of c s m (inside_state c s state is other) its))
        ∙ sym (begin_due c s level false (ap is_outside is ∙ in_one))

    by : (state : State) → state_at c s ≡ state → reply_to c m s (commands.Begin level) ≡ reply_due c s (commands.Begin level)
    by states.Outside is = ap (λ (a : Answered). a.reply) (begin_outside (schemas_of c.tables) m s level (outside_of c s m is its)) ∙ sym (begin_due c s level true (ap is_outside is))
    by states.Failed is = inside states.Failed is (λ e. absurd (cc)) refl
    by (states.Open its_level xid snapshot) is = inside (states.Open its_level xid snapshot) is (λ e. absurd (cc)) refl

commit_reply : (c : CoreState) (m : Plain) (told : List (Option Reply)) (s : ℕ) → IsSession c.seats s → Stands c m told → reply_to c m s commands.Commit ≡ reply_due c s commands.Commit
commit_reply c m told s there stands = by (state_at c s) refl
  where
    its : ItsSession c m s
    its = its_session c s m told there stands

    by : (state : State) → state_at c s ≡ state → reply_to c m s commands.Commit ≡ reply_due c s commands.Commit
    by states.Outside is = ap (λ (a : Answered). a.reply) (commit_outside (schemas_of c.tables) m s (outside_of c s m is its)) ∙ sym (commit_due c s states.Outside is)
    by states.Failed is = ap (λ (a : Answered). a.reply) (commit_failed (schemas_of c.tables) m s (failed_of c s m is its)) ∙ sym (commit_due c s states.Failed is)
    by (states.Open level xid snapshot) is =
        let opened = has_open c m told s there stands (ap is_open is) in
        ap (λ (a : Answered). a.reply) (commit_open (schemas_of c.tables) m s opened.transaction opened.is) ∙ sym (commit_due c s (states.Open level xid snapshot) is)

rollback_reply : (c : CoreState) (m : Plain) (told : List (Option Reply)) (s : ℕ) → IsSession c.seats s → Stands c m told → reply_to c m s commands.Rollback ≡ reply_due c s commands.Rollback
rollback_reply c m told s there stands = by (state_at c s) refl
  where
    its : ItsSession c m s
    its = its_session c s m told there stands

    inside : (state : State) → state_at c s ≡ state → (state ≡ states.Outside → ⊥) → first_of (outside_due state ∷ []) replies.Okay ≡ replies.Okay → reply_to c m s commands.Rollback ≡ reply_due c s commands.Rollback
    inside state is other due =
        ap (λ (a : Answered). a.reply) (rollback_inside (schemas_of c.tables) m s its.session (session_at_place m s its.session its.from_one its.at) (inside_of c s m (inside_state c s state is other) its))
        ∙ sym (rollback_due c s state is ∙ due)

    by : (state : State) → state_at c s ≡ state → reply_to c m s commands.Rollback ≡ reply_due c s commands.Rollback
    by states.Outside is = ap (λ (a : Answered). a.reply) (rollback_outside (schemas_of c.tables) m s (outside_of c s m is its)) ∙ sym (rollback_due c s states.Outside is)
    by states.Failed is = inside states.Failed is (λ e. absurd (cc)) refl
    by (states.Open level xid snapshot) is = inside (states.Open level xid snapshot) is (λ e. absurd (cc)) refl

pub reply_is : (c : CoreState) (s : ℕ) (command : Command) (m : Plain) (told : List (Option Reply)) → IsSession c.seats s → IsSound c → PartsAreSound c → (seat_of c s).job ≡ jobs.Submitted command → Stands c m told → reply_to c m s command ≡ reply_due c s command
reply_is c s (commands.Begin level) m told there sound parts job stands = begin_reply c m told s level there stands
reply_is c s commands.Commit m told there sound parts job stands = commit_reply c m told s there stands
reply_is c s commands.Rollback m told there sound parts job stands = rollback_reply c m told s there stands
reply_is c s (commands.VacuumMain t) m told there sound parts job stands = absurd (fits_at c s (commands.VacuumMain t) there sound job)
reply_is c s (commands.VacuumToast t) m told there sound parts job stands = absurd (fits_at c s (commands.VacuumToast t) there sound job)
reply_is c s (commands.Rewrite t) m told there sound parts job stands = absurd (fits_at c s (commands.Rewrite t) there sound job)
reply_is c s (commands.Get t key) m told there sound parts job stands = data_reply c m told s (commands.Get t key) there sound parts job stands refl
reply_is c s (commands.Part t key column offset len) m told there sound parts job stands = data_reply c m told s (commands.Part t key column offset len) there sound parts job stands refl
reply_is c s (commands.Open name t key column) m told there sound parts job stands = data_reply c m told s (commands.Open name t key column) there sound parts job stands refl
reply_is c s (commands.Fetch name offset len) m told there sound parts job stands = data_reply c m told s (commands.Fetch name offset len) there sound parts job stands refl
reply_is c s (commands.Close name) m told there sound parts job stands = data_reply c m told s (commands.Close name) there sound parts job stands refl
reply_is c s (commands.Insert t key row) m told there sound parts job stands = data_reply c m told s (commands.Insert t key row) there sound parts job stands refl
reply_is c s (commands.Update t key sets) m told there sound parts job stands = data_reply c m told s (commands.Update t key sets) there sound parts job stands refl
reply_is c s (commands.Delete t key) m told there sound parts job stands = data_reply c m told s (commands.Delete t key) there sound parts job stands refl
reply_is c s (commands.Rekey t from to sets) m told there sound parts job stands = data_reply c m told s (commands.Rekey t from to sets) there sound parts job stands refl
