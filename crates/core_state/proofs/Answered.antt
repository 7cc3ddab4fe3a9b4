-- What the plain store answers at a moment, by what the session is in.
use Rattle.std.proofs.Common.{◌≡◌, ◌≢◌, ◌<◌, ◌≤◌, ◌-◌, ℕ, Bool, true, false, List, [], ◌∷◌, Option, Some, None, refl, ap, ◌∙◌, arith, length, zero, suc, slice_get}
use Rattle.std.specs.Prelude.{not}
use Rattle.std.specs.Option.{unwrap_or}
use Rattle.list_facts.proofs.Changed.{get_set_same, get_set_other}
use Rattle.tuple_layout.specs.Schemas.{TableSchema}
use Rattle.command_set.specs.declared.state.Plain.{Plain}
use Rattle.command_set.specs.declared.state.Session.{Session}
use Rattle.command_set.specs.declared.state.Session.TheVariants as sessions
use Rattle.command_set.specs.declared.state.Transaction.{Transaction}
use Rattle.command_set.specs.declared.state.Answered.{Answered}
use Rattle.command_set.specs.Plain.{session_of, with_session}
use Rattle.command_set.proofs.Numbered.{nth_is}
use Rattle.command_set.specs.Replies.{refusals, granted, reply_of, first_of, answers_if, outside, failed, transaction_of, new_transaction, is_outside, is_failed}
use Rattle.command_set.specs.Answers.{answer, once_used, settled, with_transaction, committed, table_of}
use Rattle.command_set.specs.Journals.{is_data}
use Rattle.command_set.specs.declared.Level.{Level}
use Rattle.command_set.specs.declared.Command.{Command}
use Rattle.command_set.specs.declared.Command.TheVariants as commands
use Rattle.command_set.specs.declared.Reply.{Reply}
use Rattle.command_set.specs.declared.Reply.TheVariants as replies

abbrev pub answered : Reply → Plain → Answered
answered reply after = record { reply = reply; after = after }

-- the answer, once a state in which the command has used its table and its reply are known
pub answer_is : (schemas : List TableSchema) (m in_use : Plain) (s : ℕ) (command : Command) (reply : Reply) → once_used m s (session_of m s) (table_of command) ≡ in_use → reply_of schemas in_use s command ≡ reply
    → answer schemas m s command ≡ answered reply (settled in_use s command reply)
answer_is schemas m in_use s command reply used said =
    ap (λ (n : Plain). answered (reply_of schemas n s command) (settled n s command (reply_of schemas n s command))) used
    ∙ ap (λ (r : Reply). answered r (settled in_use s command r)) said

-- the reply, by what the session is in
reply_by : (schemas : List TableSchema) (m : Plain) (s : ℕ) (command : Command) (session : Session) → session_of m s ≡ session
    → reply_of schemas m s command ≡ first_of (refusals schemas m s (transaction_of session) command) (granted m (transaction_of session) command)
reply_by schemas m s command session is = ap (λ (x : Session). first_of (refusals schemas m s (transaction_of x) command) (granted m (transaction_of x) command)) is

outside_is : (m : Plain) (s : ℕ) (session : Session) → session_of m s ≡ session → outside m s ≡ answers_if (is_outside session) replies.Outside
outside_is m s session is = ap (λ (x : Session). answers_if (is_outside x) replies.Outside) is

failed_is : (m : Plain) (s : ℕ) (session : Session) → session_of m s ≡ session → failed m s ≡ answers_if (is_failed session) replies.Failed
failed_is m s session is = ap (λ (x : Session). answers_if (is_failed x) replies.Failed) is

-- a refusal that is there is the first
refused_first : (a : Option Reply) (rest : List (Option Reply)) (g r : Reply) → a ≡ Some r → first_of (a ∷ rest) g ≡ r
refused_first a rest g r e = rw e refl

-- one that is not there is passed over
passed : (a : Option Reply) (rest : List (Option Reply)) (g : Reply) → a ≡ None → first_of (a ∷ rest) g ≡ first_of rest g
passed a rest g e = rw e refl

-- a session is at its place
pub session_at_place : (m : Plain) (s : ℕ) (session : Session) → 1 ≤ s → slice_get m.sessions (s - 1) ≡ Some session → session_of m s ≡ session
session_at_place m s session from_one at = ap (λ (o : Option Session). unwrap_or o sessions.Outside) (nth_is m.sessions s from_one ∙ at)

-- the sessions of two states are the same but for one, which is this after
pub record Sessions (m after : Plain) (s : ℕ) (session : Session) : Type 0 where
  pub others : (i : ℕ) → i ≢ s - 1 → slice_get after.sessions i ≡ slice_get m.sessions i
  pub own : slice_get after.sessions (s - 1) ≡ Some session

pub sessions_same : (m : Plain) (s : ℕ) (session : Session) → slice_get m.sessions (s - 1) ≡ Some session → Sessions m m s session
sessions_same m s session at = record { others = λ i differ. refl; own = at }

pub within : {T : Type 0} (xs : List T) (i : ℕ) (x : T) → slice_get xs i ≡ Some x → i < length xs
within [] i x e = absurd (cc)
within (y ∷ xs) zero x e = omega arith
within (y ∷ xs) (suc i) x e =
    let h = within xs i x e in
    omega (arith, h)

pub sessions_set : (m : Plain) (s : ℕ) (old session : Session) → slice_get m.sessions (s - 1) ≡ Some old → Sessions m (with_session m s session) s session
sessions_set m s old session at = record {
  others = λ i differ. get_set_other m.sessions (s - 1) i session differ;
  own = get_set_same m.sessions (s - 1) session (within m.sessions (s - 1) old at);
}

pub sessions_then : (m n after : Plain) (s : ℕ) (x y : Session) → Sessions m n s x → Sessions n after s y → Sessions m after s y
sessions_then m n after s x y a b = record { others = λ i differ. b.others i differ ∙ a.others i differ; own = b.own }

-- a command without a table uses none
none_used : (m : Plain) (s : ℕ) (session : Session) → once_used m s session None ≡ m
none_used m s sessions.Outside = refl
none_used m s sessions.Failed = refl
none_used m s (sessions.Open t) = refl

-- begin
pub begin_outside : (schemas : List TableSchema) (m : Plain) (s : ℕ) (level : Level) → session_of m s ≡ sessions.Outside → answer schemas m s (commands.Begin level) ≡ answered replies.Okay (with_transaction m s (new_transaction level))
begin_outside schemas m s level is = answer_is schemas m m s (commands.Begin level) replies.Okay (none_used m s _) (ap (λ (x : Session). first_of (answers_if (not (is_outside x)) replies.Inside ∷ []) replies.Okay) is)

pub begin_inside : (schemas : List TableSchema) (m : Plain) (s : ℕ) (level : Level) (session : Session) → session_of m s ≡ session → is_outside session ≡ false → answer schemas m s (commands.Begin level) ≡ answered replies.Inside m
begin_inside schemas m s level session is inside = answer_is schemas m m s (commands.Begin level) replies.Inside (none_used m s _) (ap (λ (x : Session). first_of (answers_if (not (is_outside x)) replies.Inside ∷ []) replies.Okay) is ∙ ap (λ (b : Bool). first_of (answers_if (not b) replies.Inside ∷ []) replies.Okay) inside)

-- commit
pub commit_outside : (schemas : List TableSchema) (m : Plain) (s : ℕ) → session_of m s ≡ sessions.Outside → answer schemas m s commands.Commit ≡ answered replies.Outside m
commit_outside schemas m s is = answer_is schemas m m s commands.Commit replies.Outside (none_used m s _) (refused_first _ _ _ _ (outside_is m s _ is))

pub commit_failed : (schemas : List TableSchema) (m : Plain) (s : ℕ) → session_of m s ≡ sessions.Failed → answer schemas m s commands.Commit ≡ answered replies.RolledBack (with_session m s sessions.Outside)
commit_failed schemas m s is = answer_is schemas m m s commands.Commit replies.RolledBack (none_used m s _) (passed _ _ _ (outside_is m s _ is) ∙ refused_first _ _ _ _ (ap (λ (x : Session). answers_if (is_failed x) replies.RolledBack) is))

pub commit_open : (schemas : List TableSchema) (m : Plain) (s : ℕ) (t : Transaction) → session_of m s ≡ sessions.Open t → answer schemas m s commands.Commit ≡ answered replies.Okay (committed m s)
commit_open schemas m s t is = answer_is schemas m m s commands.Commit replies.Okay (none_used m s _) (passed _ _ _ (outside_is m s _ is) ∙ passed _ _ _ (ap (λ (x : Session). answers_if (is_failed x) replies.RolledBack) is))

-- rollback
pub rollback_outside : (schemas : List TableSchema) (m : Plain) (s : ℕ) → session_of m s ≡ sessions.Outside → answer schemas m s commands.Rollback ≡ answered replies.Outside m
rollback_outside schemas m s is = answer_is schemas m m s commands.Rollback replies.Outside (none_used m s _) (refused_first _ _ _ _ (outside_is m s _ is))

pub rollback_inside : (schemas : List TableSchema) (m : Plain) (s : ℕ) (session : Session) → session_of m s ≡ session → is_outside session ≡ false → answer schemas m s commands.Rollback ≡ answered replies.Okay (with_session m s sessions.Outside)
rollback_inside schemas m s session is inside = answer_is schemas m m s commands.Rollback replies.Okay (none_used m s _) (passed _ _ _ (outside_is m s session is ∙ ap (λ (b : Bool). answers_if b replies.Outside) inside))

-- a data command, outside a transaction or in a failed one, uses no table
used_outside : (m : Plain) (s : ℕ) (table : Option ℕ) → session_of m s ≡ sessions.Outside → once_used m s (session_of m s) table ≡ m
used_outside m s None is = none_used m s _
used_outside m s (Some table) is = ap (λ (x : Session). once_used m s x (Some table)) is

used_failed : (m : Plain) (s : ℕ) (table : Option ℕ) → session_of m s ≡ sessions.Failed → once_used m s (session_of m s) table ≡ m
used_failed m s None is = none_used m s _
used_failed m s (Some table) is = ap (λ (x : Session). once_used m s x (Some table)) is

-- the refusals of a data command begin with these two
pub record BeginsWith (refusals : List (Option Reply)) (m : Plain) (s : ℕ) : Type 0 where
  pub rest : List (Option Reply)
  pub is : refusals ≡ outside m s ∷ failed m s ∷ rest

data_begins : (schemas : List TableSchema) (m : Plain) (s : ℕ) (t : Transaction) (command : Command) → is_data command ≡ true → BeginsWith (refusals schemas m s t command) m s
data_begins schemas m s t (commands.Begin level) e = absurd (cc)
data_begins schemas m s t commands.Commit e = absurd (cc)
data_begins schemas m s t commands.Rollback e = absurd (cc)
data_begins schemas m s t (commands.Get table key) e = record { rest = _; is = refl }
data_begins schemas m s t (commands.Part table key column offset len) e = record { rest = _; is = refl }
data_begins schemas m s t (commands.Open handle table key column) e = record { rest = _; is = refl }
data_begins schemas m s t (commands.Fetch handle offset len) e = record { rest = _; is = refl }
data_begins schemas m s t (commands.Close handle) e = record { rest = _; is = refl }
data_begins schemas m s t (commands.Insert table key row) e = record { rest = _; is = refl }
data_begins schemas m s t (commands.Update table key sets) e = record { rest = _; is = refl }
data_begins schemas m s t (commands.Delete table key) e = record { rest = _; is = refl }
data_begins schemas m s t (commands.Rekey table from to sets) e = record { rest = _; is = refl }
data_begins schemas m s t (commands.VacuumMain table) e = absurd (cc)
data_begins schemas m s t (commands.VacuumToast table) e = absurd (cc)
data_begins schemas m s t (commands.Rewrite table) e = absurd (cc)

pub data_outside : (schemas : List TableSchema) (m : Plain) (s : ℕ) (command : Command) → is_data command ≡ true → session_of m s ≡ sessions.Outside → answer schemas m s command ≡ answered replies.Outside m
data_outside schemas m s command e is =
    let begins = data_begins schemas m s (transaction_of (session_of m s)) command e in
    answer_is schemas m m s command replies.Outside (used_outside m s _ is)
    (ap (λ (rs : List (Option Reply)). first_of rs (granted m (transaction_of (session_of m s)) command)) begins.is ∙ refused_first _ _ _ _ (outside_is m s _ is))

pub data_failed : (schemas : List TableSchema) (m : Plain) (s : ℕ) (command : Command) → is_data command ≡ true → session_of m s ≡ sessions.Failed → answer schemas m s command ≡ answered replies.Failed m
data_failed schemas m s command e is =
    let begins = data_begins schemas m s (transaction_of (session_of m s)) command e in
    answer_is schemas m m s command replies.Failed (used_failed m s _ is)
    (ap (λ (rs : List (Option Reply)). first_of rs (granted m (transaction_of (session_of m s)) command)) begins.is ∙ passed _ _ _ (outside_is m s _ is) ∙ refused_first _ _ _ _ (failed_is m s _ is))
