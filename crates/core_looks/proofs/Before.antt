-- An open transaction before the moment of a command that uses a table: what the plain store is once the table is used.
use Rattle.std.proofs.Common.{Bool, ap, arith, refl, subst, ◌∙◌}
use Rattle.std.proofs.lemmas.List.{length-map}
use Rattle.std.proofs.lemmas.Option.{slice_get-map}
use Rattle.std.specs.List.{enumerate_from, find, list_any}
use Rattle.std.specs.Option.{option_map, unwrap_or}
use Rattle.std.specs.Prelude.{List, None, Option, Some, [], cond, false, if◌then◌else◌, is_some, not, suc, true, zero, ℕ, ◌&&◌, ◌++◌, ◌==◌, ◌∷◌, ◌≡◌}
use Rattle.tuple_layout.specs.Schemas.{TableSchema, no_columns}
use Rattle.lock_table.specs.Locks.{held_by}
use Rattle.command_set.specs.Answers.{once_used, with_use}
use Rattle.command_set.specs.Plain.{session_of, with_session}
use Rattle.command_set.specs.Replies.{answers_if, failed, first_of, granted, is_failed, is_outside, is_rewrite, locked, outside, refusals, refused_before_use, reply_of, rewriter_of, schema_of, transaction_of}
use Rattle.command_set.specs.declared.Command.{Command}
use Rattle.command_set.specs.declared.Level.{Level}
use Rattle.command_set.specs.declared.Reply.{Reply}
use Rattle.command_set.specs.declared.state.Plain.{Plain}
use Rattle.command_set.specs.declared.state.Running.{Running}
use Rattle.command_set.specs.declared.state.Session.{Session}
use Rattle.command_set.specs.declared.state.Transaction.{Transaction}
use Rattle.table_state.specs.declared.table.Table.{Table}
use Rattle.core_state.proofs.Answered.{session_at_place, sessions_set}
use Rattle.core_state.proofs.Lists.{read_there}
use Rattle.core_state.proofs.Seats.{sound_of}
use Rattle.core_state.proofs.Standing.{its_session}
use Rattle.core_state.specs.Commands.{IsFitting, IsTableIn}
use Rattle.core_state.specs.Facts.{IsSound, JobIsSound, PartsAreSound}
use Rattle.core_state.specs.Stands.{Stands}
use Rattle.core_state.specs.State.{CoreState, IsSession, IsTableOf, is_past_moment, no_table, schemas_of, seat_of, table_at}
use Rattle.core_state.specs.declared.seat.Job.{Job}
use Rattle.core_looks.proofs.Firsts.{first_passes}
use Rattle.core_looks.proofs.Sights.{state_at}
use Rattle.core_looks.proofs.Views.{IsOpenAs, open_as}
use Rattle.core_looks.specs.Due.{failed_due, outside_due, refusals_first}
use Rattle.command_set.specs.declared.Reply.TheVariants as replies
use Rattle.command_set.specs.declared.state.Session.TheVariants as plain
use Rattle.core_state.specs.declared.seat.Job.TheVariants as jobs
use Rattle.core_state.specs.declared.seat.State.TheVariants as states

-- a session of a sound core has a command submitted in an open transaction
pub record IsBefore (c : CoreState) (m : Plain) (replies : List (Option Reply)) (s : ℕ) (command : Command) (tr : Transaction) : Type 0 where
  pub there : IsSession c.seats s
  pub sound : IsSound c
  pub parts : PartsAreSound c
  pub job : (seat_of c s).job ≡ jobs.Submitted command
  pub stands : Stands c m replies
  pub is : session_of m s ≡ plain.Open tr

pub opened_at : (c : CoreState) (m : Plain) (replies : List (Option Reply)) (s : ℕ) (command : Command) (tr : Transaction) → IsBefore c m replies s command tr → IsOpenAs c m s tr
opened_at c m replies s command tr at = open_as c m replies s tr at.there at.stands at.is

pub before_at : (c : CoreState) (m : Plain) (replies : List (Option Reply)) (s : ℕ) (command : Command) (tr : Transaction) → IsBefore c m replies s command tr → is_past_moment (seat_of c s).job ≡ false
before_at c m replies s command tr at = ap is_past_moment at.job

-- the command is one that the core takes
pub fits_at : (c : CoreState) (s : ℕ) (command : Command) → IsSession c.seats s → IsSound c → (seat_of c s).job ≡ jobs.Submitted command → IsFitting (schemas_of c.tables) command
fits_at c s command there sound job = subst (λ (j : Job). JobIsSound c.xacts c.snaps c.ids (held_by c.locks s) c.tables s (seat_of c s) j) job (sound_of c s there sound).job

-- a table of the schemas is one of the core
pub table_in : (c : CoreState) (t : ℕ) → IsTableIn (schemas_of c.tables) t → IsTableOf c.tables t
table_in c t of =
    let high = of.within in
    let long = length-map c.tables (λ (table : Table). table.rows.schema) in
    record { from_one = of.from_one; within = omega (arith, high, long) }

pub schema_is : (c : CoreState) (t : ℕ) → IsTableOf c.tables t → schema_of (schemas_of c.tables) t ≡ (table_at c.tables t).rows.schema
schema_is c zero of =
    let low = of.from_one in
    absurd (omega (arith, low))
schema_is c (suc i) of =
    let high = of.within in
    ap (λ (o : Option TableSchema). unwrap_or o no_columns) (slice_get-map (λ (table : Table). table.rows.schema) c.tables i ∙ ap (option_map (λ (table : Table). table.rows.schema)) (read_there c.tables i no_table (omega (arith, high))))

-- ---- nobody is in the way of a use

none_found : {X : Type 0} (p : X → Bool) (xs : List X) → ((x : X) → p x ≡ false) → find p xs ≡ None
none_found p [] none = refl
none_found p (x ∷ xs) none = ap (λ (b : Bool). cond b (Some x) (find p xs)) (none x) ∙ none_found p xs none

and_false : (b : Bool) → (b && false) ≡ false
and_false true = refl
and_false false = refl

pub none_rewrites : (m : Plain) (s t : ℕ) → m.upkeep ≡ [] → rewriter_of m s t ≡ None
none_rewrites m s t none =
    ap (λ (upkeep : List Running). option_map (λ (n, session). n) (find (λ (n, session). not (n == s) && list_any (λ running. (running.session == n) && (running.table == t) && is_rewrite running.kind) upkeep) (enumerate_from 1 m.sessions))) none
    ∙ ap (option_map (λ (n, session). n)) (none_found (λ (n, session). not (n == s) && false) (enumerate_from 1 m.sessions) (λ (n, session). and_false (not (n == s))))

-- the state once the table is used
abbrev pub in_use : Plain → ℕ → Transaction → ℕ → Plain
in_use m s tr t = with_session m s (plain.Open (with_use m tr t))

pub used_at : (m : Plain) (s t : ℕ) (tr : Transaction) → m.upkeep ≡ [] → session_of m s ≡ plain.Open tr → once_used m s (session_of m s) (Some t) ≡ in_use m s tr t
used_at m s t tr none is =
    ap (λ (session : Session). once_used m s session (Some t)) is
    ∙ ap (λ (o : Option ℕ). if is_some o then m else in_use m s tr t) (none_rewrites m s t none)

-- its session has that transaction open
pub session_in_use : (c : CoreState) (m : Plain) (replies : List (Option Reply)) (s : ℕ) (new : Session) → IsSession c.seats s → Stands c m replies → session_of (with_session m s new) s ≡ new
session_in_use c m replies s new there stands =
    let its = its_session c s m replies there stands in
    session_at_place (with_session m s new) s new there.from_one (sessions_set m s its.session new its.at).own

-- the reply by its transaction
pub reply_by : (schemas : List TableSchema) (m : Plain) (s : ℕ) (command : Command) (tr : Transaction) → session_of m s ≡ plain.Open tr → reply_of schemas m s command ≡ first_of (refusals schemas m s tr command) (granted m tr command)
reply_by schemas m s command tr is = ap (λ (x : Session). first_of (refusals schemas m s (transaction_of x) command) (granted m (transaction_of x) command)) is

-- the first refusals of an open transaction pass
pub opens : (m : Plain) (s : ℕ) (tr : Transaction) (xs : List (Option Reply)) (g : Reply) → session_of m s ≡ plain.Open tr → first_of (outside m s ∷ failed m s ∷ xs) g ≡ first_of xs g
opens m s tr xs g is =
    first_passes (outside m s) (failed m s ∷ xs) g (ap (λ (x : Session). answers_if (is_outside x) replies.Outside) is)
    ∙ first_passes (failed m s) xs g (ap (λ (x : Session). answers_if (is_failed x) replies.Failed) is)

pub opens_with : (m : Plain) (s t : ℕ) (tr : Transaction) (xs : List (Option Reply)) (g : Reply) → session_of m s ≡ plain.Open tr → m.upkeep ≡ [] → first_of (refused_before_use m s t ++ xs) g ≡ first_of xs g
opens_with m s t tr xs g is none = opens m s tr (locked (rewriter_of m s t) ∷ xs) g is ∙ first_passes (locked (rewriter_of m s t)) xs g (ap locked (none_rewrites m s t none))

pub opens_by : (c : CoreState) (s : ℕ) (level : Level) (xid snapshot : Option ℕ) (xs : List (Option Reply)) (g : Reply) → state_at c s ≡ states.Open level xid snapshot → first_of (refusals_first c s ++ xs) g ≡ first_of xs g
opens_by c s level xid snapshot xs g is =
    first_passes (outside_due (state_at c s)) (failed_due (state_at c s) ∷ xs) g (ap outside_due is)
    ∙ first_passes (failed_due (state_at c s)) xs g (ap failed_due is)

pub opens_due : (c : CoreState) (m : Plain) (s : ℕ) (tr : Transaction) (xs : List (Option Reply)) (g : Reply) → IsOpenAs c m s tr → first_of (refusals_first c s ++ xs) g ≡ first_of xs g
opens_due c m s tr xs g opened = opens_by c s opened.level opened.xid opened.snapshot xs g opened.is
