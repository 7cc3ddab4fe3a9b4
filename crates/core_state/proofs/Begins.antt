-- What a moment does that changes only what its session is in, in terms of the plain store's answer.
use Rattle.std.proofs.Common.{ap, refl, subst, sym, ◌∙◌, arith}
use Rattle.std.proofs.lemmas.List.{length-set}
use Rattle.std.specs.Ordering.{nat_cmp}
use Rattle.std.specs.Prelude.{List, None, Option, Some, [], false, length, option_map, slice_set, true, ℕ, ◌-◌, ◌<◌, ◌≡◌, ◌≢◌, suc}
use Rattle.list_facts.proofs.Changed.{get_set_other}
use Rattle.tuple_layout.specs.Places.{Rows}
use Rattle.lock_table.specs.Held.{holds_row, holds_table, nothing}
use Rattle.lock_table.specs.Locks.{held_by}
use Rattle.lock_table.specs.declared.held.SessionLocks.{SessionLocks}
use Rattle.lock_table.specs.declared.lock.LockMode.TheVariants.{Use}
use Rattle.command_set.specs.Answers.{answer}
use Rattle.command_set.specs.Journals.{is_data}
use Rattle.command_set.specs.Plain.{session_of, with_session}
use Rattle.command_set.specs.Replies.{is_outside, new_transaction}
use Rattle.command_set.specs.declared.Command.{Command}
use Rattle.command_set.specs.declared.Level.{Level}
use Rattle.command_set.specs.declared.Reply.{Reply}
use Rattle.command_set.specs.declared.state.Answered.{Answered}
use Rattle.command_set.specs.declared.state.Plain.{Plain}
use Rattle.command_set.specs.declared.state.Session.{Session}
use Rattle.core_state.specs.Begun.{begun}
use Rattle.core_state.specs.Events.{left, left_by, job_left}
use Rattle.core_state.proofs.Answered.{answered, begin_inside, begin_outside, commit_failed, commit_outside, data_failed, data_outside, rollback_inside, rollback_outside, session_at_place, sessions_same, sessions_set}
use Rattle.core_state.proofs.Seats.{seat_written, sound_of}
use Rattle.core_state.proofs.Standing.{ItsSession, its_session, session_by, stands_seated}
use Rattle.core_state.specs.Facts.{IsSound}
use Rattle.core_state.specs.Lines.{after_over}
use Rattle.core_state.specs.Moves.{Runs, Says}
use Rattle.core_state.specs.Stands.{SessionStands, Stands, TransactionStands, coming}
use Rattle.core_state.specs.State.{CoreState, IsSession, handle_of, is_open, schemas_of, seat_of}
use Rattle.core_state.specs.Views.{held_value}
use Rattle.core_state.specs.declared.seat.Handle.{Handle}
use Rattle.core_state.specs.declared.seat.Seat.{Seat}
use Rattle.core_state.specs.declared.seat.State.{State}
use Rattle.command_set.specs.declared.Command.TheVariants as commands
use Rattle.command_set.specs.declared.Reply.TheVariants as replies
use Rattle.command_set.specs.declared.state.Session.TheVariants as plain
use Rattle.core_state.specs.declared.advance.Advance.TheVariants as advances
use Rattle.core_state.specs.declared.seat.Job.TheVariants as jobs
use Rattle.core_state.specs.declared.seat.State.TheVariants as states
use Rattle.std.specs.FinMap as map

-- a session that stands as one that is in no transaction, in a failed one, or in an open one
outside_by : (c : CoreState) (held : SessionLocks) (latest : Rows) (seat : Seat) (state : State) (session : Session) → state ≡ states.Outside → SessionStands c.xacts c.snaps held c.log.entries c.tables latest seat state session → session ≡ plain.Outside
outside_by c held latest seat states.Outside plain.Outside is stands = refl
outside_by c held latest seat states.Outside plain.Failed is stands = absurd stands
outside_by c held latest seat states.Outside (plain.Open t) is stands = absurd stands
outside_by c held latest seat states.Failed session is stands = absurd (cc)
outside_by c held latest seat (states.Open level xid snapshot) session is stands = absurd (cc)

failed_by : (c : CoreState) (held : SessionLocks) (latest : Rows) (seat : Seat) (state : State) (session : Session) → state ≡ states.Failed → SessionStands c.xacts c.snaps held c.log.entries c.tables latest seat state session → session ≡ plain.Failed
failed_by c held latest seat states.Failed plain.Outside is stands = absurd stands
failed_by c held latest seat states.Failed plain.Failed is stands = refl
failed_by c held latest seat states.Failed (plain.Open t) is stands = absurd stands
failed_by c held latest seat states.Outside session is stands = absurd (cc)
failed_by c held latest seat (states.Open level xid snapshot) session is stands = absurd (cc)

inside_by : (c : CoreState) (held : SessionLocks) (latest : Rows) (seat : Seat) (state : State) (session : Session) → state ≢ states.Outside → SessionStands c.xacts c.snaps held c.log.entries c.tables latest seat state session → is_outside session ≡ false
inside_by c held latest seat states.Outside session inside stands = absurd (inside refl)
inside_by c held latest seat states.Failed plain.Outside inside stands = absurd stands
inside_by c held latest seat states.Failed plain.Failed inside stands = refl
inside_by c held latest seat states.Failed (plain.Open t) inside stands = refl
inside_by c held latest seat (states.Open level xid snapshot) plain.Outside inside stands = absurd stands
inside_by c held latest seat (states.Open level xid snapshot) plain.Failed inside stands = refl
inside_by c held latest seat (states.Open level xid snapshot) (plain.Open t) inside stands = refl

pub outside_of : (c : CoreState) (s : ℕ) (m : Plain) → (seat_of c s).state ≡ states.Outside → ItsSession c m s → session_of m s ≡ plain.Outside
outside_of c s m is its = session_at_place m s its.session its.from_one its.at ∙ outside_by c (held_by c.locks s) m.latest (seat_of c s) (seat_of c s).state its.session is its.stands

pub failed_of : (c : CoreState) (s : ℕ) (m : Plain) → (seat_of c s).state ≡ states.Failed → ItsSession c m s → session_of m s ≡ plain.Failed
failed_of c s m is its = session_at_place m s its.session its.from_one its.at ∙ failed_by c (held_by c.locks s) m.latest (seat_of c s) (seat_of c s).state its.session is its.stands

pub inside_of : (c : CoreState) (s : ℕ) (m : Plain) → (seat_of c s).state ≢ states.Outside → (its : ItsSession c m s) → is_outside its.session ≡ false
inside_of c s m inside its = inside_by c (held_by c.locks s) m.latest (seat_of c s) (seat_of c s).state its.session inside its.stands

-- ---- moments with which a command is over

-- what a moment makes of one state of the plain store
pub record RunsTo (c : CoreState) (s : ℕ) (command : Command) (new : CoreState) (reply : Reply) (m : Plain) (told : List (Option Reply)) : Type 0 where
  pub next : Plain
  pub is : answer (schemas_of c.tables) m s command ≡ answered reply next
  pub stands : Stands new next (slice_set told (s - 1) (Some reply))

-- a moment, from what it makes of each
pub runs_over : (c : CoreState) (s : ℕ) (command : Command) (new : CoreState) (reply : Reply) → (seat_of new s).job ≡ jobs.Idle
    → ((m : Plain) (told : List (Option Reply)) → s - 1 < length told → Stands c m told → RunsTo c s command new reply m told) → Runs c s command new (advances.Done reply)
runs_over c s command new reply over each m told counted stands =
    let ran = each m told counted stands in
    subst (λ (a : Answered). Stands new a.after (slice_set told (s - 1) (Some a.reply)) × Says command (seat_of new s).job (advances.Done reply) a.reply) (sym ran.is) (ran.stands, (refl, over))

job_over : (c : CoreState) (s : ℕ) (state : State) → IsSession c.seats s → (seat_of (after_over c s state) s).job ≡ jobs.Idle
job_over c s state there = ap (λ (seat : Seat). seat.job) (seat_written c.seats s (record (seat_of c s) { state = state; job = jobs.Idle }) there)

-- a refusal that changes nothing
pub refuses : (c : CoreState) (s : ℕ) (command : Command) (reply : Reply) → IsSession c.seats s → (seat_of c s).job ≡ jobs.Submitted command
    → ((m : Plain) → ItsSession c m s → answer (schemas_of c.tables) m s command ≡ answered reply m) → Runs c s command (after_over c s (seat_of c s).state) (advances.Done reply)
refuses c s command reply there is each =
    runs_over c s command (after_over c s (seat_of c s).state) reply (job_over c s (seat_of c s).state there)
    (λ m told counted stands.
    let its = its_session c s m told there stands in
    record {
      next = m;
      is = each m its;
      stands = stands_seated c s (record (seat_of c s) { job = jobs.Idle }) m m told (slice_set told (s - 1) (Some reply)) its.session there stands refl refl refl (sessions_same m s its.session its.at)
          (session_by c.xacts c.snaps (held_by c.locks s) c.log.entries c.tables m.latest (seat_of c s) jobs.Idle (seat_of c s).state its.session (sym (ap (coming c.tables) is)) its.stands)
          (λ said pends. absurd (cc)) (λ i differ. get_set_other told (s - 1) i (Some reply) differ);
    })

pub data_refused_outside : (c : CoreState) (s : ℕ) (command : Command) → IsSession c.seats s → (seat_of c s).job ≡ jobs.Submitted command → is_data command ≡ true → (seat_of c s).state ≡ states.Outside
    → Runs c s command (after_over c s (seat_of c s).state) (advances.Done replies.Outside)
data_refused_outside c s command there is data_is state = refuses c s command replies.Outside there is (λ m its. data_outside (schemas_of c.tables) m s command data_is (outside_of c s m state its))

pub data_refused_failed : (c : CoreState) (s : ℕ) (command : Command) → IsSession c.seats s → (seat_of c s).job ≡ jobs.Submitted command → is_data command ≡ true → (seat_of c s).state ≡ states.Failed
    → Runs c s command (after_over c s (seat_of c s).state) (advances.Done replies.Failed)
data_refused_failed c s command there is data_is state = refuses c s command replies.Failed there is (λ m its. data_failed (schemas_of c.tables) m s command data_is (failed_of c s m state its))

pub commit_refused : (c : CoreState) (s : ℕ) → IsSession c.seats s → (seat_of c s).job ≡ jobs.Submitted commands.Commit → (seat_of c s).state ≡ states.Outside
    → Runs c s commands.Commit (after_over c s (seat_of c s).state) (advances.Done replies.Outside)
commit_refused c s there is state = refuses c s commands.Commit replies.Outside there is (λ m its. commit_outside (schemas_of c.tables) m s (outside_of c s m state its))

pub rollback_refused : (c : CoreState) (s : ℕ) → IsSession c.seats s → (seat_of c s).job ≡ jobs.Submitted commands.Rollback → (seat_of c s).state ≡ states.Outside
    → Runs c s commands.Rollback (after_over c s (seat_of c s).state) (advances.Done replies.Outside)
rollback_refused c s there is state = refuses c s commands.Rollback replies.Outside there is (λ m its. rollback_outside (schemas_of c.tables) m s (outside_of c s m state its))

pub begin_refused : (c : CoreState) (s : ℕ) (level : Level) → IsSession c.seats s → (seat_of c s).job ≡ jobs.Submitted (commands.Begin level) → (seat_of c s).state ≢ states.Outside
    → Runs c s (commands.Begin level) (after_over c s (seat_of c s).state) (advances.Done replies.Inside)
begin_refused c s level there is inside = refuses c s (commands.Begin level) replies.Inside there is (λ m its. begin_inside (schemas_of c.tables) m s level its.session (session_at_place m s its.session its.from_one its.at) (inside_of c s m inside its))

-- ---- a session leaves a state with nothing for another

-- a moment that does so
turns : (c : CoreState) (s : ℕ) (command : Command) (reply : Reply) (state : State) (session : Session) → IsSession c.seats s → (seat_of c s).job ≡ jobs.Submitted command
    → ((m : Plain) → ItsSession c m s → answer (schemas_of c.tables) m s command ≡ answered reply (with_session m s session))
    → ((m : Plain) (told : List (Option Reply)) → Stands c m told → SessionStands c.xacts c.snaps (held_by c.locks s) c.log.entries c.tables m.latest (record (seat_of c s) { state = state; job = jobs.Idle }) state session)
    → Runs c s command (after_over c s state) (advances.Done reply)
turns c s command reply state session there is each own =
    runs_over c s command (after_over c s state) reply (job_over c s state there)
    (λ m told counted stands.
    let its = its_session c s m told there stands in
    record {
      next = with_session m s session;
      is = each m its;
      stands = stands_seated c s (record (seat_of c s) { state = state; job = jobs.Idle }) m (with_session m s session) told (slice_set told (s - 1) (Some reply)) session there stands refl refl (length-set m.sessions (s - 1) session)
          (sessions_set m s its.session session its.at) (own m told stands) (λ said pends. absurd (cc)) (λ i differ. get_set_other told (s - 1) i (Some reply) differ);
    })

pub commit_left : (c : CoreState) (s : ℕ) → IsSession c.seats s → (seat_of c s).job ≡ jobs.Submitted commands.Commit → (seat_of c s).state ≡ states.Failed
    → Runs c s commands.Commit (after_over c s states.Outside) (advances.Done replies.RolledBack)
commit_left c s there is state = turns c s commands.Commit replies.RolledBack states.Outside plain.Outside there is (λ m its. commit_failed (schemas_of c.tables) m s (failed_of c s m state its)) (λ m told stands. tt)

pub rollback_left : (c : CoreState) (s : ℕ) → IsSession c.seats s → (seat_of c s).job ≡ jobs.Submitted commands.Rollback → (seat_of c s).state ≡ states.Failed
    → Runs c s commands.Rollback (after_over c s states.Outside) (advances.Done replies.Okay)
rollback_left c s there is state =
    turns c s commands.Rollback replies.Okay states.Outside plain.Outside there is (λ m its. rollback_inside (schemas_of c.tables) m s its.session (session_at_place m s its.session its.from_one its.at) (ap is_outside (failed_by c (held_by c.locks s) m.latest (seat_of c s) (seat_of c s).state its.session state its.stands)))
    (λ m told stands. tt)

-- a transaction that has just begun stands for the plain store's new one
begun_stands : (c : CoreState) (s : ℕ) (level : Level) (m : Plain) (told : List (Option Reply)) (handles : List Handle) → held_by c.locks s ≡ nothing → handles ≡ [] → Stands c m told
    → TransactionStands c.xacts c.snaps (held_by c.locks s) c.log.entries c.tables m.latest (record { state = states.Open level None None; handles = handles; job = jobs.Idle }) level (new_transaction level)
begun_stands c s level m told handles held_is handles_are stands = record {
  level_is = refl;
  copy = tt;
  changes = refl;
  now = λ p. stands.latest p;
  used = λ table. sym (ap (λ (held : SessionLocks). holds_table held.tables (record { table = table; mode = Use })) held_is);
  claimed = λ p. sym (ap (λ (held : SessionLocks). holds_row held.rows (record { table = p.table; key = p.key })) held_is);
  handles = λ name. map.get-empty nat_cmp name ∙ sym (ap (λ (hs : List Handle). option_map (λ (handle : Handle). held_value c.tables handle.table handle.held) (handle_of hs name)) handles_are);
}

pub begin_granted : (c : CoreState) (s : ℕ) (level : Level) → IsSession c.seats s → (seat_of c s).job ≡ jobs.Submitted (commands.Begin level) → (seat_of c s).state ≡ states.Outside → IsSound c
    → Runs c s (commands.Begin level) (after_over c s (states.Open level None None)) (advances.Done replies.Okay)
begin_granted c s level there is state sound =
    let mine = sound_of c s there sound in
    let closed : is_open (seat_of c s).state ≡ false = ap is_open state in
    turns c s (commands.Begin level) replies.Okay (states.Open level None None) (plain.Open (new_transaction level)) there is (λ m its. begin_outside (schemas_of c.tables) m s level (outside_of c s m state its))
    (λ m told stands. begun_stands c s level m told (seat_of c s).handles (mine.locks.outside closed) (mine.handles.outside closed) stands)

-- what is left falls with a moment that ends its command
pub left_over : (c new : CoreState) (s : ℕ) (command : Command) → (seat_of c s).job ≡ jobs.Submitted command → (seat_of new s).job ≡ jobs.Idle → left new s < left c s
left_over c new s command is over =
    let none : left new s ≡ 0 = ap (left_by new s) over in
    let some : left c s ≡ suc (job_left c.tables (begun c s command)) = ap (left_by c s) is in
    omega (arith, none, some)
