-- What a core stands for after an event that leaves the rows.
use Rattle.std.proofs.Common.{ap, arith, inl, inr, refl, subst, sym, ◌∙◌}
use Rattle.std.proofs.lemmas.List.{length-set}
use Rattle.std.specs.Option.{unwrap_or}
use Rattle.std.specs.Prelude.{List, Option, Some, length, slice_get, slice_index_or, suc, ℕ, ◌++◌, ◌-◌, ◌<◌, ◌≤◌, ◌≡◌, ◌≢◌}
use Rattle.list_facts.proofs.Changed.{after_set}
use Rattle.tuple_layout.specs.Places.{Rows}
use Rattle.xact_status.specs.Xacts.{Xacts}
use Rattle.snapshot_registry.specs.Snapshots.{Snaps}
use Rattle.change_log.specs.declared.entry.LogEntry.{LogEntry}
use Rattle.lock_table.specs.Locks.{held_by}
use Rattle.lock_table.specs.declared.held.SessionLocks.{SessionLocks}
use Rattle.command_set.specs.Changes.{outcome}
use Rattle.command_set.specs.declared.Command.{Command}
use Rattle.command_set.specs.declared.Level.{Level}
use Rattle.command_set.specs.declared.Reply.{Reply}
use Rattle.command_set.specs.declared.state.Change.{Change}
use Rattle.command_set.specs.declared.state.Plain.{Plain}
use Rattle.command_set.specs.declared.state.Session.{Session}
use Rattle.command_set.specs.declared.state.Transaction.{Transaction}
use Rattle.table_state.specs.declared.table.Table.{Table}
use Rattle.core_state.proofs.Answered.{Sessions, sessions_same}
use Rattle.core_state.proofs.Lists.{read_there}
use Rattle.core_state.proofs.Seats.{number_at, place_within, seat_there}
use Rattle.core_state.specs.Lines.{after_submit, seated}
use Rattle.core_state.specs.Moves.{StandsOn}
use Rattle.core_state.specs.Stands.{SessionStands, Stands, TransactionStands, coming, logged_changes, pending_of}
use Rattle.core_state.specs.State.{CoreState, IsSession, seat_of, xid_of}
use Rattle.core_state.specs.Views.{in_sight, row_at}
use Rattle.core_state.specs.declared.seat.Job.{Job}
use Rattle.core_state.specs.declared.seat.Seat.{Seat}
use Rattle.core_state.specs.declared.seat.State.{State}
use Rattle.command_set.specs.declared.state.Session.TheVariants as plain
use Rattle.core_state.specs.declared.seat.Job.TheVariants as jobs
use Rattle.core_state.specs.declared.seat.State.TheVariants as states
use Rattle.std.specs.FinMap as map

-- an open transaction goes on to stand where its job has another that is to make the same change
transaction_by : (xacts : Xacts) (snaps : Snaps) (held : SessionLocks) (log : List LogEntry) (tables : List Table) (latest : Rows) (seat : Seat) (level : Level) (t : Transaction) (job : Job) → coming tables job ≡ coming tables seat.job
    → TransactionStands xacts snaps held log tables latest seat level t → TransactionStands xacts snaps held log tables latest (record seat { job = job }) level t
transaction_by xacts snaps held log tables latest seat level t job same old = record {
  level_is = old.level_is;
  copy = old.copy;
  changes = old.changes ∙ ap (λ (more : List Change). logged_changes tables log (xid_of seat.state) ++ more) (sym same);
  now = λ p. old.now p ∙ ap (λ (more : List Change). unwrap_or (outcome more p) (row_at tables (in_sight xacts seat.state) p)) (sym same);
  used = old.used;
  claimed = old.claimed;
  handles = old.handles;
}

pub session_by : (xacts : Xacts) (snaps : Snaps) (held : SessionLocks) (log : List LogEntry) (tables : List Table) (latest : Rows) (seat : Seat) (job : Job) (state : State) (session : Session) → coming tables job ≡ coming tables seat.job
    → SessionStands xacts snaps held log tables latest seat state session → SessionStands xacts snaps held log tables latest (record seat { job = job }) state session
session_by xacts snaps held log tables latest seat job states.Outside plain.Outside same old = tt
session_by xacts snaps held log tables latest seat job states.Outside plain.Failed same old = old
session_by xacts snaps held log tables latest seat job states.Outside (plain.Open t) same old = old
session_by xacts snaps held log tables latest seat job states.Failed plain.Outside same old = old
session_by xacts snaps held log tables latest seat job states.Failed plain.Failed same old = tt
session_by xacts snaps held log tables latest seat job states.Failed (plain.Open t) same old = old
session_by xacts snaps held log tables latest seat job (states.Open level xid snapshot) plain.Outside same old = old
session_by xacts snaps held log tables latest seat job (states.Open level xid snapshot) plain.Failed same old = old
session_by xacts snaps held log tables latest seat job (states.Open level xid snapshot) (plain.Open t) same old = transaction_by xacts snaps held log tables latest seat level t job same old

-- the session of the plain store at a session's place
pub record ItsSession (c : CoreState) (m : Plain) (s : ℕ) : Type 0 where
  pub session : Session
  pub from_one : 1 ≤ s
  pub at : slice_get m.sessions (s - 1) ≡ Some session
  pub stands : SessionStands c.xacts c.snaps (held_by c.locks s) c.log.entries c.tables m.latest (seat_of c s) (seat_of c s).state session

pub its_session : (c : CoreState) (s : ℕ) (m : Plain) (told : List (Option Reply)) → IsSession c.seats s → Stands c m told → ItsSession c m s
its_session c s m told there stands =
    let same = stands.count in
    let inside = place_within c.seats s there in
    let low : s - 1 < length m.sessions = omega (arith, same, inside) in
    let number = number_at s there.from_one in
    record {
      session = slice_index_or m.sessions (s - 1) plain.Outside;
      from_one = there.from_one;
      at = read_there m.sessions (s - 1) plain.Outside low;
      stands = subst (λ (n : ℕ). SessionStands c.xacts c.snaps (held_by c.locks n) c.log.entries c.tables m.latest (seat_of c s) (seat_of c s).state (slice_index_or m.sessions (s - 1) plain.Outside)) number
          (stands.sessions (s - 1) (seat_of c s) (slice_index_or m.sessions (s - 1) plain.Outside) (seat_there c.seats s there) (read_there m.sessions (s - 1) plain.Outside low));
    }

-- what a core stands for after an event of a session that changes no part but the seat
pub stands_seated : (c : CoreState) (s : ℕ) (seat : Seat) (m after : Plain) (told later : List (Option Reply)) (session : Session) → IsSession c.seats s → Stands c m told
    → after.latest ≡ m.latest → after.upkeep ≡ m.upkeep → length after.sessions ≡ length m.sessions → Sessions m after s session
    → SessionStands c.xacts c.snaps (held_by c.locks s) c.log.entries c.tables m.latest seat seat.state session
    → ((said : Reply) → pending_of c.tables seat.job ≡ Some said → slice_get later (s - 1) ≡ Some (Some said))
    → ((i : ℕ) → i ≢ s - 1 → slice_get later i ≡ slice_get told i)
    → Stands (seated c s seat) after later
stands_seated c s seat m after told later session there stands latest upkeep count those own says still = record {
  latest = λ p. ap (λ (rows : Rows). map.get rows p) latest ∙ stands.latest p;
  count = count ∙ stands.count ∙ sym (length-set c.seats (s - 1) seat);
  sessions = λ i other its at at_its. elim (after_set c.seats (s - 1) seat i other at) [
    | inl h ↦ here i other its h.0 h.1 at_its
    | inr h ↦ rw latest (stands.sessions i other its h.1 (sym (those.others i h.0) ∙ at_its))
  ];
  upkeep = upkeep ∙ stands.upkeep;
  pending = λ i other said at pends. elim (after_set c.seats (s - 1) seat i other at) [
    | inl h ↦ rw h.0 (says said (sym (ap (λ (x : Seat). pending_of c.tables x.job) h.1) ∙ pends))
    | inr h ↦ still i h.0 ∙ stands.pending i other said h.1 pends
  ];
}
  where
    some_is : (a b : Session) → Some a ≡ Some b → a ≡ b
    some_is a b e = cc

    here : (i : ℕ) (other : Seat) (its : Session) → i ≡ s - 1 → other ≡ seat → slice_get after.sessions i ≡ Some its
        → SessionStands c.xacts c.snaps (held_by c.locks (suc i)) c.log.entries c.tables after.latest other other.state its
    here i other its at is at_its =
        let number : s ≡ suc i = sym (ap suc at ∙ number_at s there.from_one) in
        let its_is : session ≡ its = some_is session its (sym those.own ∙ ap (slice_get after.sessions) (sym at) ∙ at_its) in
        let moved : SessionStands c.xacts c.snaps (held_by c.locks (suc i)) c.log.entries c.tables m.latest seat seat.state session = subst (λ (n : ℕ). SessionStands c.xacts c.snaps (held_by c.locks n) c.log.entries c.tables m.latest seat seat.state session) number own in
        let rows : SessionStands c.xacts c.snaps (held_by c.locks (suc i)) c.log.entries c.tables after.latest seat seat.state session = subst (λ (r : Rows). SessionStands c.xacts c.snaps (held_by c.locks (suc i)) c.log.entries c.tables r seat seat.state session) (sym latest) moved in
        let of_seat : SessionStands c.xacts c.snaps (held_by c.locks (suc i)) c.log.entries c.tables after.latest other other.state session = subst (λ (x : Seat). SessionStands c.xacts c.snaps (held_by c.locks (suc i)) c.log.entries c.tables after.latest x x.state session) (sym is) rows in
        subst (λ (x : Session). SessionStands c.xacts c.snaps (held_by c.locks (suc i)) c.log.entries c.tables after.latest other other.state x) its_is of_seat

-- a command is submitted
pub stands_submitted : (c : CoreState) (s : ℕ) (command : Command) → IsSession c.seats s → (seat_of c s).job ≡ jobs.Idle → StandsOn c (after_submit c s command)
stands_submitted c s command there is = record {
  stands = λ m told stands.
      let its = its_session c s m told there stands in
      stands_seated c s (record (seat_of c s) { job = jobs.Submitted command }) m m told told its.session there stands refl refl refl (sessions_same m s its.session its.at)
      (session_by c.xacts c.snaps (held_by c.locks s) c.log.entries c.tables m.latest (seat_of c s) (jobs.Submitted command) (seat_of c s).state its.session (sym (ap (coming c.tables) is)) its.stands)
      (λ said pends. absurd (cc)) (λ i differ. refl);
}
