-- What a core stands for after an event that changes one session's seat and locks, and the registered snapshots.
use Rattle.std.proofs.Common.{ap, arith, inl, inr, subst, sym, ◌∙◌}
use Rattle.std.proofs.lemmas.List.{length-set}
use Rattle.std.specs.FinMap as map
use Rattle.std.specs.Prelude.{List, Option, Some, length, slice_get, suc, ℕ, ◌-◌, ◌≡◌, ◌≢◌}
use Rattle.list_facts.proofs.Changed.{after_set}
use Rattle.tuple_layout.specs.Places.{Rows}
use Rattle.xact_status.specs.Xacts.{Xacts}
use Rattle.snapshot_registry.specs.Snapshots.{Snaps}
use Rattle.snapshot_registry.specs.declared.Snapshot.{Snapshot}
use Rattle.change_log.specs.declared.entry.LogEntry.{LogEntry}
use Rattle.lock_table.specs.Locks.{held_by}
use Rattle.lock_table.specs.declared.held.SessionLocks.{SessionLocks}
use Rattle.command_set.specs.declared.Level.{Level}
use Rattle.command_set.specs.declared.Reply.{Reply}
use Rattle.command_set.specs.declared.state.Plain.{Plain}
use Rattle.command_set.specs.declared.state.Session.{Session}
use Rattle.command_set.specs.declared.state.Transaction.{Transaction}
use Rattle.table_state.specs.declared.table.Table.{Table}
use Rattle.core_state.proofs.Answered.{Sessions}
use Rattle.core_state.proofs.Seats.{number_at}
use Rattle.core_state.specs.Lines.{seated}
use Rattle.core_state.specs.Stands.{CopyStands, SessionStands, Stands, TransactionStands, pending_of}
use Rattle.core_state.specs.State.{CoreState, IsSession, snapshot_of}
use Rattle.core_state.specs.Views.{registered}
use Rattle.core_state.specs.declared.seat.Seat.{Seat}
use Rattle.core_state.specs.declared.seat.State.{State}
use Rattle.command_set.specs.declared.state.Session.TheVariants as plain
use Rattle.core_state.specs.declared.seat.State.TheVariants as states

transaction_snaps : (xacts : Xacts) (snaps later : Snaps) (held : SessionLocks) (log : List LogEntry) (tables : List Table) (latest : Rows) (seat : Seat) (level : Level) (t : Transaction) → registered later (snapshot_of seat.state) ≡ registered snaps (snapshot_of seat.state)
    → TransactionStands xacts snaps held log tables latest seat level t → TransactionStands xacts later held log tables latest seat level t
transaction_snaps xacts snaps later held log tables latest seat level t same old = record {
  level_is = old.level_is;
  copy = subst (λ (o : Option Snapshot). CopyStands xacts tables o t.base t.since) (sym same) old.copy;
  changes = old.changes;
  now = old.now;
  used = old.used;
  claimed = old.claimed;
  handles = old.handles;
}

-- a session goes on to stand where its transaction's snapshot is what it was
pub session_snaps : (xacts : Xacts) (snaps later : Snaps) (held : SessionLocks) (log : List LogEntry) (tables : List Table) (latest : Rows) (seat : Seat) (state : State) (session : Session) → registered later (snapshot_of seat.state) ≡ registered snaps (snapshot_of seat.state)
    → SessionStands xacts snaps held log tables latest seat state session → SessionStands xacts later held log tables latest seat state session
session_snaps xacts snaps later held log tables latest seat states.Outside plain.Outside same old = tt
session_snaps xacts snaps later held log tables latest seat states.Outside plain.Failed same old = old
session_snaps xacts snaps later held log tables latest seat states.Outside (plain.Open t) same old = old
session_snaps xacts snaps later held log tables latest seat states.Failed plain.Outside same old = old
session_snaps xacts snaps later held log tables latest seat states.Failed plain.Failed same old = tt
session_snaps xacts snaps later held log tables latest seat states.Failed (plain.Open t) same old = old
session_snaps xacts snaps later held log tables latest seat (states.Open level xid snapshot) plain.Outside same old = old
session_snaps xacts snaps later held log tables latest seat (states.Open level xid snapshot) plain.Failed same old = old
session_snaps xacts snaps later held log tables latest seat (states.Open level xid snapshot) (plain.Open t) same old = transaction_snaps xacts snaps later held log tables latest seat level t same old

pub stands_moved : (c : CoreState) (s : ℕ) (seat : Seat) (snaps : Snaps) (locks : List SessionLocks) (m after : Plain) (told later : List (Option Reply)) (session : Session) → IsSession c.seats s → Stands c m told
    → after.latest ≡ m.latest → after.upkeep ≡ m.upkeep → length after.sessions ≡ length m.sessions → Sessions m after s session
    → ((i : ℕ) (other : Seat) → suc i ≢ s → slice_get c.seats i ≡ Some other → registered snaps (snapshot_of other.state) ≡ registered c.snaps (snapshot_of other.state)) → ((other : ℕ) → other ≢ s → held_by locks other ≡ held_by c.locks other)
    → SessionStands c.xacts snaps (held_by locks s) c.log.entries c.tables m.latest seat seat.state session
    → ((said : Reply) → pending_of c.tables seat.job ≡ Some said → slice_get later (s - 1) ≡ Some (Some said))
    → ((i : ℕ) → i ≢ s - 1 → slice_get later i ≡ slice_get told i)
    → Stands (seated (record c { snaps = snaps; locks = locks }) s seat) after later
stands_moved c s seat snaps locks m after told later session there stands latest upkeep count those shown held own says still = record {
  latest = λ p. ap (λ (rows : Rows). map.get rows p) latest ∙ stands.latest p;
  count = count ∙ stands.count ∙ sym (length-set c.seats (s - 1) seat);
  sessions = λ i other its at at_its. elim (after_set c.seats (s - 1) seat i other at) [
    | inl h ↦ here i other its h.0 h.1 at_its
    | inr h ↦
        let differ : suc i ≢ s = λ e. h.0 (omega (arith, e)) in
        let was = stands.sessions i other its h.1 (sym (those.others i h.0) ∙ at_its) in
        let seen = session_snaps c.xacts c.snaps snaps (held_by c.locks (suc i)) c.log.entries c.tables m.latest other other.state its (shown i other differ h.1) was in
        let kept = subst (λ (its_locks : SessionLocks). SessionStands c.xacts snaps its_locks c.log.entries c.tables m.latest other other.state its) (sym (held (suc i) differ)) seen in
        subst (λ (rows : Rows). SessionStands c.xacts snaps (held_by locks (suc i)) c.log.entries c.tables rows other other.state its) (sym latest) kept
  ];
  upkeep = upkeep ∙ stands.upkeep;
  pending = λ i other said at pends. elim (after_set c.seats (s - 1) seat i other at) [
    | inl h ↦ rw h.0 (says said (sym (ap (λ (x : Seat). pending_of c.tables x.job) h.1) ∙ pends))
    | inr h ↦ still i h.0 ∙ stands.pending i other said h.1 pends
  ];
}
  where
    some_is : (a b : Session) → Some a ≡ Some b → a ≡ b
    some_is a b e = cc

    here : (i : ℕ) (other : Seat) (its : Session) → i ≡ s - 1 → other ≡ seat → slice_get after.sessions i ≡ Some its
        → SessionStands c.xacts snaps (held_by locks (suc i)) c.log.entries c.tables after.latest other other.state its
    here i other its at is at_its =
        let number : s ≡ suc i = sym (ap suc at ∙ number_at s there.from_one) in
        let its_is : session ≡ its = some_is session its (sym those.own ∙ ap (slice_get after.sessions) (sym at) ∙ at_its) in
        let moved : SessionStands c.xacts snaps (held_by locks (suc i)) c.log.entries c.tables m.latest seat seat.state session = subst (λ (n : ℕ). SessionStands c.xacts snaps (held_by locks n) c.log.entries c.tables m.latest seat seat.state session) number own in
        let rows : SessionStands c.xacts snaps (held_by locks (suc i)) c.log.entries c.tables after.latest seat seat.state session = subst (λ (r : Rows). SessionStands c.xacts snaps (held_by locks (suc i)) c.log.entries c.tables r seat seat.state session) (sym latest) moved in
        let of_seat : SessionStands c.xacts snaps (held_by locks (suc i)) c.log.entries c.tables after.latest other other.state session = subst (λ (x : Seat). SessionStands c.xacts snaps (held_by locks (suc i)) c.log.entries c.tables after.latest x x.state session) (sym is) rows in
        subst (λ (x : Session). SessionStands c.xacts snaps (held_by locks (suc i)) c.log.entries c.tables after.latest other other.state x) its_is of_seat
