-- What a core stands for once a session's transaction has its xid, and once its write has begun.
use Rattle.std.proofs.Common.{ap, arith, inl, inr, refl, subst, sym, ◌∙◌}
use Rattle.std.proofs.lemmas.Bool.Decides.{nat_tests}
use Rattle.std.proofs.lemmas.List.{length-set}
use Rattle.std.specs.List.{cons_option, filter_map}
use Rattle.std.specs.Option.{unwrap_or}
use Rattle.std.specs.Prelude.{Bool, Contains, List, None, Option, Some, [], false, if◌then◌else◌, length, option_map, slice_get, slice_set, suc, true, ℕ, ℤ, ◌++◌, ◌-◌, ◌<◌, ◌==◌, ◌||◌, ◌∷◌, ◌≡◌, ◌≢◌}
use Rattle.list_facts.proofs.Changed.{after_set, get_set_other, get_set_same}
use Rattle.list_facts.proofs.Members.{first_in, later_in}
use Rattle.tuple_layout.specs.Places.{Rows}
use Rattle.tuple_layout.specs.declared.Place.{Place}
use Rattle.xact_status.specs.Xacts.{IsAssigned, Xacts, after_assign, next_xid}
use Rattle.snapshot_registry.proofs.Moments.{stays_assign}
use Rattle.snapshot_registry.specs.Snapshots.{Snaps, committed_in}
use Rattle.snapshot_registry.specs.declared.Snapshot.{Snapshot}
use Rattle.change_log.specs.declared.entry.LogEntry.{LogEntry}
use Rattle.lock_table.specs.Held.{holds_row, holds_table}
use Rattle.lock_table.specs.Locks.{held_by}
use Rattle.lock_table.specs.declared.held.SessionLocks.{SessionLocks}
use Rattle.lock_table.specs.declared.lock.LockMode.TheVariants.{Use}
use Rattle.lock_table.specs.declared.lock.TableLock.{TableLock}
use Rattle.command_set.proofs.Named.{named_append}
use Rattle.command_set.proofs.Outcomes.{fold_push, get_made}
use Rattle.command_set.specs.Answers.{with_change}
use Rattle.command_set.specs.Changes.{fold_changes, is_named, keys_of, outcome, places_of, said}
use Rattle.command_set.specs.Plain.{with_session}
use Rattle.command_set.specs.declared.Level.{Level}
use Rattle.command_set.specs.declared.Reply.{Reply}
use Rattle.command_set.specs.declared.state.Change.{Change}
use Rattle.command_set.specs.declared.state.Plain.{Plain}
use Rattle.command_set.specs.declared.state.Session.{Session}
use Rattle.command_set.specs.declared.state.Transaction.{Transaction}
use Rattle.table_rows.proofs.Records.{moments_tell, since_stays}
use Rattle.table_state.specs.Rows.{row_of}
use Rattle.table_state.specs.declared.table.Table.{Table}
use Rattle.write_steps.specs.Writes.{Writing}
use Rattle.core_state.proofs.Answered.{Sessions, sessions_set}
use Rattle.core_state.proofs.Seats.{number_at, seat_there}
use Rattle.core_state.specs.Coming.{xid_logged}
use Rattle.core_state.specs.Facts.{IsSound}
use Rattle.core_state.specs.Lines.{once_claimed, with_xid}
use Rattle.core_state.specs.Stands.{CopyStands, SessionStands, Stands, TransactionStands, change_logged, change_of, coming, logged_changes, pending_of}
use Rattle.core_state.specs.State.{CoreState, IsSession, is_past_moment, seat_of, snapshot_of, table_at, xid_of}
use Rattle.core_state.specs.Views.{in_sight, registered, row_at}
use Rattle.core_state.specs.declared.seat.Seat.{Seat}
use Rattle.core_state.specs.declared.seat.State.{State}
use Rattle.command_set.specs.declared.Reply.TheVariants as replies
use Rattle.command_set.specs.declared.state.Session.TheVariants as plain
use Rattle.core_state.specs.declared.seat.Job.TheVariants as jobs
use Rattle.core_state.specs.declared.seat.State.TheVariants as states
use Rattle.std.specs.FinMap as map
use Rattle.core_looks.specs.Due.{claim_of}
use Rattle.core_writes.proofs.Claims.{is_at_keys, others_claimed, rows_claimed, tables_claimed}
use Rattle.core_looks.proofs.Used.{same_tests}
use Rattle.core_looks.proofs.Views.{none_coming}
use Rattle.core_writes.proofs.Given.{counts_given, given_next, seat_given}
use Rattle.core_writes.proofs.Moment.{begun_claimed, seat_writing}
use Rattle.core_writes.proofs.Views.{given_pages}

-- ---- the xid

copy_given : (xacts : Xacts) (s : ℕ) (tables : List Table) (o : Option Snapshot) (base : Option Rows) (places : List Place) → CopyStands xacts tables o base places → CopyStands (after_assign xacts s) tables o base places
copy_given xacts s tables None None places old = tt
copy_given xacts s tables None (Some base) places old = old
copy_given xacts s tables (Some snapshot) None places old = old
copy_given xacts s tables (Some snapshot) (Some base) places old = record {
  rows = λ p. old.rows p ∙ ap (λ (counts : ℕ → Bool). row_at tables counts p) (sym (same_tests (committed_in (after_assign xacts s) snapshot) (committed_in xacts snapshot) (λ z. stays_assign xacts snapshot s z)));
  since = λ p. since_stays.assigned xacts snapshot s (table_at tables p.table).rows.pages p.key (is_named places p) (old.since p);
}

transaction_given : (xacts : Xacts) (s : ℕ) (snaps : Snaps) (held : SessionLocks) (log : List LogEntry) (tables : List Table) (latest : Rows) (seat : Seat) (level : Level) (t : Transaction)
    → TransactionStands xacts snaps held log tables latest seat level t → TransactionStands (after_assign xacts s) snaps held log tables latest seat level t
transaction_given xacts s snaps held log tables latest seat level t old = record {
  level_is = old.level_is;
  copy = copy_given xacts s tables (registered snaps (snapshot_of seat.state)) t.base t.since old.copy;
  changes = old.changes;
  now = λ p. old.now p ∙ ap (λ (counts : ℕ → Bool). unwrap_or (outcome (coming tables seat.job) p) (row_at tables counts p)) (sym (same_tests (in_sight (after_assign xacts s) seat.state) (in_sight xacts seat.state) (λ z. counts_given xacts s (xid_of seat.state) z)));
  used = old.used;
  claimed = old.claimed;
  handles = old.handles;
}

session_given : (xacts : Xacts) (s : ℕ) (snaps : Snaps) (held : SessionLocks) (log : List LogEntry) (tables : List Table) (latest : Rows) (seat : Seat) (state : State) (session : Session)
    → SessionStands xacts snaps held log tables latest seat state session → SessionStands (after_assign xacts s) snaps held log tables latest seat state session
session_given xacts s snaps held log tables latest seat states.Outside plain.Outside old = tt
session_given xacts s snaps held log tables latest seat states.Outside plain.Failed old = old
session_given xacts s snaps held log tables latest seat states.Outside (plain.Open t) old = old
session_given xacts s snaps held log tables latest seat states.Failed plain.Outside old = old
session_given xacts s snaps held log tables latest seat states.Failed plain.Failed old = tt
session_given xacts s snaps held log tables latest seat states.Failed (plain.Open t) old = old
session_given xacts s snaps held log tables latest seat (states.Open level xid snapshot) plain.Outside old = old
session_given xacts s snaps held log tables latest seat (states.Open level xid snapshot) plain.Failed old = old
session_given xacts s snaps held log tables latest seat (states.Open level xid snapshot) (plain.Open t) old = transaction_given xacts s snaps held log tables latest seat level t old

-- no entry is of an xid that was not given
no_changes : (tables : List Table) (xacts : Xacts) (log : List LogEntry) → ((entry : LogEntry) → Contains log entry → IsAssigned xacts (xid_logged entry)) → logged_changes tables log (Some (next_xid xacts)) ≡ []
no_changes tables xacts [] given = refl
no_changes tables xacts (entry ∷ log) given =
    let here = given entry (first_in entry log entry refl) in
    let low = here.below_next in
    let differ : xid_logged entry ≢ next_xid xacts = λ e. absurd (omega (arith, e, low)) in
    let apart : (xid_logged entry == next_xid xacts) ≡ false = grind (arith, nat_tests, differ) in
    let none : change_of tables (next_xid xacts) entry ≡ None = ap (λ (b : Bool). if b then change_logged tables entry else None) apart in
    ap (λ (o : Option Change). cons_option o (filter_map (change_of tables (next_xid xacts)) log)) none ∙ no_changes tables xacts log (λ other there. given other (later_in entry log other there))

own_given : (c : CoreState) (s : ℕ) (latest : Rows) (level : Level) (snapshot : Option ℕ) (t : Transaction) → IsSound c → (seat_of c s).state ≡ states.Open level None snapshot
    → TransactionStands c.xacts c.snaps (held_by c.locks s) c.log.entries c.tables latest (seat_of c s) level t
    → TransactionStands (after_assign c.xacts s) c.snaps (held_by c.locks s) c.log.entries c.tables latest (record (seat_of c s) { state = states.Open level (Some (next_xid c.xacts)) snapshot }) level t
own_given c s latest level snapshot t sound is old = record {
  level_is = old.level_is;
  copy = copy_given c.xacts s c.tables (registered c.snaps snapshot) t.base t.since (subst (λ (state : State). CopyStands c.xacts c.tables (registered c.snaps (snapshot_of state)) t.base t.since) is old.copy);
  changes = old.changes
      ∙ ap (λ (state : State). logged_changes c.tables c.log.entries (xid_of state) ++ coming c.tables (seat_of c s).job) is
      ∙ ap (λ (changes : List Change). changes ++ coming c.tables (seat_of c s).job) (sym (no_changes c.tables c.xacts c.log.entries sound.log.given));
  now = λ p. old.now p
      ∙ ap (λ (state : State). unwrap_or (outcome (coming c.tables (seat_of c s).job) p) (row_at c.tables (in_sight c.xacts state) p)) is
      ∙ ap (λ (o : Option (List ℕ)). unwrap_or (outcome (coming c.tables (seat_of c s).job) p) (option_map (row_of (table_at c.tables p.table).rows.schema.storages (table_at c.tables p.table).toast) o))
      (sym (moments_tell.new_at_start c.xacts s (table_at c.tables p.table).rows.pages p.key (given_pages c p.table sound)));
  used = old.used;
  claimed = old.claimed;
  handles = old.handles;
}

own_session_given : (c : CoreState) (s : ℕ) (latest : Rows) (state : State) (session : Session) → IsSound c → (seat_of c s).state ≡ state → xid_of state ≡ None
    → SessionStands c.xacts c.snaps (held_by c.locks s) c.log.entries c.tables latest (seat_of c s) state session
    → SessionStands (after_assign c.xacts s) c.snaps (held_by c.locks s) c.log.entries c.tables latest (record (seat_of c s) { state = with_xid state (next_xid c.xacts) }) (with_xid state (next_xid c.xacts)) session
own_session_given c s latest states.Outside plain.Outside sound is none old = tt
own_session_given c s latest states.Outside plain.Failed sound is none old = old
own_session_given c s latest states.Outside (plain.Open t) sound is none old = old
own_session_given c s latest states.Failed plain.Outside sound is none old = old
own_session_given c s latest states.Failed plain.Failed sound is none old = tt
own_session_given c s latest states.Failed (plain.Open t) sound is none old = old
own_session_given c s latest (states.Open level (Some x) snapshot) session sound is none old = absurd (cc)
own_session_given c s latest (states.Open level None snapshot) plain.Outside sound is none old = old
own_session_given c s latest (states.Open level None snapshot) plain.Failed sound is none old = old
own_session_given c s latest (states.Open level None snapshot) (plain.Open t) sound is none old = own_given c s latest level snapshot t sound is old

pub stands_given : (c : CoreState) (s : ℕ) (m : Plain) (told : List (Option Reply)) → IsSession c.seats s → IsSound c → xid_of (seat_of c s).state ≡ None → Stands c m told → Stands (given_next c s) m told
stands_given c s m told there sound none stands = record {
  latest = λ p. stands.latest p ∙ ap (option_map (row_of (table_at c.tables p.table).rows.schema.storages (table_at c.tables p.table).toast)) (sym (moments_tell.latest_at_start c.xacts s (table_at c.tables p.table).rows.pages p.key));
  count = stands.count ∙ sym (length-set c.seats (s - 1) (seat_given c s));
  sessions = λ i other its at at_its. elim (after_set c.seats (s - 1) (seat_given c s) i other at) [
    | inl h ↦ here i other its h.0 h.1 at_its
    | inr h ↦ session_given c.xacts s c.snaps (held_by c.locks (suc i)) c.log.entries c.tables m.latest other other.state its (stands.sessions i other its h.1 at_its)
  ];
  upkeep = stands.upkeep;
  pending = λ i other reply at pends. elim (after_set c.seats (s - 1) (seat_given c s) i other at) [
    | inl h ↦ stands.pending i (seat_of c s) reply (ap (slice_get c.seats) h.0 ∙ seat_there c.seats s there) (sym (ap (λ (seat : Seat). pending_of c.tables seat.job) h.1) ∙ pends)
    | inr h ↦ stands.pending i other reply h.1 pends
  ];
}
  where
    here : (i : ℕ) (other : Seat) (its : Session) → i ≡ s - 1 → other ≡ seat_given c s → slice_get m.sessions i ≡ Some its
        → SessionStands (after_assign c.xacts s) c.snaps (held_by c.locks (suc i)) c.log.entries c.tables m.latest other other.state its
    here i other its at is at_its =
        let number : suc i ≡ s = ap suc at ∙ number_at s there.from_one in
        let before : SessionStands c.xacts c.snaps (held_by c.locks (suc i)) c.log.entries c.tables m.latest (seat_of c s) (seat_of c s).state its = stands.sessions i (seat_of c s) its (ap (slice_get c.seats) at ∙ seat_there c.seats s there) at_its in
        let own : SessionStands c.xacts c.snaps (held_by c.locks s) c.log.entries c.tables m.latest (seat_of c s) (seat_of c s).state its = subst (λ (n : ℕ). SessionStands c.xacts c.snaps (held_by c.locks n) c.log.entries c.tables m.latest (seat_of c s) (seat_of c s).state its) number before in
        let after = own_session_given c s m.latest (seat_of c s).state its sound refl none own in
        let of_number : SessionStands (after_assign c.xacts s) c.snaps (held_by c.locks (suc i)) c.log.entries c.tables m.latest (seat_given c s) (seat_given c s).state its = subst (λ (n : ℕ). SessionStands (after_assign c.xacts s) c.snaps (held_by c.locks n) c.log.entries c.tables m.latest (seat_given c s) (seat_given c s).state its) (sym number) after in
        subst (λ (seat : Seat). SessionStands (after_assign c.xacts s) c.snaps (held_by c.locks (suc i)) c.log.entries c.tables m.latest seat seat.state its) (sym is) of_number

-- ---- the write

or_turn : (a b : Bool) → (a || b) ≡ (b || a)
or_turn true true = refl
or_turn true false = refl
or_turn false true = refl
or_turn false false = refl

or_assoc : (a b c : Bool) → (a || (b || c)) ≡ ((a || b) || c)
or_assoc true b c = refl
or_assoc false b c = refl

-- one change more names its places beside those before
named_push : (changes : List Change) (change : Change) (p : Place) → is_named (keys_of (changes ++ change ∷ [])) p ≡ (is_named (keys_of changes) p || is_named (places_of change) p)
named_push [] change p = named_append (places_of change) [] p ∙ or_turn (is_named (places_of change) p) false
named_push (first ∷ changes) change p =
    named_append (places_of first) (keys_of (changes ++ change ∷ [])) p
    ∙ ap (λ (b : Bool). is_named (places_of first) p || b) (named_push changes change p)
    ∙ or_assoc (is_named (places_of first) p) (is_named (keys_of changes) p) (is_named (places_of change) p)
    ∙ ap (λ (b : Bool). b || is_named (places_of change) p) (sym (named_append (places_of first) (keys_of changes) p))

append_none : {T : Type 0} (xs : List T) → xs ++ [] ≡ xs
append_none [] = refl
append_none (x ∷ xs) = ap (λ (ys : List _). x ∷ ys) (append_none xs)

-- what is known of a write's change: it is still to come, and names the keys that are claimed
pub record IsChangeOf (tables : List Table) (t : ℕ) (keys : List ℤ) (write : Writing) (change : Change) : Type 0 where
  pub comes : coming tables (jobs.Writing t write) ≡ change ∷ []
  pub names : (p : Place) → is_named (places_of change) p ≡ is_at_keys t keys (claim_of p.table p.key)

own_writing : (c : CoreState) (s t : ℕ) (keys : List ℤ) (write : Writing) (latest : Rows) (level : Level) (tr : Transaction) (change : Change) → is_past_moment (seat_of c s).job ≡ false → IsChangeOf c.tables t keys write change
    → TransactionStands c.xacts c.snaps (held_by c.locks s) c.log.entries c.tables latest (seat_of c s) level tr
    → TransactionStands c.xacts c.snaps (held_by (once_claimed c.locks s t keys) s) c.log.entries c.tables latest (seat_writing c s t write) level (with_change tr change)
own_writing c s t keys write latest level tr change before is old = record {
  level_is = old.level_is;
  copy = old.copy;
  changes = ap (λ (changes : List Change). changes ++ change ∷ []) (old.changes ∙ ap (λ (more : List Change). logged_changes c.tables c.log.entries (xid_of (seat_of c s).state) ++ more) none ∙ append_none (logged_changes c.tables c.log.entries (xid_of (seat_of c s).state)))
      ∙ ap (λ (more : List Change). logged_changes c.tables c.log.entries (xid_of (seat_of c s).state) ++ more) (sym is.comes);
  now = λ p.
      ap (λ (rows : Rows). map.get rows p) (fold_push tr.changes change latest)
      ∙ get_made change (fold_changes tr.changes latest) p
      ∙ ap (unwrap_or (said change p)) (old.now p ∙ ap (λ (more : List Change). unwrap_or (outcome more p) (row_at c.tables (in_sight c.xacts (seat_of c s).state) p)) none)
      ∙ ap (λ (more : List Change). unwrap_or (outcome more p) (row_at c.tables (in_sight c.xacts (seat_of c s).state) p)) (sym is.comes);
  used = λ table. old.used table ∙ ap (λ (tables : List TableLock). holds_table tables (record { table = table; mode = Use })) (sym (tables_claimed c.locks s t keys));
  claimed = λ p.
      named_push tr.changes change p
      ∙ ap (λ (b : Bool). b || is_named (places_of change) p) (old.claimed p)
      ∙ ap (λ (b : Bool). holds_row (held_by c.locks s).rows (claim_of p.table p.key) || b) (is.names p)
      ∙ or_turn (holds_row (held_by c.locks s).rows (claim_of p.table p.key)) (is_at_keys t keys (claim_of p.table p.key))
      ∙ sym (rows_claimed c.locks s t keys (claim_of p.table p.key));
  handles = old.handles;
}
  where
    none : coming c.tables (seat_of c s).job ≡ []
    none = none_coming c (seat_of c s).job before

session_writing : (c : CoreState) (s t : ℕ) (keys : List ℤ) (write : Writing) (latest : Rows) (state : State) (session : Session) (tr : Transaction) (change : Change) → is_past_moment (seat_of c s).job ≡ false → IsChangeOf c.tables t keys write change → session ≡ plain.Open tr
    → SessionStands c.xacts c.snaps (held_by c.locks s) c.log.entries c.tables latest (seat_of c s) state session
    → SessionStands c.xacts c.snaps (held_by (once_claimed c.locks s t keys) s) c.log.entries c.tables latest (seat_writing c s t write) state (plain.Open (with_change tr change))
session_writing c s t keys write latest state plain.Outside tr change before is opened old = absurd (cc)
session_writing c s t keys write latest state plain.Failed tr change before is opened old = absurd (cc)
session_writing c s t keys write latest states.Outside (plain.Open its) tr change before is opened old = absurd old
session_writing c s t keys write latest states.Failed (plain.Open its) tr change before is opened old = absurd old
session_writing c s t keys write latest (states.Open level xid snapshot) (plain.Open its) tr change before is opened old =
    let same : its ≡ tr = open_is its tr opened in
    own_writing c s t keys write latest level tr change before is (subst (TransactionStands c.xacts c.snaps (held_by c.locks s) c.log.entries c.tables latest (seat_of c s) level) same old)
  where
    open_is : (a b : Transaction) → plain.Open a ≡ plain.Open b → a ≡ b
    open_is a b e = cc

pub stands_claimed : (c : CoreState) (s t : ℕ) (keys : List ℤ) (write : Writing) (m : Plain) (told : List (Option Reply)) (tr : Transaction) (change : Change) → IsSession c.seats s → is_past_moment (seat_of c s).job ≡ false
    → IsChangeOf c.tables t keys write change → slice_get m.sessions (s - 1) ≡ Some (plain.Open tr) → s - 1 < length told → Stands c m told
    → Stands (begun_claimed c s t keys write) (with_session m s (plain.Open (with_change tr change))) (slice_set told (s - 1) (Some replies.Okay))
stands_claimed c s t keys write m told tr change there before is opened counted stands = record {
  latest = stands.latest;
  count = length-set m.sessions (s - 1) (plain.Open (with_change tr change)) ∙ stands.count ∙ sym (length-set c.seats (s - 1) (seat_writing c s t write));
  sessions = λ i other its at at_its. elim (after_set c.seats (s - 1) (seat_writing c s t write) i other at) [
    | inl h ↦ here i other its h.0 h.1 at_its
    | inr h ↦ subst (λ (held : SessionLocks). SessionStands c.xacts c.snaps held c.log.entries c.tables m.latest other other.state its) (sym (others_claimed c.locks s t keys (suc i) (apart i h.0)))
        (stands.sessions i other its h.1 (sym (those.others i h.0) ∙ at_its))
  ];
  upkeep = stands.upkeep;
  pending = λ i other reply at pends. elim (after_set c.seats (s - 1) (seat_writing c s t write) i other at) [
    | inl h ↦ ap (slice_get (slice_set told (s - 1) (Some replies.Okay))) h.0 ∙ get_set_same told (s - 1) (Some replies.Okay) counted ∙ ap Some (sym (ap (λ (seat : Seat). pending_of c.tables seat.job) h.1) ∙ pends)
    | inr h ↦ get_set_other told (s - 1) i (Some replies.Okay) h.0 ∙ stands.pending i other reply h.1 pends
  ];
}
  where
    those : Sessions m (with_session m s (plain.Open (with_change tr change))) s (plain.Open (with_change tr change))
    those = sessions_set m s (plain.Open tr) (plain.Open (with_change tr change)) opened

    apart : (i : ℕ) → i ≢ s - 1 → suc i ≢ s
    apart i differ e = differ (omega (arith, e))

    some_is : (a b : Session) → Some a ≡ Some b → a ≡ b
    some_is a b e = cc

    here : (i : ℕ) (other : Seat) (its : Session) → i ≡ s - 1 → other ≡ seat_writing c s t write → slice_get (slice_set m.sessions (s - 1) (plain.Open (with_change tr change))) i ≡ Some its
        → SessionStands c.xacts c.snaps (held_by (once_claimed c.locks s t keys) (suc i)) c.log.entries c.tables m.latest other other.state its
    here i other its at seat at_its =
        let number : suc i ≡ s = ap suc at ∙ number_at s there.from_one in
        let its_is : plain.Open (with_change tr change) ≡ its = some_is _ its (sym those.own ∙ ap (slice_get (slice_set m.sessions (s - 1) (plain.Open (with_change tr change)))) (sym at) ∙ at_its) in
        let was : SessionStands c.xacts c.snaps (held_by c.locks (suc (s - 1))) c.log.entries c.tables m.latest (seat_of c s) (seat_of c s).state (plain.Open tr) = stands.sessions (s - 1) (seat_of c s) (plain.Open tr) (seat_there c.seats s there) opened in
        let own : SessionStands c.xacts c.snaps (held_by c.locks s) c.log.entries c.tables m.latest (seat_of c s) (seat_of c s).state (plain.Open tr) = subst (λ (n : ℕ). SessionStands c.xacts c.snaps (held_by c.locks n) c.log.entries c.tables m.latest (seat_of c s) (seat_of c s).state (plain.Open tr)) (number_at s there.from_one) was in
        let after = session_writing c s t keys write m.latest (seat_of c s).state (plain.Open tr) tr change before is refl own in
        let of_number : SessionStands c.xacts c.snaps (held_by (once_claimed c.locks s t keys) (suc i)) c.log.entries c.tables m.latest (seat_writing c s t write) (seat_of c s).state (plain.Open (with_change tr change)) =
        subst (λ (n : ℕ). SessionStands c.xacts c.snaps (held_by (once_claimed c.locks s t keys) n) c.log.entries c.tables m.latest (seat_writing c s t write) (seat_of c s).state (plain.Open (with_change tr change))) (sym number) after in
        let of_its : SessionStands c.xacts c.snaps (held_by (once_claimed c.locks s t keys) (suc i)) c.log.entries c.tables m.latest (seat_writing c s t write) (seat_of c s).state its =
        subst (SessionStands c.xacts c.snaps (held_by (once_claimed c.locks s t keys) (suc i)) c.log.entries c.tables m.latest (seat_writing c s t write) (seat_of c s).state) its_is of_number in
        subst (λ (x : Seat). SessionStands c.xacts c.snaps (held_by (once_claimed c.locks s t keys) (suc i)) c.log.entries c.tables m.latest x x.state its) (sym seat) of_its
