-- What a core stands for after a version step: the same states, since the change was counted from the command's moment on.
use Rattle.std.proofs.Common.{ap, arith, inl, inr, refl, subst, sym, ◌∙◌}
use Rattle.std.proofs.lemmas.List.{append-nil, length-set}
use Rattle.std.specs.Option.{unwrap_or}
use Rattle.std.specs.Prelude.{List, None, Option, Some, [], option_map, slice_get, suc, ℕ, ℤ, ◌++◌, ◌-◌, ◌∷◌, ◌≡◌, ◌≢◌}
use Rattle.list_facts.proofs.Changed.{after_set}
use Rattle.tuple_layout.specs.Places.{Rows}
use Rattle.tuple_layout.specs.declared.Place.{Place}
use Rattle.tuple_layout.specs.declared.cell.Cell.{Cell}
use Rattle.xact_status.specs.Versions.{counts_for}
use Rattle.xact_status.specs.Xacts.{Xacts, is_committed, session_at}
use Rattle.snapshot_registry.specs.Snapshots.{Snaps, committed_in, held_at}
use Rattle.snapshot_registry.specs.declared.Held.{Held}
use Rattle.row_versions.specs.Relations.{Pages}
use Rattle.row_versions.specs.declared.keys.KeyEntry.{KeyEntry}
use Rattle.value_ids.specs.Ids.{Pool}
use Rattle.change_log.specs.declared.entry.LogEntry.{LogEntry}
use Rattle.lock_table.specs.Locks.{held_by}
use Rattle.lock_table.specs.declared.held.SessionLocks.{SessionLocks}
use Rattle.command_set.specs.Changes.{is_named, outcome}
use Rattle.command_set.specs.declared.Level.{Level}
use Rattle.command_set.specs.declared.Reply.{Reply}
use Rattle.command_set.specs.declared.state.Change.{Change}
use Rattle.command_set.specs.declared.state.Plain.{Plain}
use Rattle.command_set.specs.declared.state.Session.{Session}
use Rattle.command_set.specs.declared.state.Transaction.{Transaction}
use Rattle.table_rows.proofs.Records.{moments_tell}
use Rattle.table_rows.specs.Views.{IsSince}
use Rattle.table_rows.specs.Worlds.{Latest, Own, Shown}
use Rattle.table_state.specs.declared.table.Table.{Table}
use Rattle.core_state.proofs.Seats.{number_at}
use Rattle.core_state.proofs.Standing.{its_session}
use Rattle.core_state.specs.Coming.{xid_logged}
use Rattle.core_state.specs.Facts.{IsSound}
use Rattle.core_state.specs.Stands.{CopyStands, SessionStands, Stands, TransactionStands, changes_in, coming, logged_changes, pending_of}
use Rattle.core_state.specs.Stands.{change_logged}
use Rattle.core_state.specs.State.{CoreState, IsSession, handle_of, seat_of, snapshot_of, table_at, xid_of}
use Rattle.core_state.specs.Views.{held_value, in_sight, registered, row_at}
use Rattle.core_state.specs.declared.seat.Handle.{Handle}
use Rattle.core_state.specs.declared.seat.Job.{Job}
use Rattle.core_state.specs.declared.seat.Seat.{Seat}
use Rattle.core_state.specs.declared.seat.State.{State}
use Rattle.core_versions.proofs.Others.{Acts, running_from}
use Rattle.core_versions.proofs.Sound.{stepped}
use Rattle.core_versions.proofs.Tables.{at_table, toast_same}
use Rattle.core_versions.proofs.Worlds.{HaveSame, coming_same, held_same, logged_other, logged_own, pending_same, row_left}
use Rattle.command_set.specs.declared.state.Session.TheVariants as plain
use Rattle.core_state.specs.declared.seat.State.TheVariants as states

-- ---- worlds of others

have_same : (xacts : Xacts) (snaps : Snaps) (ids : Pool) (tables later : List Table) (s t x : ℕ) (pages : Pages) (names : List KeyEntry) (keys : List ℤ) (cells : List Cell) → Acts xacts snaps ids tables later s t x pages names keys cells → HaveSame tables later
have_same xacts snaps ids tables later s t x pages names keys cells acts k = toast_same tables later t k pages names acts.steps

-- the latest rows
latest_stays : (xacts : Xacts) (snaps : Snaps) (ids : Pool) (tables later : List Table) (s t x : ℕ) (pages : Pages) (names : List KeyEntry) (keys : List ℤ) (cells : List Cell) (p : Place) → Acts xacts snaps ids tables later s t x pages names keys cells
    → row_at later (is_committed xacts) p ≡ row_at tables (is_committed xacts) p
latest_stays xacts snaps ids tables later s t x pages names keys cells p acts =
    row_left tables later t pages names (is_committed xacts) p acts.steps (λ is. acts.step.others Latest p.key tt (λ e. absurd (cc)))

-- those that are there for another session
sight_stays : (xacts : Xacts) (snaps : Snaps) (ids : Pool) (tables later : List Table) (s t x n : ℕ) (pages : Pages) (names : List KeyEntry) (keys : List ℤ) (cells : List Cell) (own : Option ℕ) (p : Place) → Acts xacts snaps ids tables later s t x pages names keys cells
    → ((y : ℕ) → own ≡ Some y → session_at xacts y ≡ Some n) → n ≢ s → row_at later (counts_for xacts own) p ≡ row_at tables (counts_for xacts own) p
sight_stays xacts snaps ids tables later s t x n pages names keys cells None p acts runs differ = latest_stays xacts snaps ids tables later s t x pages names keys cells p acts
sight_stays xacts snaps ids tables later s t x n pages names keys cells (Some y) p acts runs differ =
    row_left tables later t pages names (counts_for xacts (Some y)) p acts.steps (λ is. acts.step.others (Own y) p.key (running_from xacts y n (runs y refl)) (λ e. differ (session_is n s (sym (runs y refl) ∙ ap (session_at xacts) (own_is y x e) ∙ acts.runs))))
  where
    own_is : (a b : ℕ) → Own a ≡ Own b → a ≡ b
    own_is a b e = cc

    session_is : (a b : ℕ) → Some a ≡ Some b → a ≡ b
    session_is a b e = cc

-- what a registered snapshot shows
shown_stays : (xacts : Xacts) (snaps : Snaps) (ids : Pool) (tables later : List Table) (s t x : ℕ) (pages : Pages) (names : List KeyEntry) (keys : List ℤ) (cells : List Cell) (id : ℕ) (held : Held) (p : Place) → Acts xacts snaps ids tables later s t x pages names keys cells
    → held_at snaps id ≡ Some held → row_at later (committed_in xacts held.snapshot) p ≡ row_at tables (committed_in xacts held.snapshot) p
shown_stays xacts snaps ids tables later s t x pages names keys cells id held p acts at =
    row_left tables later t pages names (committed_in xacts held.snapshot) p acts.steps
    (λ is. sym (moments_tell.shown xacts snaps id held pages p.key at) ∙ acts.step.others (Shown id) p.key tt (λ e. absurd (cc)) ∙ moments_tell.shown xacts snaps id held (table_at tables t).rows.pages p.key at)

-- ---- a copy

copy_stays : (xacts : Xacts) (snaps : Snaps) (ids : Pool) (tables later : List Table) (s t x : ℕ) (pages : Pages) (names : List KeyEntry) (keys : List ℤ) (cells : List Cell) (o : Option ℕ) (base : Option Rows) (places : List Place) → Acts xacts snaps ids tables later s t x pages names keys cells
    → CopyStands xacts tables (registered snaps o) base places → CopyStands xacts later (registered snaps o) base places
copy_stays xacts snaps ids tables later s t x pages names keys cells o base places acts old = by_id o old
  where
    none : (b : Option Rows) → CopyStands xacts tables None b places → CopyStands xacts later None b places
    none None was = tt
    none (Some rows) was = was

    some : (id : ℕ) (held : Held) (b : Option Rows) → held_at snaps id ≡ Some held → CopyStands xacts tables (Some held.snapshot) b places → CopyStands xacts later (Some held.snapshot) b places
    some id held None at was = was
    some id held (Some rows) at was = record {
      rows = λ p. was.rows p ∙ sym (shown_stays xacts snaps ids tables later s t x pages names keys cells id held p acts at);
      since = λ p.
          at_table tables later t p.table pages names (λ (table : Table). IsSince xacts held.snapshot table.rows.pages p.key (is_named places p)) acts.steps
          (λ is. acts.step.since held.snapshot p.key (is_named places p) (subst (λ (n : ℕ). IsSince xacts held.snapshot (table_at tables n).rows.pages p.key (is_named places p)) is (was.since p)))
          (λ differ. was.since p);
    }

    by_held : (id : ℕ) (h : Option Held) → held_at snaps id ≡ h → CopyStands xacts tables (option_map (λ (held : Held). held.snapshot) h) base places → CopyStands xacts later (option_map (λ (held : Held). held.snapshot) h) base places
    by_held id None at was = none base was
    by_held id (Some held) at was = some id held base at was

    by_id : (own : Option ℕ) → CopyStands xacts tables (registered snaps own) base places → CopyStands xacts later (registered snaps own) base places
    by_id None was = none base was
    by_id (Some id) was = by_held id (held_at snaps id) refl was

-- the values of handles
handles_stay : (tables later : List Table) (handles : List Handle) (name : ℕ) → HaveSame tables later
    → option_map (λ (handle : Handle). held_value later handle.table handle.held) (handle_of handles name) ≡ option_map (λ (handle : Handle). held_value tables handle.table handle.held) (handle_of handles name)
handles_stay tables later handles name same = by (handle_of handles name)
  where
    by : (o : Option Handle) → option_map (λ (handle : Handle). held_value later handle.table handle.held) o ≡ option_map (λ (handle : Handle). held_value tables handle.table handle.held) o
    by None = refl
    by (Some handle) = ap Some (held_same tables later handle.table handle.held same)

-- ---- another session

transaction_stays : (xacts : Xacts) (snaps : Snaps) (ids : Pool) (tables later : List Table) (s t x n : ℕ) (pages : Pages) (names : List KeyEntry) (keys : List ℤ) (cells : List Cell) (held : SessionLocks) (log : List LogEntry) (entry : LogEntry) (latest : Rows) (other : Seat) (level : Level) (tr : Transaction)
    → Acts xacts snaps ids tables later s t x pages names keys cells → xid_logged entry ≡ x → ((y : ℕ) → xid_of other.state ≡ Some y → session_at xacts y ≡ Some n) → n ≢ s
    → TransactionStands xacts snaps held log tables latest other level tr → TransactionStands xacts snaps held (log ++ entry ∷ []) later latest other level tr
transaction_stays xacts snaps ids tables later s t x n pages names keys cells held log entry latest other level tr acts by runs differ old =
    let same = have_same xacts snaps ids tables later s t x pages names keys cells acts in
    let logged = logged_other tables later log entry (xid_of other.state) same (λ y e is. differ (session_is n s (sym (runs y e) ∙ ap (session_at xacts) (sym is ∙ by) ∙ acts.runs))) in
    let more = coming_same tables later other.job same in
    record {
      level_is = old.level_is;
      copy = copy_stays xacts snaps ids tables later s t x pages names keys cells (snapshot_of other.state) tr.base tr.since acts old.copy;
      changes = old.changes ∙ sym (ap (λ (changes : List Change). changes ++ coming later other.job) logged ∙ ap (λ (changes : List Change). logged_changes tables log (xid_of other.state) ++ changes) more);
      now = λ p. old.now p ∙ sym (ap (λ (changes : List Change). unwrap_or (outcome changes p) (row_at later (in_sight xacts other.state) p)) more
          ∙ ap (unwrap_or (outcome (coming tables other.job) p)) (sight_stays xacts snaps ids tables later s t x n pages names keys cells (xid_of other.state) p acts runs differ));
      used = old.used;
      claimed = old.claimed;
      handles = λ name. old.handles name ∙ sym (handles_stay tables later other.handles name same);
    }
  where
    session_is : (a b : ℕ) → Some a ≡ Some b → a ≡ b
    session_is a b e = cc

session_stays : (xacts : Xacts) (snaps : Snaps) (ids : Pool) (tables later : List Table) (s t x n : ℕ) (pages : Pages) (names : List KeyEntry) (keys : List ℤ) (cells : List Cell) (held : SessionLocks) (log : List LogEntry) (entry : LogEntry) (latest : Rows) (other : Seat) (state : State) (session : Session)
    → Acts xacts snaps ids tables later s t x pages names keys cells → xid_logged entry ≡ x → ((y : ℕ) → xid_of other.state ≡ Some y → session_at xacts y ≡ Some n) → n ≢ s
    → SessionStands xacts snaps held log tables latest other state session → SessionStands xacts snaps held (log ++ entry ∷ []) later latest other state session
session_stays xacts snaps ids tables later s t x n pages names keys cells held log entry latest other states.Outside plain.Outside acts by runs differ old = tt
session_stays xacts snaps ids tables later s t x n pages names keys cells held log entry latest other states.Outside plain.Failed acts by runs differ old = old
session_stays xacts snaps ids tables later s t x n pages names keys cells held log entry latest other states.Outside (plain.Open tr) acts by runs differ old = old
session_stays xacts snaps ids tables later s t x n pages names keys cells held log entry latest other states.Failed plain.Outside acts by runs differ old = old
session_stays xacts snaps ids tables later s t x n pages names keys cells held log entry latest other states.Failed plain.Failed acts by runs differ old = tt
session_stays xacts snaps ids tables later s t x n pages names keys cells held log entry latest other states.Failed (plain.Open tr) acts by runs differ old = old
session_stays xacts snaps ids tables later s t x n pages names keys cells held log entry latest other (states.Open level xid snapshot) plain.Outside acts by runs differ old = old
session_stays xacts snaps ids tables later s t x n pages names keys cells held log entry latest other (states.Open level xid snapshot) plain.Failed acts by runs differ old = old
session_stays xacts snaps ids tables later s t x n pages names keys cells held log entry latest other (states.Open level xid snapshot) (plain.Open tr) acts by runs differ old =
    transaction_stays xacts snaps ids tables later s t x n pages names keys cells held log entry latest other level tr acts by runs differ old

-- ---- the session itself

-- its change is made: it is in the log, and no longer to come
pub record MakesChange (xacts : Xacts) (tables later : List Table) (x : ℕ) (entry : LogEntry) (was job : Job) : Type 0 where
  pub change : Change
  pub by : xid_logged entry ≡ x
  pub told : change_logged later entry ≡ Some change
  pub coming_was : coming tables was ≡ change ∷ []
  pub coming_is : coming later job ≡ []
  pub world : (p : Place) → row_at later (counts_for xacts (Some x)) p ≡ unwrap_or (outcome (change ∷ []) p) (row_at tables (counts_for xacts (Some x)) p)

own_stays : (xacts : Xacts) (snaps : Snaps) (ids : Pool) (tables later : List Table) (s t x : ℕ) (pages : Pages) (names : List KeyEntry) (keys : List ℤ) (cells : List Cell) (held : SessionLocks) (log : List LogEntry) (entry : LogEntry) (latest : Rows) (seat : Seat) (job : Job) (level : Level) (tr : Transaction)
    → Acts xacts snaps ids tables later s t x pages names keys cells → xid_of seat.state ≡ Some x → MakesChange xacts tables later x entry seat.job job
    → TransactionStands xacts snaps held log tables latest seat level tr → TransactionStands xacts snaps held (log ++ entry ∷ []) later latest (record seat { job = job }) level tr
own_stays xacts snaps ids tables later s t x pages names keys cells held log entry latest seat job level tr acts mine makes old =
    let same = have_same xacts snaps ids tables later s t x pages names keys cells acts in
    record {
      level_is = old.level_is;
      copy = copy_stays xacts snaps ids tables later s t x pages names keys cells (snapshot_of seat.state) tr.base tr.since acts old.copy;
      changes = old.changes ∙ (was ∙ sym (is same));
      now = λ p. old.now p
          ∙ (ap (λ (changes : List Change). unwrap_or (outcome changes p) (row_at tables (counts_for xacts (xid_of seat.state)) p)) makes.coming_was
          ∙ ap (λ (own : Option ℕ). unwrap_or (outcome (makes.change ∷ []) p) (row_at tables (counts_for xacts own) p)) mine
          ∙ sym (makes.world p)
          ∙ ap (λ (own : Option ℕ). row_at later (counts_for xacts own) p) (sym mine)
          ∙ ap (λ (changes : List Change). unwrap_or (outcome changes p) (row_at later (counts_for xacts (xid_of seat.state)) p)) (sym makes.coming_is));
      used = old.used;
      claimed = old.claimed;
      handles = λ name. old.handles name ∙ sym (handles_stay tables later seat.handles name same);
    }
  where
    was : changes_in tables log seat ≡ logged_changes tables log (Some x) ++ makes.change ∷ []
    was = ap (λ (own : Option ℕ). logged_changes tables log own ++ coming tables seat.job) mine ∙ ap (λ (changes : List Change). logged_changes tables log (Some x) ++ changes) makes.coming_was

    is : HaveSame tables later → changes_in later (log ++ entry ∷ []) (record seat { job = job }) ≡ logged_changes tables log (Some x) ++ makes.change ∷ []
    is same =
        ap (λ (own : Option ℕ). logged_changes later (log ++ entry ∷ []) own ++ coming later job) mine
        ∙ ap (λ (changes : List Change). logged_changes later (log ++ entry ∷ []) (Some x) ++ changes) makes.coming_is
        ∙ append-nil (logged_changes later (log ++ entry ∷ []) (Some x))
        ∙ logged_own tables later log entry x makes.change same makes.by makes.told

own_session : (xacts : Xacts) (snaps : Snaps) (ids : Pool) (tables later : List Table) (s t x : ℕ) (pages : Pages) (names : List KeyEntry) (keys : List ℤ) (cells : List Cell) (held : SessionLocks) (log : List LogEntry) (entry : LogEntry) (latest : Rows) (seat : Seat) (job : Job) (state : State) (session : Session)
    → Acts xacts snaps ids tables later s t x pages names keys cells → xid_of seat.state ≡ Some x → MakesChange xacts tables later x entry seat.job job
    → SessionStands xacts snaps held log tables latest seat state session → SessionStands xacts snaps held (log ++ entry ∷ []) later latest (record seat { job = job }) state session
own_session xacts snaps ids tables later s t x pages names keys cells held log entry latest seat job states.Outside plain.Outside acts mine makes old = tt
own_session xacts snaps ids tables later s t x pages names keys cells held log entry latest seat job states.Outside plain.Failed acts mine makes old = old
own_session xacts snaps ids tables later s t x pages names keys cells held log entry latest seat job states.Outside (plain.Open tr) acts mine makes old = old
own_session xacts snaps ids tables later s t x pages names keys cells held log entry latest seat job states.Failed plain.Outside acts mine makes old = old
own_session xacts snaps ids tables later s t x pages names keys cells held log entry latest seat job states.Failed plain.Failed acts mine makes old = tt
own_session xacts snaps ids tables later s t x pages names keys cells held log entry latest seat job states.Failed (plain.Open tr) acts mine makes old = old
own_session xacts snaps ids tables later s t x pages names keys cells held log entry latest seat job (states.Open level xid snapshot) plain.Outside acts mine makes old = old
own_session xacts snaps ids tables later s t x pages names keys cells held log entry latest seat job (states.Open level xid snapshot) plain.Failed acts mine makes old = old
own_session xacts snaps ids tables later s t x pages names keys cells held log entry latest seat job (states.Open level xid snapshot) (plain.Open tr) acts mine makes old =
    own_stays xacts snaps ids tables later s t x pages names keys cells held log entry latest seat job level tr acts mine makes old

-- ---- the whole

pub stands_stepped : (c : CoreState) (s t x : ℕ) (pages : Pages) (names : List KeyEntry) (keys : List ℤ) (cells : List Cell) (ids : Pool) (later : List Table) (entry : LogEntry) (job : Job) (m : Plain) (replies : List (Option Reply))
    → IsSession c.seats s → IsSound c → Acts c.xacts c.snaps c.ids c.tables later s t x pages names keys cells → xid_of (seat_of c s).state ≡ Some x → MakesChange c.xacts c.tables later x entry (seat_of c s).job job
    → ((said : Reply) → pending_of later job ≡ Some said → slice_get replies (s - 1) ≡ Some (Some said))
    → Stands c m replies → Stands (stepped c s ids later entry job) m replies
stands_stepped c s t x pages names keys cells ids later entry job m replies there sound acts mine makes says stands =
    let same = have_same c.xacts c.snaps c.ids c.tables later s t x pages names keys cells acts in
    let its = its_session c s m replies there stands in
    record {
      latest = λ p. stands.latest p ∙ sym (latest_stays c.xacts c.snaps c.ids c.tables later s t x pages names keys cells p acts);
      count = stands.count ∙ sym (length-set c.seats (s - 1) seat);
      sessions = λ i other session at at_its. elim (after_set c.seats (s - 1) seat i other at) [
        | inl h ↦ here i other session h.0 h.1 at_its its.session its.at its.stands
        | inr h ↦
            let differ : suc i ≢ s = λ e. h.0 (omega (arith, e)) in
            session_stays c.xacts c.snaps c.ids c.tables later s t x (suc i) pages names keys cells (held_by c.locks (suc i)) c.log.entries entry m.latest other other.state session acts makes.by (sound.each i other h.1).runs differ (stands.sessions i other session h.1 at_its)
      ];
      upkeep = stands.upkeep;
      pending = λ i other said at pends. elim (after_set c.seats (s - 1) seat i other at) [
        | inl h ↦ rw h.0 (says said (sym (ap (λ (one : Seat). pending_of later one.job) h.1) ∙ pends))
        | inr h ↦ stands.pending i other said h.1 (sym (pending_same c.tables later other.job same) ∙ pends)
      ];
    }
  where
    seat : Seat
    seat = record (seat_of c s) { job = job }

    some_is : (a b : Session) → Some a ≡ Some b → a ≡ b
    some_is a b e = cc

    here : (i : ℕ) (other : Seat) (session : Session) → i ≡ s - 1 → other ≡ seat → slice_get m.sessions i ≡ Some session
        → (its : Session) → slice_get m.sessions (s - 1) ≡ Some its → SessionStands c.xacts c.snaps (held_by c.locks s) c.log.entries c.tables m.latest (seat_of c s) (seat_of c s).state its
        → SessionStands c.xacts c.snaps (held_by c.locks (suc i)) (c.log.entries ++ entry ∷ []) later m.latest other other.state session
    here i other session at is at_its its its_at its_stands =
        let number : s ≡ suc i = sym (ap suc at ∙ number_at s there.from_one) in
        let same : its ≡ session = some_is its session (sym its_at ∙ ap (slice_get m.sessions) (sym at) ∙ at_its) in
        let own = own_session c.xacts c.snaps c.ids c.tables later s t x pages names keys cells (held_by c.locks s) c.log.entries entry m.latest (seat_of c s) job (seat_of c s).state its acts mine makes its_stands in
        let moved : SessionStands c.xacts c.snaps (held_by c.locks (suc i)) (c.log.entries ++ entry ∷ []) later m.latest seat seat.state its = subst (λ (n : ℕ). SessionStands c.xacts c.snaps (held_by c.locks n) (c.log.entries ++ entry ∷ []) later m.latest seat seat.state its) number own in
        let of_seat : SessionStands c.xacts c.snaps (held_by c.locks (suc i)) (c.log.entries ++ entry ∷ []) later m.latest other other.state its = subst (λ (one : Seat). SessionStands c.xacts c.snaps (held_by c.locks (suc i)) (c.log.entries ++ entry ∷ []) later m.latest one one.state its) (sym is) moved in
        subst (λ (one : Session). SessionStands c.xacts c.snaps (held_by c.locks (suc i)) (c.log.entries ++ entry ∷ []) later m.latest other other.state one) same of_seat
