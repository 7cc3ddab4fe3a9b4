-- What an open transaction sees in the core is the view, and what is there for it now, of the plain store's.
use Rattle.std.proofs.Common.{inl, inr, ap, refl, subst, sym, ◌∙◌}
use Rattle.std.proofs.lemmas.Bool.{cases_Bool}
use Rattle.std.specs.FinMap as map
use Rattle.std.specs.Option.{option_map, unwrap_or}
use Rattle.std.specs.Prelude.{Bool, List, None, Option, Some, [], false, true, ℕ, ℤ, ◌≡◌}
use Rattle.tuple_layout.specs.Places.{Rows}
use Rattle.tuple_layout.specs.declared.Place.{Place}
use Rattle.xact_status.specs.Versions.{counts_for}
use Rattle.snapshot_registry.specs.Snapshots.{committed_in, takes_effect}
use Rattle.snapshot_registry.specs.declared.Snapshot.{Snapshot}
use Rattle.lock_table.specs.Held.{holds_row}
use Rattle.lock_table.specs.Locks.{held_by}
use Rattle.command_set.proofs.Outcomes.{fold_other}
use Rattle.command_set.specs.Answers.{with_copy, with_use}
use Rattle.command_set.specs.Changes.{fold_changes, outcome, place}
use Rattle.command_set.specs.Plain.{now_of, session_of, view_of}
use Rattle.command_set.specs.declared.Level.{Level}
use Rattle.command_set.specs.declared.Reply.{Reply}
use Rattle.command_set.specs.declared.state.Change.{Change}
use Rattle.command_set.specs.declared.state.Plain.{Plain}
use Rattle.command_set.specs.declared.state.Session.{Session}
use Rattle.command_set.specs.declared.state.Transaction.{Transaction}
use Rattle.table_rows.proofs.Views.{view_unwritten, view_written}
use Rattle.table_rows.specs.Worlds.{tuple_in}
use Rattle.table_state.specs.Rows.{row_of}
use Rattle.table_state.specs.Tables.{row_in}
use Rattle.table_state.specs.declared.table.Table.{Table}
use Rattle.core_state.proofs.Answered.{session_at_place}
use Rattle.core_state.proofs.Seats.{sound_of}
use Rattle.core_state.proofs.Standing.{its_session}
use Rattle.core_state.specs.Facts.{IsSound, PartsAreSound}
use Rattle.core_state.specs.Stands.{CopyStands, HasCopy, SessionStands, Stands, TransactionStands, coming}
use Rattle.core_state.specs.State.{CoreState, IsSession, IsTableOf, is_past_moment, seat_of, snapshot_of, table_at, xid_of}
use Rattle.core_state.specs.Views.{counts_under, in_sight, in_view, registered, row_at, row_seen}
use Rattle.core_state.specs.declared.seat.Job.{Job}
use Rattle.core_state.specs.declared.seat.State.{State}
use Rattle.core_looks.proofs.Found.{row_found, values_found}
use Rattle.core_looks.proofs.Named.{fold_named}
use Rattle.core_looks.proofs.Sights.{one_now, one_seen, pages_at, state_at, table_made, untouched, view_now}
use Rattle.core_looks.specs.Due.{claim_of, row_now}
use Rattle.command_set.specs.declared.Level.TheVariants as levels
use Rattle.command_set.specs.declared.state.Session.TheVariants as plain
use Rattle.core_state.specs.declared.seat.Job.TheVariants as jobs
use Rattle.core_state.specs.declared.seat.State.TheVariants as states

-- ---- the transaction of a session

-- a session has a transaction open, which stands for the plain store's
pub record IsOpenAs (c : CoreState) (m : Plain) (s : ℕ) (t : Transaction) : Type 0 where
  pub level : Level
  pub xid : Option ℕ
  pub snapshot : Option ℕ
  pub is : state_at c s ≡ states.Open level xid snapshot
  pub stands : TransactionStands c.xacts c.snaps (held_by c.locks s) c.log.entries c.tables m.latest (seat_of c s) level t

pub open_as : (c : CoreState) (m : Plain) (replies : List (Option Reply)) (s : ℕ) (t : Transaction) → IsSession c.seats s → Stands c m replies → session_of m s ≡ plain.Open t → IsOpenAs c m s t
open_as c m replies s t there stands is =
    let its = its_session c s m replies there stands in
    let same : its.session ≡ plain.Open t = sym (session_at_place m s its.session its.from_one its.at) ∙ is in
    by (state_at c s) refl (subst (λ (session : Session). SessionStands c.xacts c.snaps (held_by c.locks s) c.log.entries c.tables m.latest (seat_of c s) (state_at c s) session) same its.stands)
  where
    by : (state : State) → state_at c s ≡ state → SessionStands c.xacts c.snaps (held_by c.locks s) c.log.entries c.tables m.latest (seat_of c s) state (plain.Open t) → IsOpenAs c m s t
    by states.Outside e old = absurd old
    by states.Failed e old = absurd old
    by (states.Open level xid snapshot) e old = record { level = level; xid = xid; snapshot = snapshot; is = e; stands = old }

-- a command before its moment has no change to come
pub none_coming : (c : CoreState) (job : Job) → is_past_moment job ≡ false → coming c.tables job ≡ []
none_coming c jobs.Idle e = refl
none_coming c (jobs.Submitted command) e = refl
none_coming c (jobs.Reading t snapshot read) e = absurd (cc)
none_coming c (jobs.Writing t write) e = absurd (cc)

-- ---- using a table leaves what it sees

base_used : (m : Plain) (t : Transaction) (level : Level) (base : Option Rows) → t.base ≡ base → unwrap_or (with_copy m.latest t level base).base m.latest ≡ unwrap_or t.base m.latest
base_used m t levels.Rc base e = refl
base_used m t levels.Rr None e = sym (ap (λ (b : Option Rows). unwrap_or b m.latest) e)
base_used m t levels.Rr (Some base) e = refl

changes_used : (m : Plain) (t : Transaction) (level : Level) (base : Option Rows) → (with_copy m.latest t level base).changes ≡ t.changes
changes_used m t levels.Rc base = refl
changes_used m t levels.Rr None = refl
changes_used m t levels.Rr (Some base) = refl

pub view_used : (m : Plain) (t : Transaction) (table : ℕ) → view_of m (with_use m t table) ≡ view_of m t
view_used m t table = ap (λ (changes : List Change). fold_changes changes (unwrap_or (with_copy m.latest t t.level t.base).base m.latest)) (changes_used m t t.level t.base)
    ∙ ap (fold_changes t.changes) (base_used m t t.level t.base refl)

pub now_used : (m : Plain) (t : Transaction) (table : ℕ) → now_of m (with_use m t table) ≡ now_of m t
now_used m t table = ap (λ (changes : List Change). fold_changes changes m.latest) (changes_used m t t.level t.base)

-- ---- what it sees

rows_same : (table : Table) (counts later : ℕ → Bool) (key : ℤ) → tuple_in later table.rows.pages key ≡ tuple_in counts table.rows.pages key → row_in table later key ≡ row_in table counts key
rows_same table counts later key same = ap (option_map (row_of table.rows.schema.storages table.toast)) same

pub now_is : (c : CoreState) (m : Plain) (s t : ℕ) (key : ℤ) (tr : Transaction) → is_past_moment (seat_of c s).job ≡ false → IsOpenAs c m s tr → map.get (now_of m tr) (place t key) ≡ row_in (table_at c.tables t) (in_sight c.xacts (state_at c s)) key
now_is c m s t key tr before opened =
    opened.stands.now (place t key) ∙ ap (λ (more : List Change). unwrap_or (outcome more (place t key)) (row_at c.tables (in_sight c.xacts (state_at c s)) (place t key))) (none_coming c (seat_of c s).job before)

pub view_is : (c : CoreState) (m : Plain) (s t : ℕ) (key : ℤ) (tr : Transaction) → IsSession c.seats s → is_past_moment (seat_of c s).job ≡ false → IsSound c → IsOpenAs c m s tr
    → map.get (view_of m tr) (place t key) ≡ row_in (table_at c.tables t) (in_view c.xacts c.snaps (state_at c s)) key
view_is c m s t key tr there before sound opened = by (registered c.snaps (snapshot_of (state_at c s))) tr.base refl refl opened.stands.copy
  where
    p : Place
    p = place t key

    table : Table
    table = table_at c.tables t

    same_now : map.get (fold_changes tr.changes m.latest) p ≡ row_in table (counts_for c.xacts (xid_of (state_at c s))) key
    same_now = now_is c m s t key tr before opened

    -- at a place that it has changed, the row that is there for it now
    at_changed : (base : Rows) (snapshot : Snapshot) (own : Option ℕ) → registered c.snaps (snapshot_of (state_at c s)) ≡ Some snapshot → xid_of (state_at c s) ≡ own → holds_row (held_by c.locks s).rows (claim_of t key) ≡ true
        → map.get (fold_changes tr.changes base) p ≡ row_in table (takes_effect c.xacts snapshot own) key
    at_changed base snapshot None shown mine claimed =
        let none = (sound_of c s there sound).locks.unclaimed (claim_of t key) mine in
        absurd (cc)
    at_changed base snapshot (Some x) shown mine claimed =
        fold_named tr.changes base m.latest p (opened.stands.claimed p ∙ claimed)
        ∙ same_now
        ∙ ap (λ (own : Option ℕ). row_in table (counts_for c.xacts own) key) mine
        ∙ sym (rows_same table (counts_for c.xacts (Some x)) (takes_effect c.xacts snapshot (Some x)) key (view_written c.xacts snapshot x (pages_at c t) key (view_now c s t x key snapshot there sound shown mine claimed)))

    -- elsewhere what its snapshot shows
    shown_by : (snapshot : Snapshot) (own : Option ℕ) → xid_of (state_at c s) ≡ own → holds_row (held_by c.locks s).rows (claim_of t key) ≡ false → row_in table (committed_in c.xacts snapshot) key ≡ row_in table (takes_effect c.xacts snapshot own) key
    shown_by snapshot None mine unclaimed = refl
    shown_by snapshot (Some x) mine unclaimed = sym (rows_same table (committed_in c.xacts snapshot) (takes_effect c.xacts snapshot (Some x)) key (view_unwritten c.xacts snapshot x (pages_at c t) key (untouched c s t x key there sound mine unclaimed)))

    elsewhere : (base : Rows) (snapshot : Snapshot) → HasCopy c.xacts c.tables snapshot base tr.since → holds_row (held_by c.locks s).rows (claim_of t key) ≡ false
        → map.get (fold_changes tr.changes base) p ≡ row_in table (takes_effect c.xacts snapshot (xid_of (state_at c s))) key
    elsewhere base snapshot copy unclaimed = fold_other tr.changes base p (opened.stands.claimed p ∙ unclaimed) ∙ copy.rows p ∙ shown_by snapshot (xid_of (state_at c s)) refl unclaimed

    by : (o : Option Snapshot) (base : Option Rows) → registered c.snaps (snapshot_of (state_at c s)) ≡ o → tr.base ≡ base → CopyStands c.xacts c.tables o base tr.since → map.get (fold_changes tr.changes (unwrap_or base m.latest)) p ≡ row_in table (counts_under c.xacts o (xid_of (state_at c s))) key
    by None None shown e copy = same_now
    by None (Some base) shown e copy = absurd copy
    by (Some snapshot) None shown e copy = absurd copy
    by (Some snapshot) (Some base) shown e copy = elim (cases_Bool (holds_row (held_by c.locks s).rows (claim_of t key))) [
      | inl claimed ↦ at_changed base snapshot (xid_of (state_at c s)) shown refl claimed
      | inr unclaimed ↦ elsewhere base snapshot copy unclaimed
    ]

-- ---- and what its look-ups find

pub seen_is : (c : CoreState) (m : Plain) (s t : ℕ) (key : ℤ) (tr : Transaction) → IsSession c.seats s → IsTableOf c.tables t → is_past_moment (seat_of c s).job ≡ false → IsSound c → PartsAreSound c → IsOpenAs c m s tr
    → map.get (view_of m (with_use m tr t)) (place t key) ≡ option_map (values_found (table_at c.tables t).toast) (row_seen c s t key)
seen_is c m s t key tr there of before sound parts opened =
    ap (λ (rows : Rows). map.get rows (place t key)) (view_used m tr t)
    ∙ view_is c m s t key tr there before sound opened
    ∙ sym (row_found (in_view c.xacts c.snaps (state_at c s)) (table_at c.tables t) key (table_made c t of parts).rows (one_seen c s t key there of sound))

pub there_is : (c : CoreState) (m : Plain) (s t : ℕ) (key : ℤ) (tr : Transaction) → IsSession c.seats s → IsTableOf c.tables t → is_past_moment (seat_of c s).job ≡ false → IsSound c → PartsAreSound c → IsOpenAs c m s tr
    → map.get (now_of m (with_use m tr t)) (place t key) ≡ option_map (values_found (table_at c.tables t).toast) (row_now c s t key)
there_is c m s t key tr there of before sound parts opened =
    ap (λ (rows : Rows). map.get rows (place t key)) (now_used m tr t)
    ∙ now_is c m s t key tr before opened
    ∙ sym (row_found (in_sight c.xacts (state_at c s)) (table_at c.tables t) key (table_made c t of parts).rows (one_now c s t key there of sound))
