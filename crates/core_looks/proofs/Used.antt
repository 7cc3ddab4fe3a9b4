-- A core whose session uses a table stands for the state in which the plain store's transaction does, and shows the session what it showed.
use Rattle.std.proofs.Common.{Bool, ap, refl, subst, sym, ◌∙◌}
use Rattle.std.proofs.lemmas.List.{length-set}
use Rattle.std.proofs.lemmas.List.Folds.{list_any-append}
use Rattle.std.specs.FinMap as map
use Rattle.std.specs.List.{list_any}
use Rattle.std.specs.Option.{option_map, unwrap_or}
use Rattle.std.specs.Prelude.{List, None, Option, Some, [], false, if◌then◌else◌, is_some, slice_get, slice_set, true, ℕ, ℤ, ◌++◌, ◌-◌, ◌==◌, ◌||◌, ◌∷◌, ◌≡◌}
use Rattle.list_facts.proofs.Changed.{get_set_other, set_same}
use Rattle.tuple_layout.specs.Places.{Rows}
use Rattle.tuple_layout.specs.declared.Place.{Place}
use Rattle.xact_status.specs.Versions.{counts_for}
use Rattle.xact_status.specs.Xacts.{Xacts, is_committed}
use Rattle.snapshot_registry.specs.Snapshots.{Snaps, after_take, committed_in, held_at, least_free, snapshot_now}
use Rattle.snapshot_registry.specs.declared.Held.{Held}
use Rattle.snapshot_registry.specs.declared.Snapshot.{Snapshot}
use Rattle.change_log.specs.declared.entry.LogEntry.{LogEntry}
use Rattle.lock_table.proofs.Holders.{granted_other}
use Rattle.lock_table.specs.Held.{holds_row, holds_table}
use Rattle.lock_table.specs.Locks.{held_by, table_lock}
use Rattle.lock_table.specs.declared.held.SessionLocks.{SessionLocks}
use Rattle.lock_table.specs.declared.lock.LockMode.TheVariants.{Use}
use Rattle.lock_table.specs.declared.lock.RowKey.{RowKey}
use Rattle.command_set.specs.Answers.{with_copy, with_use}
use Rattle.command_set.specs.Changes.{fold_changes, is_named, keys_of, outcome, said}
use Rattle.command_set.specs.Plain.{session_of, with_session}
use Rattle.command_set.specs.declared.Command.{Command}
use Rattle.command_set.specs.declared.Level.{Level}
use Rattle.command_set.specs.declared.Reply.{Reply}
use Rattle.command_set.specs.declared.state.Change.{Change}
use Rattle.command_set.specs.declared.state.Plain.{Plain}
use Rattle.command_set.specs.declared.state.Session.{Session}
use Rattle.command_set.specs.declared.state.Transaction.{Transaction}
use Rattle.table_rows.proofs.Moments.{taken_at}
use Rattle.table_rows.proofs.Sessions.{since_taken}
use Rattle.table_rows.specs.Worlds.{tuple_in}
use Rattle.table_state.specs.Rows.{row_of}
use Rattle.table_state.specs.declared.table.Table.{Table}
use Rattle.core_state.proofs.Answered.{sessions_same, sessions_set}
use Rattle.core_state.proofs.Moved.{state_uses}
use Rattle.core_state.proofs.Overs.{sound_refused}
use Rattle.core_state.proofs.Seats.{seat_there, seat_written, session_written}
use Rattle.core_state.proofs.Standing.{ItsSession, its_session, session_by, stands_seated}
use Rattle.core_state.proofs.Uses.{registered_use}
use Rattle.core_state.specs.Facts.{IsSound}
use Rattle.core_state.specs.Lines.{after_looking, after_use, seated, takes_copy, with_snapshot}
use Rattle.core_state.specs.Stands.{CopyStands, HasCopy, SessionStands, Stands, TransactionStands, coming, logged_changes, pending_of}
use Rattle.core_state.specs.State.{CoreState, IsSession, is_open, is_past_moment, is_repeatable, seat_of, snapshot_of, table_at, xid_of}
use Rattle.core_state.specs.Views.{counts_under, found_row, in_view, registered, row_at, row_seen}
use Rattle.core_state.specs.declared.seat.Seat.{Seat}
use Rattle.core_state.specs.declared.seat.State.{State}
use Rattle.core_looks.proofs.Locks.{locks_used, rows_own, use_of, uses_own}
use Rattle.core_looks.proofs.Sights.{state_at}
use Rattle.core_looks.proofs.Standing.{stands_moved}
use Rattle.core_looks.proofs.Uses.{TakesCopy, effect_now, open_with, registered_new, registered_taken, repeatable_with, snapshot_with, sound_used, takes_is, xid_with}
use Rattle.core_looks.proofs.Views.{IsOpenAs, open_as, there_is}
use Rattle.core_looks.specs.Laws.{IsUsed}
use Rattle.command_set.specs.declared.Level.TheVariants as levels
use Rattle.command_set.specs.declared.state.Session.TheVariants as plain
use Rattle.core_state.specs.declared.seat.Job.TheVariants as jobs
use Rattle.core_state.specs.declared.seat.State.TheVariants as states

-- ---- the plain store's transaction

-- what a copy leaves of a transaction
pub record Copied (t copied : Transaction) : Type 0 where
  pub level : copied.level ≡ t.level
  pub changes : copied.changes ≡ t.changes
  pub used : copied.used ≡ t.used
  pub handles : copied.handles ≡ t.handles

pub copied_by : (latest : Rows) (t : Transaction) (level : Level) (base : Option Rows) → Copied t (with_copy latest t level base)
copied_by latest t levels.Rc base = record { level = refl; changes = refl; used = refl; handles = refl }
copied_by latest t levels.Rr None = record { level = refl; changes = refl; used = refl; handles = refl }
copied_by latest t levels.Rr (Some base) = record { level = refl; changes = refl; used = refl; handles = refl }

-- it uses the table
transaction_used : (c : CoreState) (m : Plain) (s t : ℕ) (tr : Transaction) (level : Level) (snaps : Snaps) (state : State) → xid_of state ≡ xid_of (state_at c s)
    → CopyStands c.xacts c.tables (registered snaps (snapshot_of state)) (with_use m tr t).base (with_use m tr t).since
    → TransactionStands c.xacts c.snaps (held_by c.locks s) c.log.entries c.tables m.latest (seat_of c s) level tr
    → TransactionStands c.xacts snaps (held_by (locks_used c.locks s t) s) c.log.entries c.tables m.latest (record (seat_of c s) { state = state }) level (with_use m tr t)
transaction_used c m s t tr level snaps state same copy old =
    let copied = copied_by m.latest tr tr.level tr.base in
    record {
      level_is = copied.level ∙ old.level_is;
      copy = copy;
      changes = copied.changes ∙ old.changes ∙ ap (λ (own : Option ℕ). logged_changes c.tables c.log.entries own ++ coming c.tables (seat_of c s).job) (sym same);
      now = λ p. ap (λ (changes : List Change). map.get (fold_changes changes m.latest) p) copied.changes ∙ old.now p
          ∙ ap (λ (own : Option ℕ). unwrap_or (outcome (coming c.tables (seat_of c s).job) p) (row_at c.tables (counts_for c.xacts own) p)) (sym same);
      used = λ u. list_any-append (λ (used : ℕ). used == u) (with_copy m.latest tr tr.level tr.base).used (t ∷ [])
          ∙ ap (λ (its : List ℕ). list_any (λ used. used == u) its || ((t == u) || false)) copied.used
          ∙ ap (λ (b : Bool). b || ((t == u) || false)) (old.used u)
          ∙ ap (λ (b : Bool). holds_table (held_by c.locks s).tables (use_of u) || b) (or_none (t == u))
          ∙ sym (uses_own c.locks s t u);
      claimed = λ p. ap (λ (changes : List Change). is_named (keys_of changes) p) copied.changes ∙ old.claimed p ∙ ap (λ (its : List RowKey). holds_row its (record { table = p.table; key = p.key })) (sym (rows_own c.locks s t));
      handles = λ name. ap (λ handles. map.get handles name) copied.handles ∙ old.handles name;
    }
  where
    or_none : (b : Bool) → (b || false) ≡ b
    or_none true = refl
    or_none false = refl

-- ---- its copy

-- where it takes none it has one, or needs none
pub copy_plain : (c : CoreState) (m : Plain) (s t : ℕ) (tr : Transaction) → IsSession c.seats s → IsSound c → takes_copy (state_at c s) ≡ false → IsOpenAs c m s tr → with_copy m.latest tr tr.level tr.base ≡ tr
copy_plain c m s t tr there sound none opened = by tr.level tr.base refl refl
  where
    has : (o : Option ℕ) → opened.snapshot ≡ o → opened.level ≡ levels.Rr → tr.base ≡ None → ⊥
    has None e repeats bare =
        let takes : takes_copy (states.Open levels.Rr opened.xid None) ≡ true = refl in
        let is : takes_copy (state_at c s) ≡ true = ap takes_copy opened.is ∙ ap (λ (level : Level). takes_copy (states.Open level opened.xid opened.snapshot)) repeats ∙ ap (λ (snapshot : Option ℕ). takes_copy (states.Open levels.Rr opened.xid snapshot)) e ∙ takes in
        absurd (cc)
    has (Some id) e repeats bare =
        let mine : snapshot_of (state_at c s) ≡ Some id = ap snapshot_of opened.is ∙ e in
        let there_is = registered_use c (s - 1) (seat_of c s) id (seat_there c.seats s there) (state_uses (seat_of c s) id mine) sound in
        shown (held_at c.snaps id) refl mine there_is
      where
        shown : (h : Option Held) → held_at c.snaps id ≡ h → snapshot_of (state_at c s) ≡ Some id → is_some (held_at c.snaps id) ≡ true → ⊥
        shown None at mine there_is = absurd (cc)
        shown (Some held) at mine there_is =
            let is : registered c.snaps (snapshot_of (state_at c s)) ≡ Some held.snapshot = ap (registered c.snaps) mine ∙ ap (option_map (λ (h : Held). h.snapshot)) at in
            subst (λ (b : Option Rows). CopyStands c.xacts c.tables (Some held.snapshot) b tr.since) bare (subst (λ (o : Option Snapshot). CopyStands c.xacts c.tables o tr.base tr.since) is opened.stands.copy)

    by : (level : Level) (base : Option Rows) → tr.level ≡ level → tr.base ≡ base → with_copy m.latest tr level base ≡ tr
    by levels.Rc base e f = refl
    by levels.Rr None e f = absurd (has opened.snapshot refl (sym opened.stands.level_is ∙ e) f)
    by levels.Rr (Some base) e f = refl

shown_rows : (tables : List Table) (counts later : ℕ → Bool) (p : Place) → tuple_in later (table_at tables p.table).rows.pages p.key ≡ tuple_in counts (table_at tables p.table).rows.pages p.key → row_at tables later p ≡ row_at tables counts p
shown_rows tables counts later p same = ap (option_map (row_of (table_at tables p.table).rows.schema.storages (table_at tables p.table).toast)) same

-- where it takes one it has the committed rows
copy_taken : (c : CoreState) (m : Plain) (replies : List (Option Reply)) → Stands c m replies → HasCopy c.xacts c.tables (snapshot_now c.xacts) m.latest []
copy_taken c m replies stands = record {
  rows = λ p. stands.latest p ∙ sym (shown_rows c.tables (is_committed c.xacts) (committed_in c.xacts (snapshot_now c.xacts)) p (taken_at c.xacts (snapshot_now c.xacts) (table_at c.tables p.table).rows.pages p.key refl));
  since = λ p. since_taken c.xacts (snapshot_now c.xacts) (table_at c.tables p.table).rows.pages p.key refl;
}

pub copied_taken : (c : CoreState) (m : Plain) (s : ℕ) (tr : Transaction) → TakesCopy (state_at c s) → IsOpenAs c m s tr → with_copy m.latest tr tr.level tr.base ≡ record tr { base = Some m.latest; since = [] }
copied_taken c m s tr takes opened = ap (λ (level : Level). with_copy m.latest tr level tr.base) (opened.stands.level_is ∙ repeats) ∙ ap (λ (base : Option Rows). with_copy m.latest tr levels.Rr base) bare
  where
    at_level : (level : Level) (xid snapshot : Option ℕ) → is_repeatable (states.Open level xid snapshot) ≡ true → level ≡ levels.Rr
    at_level levels.Rc xid snapshot e = absurd (cc)
    at_level levels.Rr xid snapshot e = refl

    repeats : opened.level ≡ levels.Rr
    repeats = at_level opened.level opened.xid opened.snapshot (ap is_repeatable (sym opened.is) ∙ takes.repeats)

    none_by : (base : Option Rows) → tr.base ≡ base → CopyStands c.xacts c.tables None base tr.since → base ≡ None
    none_by None e copy = refl
    none_by (Some base) e copy = absurd copy

    bare : tr.base ≡ None
    bare = none_by tr.base refl (subst (λ (o : Option ℕ). CopyStands c.xacts c.tables (registered c.snaps o) tr.base tr.since) takes.none opened.stands.copy)

-- ---- the whole core

session_open : (xacts : Xacts) (snaps : Snaps) (held : SessionLocks) (log : List LogEntry) (tables : List Table) (latest : Rows) (seat : Seat) (state : State) (level : Level) (xid snapshot : Option ℕ) (t : Transaction) → state ≡ states.Open level xid snapshot
    → TransactionStands xacts snaps held log tables latest seat level t → SessionStands xacts snaps held log tables latest seat state (plain.Open t)
session_open xacts snaps held log tables latest seat state level xid snapshot t is stands = subst (λ (its : State). SessionStands xacts snaps held log tables latest seat its (plain.Open t)) (sym is) stands

-- the core by whether the copy is taken
abbrev pub used_by : Bool → CoreState → ℕ → ℕ → CoreState
used_by b c s t = if b then seated (record c { locks = locks_used c.locks s t; snaps = after_take c.snaps c.xacts }) s (record (seat_of c s) { state = with_snapshot (state_at c s) (least_free c.snaps) }) else record c { locks = locks_used c.locks s t }

pub stands_used : (c : CoreState) (m : Plain) (replies : List (Option Reply)) (s t : ℕ) (tr : Transaction) → IsSession c.seats s → is_past_moment (seat_of c s).job ≡ false → IsSound c → Stands c m replies → session_of m s ≡ plain.Open tr
    → Stands (after_use c s t) (with_session m s (plain.Open (with_use m tr t))) replies
stands_used c m replies s t tr there before sound stands is = by (takes_copy (state_at c s)) refl
  where
    opened : IsOpenAs c m s tr
    opened = open_as c m replies s tr there stands is

    its : ItsSession c m s
    its = its_session c s m replies there stands

    new : Session
    new = plain.Open (with_use m tr t)

    pends : (said : Reply) → pending_of c.tables (seat_of c s).job ≡ Some said → slice_get replies (s - 1) ≡ Some (Some said)
    pends said e = stands.pending (s - 1) (seat_of c s) said (seat_there c.seats s there) e

    plain_copy : takes_copy (state_at c s) ≡ false → CopyStands c.xacts c.tables (registered c.snaps (snapshot_of (state_at c s))) (with_copy m.latest tr tr.level tr.base).base (with_copy m.latest tr tr.level tr.base).since
    plain_copy e = subst (λ (x : Transaction). CopyStands c.xacts c.tables (registered c.snaps (snapshot_of (state_at c s))) x.base x.since) (sym (copy_plain c m s t tr there sound e opened)) opened.stands.copy

    taken_copy : TakesCopy (state_at c s) → CopyStands c.xacts c.tables (registered (after_take c.snaps c.xacts) (snapshot_of (with_snapshot (state_at c s) (least_free c.snaps)))) (with_copy m.latest tr tr.level tr.base).base (with_copy m.latest tr tr.level tr.base).since
    taken_copy takes =
        let shows : registered (after_take c.snaps c.xacts) (snapshot_of (with_snapshot (state_at c s) (least_free c.snaps))) ≡ Some (snapshot_now c.xacts) = ap (registered (after_take c.snaps c.xacts)) (snapshot_with (state_at c s) (least_free c.snaps) (ap is_open opened.is)) ∙ registered_new c.snaps c.xacts in
        subst (λ (x : Transaction). CopyStands c.xacts c.tables (registered (after_take c.snaps c.xacts) (snapshot_of (with_snapshot (state_at c s) (least_free c.snaps)))) x.base x.since) (sym (copied_taken c m s tr takes opened))
        (subst (λ (o : Option Snapshot). CopyStands c.xacts c.tables o (Some m.latest) []) (sym shows) (copy_taken c m replies stands))

    by : (b : Bool) → takes_copy (state_at c s) ≡ b → Stands (used_by b c s t) (with_session m s new) replies
    by true e =
        let takes = takes_is (state_at c s) e in
        let later = after_take c.snaps c.xacts in
        let state = with_snapshot (state_at c s) (least_free c.snaps) in
        stands_moved c s (record (seat_of c s) { state = state }) later (locks_used c.locks s t) m (with_session m s new) replies replies new there stands refl refl (length-set m.sessions (s - 1) new) (sessions_set m s its.session new its.at)
        (λ i other differ at. registered_taken c.snaps c.xacts (snapshot_of other.state) (λ id f. registered_use c i other id at (state_uses other id f) sound)) (λ other apart. granted_other c.locks s other (table_lock t Use) apart)
        (session_open c.xacts later (held_by (locks_used c.locks s t) s) c.log.entries c.tables m.latest (record (seat_of c s) { state = state }) state opened.level opened.xid (Some (least_free c.snaps)) (with_use m tr t) (ap (λ (x : State). with_snapshot x (least_free c.snaps)) opened.is)
        (transaction_used c m s t tr opened.level later state (xid_with (state_at c s) (least_free c.snaps)) (taken_copy takes) opened.stands))
        pends (λ i differ. refl)
    by false e =
        subst (λ (seats : List Seat). Stands (record c { locks = locks_used c.locks s t; seats = seats }) (with_session m s new) replies) (set_same c.seats (s - 1) (seat_of c s) (seat_there c.seats s there))
        (stands_moved c s (seat_of c s) c.snaps (locks_used c.locks s t) m (with_session m s new) replies replies new there stands refl refl (length-set m.sessions (s - 1) new) (sessions_set m s its.session new its.at)
        (λ i other differ at. refl) (λ other apart. granted_other c.locks s other (table_lock t Use) apart)
        (session_open c.xacts c.snaps (held_by (locks_used c.locks s t) s) c.log.entries c.tables m.latest (seat_of c s) (state_at c s) opened.level opened.xid opened.snapshot (with_use m tr t) opened.is
        (transaction_used c m s t tr opened.level c.snaps (state_at c s) refl (plain_copy e) opened.stands))
        pends (λ i differ. refl))

-- ---- what is left

-- a function of numbers is what it is at each
pub same_tests : (f g : ℕ → Bool) → ((z : ℕ) → f z ≡ g z) → f ≡ g
same_tests f g h = λ i x. h x i

pub session_used : (c : CoreState) (s t : ℕ) → IsSession c.seats s → IsSession (after_use c s t).seats s
session_used c s t there = by (takes_copy (state_at c s))
  where
    by : (b : Bool) → IsSession (used_by b c s t).seats s
    by true = session_written c.seats s s (record (seat_of c s) { state = with_snapshot (state_at c s) (least_free c.snaps) }) there
    by false = there

pub used_is : (c : CoreState) (s t : ℕ) → IsSession c.seats s → is_open (state_at c s) ≡ true → IsUsed c s (after_use c s t)
used_is c s t there opened = by (takes_copy (state_at c s)) refl
  where
    new : Seat
    new = record (seat_of c s) { state = with_snapshot (state_at c s) (least_free c.snaps) }

    is : seat_of (used_by true c s t) s ≡ new
    is = seat_written c.seats s new there

    counts_new : TakesCopy (state_at c s) → (z : ℕ) → in_view c.xacts (after_take c.snaps c.xacts) new.state z ≡ in_view c.xacts c.snaps (state_at c s) z
    counts_new takes z =
        ap (λ (o : Option ℕ). counts_under c.xacts (registered (after_take c.snaps c.xacts) o) (xid_of new.state) z) (snapshot_with (state_at c s) (least_free c.snaps) opened)
        ∙ ap (λ (o : Option Snapshot). counts_under c.xacts o (xid_of new.state) z) (registered_new c.snaps c.xacts)
        ∙ effect_now c.xacts (xid_of new.state) z
        ∙ ap (λ (own : Option ℕ). counts_for c.xacts own z) (xid_with (state_at c s) (least_free c.snaps))
        ∙ sym (ap (λ (o : Option ℕ). counts_under c.xacts (registered c.snaps o) (xid_of (state_at c s)) z) takes.none)

    none_taken : (state : State) (id : ℕ) → is_open state ≡ true → takes_copy (with_snapshot state id) ≡ false
    none_taken states.Outside id e = absurd (cc)
    none_taken states.Failed id e = absurd (cc)
    none_taken (states.Open levels.Rc xid snapshot) id e = refl
    none_taken (states.Open levels.Rr xid snapshot) id e = refl

    by : (b : Bool) → takes_copy (state_at c s) ≡ b → IsUsed c s (used_by b c s t)
    by true e = record {
      tables = refl;
      job = ap (λ (seat : Seat). seat.job) is;
      handles = ap (λ (seat : Seat). seat.handles) is;
      xid = ap (λ (seat : Seat). xid_of seat.state) is ∙ xid_with (state_at c s) (least_free c.snaps);
      opened = ap (λ (seat : Seat). is_open seat.state) is ∙ open_with (state_at c s) (least_free c.snaps);
      repeats = ap (λ (seat : Seat). is_repeatable seat.state) is ∙ repeatable_with (state_at c s) (least_free c.snaps);
      counts = ap (λ (seat : Seat). in_view c.xacts (after_take c.snaps c.xacts) seat.state) is ∙ same_tests (in_view c.xacts (after_take c.snaps c.xacts) new.state) (in_view c.xacts c.snaps (state_at c s)) (counts_new (takes_is (state_at c s) e));
      copied = ap (λ (seat : Seat). takes_copy seat.state) is ∙ none_taken (state_at c s) (least_free c.snaps) opened;
    }
    by false e = record { tables = refl; job = refl; handles = refl; xid = refl; opened = refl; repeats = refl; counts = refl; copied = e }

pub sees_used : (c : CoreState) (s t u : ℕ) (key : ℤ) → IsSession c.seats s → is_open (state_at c s) ≡ true → row_seen (after_use c s t) s u key ≡ row_seen c s u key
sees_used c s t u key there opened =
    let used = used_is c s t there opened in
    ap (λ (tables : List Table). found_row (table_at tables u) (in_view (after_use c s t).xacts (after_use c s t).snaps (state_at (after_use c s t) s)) key) used.tables
    ∙ ap (λ (counts : ℕ → Bool). found_row (table_at c.tables u) counts key) used.counts

-- ---- a command that has looked

pub sound_looked : (c : CoreState) (s t : ℕ) (command : Command) → IsSession c.seats s → is_open (state_at c s) ≡ true → (seat_of c s).job ≡ jobs.Submitted command → IsSound c → IsSound (after_looking c s t)
sound_looked c s t command there opened is sound =
    let before : is_past_moment (seat_of c s).job ≡ false = ap is_past_moment is in
    sound_refused (after_use c s t) s command (session_used c s t there) ((used_is c s t there opened).job ∙ is) (sound_used c s t there opened before sound)

pub stands_looked : (c : CoreState) (m : Plain) (replies : List (Option Reply)) (s t : ℕ) (command : Command) (reply : Reply) (tr : Transaction) → IsSession c.seats s → (seat_of c s).job ≡ jobs.Submitted command → IsSound c → Stands c m replies → session_of m s ≡ plain.Open tr
    → Stands (after_looking c s t) (with_session m s (plain.Open (with_use m tr t))) (slice_set replies (s - 1) (Some reply))
stands_looked c m replies s t command reply tr there is sound stands opened_is =
    let before : is_past_moment (seat_of c s).job ≡ false = ap is_past_moment is in
    let opened = open_as c m replies s tr there stands opened_is in
    let used = stands_used c m replies s t tr there before sound stands opened_is in
    let next = after_use c s t in
    let after = with_session m s (plain.Open (with_use m tr t)) in
    let next_there = session_used c s t there in
    let its = its_session next s after replies next_there used in
    stands_seated next s (record (seat_of next s) { job = jobs.Idle }) after after replies (slice_set replies (s - 1) (Some reply)) its.session next_there used refl refl refl (sessions_same after s its.session its.at)
    (session_by next.xacts next.snaps (held_by next.locks s) next.log.entries next.tables after.latest (seat_of next s) jobs.Idle (seat_of next s).state its.session (sym (ap (coming next.tables) ((used_is c s t there (ap is_open opened.is)).job ∙ is))) its.stands)
    (λ said pends. absurd (cc)) (λ i differ. get_set_other replies (s - 1) i (Some reply) differ)
