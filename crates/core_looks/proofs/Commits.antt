-- What a core stands for once a transaction has committed: its rows are the committed ones, and every other session is told.
use Rattle.std.proofs.Common.{Bool, ap, arith, inl, inr, refl, subst, sym, ◌∙◌}
use Rattle.std.proofs.lemmas.Bool.{cases_Bool}
use Rattle.std.proofs.lemmas.Bool.Decides.{nat_tests}
use Rattle.std.proofs.lemmas.List.{append-nil, length-map, length-set}
use Rattle.std.proofs.lemmas.List.Elements.{filter_map-append}
use Rattle.std.proofs.lemmas.List.Folds.{list_any-append}
use Rattle.std.specs.FinMap as map
use Rattle.std.specs.List.{cons_option, filter_map, list_any}
use Rattle.std.specs.Option.{option_map, unwrap_or}
use Rattle.std.specs.Ordering.{int_cmp, is_eq}
use Rattle.std.specs.Prelude.{Contains, List, None, Option, Some, [], cond, false, if◌then◌else◌, is_some, map as mapped, slice_get, slice_index_or, slice_set, suc, true, zero, ℕ, ◌++◌, ◌-◌, ◌==◌, ◌||◌, ◌∷◌, ◌≡◌, ◌≢◌}
use Rattle.list_facts.proofs.Changed.{after_set, get_set_other}
use Rattle.list_facts.proofs.Members.{first_in, from_chosen, later_in}
use Rattle.tuple_layout.proofs.PlaceLemmas.{same_place_is}
use Rattle.tuple_layout.specs.Places.{Row, Rows, same_place}
use Rattle.tuple_layout.specs.declared.Place.{Place}
use Rattle.xact_status.specs.Versions.{counts_for}
use Rattle.xact_status.specs.Xacts.{after_commit, is_committed, is_running, session_at}
use Rattle.snapshot_registry.specs.Laws.{IsTakenFrom}
use Rattle.snapshot_registry.specs.Snapshots.{Snaps, committed_in, held_at, is_registered}
use Rattle.snapshot_registry.specs.declared.Held.{Held}
use Rattle.snapshot_registry.specs.declared.Snapshot.{Snapshot}
use Rattle.change_log.specs.Logs.{LogState}
use Rattle.change_log.specs.declared.entry.LogEntry.{LogEntry}
use Rattle.lock_table.specs.Held.{holds_row}
use Rattle.lock_table.specs.Locks.{after_end, held_by}
use Rattle.lock_table.specs.declared.held.SessionLocks.{SessionLocks}
use Rattle.lock_table.specs.declared.lock.RowKey.{RowKey}
use Rattle.command_set.proofs.Named.{named_append, named_by_any}
use Rattle.command_set.proofs.Outcomes.{fold_other, outcome_other}
use Rattle.command_set.specs.Answers.{committed, told_by}
use Rattle.command_set.specs.Changes.{fold_changes, is_named, keys_of, outcome, place, places_of}
use Rattle.command_set.specs.Plain.{session_of, with_session}
use Rattle.command_set.specs.Replies.{taken, transaction_of}
use Rattle.command_set.specs.declared.Level.{Level}
use Rattle.command_set.specs.declared.Reply.{Reply}
use Rattle.command_set.specs.declared.state.Change.{Change}
use Rattle.command_set.specs.declared.state.Change.TheVariants.{Insert, Move, Remove, Update}
use Rattle.command_set.specs.declared.state.Plain.{Plain}
use Rattle.command_set.specs.declared.state.Session.{Session}
use Rattle.command_set.specs.declared.state.Transaction.{Transaction}
use Rattle.table_rows.proofs.Records.{moments_tell, since_stays}
use Rattle.table_rows.specs.Views.{IsOwnAt, IsSince}
use Rattle.table_rows.specs.Worlds.{IsUntouched, tuple_in}
use Rattle.table_state.specs.Rows.{row_of}
use Rattle.table_state.specs.declared.table.Table.{Table}
use Rattle.core_state.proofs.Answered.{answered, commit_open, sessions_set, within}
use Rattle.core_state.proofs.Begins.{runs_over}
use Rattle.core_state.proofs.Below.{below}
use Rattle.core_state.proofs.Ended.{held_other, left_registered, uses_most}
use Rattle.core_state.proofs.Falls.{stands_given_up}
use Rattle.core_state.proofs.Lists.{read_found}
use Rattle.core_state.proofs.Moved.{state_uses}
use Rattle.core_state.proofs.Released.{released_all}
use Rattle.core_state.proofs.Seats.{seat_written, sound_of}
use Rattle.core_state.proofs.Standing.{its_session}
use Rattle.core_state.specs.Coming.{xid_logged}
use Rattle.core_state.specs.Events.{left}
use Rattle.core_state.specs.Facts.{IsSound, LocksAreSound, places_logged}
use Rattle.core_state.specs.Lines.{after_commit_of, ids_released, once_aborted, once_committed, once_ended, once_released, once_unpinned}
use Rattle.core_state.specs.Moves.{Runs}
use Rattle.core_state.specs.Stands.{CopyStands, HasCopy, SessionStands, Stands, TransactionStands, change_logged, change_of, coming, logged_changes, pending_of, row_in_table}
use Rattle.core_state.specs.State.{CoreState, IsSession, is_open, job_table, nobody, schemas_of, seat_of, snapshot_of, table_at, uses_of, xid_of}
use Rattle.core_state.specs.Views.{in_sight, registered, row_at}
use Rattle.core_state.specs.declared.seat.Job.{Job}
use Rattle.core_state.specs.declared.seat.Seat.{Seat}
use Rattle.core_state.specs.declared.seat.State.{State}
use Rattle.core_looks.proofs.Named.{fold_named}
use Rattle.core_looks.proofs.Replies.{has_open}
use Rattle.core_looks.proofs.Sights.{pages_at, registered_is, state_at, untouched}
use Rattle.core_looks.proofs.Views.{IsOpenAs, open_as}
use Rattle.core_looks.specs.Due.{claim_of}
use Rattle.change_log.specs.declared.entry.LogEntry.TheVariants as entries
use Rattle.command_set.specs.declared.Command.TheVariants as commands
use Rattle.command_set.specs.declared.Reply.TheVariants as replies
use Rattle.command_set.specs.declared.state.Session.TheVariants as plain
use Rattle.core_state.specs.declared.advance.Advance.TheVariants as advances
use Rattle.core_state.specs.declared.seat.Job.TheVariants as jobs
use Rattle.core_state.specs.declared.seat.State.TheVariants as states

-- ---- the places that a transaction has changed

-- a place is one of a list where it ties with it
place_named : (places : List Place) (p : Place) → is_named places p ≡ true → (q : Place) × Contains places q × (same_place p q ≡ true)
place_named [] p e = absurd (cc)
place_named (q ∷ places) p e = elim (cases_Bool (same_place p q)) [
  | inl same ↦ (q, first_in q places q refl, same)
  | inr other ↦
      let rest = place_named places p (sym (ap (λ (b : Bool). b || is_named places p) other) ∙ e) in
      (rest.0, later_in q places rest.0 rest.1, rest.2)
]

-- a change of a list names it
change_named : (changes : List Change) (p : Place) → is_named (keys_of changes) p ≡ true → (change : Change) × Contains changes change × (is_named (places_of change) p ≡ true)
change_named [] p e = absurd (cc)
change_named (change ∷ changes) p e = elim (cases_Bool (is_named (places_of change) p)) [
  | inl here ↦ (change, first_in change changes change refl, here)
  | inr other ↦
      let rest = change_named changes p (sym (ap (λ (b : Bool). b || is_named (keys_of changes) p) other) ∙ sym (named_append (places_of change) (keys_of changes) p) ∙ e) in
      (rest.0, later_in change changes rest.0 rest.1, rest.2)
]

-- the places of a change that an entry tells are the entry's
change_places : (tables : List Table) (entry : LogEntry) (change : Change) (q : Place) → change_logged tables entry ≡ Some change → Contains (places_of change) q → Contains (places_logged entry) q
change_places tables (entries.Chunk xid t value_id seq bytes) change q e of = absurd (cc)
change_places tables (entries.Insert xid t key cells) change q e of = subst (λ (places : List Place). Contains places q) (ap places_of (sym (some_is (Insert t key (row_in_table tables t cells)) change e))) of
  where
    some_is : (a b : Change) → Some a ≡ Some b → a ≡ b
    some_is a b e = cc
change_places tables (entries.Update xid t from to cells) change q e of = by (is_eq (int_cmp from to)) e
  where
    some_is : (a b : Change) → Some a ≡ Some b → a ≡ b
    some_is a b e = cc

    by : (b : Bool) → Some (if b then Update t to (row_in_table tables t cells) else Move t from to (row_in_table tables t cells)) ≡ Some change → Contains (place t from ∷ place t to ∷ []) q
    by true f = later_in (place t from) (place t to ∷ []) q (subst (λ (places : List Place). Contains places q) (ap places_of (sym (some_is (Update t to (row_in_table tables t cells)) change f))) of)
    by false f = subst (λ (places : List Place). Contains places q) (ap places_of (sym (some_is (Move t from to (row_in_table tables t cells)) change f))) of
change_places tables (entries.Delete xid t key) change q e of = subst (λ (places : List Place). Contains places q) (ap places_of (sym (some_is (Remove t key) change e))) of
  where
    some_is : (a b : Change) → Some a ≡ Some b → a ≡ b
    some_is a b e = cc
change_places tables (entries.Commit xid) change q e of = absurd (cc)
change_places tables (entries.Abort xid) change q e of = absurd (cc)

-- what an entry tells of a transaction
entry_told : (tables : List Table) (x : ℕ) (entry : LogEntry) (change : Change) → change_of tables x entry ≡ Some change → (xid_logged entry ≡ x) × (change_logged tables entry ≡ Some change)
entry_told tables x entry change e = by (xid_logged entry == x) refl e
  where
    by : (b : Bool) → (xid_logged entry == x) ≡ b → (if b then change_logged tables entry else None) ≡ Some change → (xid_logged entry ≡ x) × (change_logged tables entry ≡ Some change)
    by true is f = (grind (arith, nat_tests, is), f)
    by false is f = absurd (cc)

-- a place that a running transaction has changed is one at which its own change is the last
own_at : (c : CoreState) (s x : ℕ) (p : Place) → IsSession c.seats s → IsSound c → xid_of (state_at c s) ≡ Some x → is_named (keys_of (logged_changes c.tables c.log.entries (Some x))) p ≡ true → IsOwnAt c.xacts x (pages_at c p.table) p.key
own_at c s x p there sound mine named =
    let change = change_named (filter_map (change_of c.tables x) c.log.entries) p named in
    let entry = from_chosen (change_of c.tables x) c.log.entries change.0 change.1 in
    let told = entry_told c.tables x entry.0 change.0 entry.2 in
    let q = place_named (places_of change.0) p change.2 in
    let places = change_places c.tables entry.0 change.0 q.0 told.1 q.1 in
    let runs : session_at c.xacts (xid_logged entry.0) ≡ Some s = ap (session_at c.xacts) told.0 ∙ (sound_of c s there sound).runs x mine in
    let is = (sound.log.changed entry.0 s q.0 entry.1 runs places).own in
    let at : q.0 ≡ p = sym (same_place_is p q.0 q.2) in
    subst (λ (y : ℕ). IsOwnAt c.xacts y (pages_at c p.table) p.key) told.0 (subst (λ (r : Place). IsOwnAt c.xacts (xid_logged entry.0) (pages_at c r.table) r.key) at is)

-- ---- a world after a commit

rows_same : (tables : List Table) (counts later : ℕ → Bool) (p : Place) → tuple_in later (table_at tables p.table).rows.pages p.key ≡ tuple_in counts (table_at tables p.table).rows.pages p.key → row_at tables later p ≡ row_at tables counts p
rows_same tables counts later p same = ap (option_map (row_of (table_at tables p.table).rows.schema.storages (table_at tables p.table).toast)) same

-- the session that commits, with its xid, and the plain store's transaction
pub record Commits (c : CoreState) (m : Plain) (s x : ℕ) (t : Transaction) : Type 0 where
  pub there : IsSession c.seats s
  pub sound : IsSound c
  pub mine : xid_of (state_at c s) ≡ Some x
  pub job : coming c.tables (seat_of c s).job ≡ []
  pub opened : IsOpenAs c m s t

runs_at : (c : CoreState) (m : Plain) (s x : ℕ) (t : Transaction) → Commits c m s x t → is_running c.xacts x ≡ true
runs_at c m s x t at = ap is_some ((sound_of c s at.there at.sound).runs x at.mine)

-- its changes are those that the log tells
changes_at : (c : CoreState) (m : Plain) (s x : ℕ) (t : Transaction) → Commits c m s x t → t.changes ≡ logged_changes c.tables c.log.entries (Some x)
changes_at c m s x t at =
    at.opened.stands.changes
    ∙ ap (λ (own : Option ℕ). logged_changes c.tables c.log.entries own ++ coming c.tables (seat_of c s).job) at.mine
    ∙ ap (λ (more : List Change). logged_changes c.tables c.log.entries (Some x) ++ more) at.job
    ∙ append-nil (logged_changes c.tables c.log.entries (Some x))

-- its rows are the committed ones
latest_then : (c : CoreState) (m : Plain) (s x : ℕ) (t : Transaction) (p : Place) → Commits c m s x t → map.get (fold_changes t.changes m.latest) p ≡ row_at c.tables (is_committed (after_commit c.xacts x)) p
latest_then c m s x t p at =
    at.opened.stands.now p
    ∙ ap (λ (more : List Change). unwrap_or (outcome more p) (row_at c.tables (in_sight c.xacts (state_at c s)) p)) at.job
    ∙ ap (λ (own : Option ℕ). row_at c.tables (counts_for c.xacts own) p) at.mine
    ∙ sym (rows_same c.tables (counts_for c.xacts (Some x)) (is_committed (after_commit c.xacts x)) p (moments_tell.latest_at_commit c.xacts x (pages_at c p.table) p.key (runs_at c m s x t at)))

-- what it has not changed it has not touched
untouched_by : (c : CoreState) (m : Plain) (s x : ℕ) (t : Transaction) (p : Place) → Commits c m s x t → is_named (keys_of t.changes) p ≡ false → IsUntouched x (pages_at c p.table) p.key
untouched_by c m s x t p at other = untouched c s p.table x p.key at.there at.sound at.mine (sym (at.opened.stands.claimed p) ∙ other)

-- ---- another session

-- its copy shows what it showed, and remembers the changes
copy_then : (c : CoreState) (m : Plain) (s x : ℕ) (t : Transaction) (o : Option ℕ) (base : Rows) (since : List Place) (snapshot : Snapshot) → Commits c m s x t → registered c.snaps o ≡ Some snapshot
    → HasCopy c.xacts c.tables snapshot base since → HasCopy (after_commit c.xacts x) c.tables snapshot base (since ++ keys_of t.changes)
copy_then c m s x t o base since snapshot at shown old =
    let its = registered_is c.snaps o snapshot shown in
    let runs = runs_at c m s x t at in
    let taken : IsTakenFrom c.xacts snapshot = subst (λ (sn : Snapshot). IsTakenFrom c.xacts sn) its.shows (at.sound.registry.each its.id its.held its.at) in
    record {
      rows = λ p.
          let pages = pages_at c p.table in
          let same : tuple_in (committed_in (after_commit c.xacts x) its.held.snapshot) pages p.key ≡ tuple_in (committed_in c.xacts its.held.snapshot) pages p.key =
          sym (moments_tell.shown (after_commit c.xacts x) c.snaps its.id its.held pages p.key its.at) ∙ moments_tell.shown_at_commit c.xacts c.snaps x its.id pages p.key runs at.sound.registry ∙ moments_tell.shown c.xacts c.snaps its.id its.held pages p.key its.at in
          let here : tuple_in (committed_in (after_commit c.xacts x) snapshot) pages p.key ≡ tuple_in (committed_in c.xacts snapshot) pages p.key =
          subst (λ (sn : Snapshot). tuple_in (committed_in (after_commit c.xacts x) sn) pages p.key ≡ tuple_in (committed_in c.xacts sn) pages p.key) its.shows same in
          old.rows p ∙ sym (rows_same c.tables (committed_in c.xacts snapshot) (committed_in (after_commit c.xacts x) snapshot) p here);
      since = λ p. subst (λ (b : Bool). IsSince (after_commit c.xacts x) snapshot (pages_at c p.table) p.key b) (sym (named_append since (keys_of t.changes) p)) (by p runs taken (is_named (keys_of t.changes) p) refl);
    }
  where
    or_true : (b : Bool) → (b || true) ≡ true
    or_true true = refl
    or_true false = refl

    or_false : (b : Bool) → (b || false) ≡ b
    or_false true = refl
    or_false false = refl

    by : (p : Place) → is_running c.xacts x ≡ true → IsTakenFrom c.xacts snapshot → (b : Bool) → is_named (keys_of t.changes) p ≡ b → IsSince (after_commit c.xacts x) snapshot (pages_at c p.table) p.key (is_named since p || b)
    by p runs taken true named =
        let own = own_at c s x p at.there at.sound at.mine (sym (ap (λ (changes : List Change). is_named (keys_of changes) p) (changes_at c m s x t at)) ∙ named) in
        subst (λ (b : Bool). IsSince (after_commit c.xacts x) snapshot (pages_at c p.table) p.key b) (sym (or_true (is_named since p))) (since_stays.changed c.xacts snapshot x (pages_at c p.table) p.key runs taken own)
    by p runs taken false other =
        subst (λ (b : Bool). IsSince (after_commit c.xacts x) snapshot (pages_at c p.table) p.key b) (sym (or_false (is_named since p)))
        (since_stays.untouched c.xacts snapshot x (pages_at c p.table) p.key (is_named since p) runs taken (untouched_by c m s x t p at other) (old.since p))

-- ---- what another session has still to make

later_unnamed : (changes more : List Change) (p : Place) → is_named (keys_of (changes ++ more)) p ≡ false → is_named (keys_of more) p ≡ false
later_unnamed changes more p e =
    right (list_any (λ change. is_named (places_of change) p) changes) (is_named (keys_of more) p)
    (ap (λ (b : Bool). list_any (λ change. is_named (places_of change) p) changes || b) (named_by_any more p) ∙ sym (list_any-append (λ change. is_named (places_of change) p) changes more) ∙ sym (named_by_any (changes ++ more) p) ∙ e)
  where
    right : (a b : Bool) → (a || b) ≡ false → b ≡ false
    right true b f = absurd (cc)
    right false b f = f

session_at_seat : (seats : List Seat) (i : ℕ) (other : Seat) → slice_get seats i ≡ Some other → IsSession seats (suc i)
session_at_seat seats i other at =
    let low = within seats i other at in
    record { from_one = omega arith; within = omega (arith, low) }

seat_at : (seats : List Seat) (i : ℕ) (other : Seat) → slice_get seats i ≡ Some other → slice_index_or seats (suc i - 1) nobody ≡ other
seat_at seats i other at =
    let place : suc i - 1 ≡ i = omega arith in
    ap (λ (k : ℕ). slice_index_or seats k nobody) place ∙ read_found seats i other nobody at

-- what is there for it now
now_then : (c : CoreState) (m : Plain) (s x : ℕ) (t : Transaction) (i : ℕ) (other : Seat) (level : Level) (its : Transaction) (p : Place) → Commits c m s x t → suc i ≢ s → slice_get c.seats i ≡ Some other
    → TransactionStands c.xacts c.snaps (held_by c.locks (suc i)) c.log.entries c.tables m.latest other level its
    → map.get (fold_changes its.changes (fold_changes t.changes m.latest)) p ≡ unwrap_or (outcome (coming c.tables other.job) p) (row_at c.tables (in_sight (after_commit c.xacts x) other.state) p)
now_then c m s x t i other level its p at differ at_seat old = by (is_named (keys_of its.changes) p) refl
  where
    runs : is_running c.xacts x ≡ true
    runs = runs_at c m s x t at

    locks : LocksAreSound (held_by c.locks (suc i)) other.state
    locks = (at.sound.each i other at_seat).locks

    row : RowKey
    row = claim_of p.table p.key

    -- where it has changed the place, the session that commits has not
    changed_by : is_named (keys_of its.changes) p ≡ true → (own : Option ℕ) → xid_of other.state ≡ own → row_at c.tables (counts_for (after_commit c.xacts x) own) p ≡ row_at c.tables (counts_for c.xacts own) p
    changed_by named None none =
        let unclaimed = locks.unclaimed row none in
        let claimed : holds_row (held_by c.locks (suc i)).rows row ≡ true = sym (old.claimed p) ∙ named in
        absurd (cc)
    changed_by named (Some y) its_xid =
        let claimed : holds_row (held_by c.locks (suc i)).rows row ≡ true = sym (old.claimed p) ∙ named in
        let unclaimed : holds_row (held_by c.locks s).rows row ≡ false = at.sound.apart.claims (suc i) s row differ claimed in
        rows_same c.tables (counts_for c.xacts (Some y)) (counts_for (after_commit c.xacts x) (Some y)) p (moments_tell.own_at_commit c.xacts x y (pages_at c p.table) p.key runs (untouched c s p.table x p.key at.there at.sound at.mine unclaimed))

    -- where it has not, it has what is committed
    follows : is_named (keys_of its.changes) p ≡ false → (own : Option ℕ) → xid_of other.state ≡ own → row_at c.tables (counts_for (after_commit c.xacts x) own) p ≡ row_at c.tables (is_committed (after_commit c.xacts x)) p
    follows unnamed None none = refl
    follows unnamed (Some y) its_xid =
        let unclaimed : holds_row (held_by c.locks (suc i)).rows row ≡ false = sym (old.claimed p) ∙ unnamed in
        let alone = untouched c (suc i) p.table y p.key (session_at_seat c.seats i other at_seat) at.sound (ap (λ (seat : Seat). xid_of seat.state) (seat_at c.seats i other at_seat) ∙ its_xid) unclaimed in
        rows_same c.tables (counts_for c.xacts (Some x)) (counts_for (after_commit c.xacts x) (Some y)) p (moments_tell.own_follows_commit c.xacts x y (pages_at c p.table) p.key runs alone)
        ∙ sym (rows_same c.tables (counts_for c.xacts (Some x)) (is_committed (after_commit c.xacts x)) p (moments_tell.latest_at_commit c.xacts x (pages_at c p.table) p.key runs))

    none_comes : is_named (keys_of its.changes) p ≡ false → outcome (coming c.tables other.job) p ≡ None
    none_comes unnamed =
        let all : is_named (keys_of (logged_changes c.tables c.log.entries (xid_of other.state) ++ coming c.tables other.job)) p ≡ false = sym (ap (λ (changes : List Change). is_named (keys_of changes) p) old.changes) ∙ unnamed in
        outcome_other (coming c.tables other.job) p (later_unnamed (logged_changes c.tables c.log.entries (xid_of other.state)) (coming c.tables other.job) p all)

    by : (b : Bool) → is_named (keys_of its.changes) p ≡ b → map.get (fold_changes its.changes (fold_changes t.changes m.latest)) p ≡ unwrap_or (outcome (coming c.tables other.job) p) (row_at c.tables (in_sight (after_commit c.xacts x) other.state) p)
    by true named = fold_named its.changes (fold_changes t.changes m.latest) m.latest p named ∙ old.now p ∙ sym (ap (unwrap_or (outcome (coming c.tables other.job) p)) (changed_by named (xid_of other.state) refl))
    by false unnamed =
        fold_other its.changes (fold_changes t.changes m.latest) p unnamed ∙ latest_then c m s x t p at ∙ sym (follows unnamed (xid_of other.state) refl)
        ∙ sym (ap (λ (o : Option (Option Row)). unwrap_or o (row_at c.tables (in_sight (after_commit c.xacts x) other.state) p)) (none_comes unnamed))

-- ---- and what it is told

-- a transaction once it is told of changes
abbrev told_of : List Change → Transaction → Transaction
told_of changes its = if is_some its.base then record its { since = its.since ++ keys_of changes } else its

record Told (its later : Transaction) : Type 0 where
  level : later.level ≡ its.level
  base : later.base ≡ its.base
  changes : later.changes ≡ its.changes
  used : later.used ≡ its.used
  handles : later.handles ≡ its.handles

told_is : (changes : List Change) (its : Transaction) → Told its (told_of changes its)
told_is changes its = by (is_some its.base)
  where
    by : (b : Bool) → Told its (if b then record its { since = its.since ++ keys_of changes } else its)
    by true = record { level = refl; base = refl; changes = refl; used = refl; handles = refl }
    by false = record { level = refl; base = refl; changes = refl; used = refl; handles = refl }

-- the snapshots that others use are what they were
registered_left : (snaps left : Snaps) (o : Option ℕ) → ((id : ℕ) → o ≡ Some id → is_registered left id ≡ true) → ((id : ℕ) (held : Held) → held_at left id ≡ Some held → (before : Held) × (held_at snaps id ≡ Some before) × (held.snapshot ≡ before.snapshot)) → registered left o ≡ registered snaps o
registered_left snaps left None there back = refl
registered_left snaps left (Some id) there back = by (held_at left id) refl (there id refl)
  where
    by : (h : Option Held) → held_at left id ≡ h → is_some h ≡ true → registered left (Some id) ≡ registered snaps (Some id)
    by None e f = absurd (cc)
    by (Some held) e f =
        let before = back id held e in
        ap (option_map (λ (its : Held). its.snapshot)) e ∙ ap Some before.2 ∙ sym (ap (option_map (λ (its : Held). its.snapshot)) before.1)

copy_told : (c : CoreState) (m : Plain) (s x : ℕ) (t : Transaction) (o : Option ℕ) (its : Transaction) → Commits c m s x t → CopyStands c.xacts c.tables (registered c.snaps o) its.base its.since
    → CopyStands (after_commit c.xacts x) c.tables (registered c.snaps o) (told_of t.changes its).base (told_of t.changes its).since
copy_told c m s x t o its at old = by (registered c.snaps o) its.base refl refl old
  where
    by : (sn : Option Snapshot) (base : Option Rows) → registered c.snaps o ≡ sn → its.base ≡ base → CopyStands c.xacts c.tables sn base its.since
        → CopyStands (after_commit c.xacts x) c.tables sn (if is_some base then record its { since = its.since ++ keys_of t.changes; base = base } else record its { base = base }).base (if is_some base then record its { since = its.since ++ keys_of t.changes; base = base } else record its { base = base }).since
    by None None e f copy = tt
    by None (Some base) e f copy = copy
    by (Some snapshot) None e f copy = copy
    by (Some snapshot) (Some base) e f copy = copy_then c m s x t o base its.since snapshot at e copy

-- an end tells no change
commit_tells : (tables : List Table) (x : ℕ) (log : LogState) (own : Option ℕ) → logged_changes tables (once_ended log (Some (entries.Commit x))).entries own ≡ logged_changes tables log.entries own
commit_tells tables x log None = refl
commit_tells tables x log (Some y) = filter_map-append (change_of tables y) log.entries (entries.Commit x ∷ []) ∙ ap (λ (more : List Change). filter_map (change_of tables y) log.entries ++ more) (by (x == y)) ∙ append-nil (filter_map (change_of tables y) log.entries)
  where
    by : (b : Bool) → cons_option (cond b (change_logged tables (entries.Commit x)) None) [] ≡ []
    by true = refl
    by false = refl

-- ---- another session, and the whole

-- the core after the commit of a transaction, by its xid and the tables
abbrev core_then : CoreState → ℕ → Option ℕ → List Table → CoreState
core_then c s own tables = record c {
  ids = ids_released c.ids s;
  xacts = once_committed c.xacts own;
  snaps = once_released c.snaps (uses_of (seat_of c s));
  locks = after_end c.locks s;
  log = once_ended c.log (option_map (λ xid. entries.Commit xid) own);
  tables = tables;
  seats = slice_set c.seats (s - 1) (record { state = states.Outside; handles = []; job = jobs.Idle });
}

-- the plain store's state after it
abbrev plain_then : Plain → ℕ → Transaction → Plain
plain_then m s t = with_session (record m { latest = fold_changes t.changes m.latest; sessions = mapped (told_by t.changes) m.sessions }) s plain.Outside

transaction_then : (c : CoreState) (m : Plain) (s x : ℕ) (t : Transaction) (left : Snaps) (i : ℕ) (other : Seat) (level : Level) (its : Transaction) → Commits c m s x t → suc i ≢ s → slice_get c.seats i ≡ Some other → registered left (snapshot_of other.state) ≡ registered c.snaps (snapshot_of other.state)
    → TransactionStands c.xacts c.snaps (held_by c.locks (suc i)) c.log.entries c.tables m.latest other level its
    → TransactionStands (after_commit c.xacts x) left (held_by c.locks (suc i)) (once_ended c.log (Some (entries.Commit x))).entries c.tables (fold_changes t.changes m.latest) other level (told_of t.changes its)
transaction_then c m s x t left i other level its at differ at_seat shown old =
    let told = told_is t.changes its in
    record {
      level_is = told.level ∙ old.level_is;
      copy = subst (λ (o : Option Snapshot). CopyStands (after_commit c.xacts x) c.tables o (told_of t.changes its).base (told_of t.changes its).since) (sym shown) (copy_told c m s x t (snapshot_of other.state) its at old.copy);
      changes = told.changes ∙ old.changes ∙ sym (ap (λ (changes : List Change). changes ++ coming c.tables other.job) (commit_tells c.tables x c.log (xid_of other.state)));
      now = λ p. ap (λ (changes : List Change). map.get (fold_changes changes (fold_changes t.changes m.latest)) p) told.changes ∙ now_then c m s x t i other level its p at differ at_seat old;
      used = λ u. ap (λ used. list_any (λ (n : ℕ). n == u) used) told.used ∙ old.used u;
      claimed = λ p. ap (λ (changes : List Change). is_named (keys_of changes) p) told.changes ∙ old.claimed p;
      handles = λ name. ap (λ handles. map.get handles name) told.handles ∙ old.handles name;
    }

session_then : (c : CoreState) (m : Plain) (s x : ℕ) (t : Transaction) (left : Snaps) (i : ℕ) (other : Seat) (state : State) (its : Session) → Commits c m s x t → suc i ≢ s → slice_get c.seats i ≡ Some other → registered left (snapshot_of other.state) ≡ registered c.snaps (snapshot_of other.state)
    → SessionStands c.xacts c.snaps (held_by c.locks (suc i)) c.log.entries c.tables m.latest other state its
    → SessionStands (after_commit c.xacts x) left (held_by c.locks (suc i)) (once_ended c.log (Some (entries.Commit x))).entries c.tables (fold_changes t.changes m.latest) other state (told_by t.changes its)
session_then c m s x t left i other states.Outside plain.Outside at differ at_seat shown old = tt
session_then c m s x t left i other states.Outside plain.Failed at differ at_seat shown old = old
session_then c m s x t left i other states.Outside (plain.Open its) at differ at_seat shown old = old
session_then c m s x t left i other states.Failed plain.Outside at differ at_seat shown old = old
session_then c m s x t left i other states.Failed plain.Failed at differ at_seat shown old = tt
session_then c m s x t left i other states.Failed (plain.Open its) at differ at_seat shown old = old
session_then c m s x t left i other (states.Open level xid snapshot) plain.Outside at differ at_seat shown old = old
session_then c m s x t left i other (states.Open level xid snapshot) plain.Failed at differ at_seat shown old = old
session_then c m s x t left i other (states.Open level xid snapshot) (plain.Open its) at differ at_seat shown old = transaction_then c m s x t left i other level its at differ at_seat shown old

-- an item of a mapped list
from_mapped : {X Y : Type 0} (f : X → Y) (xs : List X) (i : ℕ) (y : Y) → slice_get (mapped f xs) i ≡ Some y → (x : X) × (slice_get xs i ≡ Some x) × (f x ≡ y)
from_mapped f [] i y e = absurd (cc)
from_mapped f (x ∷ xs) zero y e = (x, refl, cc)
from_mapped f (x ∷ xs) (suc i) y e = from_mapped f xs i y e

stands_then : (c : CoreState) (m : Plain) (told : List (Option Reply)) (s x : ℕ) (t : Transaction) (reply : Reply) → Commits c m s x t → Stands c m told → Stands (core_then c s (Some x) c.tables) (plain_then m s t) (slice_set told (s - 1) (Some reply))
stands_then c m told s x t reply at stands =
    let gives = released_all c.xacts c.snaps (uses_of (seat_of c s)) (uses_most c s at.there at.sound) in
    let left = once_released c.snaps (uses_of (seat_of c s)) in
    let latest = fold_changes t.changes m.latest in
    let log = (once_ended c.log (Some (entries.Commit x))).entries in
    record {
      latest = λ p. latest_then c m s x t p at;
      count = length-set (mapped (told_by t.changes) m.sessions) (s - 1) plain.Outside ∙ length-map m.sessions (told_by t.changes) ∙ stands.count ∙ sym (length-set c.seats (s - 1) over);
      sessions = λ i other its at_seat at_its. elim (after_set c.seats (s - 1) over i other at_seat) [
        | inl h ↦ elim (after_set (mapped (told_by t.changes) m.sessions) (s - 1) plain.Outside i its at_its) [
          | inl g ↦
              let bare : SessionStands (after_commit c.xacts x) left (held_by (after_end c.locks s) (suc i)) log c.tables latest over over.state its = subst (λ (y : Session). SessionStands (after_commit c.xacts x) left (held_by (after_end c.locks s) (suc i)) log c.tables latest over over.state y) (sym g.1) tt in
              subst (λ (y : Seat). SessionStands (after_commit c.xacts x) left (held_by (after_end c.locks s) (suc i)) log c.tables latest y y.state its) (sym h.1) bare
          | inr g ↦ absurd (g.0 h.0)
        ]
        | inr h ↦ elim (after_set (mapped (told_by t.changes) m.sessions) (s - 1) plain.Outside i its at_its) [
          | inl g ↦ absurd (h.0 g.0)
          | inr g ↦
              let differ : suc i ≢ s = λ e. h.0 (omega (arith, e)) in
              let was = from_mapped (told_by t.changes) m.sessions i its g.1 in
              let shown = registered_left c.snaps left (snapshot_of other.state) (λ id e. left_registered c s i other left at.there differ h.1 gives at.sound id (state_uses other id e)) gives.back in
              let moved = session_then c m s x t left i other other.state was.0 at differ h.1 shown (stands.sessions i other was.0 h.1 was.1) in
              let held = subst (λ (locks : SessionLocks). SessionStands (after_commit c.xacts x) left locks log c.tables latest other other.state (told_by t.changes was.0)) (sym (held_other c.locks s (suc i) differ)) moved in
              subst (λ (y : Session). SessionStands (after_commit c.xacts x) left (held_by (after_end c.locks s) (suc i)) log c.tables latest other other.state y) was.2 held
        ]
      ];
      upkeep = stands.upkeep;
      pending = λ i other said at_seat pends. elim (after_set c.seats (s - 1) over i other at_seat) [
        | inl h ↦ absurd (none_pends (sym (ap (λ (y : Seat). pending_of c.tables y.job) h.1) ∙ pends))
        | inr h ↦ get_set_other told (s - 1) i (Some reply) h.0 ∙ stands.pending i other said h.1 pends
      ];
    }
  where
    over : Seat
    over = record { state = states.Outside; handles = []; job = jobs.Idle }

    none_pends : {said : Reply} → None ≡ Some said → ⊥
    none_pends e = absurd (cc)

-- ---- a transaction that has changed nothing

told_none : (sessions : List Session) → mapped (told_by []) sessions ≡ sessions
told_none [] = refl
told_none (session ∷ sessions) = ap (λ (y : Session). y ∷ mapped (told_by []) sessions) (one session) ∙ ap (λ (ys : List Session). session ∷ ys) (told_none sessions)
  where
    one : (its : Session) → told_by [] its ≡ its
    one plain.Outside = refl
    one plain.Failed = refl
    one (plain.Open t) = ap plain.Open (by (is_some t.base))
      where
        by : (b : Bool) → (if b then record t { since = t.since ++ [] } else t) ≡ t
        by true = ap (λ (since : List Place). record t { since = since }) (append-nil t.since)
        by false = refl

-- ---- the moment

committed_is : (m : Plain) (s : ℕ) (t : Transaction) → session_of m s ≡ plain.Open t → committed m s ≡ plain_then m s t
committed_is m s t is = ap (λ (session : Session). plain_then m s (transaction_of session)) is

pub job_committed : (c : CoreState) (s : ℕ) → IsSession c.seats s → (seat_of (after_commit_of c s) s).job ≡ jobs.Idle
job_committed c s there = ap (λ (seat : Seat). seat.job) (seat_written c.seats s (record { state = states.Outside; handles = []; job = jobs.Idle }) there)

pub commit_runs : (c : CoreState) (s : ℕ) → IsSession c.seats s → IsSound c → (seat_of c s).job ≡ jobs.Submitted commands.Commit → is_open (state_at c s) ≡ true → Runs c s commands.Commit (after_commit_of c s) (advances.Done replies.Okay)
commit_runs c s there sound job opened =
    runs_over c s commands.Commit (after_commit_of c s) replies.Okay (ap (λ (seat : Seat). seat.job) (seat_written c.seats s (record { state = states.Outside; handles = []; job = jobs.Idle }) there))
    (λ m told counted stands.
    let has = has_open c m told s there stands opened in
    record {
      next = plain_then m s has.transaction;
      is = commit_open (schemas_of c.tables) m s has.transaction has.is ∙ ap (answered replies.Okay) (committed_is m s has.transaction has.is);
      stands = by m told stands has.transaction has.is (xid_of (state_at c s)) refl;
    })
  where
    none_comes : coming c.tables (seat_of c s).job ≡ []
    none_comes = ap (coming c.tables) job

    tables_same : once_unpinned c.tables s (job_table (seat_of c s).job) ≡ c.tables
    tables_same = ap (λ (j : Job). once_unpinned c.tables s (job_table j)) job

    -- without an xid it ends as one that is given up
    given : (m : Plain) (told : List (Option Reply)) → Stands c m told → (t : Transaction) → session_of m s ≡ plain.Open t → xid_of (state_at c s) ≡ None → Stands (core_then c s None (once_unpinned c.tables s (job_table (seat_of c s).job))) (plain_then m s t) (slice_set told (s - 1) (Some replies.Okay))
    given m told stands t is none =
        let its = its_session c s m told there stands in
        let opens = open_as c m told s t there stands is in
        let empty : t.changes ≡ [] = opens.stands.changes ∙ ap (λ (own : Option ℕ). logged_changes c.tables c.log.entries own ++ coming c.tables (seat_of c s).job) none ∙ none_comes in
        let after = with_session m s plain.Outside in
        let same : plain_then m s t ≡ after = ap (λ (changes : List Change). with_session (record m { latest = fold_changes changes m.latest; sessions = mapped (told_by changes) m.sessions }) s plain.Outside) empty
        ∙ ap (λ (sessions : List Session). with_session (record m { sessions = sessions }) s plain.Outside) (told_none m.sessions) in
        let ended = stands_given_up below.tells below.since c s states.Outside m after told (slice_set told (s - 1) (Some replies.Okay)) plain.Outside there sound stands refl refl (length-set m.sessions (s - 1) plain.Outside) (sessions_set m s its.session plain.Outside its.at)
        (λ locks latest. tt) (λ i differ. get_set_other told (s - 1) i (Some replies.Okay) differ) in
        let given_up : (own : Option ℕ) → CoreState = λ own. record c {
          ids = ids_released c.ids s;
          xacts = once_aborted c.xacts own;
          snaps = once_released c.snaps (uses_of (seat_of c s));
          locks = after_end c.locks s;
          log = once_ended c.log (option_map (λ xid. entries.Abort xid) own);
          tables = once_unpinned c.tables s (job_table (seat_of c s).job);
          seats = slice_set c.seats (s - 1) (record { state = states.Outside; handles = []; job = jobs.Idle });
        } in
        let bare : Stands (given_up None) after (slice_set told (s - 1) (Some replies.Okay)) = subst (λ (own : Option ℕ). Stands (given_up own) after (slice_set told (s - 1) (Some replies.Okay))) none ended in
        subst (λ (n : Plain). Stands (given_up None) n (slice_set told (s - 1) (Some replies.Okay))) (sym same) bare

    by : (m : Plain) (told : List (Option Reply)) → Stands c m told → (t : Transaction) → session_of m s ≡ plain.Open t → (own : Option ℕ) → xid_of (state_at c s) ≡ own → Stands (after_commit_of c s) (plain_then m s t) (slice_set told (s - 1) (Some replies.Okay))
    by m told stands t is None mine =
        subst (λ (own : Option ℕ). Stands (core_then c s own (once_unpinned c.tables s (job_table (seat_of c s).job))) (plain_then m s t) (slice_set told (s - 1) (Some replies.Okay))) (sym mine) (given m told stands t is mine)
    by m told stands t is (Some x) mine =
        let at : Commits c m s x t = record { there = there; sound = sound; mine = mine; job = none_comes; opened = open_as c m told s t there stands is } in
        let whole = subst (λ (tables : List Table). Stands (core_then c s (Some x) tables) (plain_then m s t) (slice_set told (s - 1) (Some replies.Okay))) (sym tables_same) (stands_then c m told s x t replies.Okay at stands) in
        subst (λ (own : Option ℕ). Stands (core_then c s own (once_unpinned c.tables s (job_table (seat_of c s).job))) (plain_then m s t) (slice_set told (s - 1) (Some replies.Okay))) (sym mine) whole
