-- What a core stands for after a transaction has ended without a commit.
use Rattle.std.proofs.Common.{ap, arith, cond, inl, inr, refl, subst, sym, ◌∙◌}
use Rattle.std.proofs.lemmas.List.{append-nil, length-set}
use Rattle.std.proofs.lemmas.List.Elements.{filter_map-append}
use Rattle.std.specs.List.{cons_option, filter_map}
use Rattle.std.specs.Option.{unwrap_or}
use Rattle.std.specs.Prelude.{Bool, List, None, Option, Some, [], false, if◌then◌else◌, is_some, length, map, option_map, option_to_list, slice_get, slice_set, suc, true, ℕ, ℤ, ◌++◌, ◌-◌, ◌==◌, ◌∷◌, ◌≡◌, ◌≢◌}
use Rattle.list_facts.proofs.Changed.{after_set, get_set_other}
use Rattle.tuple_layout.specs.Places.{Row, Rows}
use Rattle.tuple_layout.specs.declared.Place.{Place}
use Rattle.tuple_layout.specs.declared.cell.Stored.{Stored}
use Rattle.xact_status.specs.Versions.{counts_for}
use Rattle.xact_status.specs.Xacts.{Xacts, after_abort, is_committed, is_running}
use Rattle.snapshot_registry.specs.Snapshots.{Snaps, committed_in, held_at, is_registered}
use Rattle.snapshot_registry.specs.declared.Held.{Held}
use Rattle.snapshot_registry.specs.declared.Snapshot.{Snapshot}
use Rattle.row_versions.specs.Relations.{Pages, Relation}
use Rattle.change_log.specs.Logs.{LogState}
use Rattle.change_log.specs.declared.entry.LogEntry.{LogEntry}
use Rattle.lock_table.specs.Locks.{after_end, held_by}
use Rattle.lock_table.specs.declared.held.SessionLocks.{SessionLocks}
use Rattle.toast_store.specs.Saves.{logged}
use Rattle.toast_store.specs.Stores.{Store}
use Rattle.command_set.specs.Answers.{failed_session}
use Rattle.command_set.specs.Changes.{is_named, outcome}
use Rattle.command_set.specs.Plain.{with_session}
use Rattle.command_set.specs.Replies.{changed}
use Rattle.command_set.specs.declared.Level.{Level}
use Rattle.command_set.specs.declared.Reply.{Reply}
use Rattle.command_set.specs.declared.state.Change.{Change}
use Rattle.command_set.specs.declared.state.Plain.{Plain}
use Rattle.command_set.specs.declared.state.Session.{Session}
use Rattle.command_set.specs.declared.state.Transaction.{Transaction}
use Rattle.table_rows.specs.Laws.{MomentsTell, SinceStays}
use Rattle.table_rows.specs.Views.{IsSince}
use Rattle.table_rows.specs.Worlds.{tuple_in}
use Rattle.table_state.specs.Rows.{row_of}
use Rattle.table_state.specs.declared.table.Table.{Table}
use Rattle.write_steps.specs.declared.stage.OldRow.{OldRow}
use Rattle.core_state.proofs.Answered.{Sessions, rollback_inside, session_at_place, sessions_set}
use Rattle.core_state.proofs.Begins.{inside_of, runs_over}
use Rattle.core_state.proofs.Ended.{held_other, job_there, left_registered, once_unpins, uses_most}
use Rattle.core_state.proofs.Moved.{state_uses}
use Rattle.core_state.proofs.Pins.{Unpins, rows_unpinned, unpinned, unpins_at}
use Rattle.core_state.proofs.Released.{released_all}
use Rattle.core_state.proofs.Seats.{seat_written, sound_of}
use Rattle.core_state.proofs.Standing.{its_session}
use Rattle.core_state.proofs.Values.{change_unpins, held_unpins, pending_unpins, row_unpins, values_unpinned}
use Rattle.core_state.specs.Coming.{change_left, change_to, changed_row, old_left, whole_left, xid_logged}
use Rattle.core_state.specs.Facts.{IsSound}
use Rattle.core_state.specs.Lines.{after_failing, after_giving_up, failed_state, once_aborted, once_ended}
use Rattle.core_state.specs.Moves.{Falls, Runs}
use Rattle.core_state.specs.Stands.{CopyStands, HasCopy, SessionStands, Stands, TransactionStands, change_logged, change_of, coming, logged_changes, pending_of}
use Rattle.core_state.specs.State.{CoreState, IsSession, handle_of, job_table, schemas_of, seat_of, snapshot_of, table_at, uses_of, xid_of}
use Rattle.core_state.specs.Views.{held_value, in_sight, registered, row_at}
use Rattle.core_state.specs.declared.seat.Handle.{Handle}
use Rattle.core_state.specs.declared.seat.Job.{Job}
use Rattle.core_state.specs.declared.seat.Seat.{Seat}
use Rattle.core_state.specs.declared.seat.State.{State}
use Rattle.change_log.specs.declared.entry.LogEntry.TheVariants as entries
use Rattle.command_set.specs.declared.Command.TheVariants as commands
use Rattle.command_set.specs.declared.Reply.TheVariants as replies
use Rattle.command_set.specs.declared.state.Session.TheVariants as plain
use Rattle.core_state.specs.declared.advance.Advance.TheVariants as advances
use Rattle.core_state.specs.declared.seat.Job.TheVariants as jobs
use Rattle.core_state.specs.declared.seat.State.TheVariants as states
use Rattle.std.specs.FinMap as map

-- what an end without a commit leaves of the worlds of others
pub record LeavesWorlds (xacts new : Xacts) : Type 0 where
  pub current : (own : Option ℕ) (pages : Pages) (key : ℤ) → tuple_in (counts_for new own) pages key ≡ tuple_in (counts_for xacts own) pages key
  pub shown : (snaps : Snaps) (id : ℕ) (held : Held) (pages : Pages) (key : ℤ) → held_at snaps id ≡ Some held → tuple_in (committed_in new held.snapshot) pages key ≡ tuple_in (committed_in xacts held.snapshot) pages key
  pub since : (snapshot : Snapshot) (pages : Pages) (key : ℤ) (changed : Bool) → IsSince xacts snapshot pages key changed → IsSince new snapshot pages key changed

none_leaves : (xacts : Xacts) → LeavesWorlds xacts xacts
none_leaves xacts = record { current = λ own pages key. refl; shown = λ snaps id held pages key e. refl; since = λ snapshot pages key changed e. e }

abort_leaves : (tells : MomentsTell) (stays : SinceStays) (xacts : Xacts) (x : ℕ) → is_running xacts x ≡ true → LeavesWorlds xacts (after_abort xacts x)
abort_leaves tells stays xacts x running = record {
  current = λ own pages key. by own pages key;
  shown = λ snaps id held pages key e. sym (tells.shown (after_abort xacts x) snaps id held pages key e) ∙ tells.shown_at_abort xacts snaps x id pages key running ∙ tells.shown xacts snaps id held pages key e;
  since = λ snapshot pages key changed e. stays.aborted xacts snapshot x pages key changed running e;
}
  where
    by : (own : Option ℕ) (pages : Pages) (key : ℤ) → tuple_in (counts_for (after_abort xacts x) own) pages key ≡ tuple_in (counts_for xacts own) pages key
    by None pages key = tells.latest_at_abort xacts x pages key running
    by (Some y) pages key = tells.own_at_abort xacts x y pages key running

rows_by : (tables : List Table) (counts later : ℕ → Bool) (p : Place) → tuple_in later (table_at tables p.table).rows.pages p.key ≡ tuple_in counts (table_at tables p.table).rows.pages p.key → row_at tables later p ≡ row_at tables counts p
rows_by tables counts later p same = ap (option_map (row_of (table_at tables p.table).rows.schema.storages (table_at tables p.table).toast)) same

-- ---- a copy

has_copy_stays : (xacts new : Xacts) (snaps : Snaps) (id : ℕ) (held : Held) (tables later : List Table) (s : ℕ) (base : Rows) (places : List Place) → LeavesWorlds xacts new → held_at snaps id ≡ Some held → Unpins tables later s
    → HasCopy xacts tables held.snapshot base places → HasCopy new later held.snapshot base places
has_copy_stays xacts new snaps id held tables later s base places leaves at unpins old = record {
  rows = λ p. old.rows p ∙ sym (row_unpins tables later s (committed_in new held.snapshot) p unpins
      ∙ rows_by tables (committed_in xacts held.snapshot) (committed_in new held.snapshot) p (leaves.shown snaps id held (table_at tables p.table).rows.pages p.key at));
  since = λ p. subst (λ (rows : Relation). IsSince new held.snapshot rows.pages p.key (is_named places p)) (sym (rows_unpinned tables later s p.table unpins))
      (leaves.since held.snapshot (table_at tables p.table).rows.pages p.key (is_named places p) (old.since p));
}

copy_some : (xacts new : Xacts) (snaps : Snaps) (id : ℕ) (held : Held) (tables later : List Table) (s : ℕ) (base : Option Rows) (places : List Place) → LeavesWorlds xacts new → held_at snaps id ≡ Some held → Unpins tables later s
    → CopyStands xacts tables (Some held.snapshot) base places → CopyStands new later (Some held.snapshot) base places
copy_some xacts new snaps id held tables later s None places leaves at unpins old = old
copy_some xacts new snaps id held tables later s (Some base) places leaves at unpins old = has_copy_stays xacts new snaps id held tables later s base places leaves at unpins old

copy_none : (xacts new : Xacts) (tables later : List Table) (base : Option Rows) (places : List Place) → CopyStands xacts tables None base places → CopyStands new later None base places
copy_none xacts new tables later None places old = tt
copy_none xacts new tables later (Some base) places old = old

-- a copy stands where its snapshot is registered still
pub copy_stays : (xacts new : Xacts) (snaps left : Snaps) (o : Option ℕ) (tables later : List Table) (s : ℕ) (base : Option Rows) (places : List Place) → LeavesWorlds xacts new → Unpins tables later s
    → ((id : ℕ) → o ≡ Some id → is_registered left id ≡ true) → ((id : ℕ) (held : Held) → held_at left id ≡ Some held → (before : Held) × (held_at snaps id ≡ Some before) × (held.snapshot ≡ before.snapshot))
    → CopyStands xacts tables (registered snaps o) base places → CopyStands new later (registered left o) base places
copy_stays xacts new snaps left None tables later s base places leaves unpins there back old = copy_none xacts new tables later base places old
copy_stays xacts new snaps left (Some id) tables later s base places leaves unpins there back old = by (held_at left id) refl (there id refl)
  where
    by : (h : Option Held) → held_at left id ≡ h → is_some h ≡ true → CopyStands new later (option_map (λ (held : Held). held.snapshot) (held_at left id)) base places
    by None e f = absurd (cc)
    by (Some held) e f =
        let before = back id held e in
        let was : option_map (λ (its : Held). its.snapshot) (held_at snaps id) ≡ Some before.0.snapshot = ap (option_map (λ (its : Held). its.snapshot)) before.1 in
        let now : option_map (λ (its : Held). its.snapshot) (held_at left id) ≡ Some before.0.snapshot = ap (option_map (λ (its : Held). its.snapshot)) e ∙ ap Some before.2 in
        let here : CopyStands xacts tables (Some before.0.snapshot) base places = subst (λ (its : Option Snapshot). CopyStands xacts tables its base places) was old in
        subst (λ (its : Option Snapshot). CopyStands new later its base places) (sym now) (copy_some xacts new snaps id before.0 tables later s base places leaves before.1 unpins here)

-- ---- the changes

filter_same : {X Y : Type 0} (f g : X → Option Y) (xs : List X) → ((x : X) → f x ≡ g x) → filter_map f xs ≡ filter_map g xs
filter_same f g [] same = refl
filter_same f g (x ∷ xs) same = ap (λ o. cons_option o (filter_map f xs)) (same x) ∙ ap (λ ys. cons_option (g x) ys) (filter_same f g xs same)

change_of_same : (tables later : List Table) (s xid : ℕ) (entry : LogEntry) → Unpins tables later s → change_of later xid entry ≡ change_of tables xid entry
change_of_same tables later s xid entry unpins = ap (λ (o : Option Change). if xid_logged entry == xid then o else None) (change_unpins tables later s entry unpins)

-- an end tells no change
end_tells : (tables : List Table) (xid : ℕ) (log : LogState) (own : Option ℕ) → filter_map (change_of tables xid) (once_ended log (option_map (λ x. entries.Abort x) own)).entries ≡ filter_map (change_of tables xid) log.entries
end_tells tables xid log None = refl
end_tells tables xid log (Some x) = filter_map-append (change_of tables xid) log.entries (entries.Abort x ∷ []) ∙ ap (λ (more : List Change). filter_map (change_of tables xid) log.entries ++ more) (by (x == xid)) ∙ append-nil (filter_map (change_of tables xid) log.entries)
  where
    by : (b : Bool) → cons_option (cond b (change_logged tables (entries.Abort x)) None) [] ≡ []
    by true = refl
    by false = refl

logged_stays : (tables later : List Table) (s : ℕ) (log : LogState) (own its : Option ℕ) → Unpins tables later s → logged_changes later (once_ended log (option_map (λ x. entries.Abort x) own)).entries its ≡ logged_changes tables log.entries its
logged_stays tables later s log own None unpins = refl
logged_stays tables later s log own (Some xid) unpins = end_tells later xid log own ∙ filter_same (change_of later xid) (change_of tables xid) log.entries (λ entry. change_of_same tables later s xid entry unpins)

change_unpinned : (t : ℕ) (store : Store) (s : ℕ) (old : Option OldRow) (new : Option Stored) → change_to t (unpinned store s) old new ≡ change_to t store old new
change_unpinned t store s None None = refl
change_unpinned t store s (Some old) None = refl
change_unpinned t store s None (Some new) = ap (λ (row : Row). Some (changed_row t None new.key row)) (values_unpinned store s new.cells)
change_unpinned t store s (Some old) (Some new) = ap (λ (row : Row). Some (changed_row t (Some old) new.key row)) (values_unpinned store s new.cells)

coming_unpins : (tables later : List Table) (s : ℕ) (job : Job) → Unpins tables later s → coming later job ≡ coming tables job
coming_unpins tables later s jobs.Idle unpins = refl
coming_unpins tables later s (jobs.Submitted command) unpins = refl
coming_unpins tables later s (jobs.Reading t snapshot read) unpins = refl
coming_unpins tables later s (jobs.Writing t write) unpins =
    unpins_at tables later s t (λ (table : Table). option_to_list (change_left t table.toast write.stage) ≡ option_to_list (change_left t (table_at tables t).toast write.stage)) unpins
    (λ same. ap (λ (o : Option Change). option_to_list o) (change_unpinned t (table_at tables t).toast s (old_left write.stage) (whole_left write.stage))) refl

-- ---- another session

transaction_stays : (c : CoreState) (new : Xacts) (left : Snaps) (later : List Table) (s : ℕ) (held : SessionLocks) (latest : Rows) (other : Seat) (level : Level) (t : Transaction) → LeavesWorlds c.xacts new → Unpins c.tables later s
    → ((id : ℕ) → snapshot_of other.state ≡ Some id → is_registered left id ≡ true) → ((id : ℕ) (its : Held) → held_at left id ≡ Some its → (before : Held) × (held_at c.snaps id ≡ Some before) × (its.snapshot ≡ before.snapshot))
    → TransactionStands c.xacts c.snaps held c.log.entries c.tables latest other level t
    → TransactionStands new left held (once_ended c.log (option_map (λ x. entries.Abort x) (xid_of (seat_of c s).state))).entries later latest other level t
transaction_stays c new left later s held latest other level t leaves unpins there back old =
    let logged = logged_stays c.tables later s c.log (xid_of (seat_of c s).state) (xid_of other.state) unpins in
    let more = coming_unpins c.tables later s other.job unpins in
    record {
      level_is = old.level_is;
      copy = copy_stays c.xacts new c.snaps left (snapshot_of other.state) c.tables later s t.base t.since leaves unpins there back old.copy;
      changes = old.changes ∙ sym (ap (λ (changes : List Change). changes ++ coming later other.job) logged ∙ ap (λ (changes : List Change). logged_changes c.tables c.log.entries (xid_of other.state) ++ changes) more);
      now = λ p. old.now p ∙ sym (ap (λ (changes : List Change). unwrap_or (outcome changes p) (row_at later (in_sight new other.state) p)) more
          ∙ ap (λ (row : Option Row). unwrap_or (outcome (coming c.tables other.job) p) row) (row_unpins c.tables later s (in_sight new other.state) p unpins
          ∙ rows_by c.tables (in_sight c.xacts other.state) (in_sight new other.state) p (leaves.current (xid_of other.state) (table_at c.tables p.table).rows.pages p.key)));
      used = old.used;
      claimed = old.claimed;
      handles = λ name. old.handles name ∙ sym (by (handle_of other.handles name));
    }
  where
    by : (o : Option Handle) → option_map (λ (handle : Handle). held_value later handle.table handle.held) o ≡ option_map (λ (handle : Handle). held_value c.tables handle.table handle.held) o
    by None = refl
    by (Some handle) = ap Some (held_unpins c.tables later s handle.table handle.held unpins)

pub session_stays : (c : CoreState) (new : Xacts) (left : Snaps) (later : List Table) (s : ℕ) (held : SessionLocks) (latest : Rows) (other : Seat) (state : State) (session : Session) → LeavesWorlds c.xacts new → Unpins c.tables later s → state ≡ other.state
    → ((id : ℕ) → snapshot_of other.state ≡ Some id → is_registered left id ≡ true) → ((id : ℕ) (its : Held) → held_at left id ≡ Some its → (before : Held) × (held_at c.snaps id ≡ Some before) × (its.snapshot ≡ before.snapshot))
    → SessionStands c.xacts c.snaps held c.log.entries c.tables latest other state session
    → SessionStands new left held (once_ended c.log (option_map (λ x. entries.Abort x) (xid_of (seat_of c s).state))).entries later latest other state session
session_stays c new left later s held latest other states.Outside plain.Outside leaves unpins is there back old = tt
session_stays c new left later s held latest other states.Outside plain.Failed leaves unpins is there back old = old
session_stays c new left later s held latest other states.Outside (plain.Open t) leaves unpins is there back old = old
session_stays c new left later s held latest other states.Failed plain.Outside leaves unpins is there back old = old
session_stays c new left later s held latest other states.Failed plain.Failed leaves unpins is there back old = tt
session_stays c new left later s held latest other states.Failed (plain.Open t) leaves unpins is there back old = old
session_stays c new left later s held latest other (states.Open level xid snapshot) plain.Outside leaves unpins is there back old = old
session_stays c new left later s held latest other (states.Open level xid snapshot) plain.Failed leaves unpins is there back old = old
session_stays c new left later s held latest other (states.Open level xid snapshot) (plain.Open t) leaves unpins is there back old = transaction_stays c new left later s held latest other level t leaves unpins there back old

-- ---- a whole core

leaves_of : (tells : MomentsTell) (stays : SinceStays) (xacts : Xacts) (o : Option ℕ) → ((x : ℕ) → o ≡ Some x → is_running xacts x ≡ true) → LeavesWorlds xacts (once_aborted xacts o)
leaves_of tells stays xacts None runs = none_leaves xacts
leaves_of tells stays xacts (Some x) runs = abort_leaves tells stays xacts x (runs x refl)

pub stands_given_up : (tells : MomentsTell) (stays : SinceStays) (c : CoreState) (s : ℕ) (state : State) (m after : Plain) (told later : List (Option Reply)) (session : Session) → IsSession c.seats s → IsSound c → Stands c m told
    → after.latest ≡ m.latest → after.upkeep ≡ m.upkeep → length after.sessions ≡ length m.sessions → Sessions m after s session
    → ((locks : SessionLocks) (latest : Rows) → SessionStands (after_giving_up c s state).xacts (after_giving_up c s state).snaps locks (after_giving_up c s state).log.entries (after_giving_up c s state).tables latest (record { state = state; handles = []; job = jobs.Idle }) state session)
    → ((i : ℕ) → i ≢ s - 1 → slice_get later i ≡ slice_get told i)
    → Stands (after_giving_up c s state) after later
stands_given_up tells stays c s state m after told later session there sound stands latest upkeep count those own still =
    let leaves = leaves_of tells stays c.xacts (xid_of (seat_of c s).state) (λ x e. ap is_some ((sound_of c s there sound).runs x e)) in
    let unpins = once_unpins c.tables s (job_table (seat_of c s).job) (job_there c s there sound) in
    let gives = released_all c.xacts c.snaps (uses_of (seat_of c s)) (uses_most c s there sound) in
    record {
      latest = λ p. ap (λ (rows : Rows). map.get rows p) latest ∙ stands.latest p
          ∙ sym (row_unpins c.tables (after_giving_up c s state).tables s (is_committed (after_giving_up c s state).xacts) p unpins
          ∙ rows_by c.tables (is_committed c.xacts) (is_committed (after_giving_up c s state).xacts) p (leaves.current None (table_at c.tables p.table).rows.pages p.key));
      count = count ∙ stands.count ∙ sym (length-set c.seats (s - 1) over);
      sessions = λ i other its at at_its. elim (after_set c.seats (s - 1) over i other at) [
        | inl h ↦ here i other its h.0 h.1 at_its
        | inr h ↦
            let differ : suc i ≢ s = λ e. h.0 (omega (arith, e)) in
            let was = stands.sessions i other its h.1 (sym (those.others i h.0) ∙ at_its) in
            let moved = session_stays c (after_giving_up c s state).xacts (after_giving_up c s state).snaps (after_giving_up c s state).tables s (held_by c.locks (suc i)) m.latest other other.state its leaves unpins refl
            (λ id e. left_registered c s i other (after_giving_up c s state).snaps there differ h.1 gives sound id (state_uses other id e)) gives.back was in
            let held = subst (λ (locks : SessionLocks). SessionStands (after_giving_up c s state).xacts (after_giving_up c s state).snaps locks (after_giving_up c s state).log.entries (after_giving_up c s state).tables m.latest other other.state its) (sym (held_other c.locks s (suc i) differ)) moved in
            subst (λ (rows : Rows). SessionStands (after_giving_up c s state).xacts (after_giving_up c s state).snaps (held_by (after_end c.locks s) (suc i)) (after_giving_up c s state).log.entries (after_giving_up c s state).tables rows other other.state its) (sym latest) held
      ];
      upkeep = upkeep ∙ stands.upkeep;
      pending = λ i other said at pends. elim (after_set c.seats (s - 1) over i other at) [
        | inl h ↦ absurd (none_pends (sym (ap (λ (x : Seat). pending_of (after_giving_up c s state).tables x.job) h.1) ∙ pends))
        | inr h ↦ still i h.0 ∙ stands.pending i other said h.1 (sym (pending_unpins c.tables (after_giving_up c s state).tables s other.job unpins) ∙ pends)
      ];
    }
  where
    over : Seat
    over = record { state = state; handles = []; job = jobs.Idle }

    none_pends : {said : Reply} → None ≡ Some said → ⊥
    none_pends e = absurd (cc)

    some_is : (a b : Session) → Some a ≡ Some b → a ≡ b
    some_is a b e = cc

    here : (i : ℕ) (other : Seat) (its : Session) → i ≡ s - 1 → other ≡ over → slice_get after.sessions i ≡ Some its
        → SessionStands (after_giving_up c s state).xacts (after_giving_up c s state).snaps (held_by (after_end c.locks s) (suc i)) (after_giving_up c s state).log.entries (after_giving_up c s state).tables after.latest other other.state its
    here i other its at is at_its =
        let its_is : session ≡ its = some_is session its (sym those.own ∙ ap (slice_get after.sessions) (sym at) ∙ at_its) in
        let of_seat = subst (λ (x : Seat). SessionStands (after_giving_up c s state).xacts (after_giving_up c s state).snaps (held_by (after_end c.locks s) (suc i)) (after_giving_up c s state).log.entries (after_giving_up c s state).tables after.latest x x.state session) (sym is) (own (held_by (after_end c.locks s) (suc i)) after.latest) in
        subst (λ (x : Session). SessionStands (after_giving_up c s state).xacts (after_giving_up c s state).snaps (held_by (after_end c.locks s) (suc i)) (after_giving_up c s state).log.entries (after_giving_up c s state).tables after.latest other other.state x) its_is of_seat

-- what a session is once its open transaction has failed
failed_stands : (c new : CoreState) (held locks : SessionLocks) (latest rows : Rows) (seat over : Seat) (state : State) (session : Session) → SessionStands c.xacts c.snaps held c.log.entries c.tables latest seat state session
    → SessionStands new.xacts new.snaps locks new.log.entries new.tables rows over (failed_state state) (failed_session session)
failed_stands c new held locks latest rows seat over states.Outside plain.Outside old = tt
failed_stands c new held locks latest rows seat over states.Outside plain.Failed old = old
failed_stands c new held locks latest rows seat over states.Outside (plain.Open t) old = old
failed_stands c new held locks latest rows seat over states.Failed plain.Outside old = old
failed_stands c new held locks latest rows seat over states.Failed plain.Failed old = tt
failed_stands c new held locks latest rows seat over states.Failed (plain.Open t) old = tt
failed_stands c new held locks latest rows seat over (states.Open level xid snapshot) plain.Outside old = old
failed_stands c new held locks latest rows seat over (states.Open level xid snapshot) plain.Failed old = absurd old
failed_stands c new held locks latest rows seat over (states.Open level xid snapshot) (plain.Open t) old = tt

-- a command that ends early fails the transaction
pub falls : (tells : MomentsTell) (stays : SinceStays) (c : CoreState) (s : ℕ) → IsSession c.seats s → IsSound c → Falls c s (after_failing c s)
falls tells stays c s there sound = record {
  stands = λ m told stands.
      let its = its_session c s m told there stands in
      let is = session_at_place m s its.session its.from_one its.at in
      subst (λ (session : Session). Stands (after_failing c s) (with_session m s (failed_session session)) told) (sym is)
      (stands_given_up tells stays c s (failed_state (seat_of c s).state) m (with_session m s (failed_session its.session)) told told (failed_session its.session) there sound stands refl refl (length-set m.sessions (s - 1) (failed_session its.session))
      (sessions_set m s its.session (failed_session its.session) its.at)
      (λ locks latest. failed_stands c (after_failing c s) (held_by c.locks s) locks m.latest latest (seat_of c s) (record { state = failed_state (seat_of c s).state; handles = []; job = jobs.Idle }) (seat_of c s).state its.session its.stands)
      (λ i differ. refl));
  over = ap (λ (seat : Seat). seat.job) (seat_written c.seats s (record { state = failed_state (seat_of c s).state; handles = []; job = jobs.Idle }) there);
}

-- a rollback
pub rolled_back : (tells : MomentsTell) (stays : SinceStays) (c : CoreState) (s : ℕ) → IsSession c.seats s → IsSound c → (seat_of c s).job ≡ jobs.Submitted commands.Rollback → (seat_of c s).state ≢ states.Outside
    → Runs c s commands.Rollback (after_giving_up c s states.Outside) (advances.Done replies.Okay)
rolled_back tells stays c s there sound is inside =
    runs_over c s commands.Rollback (after_giving_up c s states.Outside) replies.Okay (ap (λ (seat : Seat). seat.job) (seat_written c.seats s (record { state = states.Outside; handles = []; job = jobs.Idle }) there))
    (λ m told counted stands.
    let its = its_session c s m told there stands in
    record {
      next = with_session m s plain.Outside;
      is = rollback_inside (schemas_of c.tables) m s its.session (session_at_place m s its.session its.from_one its.at) (inside_of c s m inside its);
      stands = stands_given_up tells stays c s states.Outside m (with_session m s plain.Outside) told (slice_set told (s - 1) (Some replies.Okay)) plain.Outside there sound stands refl refl (length-set m.sessions (s - 1) plain.Outside)
          (sessions_set m s its.session plain.Outside its.at) (λ locks latest. tt) (λ i differ. get_set_other told (s - 1) i (Some replies.Okay) differ);
    })
