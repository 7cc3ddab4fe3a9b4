-- What a core's tables give, and how a session stands, where a session's pins change and uses of snapshots are given up.
use Rattle.std.proofs.Common.{ap, refl, subst, sym, ◌∙◌}
use Rattle.std.specs.List.{cons_option, filter_map}
use Rattle.std.specs.Option.{unwrap_or}
use Rattle.std.specs.Ordering.{int_cmp, is_eq}
use Rattle.std.specs.Prelude.{Bool, List, None, Option, Some, [], if◌then◌else◌, is_some, map, option_map, option_to_list, true, ℕ, ◌++◌, ◌==◌, ◌∷◌, ◌≡◌}
use Rattle.tuple_layout.specs.Places.{Row, Rows}
use Rattle.tuple_layout.specs.declared.Place.{Place}
use Rattle.tuple_layout.specs.declared.cell.Cell.{Cell}
use Rattle.tuple_layout.specs.declared.cell.Cell.TheVariants.{Inline, Null, Out}
use Rattle.tuple_layout.specs.declared.cell.Stored.{Stored}
use Rattle.xact_status.specs.Xacts.{Xacts}
use Rattle.snapshot_registry.specs.Snapshots.{Snaps, held_at, is_registered}
use Rattle.snapshot_registry.specs.declared.Held.{Held as Registered}
use Rattle.snapshot_registry.specs.declared.Snapshot.{Snapshot}
use Rattle.row_versions.specs.Relations.{Relation}
use Rattle.chunk_index.specs.declared.entry.Pin.{Pin}
use Rattle.change_log.specs.declared.entry.LogEntry.{LogEntry}
use Rattle.lock_table.specs.declared.held.SessionLocks.{SessionLocks}
use Rattle.toast_store.specs.Stores.{Store}
use Rattle.toast_store.specs.Values.{value_in}
use Rattle.command_set.specs.Changes.{is_named, outcome}
use Rattle.command_set.specs.declared.Level.{Level}
use Rattle.command_set.specs.declared.state.Change.{Change}
use Rattle.command_set.specs.declared.state.Change.TheVariants.{Insert, Move, Update}
use Rattle.command_set.specs.declared.state.Session.{Session}
use Rattle.command_set.specs.declared.state.Transaction.{Transaction}
use Rattle.table_rows.specs.Views.{IsSince}
use Rattle.table_rows.specs.Worlds.{tuple_in}
use Rattle.table_state.specs.Cells.{cells_in}
use Rattle.table_state.specs.Rows.{cell_value}
use Rattle.table_state.specs.Tables.{row_in}
use Rattle.table_state.specs.declared.table.Table.{Table}
use Rattle.read_steps.specs.Reads.{reply_of}
use Rattle.read_steps.specs.declared.wanted.Held.{Held}
use Rattle.write_steps.specs.declared.stage.OldRow.{OldRow}
use Rattle.core_state.proofs.Readers.{reply_same}
use Rattle.core_state.specs.Coming.{change_left, change_to, changed_row, old_left, whole_left, xid_logged}
use Rattle.core_state.specs.Stands.{CopyStands, HasCopy, SessionStands, TransactionStands, change_logged, change_of, coming, logged_changes, pending_of, row_in_table}
use Rattle.core_state.specs.State.{handle_of, snapshot_of, table_at, xid_of}
use Rattle.core_state.specs.Views.{held_value, in_sight, registered, row_at}
use Rattle.core_state.specs.declared.seat.Handle.{Handle}
use Rattle.core_state.specs.declared.seat.Job.{Job}
use Rattle.core_state.specs.declared.seat.Seat.{Seat}
use Rattle.core_state.specs.declared.seat.State.{State}
use Rattle.core_reads.proofs.Repins.{Repins, repins_at, rows_repinned, with_pins}
use Rattle.change_log.specs.declared.entry.LogEntry.TheVariants as entries
use Rattle.command_set.specs.declared.state.Session.TheVariants as plain
use Rattle.core_state.specs.declared.seat.Job.TheVariants as jobs
use Rattle.core_state.specs.declared.seat.State.TheVariants as states
use Rattle.read_steps.specs.declared.wanted.Held.TheVariants as helds

-- ---- what a table gives, with whatever pins

value_repinned : (store : Store) (pins : List Pin) (cell : Cell) → cell_value (with_pins store pins) cell ≡ cell_value store cell
value_repinned store pins Null = refl
value_repinned store pins (Inline value) = refl
value_repinned store pins (Out pointer) = refl

values_repinned : (store : Store) (pins : List Pin) (cells : List Cell) → map (cell_value (with_pins store pins)) cells ≡ map (cell_value store) cells
values_repinned store pins [] = refl
values_repinned store pins (cell ∷ cells) =
    ap (λ (value : Option (List ℕ)). value ∷ map (cell_value (with_pins store pins)) cells) (value_repinned store pins cell)
    ∙ ap (λ (row : Row). cell_value store cell ∷ row) (values_repinned store pins cells)

-- the rows of a world
pub row_repins : (tables later : List Table) (s : ℕ) (counts : ℕ → Bool) (p : Place) → Repins tables later s → row_at later counts p ≡ row_at tables counts p
row_repins tables later s counts p repins =
    repins_at tables later s p.table (λ (table : Table). row_in table counts p.key ≡ row_at tables counts p) repins
    (λ pins same old. by pins (tuple_in counts (table_at tables p.table).rows.pages p.key)) refl
  where
    by : (pins : List Pin) (o : Option (List ℕ)) → option_map (λ (tuple : List ℕ). map (cell_value (with_pins (table_at tables p.table).toast pins)) (cells_in (table_at tables p.table).rows.schema.storages tuple)) o
        ≡ option_map (λ (tuple : List ℕ). map (cell_value (table_at tables p.table).toast) (cells_in (table_at tables p.table).rows.schema.storages tuple)) o
    by pins None = refl
    by pins (Some tuple) = ap Some (values_repinned (table_at tables p.table).toast pins (cells_in (table_at tables p.table).rows.schema.storages tuple))

-- the values of cells, and of a kept value
cells_repins : (tables later : List Table) (s t : ℕ) (cells : List Cell) → Repins tables later s → row_in_table later t cells ≡ row_in_table tables t cells
cells_repins tables later s t cells repins =
    repins_at tables later s t (λ (table : Table). map (cell_value table.toast) cells ≡ map (cell_value (table_at tables t).toast) cells) repins (λ pins same old. values_repinned (table_at tables t).toast pins cells) refl

held_repins : (tables later : List Table) (s t : ℕ) (held : Held) → Repins tables later s → held_value later t held ≡ held_value tables t held
held_repins tables later s t (helds.Inline bytes) repins = refl
held_repins tables later s t (helds.Out pointer) repins =
    repins_at tables later s t (λ (table : Table). value_in table.toast pointer ≡ value_in (table_at tables t).toast pointer) repins (λ pins same old. refl) refl

-- the changes that the log tells
change_repins : (tables later : List Table) (s : ℕ) (entry : LogEntry) → Repins tables later s → change_logged later entry ≡ change_logged tables entry
change_repins tables later s (entries.Chunk xid t value_id seq bytes) repins = refl
change_repins tables later s (entries.Insert xid t key cells) repins = ap (λ (row : Row). Some (Insert t key row)) (cells_repins tables later s t cells repins)
change_repins tables later s (entries.Update xid t from to cells) repins =
    ap (λ (row : Row). Some (if is_eq (int_cmp from to) then Update t to row else Move t from to row)) (cells_repins tables later s t cells repins)
change_repins tables later s (entries.Delete xid t key) repins = refl
change_repins tables later s (entries.Commit xid) repins = refl
change_repins tables later s (entries.Abort xid) repins = refl

filter_same : {X Y : Type 0} (f g : X → Option Y) (xs : List X) → ((x : X) → f x ≡ g x) → filter_map f xs ≡ filter_map g xs
filter_same f g [] same = refl
filter_same f g (x ∷ xs) same = ap (λ o. cons_option o (filter_map f xs)) (same x) ∙ ap (λ ys. cons_option (g x) ys) (filter_same f g xs same)

change_of_same : (tables later : List Table) (s xid : ℕ) (entry : LogEntry) → Repins tables later s → change_of later xid entry ≡ change_of tables xid entry
change_of_same tables later s xid entry repins = ap (λ (o : Option Change). if xid_logged entry == xid then o else None) (change_repins tables later s entry repins)

logged_repins : (tables later : List Table) (s : ℕ) (log : List LogEntry) (own : Option ℕ) → Repins tables later s → logged_changes later log own ≡ logged_changes tables log own
logged_repins tables later s log None repins = refl
logged_repins tables later s log (Some xid) repins = filter_same (change_of later xid) (change_of tables xid) log (λ entry. change_of_same tables later s xid entry repins)

-- the change that is still to come
change_repinned : (t : ℕ) (store : Store) (pins : List Pin) (old : Option OldRow) (new : Option Stored) → change_to t (with_pins store pins) old new ≡ change_to t store old new
change_repinned t store pins None None = refl
change_repinned t store pins (Some old) None = refl
change_repinned t store pins None (Some new) = ap (λ (row : Row). Some (changed_row t None new.key row)) (values_repinned store pins new.cells)
change_repinned t store pins (Some old) (Some new) = ap (λ (row : Row). Some (changed_row t (Some old) new.key row)) (values_repinned store pins new.cells)

coming_repins : (tables later : List Table) (s : ℕ) (job : Job) → Repins tables later s → coming later job ≡ coming tables job
coming_repins tables later s jobs.Idle repins = refl
coming_repins tables later s (jobs.Submitted command) repins = refl
coming_repins tables later s (jobs.Reading t snapshot read) repins = refl
coming_repins tables later s (jobs.Writing t write) repins =
    repins_at tables later s t (λ (table : Table). option_to_list (change_left t table.toast write.stage) ≡ option_to_list (change_left t (table_at tables t).toast write.stage)) repins
    (λ pins same old. ap (λ (o : Option Change). option_to_list o) (change_repinned t (table_at tables t).toast pins (old_left write.stage) (whole_left write.stage))) refl

-- the reply that a read under way comes to
pub pending_repins : (tables later : List Table) (s : ℕ) (job : Job) → Repins tables later s → pending_of later job ≡ pending_of tables job
pending_repins tables later s jobs.Idle repins = refl
pending_repins tables later s (jobs.Submitted command) repins = refl
pending_repins tables later s (jobs.Reading t snapshot read) repins =
    repins_at tables later s t (λ (table : Table). reply_of table.toast read ≡ reply_of (table_at tables t).toast read) repins
    (λ pins same old. reply_same (table_at tables t).toast (with_pins (table_at tables t).toast pins) read.session read.stage (λ fetch. refl)) refl
pending_repins tables later s (jobs.Writing t write) repins = refl

-- ---- how a session stands

has_copy_repins : (xacts : Xacts) (tables later : List Table) (s : ℕ) (snapshot : Snapshot) (base : Rows) (places : List Place) → Repins tables later s → HasCopy xacts tables snapshot base places → HasCopy xacts later snapshot base places
has_copy_repins xacts tables later s snapshot base places repins old = record {
  rows = λ p. old.rows p ∙ sym (row_repins tables later s _ p repins);
  since = λ p. subst (λ (rows : Relation). IsSince xacts snapshot rows.pages p.key (is_named places p)) (sym (rows_repinned tables later s p.table repins)) (old.since p);
}

copy_repins : (xacts : Xacts) (tables later : List Table) (s : ℕ) (o : Option Snapshot) (base : Option Rows) (places : List Place) → Repins tables later s → CopyStands xacts tables o base places → CopyStands xacts later o base places
copy_repins xacts tables later s None None places repins old = tt
copy_repins xacts tables later s None (Some base) places repins old = old
copy_repins xacts tables later s (Some snapshot) None places repins old = old
copy_repins xacts tables later s (Some snapshot) (Some base) places repins old = has_copy_repins xacts tables later s snapshot base places repins old

-- the snapshots that are left are those that were there
abbrev pub AreLeft : Snaps → Snaps → Type 0
AreLeft snaps later = (id : ℕ) (held : Registered) → held_at later id ≡ Some held → (before : Registered) × (held_at snaps id ≡ Some before) × (held.snapshot ≡ before.snapshot)

-- a snapshot that is registered still is the same one
pub registered_left : (snaps later : Snaps) (o : Option ℕ) → ((id : ℕ) → o ≡ Some id → is_registered later id ≡ true) → AreLeft snaps later → registered later o ≡ registered snaps o
registered_left snaps later None there back = refl
registered_left snaps later (Some id) there back = by (held_at later id) refl (there id refl)
  where
    by : (h : Option Registered) → held_at later id ≡ h → is_some h ≡ true → option_map (λ (held : Registered). held.snapshot) (held_at later id) ≡ option_map (λ (held : Registered). held.snapshot) (held_at snaps id)
    by None e f = absurd (cc)
    by (Some held) e f =
        let before = back id held e in
        ap (option_map (λ (its : Registered). its.snapshot)) e ∙ ap Some before.2 ∙ sym (ap (option_map (λ (its : Registered). its.snapshot)) before.1)

transaction_repins : (xacts : Xacts) (snaps left : Snaps) (held : SessionLocks) (log : List LogEntry) (tables later : List Table) (s : ℕ) (latest : Rows) (seat : Seat) (level : Level) (t : Transaction) → Repins tables later s
    → registered left (snapshot_of seat.state) ≡ registered snaps (snapshot_of seat.state) → TransactionStands xacts snaps held log tables latest seat level t → TransactionStands xacts left held log later latest seat level t
transaction_repins xacts snaps left held log tables later s latest seat level t repins still old =
    let logged = logged_repins tables later s log (xid_of seat.state) repins in
    let more = coming_repins tables later s seat.job repins in
    record {
      level_is = old.level_is;
      copy = subst (λ (o : Option Snapshot). CopyStands xacts later o t.base t.since) (sym still) (copy_repins xacts tables later s (registered snaps (snapshot_of seat.state)) t.base t.since repins old.copy);
      changes = old.changes ∙ sym (ap (λ (changes : List Change). changes ++ coming later seat.job) logged ∙ ap (λ (changes : List Change). logged_changes tables log (xid_of seat.state) ++ changes) more);
      now = λ p. old.now p ∙ sym (ap (λ (changes : List Change). unwrap_or (outcome changes p) (row_at later (in_sight xacts seat.state) p)) more
          ∙ ap (λ (row : Option Row). unwrap_or (outcome (coming tables seat.job) p) row) (row_repins tables later s (in_sight xacts seat.state) p repins));
      used = old.used;
      claimed = old.claimed;
      handles = λ name. old.handles name ∙ sym (by (handle_of seat.handles name));
    }
  where
    by : (o : Option Handle) → option_map (λ (handle : Handle). held_value later handle.table handle.held) o ≡ option_map (λ (handle : Handle). held_value tables handle.table handle.held) o
    by None = refl
    by (Some handle) = ap Some (held_repins tables later s handle.table handle.held repins)

pub session_repins : (xacts : Xacts) (snaps left : Snaps) (held : SessionLocks) (log : List LogEntry) (tables later : List Table) (s : ℕ) (latest : Rows) (seat : Seat) (state : State) (session : Session) → Repins tables later s
    → registered left (snapshot_of seat.state) ≡ registered snaps (snapshot_of seat.state) → SessionStands xacts snaps held log tables latest seat state session → SessionStands xacts left held log later latest seat state session
session_repins xacts snaps left held log tables later s latest seat states.Outside plain.Outside repins still old = tt
session_repins xacts snaps left held log tables later s latest seat states.Outside plain.Failed repins still old = old
session_repins xacts snaps left held log tables later s latest seat states.Outside (plain.Open t) repins still old = old
session_repins xacts snaps left held log tables later s latest seat states.Failed plain.Outside repins still old = old
session_repins xacts snaps left held log tables later s latest seat states.Failed plain.Failed repins still old = tt
session_repins xacts snaps left held log tables later s latest seat states.Failed (plain.Open t) repins still old = old
session_repins xacts snaps left held log tables later s latest seat (states.Open level xid snapshot) plain.Outside repins still old = old
session_repins xacts snaps left held log tables later s latest seat (states.Open level xid snapshot) plain.Failed repins still old = old
session_repins xacts snaps left held log tables later s latest seat (states.Open level xid snapshot) (plain.Open t) repins still old = transaction_repins xacts snaps left held log tables later s latest seat level t repins still old
