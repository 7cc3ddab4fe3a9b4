-- The version step of a write is one of its table: what it puts, ends and drops.
use Rattle.std.proofs.Common.{ap, inl, inr, refl, subst, sym, ◌∙◌}
use Rattle.std.specs.Ordering.{int_cmp, is_eq}
use Rattle.std.specs.List.{IsDistinct}
use Rattle.std.specs.Prelude.{Bool, Contains, List, None, Some, [], false, if◌then◌else◌, length, nat_eq, not, slice_get, slice_index_or, true, ℕ, ℤ, ◌∷◌, ◌≡◌, ◌≢◌, ◌⊎◌}
use Rattle.list_facts.proofs.Members.{cases_in, first_in, later_in, none_in_nil}
use Rattle.external_pointer.specs.declared.external.Pointer.{Pointer}
use Rattle.tuple_layout.specs.Tuples.{tuple}
use Rattle.tuple_layout.specs.declared.cell.Cell.{Cell}
use Rattle.tuple_layout.specs.declared.cell.Cell.TheVariants.{Null, Out}
use Rattle.tuple_layout.specs.declared.cell.Stored.{Stored}
use Rattle.slot_page.specs.Pages.{item_in, put_tid, slot_of}
use Rattle.slot_page.specs.declared.line.Tid.{Tid}
use Rattle.xact_status.specs.Versions.{counts_for}
use Rattle.xact_status.specs.Xacts.{Xacts, is_running}
use Rattle.snapshot_registry.specs.Snapshots.{Snaps}
use Rattle.value_holders.proofs.Tests.{clash, not_true}
use Rattle.value_holders.proofs.VersionSteps.{open_is_current, open_is_protected}
use Rattle.value_holders.specs.Holders.{AreEnded}
use Rattle.row_versions.specs.Relations.{Pages, Relation, with_ended, with_version}
use Rattle.row_versions.specs.Versions.{new_version}
use Rattle.row_versions.specs.declared.keys.KeyEntry.{KeyEntry}
use Rattle.row_versions.specs.declared.version.Version.{Version}
use Rattle.value_ids.specs.Ids.{Pool}
use Rattle.value_ids.specs.declared.pool.InHand.{InHand}
use Rattle.change_log.specs.Logs.{LogState}
use Rattle.lock_table.specs.declared.held.SessionLocks.{SessionLocks}
use Rattle.table_rows.proofs.Changes.{others_none}
use Rattle.table_rows.proofs.Records.{calls_are_steps, own_changes_stay, steps_tell}
use Rattle.table_rows.proofs.Worlds.{at_version, key_is, of_present, same_key, world_gives_none}
use Rattle.table_rows.specs.Steps.{IsEnded, IsPut, IsReplaced, ended_by, stamp_of}
use Rattle.table_rows.specs.Views.{IsOwnAt}
use Rattle.table_rows.specs.Worlds.{Own, tuple_at, tuple_in}
use Rattle.table_state.proofs.Ids.{id_from, id_in}
use Rattle.table_state.proofs.Places.{holder_from}
use Rattle.table_state.proofs.Records.{version_steps_keep}
use Rattle.table_state.specs.Cells.{cells_in}
use Rattle.table_state.specs.Events.{IsRowFor, IsUnheld, with_rows}
use Rattle.table_state.specs.Holders.{holders_of}
use Rattle.table_state.specs.Rows.{has_id, pointers_in}
use Rattle.table_state.specs.Tables.{IsTable, cells_of}
use Rattle.table_state.specs.declared.table.Table.{Table}
use Rattle.write_steps.specs.Dropped.{dropped_of, keeps}
use Rattle.write_steps.specs.declared.stage.OldRow.{OldRow}
use Rattle.write_steps.specs.declared.stage.Owner.{Owner}
use Rattle.write_steps.specs.declared.stage.WriteStage.{WriteStage}
use Rattle.core_state.proofs.Lists.{only_one, read_found}
use Rattle.core_state.specs.Coming.{old_left}
use Rattle.core_state.specs.Facts.{HasPut, IsDropping, WriteIsSound, ids_in}
use Rattle.core_state.specs.declared.seat.State.{State}
use Rattle.core_versions.proofs.Cells.{distinct_at, dropped_from, kept_itself, pointer_is, pointer_there}
use Rattle.core_versions.proofs.Hands.{Given, column_of}
use Rattle.core_versions.proofs.Others.{normal_item, old_there}
use Rattle.core_versions.proofs.Rows.{KnowsOld, NewRow, OldVersion, kept_of}
use Rattle.core_versions.proofs.Steps.{IsStep, ended_step, put_step, replaced_step}
use Rattle.write_steps.specs.declared.stage.WriteStage.TheVariants as stages

-- a version step of a transaction, with all that its session relies on afterwards
pub record IsMade (xacts : Xacts) (snaps : Snaps) (in_hand : List InHand) (table : Table) (s t x : ℕ) (pages : Pages) (entries : List KeyEntry) (keys : List ℤ) (cells : List Cell) (dropped : List Pointer) : Type 0 where
  pub step : IsStep t xacts snaps x table pages entries keys cells
  pub given : (value_id : ℕ) → has_id value_id cells ≡ true → Given xacts snaps in_hand table s t x value_id
  pub own_at : (key : ℤ) → Contains keys key → IsOwnAt xacts x pages key
  pub dropping : (pointer : Pointer) → Contains dropped pointer → IsDropping xacts snaps (with_rows table pages entries) x pointer

-- ---- the old version

-- what a write knows of its old version
pub knows_old : (xacts : Xacts) (snaps : Snaps) (ids : Pool) (held : SessionLocks) (table : Table) (s t : ℕ) (state : State) (owner : Owner) (stage : WriteStage) (log : LogState)
    → WriteIsSound xacts snaps ids held table s t state (record { owner = owner; stage = stage }) → KnowsOld xacts table owner.xid (old_left stage)
knows_old xacts snaps ids held table s t state owner stage log write row e =
    let item = normal_item (slot_of table.rows.pages row.tid) (old_there table.rows table.toast ids log owner stage row (write.stands log) e) in
    let known = write.rows.old row item.0 e item.1 in
    (item.0, record { there = item.1; of_key = known.0; cells = known.1; opened = known.2 })

-- what a new row may keep is the old version's
kept_cells : (xacts : Xacts) (table : Table) (x : ℕ) (row : OldRow) (version : Version) → OldVersion xacts table x row version → kept_of (Some row) ≡ pointers_in (cells_of table version)
kept_cells xacts table x row version old = ap pointers_in (sym old.cells)

-- nothing else is there for the transaction at its key
others_none_at : (number : ℕ) (xacts : Xacts) (snaps : Snaps) (table : Table) (x : ℕ) (row : OldRow) (version : Version) → is_running xacts x ≡ true → OldVersion xacts table x row version → IsTable number xacts snaps table
    → (tid : Tid) → tid ≢ row.tid → tuple_at (counts_for xacts (Some x)) table.rows.pages version.key tid ≡ None
others_none_at number xacts snaps table x row version runs old is =
    others_none (counts_for xacts (Some x)) table.rows.pages version.key row.tid version.tuple (is.one.each (Own x) version.key runs)
    (at_version (counts_for xacts (Some x)) table.rows.pages version.key row.tid version old.there ∙ of_present (counts_for xacts (Some x)) version.key version (same_key version.key) (open_is_current xacts x (stamp_of version) runs old.opened))

-- ---- what is dropped

-- each dropped pointer is the old version's
dropped_holds : (xacts : Xacts) (table : Table) (x : ℕ) (row : OldRow) (version : Version) (news : List Cell) (pointer : Pointer) → OldVersion xacts table x row version → Contains (dropped_of row.stored.cells news) pointer → Contains (pointers_in (cells_of table version)) pointer
dropped_holds xacts table x row version news pointer old e =
    let from = dropped_from row.stored.cells news pointer e in
    subst (λ (cells : List Cell). Contains (pointers_in cells) pointer) (sym old.cells) (pointer_there row.stored.cells from.0 pointer from.1)

dropping_from : (xacts : Xacts) (snaps : Snaps) (table : Table) (pages : Pages) (entries : List KeyEntry) (x : ℕ) (row : OldRow) (version : Version) (news : List Cell) (pointer : Pointer) → OldVersion xacts table x row version → Contains (dropped_of row.stored.cells news) pointer
    → item_in pages row.tid ≡ Some (ended_by x version) → AreEnded xacts snaps (holders_of table.rows.schema.storages pages pointer.value_id) x → IsDropping xacts snaps (with_rows table pages entries) x pointer
dropping_from xacts snaps table pages entries x row version news pointer old e at ended = record {
  tid = row.tid;
  version = ended_by x version;
  there = at;
  holds = dropped_holds xacts table x row version news pointer old e;
  inserted = old.opened.inserted;
  ended_by = refl;
  ended = ended;
}

-- none of its ids is one of the new row's
dropped_gone : (xacts : Xacts) (snaps : Snaps) (in_hand : List InHand) (table : Table) (s t x : ℕ) (row : OldRow) (new : Stored) (version : Version) (pointer : Pointer) → is_running xacts x ≡ true → OldVersion xacts table x row version → IsTable t xacts snaps table
    → NewRow xacts snaps in_hand table s t x (Some row) new → Contains (dropped_of row.stored.cells new.cells) pointer → has_id pointer.value_id new.cells ≡ false
dropped_gone xacts snaps in_hand table s t x row new version pointer runs old is fresh e = not_true (has_id pointer.value_id new.cells) (λ has.
    let found = id_in pointer.value_id new.cells has in
    let column = column_of new.cells found.0 found.2 in
    by found.0 column.0 found.1 column.1 (fresh.column column.0 found.0 column.1))
  where
    from : (k : ℕ) × (slice_get row.stored.cells k ≡ Some (Out pointer)) × (keeps pointer (slice_index_or new.cells k Null) ≡ false)
    from = dropped_from row.stored.cells new.cells pointer e

    distinct : IsDistinct nat_eq (ids_in row.stored.cells)
    distinct = subst (λ (cells : List Cell). IsDistinct nat_eq (ids_in cells)) old.cells (is.tuples row.tid version old.there).distinct

    by : (q : Pointer) (k : ℕ) → q.value_id ≡ pointer.value_id → slice_get new.cells k ≡ Some (Out q) → IsUnheld xacts snaps table q.value_id ⊎ (slice_get row.stored.cells k ≡ Some (Out q)) → ⊥
    by q k same at (inl unheld) = unheld.none row.tid (stamp_of version) (record {
      there = holder_from (λ (bytes : List ℕ). has_id q.value_id (cells_in table.rows.schema.storages bytes)) table.rows.pages row.tid version old.there
          (id_from q.value_id (cells_of table version) pointer (sym same) (dropped_holds xacts table x row version new.cells pointer old e));
      protected = open_is_protected xacts snaps x (stamp_of version) runs old.opened;
    })
    by q k same at (inr kept) =
        let place = distinct_at row.stored.cells from.0 k pointer q distinct from.1 kept (sym same) in
        let one = pointer_is row.stored.cells from.0 k pointer q distinct from.1 kept (sym same) in
        let cell = read_found new.cells k (Out q) Null at in
        let keeps_it : keeps pointer (slice_index_or new.cells from.0 Null) ≡ true = ap (λ (n : ℕ). keeps pointer (slice_index_or new.cells n Null)) place ∙ ap (keeps pointer) (cell ∙ ap Out (sym one)) ∙ kept_itself pointer in
        clash (keeps pointer (slice_index_or new.cells from.0 Null)) keeps_it from.2

-- ---- an insert

-- the version of a new row
abbrev pub version_of : Table → ℕ → Stored → Version
version_of table x new = new_version new.key x (tuple table.rows.schema.storages new)

-- the versions with it
abbrev pub rows_put : Table → ℕ → Stored → Relation
rows_put table x new = with_version table.rows (version_of table x new)

is_put : (table : Table) (x : ℕ) (new : Stored) → IsPut table.rows.pages (rows_put table x new).pages (put_tid (length (version_of table x new).tuple) table.rows.pages) (version_of table x new)
is_put table x new = calls_are_steps.put (length (version_of table x new).tuple) (version_of table x new) table.rows.pages

pub made_put : (xacts : Xacts) (snaps : Snaps) (ids : Pool) (held : SessionLocks) (table : Table) (s t : ℕ) (state : State) (owner : Owner) (new : Stored) (plan : List ℕ)
    → WriteIsSound xacts snaps ids held table s t state (record { owner = owner; stage = stages.Put None new plan }) → is_running xacts owner.xid ≡ true → IsTable t xacts snaps table → NewRow xacts snaps ids.in_hand table s t owner.xid None new
    → IsMade xacts snaps ids.in_hand table s t owner.xid (rows_put table owner.xid new).pages (rows_put table owner.xid new).entries (new.key ∷ []) new.cells []
made_put xacts snaps ids held table s t state owner new plan write runs is fresh =
    let x = owner.xid in
    let none = write.rows.alone new refl refl in
    let put = is_put table owner.xid new in
    record {
      step = subst (λ (cells : List Cell). IsStep t xacts snaps owner.xid table (rows_put table owner.xid new).pages (rows_put table owner.xid new).entries (new.key ∷ []) cells) fresh.cells
          (put_step t xacts snaps table (rows_put table owner.xid new).pages (rows_put table owner.xid new).entries (new.key ∷ []) (put_tid (length (version_of table owner.xid new).tuple) table.rows.pages) owner.xid new.key (tuple table.rows.schema.storages new)
          runs none fresh.row (first_in new.key [] new.key refl) put);
      given = fresh.given;
      own_at = λ key e.
          subst (λ (k : ℤ). IsOwnAt xacts owner.xid (rows_put table owner.xid new).pages k) (only_one new.key key e)
          (own_changes_stay.put xacts owner.xid owner.xid table.rows.pages (rows_put table owner.xid new).pages (put_tid (length (version_of table owner.xid new).tuple) table.rows.pages) new.key new.key (tuple table.rows.schema.storages new) runs put
          (own_changes_stay.none xacts owner.xid table.rows.pages new.key none));
      dropping = λ pointer e. absurd (none_in_nil pointer e);
    }

pub has_put : (xacts : Xacts) (snaps : Snaps) (in_hand : List InHand) (table : Table) (s t x : ℕ) (new : Stored) → NewRow xacts snaps in_hand table s t x None new → HasPut (with_rows table (rows_put table x new).pages (rows_put table x new).entries) x new.key new.cells
has_put xacts snaps in_hand table s t x new fresh =
    record { tid = put_tid (length (version_of table x new).tuple) table.rows.pages; version = version_of table x new; there = (is_put table x new).put; inserter = refl; of_key = refl; is = fresh.cells }

-- ---- an update, or a move to another key

abbrev pub rows_moved : Table → ℕ → OldRow → Stored → Relation
rows_moved table x row new = with_ended x (rows_put table x new) row.tid

is_replaced : (table : Table) (x : ℕ) (row : OldRow) (new : Stored) (version : Version) → item_in table.rows.pages row.tid ≡ Some version
    → IsReplaced x table.rows.pages (rows_moved table x row new).pages row.tid (put_tid (length (version_of table x new).tuple) table.rows.pages) version (version_of table x new)
is_replaced table x row new version there = calls_are_steps.replaced x table.rows.pages row.tid version (length (version_of table x new).tuple) (version_of table x new) there

-- the new key is the old version's, or nothing is there for the transaction at it
new_place : (xacts : Xacts) (snaps : Snaps) (ids : Pool) (held : SessionLocks) (table : Table) (s t : ℕ) (state : State) (owner : Owner) (row : OldRow) (new : Stored) (plan : List ℕ) (version : Version)
    → WriteIsSound xacts snaps ids held table s t state (record { owner = owner; stage = stages.Put (Some row) new plan }) → OldVersion xacts table owner.xid row version
    → (version.key ≡ new.key) ⊎ (tuple_in (counts_for xacts (Some owner.xid)) table.rows.pages new.key ≡ None)
new_place xacts snaps ids held table s t state owner row new plan version write old = by (is_eq (int_cmp row.stored.key new.key)) refl
  where
    by : (b : Bool) → is_eq (int_cmp row.stored.key new.key) ≡ b → (version.key ≡ new.key) ⊎ (tuple_in (counts_for xacts (Some owner.xid)) table.rows.pages new.key ≡ None)
    by true e = inl (old.of_key ∙ key_is row.stored.key new.key e)
    by false e = inr (write.rows.alone new refl (ap not e))

pub made_moved : (xacts : Xacts) (snaps : Snaps) (ids : Pool) (held : SessionLocks) (table : Table) (s t : ℕ) (state : State) (owner : Owner) (row : OldRow) (new : Stored) (plan : List ℕ) (version : Version)
    → WriteIsSound xacts snaps ids held table s t state (record { owner = owner; stage = stages.Put (Some row) new plan }) → is_running xacts owner.xid ≡ true → OldVersion xacts table owner.xid row version → IsTable t xacts snaps table
    → NewRow xacts snaps ids.in_hand table s t owner.xid (Some row) new
    → IsMade xacts snaps ids.in_hand table s t owner.xid (rows_moved table owner.xid row new).pages (rows_moved table owner.xid row new).entries (row.stored.key ∷ new.key ∷ []) new.cells (dropped_of row.stored.cells new.cells)
made_moved xacts snaps ids held table s t state owner row new plan version write runs old is fresh =
    let place = new_place xacts snaps ids held table s t state owner row new plan version write old in
    let replaced = is_replaced table owner.xid row new version old.there in
    record {
      step = subst (λ (cells : List Cell). IsStep t xacts snaps owner.xid table (rows_moved table owner.xid row new).pages (rows_moved table owner.xid row new).entries (row.stored.key ∷ new.key ∷ []) cells) fresh.cells
          (replaced_step t xacts snaps table (rows_moved table owner.xid row new).pages (rows_moved table owner.xid row new).entries (row.stored.key ∷ new.key ∷ []) row.tid new_tid owner.xid version new.key (tuple table.rows.schema.storages new)
          runs old.opened place (subst (λ (kept : List Pointer). IsRowFor t xacts snaps table owner.xid new.key (tuple table.rows.schema.storages new) kept) (kept_cells xacts table owner.xid row version old) fresh.row)
          (first_in row.stored.key (new.key ∷ []) version.key (sym old.of_key)) (later_in row.stored.key (new.key ∷ []) new.key (first_in new.key [] new.key refl)) replaced);
      given = fresh.given;
      own_at = λ key e.
          own_changes_stay.updated xacts owner.xid table.rows.pages (rows_moved table owner.xid row new).pages row.tid new_tid version key new.key (tuple table.rows.schema.storages new) runs replaced
          (elim (cases_in row.stored.key (new.key ∷ []) key e) [
            | inl h ↦ at_old key (old.of_key ∙ h)
            | inr h ↦ at_new key (only_one new.key key h) place
          ]);
      dropping = λ pointer e.
          let has = id_from pointer.value_id (cells_of table version) pointer refl (dropped_holds xacts table owner.xid row version new.cells pointer old e) in
          let gone = dropped_gone xacts snaps ids.in_hand table s t owner.xid row new version pointer runs old is fresh e in
          dropping_from xacts snaps table (rows_moved table owner.xid row new).pages (rows_moved table owner.xid row new).entries owner.xid row version new.cells pointer old e replaced.ended
          (version_steps_keep.dropped_for t xacts snaps table (rows_moved table owner.xid row new).pages row.tid new_tid owner.xid version (version_of table owner.xid new) pointer.value_id runs old.opened replaced has
          (subst (λ (cells : List Cell). has_id pointer.value_id cells ≡ false) (sym fresh.cells) gone) is);
    }
  where
    new_tid : Tid
    new_tid = put_tid (length (version_of table owner.xid new).tuple) table.rows.pages

    at_old : (key : ℤ) → version.key ≡ key → (tid : Tid) → tid ≢ row.tid → tuple_at (counts_for xacts (Some owner.xid)) table.rows.pages key tid ≡ None
    at_old key same = subst (λ (k : ℤ). (tid : Tid) → tid ≢ row.tid → tuple_at (counts_for xacts (Some owner.xid)) table.rows.pages k tid ≡ None) same (others_none_at t xacts snaps table owner.xid row version runs old is)

    at_new : (key : ℤ) → new.key ≡ key → (version.key ≡ new.key) ⊎ (tuple_in (counts_for xacts (Some owner.xid)) table.rows.pages new.key ≡ None) → (tid : Tid) → tid ≢ row.tid → tuple_at (counts_for xacts (Some owner.xid)) table.rows.pages key tid ≡ None
    at_new key same (inl here) = at_old key (here ∙ same)
    at_new key same (inr none) = λ tid differ. world_gives_none (counts_for xacts (Some owner.xid)) table.rows.pages key (ap (tuple_in (counts_for xacts (Some owner.xid)) table.rows.pages) (sym same) ∙ none) tid

pub has_moved : (xacts : Xacts) (snaps : Snaps) (in_hand : List InHand) (table : Table) (s t x : ℕ) (row : OldRow) (new : Stored) (version : Version) → OldVersion xacts table x row version → NewRow xacts snaps in_hand table s t x (Some row) new
    → HasPut (with_rows table (rows_moved table x row new).pages (rows_moved table x row new).entries) x new.key new.cells
has_moved xacts snaps in_hand table s t x row new version old fresh =
    record { tid = put_tid (length (version_of table x new).tuple) table.rows.pages; version = version_of table x new; there = (is_replaced table x row new version old.there).put; inserter = refl; of_key = refl; is = fresh.cells }

-- ---- a delete

abbrev pub rows_removed : Table → ℕ → OldRow → Relation
rows_removed table x row = with_ended x table.rows row.tid

is_ended : (table : Table) (x : ℕ) (row : OldRow) (version : Version) → item_in table.rows.pages row.tid ≡ Some version → IsEnded x table.rows.pages (rows_removed table x row).pages row.tid version
is_ended table x row version there = calls_are_steps.ended x table.rows.pages row.tid version there

-- nothing is there for the transaction at the key then
none_after : (number : ℕ) (xacts : Xacts) (snaps : Snaps) (table : Table) (x : ℕ) (row : OldRow) (version : Version) (key : ℤ) → is_running xacts x ≡ true → OldVersion xacts table x row version → IsTable number xacts snaps table
    → tuple_in (counts_for xacts (Some x)) (rows_removed table x row).pages key ≡ (if is_eq (int_cmp version.key key) then None else tuple_in (counts_for xacts (Some x)) table.rows.pages key)
none_after number xacts snaps table x row version key runs old is = steps_tell.ended_own xacts snaps x table.rows.pages (rows_removed table x row).pages row.tid version key runs old.opened is.one (is_ended table x row version old.there)

pub made_removed : (xacts : Xacts) (snaps : Snaps) (in_hand : List InHand) (table : Table) (s t x : ℕ) (row : OldRow) (version : Version) → is_running xacts x ≡ true → OldVersion xacts table x row version → IsTable t xacts snaps table
    → IsMade xacts snaps in_hand table s t x (rows_removed table x row).pages (rows_removed table x row).entries (row.stored.key ∷ []) [] (dropped_of row.stored.cells [])
made_removed xacts snaps in_hand table s t x row version runs old is =
    let ended = is_ended table x row version old.there in
    record {
      step = ended_step t xacts snaps table (rows_removed table x row).pages (rows_removed table x row).entries (row.stored.key ∷ []) row.tid x version runs old.opened (first_in row.stored.key [] version.key (sym old.of_key)) ended;
      given = λ value_id has. absurd (cc);
      own_at = λ key e.
          own_changes_stay.none xacts x (rows_removed table x row).pages key
          (none_after t xacts snaps table x row version key runs old is
          ∙ ap (λ (b : Bool). if b then None else tuple_in (counts_for xacts (Some x)) table.rows.pages key) (ap (λ (k : ℤ). is_eq (int_cmp version.key k)) (sym (old.of_key ∙ only_one row.stored.key key e)) ∙ same_key version.key));
      dropping = λ pointer e.
          let has = id_from pointer.value_id (cells_of table version) pointer refl (dropped_holds xacts table x row version [] pointer old e) in
          dropping_from xacts snaps table (rows_removed table x row).pages (rows_removed table x row).entries x row version [] pointer old e ended.ended
          (version_steps_keep.ended_for t xacts snaps table (rows_removed table x row).pages row.tid x version pointer.value_id runs old.opened ended has is);
    }

-- ---- what the transaction has then

pub world_put : (xacts : Xacts) (snaps : Snaps) (ids : Pool) (held : SessionLocks) (table : Table) (s t : ℕ) (state : State) (owner : Owner) (new : Stored) (plan : List ℕ) (key : ℤ)
    → WriteIsSound xacts snaps ids held table s t state (record { owner = owner; stage = stages.Put None new plan })
    → tuple_in (counts_for xacts (Some owner.xid)) (rows_put table owner.xid new).pages key
    ≡ (if is_eq (int_cmp new.key key) then Some (tuple table.rows.schema.storages new) else tuple_in (counts_for xacts (Some owner.xid)) table.rows.pages key)
world_put xacts snaps ids held table s t state owner new plan key write =
    steps_tell.put_own xacts owner.xid table.rows.pages (rows_put table owner.xid new).pages (put_tid (length (version_of table owner.xid new).tuple) table.rows.pages) new.key (tuple table.rows.schema.storages new) key
    (write.rows.alone new refl refl) (is_put table owner.xid new)

pub world_moved : (xacts : Xacts) (snaps : Snaps) (ids : Pool) (held : SessionLocks) (table : Table) (s t : ℕ) (state : State) (owner : Owner) (row : OldRow) (new : Stored) (plan : List ℕ) (version : Version) (key : ℤ)
    → WriteIsSound xacts snaps ids held table s t state (record { owner = owner; stage = stages.Put (Some row) new plan }) → is_running xacts owner.xid ≡ true → OldVersion xacts table owner.xid row version → IsTable t xacts snaps table
    → tuple_in (counts_for xacts (Some owner.xid)) (rows_moved table owner.xid row new).pages key
    ≡ (if is_eq (int_cmp new.key key) then Some (tuple table.rows.schema.storages new) else (if is_eq (int_cmp row.stored.key key) then None else tuple_in (counts_for xacts (Some owner.xid)) table.rows.pages key))
world_moved xacts snaps ids held table s t state owner row new plan version key write runs old is =
    steps_tell.replaced_own xacts snaps owner.xid table.rows.pages (rows_moved table owner.xid row new).pages row.tid (put_tid (length (version_of table owner.xid new).tuple) table.rows.pages) version new.key (tuple table.rows.schema.storages new) key
    runs old.opened (new_place xacts snaps ids held table s t state owner row new plan version write old) is.one (is_replaced table owner.xid row new version old.there)
    ∙ ap (λ (from : ℤ). if is_eq (int_cmp new.key key) then Some (tuple table.rows.schema.storages new) else (if is_eq (int_cmp from key) then None else tuple_in (counts_for xacts (Some owner.xid)) table.rows.pages key)) old.of_key

pub world_removed : (number : ℕ) (xacts : Xacts) (snaps : Snaps) (table : Table) (x : ℕ) (row : OldRow) (version : Version) (key : ℤ) → is_running xacts x ≡ true → OldVersion xacts table x row version → IsTable number xacts snaps table
    → tuple_in (counts_for xacts (Some x)) (rows_removed table x row).pages key ≡ (if is_eq (int_cmp row.stored.key key) then None else tuple_in (counts_for xacts (Some x)) table.rows.pages key)
world_removed number xacts snaps table x row version key runs old is =
    none_after number xacts snaps table x row version key runs old is ∙ ap (λ (from : ℤ). if is_eq (int_cmp from key) then None else tuple_in (counts_for xacts (Some x)) table.rows.pages key) old.of_key
