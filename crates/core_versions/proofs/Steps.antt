-- What a version step of a transaction is to a table, whether a version is put, ended, or both.
use Rattle.std.proofs.Common.{ap, inl, inr, refl, subst, sym, ◌∙◌}
use Rattle.std.specs.Prelude.{Bool, Contains, List, None, Some, [], false, true, ℕ, ℤ, ◌≡◌, ◌≢◌, ◌⊎◌}
use Rattle.tuple_layout.specs.declared.cell.Cell.{Cell}
use Rattle.slot_page.proofs.Tids.{cases_tid}
use Rattle.slot_page.specs.Pages.{item_in}
use Rattle.slot_page.specs.declared.line.Tid.{Tid}
use Rattle.xact_status.specs.Versions.{counts_for}
use Rattle.xact_status.specs.Xacts.{Xacts, is_running}
use Rattle.snapshot_registry.specs.Snapshots.{Snaps}
use Rattle.snapshot_registry.specs.declared.Snapshot.{Snapshot}
use Rattle.value_holders.specs.Stamps.{IsOpenFor}
use Rattle.row_versions.specs.Relations.{Pages}
use Rattle.row_versions.specs.Versions.{new_version}
use Rattle.row_versions.specs.declared.keys.KeyEntry.{KeyEntry}
use Rattle.row_versions.specs.declared.version.Version.{Version}
use Rattle.table_rows.proofs.Records.{own_changes_stay, since_stays, steps_tell, views_stay}
use Rattle.table_rows.proofs.Sessions.{from_ended}
use Rattle.table_rows.specs.Steps.{IsEnded, IsPut, IsReplaced, ended_by, stamp_of}
use Rattle.table_rows.specs.Views.{IsOwnAt, IsSince, IsViewNow}
use Rattle.table_rows.specs.Worlds.{IsWorld, Own, World, counts_in, tuple_in}
use Rattle.table_state.proofs.Records.{version_steps_keep}
use Rattle.table_state.specs.Cells.{cells_in}
use Rattle.table_state.specs.Events.{IsRowFor, IsUnheld, with_rows}
use Rattle.table_state.specs.Rows.{has_id, pointers_in}
use Rattle.table_state.specs.Stays.{HaveEnded}
use Rattle.table_state.specs.Tables.{IsTable, cells_of}
use Rattle.table_state.specs.declared.table.Table.{Table}
use Rattle.table_state.proofs.Others.{ended_stays, unheld_stays}

-- ---- where a version comes from, and what becomes of one

-- a version that the step has put, at a key that is claimed
pub record IsNewAt (x : ℕ) (pages : Pages) (keys : List ℤ) (tid : Tid) (version : Version) : Type 0 where
  pub free : item_in pages tid ≡ None
  pub inserter : version.inserter ≡ x
  pub unended : version.ender ≡ None
  pub claimed : Contains keys version.key

-- one that the step has ended, at a key that is claimed
pub record IsClosedAt (xacts : Xacts) (x : ℕ) (pages : Pages) (keys : List ℤ) (tid : Tid) (version : Version) : Type 0 where
  pub was : Version
  pub there : item_in pages tid ≡ Some was
  pub is : version ≡ ended_by x was
  pub opened : IsOpenFor xacts x (stamp_of was)
  pub claimed : Contains keys was.key

pub data Came (xacts : Xacts) (x : ℕ) (pages : Pages) (keys : List ℤ) (tid : Tid) (version : Version) : Type 0 where
  Stood : item_in pages tid ≡ Some version → Came xacts x pages keys tid version
  Put : IsNewAt x pages keys tid version → Came xacts x pages keys tid version
  Closed : IsClosedAt xacts x pages keys tid version → Came xacts x pages keys tid version

pub data Goes (xacts : Xacts) (x : ℕ) (later : Pages) (keys : List ℤ) (tid : Tid) (version : Version) : Type 0 where
  Stands : item_in later tid ≡ Some version → Goes xacts x later keys tid version
  Closes : item_in later tid ≡ Some (ended_by x version) → IsOpenFor xacts x (stamp_of version) → Contains keys version.key → Goes xacts x later keys tid version

-- ---- a version step

-- what the step of a transaction x at some keys, which puts a version with some cells if any, is to all
pub record IsStep (number : ℕ) (xacts : Xacts) (snaps : Snaps) (x : ℕ) (table : Table) (later : Pages) (entries : List KeyEntry) (keys : List ℤ) (cells : List Cell) : Type 0 where
  pub came : (tid : Tid) (version : Version) → item_in later tid ≡ Some version → Came xacts x table.rows.pages keys tid version
  pub goes : (tid : Tid) (version : Version) → item_in table.rows.pages tid ≡ Some version → Goes xacts x later keys tid version
  pub table_is : IsTable number xacts snaps table → IsTable number xacts snaps (with_rows table later entries)
  pub unheld : (value_id : ℕ) → has_id value_id cells ≡ false → IsUnheld xacts snaps table value_id → IsUnheld xacts snaps (with_rows table later entries) value_id
  pub ended : (value_id y : ℕ) → is_running xacts y ≡ true → has_id value_id cells ≡ false → HaveEnded xacts snaps table value_id y → HaveEnded xacts snaps (with_rows table later entries) value_id y
  pub view : (snapshot : Snapshot) (y : ℕ) (key : ℤ) → is_running xacts y ≡ true → IsViewNow xacts snapshot y table.rows.pages key → IsViewNow xacts snapshot y later key
  pub own_at : (y : ℕ) (key : ℤ) → is_running xacts y ≡ true → IsOwnAt xacts y table.rows.pages key → IsOwnAt xacts y later key
  pub since : (snapshot : Snapshot) (key : ℤ) (changed : Bool) → IsSince xacts snapshot table.rows.pages key changed → IsSince xacts snapshot later key changed
  pub others : (world : World) (key : ℤ) → IsWorld xacts world → world ≢ Own x → tuple_in (counts_in xacts snaps world) later key ≡ tuple_in (counts_in xacts snaps world) table.rows.pages key

-- a version is put
pub put_step : (number : ℕ) (xacts : Xacts) (snaps : Snaps) (table : Table) (later : Pages) (entries : List KeyEntry) (keys : List ℤ) (new : Tid) (x : ℕ) (key : ℤ) (tuple : List ℕ) → is_running xacts x ≡ true
    → tuple_in (counts_for xacts (Some x)) table.rows.pages key ≡ None → IsRowFor number xacts snaps table x key tuple [] → Contains keys key → IsPut table.rows.pages later new (new_version key x tuple)
    → IsStep number xacts snaps x table later entries keys (cells_in table.rows.schema.storages tuple)
put_step number xacts snaps table later entries keys new x key tuple runs none row claimed put = record {
  came = λ tid version at. elim (cases_tid tid new) [
    | inl here ↦
        let is : Some (new_version key x tuple) ≡ Some version = sym put.put ∙ ap (item_in later) (sym here) ∙ at in
        let same : new_version key x tuple ≡ version = cc in
        Put (subst (λ (v : Version). IsNewAt x table.rows.pages keys tid v) same (record { free = ap (item_in table.rows.pages) here ∙ put.free; inserter = refl; unended = refl; claimed = claimed }))
    | inr other ↦ Stood (sym (put.elsewhere tid other) ∙ at)
  ];
  goes = λ tid version at. elim (cases_tid tid new) [
    | inl here ↦
        let gone : item_in table.rows.pages tid ≡ None = ap (item_in table.rows.pages) here ∙ put.free in
        absurd (cc)
    | inr other ↦ Stands (put.elsewhere tid other ∙ at)
  ];
  table_is = version_steps_keep.put number xacts snaps table later entries new x key tuple runs none row put;
  unheld = λ value_id other. unheld_stays.put xacts snaps table later entries new (new_version key x tuple) value_id put other;
  ended = λ value_id y its other. ended_stays.put xacts snaps table later entries new (new_version key x tuple) value_id y put other;
  view = λ snapshot y k its. views_stay.put xacts snapshot y x table.rows.pages later new k key tuple runs put;
  own_at = λ y k its. own_changes_stay.put xacts y x table.rows.pages later new k key tuple runs put;
  since = λ snapshot k changed. since_stays.put xacts snapshot x table.rows.pages later new k key tuple changed runs put;
  others = λ world k is differ. steps_tell.put_others xacts snaps world x table.rows.pages later new key tuple k runs differ put;
}

-- a version is ended
pub ended_step : (number : ℕ) (xacts : Xacts) (snaps : Snaps) (table : Table) (later : Pages) (entries : List KeyEntry) (keys : List ℤ) (tid : Tid) (x : ℕ) (old : Version) → is_running xacts x ≡ true
    → IsOpenFor xacts x (stamp_of old) → Contains keys old.key → IsEnded x table.rows.pages later tid old
    → IsStep number xacts snaps x table later entries keys []
ended_step number xacts snaps table later entries keys tid x old runs opened claimed ended = record {
  came = λ t version at. elim (from_ended x table.rows.pages later tid old ended t version at) [
    | inl was ↦ Stood was
    | inr was ↦ Closed (record { was = old; there = was.0; is = was.1; opened = opened; claimed = claimed })
  ];
  goes = λ t version at. elim (cases_tid t tid) [
    | inl here ↦
        let is : Some old ≡ Some version = sym ended.there ∙ ap (item_in table.rows.pages) (sym here) ∙ at in
        let same : old ≡ version = cc in
        Closes (ap (item_in later) here ∙ ended.ended ∙ ap (λ (v : Version). Some (ended_by x v)) same) (subst (λ (v : Version). IsOpenFor xacts x (stamp_of v)) same opened) (subst (λ (v : Version). Contains keys v.key) same claimed)
    | inr other ↦ Stands (ended.elsewhere t other ∙ at)
  ];
  table_is = version_steps_keep.ended number xacts snaps table later entries tid x old runs opened ended;
  unheld = λ value_id other. unheld_stays.ended xacts snaps table later entries tid x old value_id runs opened ended;
  ended = λ value_id y its other. ended_stays.ended xacts snaps table later entries tid x old value_id y runs its opened ended;
  view = λ snapshot y k its. views_stay.ended xacts snapshot y x table.rows.pages later tid old k its runs opened ended;
  own_at = λ y k its. own_changes_stay.ended xacts y x table.rows.pages later tid old k its opened ended;
  since = λ snapshot k changed. since_stays.ended xacts snapshot x table.rows.pages later tid old k changed runs opened ended;
  others = λ world k is differ. steps_tell.ended_others xacts snaps world x table.rows.pages later tid old k runs opened is differ ended;
}

-- a version is put and another ended
pub replaced_step : (number : ℕ) (xacts : Xacts) (snaps : Snaps) (table : Table) (later : Pages) (entries : List KeyEntry) (keys : List ℤ) (tid new : Tid) (x : ℕ) (old : Version) (key : ℤ) (tuple : List ℕ) → is_running xacts x ≡ true
    → IsOpenFor xacts x (stamp_of old) → (old.key ≡ key) ⊎ (tuple_in (counts_for xacts (Some x)) table.rows.pages key ≡ None) → IsRowFor number xacts snaps table x key tuple (pointers_in (cells_of table old))
    → Contains keys old.key → Contains keys key → IsReplaced x table.rows.pages later tid new old (new_version key x tuple)
    → IsStep number xacts snaps x table later entries keys (cells_in table.rows.schema.storages tuple)
replaced_step number xacts snaps table later entries keys tid new x old key tuple runs opened where_to row claimed new_claimed replaced = record {
  came = λ t version at. elim (cases_tid t new) [
    | inl here ↦
        let is : Some (new_version key x tuple) ≡ Some version = sym replaced.put ∙ ap (item_in later) (sym here) ∙ at in
        let same : new_version key x tuple ≡ version = cc in
        Put (subst (λ (v : Version). IsNewAt x table.rows.pages keys t v) same (record { free = ap (item_in table.rows.pages) here ∙ replaced.free; inserter = refl; unended = refl; claimed = new_claimed }))
    | inr other ↦ elim (cases_tid t tid) [
      | inl here ↦
          let is : Some (ended_by x old) ≡ Some version = sym replaced.ended ∙ ap (item_in later) (sym here) ∙ at in
          let same : version ≡ ended_by x old = cc in
          Closed (record { was = old; there = ap (item_in table.rows.pages) here ∙ replaced.there; is = same; opened = opened; claimed = claimed })
      | inr apart ↦ Stood (sym (replaced.elsewhere t other apart) ∙ at)
    ]
  ];
  goes = λ t version at. elim (cases_tid t tid) [
    | inl here ↦
        let is : Some old ≡ Some version = sym replaced.there ∙ ap (item_in table.rows.pages) (sym here) ∙ at in
        let same : old ≡ version = cc in
        Closes (ap (item_in later) here ∙ replaced.ended ∙ ap (λ (v : Version). Some (ended_by x v)) same) (subst (λ (v : Version). IsOpenFor xacts x (stamp_of v)) same opened) (subst (λ (v : Version). Contains keys v.key) same claimed)
    | inr other ↦ elim (cases_tid t new) [
      | inl here ↦
          let gone : item_in table.rows.pages t ≡ None = ap (item_in table.rows.pages) here ∙ replaced.free in
          absurd (cc)
      | inr apart ↦ Stands (replaced.elsewhere t apart other ∙ at)
    ]
  ];
  table_is = version_steps_keep.replaced number xacts snaps table later entries tid new x old key tuple runs opened where_to row replaced;
  unheld = λ value_id other. unheld_stays.replaced xacts snaps table later entries tid new x old (new_version key x tuple) value_id runs opened replaced other;
  ended = λ value_id y its other. ended_stays.replaced xacts snaps table later entries tid new x old (new_version key x tuple) value_id y runs its opened replaced other;
  view = λ snapshot y k its. views_stay.replaced xacts snapshot y x table.rows.pages later tid new old k key tuple its runs opened replaced;
  own_at = λ y k its. own_changes_stay.replaced xacts y x table.rows.pages later tid new old k key tuple its runs opened replaced;
  since = λ snapshot k changed. since_stays.replaced xacts snapshot x table.rows.pages later tid new old k key tuple changed runs opened replaced;
  others = λ world k is differ. steps_tell.replaced_others xacts snaps world x table.rows.pages later tid new old key tuple k runs opened is differ replaced;
}
