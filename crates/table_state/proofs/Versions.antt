-- The facts of a table through version steps and through vacuum of its versions.
use Rattle.std.proofs.Common.{ℕ, ℤ, ◌≡◌, ◌≤◌, ◌⊎◌, inl, inr, Bool, true, false, List, [], Some, None, refl, sym, subst, ◌∙◌}
use Rattle.slot_page.specs.declared.line.Tid.{Tid}
use Rattle.slot_page.specs.Pages.{item_in}
use Rattle.xact_status.specs.Xacts.{Xacts, is_running}
use Rattle.snapshot_registry.specs.Snapshots.{Snaps, horizon}
use Rattle.snapshot_registry.specs.Laws.{IsRegistryOf}
use Rattle.row_versions.specs.declared.keys.KeyEntry.{KeyEntry}
use Rattle.row_versions.specs.declared.version.Version.{Version}
use Rattle.row_versions.specs.Versions.{new_version}
use Rattle.row_versions.specs.Relations.{Pages}
use Rattle.xact_status.specs.Versions.{counts_for}
use Rattle.value_holders.specs.Stamps.{IsOpenFor}
use Rattle.value_holders.specs.Holders.{IsHeld, AreEnded}
use Rattle.value_holders.specs.Laws.{StepsKeepHeld, VersionStepTells}
use Rattle.value_holders.proofs.VersionSteps.{open_is_protected, version_step_tells}
use Rattle.value_holders.proofs.Steps.{steps_keep_held}
use Rattle.table_rows.specs.Worlds.{AreOne, tuple_in}
use Rattle.table_rows.specs.Steps.{stamp_of, IsPut, IsEnded, IsReplaced, TakesDead, SameVersions}
use Rattle.table_rows.proofs.Unique.{are_one_put, are_one_ended, are_one_replaced, are_one_taken, are_one_unchanged}
use Rattle.table_rows.proofs.Sessions.{From, Stays, New, Ended, from_replaced, from_put, from_ended}
use Rattle.table_state.specs.declared.table.Table.{Table}
use Rattle.table_state.specs.Cells.{cells_in}
use Rattle.table_state.specs.Rows.{pointers_in, has_id}
use Rattle.table_state.specs.Holders.{holders_of, chunk_stamps}
use Rattle.table_state.specs.Tables.{IsTable, cells_of}
use Rattle.table_state.specs.Events.{with_rows, IsSavedId, IsRowFor}
use Rattle.table_state.proofs.Ids.{id_from}
use Rattle.table_state.proofs.Places.{clash, put_joins, put_apart, ended_at, ended_apart, replaced_apart, replaced_joins, replaced_ends, replaced_middle, middle_joins, but_at, fewer_part}
use Rattle.table_state.proofs.Keeps.{IsNewVersion, Came, WasThere, IsNew, WasEnded, keeps_rows, saved_id, not_kept, among_itself}

held_steps : StepsKeepHeld Tid
held_steps = steps_keep_held

tells : VersionStepTells Tid
tells = version_step_tells

-- whether a tuple has a pointer with an id
abbrev holds_id : Table → ℕ → List ℕ → Bool
holds_id table value_id tuple = has_id value_id (cells_in table.rows.schema.storages tuple)

-- ---- a version is put

pub table_put : (number : ℕ) (xacts : Xacts) (snaps : Snaps) (table : Table) (later : Pages) (entries : List KeyEntry) (new : Tid) (x : ℕ) (key : ℤ) (tuple : List ℕ) → is_running xacts x ≡ true → tuple_in (counts_for xacts (Some x)) table.rows.pages key ≡ None → IsRowFor number xacts snaps table x key tuple []
    → IsPut table.rows.pages later new (new_version key x tuple) → IsTable number xacts snaps table → IsTable number xacts snaps (with_rows table later entries)
table_put number xacts snaps table later entries new x key tuple runs none row put is = keeps_rows number xacts snaps table later entries x runs came (are_one_put xacts snaps x table.rows.pages later new key tuple runs none put is.one) (λ value_id. held value_id (holds_id table value_id tuple) refl) is
  where
    new_row : IsNewVersion number table x (new_version key x tuple)
    new_row = record {
      put_by = refl;
      unended = refl;
      tuple = row.tuple;
      whole = λ pointer has. elim (row.values pointer has) [ inl saved ↦ saved.whole | inr keeps ↦ absurd (not_kept pointer keeps) ];
    }

    came : (tid : Tid) (now : Version) → item_in later tid ≡ Some now → Came number xacts table x tid now
    came tid now at = elim (from_put table.rows.pages later new (new_version key x tuple) put tid now at) [
      | inl was ↦ WasThere was
      | inr is_new ↦ IsNew (subst (λ v. IsNewVersion number table x v) (sym is_new) new_row)
    ]

    saved : (value_id : ℕ) → holds_id table value_id tuple ≡ true → IsSavedId xacts snaps table x value_id
    saved value_id has = elim (saved_id number xacts snaps table x key tuple [] value_id row has) [
      | inl found ↦ subst (λ v. IsSavedId xacts snaps table x v) found.1 found.2.saved
      | inr keeps ↦ absurd (not_kept keeps.0 keeps.2)
    ]

    held : (value_id : ℕ) (b : Bool) → holds_id table value_id tuple ≡ b → IsHeld xacts snaps (holders_of table.rows.schema.storages later value_id) (chunk_stamps table.toast value_id)
    held value_id true has = let s = saved value_id has in
        held_steps.joined xacts snaps (holders_of table.rows.schema.storages table.rows.pages value_id) (holders_of table.rows.schema.storages later value_id) (chunk_stamps table.toast value_id) x new runs s.free s.unended s.put_by (put_joins (holds_id table value_id) table.rows.pages later new (new_version key x tuple) x put refl) (is.held value_id)
    held value_id false has = held_steps.pruned xacts snaps (holders_of table.rows.schema.storages table.rows.pages value_id) (holders_of table.rows.schema.storages later value_id) (chunk_stamps table.toast value_id) (chunk_stamps table.toast value_id) (put_apart (holds_id table value_id) table.rows.pages later new (new_version key x tuple) put has) (among_itself (chunk_stamps table.toast value_id)) (is.held value_id)

-- ---- a version is ended

pub table_ended : (number : ℕ) (xacts : Xacts) (snaps : Snaps) (table : Table) (later : Pages) (entries : List KeyEntry) (tid : Tid) (x : ℕ) (old : Version) → is_running xacts x ≡ true → IsOpenFor xacts x (stamp_of old)
    → IsEnded x table.rows.pages later tid old → IsTable number xacts snaps table → IsTable number xacts snaps (with_rows table later entries)
table_ended number xacts snaps table later entries tid x old runs opened ended is = keeps_rows number xacts snaps table later entries x runs came (are_one_ended xacts snaps x table.rows.pages later tid old runs opened ended is.one) (λ value_id. held value_id (holds_id table value_id old.tuple) refl) is
  where
    came : (t : Tid) (now : Version) → item_in later t ≡ Some now → Came number xacts table x t now
    came t now at = elim (from_ended x table.rows.pages later tid old ended t now at) [
      | inl was ↦ WasThere was
      | inr was ↦ WasEnded old was.0 opened was.1
    ]

    held : (value_id : ℕ) (b : Bool) → holds_id table value_id old.tuple ≡ b → IsHeld xacts snaps (holders_of table.rows.schema.storages later value_id) (chunk_stamps table.toast value_id)
    held value_id true has = held_steps.dropped xacts snaps (holders_of table.rows.schema.storages table.rows.pages value_id) (holders_of table.rows.schema.storages later value_id) (chunk_stamps table.toast value_id) x tid (stamp_of old) runs opened (ended_at (holds_id table value_id) x table.rows.pages later tid old ended has) (is.held value_id)
    held value_id false has = held_steps.pruned xacts snaps (holders_of table.rows.schema.storages table.rows.pages value_id) (holders_of table.rows.schema.storages later value_id) (chunk_stamps table.toast value_id) (chunk_stamps table.toast value_id) (ended_apart (holds_id table value_id) x table.rows.pages later tid old ended has) (among_itself (chunk_stamps table.toast value_id)) (is.held value_id)

-- each value that it held has then ended for the transaction
pub ended_for : (number : ℕ) (xacts : Xacts) (snaps : Snaps) (table : Table) (later : Pages) (tid : Tid) (x : ℕ) (old : Version) (value_id : ℕ) → is_running xacts x ≡ true → IsOpenFor xacts x (stamp_of old)
    → IsEnded x table.rows.pages later tid old → has_id value_id (cells_of table old) ≡ true → IsTable number xacts snaps table → AreEnded xacts snaps (holders_of table.rows.schema.storages later value_id) x
ended_for number xacts snaps table later tid x old value_id runs opened ended has is = tells.all_ended xacts snaps (holders_of table.rows.schema.storages table.rows.pages value_id) (holders_of table.rows.schema.storages later value_id) (chunk_stamps table.toast value_id) x tid (stamp_of old) runs opened (ended_at (holds_id table value_id) x table.rows.pages later tid old ended has) (is.held value_id)

-- ---- both

pub table_replaced : (number : ℕ) (xacts : Xacts) (snaps : Snaps) (table : Table) (later : Pages) (entries : List KeyEntry) (tid new : Tid) (x : ℕ) (old : Version) (key : ℤ) (tuple : List ℕ) → is_running xacts x ≡ true → IsOpenFor xacts x (stamp_of old)
    → (old.key ≡ key) ⊎ (tuple_in (counts_for xacts (Some x)) table.rows.pages key ≡ None) → IsRowFor number xacts snaps table x key tuple (pointers_in (cells_of table old))
    → IsReplaced x table.rows.pages later tid new old (new_version key x tuple) → IsTable number xacts snaps table → IsTable number xacts snaps (with_rows table later entries)
table_replaced number xacts snaps table later entries tid new x old key tuple runs opened free row replaced is =
    keeps_rows number xacts snaps table later entries x runs (λ t now at. came t now (from_replaced x table.rows.pages later tid new old (new_version key x tuple) replaced t now at)) (are_one_replaced xacts snaps x table.rows.pages later tid new old key tuple runs opened free replaced is.one)
    (λ value_id. held value_id (holds_id table value_id tuple) (holds_id table value_id old.tuple) refl refl) is
  where
    new_row : IsNewVersion number table x (new_version key x tuple)
    new_row = record {
      put_by = refl;
      unended = refl;
      tuple = row.tuple;
      whole = λ pointer has. elim (row.values pointer has) [
        | inl saved ↦ saved.whole
        | inr keeps ↦ is.whole tid old pointer replaced.there (open_is_protected xacts snaps x (stamp_of old) runs opened) keeps
      ];
    }

    came : (t : Tid) (now : Version) → From x table.rows.pages old (new_version key x tuple) t now → Came number xacts table x t now
    came t now (Stays was) = WasThere was
    came t now (New is_new) = IsNew (subst (λ v. IsNewVersion number table x v) (sym is_new) new_row)
    came t now (Ended was e) = WasEnded old was opened e

    saved : (value_id : ℕ) → holds_id table value_id tuple ≡ true → holds_id table value_id old.tuple ≡ false → IsSavedId xacts snaps table x value_id
    saved value_id has not_old = elim (saved_id number xacts snaps table x key tuple (pointers_in (cells_of table old)) value_id row has) [
      | inl found ↦ subst (λ v. IsSavedId xacts snaps table x v) found.1 found.2.saved
      | inr keeps ↦ absurd (clash (holds_id table value_id old.tuple) (id_from value_id (cells_of table old) keeps.0 keeps.1 keeps.2) not_old)
    ]

    held : (value_id : ℕ) (b c : Bool) → holds_id table value_id tuple ≡ b → holds_id table value_id old.tuple ≡ c → IsHeld xacts snaps (holders_of table.rows.schema.storages later value_id) (chunk_stamps table.toast value_id)
    held value_id true true has had = held_steps.kept xacts snaps (holders_of table.rows.schema.storages table.rows.pages value_id) (but_at (holds_id table value_id) later new) (holders_of table.rows.schema.storages later value_id) (chunk_stamps table.toast value_id) x tid new (stamp_of old) runs opened
        (replaced_middle (holds_id table value_id) x table.rows.pages later tid new old (new_version key x tuple) replaced had) (middle_joins (holds_id table value_id) x table.rows.pages later tid new old (new_version key x tuple) replaced refl) (is.held value_id)
    held value_id true false has had = let s = saved value_id has had in
        held_steps.joined xacts snaps (holders_of table.rows.schema.storages table.rows.pages value_id) (holders_of table.rows.schema.storages later value_id) (chunk_stamps table.toast value_id) x new runs s.free s.unended s.put_by (replaced_joins (holds_id table value_id) x table.rows.pages later tid new old (new_version key x tuple) replaced refl had) (is.held value_id)
    held value_id false true has had = held_steps.dropped xacts snaps (holders_of table.rows.schema.storages table.rows.pages value_id) (holders_of table.rows.schema.storages later value_id) (chunk_stamps table.toast value_id) x tid (stamp_of old) runs opened (replaced_ends (holds_id table value_id) x table.rows.pages later tid new old (new_version key x tuple) replaced had has) (is.held value_id)
    held value_id false false has had = held_steps.pruned xacts snaps (holders_of table.rows.schema.storages table.rows.pages value_id) (holders_of table.rows.schema.storages later value_id) (chunk_stamps table.toast value_id) (chunk_stamps table.toast value_id) (replaced_apart (holds_id table value_id) x table.rows.pages later tid new old (new_version key x tuple) replaced had has) (among_itself (chunk_stamps table.toast value_id)) (is.held value_id)

-- each value that the old version held and the new one does not has then ended for the transaction
pub dropped_for : (number : ℕ) (xacts : Xacts) (snaps : Snaps) (table : Table) (later : Pages) (tid new : Tid) (x : ℕ) (old version : Version) (value_id : ℕ) → is_running xacts x ≡ true → IsOpenFor xacts x (stamp_of old)
    → IsReplaced x table.rows.pages later tid new old version → has_id value_id (cells_of table old) ≡ true → has_id value_id (cells_of table version) ≡ false → IsTable number xacts snaps table → AreEnded xacts snaps (holders_of table.rows.schema.storages later value_id) x
dropped_for number xacts snaps table later tid new x old version value_id runs opened replaced had gone is = tells.all_ended xacts snaps (holders_of table.rows.schema.storages table.rows.pages value_id) (holders_of table.rows.schema.storages later value_id) (chunk_stamps table.toast value_id) x tid (stamp_of old) runs opened (replaced_ends (holds_id table value_id) x table.rows.pages later tid new old version replaced had gone) (is.held value_id)

-- ---- fewer versions

fewer_rows : (number : ℕ) (xacts : Xacts) (snaps : Snaps) (table : Table) (later : Pages) (entries : List KeyEntry) → ((tid : Tid) (version : Version) → item_in later tid ≡ Some version → item_in table.rows.pages tid ≡ Some version) → AreOne xacts snaps later
    → IsTable number xacts snaps table → IsTable number xacts snaps (with_rows table later entries)
fewer_rows number xacts snaps table later entries was one is = record {
  relation = is.relation;
  tuples = λ tid version at. is.tuples tid version (was tid version at);
  whole = λ tid version pointer at. is.whole tid version pointer (was tid version at);
  one = one;
  held = λ value_id. held_steps.pruned xacts snaps (holders_of table.rows.schema.storages table.rows.pages value_id) (holders_of table.rows.schema.storages later value_id) (chunk_stamps table.toast value_id) (chunk_stamps table.toast value_id) (fewer_part (holds_id table value_id) table.rows.pages later was) (among_itself (chunk_stamps table.toast value_id)) (is.held value_id);
  sound = λ tid version at. is.sound tid version (was tid version at);
  given = record { inserter = λ tid version at. is.given.inserter tid version (was tid version at); ender = λ tid version e at. is.given.ender tid version e (was tid version at) };
  assigned = is.assigned;
}

pub table_pruned : (number : ℕ) (xacts : Xacts) (snaps : Snaps) (table : Table) (bound : ℕ) (later : Pages) (entries : List KeyEntry) → IsRegistryOf xacts snaps → bound ≤ horizon xacts snaps → TakesDead xacts bound table.rows.pages later
    → IsTable number xacts snaps table → IsTable number xacts snaps (with_rows table later entries)
table_pruned number xacts snaps table bound later entries registry le takes is = fewer_rows number xacts snaps table later entries takes.left (are_one_taken xacts snaps bound table.rows.pages later registry le takes is.one) is

pub table_unchanged : (number : ℕ) (xacts : Xacts) (snaps : Snaps) (table : Table) (later : Pages) (entries : List KeyEntry) → SameVersions table.rows.pages later
    → IsTable number xacts snaps table → IsTable number xacts snaps (with_rows table later entries)
table_unchanged number xacts snaps table later entries same is = fewer_rows number xacts snaps table later entries (λ tid version at. sym (same.each tid) ∙ at) (are_one_unchanged xacts snaps table.rows.pages later same is.one) is
