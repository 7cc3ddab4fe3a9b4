-- The facts of a table through each change of its versions.
use Rattle.std.proofs.Common.{ℕ, ℤ, ◌≡◌, ◌⊎◌, inl, inr, true, List, [], Some, None, Contains, sym, ap, subst, ◌∙◌}
use Rattle.std.proofs.lemmas.Option.{none-some, same_Some}
use Rattle.list_facts.proofs.Members.{none_in_nil}
use Rattle.slot_page.specs.declared.line.Tid.{Tid}
use Rattle.slot_page.specs.Pages.{item_in}
use Rattle.external_pointer.specs.declared.external.Pointer.{Pointer}
use Rattle.xact_status.specs.Xacts.{Xacts, IsAssigned, is_running}
use Rattle.xact_status.proofs.Places.{assigned_from_running}
use Rattle.snapshot_registry.specs.Snapshots.{Snaps, is_protected}
use Rattle.row_versions.specs.declared.keys.KeyEntry.{KeyEntry}
use Rattle.row_versions.specs.declared.version.Version.{Version}
use Rattle.row_versions.specs.Relations.{Pages}
use Rattle.toast_store.specs.Values.{Whole}
use Rattle.xact_status.specs.declared.Stamp.{Stamp}
use Rattle.value_holders.specs.Stamps.{IsSoundStamp, IsOpenFor}
use Rattle.value_holders.specs.Holders.{IsHeld, AreAmong}
use Rattle.value_holders.proofs.VersionSteps.{open_is_protected, open_is_own}
use Rattle.table_rows.specs.Worlds.{AreOne}
use Rattle.table_rows.specs.Steps.{stamp_of, AreGiven, IsPut, IsEnded, IsReplaced, TakesDead, SameVersions}
use Rattle.table_rows.specs.Steps as steps
use Rattle.table_state.specs.declared.table.Table.{Table}
use Rattle.table_state.specs.Cells.{cells_in}
use Rattle.toast_store.specs.Values.{value_in}
use Rattle.table_state.specs.Rows.{pointers_in, has_id}
use Rattle.table_state.specs.Holders.{holders_of, chunk_stamps}
use Rattle.table_state.specs.Tables.{IsRowTuple, IsTable, toast_rel_of}
use Rattle.table_state.specs.Events.{with_rows, IsSavedFor, IsRowFor}
use Rattle.table_state.proofs.Ids.{id_in}

-- ---- each version that is there after

-- what a version step asks of the version that it puts
pub record IsNewVersion (number : ℕ) (table : Table) (xid : ℕ) (version : Version) : Type 0 where
  pub put_by : version.inserter ≡ xid
  pub unended : version.ender ≡ None
  pub tuple : IsRowTuple (toast_rel_of number) table.rows.schema.storages version.key version.tuple
  pub whole : (pointer : Pointer) → Contains (pointers_in (cells_in table.rows.schema.storages version.tuple)) pointer → Whole table.toast pointer (value_in table.toast pointer)

-- it was there, or is the new one, or was there and is ended
pub data Came (number : ℕ) (xacts : Xacts) (table : Table) (xid : ℕ) (tid : Tid) (now : Version) : Type 0 where
  WasThere : item_in table.rows.pages tid ≡ Some now → Came number xacts table xid tid now
  IsNew : IsNewVersion number table xid now → Came number xacts table xid tid now
  WasEnded : (old : Version) → item_in table.rows.pages tid ≡ Some old → IsOpenFor xacts xid (stamp_of old) → now ≡ steps.ended_by xid old → Came number xacts table xid tid now

-- each fact of single versions follows, and the others are given
pub keeps_rows : (number : ℕ) (xacts : Xacts) (snaps : Snaps) (table : Table) (later : Pages) (entries : List KeyEntry) (xid : ℕ) → is_running xacts xid ≡ true
    → ((tid : Tid) (now : Version) → item_in later tid ≡ Some now → Came number xacts table xid tid now)
    → AreOne xacts snaps later → ((value_id : ℕ) → IsHeld xacts snaps (holders_of table.rows.schema.storages later value_id) (chunk_stamps table.toast value_id))
    → IsTable number xacts snaps table → IsTable number xacts snaps (with_rows table later entries)
keeps_rows number xacts snaps table later entries xid runs came one held is = record {
  relation = is.relation;
  tuples = λ tid now at. tuple tid now (came tid now at);
  whole = λ tid now pointer at protected has. whole tid now pointer protected has (came tid now at);
  one = one;
  held = held;
  sound = λ tid now at. sound tid now (came tid now at);
  given = record {
    inserter = λ tid now at. (sound tid now (came tid now at)).given;
    ender = λ tid now e at names. ender tid now e names (came tid now at);
  };
  assigned = is.assigned;
}
  where
    tuple : (tid : Tid) (now : Version) → Came number xacts table xid tid now → IsRowTuple (toast_rel_of number) table.rows.schema.storages now.key now.tuple
    tuple tid now (WasThere at) = is.tuples tid now at
    tuple tid now (IsNew new) = new.tuple
    tuple tid now (WasEnded old at opened e) = subst (λ (v : Version). IsRowTuple (toast_rel_of number) table.rows.schema.storages v.key v.tuple) (sym e) (is.tuples tid old at)

    whole : (tid : Tid) (now : Version) (pointer : Pointer) → is_protected xacts snaps now.inserter now.ender ≡ true → Contains (pointers_in (cells_in table.rows.schema.storages now.tuple)) pointer → Came number xacts table xid tid now → Whole table.toast pointer (value_in table.toast pointer)
    whole tid now pointer protected has (WasThere at) = is.whole tid now pointer at protected has
    whole tid now pointer protected has (IsNew new) = new.whole pointer has
    whole tid now pointer protected has (WasEnded old at opened e) = is.whole tid old pointer at (open_is_protected xacts snaps xid (stamp_of old) runs opened) (subst (λ (v : Version). Contains (pointers_in (cells_in table.rows.schema.storages v.tuple)) pointer) e has)

    new_sound : (now : Version) → now.inserter ≡ xid → now.ender ≡ None → IsSoundStamp xacts (stamp_of now)
    new_sound now by none = record {
      given = subst (λ x. IsAssigned xacts x) (sym by) (assigned_from_running xacts xid runs);
      own_end = λ e still names. absurd (none-some e (sym none ∙ names));
    }

    ended_sound : (old : Version) → IsSoundStamp xacts (stamp_of old) → IsOpenFor xacts xid (stamp_of old) → IsSoundStamp xacts (stamp_of (steps.ended_by xid old))
    ended_sound old was opened = record {
      given = was.given;
      own_end = λ e still names. sym (same_Some _ _ names) ∙ open_is_own xacts xid (stamp_of old) opened still;
    }

    sound : (tid : Tid) (now : Version) → Came number xacts table xid tid now → IsSoundStamp xacts (stamp_of now)
    sound tid now (WasThere at) = is.sound tid now at
    sound tid now (IsNew new) = new_sound now new.put_by new.unended
    sound tid now (WasEnded old at opened e) = subst (λ (v : Version). IsSoundStamp xacts (stamp_of v)) (sym e) (ended_sound old (is.sound tid old at) opened)

    ender : (tid : Tid) (now : Version) (e : ℕ) → now.ender ≡ Some e → Came number xacts table xid tid now → IsAssigned xacts e
    ender tid now e names (WasThere at) = is.given.ender tid now e at names
    ender tid now e names (IsNew new) = absurd (none-some e (sym new.unended ∙ names))
    ender tid now e names (WasEnded old at opened was) = subst (λ x. IsAssigned xacts x) (same_Some _ _ (sym (ap (λ (v : Version). v.ender) was) ∙ names)) (assigned_from_running xacts xid runs)

-- ---- the version that is put

-- a value that the new tuple has was saved for it, or is kept
pub saved_id : (number : ℕ) (xacts : Xacts) (snaps : Snaps) (table : Table) (xid : ℕ) (key : ℤ) (tuple : List ℕ) (kept : List Pointer) (value_id : ℕ) → IsRowFor number xacts snaps table xid key tuple kept → has_id value_id (cells_in table.rows.schema.storages tuple) ≡ true
    → ((pointer : Pointer) × (pointer.value_id ≡ value_id) × IsSavedFor xacts snaps table xid pointer) ⊎ ((pointer : Pointer) × (pointer.value_id ≡ value_id) × Contains kept pointer)
saved_id number xacts snaps table xid key tuple kept value_id row has =
    let found = id_in value_id (cells_in table.rows.schema.storages tuple) has in
    elim (row.values found.0 found.2) [
      | inl saved ↦ inl (found.0, found.1, saved)
      | inr keeps ↦ inr (found.0, found.1, keeps)
    ]

-- nothing is kept by an insert
pub not_kept : (pointer : Pointer) → Contains [] pointer → ⊥
not_kept pointer held = none_in_nil pointer held

pub among_itself : (chunks : List Stamp) → AreAmong chunks chunks
among_itself chunks = record { each = λ chunk held. held }
