-- What one session relies on, of versions that hold a value, through the version steps of others and through later statuses and snapshots.
use Rattle.std.proofs.Common.{ℕ, ℤ, ◌≡◌, Bool, true, false, List, Option, Some, None, refl, sym, ap, ◌∙◌}
use Rattle.slot_page.specs.declared.line.Tid.{Tid}
use Rattle.slot_page.specs.Pages.{item_in}
use Rattle.xact_status.specs.Xacts.{Xacts, after_abort, after_assign, after_commit, is_running}
use Rattle.xact_status.specs.declared.Stamp.{Stamp}
use Rattle.snapshot_registry.specs.Snapshots.{Snaps, after_release, after_share, after_take}
use Rattle.row_versions.specs.declared.keys.KeyEntry.{KeyEntry}
use Rattle.row_versions.specs.declared.version.Version.{Version}
use Rattle.row_versions.specs.Relations.{Pages}
use Rattle.value_holders.specs.Holders.{AreEnded, AreSound, Holders, IsHeld, IsPartOf, Protects}
use Rattle.value_holders.specs.Laws.{VersionStepTells}
use Rattle.value_holders.specs.Stamps.{IsOpenFor}
use Rattle.value_holders.proofs.Later.{IsLater, later_abort, later_assign, later_commit, later_release, later_share, later_take}
use Rattle.value_holders.proofs.VersionSteps.{open_is_protected, version_step_tells}
use Rattle.table_rows.specs.Steps.{IsEnded, IsReplaced, SameVersions, TakesDead, stamp_of}
use Rattle.table_state.specs.declared.table.Table.{Table}
use Rattle.table_state.specs.Cells.{cells_in}
use Rattle.table_state.specs.Events.{IsUnheld, with_rows}
use Rattle.table_state.specs.Holders.{holders_of}
use Rattle.table_state.specs.Rows.{has_id}
use Rattle.table_state.specs.Stays.{EndedStays, HaveEnded, UnheldStays, holds_id}
use Rattle.table_state.specs.Tables.{IsTable}
use Rattle.table_state.proofs.Places.{ended_apart, fewer_part, holder_from, put_apart, replaced_apart}

tells : VersionStepTells Tid
tells = version_step_tells

-- whether a tuple has a pointer with an id
abbrev has_it : Table → ℕ → List ℕ → Bool
has_it table value_id tuple = has_id value_id (cells_in table.rows.schema.storages tuple)

-- ---- with no holder more

fewer_unheld : (xacts : Xacts) (snaps : Snaps) (table : Table) (later : Pages) (entries : List KeyEntry) (value_id : ℕ)
    → IsPartOf (holders_of table.rows.schema.storages table.rows.pages value_id) (holders_of table.rows.schema.storages later value_id) → IsUnheld xacts snaps table value_id → IsUnheld xacts snaps (with_rows table later entries) value_id
fewer_unheld xacts snaps table later entries value_id part unheld = record {
  none = λ tid stamp protects. unheld.none tid stamp (record { there = part.each tid stamp protects.there; protected = protects.protected });
}

fewer_ended : (xacts : Xacts) (snaps : Snaps) (table : Table) (later : Pages) (entries : List KeyEntry) (value_id y : ℕ)
    → IsPartOf (holders_of table.rows.schema.storages table.rows.pages value_id) (holders_of table.rows.schema.storages later value_id) → HaveEnded xacts snaps table value_id y → HaveEnded xacts snaps (with_rows table later entries) value_id y
fewer_ended xacts snaps table later entries value_id y part ended = record {
  each = λ tid stamp protects. ended.each tid stamp (record { there = part.each tid stamp protects.there; protected = protects.protected });
}

-- ---- a version that a transaction may end has not the value

not_unheld : (xacts : Xacts) (snaps : Snaps) (table : Table) (tid : Tid) (x : ℕ) (old : Version) (value_id : ℕ) → is_running xacts x ≡ true → IsOpenFor xacts x (stamp_of old) → item_in table.rows.pages tid ≡ Some old
    → IsUnheld xacts snaps table value_id → (b : Bool) → has_it table value_id old.tuple ≡ b → has_it table value_id old.tuple ≡ false
not_unheld xacts snaps table tid x old value_id runs opened there unheld true has =
    absurd (unheld.none tid (stamp_of old) (record { there = holder_from (has_it table value_id) table.rows.pages tid old there has; protected = open_is_protected xacts snaps x (stamp_of old) runs opened }))
not_unheld xacts snaps table tid x old value_id runs opened there unheld false has = has

not_ended : (xacts : Xacts) (snaps : Snaps) (table : Table) (tid : Tid) (x : ℕ) (old : Version) (value_id y : ℕ) → is_running xacts x ≡ true → is_running xacts y ≡ true → IsOpenFor xacts x (stamp_of old) → item_in table.rows.pages tid ≡ Some old
    → HaveEnded xacts snaps table value_id y → (b : Bool) → has_it table value_id old.tuple ≡ b → has_it table value_id old.tuple ≡ false
not_ended xacts snaps table tid x old value_id y runs its opened there ended true has =
    absurd (tells.closed xacts snaps (holders_of table.rows.schema.storages table.rows.pages value_id) y x tid (stamp_of old) its runs ended (holder_from (has_it table value_id) table.rows.pages tid old there has) opened)
not_ended xacts snaps table tid x old value_id y runs its opened there ended false has = has

-- ---- the law of ids in hand

unheld_later : (number : ℕ) (old new : Xacts) (before after : Snaps) (table : Table) (value_id : ℕ) → IsLater old new before after → IsTable number old before table → IsUnheld old before table value_id → IsUnheld new after table value_id
unheld_later number old new before after table value_id later is unheld = record {
  none = λ tid stamp protects. unheld.none tid stamp (record {
    there = protects.there;
    protected = later.protected stamp.inserter stamp.ender ((AreSound.each (IsHeld.sound (is.held value_id)) tid stamp protects.there).given) protects.protected;
  });
}

pub unheld_stays : UnheldStays
unheld_stays = record {
  put = λ xacts snaps table later entries new version value_id put other. fewer_unheld xacts snaps table later entries value_id (put_apart (has_it table value_id) table.rows.pages later new version put other);
  ended = λ xacts snaps table later entries tid x old value_id runs opened ended unheld.
      fewer_unheld xacts snaps table later entries value_id (ended_apart (has_it table value_id) x table.rows.pages later tid old ended (not_unheld xacts snaps table tid x old value_id runs opened ended.there unheld (has_it table value_id old.tuple) refl)) unheld;
  replaced = λ xacts snaps table later entries tid new x old version value_id runs opened replaced other unheld.
      fewer_unheld xacts snaps table later entries value_id (replaced_apart (has_it table value_id) x table.rows.pages later tid new old version replaced (not_unheld xacts snaps table tid x old value_id runs opened replaced.there unheld (has_it table value_id old.tuple) refl) other) unheld;
  pruned = λ xacts snaps table bound later entries value_id takes. fewer_unheld xacts snaps table later entries value_id (fewer_part (has_it table value_id) table.rows.pages later takes.left);
  freed = λ xacts snaps table later entries value_id same. fewer_unheld xacts snaps table later entries value_id (fewer_part (has_it table value_id) table.rows.pages later (λ tid version at. sym (same.each tid) ∙ at));
  assigned = λ number xacts snaps session table value_id registry. unheld_later number xacts (after_assign xacts session) snaps snaps table value_id (later_assign xacts snaps session registry);
  committed = λ number xacts snaps x table value_id runs registry. unheld_later number xacts (after_commit xacts x) snaps snaps table value_id (later_commit xacts snaps x runs registry);
  aborted = λ number xacts snaps x table value_id runs registry. unheld_later number xacts (after_abort xacts x) snaps snaps table value_id (later_abort xacts snaps x runs registry);
  taken = λ number xacts snaps table value_id. unheld_later number xacts xacts snaps (after_take snaps xacts) table value_id (later_take xacts snaps);
  shared = λ number xacts snaps id table value_id. unheld_later number xacts xacts snaps (after_share snaps id) table value_id (later_share xacts snaps id);
  released = λ number xacts snaps id table value_id. unheld_later number xacts xacts snaps (after_release snaps id) table value_id (later_release xacts snaps id);
}

-- ---- the law of dropped values

pub ended_stays : EndedStays
ended_stays = record {
  put = λ xacts snaps table later entries new version value_id y put other. fewer_ended xacts snaps table later entries value_id y (put_apart (has_it table value_id) table.rows.pages later new version put other);
  ended = λ xacts snaps table later entries tid x old value_id y runs its opened ended dropped.
      fewer_ended xacts snaps table later entries value_id y (ended_apart (has_it table value_id) x table.rows.pages later tid old ended (not_ended xacts snaps table tid x old value_id y runs its opened ended.there dropped (has_it table value_id old.tuple) refl)) dropped;
  replaced = λ xacts snaps table later entries tid new x old version value_id y runs its opened replaced other dropped.
      fewer_ended xacts snaps table later entries value_id y (replaced_apart (has_it table value_id) x table.rows.pages later tid new old version replaced (not_ended xacts snaps table tid x old value_id y runs its opened replaced.there dropped (has_it table value_id old.tuple) refl) other) dropped;
}
