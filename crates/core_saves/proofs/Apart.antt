-- Versions that must be kept, and ids that none of them has.
use Rattle.std.proofs.Common.{Contains, List, None, Some, ap, false, inl, inr, not, refl, subst, sym, true, ℕ, ◌∙◌, ◌≡◌, ◌≢◌}
use Rattle.std.specs.Option.{option_map_or}
use Rattle.std.specs.Prelude.{Option}
use Rattle.external_pointer.specs.declared.external.Pointer.{Pointer}
use Rattle.slot_page.specs.Pages.{item_in}
use Rattle.slot_page.specs.declared.line.Tid.{Tid}
use Rattle.xact_status.proofs.Events.{running_is_uncommitted}
use Rattle.xact_status.specs.Versions.{counts_for}
use Rattle.xact_status.specs.Xacts.{Xacts, is_committed, is_running}
use Rattle.snapshot_registry.proofs.Entries.{snapshot_passes}
use Rattle.snapshot_registry.proofs.Unseen.{not_shown}
use Rattle.snapshot_registry.specs.Snapshots.{Snaps, committed_in, held_at, is_protected, sees, sees_at, takes_effect}
use Rattle.snapshot_registry.specs.declared.Held.{Held}
use Rattle.snapshot_registry.specs.declared.Snapshot.{Snapshot}
use Rattle.value_holders.proofs.Tests.{and_parts, clash, counts_cases, protected_running, protected_seen, protected_unended, test}
use Rattle.value_holders.specs.Holders.{Protects}
use Rattle.value_holders.specs.Stamps.{Runs}
use Rattle.row_versions.specs.declared.version.Version.{Version}
use Rattle.table_rows.specs.Steps.{stamp_of}
use Rattle.table_state.proofs.Ids.{id_from}
use Rattle.table_state.proofs.Places.{holder_from}
use Rattle.table_state.specs.Cells.{cells_in}
use Rattle.table_state.specs.Events.{IsUnheld}
use Rattle.table_state.specs.Holders.{holders_of}
use Rattle.table_state.specs.Rows.{has_id, pointers_in}
use Rattle.table_state.specs.Tables.{cells_of}
use Rattle.table_state.specs.declared.table.Table.{Table}
use Rattle.core_state.specs.Facts.{IsDropping, IsThereFor}

-- ---- what is seen is protected

-- a snapshot under an id, where a reader sees something with it
seeing : (xacts : Xacts) (snaps : Snaps) (id inserter : ℕ) (ender : Option ℕ) → sees_at xacts snaps id inserter ender None ≡ true → (held : Held) × (held_at snaps id ≡ Some held) × (sees xacts held.snapshot inserter ender None ≡ true)
seeing xacts snaps id inserter ender seen = of_held (held_at snaps id) seen
  where
    of_held : (o : Option Held) → option_map_or (λ (held : Held). sees xacts held.snapshot inserter ender None) o false ≡ true → (held : Held) × (o ≡ Some held) × (sees xacts held.snapshot inserter ender None ≡ true)
    of_held None e = absurd (cc)
    of_held (Some held) e = (held, refl, e)

shown_committed : (xacts : Xacts) (snapshot : Snapshot) (xid : ℕ) → committed_in xacts snapshot xid ≡ true → is_committed xacts xid ≡ true
shown_committed xacts snapshot xid shown = elim (test (is_committed xacts xid)) [
  | inl committed ↦ committed
  | inr not_yet ↦ absurd (clash (committed_in xacts snapshot xid) shown (not_shown xacts snapshot xid not_yet))
]

pub seen_protected : (xacts : Xacts) (snaps : Snaps) (id inserter : ℕ) (ender : Option ℕ) → sees_at xacts snaps id inserter ender None ≡ true → is_protected xacts snaps inserter ender ≡ true
seen_protected xacts snaps id inserter ender seen =
    let found = seeing xacts snaps id inserter ender seen in
    let parts = and_parts (committed_in xacts found.0.snapshot inserter) (not (option_map_or (takes_effect xacts found.0.snapshot None) ender false)) found.2 in
    protected_seen xacts snaps inserter ender (shown_committed xacts found.0.snapshot inserter parts.0) (snapshot_passes (λ (s : Snapshot). sees xacts s inserter ender None) snaps id found.0 found.1 found.2)

-- what a session's snapshots see, or its running transaction has inserted, is protected
pub there_protected : (xacts : Xacts) (snaps : Snaps) (uses : List ℕ) (own : Option ℕ) (version : Version) → Runs xacts own → IsThereFor xacts snaps uses own version → is_protected xacts snaps version.inserter version.ender ≡ true
there_protected xacts snaps uses own version runs there = elim there [
  | inl mine ↦ protected_running xacts snaps version.inserter version.ender (subst (λ (o : Option ℕ). Runs xacts o) mine runs)
  | inr seen ↦ seen_protected xacts snaps seen.0 version.inserter version.ender seen.2
]

-- ---- ids that no protected version has

-- a protected version's stamp is among the holders of an id that it has
pub has_protects : (xacts : Xacts) (snaps : Snaps) (table : Table) (tid : Tid) (version : Version) (value_id : ℕ) → item_in table.rows.pages tid ≡ Some version → is_protected xacts snaps version.inserter version.ender ≡ true
    → has_id value_id (cells_of table version) ≡ true → Protects xacts snaps (holders_of table.rows.schema.storages table.rows.pages value_id) tid (stamp_of version)
has_protects xacts snaps table tid version value_id at protected has = record {
  there = holder_from (λ (tuple : List ℕ). has_id value_id (cells_in table.rows.schema.storages tuple)) table.rows.pages tid version at has;
  protected = protected;
}

pub unheld_not : (xacts : Xacts) (snaps : Snaps) (table : Table) (tid : Tid) (version : Version) (value_id : ℕ) → IsUnheld xacts snaps table value_id → item_in table.rows.pages tid ≡ Some version
    → is_protected xacts snaps version.inserter version.ender ≡ true → has_id value_id (cells_of table version) ≡ true → ⊥
unheld_not xacts snaps table tid version value_id unheld at protected has = unheld.none tid (stamp_of version) (has_protects xacts snaps table tid version value_id at protected has)

-- the same by a pointer
pub unheld_pointer : (xacts : Xacts) (snaps : Snaps) (table : Table) (tid : Tid) (version : Version) (value_id : ℕ) (pointer : Pointer) → IsUnheld xacts snaps table value_id → item_in table.rows.pages tid ≡ Some version
    → is_protected xacts snaps version.inserter version.ender ≡ true → Contains (pointers_in (cells_of table version)) pointer → value_id ≢ pointer.value_id
unheld_pointer xacts snaps table tid version value_id pointer unheld at protected has = λ same.
    unheld_not xacts snaps table tid version value_id unheld at protected (id_from value_id (cells_of table version) pointer (sym same) has)

-- ---- values that a transaction drops

-- a version that a running transaction has ended, and that was there for it, is protected
pub dropped_protected : (xacts : Xacts) (snaps : Snaps) (xid : ℕ) (version : Version) → is_running xacts xid ≡ true → counts_for xacts (Some xid) version.inserter ≡ true → version.ender ≡ Some xid
    → is_protected xacts snaps version.inserter version.ender ≡ true
dropped_protected xacts snaps xid version running inserted ended = elim (counts_cases xacts xid version.inserter inserted) [
  | inl same ↦ protected_running xacts snaps version.inserter version.ender (ap (is_running xacts) (sym same) ∙ running)
  | inr committed ↦ protected_unended xacts snaps version.inserter version.ender committed (ap (λ (o : Option ℕ). option_map_or (is_committed xacts) o false) ended ∙ running_is_uncommitted xacts xid running)
]

-- so no id that is unheld is one of a dropped value
pub dropped_apart : (xacts : Xacts) (snaps : Snaps) (table : Table) (xid value_id : ℕ) (pointer : Pointer) → is_running xacts xid ≡ true → IsDropping xacts snaps table xid pointer → IsUnheld xacts snaps table value_id → value_id ≢ pointer.value_id
dropped_apart xacts snaps table xid value_id pointer running dropping unheld =
    unheld_pointer xacts snaps table dropping.tid dropping.version value_id pointer unheld dropping.there (dropped_protected xacts snaps xid dropping.version running dropping.inserted dropping.ended_by) dropping.holds

-- and two running transactions drop no value both
pub dropped_once : (xacts : Xacts) (snaps : Snaps) (table : Table) (xid other : ℕ) (pointer its : Pointer) → is_running xacts xid ≡ true → is_running xacts other ≡ true → xid ≢ other
    → IsDropping xacts snaps table xid pointer → IsDropping xacts snaps table other its → pointer.value_id ≢ its.value_id
dropped_once xacts snaps table xid other pointer its running too differ dropping theirs = λ same.
    let protects = has_protects xacts snaps table dropping.tid dropping.version its.value_id dropping.there (dropped_protected xacts snaps xid dropping.version running dropping.inserted dropping.ended_by) (id_from its.value_id (cells_of table dropping.version) pointer same dropping.holds) in
    let ended : option_map_or (counts_for xacts (Some other)) dropping.version.ender false ≡ true = theirs.ended.each dropping.tid (stamp_of dropping.version) protects in
    let counts : counts_for xacts (Some other) xid ≡ true = sym (ap (λ (o : Option ℕ). option_map_or (counts_for xacts (Some other)) o false) dropping.ended_by) ∙ ended in
    elim (counts_cases xacts other xid counts) [
      | inl e ↦ differ (sym e)
      | inr committed ↦ clash (is_committed xacts xid) committed (running_is_uncommitted xacts xid running)
    ]
