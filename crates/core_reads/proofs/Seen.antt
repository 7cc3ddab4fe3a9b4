-- A row that a session's reads find: its values are kept by a snapshot that the session uses, and are whole.
use Rattle.std.proofs.Common.{ap, refl, subst, sym, ◌∙◌}
use Rattle.std.specs.Option.{option_map, option_map_or}
use Rattle.std.specs.Prelude.{Bool, Contains, List, None, Option, Some, [], false, not, slice_index_or, true, ℕ, ℤ, ◌&&◌, ◌∷◌, ◌≡◌}
use Rattle.list_facts.proofs.Members.{none_in_nil}
use Rattle.external_pointer.specs.declared.external.Pointer.{Pointer}
use Rattle.tuple_layout.specs.declared.cell.Cell.{Cell}
use Rattle.tuple_layout.specs.declared.cell.Cell.TheVariants.{Inline, Null, Out}
use Rattle.tuple_layout.specs.declared.cell.Stored.{Stored}
use Rattle.slot_page.specs.Pages.{item_in}
use Rattle.slot_page.specs.declared.line.Tid.{Tid}
use Rattle.xact_status.specs.Versions.{counts_for, is_there}
use Rattle.xact_status.specs.Xacts.{Xacts}
use Rattle.snapshot_registry.specs.Snapshots.{Snaps, held_at, snapshot_now, takes_effect}
use Rattle.snapshot_registry.specs.declared.Held.{Held}
use Rattle.snapshot_registry.specs.declared.Snapshot.{Snapshot}
use Rattle.row_versions.specs.declared.version.Version.{Version}
use Rattle.value_holders.specs.Stamps.{Runs}
use Rattle.table_state.specs.Rows.{pointers_in}
use Rattle.table_state.specs.Tables.{IsTable, cells_of}
use Rattle.table_state.specs.declared.table.Table.{Table}
use Rattle.write_steps.specs.declared.stage.OldRow.{OldRow}
use Rattle.core_state.proofs.Lists.{only_one}
use Rattle.core_state.specs.Facts.{KeepsId, KeepsPointer, ids_in}
use Rattle.core_state.specs.State.{snapshot_of, xid_of}
use Rattle.core_state.specs.Views.{counts_under, found_row, in_view, registered}
use Rattle.core_state.specs.declared.seat.State.{State}
use Rattle.core_looks.proofs.Found.{found_is}
use Rattle.core_looks.proofs.Uses.{effect_now}
use Rattle.core_reads.proofs.Replies.{AreWhole, pointer_of_column}
use Rattle.core_reads.proofs.There.{keeps_ids, there_seen, whole_seen}

-- a version that has the pointers of these cells is seen by one of these snapshots, for a session with this xid
pub record SeenBy (xacts : Xacts) (snaps : Snaps) (table : Table) (uses : List ℕ) (own : Option ℕ) (cells : List Cell) : Type 0 where
  pub tid : Tid
  pub version : Version
  pub there : item_in table.rows.pages tid ≡ Some version
  pub among : (pointer : Pointer) → Contains (pointers_in cells) pointer → Contains (pointers_in (cells_of table version)) pointer
  pub id : ℕ
  pub held : Held
  pub used : Contains uses id
  pub at : held_at snaps id ≡ Some held
  pub seen : is_there (takes_effect xacts held.snapshot own) version.inserter version.ender ≡ true

-- so its values are kept and whole
pub seen_kept : (xacts : Xacts) (snaps : Snaps) (table : Table) (uses : List ℕ) (own : Option ℕ) (cells : List Cell) → SeenBy xacts snaps table uses own cells → (value_id : ℕ) → Contains (ids_in cells) value_id
    → KeepsId xacts snaps table uses own value_id
seen_kept xacts snaps table uses own cells its value_id e =
    keeps_ids xacts snaps table uses own its.tid its.version cells its.there its.among (there_seen xacts snaps uses own its.id its.held its.version its.used its.at its.seen) value_id e

pub seen_pointer : (xacts : Xacts) (snaps : Snaps) (table : Table) (uses : List ℕ) (own : Option ℕ) (cells : List Cell) (pointer : Pointer) → SeenBy xacts snaps table uses own cells → Contains (pointers_in cells) pointer
    → KeepsPointer xacts snaps table uses own pointer
seen_pointer xacts snaps table uses own cells pointer its e =
    record { tid = its.tid; version = its.version; there = its.there; holds = its.among pointer e; seen = there_seen xacts snaps uses own its.id its.held its.version its.used its.at its.seen }

pub seen_whole : (number : ℕ) (xacts : Xacts) (snaps : Snaps) (table : Table) (uses : List ℕ) (own : Option ℕ) (cells : List Cell) → IsTable number xacts snaps table → Runs xacts own → SeenBy xacts snaps table uses own cells → AreWhole table.toast cells
seen_whole number xacts snaps table uses own cells is runs its = whole_seen number xacts snaps table own its.id its.held its.tid its.version cells is runs its.there its.among its.at its.seen

-- ---- one column of a row

column_among : (cells : List Cell) (at : ℕ) (cell : Cell) (pointer : Pointer) → slice_index_or cells at Null ≡ cell → Contains (pointers_in (cell ∷ [])) pointer → Contains (pointers_in cells) pointer
column_among cells at Null pointer is e = absurd (none_in_nil pointer e)
column_among cells at (Inline value) pointer is e = absurd (none_in_nil pointer e)
column_among cells at (Out other) pointer is e = subst (λ (p : Pointer). Contains (pointers_in cells) p) (only_one other pointer e) (pointer_of_column cells at other is)

pub seen_column : (xacts : Xacts) (snaps : Snaps) (table : Table) (uses : List ℕ) (own : Option ℕ) (cells : List Cell) (at : ℕ) → SeenBy xacts snaps table uses own cells → SeenBy xacts snaps table uses own (slice_index_or cells at Null ∷ [])
seen_column xacts snaps table uses own cells at its = record {
  tid = its.tid;
  version = its.version;
  there = its.there;
  among = λ pointer e. its.among pointer (column_among cells at (slice_index_or cells at Null) pointer refl e);
  id = its.id;
  held = its.held;
  used = its.used;
  at = its.at;
  seen = its.seen;
}

-- ---- a row that was found

cells_same : (table : Table) (stored : Stored) (version : Version) (pointer : Pointer) → stored.cells ≡ cells_of table version → Contains (pointers_in stored.cells) pointer → Contains (pointers_in (cells_of table version)) pointer
cells_same table stored version pointer same e = subst (λ (cells : List Cell). Contains (pointers_in cells) pointer) same e

-- by the transaction's own snapshot
pub seen_by_own : (xacts : Xacts) (snaps : Snaps) (table : Table) (state : State) (uses : List ℕ) (key : ℤ) (old : OldRow) (id : ℕ) (held : Held) → snapshot_of state ≡ Some id → held_at snaps id ≡ Some held → Contains uses id
    → found_row table (in_view xacts snaps state) key ≡ Some old → SeenBy xacts snaps table uses (xid_of state) old.stored.cells
seen_by_own xacts snaps table state uses key old id held mine at used found =
    let its = found_is (in_view xacts snaps state) table key old found in
    let shown : registered snaps (snapshot_of state) ≡ Some held.snapshot = ap (registered snaps) mine ∙ ap (option_map (λ (h : Held). h.snapshot)) at in
    let counted : is_there (takes_effect xacts held.snapshot (xid_of state)) its.version.inserter its.version.ender ≡ true = ap (λ (o : Option Snapshot). is_there (counts_under xacts o (xid_of state)) its.version.inserter its.version.ender) (sym shown) ∙ its.counted in
    record {
      tid = old.tid;
      version = its.version;
      there = its.there;
      among = λ pointer e. cells_same table old.stored its.version pointer (ap (λ (stored : Stored). stored.cells) its.stored) e;
      id = id;
      held = held;
      used = used;
      at = at;
      seen = counted;
    }

-- what counts now counts by a snapshot of now
there_now : (xacts : Xacts) (own : Option ℕ) (inserter : ℕ) (ender : Option ℕ) → is_there (takes_effect xacts (snapshot_now xacts) own) inserter ender ≡ is_there (counts_for xacts own) inserter ender
there_now xacts own inserter ender = ap (λ (b : Bool). b && not (option_map_or (takes_effect xacts (snapshot_now xacts) own) ender false)) (effect_now xacts own inserter) ∙ ap (λ (b : Bool). counts_for xacts own inserter && not b) (by ender)
  where
    by : (o : Option ℕ) → option_map_or (takes_effect xacts (snapshot_now xacts) own) o false ≡ option_map_or (counts_for xacts own) o false
    by None = refl
    by (Some x) = effect_now xacts own x

-- without one, by a snapshot of now
pub seen_by_new : (xacts : Xacts) (snaps later : Snaps) (table : Table) (state : State) (uses : List ℕ) (key : ℤ) (old : OldRow) (id : ℕ) (held : Held) → snapshot_of state ≡ None → held_at later id ≡ Some held → held.snapshot ≡ snapshot_now xacts → Contains uses id
    → found_row table (in_view xacts snaps state) key ≡ Some old → SeenBy xacts later table uses (xid_of state) old.stored.cells
seen_by_new xacts snaps later table state uses key old id held none at now used found =
    let its = found_is (in_view xacts snaps state) table key old found in
    let counted : is_there (counts_for xacts (xid_of state)) its.version.inserter its.version.ender ≡ true = ap (λ (o : Option ℕ). is_there (counts_under xacts (registered snaps o) (xid_of state)) its.version.inserter its.version.ender) (sym none) ∙ its.counted in
    let shown : is_there (takes_effect xacts held.snapshot (xid_of state)) its.version.inserter its.version.ender ≡ true =
    ap (λ (snapshot : Snapshot). is_there (takes_effect xacts snapshot (xid_of state)) its.version.inserter its.version.ender) now ∙ there_now xacts (xid_of state) its.version.inserter its.version.ender ∙ counted in
    record {
      tid = old.tid;
      version = its.version;
      there = its.there;
      among = λ pointer e. cells_same table old.stored its.version pointer (ap (λ (stored : Stored). stored.cells) its.stored) e;
      id = id;
      held = held;
      used = used;
      at = at;
      seen = shown;
    }
