-- The values of a row that a session sees are whole, and stand where values may.
use Rattle.std.proofs.Common.{ap, arith, refl, subst, sym, ◌∙◌}
use Rattle.std.specs.Option.{option_map_or}
use Rattle.std.specs.Prelude.{Contains, List, None, Option, Some, [], false, is_some, length, slice_get, suc, true, zero, ℕ, ℤ, ◌∷◌, ◌≡◌, ◌≤◌}
use Rattle.list_facts.proofs.Members.{first_in, later_in}
use Rattle.external_pointer.specs.declared.external.Pointer.{Pointer}
use Rattle.tuple_layout.specs.Sizes.{least_out}
use Rattle.tuple_layout.specs.declared.Storage.{Storage}
use Rattle.tuple_layout.specs.declared.Storage.TheVariants.{External, Plain}
use Rattle.tuple_layout.specs.declared.cell.Cell.{Cell}
use Rattle.tuple_layout.specs.declared.cell.Cell.TheVariants.{Inline, Null, Out}
use Rattle.tuple_layout.specs.declared.cell.Stored.{Stored}
use Rattle.slot_page.specs.Pages.{item_in}
use Rattle.xact_status.specs.Versions.{is_there}
use Rattle.snapshot_registry.specs.Snapshots.{is_protected, sees_at, takes_effect}
use Rattle.snapshot_registry.specs.declared.Held.{Held}
use Rattle.snapshot_registry.specs.declared.Snapshot.{Snapshot}
use Rattle.value_holders.proofs.Readers.{readers_are_safe}
use Rattle.value_holders.specs.Stamps.{Runs}
use Rattle.row_versions.specs.declared.version.Version.{Version}
use Rattle.toast_store.specs.Values.{Whole, value_in}
use Rattle.table_rows.specs.Steps.{stamp_of}
use Rattle.table_state.specs.Rows.{pointers_in}
use Rattle.table_state.specs.Tables.{AreCellsOf, IsCellOf, cells_of, toast_rel_of}
use Rattle.write_steps.specs.declared.stage.OldRow.{OldRow}
use Rattle.core_state.proofs.Seats.{sound_of}
use Rattle.core_state.specs.Facts.{IsSound}
use Rattle.core_state.specs.State.{CoreState, IsSession, IsTableOf, snapshot_of, table_at, xid_of}
use Rattle.core_state.specs.Views.{counts_under, in_view, registered, row_seen}
use Rattle.core_looks.proofs.Found.{found_is}
use Rattle.core_looks.proofs.Sights.{pages_at, registered_is, state_at, table_sound}
use Rattle.core_looks.proofs.Sizes.{MayStand}

runs_of : (c : CoreState) (s : ℕ) (own : Option ℕ) → IsSession c.seats s → IsSound c → xid_of (state_at c s) ≡ own → Runs c.xacts own
runs_of c s None there sound mine = tt
runs_of c s (Some x) there sound mine = ap is_some ((sound_of c s there sound).runs x mine)

-- what a session sees must be kept
protected_by : (c : CoreState) (s : ℕ) (version : Version) (o : Option Snapshot) → IsSession c.seats s → IsSound c → registered c.snaps (snapshot_of (state_at c s)) ≡ o → is_there (counts_under c.xacts o (xid_of (state_at c s))) version.inserter version.ender ≡ true
    → is_protected c.xacts c.snaps version.inserter version.ender ≡ true
protected_by c s version None there sound shown seen = readers_are_safe.current_is_protected c.xacts c.snaps (xid_of (state_at c s)) (stamp_of version) (runs_of c s (xid_of (state_at c s)) there sound refl) seen
protected_by c s version (Some snapshot) there sound shown seen =
    let its = registered_is c.snaps (snapshot_of (state_at c s)) snapshot shown in
    let sees_it : is_there (takes_effect c.xacts its.held.snapshot (xid_of (state_at c s))) version.inserter version.ender ≡ true = subst (λ (sn : Snapshot). is_there (takes_effect c.xacts sn (xid_of (state_at c s))) version.inserter version.ender ≡ true) (sym its.shows) seen in
    let at : sees_at c.xacts c.snaps its.id version.inserter version.ender (xid_of (state_at c s)) ≡ true = ap (λ (h : Option Held). option_map_or (λ (held : Held). is_there (takes_effect c.xacts held.snapshot (xid_of (state_at c s))) version.inserter version.ender) h false) its.at ∙ sees_it in
    readers_are_safe.seen_is_protected c.xacts c.snaps its.id version.inserter version.ender (xid_of (state_at c s)) (runs_of c s (xid_of (state_at c s)) there sound refl) at

-- a row that a session sees is that of a protected version
pub record IsSeenRow (c : CoreState) (t : ℕ) (old : OldRow) : Type 0 where
  pub version : Version
  pub there : item_in (pages_at c t) old.tid ≡ Some version
  pub kept : is_protected c.xacts c.snaps version.inserter version.ender ≡ true
  pub key : version.key ≡ old.stored.key
  pub cells : cells_of (table_at c.tables t) version ≡ old.stored.cells

pub seen_row_is : (c : CoreState) (s t : ℕ) (key : ℤ) (old : OldRow) → IsSession c.seats s → IsSound c → row_seen c s t key ≡ Some old → IsSeenRow c t old
seen_row_is c s t key old there sound seen =
    let at = found_is (in_view c.xacts c.snaps (state_at c s)) (table_at c.tables t) key old seen in
    record {
      version = at.version;
      there = at.there;
      kept = protected_by c s at.version (registered c.snaps (snapshot_of (state_at c s))) there sound refl at.counted;
      key = ap (λ (stored : Stored). stored.key) (sym at.stored);
      cells = ap (λ (stored : Stored). stored.cells) (sym at.stored);
    }

-- each of its pointers has its value
pub seen_whole : (c : CoreState) (s t : ℕ) (key : ℤ) (old : OldRow) (pointer : Pointer) → IsSession c.seats s → IsTableOf c.tables t → IsSound c → row_seen c s t key ≡ Some old → Contains (pointers_in old.stored.cells) pointer
    → Whole (table_at c.tables t).toast pointer (value_in (table_at c.tables t).toast pointer)
seen_whole c s t key old pointer there of sound seen e =
    let row = seen_row_is c s t key old there sound seen in
    (table_sound c t of sound).whole old.tid row.version pointer row.there row.kept (subst (λ (cells : List Cell). Contains (pointers_in cells) pointer) (sym row.cells) e)

pub pointer_there : (cells : List Cell) (k : ℕ) (pointer : Pointer) → slice_get cells k ≡ Some (Out pointer) → Contains (pointers_in cells) pointer
pointer_there [] k pointer e = absurd (cc)
pointer_there (cell ∷ cells) zero pointer e =
    let same : cell ≡ Out pointer = cc in
    subst (λ (its : Cell). Contains (pointers_in (its ∷ cells)) pointer) (sym same) (first_in pointer (pointers_in cells) pointer refl)
pointer_there (Null ∷ cells) (suc k) pointer e = pointer_there cells k pointer e
pointer_there (Inline value ∷ cells) (suc k) pointer e = pointer_there cells k pointer e
pointer_there (Out other ∷ cells) (suc k) pointer e = later_in other (pointers_in cells) pointer (pointer_there cells k pointer e)

-- a pointer among the cells of a table stands in a column that may go out, and is long enough
cell_may : (rel : ℕ) (storages : List Storage) (cells : List Cell) (k : ℕ) (pointer : Pointer) → length cells ≡ length storages → AreCellsOf rel storages cells → slice_get cells k ≡ Some (Out pointer) → (slice_get storages k ≡ Some External) × (least_out ≤ pointer.size)
cell_may rel storages [] k pointer long are e = absurd (cc)
cell_may rel [] (cell ∷ cells) k pointer long are e = absurd (omega (arith, long))
cell_may rel (storage ∷ storages) (cell ∷ cells) zero pointer long are e = by storage cell are.0 (cc)
  where
    by : (its : Storage) (x : Cell) → IsCellOf rel its x → x ≡ Out pointer → (Some its ≡ Some External) × (least_out ≤ pointer.size)
    by Plain Null is f = absurd (cc)
    by External Null is f = absurd (cc)
    by Plain (Inline value) is f = absurd (cc)
    by External (Inline value) is f = absurd (cc)
    by Plain (Out other) is f = absurd is
    by External (Out other) is f =
        let same : other ≡ pointer = cc in
        (refl, subst (λ (p : Pointer). least_out ≤ p.size) same is.1)
cell_may rel (storage ∷ storages) (cell ∷ cells) (suc k) pointer long are e = cell_may rel storages cells k pointer (omega (arith, long)) are.1 e

pub seen_long : (c : CoreState) (s t : ℕ) (key : ℤ) (old : OldRow) → IsSession c.seats s → IsTableOf c.tables t → IsSound c → row_seen c s t key ≡ Some old → length old.stored.cells ≡ length (table_at c.tables t).rows.schema.storages
seen_long c s t key old there of sound seen =
    let row = seen_row_is c s t key old there sound seen in
    let tuple = (table_sound c t of sound).tuples old.tid row.version row.there in
    sym (ap (λ (cells : List Cell). length cells) row.cells) ∙ tuple.stored.has.one_each

pub seen_may : (c : CoreState) (s t : ℕ) (key : ℤ) (old : OldRow) → IsSession c.seats s → IsTableOf c.tables t → IsSound c → row_seen c s t key ≡ Some old → MayStand (table_at c.tables t).rows.schema.storages (table_at c.tables t).toast old.stored.cells
seen_may c s t key old there of sound seen k pointer e =
    let row = seen_row_is c s t key old there sound seen in
    let tuple = (table_sound c t of sound).tuples old.tid row.version row.there in
    let are : AreCellsOf (toast_rel_of t) (table_at c.tables t).rows.schema.storages old.stored.cells = subst (λ (cells : List Cell). AreCellsOf (toast_rel_of t) (table_at c.tables t).rows.schema.storages cells) row.cells tuple.cells in
    let may = cell_may (toast_rel_of t) (table_at c.tables t).rows.schema.storages old.stored.cells k pointer (seen_long c s t key old there of sound seen) are e in
    let size = (seen_whole c s t key old pointer there of sound seen (pointer_there old.stored.cells k pointer e)).size in
    let least = may.1 in
    (may.0, omega (arith, size, least))
