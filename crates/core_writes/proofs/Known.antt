-- What is known of each command's write where its reply is granted.
use Rattle.std.proofs.Common.{ap, inl, inr, refl, subst, sym, ◌∙◌}
use Rattle.std.specs.Int.{w64}
use Rattle.std.specs.Int.RustNames.{FitsSigned}
use Rattle.std.specs.List.{IsDistinct}
use Rattle.std.specs.Option.{option_map_or}
use Rattle.std.specs.Ordering.{int_cmp, is_eq}
use Rattle.std.specs.Prelude.{Bool, Contains, List, None, Option, Some, [], false, is_some, length, map, nat_eq, not, true, ℕ, ℤ, ◌&&◌, ◌∷◌, ◌≡◌}
use Rattle.list_facts.proofs.Members.{cases_in, first_in, later_in, none_in_nil}
use Rattle.tuple_layout.specs.Places.{Row}
use Rattle.tuple_layout.specs.Schemas.{TableSchema}
use Rattle.tuple_layout.specs.declared.cell.Stored.{Stored}
use Rattle.slot_page.specs.Pages.{item_in}
use Rattle.slot_page.specs.declared.line.Tid.{Tid}
use Rattle.xact_status.specs.Versions.{counts_for, is_there}
use Rattle.xact_status.specs.Xacts.{is_committed}
use Rattle.snapshot_registry.specs.Snapshots.{committed_in}
use Rattle.snapshot_registry.specs.declared.Snapshot.{Snapshot}
use Rattle.row_versions.specs.declared.version.Version.{Version}
use Rattle.lock_table.specs.Held.{holds_row}
use Rattle.lock_table.specs.Locks.{held_by}
use Rattle.table_rows.proofs.Moments.{world_agreed}
use Rattle.table_rows.proofs.Tests.{other_counts}
use Rattle.table_rows.proofs.Unique.{agree_untouched}
use Rattle.table_rows.proofs.Views.{agree_unwritten}
use Rattle.table_rows.proofs.Worlds.{agree_same, at_version, key_is, of_present, same_key, world_gives_none}
use Rattle.table_rows.specs.Worlds.{Agree, IsVersionAt, tuple_at, tuple_in}
use Rattle.table_state.specs.Tables.{AreCellsOf, toast_rel_of}
use Rattle.write_steps.specs.declared.stage.OldRow.{OldRow}
use Rattle.command_set.specs.declared.Set.{Set}
use Rattle.core_state.specs.Begun.{cell_in_line, cells_with, inserted_row, updated_row}
use Rattle.core_state.specs.Coming.{is_elsewhere}
use Rattle.core_state.specs.Commands.{AreSetsOf, IsRowOf, IsFitting}
use Rattle.core_state.specs.Facts.{IsSound, PartsAreSound, ids_in}
use Rattle.core_state.specs.State.{CoreState, IsSession, IsTableOf, schemas_of, seat_of, snapshot_of, table_at, xid_of}
use Rattle.core_state.specs.Views.{counts_under, in_sight, in_view}
use Rattle.command_set.specs.declared.Command.TheVariants as commands
use Rattle.core_looks.proofs.Before.{schema_is, table_in}
use Rattle.core_looks.proofs.Found.{not_found}
use Rattle.core_looks.proofs.Sizes.{length_cells_set}
use Rattle.core_looks.proofs.Sights.{pages_at, one_shown, table_made, table_sound, untouched}
use Rattle.core_looks.specs.Due.{is_ended_at}
use Rattle.core_looks.specs.Due.{claim_of}
use Rattle.core_writes.proofs.Granted.{IsGranted}
use Rattle.core_writes.proofs.Jobs.{storages_at}
use Rattle.core_writes.proofs.Plans.{CanSave}
use Rattle.core_writes.proofs.Replies.{FindsNone, FindsOld, TellsDelete, TellsInsert, TellsRekey, TellsUpdate}
use Rattle.core_writes.proofs.Rows.{Keeps, inserted_cells, inserted_keeps, length_inserted, limits_of, set_value, updated_cells, updated_keeps}
use Rattle.core_writes.proofs.Views.{IsRowAt, MayClaim, row_found_at, snapshot_at}

-- ---- keys that may be claimed

-- at a key that a session has not claimed it sees what its snapshot shows, and what is there for it is what has committed
agree_view : (c : CoreState) (s t : ℕ) (key : ℤ) (snapshot : Snapshot) → IsSession c.seats s → IsSound c → holds_row (held_by c.locks s).rows (claim_of t key) ≡ false
    → Agree (committed_in c.xacts snapshot) (counts_under c.xacts (Some snapshot) (xid_of (seat_of c s).state)) (pages_at c t) key
agree_view c s t key snapshot there sound free = by (xid_of (seat_of c s).state) refl
  where
    by : (o : Option ℕ) → xid_of (seat_of c s).state ≡ o → Agree (committed_in c.xacts snapshot) (counts_under c.xacts (Some snapshot) o) (pages_at c t) key
    by None mine = agree_same (committed_in c.xacts snapshot) (counts_under c.xacts (Some snapshot) None) (pages_at c t) key (λ z. refl)
    by (Some x) mine = agree_unwritten c.xacts snapshot x (pages_at c t) key (untouched c s t x key there sound mine free)

agree_now : (c : CoreState) (s t : ℕ) (key : ℤ) → IsSession c.seats s → IsSound c → holds_row (held_by c.locks s).rows (claim_of t key) ≡ false
    → Agree (is_committed c.xacts) (counts_for c.xacts (xid_of (seat_of c s).state)) (pages_at c t) key
agree_now c s t key there sound free = by (xid_of (seat_of c s).state) refl
  where
    by : (o : Option ℕ) → xid_of (seat_of c s).state ≡ o → Agree (is_committed c.xacts) (counts_for c.xacts o) (pages_at c t) key
    by None mine = agree_same (is_committed c.xacts) (counts_for c.xacts None) (pages_at c t) key (λ z. refl)
    by (Some x) mine = agree_untouched (is_committed c.xacts) (counts_for c.xacts (Some x)) x (pages_at c t) key (untouched c s t x key there sound mine free) (λ z apart. sym (other_counts x z (is_committed c.xacts z) apart))

-- where the session sees a row that has not changed since
may_old : (c : CoreState) (s t : ℕ) (key : ℤ) → IsSession c.seats s → IsTableOf c.tables t → IsSound c → FindsOld c s t key → MayClaim c s t key
may_old c s t key there table sound finds = record {
  free = finds.free;
  since = λ snapshot taken e. record { tells = λ tid version at shows. since snapshot taken e tid version at shows };
  shown = λ snapshot taken e. inr (finds.old.tid, at.version.tuple, shown snapshot taken e);
}
  where
    at : IsRowAt c t (in_view c.xacts c.snaps (seat_of c s).state) key finds.old
    at = row_found_at c t (in_view c.xacts c.snaps (seat_of c s).state) key finds.old finds.seen

    -- the snapshot shows the row
    shows_it : (snapshot : Snapshot) → snapshot_at c s ≡ Some snapshot → holds_row (held_by c.locks s).rows (claim_of t key) ≡ false → is_there (committed_in c.xacts snapshot) at.version.inserter at.version.ender ≡ true
    shows_it snapshot taken e =
        let seen : is_there (counts_under c.xacts (Some snapshot) (xid_of (seat_of c s).state)) at.version.inserter at.version.ender ≡ true =
        subst (λ (o : Option Snapshot). is_there (counts_under c.xacts o (xid_of (seat_of c s).state)) at.version.inserter at.version.ender ≡ true) taken at.counts in
        (agree_view c s t key snapshot there sound e).on finds.old.tid at.version (record { there = at.there; of_key = at.of_key }) ∙ seen

    shown : (snapshot : Snapshot) → snapshot_at c s ≡ Some snapshot → holds_row (held_by c.locks s).rows (claim_of t key) ≡ false → tuple_at (committed_in c.xacts snapshot) (pages_at c t) key finds.old.tid ≡ Some at.version.tuple
    shown snapshot taken e = at_version (committed_in c.xacts snapshot) (pages_at c t) key finds.old.tid at.version at.there ∙ of_present (committed_in c.xacts snapshot) key at.version at.of_key (shows_it snapshot taken e)

    version_is : (a b : Version) → Some a ≡ Some b → a ≡ b
    version_is a b e = cc

    -- the row has no end that has committed
    off : (a b h : Bool) → (a && (b && not h)) ≡ false → a ≡ true → h ≡ false → b ≡ false
    off true true true e f g = absurd (cc)
    off true true false e f g = absurd (cc)
    off true false h e f g = refl
    off false b h e f g = absurd (cc)

    unended : (snapshot : Snapshot) → snapshot_at c s ≡ Some snapshot → holds_row (held_by c.locks s).rows (claim_of t key) ≡ false → option_map_or (is_committed c.xacts) at.version.ender false ≡ false
    unended snapshot taken e =
        let ended : is_ended_at c.xacts (table_at c.tables t) finds.old.tid ≡ false = off (is_some (snapshot_at c s)) (is_ended_at c.xacts (table_at c.tables t) finds.old.tid) (holds_row (held_by c.locks s).rows (claim_of t key)) finds.same (ap is_some taken) e in
        sym (ap (λ (o : Option Version). option_map_or (λ (version : Version). option_map_or (is_committed c.xacts) version.ender false) o false) at.there) ∙ ended

    since : (snapshot : Snapshot) → snapshot_at c s ≡ Some snapshot → holds_row (held_by c.locks s).rows (claim_of t key) ≡ false → (tid : Tid) (version : Version) → IsVersionAt (pages_at c t) key tid version
        → is_there (committed_in c.xacts snapshot) version.inserter version.ender ≡ true → false ≡ option_map_or (is_committed c.xacts) version.ender false
    since snapshot taken e tid version here shows =
        let one = one_shown c t key (snapshot_of (seat_of c s).state) snapshot table sound taken in
        let its : tuple_at (committed_in c.xacts snapshot) (pages_at c t) key tid ≡ Some version.tuple = at_version (committed_in c.xacts snapshot) (pages_at c t) key tid version here.there ∙ of_present (committed_in c.xacts snapshot) key version here.of_key shows in
        let same : tid ≡ finds.old.tid = one.same tid finds.old.tid version.tuple at.version.tuple its (shown snapshot taken e) in
        let is : version ≡ at.version = version_is version at.version (sym here.there ∙ ap (item_in (pages_at c t)) same ∙ at.there) in
        sym (ap (λ (v : Version). option_map_or (is_committed c.xacts) v.ender false) is ∙ unended snapshot taken e)

-- where nothing is there, now or by the session's snapshot
may_none : (c : CoreState) (s t : ℕ) (key : ℤ) → IsSession c.seats s → IsTableOf c.tables t → IsSound c → PartsAreSound c → FindsNone c s t key → MayClaim c s t key
may_none c s t key there table sound parts finds = record {
  free = finds.free;
  since = λ snapshot taken e. record { tells = λ tid version at shows. absurd (since snapshot taken e tid version at shows) };
  shown = λ snapshot taken e. inl (world_agreed (is_committed c.xacts) (counts_for c.xacts (xid_of (seat_of c s).state)) (pages_at c t) key (agree_now c s t key there sound e) ∙ now);
}
  where
    now : tuple_in (in_sight c.xacts (seat_of c s).state) (pages_at c t) key ≡ None
    now = not_found (in_sight c.xacts (seat_of c s).state) (table_at c.tables t) key (table_made c t table parts).rows finds.now

    seen : tuple_in (in_view c.xacts c.snaps (seat_of c s).state) (pages_at c t) key ≡ None
    seen = not_found (in_view c.xacts c.snaps (seat_of c s).state) (table_at c.tables t) key (table_made c t table parts).rows finds.seen

    some_none : (a : List ℕ) → Some a ≡ None → ⊥
    some_none a e = absurd (cc)

    since : (snapshot : Snapshot) → snapshot_at c s ≡ Some snapshot → holds_row (held_by c.locks s).rows (claim_of t key) ≡ false → (tid : Tid) (version : Version) → IsVersionAt (pages_at c t) key tid version
        → is_there (committed_in c.xacts snapshot) version.inserter version.ender ≡ true → ⊥
    since snapshot taken e tid version at shows =
        let view : tuple_in (counts_under c.xacts (Some snapshot) (xid_of (seat_of c s).state)) (pages_at c t) key ≡ None = subst (λ (o : Option Snapshot). tuple_in (counts_under c.xacts o (xid_of (seat_of c s).state)) (pages_at c t) key ≡ None) taken seen in
        let none = world_agreed (committed_in c.xacts snapshot) (counts_under c.xacts (Some snapshot) (xid_of (seat_of c s).state)) (pages_at c t) key (agree_view c s t key snapshot there sound e) ∙ view in
        let its : tuple_at (committed_in c.xacts snapshot) (pages_at c t) key tid ≡ Some version.tuple = at_version (committed_in c.xacts snapshot) (pages_at c t) key tid version at.there ∙ of_present (committed_in c.xacts snapshot) key version at.of_key shows in
        some_none version.tuple (sym its ∙ world_gives_none (committed_in c.xacts snapshot) (pages_at c t) key none tid)

-- ---- the old row

-- what an old row's tuple tells of it
pub record IsOldOf (c : CoreState) (t : ℕ) (found : ℤ) (old : OldRow) : Type 0 where
  pub one_each : length old.stored.cells ≡ length (storages_at c t)
  pub key : FitsSigned w64 old.stored.key
  pub cells : AreCellsOf (toast_rel_of t) (storages_at c t) old.stored.cells
  pub distinct : IsDistinct nat_eq (ids_in old.stored.cells)
  pub at_key : old.stored.key ≡ found

pub old_is : (c : CoreState) (t : ℕ) (counts : ℕ → Bool) (key : ℤ) (old : OldRow) → IsTableOf c.tables t → IsSound c → IsRowAt c t counts key old → IsOldOf c t key old
old_is c t counts key old table sound at =
    let tuple = (table_sound c t table sound).tuples old.tid at.version at.there in
    let has = tuple.stored.has in
    record {
      one_each = subst (λ (stored : Stored). length stored.cells ≡ length (storages_at c t)) (sym at.stored) has.one_each;
      key = subst (λ (stored : Stored). FitsSigned w64 stored.key) (sym at.stored) has.key;
      cells = subst (λ (stored : Stored). AreCellsOf (toast_rel_of t) (storages_at c t) stored.cells) (sym at.stored) tuple.cells;
      distinct = subst (λ (stored : Stored). IsDistinct nat_eq (ids_in stored.cells)) (sym at.stored) tuple.distinct;
      at_key = ap (λ (stored : Stored). stored.key) at.stored ∙ key_is at.version.key key at.of_key;
    }

-- the row that the session sees at a key, at its own key
row_at_own : (c : CoreState) (t : ℕ) (counts : ℕ → Bool) (key : ℤ) (old : OldRow) → old.stored.key ≡ key → IsRowAt c t counts key old → IsRowAt c t counts old.stored.key old
row_at_own c t counts key old is at = subst (λ (k : ℤ). IsRowAt c t counts k old) (sym is) at

-- ---- the commands

old_row_is : (a b : OldRow) → Some a ≡ Some b → a ≡ b
old_row_is a b e = cc

stored_row_is : (a b : Stored) → Some a ≡ Some b → a ≡ b
stored_row_is a b e = cc

none_distinct : IsDistinct nat_eq []
unfolding IsDistinct
none_distinct = tt

in_one : (key k : ℤ) → Contains (key ∷ []) k → key ≡ k
in_one key k e = elim (cases_in key [] k e) [
  | inl is ↦ is
  | inr none ↦ absurd (none_in_nil k none)
]

-- the row of an insert
pub inserted_can : (c : CoreState) (t : ℕ) (row : Row) → IsRowOf (schemas_of c.tables) t row → (length (map cell_in_line row) ≡ length (storages_at c t)) × AreCellsOf (toast_rel_of t) (storages_at c t) (map cell_in_line row)
inserted_can c t row is = (
  length_inserted row ∙ is.one_each ∙ ap (λ (schema : TableSchema). length schema.storages) (schema_is c t (table_in c t is.of_table)),
  inserted_cells (toast_rel_of t) (storages_at c t) row is.values,
)

pub granted_insert : (c : CoreState) (s t : ℕ) (key : ℤ) (row : Row) → IsSession c.seats s → IsSound c → PartsAreSound c → IsFitting (schemas_of c.tables) (commands.Insert t key row) → TellsInsert c s t key row
    → IsGranted c s t (key ∷ []) None (Some (inserted_row key row))
granted_insert c s t key row there sound parts fitting tells = record {
  some = λ e f. absurd (cc);
  may = λ k e. subst (MayClaim c s t) (in_one key k e) (may_none c s t key there table sound parts tells.none);
  its = λ k e. e;
  row = λ was e. absurd (cc);
  alone = λ stored e f. subst (λ (r : Stored). tuple_in (in_sight c.xacts (seat_of c s).state) (pages_at c t) r.key ≡ None) (stored_row_is (inserted_row key row) stored e) now;
  can = λ stored e. subst (CanSave (storages_at c t)) (stored_row_is (inserted_row key row) stored e) (record { one_each = made.0; limits = limits_of (toast_rel_of t) (storages_at c t) (map cell_in_line row) made.0 made.1; fits = tells.fits });
  key = λ stored e. subst (λ (r : Stored). FitsSigned w64 r.key) (stored_row_is (inserted_row key row) stored e) fitting.1;
  cells = λ stored e. subst (λ (r : Stored). AreCellsOf (toast_rel_of t) (storages_at c t) r.cells) (stored_row_is (inserted_row key row) stored e) made.1;
  keeps = λ stored e. subst (λ (r : Stored). Keeps [] r.cells) (stored_row_is (inserted_row key row) stored e) (inserted_keeps row);
  distinct = none_distinct;
}
  where
    table : IsTableOf c.tables t
    table = table_in c t fitting.0.of_table

    now : tuple_in (in_sight c.xacts (seat_of c s).state) (pages_at c t) key ≡ None
    now = not_found (in_sight c.xacts (seat_of c s).state) (table_at c.tables t) key (table_made c t table parts).rows tells.none.now

    made : (length (map cell_in_line row) ≡ length (storages_at c t)) × AreCellsOf (toast_rel_of t) (storages_at c t) (map cell_in_line row)
    made = inserted_can c t row fitting.0

-- a row with columns set
pub updated_can : (c : CoreState) (t : ℕ) (key : ℤ) (old : OldRow) (sets : List Set) → AreSetsOf (schemas_of c.tables) t sets → IsOldOf c t key old
    → (length (cells_with old.stored.cells sets) ≡ length (storages_at c t)) × AreCellsOf (toast_rel_of t) (storages_at c t) (cells_with old.stored.cells sets)
updated_can c t key old sets are is = (
  length_cells_set sets old.stored.cells ∙ is.one_each,
  updated_cells (toast_rel_of t) (storages_at c t) 1 old.stored.cells sets (λ n value e. set_value sets n value are.values e) is.cells,
)

elsewhere_not : (old : OldRow) (key : ℤ) → old.stored.key ≡ key → is_elsewhere (Some old) key ≡ true → ⊥
elsewhere_not old key is e =
    let same : is_eq (int_cmp old.stored.key key) ≡ true = ap (λ (k : ℤ). is_eq (int_cmp k key)) is ∙ same_key key in
    clash (is_eq (int_cmp old.stored.key key)) same e
  where
    clash : (b : Bool) → b ≡ true → not b ≡ true → ⊥
    clash true f g = absurd (cc)
    clash false f g = absurd (cc)

pub granted_update : (c : CoreState) (s t : ℕ) (key : ℤ) (sets : List Set) → IsSession c.seats s → IsSound c → IsFitting (schemas_of c.tables) (commands.Update t key sets) → (tells : TellsUpdate c s t key sets)
    → IsGranted c s t (key ∷ []) (Some tells.finds.old) (Some (updated_row tells.finds.old.stored key sets))
granted_update c s t key sets there sound fitting tells = record {
  some = λ e f. absurd (cc);
  may = λ k e. subst (MayClaim c s t) (in_one key k e) (may_old c s t key there table sound tells.finds);
  its = λ k e. elim (cases_in old.stored.key (key ∷ []) k e) [
    | inl h ↦ first_in key [] k (sym is.at_key ∙ h)
    | inr h ↦ h
  ];
  row = λ was e. subst (λ (r : OldRow). IsRowAt c t (in_view c.xacts c.snaps (seat_of c s).state) r.stored.key r) (old_row_is old was e) (row_at_own c t (in_view c.xacts c.snaps (seat_of c s).state) key old is.at_key at);
  alone = λ stored e f. absurd (elsewhere_not old stored.key (is.at_key ∙ ap (λ (r : Stored). r.key) (stored_row_is (updated_row old.stored key sets) stored e)) f);
  can = λ stored e. subst (CanSave (storages_at c t)) (stored_row_is (updated_row old.stored key sets) stored e) (record { one_each = made.0; limits = limits_of (toast_rel_of t) (storages_at c t) (cells_with old.stored.cells sets) made.0 made.1; fits = tells.fits });
  key = λ stored e. subst (λ (r : Stored). FitsSigned w64 r.key) (stored_row_is (updated_row old.stored key sets) stored e) (subst (λ (k : ℤ). FitsSigned w64 k) is.at_key is.key);
  cells = λ stored e. subst (λ (r : Stored). AreCellsOf (toast_rel_of t) (storages_at c t) r.cells) (stored_row_is (updated_row old.stored key sets) stored e) made.1;
  keeps = λ stored e. subst (λ (r : Stored). Keeps old.stored.cells r.cells) (stored_row_is (updated_row old.stored key sets) stored e) (updated_keeps 1 old.stored.cells sets);
  distinct = is.distinct;
}
  where
    old : OldRow
    old = tells.finds.old

    table : IsTableOf c.tables t
    table = table_in c t fitting.of_table

    at : IsRowAt c t (in_view c.xacts c.snaps (seat_of c s).state) key old
    at = row_found_at c t (in_view c.xacts c.snaps (seat_of c s).state) key old tells.finds.seen

    is : IsOldOf c t key old
    is = old_is c t (in_view c.xacts c.snaps (seat_of c s).state) key old table sound at

    made : (length (cells_with old.stored.cells sets) ≡ length (storages_at c t)) × AreCellsOf (toast_rel_of t) (storages_at c t) (cells_with old.stored.cells sets)
    made = updated_can c t key old sets fitting is

pub granted_delete : (c : CoreState) (s t : ℕ) (key : ℤ) → IsSession c.seats s → IsSound c → IsFitting (schemas_of c.tables) (commands.Delete t key) → (tells : TellsDelete c s t key)
    → IsGranted c s t (key ∷ []) (Some tells.finds.old) None
granted_delete c s t key there sound fitting tells = record {
  some = λ e f. absurd (cc);
  may = λ k e. subst (MayClaim c s t) (in_one key k e) (may_old c s t key there table sound tells.finds);
  its = λ k e. elim (cases_in old.stored.key [] k e) [
    | inl h ↦ first_in key [] k (sym is.at_key ∙ h)
    | inr h ↦ absurd (none_in_nil k h)
  ];
  row = λ was e. subst (λ (r : OldRow). IsRowAt c t (in_view c.xacts c.snaps (seat_of c s).state) r.stored.key r) (old_row_is old was e) (row_at_own c t (in_view c.xacts c.snaps (seat_of c s).state) key old is.at_key at);
  alone = λ stored e f. absurd (cc);
  can = λ stored e. absurd (cc);
  key = λ stored e. absurd (cc);
  cells = λ stored e. absurd (cc);
  keeps = λ stored e. absurd (cc);
  distinct = is.distinct;
}
  where
    old : OldRow
    old = tells.finds.old

    table : IsTableOf c.tables t
    table = table_in c t fitting

    at : IsRowAt c t (in_view c.xacts c.snaps (seat_of c s).state) key old
    at = row_found_at c t (in_view c.xacts c.snaps (seat_of c s).state) key old tells.finds.seen

    is : IsOldOf c t key old
    is = old_is c t (in_view c.xacts c.snaps (seat_of c s).state) key old table sound at

pub granted_rekey : (c : CoreState) (s t : ℕ) (from to : ℤ) (sets : List Set) → IsSession c.seats s → IsSound c → PartsAreSound c → IsFitting (schemas_of c.tables) (commands.Rekey t from to sets) → (tells : TellsRekey c s t from to sets)
    → IsGranted c s t (from ∷ to ∷ []) (Some tells.finds.old) (Some (updated_row tells.finds.old.stored to sets))
granted_rekey c s t from to sets there sound parts fitting tells = record {
  some = λ e f. absurd (cc);
  may = λ k e. elim (cases_in from (to ∷ []) k e) [
    | inl h ↦ subst (MayClaim c s t) h (may_old c s t from there table sound tells.finds)
    | inr h ↦ subst (MayClaim c s t) (in_one to k h) (may_none c s t to there table sound parts tells.none)
  ];
  its = λ k e. elim (cases_in old.stored.key (to ∷ []) k e) [
    | inl h ↦ first_in from (to ∷ []) k (sym is.at_key ∙ h)
    | inr h ↦ later_in from (to ∷ []) k h
  ];
  row = λ was e. subst (λ (r : OldRow). IsRowAt c t (in_view c.xacts c.snaps (seat_of c s).state) r.stored.key r) (old_row_is old was e) (row_at_own c t (in_view c.xacts c.snaps (seat_of c s).state) from old is.at_key at);
  alone = λ stored e f. subst (λ (r : Stored). tuple_in (in_sight c.xacts (seat_of c s).state) (pages_at c t) r.key ≡ None) (stored_row_is (updated_row old.stored to sets) stored e) now;
  can = λ stored e. subst (CanSave (storages_at c t)) (stored_row_is (updated_row old.stored to sets) stored e) (record { one_each = made.0; limits = limits_of (toast_rel_of t) (storages_at c t) (cells_with old.stored.cells sets) made.0 made.1; fits = tells.fits });
  key = λ stored e. subst (λ (r : Stored). FitsSigned w64 r.key) (stored_row_is (updated_row old.stored to sets) stored e) fitting.1;
  cells = λ stored e. subst (λ (r : Stored). AreCellsOf (toast_rel_of t) (storages_at c t) r.cells) (stored_row_is (updated_row old.stored to sets) stored e) made.1;
  keeps = λ stored e. subst (λ (r : Stored). Keeps old.stored.cells r.cells) (stored_row_is (updated_row old.stored to sets) stored e) (updated_keeps 1 old.stored.cells sets);
  distinct = is.distinct;
}
  where
    old : OldRow
    old = tells.finds.old

    table : IsTableOf c.tables t
    table = table_in c t fitting.0.of_table

    at : IsRowAt c t (in_view c.xacts c.snaps (seat_of c s).state) from old
    at = row_found_at c t (in_view c.xacts c.snaps (seat_of c s).state) from old tells.finds.seen

    is : IsOldOf c t from old
    is = old_is c t (in_view c.xacts c.snaps (seat_of c s).state) from old table sound at

    made : (length (cells_with old.stored.cells sets) ≡ length (storages_at c t)) × AreCellsOf (toast_rel_of t) (storages_at c t) (cells_with old.stored.cells sets)
    made = updated_can c t from old sets fitting.0 is

    now : tuple_in (in_sight c.xacts (seat_of c s).state) (pages_at c t) to ≡ None
    now = not_found (in_sight c.xacts (seat_of c s).state) (table_at c.tables t) to (table_made c t table parts).rows tells.none.now
