-- What a table's look-up finds for a session is the row that the core has there for it.
use Rattle.std.proofs.Common.{ap, refl, subst, sym, ◌∙◌}
use Rattle.std.specs.Option.{option_map, option_map_or}
use Rattle.std.specs.Prelude.{Bool, Err, IfOk, None, Ok, Option, Result, Some, false, is_some, true, ℕ, ℤ, ◌-◌, ◌≡◌}
use Rattle.slot_page.specs.Pages.{item_in}
use Rattle.slot_page.specs.declared.line.Tid.{Tid}
use Rattle.tuple_layout.specs.declared.cell.Stored.{Stored}
use Rattle.xact_status.specs.Versions.{counts_for}
use Rattle.snapshot_registry.specs.Snapshots.{held_at, is_registered, takes_effect}
use Rattle.snapshot_registry.specs.declared.Held.{Held}
use Rattle.snapshot_registry.specs.declared.Snapshot.{Snapshot}
use Rattle.row_versions.specs.Relations.{AreAssigned, IsRelation}
use Rattle.row_versions.specs.declared.version.Version.{Version}
use Rattle.table_rows.proofs.Views.{found_at}
use Rattle.table_rows.proofs.Worlds.{world_has}
use Rattle.table_rows.specs.Views.{is_found}
use Rattle.table_rows.specs.Worlds.{IsOne}
use Rattle.table_state.proofs.Tells.{tables_tell}
use Rattle.table_state.specs.LookUps.{FindsRow, counts_seen}
use Rattle.table_state.specs.Tables.{AreStored, stored_of}
use Rattle.table_state.specs.declared.table.FoundRow.{FoundRow}
use Rattle.table_state.specs.declared.table.Table.{Table}
use Rattle.write_steps.specs.declared.stage.OldRow.{OldRow}
use Rattle.core_state.proofs.Moved.{state_uses}
use Rattle.core_state.proofs.Seats.{seat_there}
use Rattle.core_state.proofs.Uses.{registered_use}
use Rattle.core_state.specs.State.{CoreState, seat_of, snapshot_of, table_at, xid_of}
use Rattle.core_state.specs.Views.{counts_under, found_row, in_sight, registered, row_seen}
use Rattle.core_looks.proofs.Found.{found_is, unfound_is}
use Rattle.core_looks.proofs.Sights.{one_now, one_seen, table_made, table_sound}
use Rattle.core_looks.specs.Due.{row_now}
use Rattle.core_parts.specs.Found.{as_old}
use Rattle.core_sights.specs.Ready.{CanLook}

-- ---- in one table

-- with at most one version of a key, it is found at one tid
pub same_tid : (counts : ℕ → Bool) (table : Table) (key : ℤ) (t u : Tid) → IsOne counts table.rows.pages key → is_found counts table.rows.pages key t ≡ true → is_found counts table.rows.pages key u ≡ true → t ≡ u
same_tid counts table key t u one at also =
    let a = found_at counts table.rows.pages key t at in
    let b = found_at counts table.rows.pages key u also in
    one.same t u a.0.tuple b.0.tuple a.2 b.2

-- what is stored at one tid is one row
same_row : (table : Table) (row : FoundRow) (old : OldRow) (version : Version) → row.tid ≡ old.tid → item_in table.rows.pages old.tid ≡ Some version → old.stored ≡ stored_of table.rows.schema.storages version
    → option_map (stored_of table.rows.schema.storages) (item_in table.rows.pages row.tid) ≡ Some row.stored → as_old row ≡ old
same_row table row old version tid there stored read =
    let found : Some row.stored ≡ Some (stored_of table.rows.schema.storages version) = sym read ∙ ap (λ (t : Tid). option_map (stored_of table.rows.schema.storages) (item_in table.rows.pages t)) tid ∙ ap (option_map (stored_of table.rows.schema.storages)) there in
    ap (λ (t : Tid). old_at t row.stored) tid ∙ ap (λ (x : Stored). old_at old.tid x) (some_is row.stored (stored_of table.rows.schema.storages version) found ∙ sym stored)
  where
    old_at : Tid → Stored → OldRow
    old_at t x = record { tid = t; stored = x }

    some_is : (a b : Stored) → Some a ≡ Some b → a ≡ b
    some_is a b e = cc

pub row_is : (counts : ℕ → Bool) (table : Table) (key : ℤ) (o : Option FoundRow) → IsRelation table.rows → IsOne counts table.rows.pages key → FindsRow counts table key o → option_map as_old o ≡ found_row table counts key
row_is counts table key None relation one none = by (found_row table counts key) refl
  where
    by : (r : Option OldRow) → found_row table counts key ≡ r → option_map as_old None ≡ found_row table counts key
    by None e = sym e
    by (Some old) e =
        let at = found_is counts table key old e in
        let its = found_at counts table.rows.pages key old.tid at.found in
        let has = world_has counts table.rows.pages key old.tid its.0.tuple one its.2 in
        absurd (cc)
row_is counts table key (Some row) relation one finds = by (found_row table counts key) refl
  where
    by : (r : Option OldRow) → found_row table counts key ≡ r → option_map as_old (Some row) ≡ found_row table counts key
    by None e =
        let no = unfound_is counts table key relation e row.tid in
        let yes = finds.found in
        absurd (cc)
    by (Some old) e =
        let at = found_is counts table key old e in
        let tid = same_tid counts table key row.tid old.tid one finds.found at.found in
        ap Some (same_row table row old at.version tid at.there at.stored finds.stored) ∙ sym e

-- ---- in a core

-- what a look-up asks of a table
pub assigned_at : (c : CoreState) (s t : ℕ) → CanLook c s t → AreAssigned c.xacts (table_at c.tables t).rows.pages
assigned_at c s t look = tables_tell.assigned t c.xacts c.snaps (table_at c.tables t) (table_sound c t look.of_table look.sound)

pub stored_at : (c : CoreState) (s t : ℕ) → CanLook c s t → AreStored (table_at c.tables t)
stored_at c s t look = tables_tell.stored t c.xacts c.snaps (table_at c.tables t) (table_sound c t look.of_table look.sound)

-- a transaction's snapshot is registered
pub snapshot_there : (c : CoreState) (s t id : ℕ) → CanLook c s t → snapshot_of (seat_of c s).state ≡ Some id → is_registered c.snaps id ≡ true
snapshot_there c s t id look mine = registered_use c (s - 1) (seat_of c s) id (seat_there c.seats s look.there) (state_uses (seat_of c s) id mine) look.sound

-- the row that is there for it now
pub now_is : (c : CoreState) (s t : ℕ) (key : ℤ) (o : Option FoundRow) → CanLook c s t → FindsRow (counts_for c.xacts (xid_of (seat_of c s).state)) (table_at c.tables t) key o → option_map as_old o ≡ row_now c s t key
now_is c s t key o look finds =
    row_is (in_sight c.xacts (seat_of c s).state) (table_at c.tables t) key o (table_made c t look.of_table look.parts).rows (one_now c s t key look.there look.of_table look.sound) finds

-- which its reads find without a snapshot
pub sight_is : (c : CoreState) (s t : ℕ) (key : ℤ) → snapshot_of (seat_of c s).state ≡ None → row_seen c s t key ≡ row_now c s t key
sight_is c s t key none = ap (λ (o : Option ℕ). found_row (table_at c.tables t) (counts_under c.xacts (registered c.snaps o) (xid_of (seat_of c s).state)) key) none

-- the row that it sees by its snapshot
pub shown_is : (c : CoreState) (s t : ℕ) (key : ℤ) (id : ℕ) (o : Option FoundRow) → CanLook c s t → snapshot_of (seat_of c s).state ≡ Some id
    → FindsRow (counts_seen c.xacts c.snaps id (xid_of (seat_of c s).state)) (table_at c.tables t) key o → option_map as_old o ≡ row_seen c s t key
shown_is c s t key id o look mine finds = by (held_at c.snaps id) refl (snapshot_there c s t id look mine)
  where
    own : Option ℕ
    own = xid_of (seat_of c s).state

    table : Table
    table = table_at c.tables t

    by : (h : Option Held) → held_at c.snaps id ≡ h → is_some h ≡ true → option_map as_old o ≡ row_seen c s t key
    by None at there = absurd (cc)
    by (Some held) at there =
        let is : registered c.snaps (snapshot_of (seat_of c s).state) ≡ Some held.snapshot = ap (registered c.snaps) mine ∙ ap (option_map (λ (h : Held). h.snapshot)) at in
        let found : FindsRow (takes_effect c.xacts held.snapshot own) table key o =
        subst (λ (h : Option Held). FindsRow (λ (xid : ℕ). option_map_or (λ (its : Held). takes_effect c.xacts its.snapshot own xid) h false) table key o) at finds in
        let one : IsOne (takes_effect c.xacts held.snapshot own) table.rows.pages key =
        subst (λ (x : Option Snapshot). IsOne (counts_under c.xacts x own) table.rows.pages key) is (one_seen c s t key look.there look.of_table look.sound) in
        row_is (takes_effect c.xacts held.snapshot own) table key o (table_made c t look.of_table look.parts).rows one found
        ∙ sym (ap (λ (x : Option Snapshot). found_row table (counts_under c.xacts x own) key) is)

-- ---- as the code has them: of a core, a table and a key that are named otherwise

pub assigned_by : (c view : CoreState) (s t : ℕ) (table : Table) → view ≡ c → CanLook c s t → table ≡ table_at c.tables t → AreAssigned view.xacts table.rows.pages
assigned_by c view s t table same look is = subst (λ (v : CoreState). AreAssigned v.xacts table.rows.pages) (sym same) (subst (λ (x : Table). AreAssigned c.xacts x.rows.pages) (sym is) (assigned_at c s t look))

pub stored_by : (c : CoreState) (s t : ℕ) (table : Table) → CanLook c s t → table ≡ table_at c.tables t → AreStored table
stored_by c s t table look is = subst AreStored (sym is) (stored_at c s t look)

pub now_by : {E : Type 0} (c view : CoreState) (s t : ℕ) (table : Table) (own : Option ℕ) (key given : ℤ) (r : Result (Option FoundRow) E) → view ≡ c → CanLook c s t → table ≡ table_at c.tables t → own ≡ xid_of (seat_of c s).state → given ≡ key
    → IfOk r (FindsRow (counts_for view.xacts own) table given) → IfOk r (λ found. option_map as_old found ≡ row_now c s t key)
now_by c view s t table own key given (Ok o) same look table_is own_is key_is finds =
    let of_core = subst (λ (v : CoreState). FindsRow (counts_for v.xacts own) table given o) same finds in
    let of_own = subst (λ (x : Option ℕ). FindsRow (counts_for c.xacts x) table given o) own_is of_core in
    let of_table = subst (λ (x : Table). FindsRow (counts_for c.xacts (xid_of (seat_of c s).state)) x given o) table_is of_own in
    now_is c s t key o look (subst (λ (k : ℤ). FindsRow (counts_for c.xacts (xid_of (seat_of c s).state)) (table_at c.tables t) k o) key_is of_table)
now_by c view s t table own key given (Err fault) same look table_is own_is key_is finds = tt

pub shown_by : {E : Type 0} (c view : CoreState) (s t id : ℕ) (table : Table) (own : Option ℕ) (key given : ℤ) (r : Result (Option FoundRow) E) → view ≡ c → CanLook c s t → snapshot_of (seat_of c s).state ≡ Some id → table ≡ table_at c.tables t
    → own ≡ xid_of (seat_of c s).state → given ≡ key → IfOk r (FindsRow (counts_seen view.xacts view.snaps id own) table given) → IfOk r (λ found. option_map as_old found ≡ row_seen c s t key)
shown_by c view s t id table own key given (Ok o) same look mine table_is own_is key_is finds =
    let of_core = subst (λ (v : CoreState). FindsRow (counts_seen v.xacts v.snaps id own) table given o) same finds in
    let of_own = subst (λ (x : Option ℕ). FindsRow (counts_seen c.xacts c.snaps id x) table given o) own_is of_core in
    let of_table = subst (λ (x : Table). FindsRow (counts_seen c.xacts c.snaps id (xid_of (seat_of c s).state)) x given o) table_is of_own in
    shown_is c s t key id o look mine (subst (λ (k : ℤ). FindsRow (counts_seen c.xacts c.snaps id (xid_of (seat_of c s).state)) (table_at c.tables t) k o) key_is of_table)
shown_by c view s t id table own key given (Err fault) same look mine table_is own_is key_is finds = tt

pub sight_by : {E : Type 0} (c : CoreState) (s t : ℕ) (key : ℤ) (r : Result (Option FoundRow) E) → snapshot_of (seat_of c s).state ≡ None → IfOk r (λ found. option_map as_old found ≡ row_now c s t key) → IfOk r (λ found. option_map as_old found ≡ row_seen c s t key)
sight_by c s t key (Ok o) none finds = finds ∙ sym (sight_is c s t key none)
sight_by c s t key (Err fault) none finds = tt
