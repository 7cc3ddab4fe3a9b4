-- The new row of a write through the steps of its saves: its pointers, their ids, and that no protected version has them.
use Rattle.std.proofs.Common.{Bool, Contains, List, None, Some, ap, arith, false, inl, inr, length, nat_lt, refl, subst, sym, take, true, ℕ, ◌++◌, ◌+◌, ◌-◌, ◌<◌, ◌∙◌, ◌∷◌, ◌≡◌, ◌≢◌, ◌≤◌, ◌⊎◌}
use Rattle.std.proofs.lemmas.Bool.{ltb-false, ltb-true}
use Rattle.std.specs.List.{IsDistinct}
use Rattle.std.specs.Prelude.{Option, map, nat_eq, option_to_list, slice_get, slice_set}
use Rattle.list_facts.proofs.Members.{cases_in, first_in, later_in}
use Rattle.external_pointer.specs.declared.external.Pointer.{Pointer}
use Rattle.tuple_layout.specs.Sizes.{least_out}
use Rattle.tuple_layout.specs.declared.Storage.TheVariants.{External}
use Rattle.tuple_layout.specs.declared.Storage.{Storage}
use Rattle.tuple_layout.specs.declared.cell.Cell.TheVariants.{Null, Out}
use Rattle.tuple_layout.specs.declared.cell.Cell.{Cell}
use Rattle.slot_page.specs.Pages.{item_in, slot_of}
use Rattle.slot_page.specs.Slots.{IsNormal, item_of}
use Rattle.slot_page.specs.declared.line.LinePointer.TheVariants.{Dead, Normal, Unused}
use Rattle.slot_page.specs.declared.line.LinePointer.{LinePointer}
use Rattle.slot_page.specs.declared.line.Tid.{Tid}
use Rattle.xact_status.specs.Xacts.{Xacts, is_running}
use Rattle.snapshot_registry.specs.Snapshots.{Snaps}
use Rattle.value_holders.proofs.VersionSteps.{open_is_protected}
use Rattle.row_versions.specs.Relations.{Relation}
use Rattle.row_versions.specs.Versions.{version_stamp}
use Rattle.row_versions.specs.declared.version.Version.{Version}
use Rattle.write_steps.specs.Writes.{Writing, cell_of}
use Rattle.write_steps.specs.declared.stage.OldRow.{OldRow}
use Rattle.table_state.specs.Events.{IsUnheld}
use Rattle.table_state.specs.Rows.{pointers_in}
use Rattle.table_state.specs.Tables.{AreCellsOf, longest_value, toast_rel_of}
use Rattle.table_state.specs.declared.table.Table.{Table}
use Rattle.core_state.specs.Coming.{ids_of, old_left}
use Rattle.core_state.specs.Facts.{KnowsRows, ids_in}
use Rattle.core_saves.proofs.Apart.{unheld_pointer}
use Rattle.core_saves.proofs.Cells.{cell_cases, cells_set, cells_taken, distinct_more, distinct_set, distinct_taken}
use Rattle.core_saves.proofs.Columns.{DrawnAt, drawn_held, from_take, held_drawn, in_take}

-- ---- the old row

-- the slot of a version has it
normal_item : (rows : Relation) (tid : Tid) → IsNormal (slot_of rows.pages tid) → (version : Version) × (item_in rows.pages tid ≡ Some version)
normal_item rows tid normal = by (slot_of rows.pages tid) normal refl
  where
    by : (line : LinePointer Version) → IsNormal line → slot_of rows.pages tid ≡ line → (version : Version) × (item_in rows.pages tid ≡ Some version)
    by (Normal size version) is e = (version, ap item_of e)
    by Dead is e = absurd is
    by Unused is e = absurd is

-- no pointer of the old row has an id that no protected version has
pub old_apart : (xacts : Xacts) (snaps : Snaps) (table : Table) (write : Writing) (row : OldRow) (id : ℕ) (pointer : Pointer) → is_running xacts write.owner.xid ≡ true → KnowsRows xacts table write → old_left write.stage ≡ Some row → IsNormal (slot_of table.rows.pages row.tid)
    → IsUnheld xacts snaps table id → Contains (pointers_in row.stored.cells) pointer → id ≢ pointer.value_id
old_apart xacts snaps table write row id pointer running knows is there unheld has =
    let found = normal_item table.rows row.tid there in
    let its = knows.old row found.0 is found.1 in
    unheld_pointer xacts snaps table row.tid found.0 id pointer unheld found.1 (open_is_protected xacts snaps write.owner.xid (version_stamp found.0) running its.2) (subst (λ (cells : List Cell). Contains (pointers_in cells) pointer) (sym its.1) has)

-- ---- what is known of a write's new row as one value of it goes out

-- the row with the pointer of the column that is saved, and what it had in the others that are
pub record IsNext (cells next : List Cell) (plan : List ℕ) (at column : ℕ) (pointer : Pointer) : Type 0 where
  pub planned : slice_get plan at ≡ Some column
  pub here : cell_of next column ≡ Out pointer
  pub earlier : (k other : ℕ) → k < at → slice_get plan k ≡ Some other → cell_of next other ≡ cell_of cells other
  pub each : (other : ℕ) (p : Pointer) → cell_of next other ≡ Out p → (p ≡ pointer) ⊎ (cell_of cells other ≡ Out p)

-- its drawn ids are those that were drawn
pub drawn_on : (cells next : List Cell) (plan : List ℕ) (at column : ℕ) (pointer : Pointer) (id : ℕ) → IsNext cells next plan at column pointer → Contains (pointer.value_id ∷ ids_of (pointers_in (map (cell_of cells) (take at plan)))) id
    → Contains (ids_of (pointers_in (map (cell_of next) (take (at + 1) plan)))) id
drawn_on cells next plan at column pointer id is e = elim (cases_in pointer.value_id (ids_of (pointers_in (map (cell_of cells) (take at plan)))) id e) [
  | inl same ↦ subst (λ (k : ℕ). Contains (ids_of (pointers_in (map (cell_of next) (take (at + 1) plan)))) k) same (held_drawn next (take (at + 1) plan) column pointer (in_take plan at (at + 1) column (omega arith) is.planned) is.here)
  | inr rest ↦
      let found = drawn_held cells (take at plan) id rest in
      let place = from_take plan at found.column found.among in
      subst (λ (k : ℕ). Contains (ids_of (pointers_in (map (cell_of next) (take (at + 1) plan)))) k) found.is
      (held_drawn next (take (at + 1) plan) found.column found.pointer (in_take plan place.0 (at + 1) found.column (omega (arith, place.1)) place.2) (is.earlier place.0 found.column place.1 place.2 ∙ found.cell))
]

pub drawn_back : (cells next : List Cell) (plan : List ℕ) (at column : ℕ) (pointer : Pointer) (id : ℕ) → IsNext cells next plan at column pointer → Contains (ids_of (pointers_in (map (cell_of next) (take (at + 1) plan)))) id
    → Contains (pointer.value_id ∷ ids_of (pointers_in (map (cell_of cells) (take at plan)))) id
drawn_back cells next plan at column pointer id is e =
    let found = drawn_held next (take (at + 1) plan) id e in
    let place = from_take plan (at + 1) found.column found.among in
    by found place.0 place.1 place.2 (nat_lt place.0 at) refl
  where
    out_is : (p q : Pointer) → Out p ≡ Out q → p ≡ q
    out_is p q h = cc

    some_is : (a b : ℕ) → Some a ≡ Some b → a ≡ b
    some_is a b h = cc

    by : (found : DrawnAt next (take (at + 1) plan) id) (k : ℕ) → k < at + 1 → slice_get plan k ≡ Some found.column → (b : Bool) → nat_lt k at ≡ b → Contains (pointer.value_id ∷ ids_of (pointers_in (map (cell_of cells) (take at plan)))) id
    by found k low planned true less =
        let before : k < at = ltb-true k at less in
        later_in pointer.value_id (ids_of (pointers_in (map (cell_of cells) (take at plan)))) id
        (subst (λ (n : ℕ). Contains (ids_of (pointers_in (map (cell_of cells) (take at plan)))) n) found.is
        (held_drawn cells (take at plan) found.column found.pointer (in_take plan k at found.column before planned) (sym (is.earlier k found.column before planned) ∙ found.cell)))
    by found k low planned false less =
        let last : at ≤ k = ltb-false k at less in
        let at_is : k ≡ at = omega (arith, low, last) in
        let column_is : found.column ≡ column = some_is found.column column (sym planned ∙ ap (slice_get plan) at_is ∙ is.planned) in
        let pointer_is : pointer ≡ found.pointer = out_is pointer found.pointer (sym is.here ∙ ap (cell_of next) (sym column_is) ∙ found.cell) in
        first_in pointer.value_id (ids_of (pointers_in (map (cell_of cells) (take at plan)))) id (ap (λ (p : Pointer). p.value_id) pointer_is ∙ found.is)

-- ---- the row at a stage of its saves

-- the parts of `HasNewRow` for a row whose ids drawn are some, and one of them is drawn for a column that has no pointer yet
pub record IsRowNow (t : ℕ) (storages : List Storage) (row : List Cell) (olds : List Cell) (push : List ℕ) (drawing : Option ℕ) (drawn : List ℕ) : Type 0 where
  pub cells : AreCellsOf (toast_rel_of t) storages row
  pub pushed : (column : ℕ) → Contains push column → slice_get storages (column - 1) ≡ Some External
  pub kept : (column : ℕ) (pointer : Pointer) → cell_of row column ≡ Out pointer → Contains drawn pointer.value_id ⊎ (cell_of olds column ≡ Out pointer)
  pub distinct : IsDistinct nat_eq (option_to_list drawing ++ ids_in row)

-- an id is drawn that none of its pointers has
pub row_drawn : (t : ℕ) (storages : List Storage) (cells olds : List Cell) (push drawn : List ℕ) (id : ℕ) → ((its : ℕ) → Contains (ids_in cells) its → id ≢ its) → IsRowNow t storages cells olds push None drawn → IsRowNow t storages cells olds push (Some id) (id ∷ drawn)
row_drawn t storages cells olds push drawn id apart old = record {
  cells = old.cells;
  pushed = old.pushed;
  kept = λ column pointer e. elim (old.kept column pointer e) [ inl h ↦ inl (later_in id drawn pointer.value_id h) | inr h ↦ inr h ];
  distinct = distinct_more id (ids_in cells) apart old.distinct;
}

-- its value is saved, and the pointer put in its column
pub row_saved : (t : ℕ) (storages : List Storage) (cells olds : List Cell) (push later : List ℕ) (drawn new : List ℕ) (column : ℕ) (pointer : Pointer) → 1 ≤ column → column ≤ length cells → Contains push column → ((other : ℕ) → Contains later other → Contains push other)
    → ((id : ℕ) → Contains (pointer.value_id ∷ drawn) id → Contains new id) → (pointer.toast_rel ≡ toast_rel_of t) × (least_out ≤ pointer.size) × (pointer.size ≤ longest_value)
    → IsRowNow t storages cells olds push (Some pointer.value_id) (pointer.value_id ∷ drawn) → IsRowNow t storages (slice_set cells (column - 1) (Out pointer)) olds later None new
row_saved t storages cells olds push later drawn new column pointer low high here less on fits old = record {
  cells = cells_set (toast_rel_of t) storages cells (column - 1) pointer (old.pushed column here) fits old.cells;
  pushed = λ other e. old.pushed other (less other e);
  kept = λ other p e. elim (cell_cases cells (column - 1) (Out pointer) other (omega (arith, low, high))) [
    | inl h ↦
        let is : pointer ≡ p = out_is pointer p (sym h ∙ e) in
        inl (on p.value_id (first_in pointer.value_id drawn p.value_id (ap (λ (q : Pointer). q.value_id) is)))
    | inr h ↦ elim (old.kept other p (sym h ∙ e)) [ inl its ↦ inl (on p.value_id its) | inr its ↦ inr its ]
  ];
  distinct = distinct_set cells (column - 1) pointer old.distinct;
}
  where
    out_is : (p q : Pointer) → Out p ≡ Out q → p ≡ q
    out_is p q h = cc

-- the next value is taken out of the row
pub row_taken : (t : ℕ) (storages : List Storage) (cells olds : List Cell) (push drawn : List ℕ) (column : ℕ) → 1 ≤ column → column ≤ length cells → IsRowNow t storages cells olds push None drawn → IsRowNow t storages (slice_set cells (column - 1) Null) olds push None drawn
row_taken t storages cells olds push drawn column low high old = record {
  cells = cells_taken (toast_rel_of t) storages cells (column - 1) old.cells;
  pushed = old.pushed;
  kept = λ other p e. elim (cell_cases cells (column - 1) Null other (omega (arith, low, high))) [
    | inl h ↦ absurd (null_out p (sym h ∙ e))
    | inr h ↦ old.kept other p (sym h ∙ e)
  ];
  distinct = distinct_taken cells (column - 1) old.distinct;
}
  where
    null_out : (p : Pointer) → Null ≡ Out p → ⊥
    null_out p h = cc
