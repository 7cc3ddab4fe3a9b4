-- The ids that a write has drawn are in hand, and where the ids of a new version come from.
use Rattle.std.proofs.Common.{ap, arith, inl, inr, refl, subst, ◌∙◌}
use Rattle.std.specs.Prelude.{Contains, List, Some, [], length, map, option_to_list, slice_get, suc, take, true, zero, ℕ, ◌<◌, ◌∷◌, ◌≡◌}
use Rattle.list_facts.proofs.Members.{cases_in, from_chosen, from_map, none_in_nil}
use Rattle.external_pointer.specs.declared.external.Pointer.{Pointer}
use Rattle.tuple_layout.specs.declared.cell.Cell.{Cell}
use Rattle.tuple_layout.specs.declared.cell.Cell.TheVariants.{Inline, Null, Out}
use Rattle.tuple_layout.specs.declared.cell.Stored.{Stored}
use Rattle.slot_page.specs.Pages.{item_in}
use Rattle.slot_page.specs.declared.line.Tid.{Tid}
use Rattle.xact_status.specs.Xacts.{Xacts}
use Rattle.snapshot_registry.specs.Snapshots.{Snaps}
use Rattle.value_holders.specs.Stamps.{IsOpenFor}
use Rattle.row_versions.specs.declared.version.Version.{Version}
use Rattle.value_ids.specs.Ids.{Pool}
use Rattle.value_ids.specs.declared.pool.InHand.{InHand}
use Rattle.toast_store.specs.Saves.{Drawing, Laying, Saving, Stage, held_by, id_of}
use Rattle.toast_store.specs.Stores.{Store}
use Rattle.table_rows.specs.Steps.{stamp_of}
use Rattle.table_state.specs.Events.{IsUnheld}
use Rattle.table_state.specs.Rows.{has_id, pointer_of, pointers_in}
use Rattle.table_state.specs.Tables.{cells_of}
use Rattle.table_state.specs.declared.table.Table.{Table}
use Rattle.write_steps.specs.Standing.{AreSaved, IsWriteStage, StandsAt}
use Rattle.write_steps.specs.Writes.{Parts, cell_of}
use Rattle.write_steps.specs.declared.stage.Owner.{Owner}
use Rattle.write_steps.specs.declared.stage.WriteStage.{WriteStage}
use Rattle.core_state.proofs.Answered.{within}
use Rattle.core_state.proofs.Lists.{in_append, only_one}
use Rattle.core_state.specs.Coming.{ids_drawn, ids_of}
use Rattle.toast_store.specs.Saves as saves
use Rattle.write_steps.specs.declared.stage.WriteStage.TheVariants as stages

-- where an id of a new version comes from: its session has it in hand, and no protected version has it; or a version has it that the transaction may end
pub data Given (xacts : Xacts) (snaps : Snaps) (in_hand : List InHand) (table : Table) (s t x value_id : ℕ) : Type 0 where
  Drawn : Contains in_hand (record { table = t; session = s; id = value_id }) → IsUnheld xacts snaps table value_id → Given xacts snaps in_hand table s t x value_id
  Kept : (tid : Tid) (old : Version) → item_in table.rows.pages tid ≡ Some old → IsOpenFor xacts x (stamp_of old) → has_id value_id (cells_of table old) ≡ true → Given xacts snaps in_hand table s t x value_id

-- ---- lists

-- where a member of the front of a list stands
front_at : {T : Type 0} (n : ℕ) (xs : List T) (x : T) → Contains (take n xs) x → (k : ℕ) × (k < n) × (slice_get xs k ≡ Some x)
front_at zero xs x e = absurd (none_in_nil x e)
front_at (suc n) [] x e = absurd (none_in_nil x e)
front_at (suc n) (y ∷ xs) x e = elim (cases_in y (take n xs) x e) [
  | inl h ↦ (zero, omega arith, ap Some h)
  | inr h ↦
      let rest = front_at n xs x h in
      let low = rest.1 in
      (suc rest.0, omega (arith, low), rest.2)
]

-- where a member of a list stands
pub member_at : {T : Type 0} (xs : List T) (x : T) → Contains xs x → (k : ℕ) × (slice_get xs k ≡ Some x)
member_at [] x e = absurd (none_in_nil x e)
member_at (y ∷ xs) x e = elim (cases_in y xs x e) [
  | inl h ↦ (zero, ap Some h)
  | inr h ↦
      let rest = member_at xs x h in
      (suc rest.0, rest.1)
]

pointer_cell : (cell : Cell) (pointer : Pointer) → pointer_of cell ≡ Some pointer → cell ≡ Out pointer
pointer_cell Null pointer e = absurd (cc)
pointer_cell (Inline value) pointer e = absurd (cc)
pointer_cell (Out q) pointer e = cc

-- where a pointer of some cells stands
pub column_of : (cells : List Cell) (pointer : Pointer) → Contains (pointers_in cells) pointer → (k : ℕ) × (slice_get cells k ≡ Some (Out pointer))
column_of cells pointer e =
    let chosen = from_chosen pointer_of cells pointer e in
    let at = member_at cells chosen.0 chosen.1 in
    (at.0, at.1 ∙ ap Some (pointer_cell chosen.0 pointer chosen.2))

-- ---- ids in hand

-- an id of the pointers in some columns is that of one of them
pub id_column : (cells : List Cell) (columns : List ℕ) (value_id : ℕ) → Contains (ids_of (pointers_in (map (cell_of cells) columns))) value_id
    → (column : ℕ) × (pointer : Pointer) × Contains columns column × (cell_of cells column ≡ Out pointer) × (pointer.value_id ≡ value_id)
id_column cells columns value_id e =
    let of_id = from_map (λ (p : Pointer). p.value_id) (pointers_in (map (cell_of cells) columns)) value_id e in
    let chosen = from_chosen pointer_of (map (cell_of cells) columns) of_id.0 of_id.1 in
    let column = from_map (cell_of cells) columns chosen.0 chosen.1 in
    (column.0, of_id.0, column.1, column.2 ∙ pointer_cell chosen.0 of_id.0 chosen.2, of_id.2)

hand_is : (in_hand : List InHand) (t s value_id table session id : ℕ) → table ≡ t → session ≡ s → id ≡ value_id → Contains in_hand (record { table = table; session = session; id = id }) → Contains in_hand (record { table = t; session = s; id = value_id })
hand_is in_hand t s value_id table session id e f g held =
    subst (λ (n : ℕ). Contains in_hand (record { table = t; session = s; id = n })) g
    (subst (λ (n : ℕ). Contains in_hand (record { table = t; session = n; id = id })) f
    (subst (λ (n : ℕ). Contains in_hand (record { table = n; session = session; id = id })) e held))

saved_hand : (toast : Store) (ids : Pool) (owner : Owner) (new : Stored) (plan : List ℕ) (to : ℕ) (k column value_id : ℕ) (pointer : Pointer) → AreSaved toast ids owner new plan to → k < to → slice_get plan k ≡ Some column → cell_of new.cells column ≡ Out pointer → pointer.value_id ≡ value_id
    → Contains ids.in_hand (record { table = owner.table; session = owner.session; id = value_id })
saved_hand toast ids owner new plan to k column value_id pointer saved low planned cell is =
    let its = saved.saved k pointer low (record { column = column; planned = planned; cell = cell }) in
    hand_is ids.in_hand owner.table owner.session value_id owner.table owner.session pointer.value_id refl refl is its.1.in_hand

laying_hand : (toast : Store) (ids : Pool) (save : Saving) (stage : Stage) (value_id : ℕ) → saves.StandsAt toast ids save stage → Contains (option_to_list (id_of stage)) value_id → Contains ids.in_hand (held_by save value_id)
laying_hand toast ids save Drawing value_id stands e = absurd (none_in_nil value_id e)
laying_hand toast ids save (Laying id at) value_id stands e = subst (λ (n : ℕ). Contains ids.in_hand (held_by save n)) (only_one id value_id e) stands.in_hand

-- each id that a write has drawn is in hand for its session and table
pub drawn_hand : (parts : Parts) (owner : Owner) (stage : WriteStage) (value_id : ℕ) → IsWriteStage owner stage → StandsAt parts owner stage → Contains (ids_drawn stage) value_id
    → Contains parts.ids.in_hand (record { table = owner.table; session = owner.session; id = value_id })
drawn_hand parts owner (stages.Saving old new plan at save) value_id its stands e = elim (in_append (option_to_list (id_of save.stage)) (ids_of (pointers_in (map (cell_of new.cells) (take at plan)))) value_id e) [
  | inl h ↦ hand_is parts.ids.in_hand owner.table owner.session value_id save.table save.session value_id its.own.table its.own.session refl (laying_hand parts.toast parts.ids save save.stage value_id stands.stands h)
  | inr h ↦
      let found = id_column new.cells (take at plan) value_id h in
      let place = front_at at plan found.0 found.2 in
      saved_hand parts.toast parts.ids owner new plan at place.0 found.0 value_id found.1 stands.saved place.1 place.2 found.3 found.4
]
drawn_hand parts owner (stages.Put old new plan) value_id its stands e =
    let found = id_column new.cells plan value_id e in
    let place = member_at plan found.0 found.2 in
    saved_hand parts.toast parts.ids owner new plan (length plan) place.0 found.0 value_id found.1 stands.saved (within plan place.0 found.0 place.1) place.1 found.3 found.4
drawn_hand parts owner (stages.Remove old) value_id its stands e = absurd (none_in_nil value_id e)
drawn_hand parts owner (stages.Marking dropped at mark) value_id its stands e = absurd (none_in_nil value_id e)
drawn_hand parts owner stages.Over value_id its stands e = absurd (none_in_nil value_id e)
