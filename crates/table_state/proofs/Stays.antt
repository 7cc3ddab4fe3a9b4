-- Values and rows through changes of the values out of line.
use Rattle.std.proofs.Common.{ℕ, ℤ, ◌≡◌, ◌≢◌, ◌≤◌, ◌⊎◌, inl, inr, Bool, true, List, [], ◌∷◌, Option, Some, None, Contains, map, refl, sym, ap, subst, ◌∙◌}
use Rattle.std.specs.Option.{option_map}
use Rattle.list_facts.proofs.Members.{cases_in, first_in, later_in, none_in_nil}
use Rattle.slot_page.specs.declared.line.Tid.{Tid}
use Rattle.slot_page.specs.Pages.{item_in}
use Rattle.external_pointer.specs.declared.external.Pointer.{Pointer}
use Rattle.tuple_layout.specs.declared.cell.Cell.{Cell}
use Rattle.tuple_layout.specs.declared.cell.Cell.TheVariants.{Inline, Null, Out}
use Rattle.xact_status.specs.Versions.{is_there}
use Rattle.row_versions.specs.declared.version.Version.{Version}
use Rattle.toast_store.specs.Stores.{Store}
use Rattle.toast_store.proofs.Kept.{add_leaves, pin_leaves, prune_leaves, put_leaves, reap_leaves, sweep_leaves}
use Rattle.toast_store.proofs.ValueIn.{end_keeps_value, value_left}
use Rattle.table_rows.specs.Worlds.{IsVersionAt, tuple_in}
use Rattle.table_rows.proofs.Worlds.{version_shown, world_is}
use Rattle.table_state.specs.Cells.{cells_in}
use Rattle.table_state.specs.Rows.{cell_value, pointer_of, pointers_in, row_of}
use Rattle.table_state.specs.Stays.{AreLeft, ValuesStay}
use Rattle.table_state.specs.Tables.{IsTable, cells_of, row_in}
use Rattle.table_state.specs.Events.{with_toast}
use Rattle.table_state.specs.Holders.{holders_of}
use Rattle.table_state.specs.declared.table.Table.{Table}
use Rattle.table_rows.specs.Steps.{stamp_of}
use Rattle.table_state.proofs.Chunks.{spared}
use Rattle.table_state.proofs.Toast.{protects}

-- ---- a row

cell_left : (old new : Store) (cell : Cell) → AreLeft old new (cell ∷ []) → cell_value new cell ≡ cell_value old cell
cell_left old new Null left = refl
cell_left old new (Inline value) left = refl
cell_left old new (Out pointer) left = ap Some (left pointer (first_in pointer [] pointer refl))

front_left : (old new : Store) (cell : Cell) (cells : List Cell) → AreLeft old new (cell ∷ cells) → AreLeft old new (cell ∷ [])
front_left old new Null cells left = λ other held. absurd (none_in_nil other held)
front_left old new (Inline value) cells left = λ other held. absurd (none_in_nil other held)
front_left old new (Out pointer) cells left = λ other held. elim (cases_in pointer [] other held) [
  | inl is ↦ left other (first_in pointer (pointers_in cells) other is)
  | inr later ↦ absurd (none_in_nil other later)
]

rest_left : (old new : Store) (cell : Cell) (cells : List Cell) → AreLeft old new (cell ∷ cells) → AreLeft old new cells
rest_left old new Null cells left = left
rest_left old new (Inline value) cells left = left
rest_left old new (Out pointer) cells left = λ other held. left other (later_in pointer (pointers_in cells) other held)

pub cells_left : (old new : Store) (cells : List Cell) → AreLeft old new cells → map (cell_value new) cells ≡ map (cell_value old) cells
cells_left old new [] left = refl
cells_left old new (cell ∷ cells) left =
    ap (λ (value : Option (List ℕ)). value ∷ map (cell_value new) cells) (cell_left old new cell (front_left old new cell cells left))
    ∙ ap (λ (rest : List (Option (List ℕ))). cell_value old cell ∷ rest) (cells_left old new cells (rest_left old new cell cells left))

-- ---- a world's row

pub world_left : (table : Table) (store : Store) (counts : ℕ → Bool) (key : ℤ)
    → ((tid : Tid) (version : Version) → IsVersionAt table.rows.pages key tid version → is_there counts version.inserter version.ender ≡ true → AreLeft table.toast store (cells_of table version))
    → row_in (with_toast table store) counts key ≡ row_in table counts key
world_left table store counts key left = by_tuple (tuple_in counts table.rows.pages key) refl
  where
    by_tuple : (o : Option (List ℕ)) → tuple_in counts table.rows.pages key ≡ o → option_map (row_of table.rows.schema.storages store) o ≡ option_map (row_of table.rows.schema.storages table.toast) o
    by_tuple None is = refl
    by_tuple (Some tuple) is =
        let at = world_is counts table.rows.pages key tuple is in
        let shown = version_shown counts table.rows.pages key at.0 tuple at.1 in
        let same : AreLeft table.toast store (cells_in table.rows.schema.storages tuple) = subst (λ (bytes : List ℕ). AreLeft table.toast store (cells_in table.rows.schema.storages bytes)) shown.1.tuple (left at.0 shown.0 shown.1.at shown.1.present) in
        ap Some (cells_left table.toast store (cells_in table.rows.schema.storages tuple) same)

-- ---- the law

pub values_stay : ValuesStay
values_stay = record {
  put = λ old new size chunk pointer sound puts. value_left old new pointer (put_leaves old new size chunk pointer.value_id sound puts);
  ended = λ old new tid xid pointer ends. end_keeps_value old new tid xid pointer ends;
  pinned = λ old new pointer pins. value_left old new pointer (pin_leaves old new pointer.value_id pins);
  swept = λ old new leaf dead pointer sweeps. value_left old new pointer (sweep_leaves old new leaf dead pointer.value_id sweeps);
  freed = λ old new tid pointer reaps. value_left old new pointer (reap_leaves old new tid pointer.value_id reaps);
  added = λ old new e pointer adds other. value_left old new pointer (add_leaves old new e pointer.value_id adds other);
  pruned = λ number xacts snaps table store bound page tid version pointer registry le prunes is at protected has.
      value_left table.toast store pointer (prune_leaves table.toast store xacts bound page pointer.value_id prunes
      (spared xacts snaps bound table.toast pointer.value_id (holders_of table.rows.schema.storages table.rows.pages pointer.value_id) tid (stamp_of version) registry le (IsTable.held is pointer.value_id) (protects xacts snaps table tid version pointer at protected has)));
  cells = cells_left;
  world = world_left;
}
