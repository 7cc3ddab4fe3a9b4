-- The change that a write is to make, before its first step: that of its old row and its new one.
use Rattle.std.proofs.Common.{ap, refl, sym, ◌∙◌}
use Rattle.std.proofs.lemmas.Option.{get_or_from_slice_get}
use Rattle.std.specs.Ordering.{int_cmp, is_eq}
use Rattle.std.specs.Prelude.{Bool, List, None, Option, Some, [], false, if◌then◌else◌, map, not, option_to_list, slice_get, true, ℕ, ℤ, ◌-◌, ◌∷◌, ◌≡◌, ◌≢◌}
use Rattle.tuple_layout.specs.Places.{Row}
use Rattle.tuple_layout.specs.declared.Storage.{Storage}
use Rattle.tuple_layout.specs.declared.cell.Cell.{Cell}
use Rattle.tuple_layout.specs.declared.cell.Cell.TheVariants.{Inline, Null}
use Rattle.tuple_layout.specs.declared.cell.Stored.{Stored}
use Rattle.toast_store.specs.Stores.{Store}
use Rattle.command_set.specs.Plain.{row_with}
use Rattle.command_set.specs.declared.Set.{Set}
use Rattle.command_set.specs.declared.state.Change.TheVariants.{Insert, Move, Remove, Update}
use Rattle.table_rows.proofs.Worlds.{key_is, same_key}
use Rattle.table_state.specs.Rows.{cell_value}
use Rattle.table_state.specs.declared.table.Table.{Table}
use Rattle.write_steps.proofs.Plans.{column_is}
use Rattle.write_steps.specs.Writes.{Writing, bytes_of, cell_of, column_at, new_write, to_save, with_cell}
use Rattle.write_steps.specs.declared.stage.OldRow.{OldRow}
use Rattle.write_steps.specs.declared.stage.Owner.{Owner}
use Rattle.core_state.specs.Begun.{cells_with, inserted_row, plan_of, updated_row}
use Rattle.core_state.specs.Coming.{change_left, change_to, is_elsewhere}
use Rattle.core_state.specs.State.{table_at}
use Rattle.core_looks.proofs.Sizes.{values_set}
use Rattle.core_writes.proofs.Jobs.{owner_of}
use Rattle.core_writes.proofs.Plans.{inline_at, may_go_at, plan_for}
use Rattle.core_writes.proofs.Rows.{inserted_values, put_back}
use Rattle.core_writes.proofs.Stands.{IsChangeOf}

-- the value that is taken out of the new row counts as in its place
whole_is : (storages : List Storage) (new : Stored) (column : ℕ) → slice_get (plan_for storages new) 0 ≡ Some column
    → with_cell (with_cell new column Null) (column_at (plan_for storages new) 0) (Inline (bytes_of (cell_of new.cells column))) ≡ new
whole_is storages new column e =
    let may = may_go_at storages new 0 column e in
    let has = inline_at new.cells (column - 1) may.size may.inline in
    let is : cell_of new.cells column ≡ Inline has.0 = get_or_from_slice_get new.cells (column - 1) (Inline has.0) Null has.1 in
    ap (λ (n : ℕ). with_cell (with_cell new column Null) n (Inline (bytes_of (cell_of new.cells column)))) (column_is (plan_for storages new) 0 column e)
    ∙ ap (λ (cell : Cell). with_cell (with_cell new column Null) column (Inline (bytes_of cell))) is
    ∙ ap (λ (cells : List Cell). let row : Stored = record new { cells = cells } in row) (put_back new.cells (column - 1) has.0 has.1)

saving_change : (t : ℕ) (toast : Store) (owner : Owner) (old : Option OldRow) (new : Stored) (storages : List Storage) (o : Option ℕ) → slice_get (plan_for storages new) 0 ≡ o
    → change_left t toast (to_save owner old new (plan_for storages new) 0 o) ≡ change_to t toast old (Some new)
saving_change t toast owner old new storages None e = refl
saving_change t toast owner old new storages (Some column) e = ap (λ (row : Stored). change_to t toast old (Some row)) (whole_is storages new column e)

-- what comes of a write that begins
pub change_begun : (t s x : ℕ) (toast : Store) (old : Option OldRow) (new : Option Stored) (storages : List Storage) → (old ≡ None → new ≡ None → ⊥) → change_left t toast (Writing.stage (new_write t s x old new (plan_of storages new))) ≡ change_to t toast old new
change_begun t s x toast None None storages some = absurd (some refl refl)
change_begun t s x toast (Some old) None storages some = refl
change_begun t s x toast None (Some new) storages some = saving_change t toast (owner_of t s x) None new storages (slice_get (plan_for storages new) 0) refl
change_begun t s x toast (Some old) (Some new) storages some = saving_change t toast (owner_of t s x) (Some old) new storages (slice_get (plan_for storages new) 0) refl

-- ---- the commands

pub insert_change : (tables : List Table) (t s x : ℕ) (key : ℤ) (row : Row) (storages : List Storage) → IsChangeOf tables t (key ∷ []) (new_write t s x None (Some (inserted_row key row)) (plan_of storages (Some (inserted_row key row)))) (Insert t key row)
insert_change tables t s x key row storages = record {
  comes = ap option_to_list (change_begun t s x (table_at tables t).toast None (Some (inserted_row key row)) storages (λ e f. absurd (cc)))
      ∙ ap (λ (values : Row). Insert t key values ∷ []) (inserted_values (table_at tables t).toast row);
  names = λ p. refl;
}

pub update_change : (tables : List Table) (t s x : ℕ) (key : ℤ) (old : OldRow) (sets : List Set) (storages : List Storage) → old.stored.key ≡ key
    → IsChangeOf tables t (key ∷ []) (new_write t s x (Some old) (Some (updated_row old.stored key sets)) (plan_of storages (Some (updated_row old.stored key sets)))) (Update t key (row_with (map (cell_value (table_at tables t).toast) old.stored.cells) sets))
update_change tables t s x key old sets storages is = record {
  comes = ap option_to_list (change_begun t s x (table_at tables t).toast (Some old) (Some (updated_row old.stored key sets)) storages (λ e f. absurd (cc)))
      ∙ ap (λ (b : Bool). (if b then Move t old.stored.key key (map (cell_value (table_at tables t).toast) (cells_with old.stored.cells sets)) else Update t key (map (cell_value (table_at tables t).toast) (cells_with old.stored.cells sets))) ∷ []) here
      ∙ ap (λ (values : Row). Update t key values ∷ []) (values_set (table_at tables t).toast sets old.stored.cells);
  names = λ p. refl;
}
  where
    here : is_elsewhere (Some old) key ≡ false
    here = ap not (ap (λ (k : ℤ). is_eq (int_cmp k key)) is ∙ same_key key)

pub delete_change : (tables : List Table) (t s x : ℕ) (key : ℤ) (old : OldRow) (storages : List Storage) → old.stored.key ≡ key
    → IsChangeOf tables t (key ∷ []) (new_write t s x (Some old) None (plan_of storages None)) (Remove t key)
delete_change tables t s x key old storages is = record { comes = ap (λ (k : ℤ). Remove t k ∷ []) is; names = λ p. refl }

pub rekey_change : (tables : List Table) (t s x : ℕ) (from to : ℤ) (old : OldRow) (sets : List Set) (storages : List Storage) → old.stored.key ≡ from → from ≢ to
    → IsChangeOf tables t (from ∷ to ∷ []) (new_write t s x (Some old) (Some (updated_row old.stored to sets)) (plan_of storages (Some (updated_row old.stored to sets)))) (Move t from to (row_with (map (cell_value (table_at tables t).toast) old.stored.cells) sets))
rekey_change tables t s x from to old sets storages is differ = record {
  comes = ap option_to_list (change_begun t s x (table_at tables t).toast (Some old) (Some (updated_row old.stored to sets)) storages (λ e f. absurd (cc)))
      ∙ ap (λ (b : Bool). (if b then Move t old.stored.key to (map (cell_value (table_at tables t).toast) (cells_with old.stored.cells sets)) else Update t to (map (cell_value (table_at tables t).toast) (cells_with old.stored.cells sets))) ∷ []) (away (is_eq (int_cmp old.stored.key to)) refl)
      ∙ ap (λ (k : ℤ). Move t k to (map (cell_value (table_at tables t).toast) (cells_with old.stored.cells sets)) ∷ []) is
      ∙ ap (λ (values : Row). Move t from to values ∷ []) (values_set (table_at tables t).toast sets old.stored.cells);
  names = λ p. refl;
}
  where
    away : (b : Bool) → is_eq (int_cmp old.stored.key to) ≡ b → not b ≡ true
    away true e = absurd (differ (sym is ∙ key_is old.stored.key to e))
    away false e = refl
