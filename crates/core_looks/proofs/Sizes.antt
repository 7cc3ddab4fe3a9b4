-- The size of a row with every column out of line that may be, by its cells and by its values.
use Rattle.std.proofs.Common.{Bool, ap, arith, refl, subst, sym, ◌∙◌}
use Rattle.std.proofs.lemmas.Bool.{le-leb}
use Rattle.std.proofs.lemmas.List.{length-map}
use Rattle.std.proofs.lemmas.Option.{slice_get-map}
use Rattle.std.specs.List.{enumerate_from}
use Rattle.std.specs.Option.{option_map, option_map_or, unwrap_or}
use Rattle.std.specs.Prelude.{List, None, Option, Some, [], false, length, map as mapped, slice_get, suc, true, zero, ℕ, ◌+◌, ◌-◌, ◌∷◌, ◌≡◌, ◌≤◌}
use Rattle.external_pointer.specs.declared.external.Pointer.{Pointer}
use Rattle.tuple_layout.specs.Places.{Row}
use Rattle.tuple_layout.specs.Sizes.{Width, all_out_size, is_eligible, least_out, width, widths}
use Rattle.tuple_layout.specs.Tuples.{cell_width, cell_widths}
use Rattle.tuple_layout.specs.Tuples.{is_outside}
use Rattle.tuple_layout.specs.declared.Storage.{Storage}
use Rattle.tuple_layout.specs.declared.Storage.TheVariants.{External}
use Rattle.tuple_layout.specs.declared.cell.Cell.{Cell}
use Rattle.tuple_layout.specs.declared.cell.Cell.TheVariants.{Inline, Null, Out}
use Rattle.tuple_toaster.proofs.AllOut.{one_size}
use Rattle.tuple_toaster.specs.Kept.{is_out_column}
use Rattle.tuple_toaster.specs.Pushed.{all_moved_size}
use Rattle.toast_store.specs.Stores.{Store}
use Rattle.toast_store.specs.Values.{value_in}
use Rattle.command_set.specs.Plain.{row_with, value_set}
use Rattle.command_set.specs.declared.Set.{Set}
use Rattle.table_state.specs.Rows.{cell_value}
use Rattle.core_state.specs.Begun.{cell_in_line, cells_with}

-- ---- the values of changed cells

value_in_line : (toast : Store) (value : Option (List ℕ)) → cell_value toast (cell_in_line value) ≡ value
value_in_line toast None = refl
value_in_line toast (Some bytes) = refl

values_in_line : (toast : Store) (row : Row) → mapped (cell_value toast) (mapped cell_in_line row) ≡ row
values_in_line toast [] = refl
values_in_line toast (value ∷ row) = ap (λ (v : Option (List ℕ)). v ∷ mapped (cell_value toast) (mapped cell_in_line row)) (value_in_line toast value) ∙ ap (λ (rest : Row). value ∷ rest) (values_in_line toast row)

one_set : (toast : Store) (o : Option (Option (List ℕ))) (cell : Cell) → cell_value toast (option_map_or cell_in_line o cell) ≡ unwrap_or o (cell_value toast cell)
one_set toast None cell = refl
one_set toast (Some value) cell = value_in_line toast value

cells_set_from : (toast : Store) (sets : List Set) (n : ℕ) (cells : List Cell)
    → mapped (cell_value toast) (mapped (λ (column, cell). option_map_or cell_in_line (value_set sets column) cell) (enumerate_from n cells)) ≡ mapped (λ (column, value). unwrap_or (value_set sets column) value) (enumerate_from n (mapped (cell_value toast) cells))
cells_set_from toast sets n [] = refl
cells_set_from toast sets n (cell ∷ cells) =
    ap (λ (v : Option (List ℕ)). v ∷ mapped (cell_value toast) (mapped (λ (column, its). option_map_or cell_in_line (value_set sets column) its) (enumerate_from (n + 1) cells))) (one_set toast (value_set sets n) cell)
    ∙ ap (λ (rest : Row). unwrap_or (value_set sets n) (cell_value toast cell) ∷ rest) (cells_set_from toast sets (n + 1) cells)

-- the values of a row that is changed
pub values_set : (toast : Store) (sets : List Set) (cells : List Cell) → mapped (cell_value toast) (cells_with cells sets) ≡ row_with (mapped (cell_value toast) cells) sets
values_set toast sets cells = cells_set_from toast sets 1 cells

length_set_from : (sets : List Set) (n : ℕ) (cells : List Cell) → length (mapped (λ (column, cell). option_map_or cell_in_line (value_set sets column) cell) (enumerate_from n cells)) ≡ length cells
length_set_from sets n [] = refl
length_set_from sets n (cell ∷ cells) =
    let rest = length_set_from sets (n + 1) cells in
    omega (arith, rest)

pub length_cells_set : (sets : List Set) (cells : List Cell) → length (cells_with cells sets) ≡ length cells
length_cells_set sets cells = length_set_from sets 1 cells

-- a pointer in a changed row was in the row, in the same column
pub pointer_kept : (sets : List Set) (n : ℕ) (cells : List Cell) (k : ℕ) (pointer : Pointer) → slice_get (mapped (λ (column, cell). option_map_or cell_in_line (value_set sets column) cell) (enumerate_from n cells)) k ≡ Some (Out pointer) → slice_get cells k ≡ Some (Out pointer)
pointer_kept sets n [] k pointer e = absurd (cc)
pointer_kept sets n (cell ∷ cells) zero pointer e = by (value_set sets n) e
  where
    by : (o : Option (Option (List ℕ))) → Some (option_map_or cell_in_line o cell) ≡ Some (Out pointer) → Some cell ≡ Some (Out pointer)
    by None f = f
    by (Some None) f = absurd (cc)
    by (Some (Some bytes)) f = absurd (cc)
pointer_kept sets n (cell ∷ cells) (suc k) pointer e = pointer_kept sets (n + 1) cells k pointer e

none_in_line : (row : Row) (k : ℕ) (pointer : Pointer) → slice_get (mapped cell_in_line row) k ≡ Some (Out pointer) → ⊥
none_in_line [] k pointer e = absurd (cc)
none_in_line (None ∷ row) zero pointer e = absurd (cc)
none_in_line (Some bytes ∷ row) zero pointer e = absurd (cc)
none_in_line (value ∷ row) (suc k) pointer e = none_in_line row k pointer e

-- ---- widths

one_width : (toast : Store) (cell : Cell) (out : Bool) → out ≡ is_outside (cell_width cell) → width (cell_value toast cell) out ≡ cell_width cell
one_width toast Null out e = refl
one_width toast (Inline value) out e = ap (width (Some value)) e
one_width toast (Out pointer) out e = ap (width (Some (value_in toast pointer))) e

widths_from : (toast : Store) (out : ℕ → Bool) (n : ℕ) (cells : List Cell) → ((k : ℕ) (cell : Cell) → slice_get cells k ≡ Some cell → out (n + k) ≡ is_outside (cell_width cell))
    → mapped (λ (column, value). width value (out column)) (enumerate_from n (mapped (cell_value toast) cells)) ≡ mapped cell_width cells
widths_from toast out n [] each = refl
widths_from toast out n (cell ∷ cells) each =
    let at : n + 0 ≡ n = omega arith in
    let here : out n ≡ is_outside (cell_width cell) = subst (λ (k : ℕ). out k ≡ is_outside (cell_width cell)) at (each 0 cell refl) in
    ap (λ (w : Width). w ∷ mapped (λ (column, value). width value (out column)) (enumerate_from (n + 1) (mapped (cell_value toast) cells))) (one_width toast cell (out n) here)
    ∙ ap (λ (rest : List Width). cell_width cell ∷ rest) (widths_from toast out (n + 1) cells (λ k its e. subst (λ (j : ℕ). out j ≡ is_outside (cell_width its)) (omega arith) (each (suc k) its e)))

widths_are : (toast : Store) (cells : List Cell) → widths (mapped (cell_value toast) cells) (is_out_column cells) ≡ cell_widths cells
widths_are toast cells = widths_from toast (is_out_column cells) 1 cells (λ k cell e. ap (λ (j : ℕ). option_map_or (λ (its : Cell). is_outside (cell_width its)) (slice_get cells j) false) (omega arith) ∙ ap (λ (o : Option Cell). option_map_or (λ (its : Cell). is_outside (cell_width its)) o false) e)

-- ---- one size

-- a pointer stands in a column that may go out, and its value is long enough
abbrev pub MayStand : List Storage → Store → List Cell → Type 0
MayStand storages toast cells = (k : ℕ) (pointer : Pointer) → slice_get cells k ≡ Some (Out pointer) → (slice_get storages k ≡ Some External) × (least_out ≤ length (value_in toast pointer))

eligible_at : (storages : List Storage) (toast : Store) (cells : List Cell) (k : ℕ) → MayStand storages toast cells → option_map_or (λ (its : Cell). is_outside (cell_width its)) (slice_get cells k) false ≡ true
    → option_map_or (λ storage. option_map_or (is_eligible storage) (slice_get (mapped (cell_value toast) cells) k) false) (slice_get storages k) false ≡ true
eligible_at storages toast cells k may out = by (slice_get cells k) refl out
  where
    by : (o : Option Cell) → slice_get cells k ≡ o → option_map_or (λ (its : Cell). is_outside (cell_width its)) o false ≡ true → option_map_or (λ storage. option_map_or (is_eligible storage) (slice_get (mapped (cell_value toast) cells) k) false) (slice_get storages k) false ≡ true
    by None at e = absurd (cc)
    by (Some Null) at e = absurd (cc)
    by (Some (Inline value)) at e = absurd (cc)
    by (Some (Out pointer)) at e =
        let stands = may k pointer at in
        let long = stands.1 in
        let value : slice_get (mapped (cell_value toast) cells) k ≡ Some (Some (value_in toast pointer)) = slice_get-map (cell_value toast) cells k ∙ ap (option_map (cell_value toast)) at in
        ap (λ (o : Option Storage). option_map_or (λ storage. option_map_or (is_eligible storage) (slice_get (mapped (cell_value toast) cells) k) false) o false) stands.0
        ∙ ap (λ (o : Option (Option (List ℕ))). option_map_or (is_eligible External) o false) value
        ∙ le-leb least_out (length (value_in toast pointer)) long

pub size_same : (storages : List Storage) (toast : Store) (cells : List Cell) → length cells ≡ length storages → MayStand storages toast cells → all_moved_size storages (cell_widths cells) ≡ all_out_size storages (mapped (cell_value toast) cells)
size_same storages toast cells long may =
    ap (all_moved_size storages) (sym (widths_are toast cells))
    ∙ one_size storages (mapped (cell_value toast) cells) (is_out_column cells) (length-map cells (cell_value toast) ∙ long) (λ column out. eligible_at storages toast cells (column - 1) may out)

pub inserted_size : (storages : List Storage) (toast : Store) (row : Row) → length row ≡ length storages → all_moved_size storages (cell_widths (mapped cell_in_line row)) ≡ all_out_size storages row
inserted_size storages toast row long =
    size_same storages toast (mapped cell_in_line row) (length-map row cell_in_line ∙ long) (λ k pointer e. absurd (none_in_line row k pointer e))
    ∙ ap (all_out_size storages) (values_in_line toast row)

pub updated_size : (storages : List Storage) (toast : Store) (sets : List Set) (cells : List Cell) → length cells ≡ length storages → MayStand storages toast cells
    → all_moved_size storages (cell_widths (cells_with cells sets)) ≡ all_out_size storages (row_with (mapped (cell_value toast) cells) sets)
updated_size storages toast sets cells long may =
    size_same storages toast (cells_with cells sets) (length_cells_set sets cells ∙ long) (λ k pointer e. may k pointer (pointer_kept sets 1 cells k pointer e))
    ∙ ap (all_out_size storages) (values_set toast sets cells)
