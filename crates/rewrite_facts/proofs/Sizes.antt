-- Widths and sizes: a version that fits on a page has a copy that does.
use Rattle.std.proofs.Common.{◌≡◌, ℕ, suc, ◌+◌, ◌-◌, ◌≤◌, inl, inr, true, false, Option, Some, None, List, [], ◌∷◌, length, map, slice_get, nat_le, refl, ap, ◌∙◌, arith}
use Rattle.std.specs.List.{AllZip, enumerate_from}
use Rattle.std.specs.Option.{option_map_or}
use Rattle.std.proofs.lemmas.Bool.{cases_lt, false≢true}
use Rattle.std.proofs.lemmas.Bool.Decides.{nat_tests}
use Rattle.std.proofs.lemmas.List.{length-map}
use Rattle.external_pointer.specs.declared.external.Pointer.{Pointer}
use Rattle.tuple_layout.specs.declared.Storage.{Storage}
use Rattle.tuple_layout.specs.declared.Storage.TheVariants.{External}
use Rattle.tuple_layout.specs.declared.cell.Cell.{Cell}
use Rattle.tuple_layout.specs.declared.cell.Cell.TheVariants.{Null, Inline, Out}
use Rattle.tuple_layout.specs.Places.{Row}
use Rattle.tuple_layout.specs.Sizes.{Width, all_out_size, is_eligible, is_eligible_column, largest_tuple, least_out, size, width, widths}
use Rattle.tuple_layout.specs.Tuples.{cell_width, cell_widths, is_outside}
use Rattle.tuple_layout.proofs.HeaderRead.{length-tuple}
use Rattle.tuple_toaster.specs.Kept.{IsCellOf, is_out_column}
use Rattle.tuple_toaster.specs.Pushed.{all_moved_size, pushed, size_with, tuple_target}
use Rattle.tuple_toaster.proofs.AllOut.{one_size}
use Rattle.tuple_toaster.proofs.Going.{cells_widths}
use Rattle.tuple_toaster.proofs.Least.{least}
use Rattle.tuple_toaster.proofs.Walks.{large_has_all}
use Rattle.row_versions.specs.declared.version.Version.{Version}
use Rattle.toast_store.specs.Stores.{Store}
use Rattle.toast_store.specs.Values.{Whole, value_in}
use Rattle.table_state.specs.declared.table.Table.{Table}
use Rattle.table_state.specs.Cells.{cells_in}
use Rattle.table_state.specs.Rows.{cell_value}
use Rattle.table_state.specs.Tables.{stored_in}
use Rattle.rewrite_facts.specs.Copies.{AreRowCells, AreWhole, IsCopyable, chosen_widths, inline_widths, row_in_old}
use Rattle.rewrite_facts.proofs.Cells.{pointer_external, pointer_sizes, value_at}

-- cells without a pointer have the widths of a row all of whose values are inline
inline_from : (store : Store) (n : ℕ) (cells : List Cell) → ((k : ℕ) (p : Pointer) → slice_get cells k ≡ Some (Out p) → ⊥) → cell_widths cells ≡ map (λ (column, value). width value false) (enumerate_from n (map (cell_value store) cells))
inline_from store n [] none = refl
inline_from store n (cell ∷ cells) none = ap (λ (w : Width). w ∷ cell_widths cells) (by_cell cell (none 0)) ∙ ap (λ (ws : List Width). width (cell_value store cell) false ∷ ws) (inline_from store (n + 1) cells (λ k. none (suc k)))
  where
    by_cell : (c : Cell) → ((p : Pointer) → Some c ≡ Some (Out p) → ⊥) → cell_width c ≡ width (cell_value store c) false
    by_cell Null out = refl
    by_cell (Inline value) out = refl
    by_cell (Out p) out = absurd (out p refl)

pub inline_is : (store : Store) (cells : List Cell) → ((k : ℕ) (p : Pointer) → slice_get cells k ≡ Some (Out p) → ⊥) → cell_widths cells ≡ inline_widths (map (cell_value store) cells)
inline_is store cells none = inline_from store 1 cells none

-- cells stand for their values
stand_for : (store : Store) (cells : List Cell) → AllZip IsCellOf cells (map (cell_value store) cells)
stand_for store [] = tt
stand_for store (Null ∷ cells) = (refl, stand_for store cells)
stand_for store (Inline value ∷ cells) = (refl, stand_for store cells)
stand_for store (Out p ∷ cells) = (refl, stand_for store cells)

-- a column that is out has a pointer
out_pointer : (o : Option Cell) → option_map_or (λ cell. is_outside (cell_width cell)) o false ≡ true → (p : Pointer) × (o ≡ Some (Out p))
out_pointer None e = absurd (false≢true e)
out_pointer (Some Null) e = absurd (false≢true e)
out_pointer (Some (Inline value)) e = absurd (false≢true e)
out_pointer (Some (Out p)) e = (p, refl)

-- and may be out
out_eligible : (schema : List Storage) (store : Store) (cells : List Cell) → length cells ≡ length schema → AreRowCells schema cells → AreWhole store cells → (column : ℕ) → is_out_column cells column ≡ true → is_eligible_column schema (map (cell_value store) cells) column ≡ true
out_eligible schema store cells one_each limits whole column out =
    let has = out_pointer (slice_get cells (column - 1)) out in
    let p : Pointer = has.0 in
    let sizes = pointer_sizes schema cells (column - 1) p one_each limits has.1 in
    let bytes = Whole.size (whole.each (column - 1) p has.1) in
    ap (λ (o : Option Storage). option_map_or (λ storage. option_map_or (is_eligible storage) (slice_get (map (cell_value store) cells) (column - 1)) false) o false) (pointer_external schema cells (column - 1) p one_each limits has.1)
    ∙ ap (λ (o : Option (Option (List ℕ))). option_map_or (is_eligible External) o false) (value_at store cells (column - 1) (Out p) has.1)
    ∙ long_enough (length (value_in store p)) (omega (arith, sizes.0, bytes))
  where
    long_enough : (n : ℕ) → least_out ≤ n → nat_le least_out n ≡ true
    long_enough n at_least = grind (arith, nat_tests)

-- with all out that may be, the row of a version takes at most what the version's tuple takes
pub row_fits : (old : Table) (was : Version) → length old.rows.schema.storages ≤ 8 → IsCopyable old was → length was.tuple ≤ largest_tuple → all_moved_size old.rows.schema.storages (inline_widths (row_in_old old was)) ≤ largest_tuple
row_fits old was few can small = omega (arith, moved, most, tuple_size, small)
  where
    schema : List Storage
    schema = old.rows.schema.storages

    cells : List Cell
    cells = cells_in schema was.tuple

    row : Row
    row = row_in_old old was

    long : length row ≡ length schema
    long = length-map cells (cell_value old.toast) ∙ can.stored.has.one_each

    moved : all_moved_size schema (inline_widths row) ≡ all_out_size schema row
    moved = one_size schema row (λ column. false) long (λ column e. absurd (false≢true e))

    most : all_out_size schema row ≤ size schema (widths row (is_out_column cells))
    most = least schema row (is_out_column cells) (out_eligible schema old.toast cells can.stored.has.one_each can.cells can.whole)

    tuple_size : length was.tuple ≡ size schema (widths row (is_out_column cells))
    tuple_size = ap length can.stored.is ∙ length-tuple schema (stored_in schema was.key was.tuple) few can.stored.has.one_each ∙ ap (size schema) (cells_widths cells row (stand_for old.toast cells))

-- so what is chosen does not leave too much
pub chosen_fits : (old : Table) (was : Version) → length old.rows.schema.storages ≤ 8 → IsCopyable old was → length was.tuple ≤ largest_tuple → size old.rows.schema.storages (chosen_widths old.rows.schema.storages (row_in_old old was)) ≤ largest_tuple
chosen_fits old was few can small = elim (cases_lt tuple_target (size_with schema ws (pushed schema ws tuple_target))) [
  | inl large ↦ let is = large_has_all schema ws tuple_target large in let all = row_fits old was few can small in omega (arith, is, all)
  | inr fits ↦ omega (arith, fits)
]
  where
    schema : List Storage
    schema = old.rows.schema.storages

    ws : List Width
    ws = inline_widths (row_in_old old was)
