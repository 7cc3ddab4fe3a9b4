-- The widths of a new row, by its cells and as the stream tells it: the columns that it keeps are those that are out of line.
use Rattle.std.proofs.Common.{ap, arith, refl, sym, ◌∙◌}
use Rattle.std.proofs.lemmas.Bool.Decides.{nat_tests}
use Rattle.std.specs.List.{enumerate_from}
use Rattle.std.specs.Option.{option_map_or}
use Rattle.std.specs.Prelude.{Bool, List, None, Option, Some, [], false, if◌then◌else◌, is_none, map, slice_index_or, suc, true, zero, ℕ, ◌&&◌, ◌+◌, ◌==◌, ◌||◌, ◌∷◌, ◌≡◌}
use Rattle.tuple_layout.specs.Places.{Row}
use Rattle.tuple_layout.specs.Sizes.{Width, width, widths}
use Rattle.tuple_layout.specs.Tuples.{cell_width, cell_widths}
use Rattle.tuple_layout.specs.declared.cell.Cell.{Cell}
use Rattle.tuple_layout.specs.declared.cell.Cell.TheVariants.{Inline, Null, Out}
use Rattle.tuple_toaster.specs.Pushed.{is_among}
use Rattle.command_set.specs.Plain.{value_set}
use Rattle.command_set.specs.declared.Set.{Set}
use Rattle.toast_store.specs.Stores.{Store}
use Rattle.table_state.specs.Rows.{cell_value}
use Rattle.core_state.specs.Begun.{cell_in_line, cells_with}
use Rattle.change_stream.specs.Streams.{unset}
use Rattle.core_outs.specs.Outs.{AreOut, is_out}

-- ---- the columns that are kept

-- a column is kept where it was out of line and is not set
pub among_unset : (sets : List Set) (columns : List ℕ) (n : ℕ) → is_among (unset sets columns) n ≡ (is_none (value_set sets n) && is_among columns n)
among_unset sets [] n = none (is_none (value_set sets n))
  where
    none : (b : Bool) → false ≡ (b && false)
    none true = refl
    none false = refl
among_unset sets (column ∷ columns) n = by (value_set sets column) refl (among_unset sets columns n)
  where
    both : (b : Bool) → (column == n) ≡ b → is_none (value_set sets column) ≡ true → is_among (unset sets columns) n ≡ (is_none (value_set sets n) && is_among columns n) → (b || is_among (unset sets columns) n) ≡ (is_none (value_set sets n) && (b || is_among columns n))
    both true same free rest =
        let is : column ≡ n = grind (arith, nat_tests, same) in
        rw (ap (λ (k : ℕ). is_none (value_set sets k)) (sym is) ∙ free) refl
    both false apart free rest = rest

    skip : (b : Bool) → (column == n) ≡ b → is_none (value_set sets column) ≡ false → is_among (unset sets columns) n ≡ (is_none (value_set sets n) && is_among columns n) → is_among (unset sets columns) n ≡ (is_none (value_set sets n) && (b || is_among columns n))
    skip true same taken rest =
        let is : column ≡ n = grind (arith, nat_tests, same) in
        let none : is_none (value_set sets n) ≡ false = ap (λ (k : ℕ). is_none (value_set sets k)) (sym is) ∙ taken in
        rest ∙ rw none refl
    skip false apart taken rest = rest

    by : (o : Option (Option (List ℕ))) → value_set sets column ≡ o → is_among (unset sets columns) n ≡ (is_none (value_set sets n) && is_among columns n)
        → is_among (if is_none o then column ∷ unset sets columns else unset sets columns) n ≡ (is_none (value_set sets n) && (column == n || is_among columns n))
    by None e rest = both (column == n) refl (ap is_none e) rest
    by (Some value) e rest = skip (column == n) refl (ap is_none e) rest

-- ---- the widths

line_width : (o : Option (List ℕ)) (toast : Store) → cell_width (cell_in_line o) ≡ width (cell_value toast (cell_in_line o)) false
line_width None toast = refl
line_width (Some value) toast = refl

kept_width : (cell : Cell) (toast : Store) → cell_width cell ≡ width (cell_value toast cell) (is_out cell)
kept_width Null toast = refl
kept_width (Inline value) toast = refl
kept_width (Out pointer) toast = refl

-- a column of an update
column_width : (toast : Store) (sets : List Set) (columns : List ℕ) (n : ℕ) (cell : Cell) → is_among columns n ≡ is_out cell
    → cell_width (option_map_or cell_in_line (value_set sets n) cell) ≡ width (cell_value toast (option_map_or cell_in_line (value_set sets n) cell)) (is_among (unset sets columns) n)
column_width toast sets columns n cell out = by (value_set sets n) refl
  where
    by : (o : Option (Option (List ℕ))) → value_set sets n ≡ o → cell_width (option_map_or cell_in_line o cell) ≡ width (cell_value toast (option_map_or cell_in_line o cell)) (is_among (unset sets columns) n)
    by None e = kept_width cell toast ∙ ap (width (cell_value toast cell)) (sym (among_unset sets columns n ∙ ap (λ (b : Bool). b && is_among columns n) (ap is_none e) ∙ out))
    by (Some value) e = line_width value toast ∙ ap (width (cell_value toast (cell_in_line value))) (sym (among_unset sets columns n ∙ ap (λ (b : Bool). b && is_among columns n) (ap is_none e)))

updated_from : (toast : Store) (sets : List Set) (columns : List ℕ) (n : ℕ) (cells : List Cell) → ((k : ℕ) → is_among columns (n + k) ≡ is_out (slice_index_or cells k Null))
    → cell_widths (map (λ (column, cell). option_map_or cell_in_line (value_set sets column) cell) (enumerate_from n cells))
    ≡ map (λ (column, value). width value (is_among (unset sets columns) column)) (enumerate_from n (map (cell_value toast) (map (λ (column, cell). option_map_or cell_in_line (value_set sets column) cell) (enumerate_from n cells))))
updated_from toast sets columns n [] out = refl
updated_from toast sets columns n (cell ∷ cells) out =
    let place : n + 0 ≡ n = omega arith in
    let here : is_among columns n ≡ is_out cell = ap (is_among columns) (sym place) ∙ out 0 in
    let rest = updated_from toast sets columns (n + 1) cells (λ k. let next : n + 1 + k ≡ n + suc k = omega arith in ap (is_among columns) next ∙ out (suc k)) in
    ap (λ (w : Width). w ∷ cell_widths (map (λ (column, cell). option_map_or cell_in_line (value_set sets column) cell) (enumerate_from (n + 1) cells))) (column_width toast sets columns n cell here)
    ∙ ap (λ (ws : List Width). width (cell_value toast (option_map_or cell_in_line (value_set sets n) cell)) (is_among (unset sets columns) n) ∷ ws) rest

-- the row of an update or a rekey
pub updated_widths : (toast : Store) (sets : List Set) (columns : List ℕ) (cells : List Cell) → AreOut columns cells
    → cell_widths (cells_with cells sets) ≡ widths (map (cell_value toast) (cells_with cells sets)) (is_among (unset sets columns))
updated_widths toast sets columns cells out = updated_from toast sets columns 1 cells (λ k. let next : 1 + k ≡ suc k = omega arith in ap (is_among columns) next ∙ out.each k)

inserted_from : (toast : Store) (n : ℕ) (row : Row) → cell_widths (map cell_in_line row) ≡ map (λ (column, value). width value (is_among [] column)) (enumerate_from n (map (cell_value toast) (map cell_in_line row)))
inserted_from toast n [] = refl
inserted_from toast n (value ∷ row) =
    ap (λ (w : Width). w ∷ cell_widths (map cell_in_line row)) (line_width value toast)
    ∙ ap (λ (ws : List Width). width (cell_value toast (cell_in_line value)) false ∷ ws) (inserted_from toast (n + 1) row)

-- and that of an insert
pub inserted_widths : (toast : Store) (row : Row) → cell_widths (map cell_in_line row) ≡ widths (map (cell_value toast) (map cell_in_line row)) (is_among [])
inserted_widths toast row = inserted_from toast 1 row

-- ---- which columns are out of line then

cells_out_from : (sets : List Set) (n k : ℕ) (cells : List Cell) → is_out (slice_index_or (map (λ (column, cell). option_map_or cell_in_line (value_set sets column) cell) (enumerate_from n cells)) k Null)
    ≡ (is_none (value_set sets (n + k)) && is_out (slice_index_or cells k Null))
cells_out_from sets n k [] = none (is_none (value_set sets (n + k)))
  where
    none : (b : Bool) → false ≡ (b && false)
    none true = refl
    none false = refl
cells_out_from sets n zero (cell ∷ cells) =
    let place : n + 0 ≡ n = omega arith in
    by (value_set sets n) ∙ ap (λ (i : ℕ). is_none (value_set sets i) && is_out cell) (sym place)
  where
    line : (o : Option (List ℕ)) → is_out (cell_in_line o) ≡ false
    line None = refl
    line (Some value) = refl

    by : (o : Option (Option (List ℕ))) → is_out (option_map_or cell_in_line o cell) ≡ (is_none o && is_out cell)
    by None = refl
    by (Some value) = line value
cells_out_from sets n (suc k) (cell ∷ cells) =
    let next : n + 1 + k ≡ n + suc k = omega arith in
    cells_out_from sets (n + 1) k cells ∙ ap (λ (i : ℕ). is_none (value_set sets i) && is_out (slice_index_or cells k Null)) next

pub cells_out : (sets : List Set) (columns : List ℕ) (cells : List Cell) → AreOut columns cells → AreOut (unset sets columns) (cells_with cells sets)
cells_out sets columns cells out = record {
  each = λ k.
      let next : 1 + k ≡ suc k = omega arith in
      among_unset sets columns (suc k)
      ∙ ap (λ (b : Bool). is_none (value_set sets (suc k)) && b) (out.each k)
      ∙ sym (cells_out_from sets 1 k cells ∙ ap (λ (i : ℕ). is_none (value_set sets i) && is_out (slice_index_or cells k Null)) next);
}

pub row_out : (row : Row) → AreOut [] (map cell_in_line row)
row_out row = record { each = λ k. by row k }
  where
    by : (its : Row) (k : ℕ) → false ≡ is_out (slice_index_or (map cell_in_line its) k Null)
    by [] k = refl
    by (None ∷ its) zero = refl
    by (Some value ∷ its) zero = refl
    by (value ∷ its) (suc k) = by its k
