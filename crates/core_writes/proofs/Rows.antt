-- The cells of a write's new row: what may stand in each column, which pointers it keeps, and its values.
use Rattle.std.proofs.Common.{ap, refl, subst, sym, ◌∙◌}
use Rattle.std.proofs.Common.{arith, inl, inr}
use Rattle.std.proofs.lemmas.List.Elements.{All-cons, All-nil}
use Rattle.std.specs.List.{All, AllByRecursion, IsDistinct, enumerate_from}
use Rattle.std.specs.Option.{option_map_or}
use Rattle.std.specs.Prelude.{Bool, Contains, List, None, Option, Some, [], cond, false, length, map, nat_eq, slice_get, slice_index_or, slice_set, suc, true, zero, ℕ, ⊤, ◌+◌, ◌==◌, ◌∷◌, ◌≡◌, ◌⊎◌}
use Rattle.list_facts.proofs.Changed.{set_same, set_twice}
use Rattle.list_facts.proofs.Members.{first_in, later_in}
use Rattle.external_pointer.specs.declared.external.Pointer.{Pointer}
use Rattle.tuple_layout.specs.Places.{Row}
use Rattle.tuple_layout.specs.Tuples.{IsWithinLimits}
use Rattle.tuple_layout.specs.declared.Storage.{Storage}
use Rattle.tuple_layout.specs.declared.Storage.TheVariants.{External, Plain}
use Rattle.tuple_layout.specs.declared.cell.Cell.{Cell}
use Rattle.tuple_layout.specs.declared.cell.Cell.TheVariants.{Inline, Null, Out}
use Rattle.toast_store.specs.Stores.{Store}
use Rattle.command_set.specs.Plain.{value_set}
use Rattle.command_set.specs.declared.Set.{Set}
use Rattle.table_state.specs.Rows.{cell_value, pointer_of}
use Rattle.table_state.specs.Tables.{AreCellsOf, IsCellOf}
use Rattle.core_state.specs.Begun.{cell_in_line}
use Rattle.core_state.specs.Commands.{IsValue}
use Rattle.core_state.specs.Facts.{ids_in}

-- ---- values in line

line_points : (value : Option (List ℕ)) → pointer_of (cell_in_line value) ≡ None
line_points None = refl
line_points (Some bytes) = refl

line_value : (store : Store) (value : Option (List ℕ)) → cell_value store (cell_in_line value) ≡ value
line_value store None = refl
line_value store (Some bytes) = refl

line_cell : (rel : ℕ) (storage : Storage) (value : Option (List ℕ)) → IsValue value → IsCellOf rel storage (cell_in_line value)
line_cell rel storage None is = tt
line_cell rel storage (Some bytes) is = is bytes refl

-- the cells of a row from a column on, some of them set
abbrev pub set_from : ℕ → List Cell → List Set → List Cell
set_from column cells sets = map (λ (n, cell). option_map_or cell_in_line (value_set sets n) cell) (enumerate_from column cells)

-- ---- what may stand in each column

pub inserted_cells : (rel : ℕ) (storages : List Storage) (row : Row) → ((value : Option (List ℕ)) → Contains row value → IsValue value) → AreCellsOf rel storages (map cell_in_line row)
inserted_cells rel [] row each = tt
inserted_cells rel (storage ∷ storages) [] each = tt
inserted_cells rel (storage ∷ storages) (value ∷ row) each = (
  line_cell rel storage value (each value (first_in value row value refl)),
  inserted_cells rel storages row (λ v there. each v (later_in value row v there)),
)

pub updated_cells : (rel : ℕ) (storages : List Storage) (column : ℕ) (cells : List Cell) (sets : List Set) → ((n : ℕ) (value : Option (List ℕ)) → value_set sets n ≡ Some value → IsValue value) → AreCellsOf rel storages cells
    → AreCellsOf rel storages (set_from column cells sets)
updated_cells rel [] column cells sets each old = tt
updated_cells rel (storage ∷ storages) column [] sets each old = tt
updated_cells rel (storage ∷ storages) column (cell ∷ cells) sets each old = (by (value_set sets column) refl, updated_cells rel storages (column + 1) cells sets each old.1)
  where
    by : (o : Option (Option (List ℕ))) → value_set sets column ≡ o → IsCellOf rel storage (option_map_or cell_in_line o cell)
    by None e = old.0
    by (Some value) e = line_cell rel storage value (each column value e)

-- each value that is set is one of the sets'
pub set_value : (sets : List Set) (n : ℕ) (value : Option (List ℕ)) → ((set : Set) → Contains sets set → IsValue set.value) → value_set sets n ≡ Some value → IsValue value
set_value [] n value each e = absurd (cc)
set_value (set ∷ sets) n value each e = by (set_value sets n value (λ other there. each other (later_in set sets other there))) (set.column == n) e
  where
    some_is : (a b : Option (List ℕ)) → Some a ≡ Some b → a ≡ b
    some_is a b is = cc

    by : (value_set sets n ≡ Some value → IsValue value) → (b : Bool) → cond b (Some set.value) (value_set sets n) ≡ Some value → IsValue value
    by rest true f = subst IsValue (some_is set.value value f) (each set (first_in set sets set refl))
    by rest false f = rest f

pub null_cells : (rel : ℕ) (storages : List Storage) (cells : List Cell) (k : ℕ) → AreCellsOf rel storages cells → AreCellsOf rel storages (slice_set cells k Null)
null_cells rel [] cells k old = tt
null_cells rel (storage ∷ storages) [] k old = tt
null_cells rel (storage ∷ storages) (cell ∷ cells) zero old = (tt, old.1)
null_cells rel (storage ∷ storages) (cell ∷ cells) (suc k) old = (old.0, null_cells rel storages cells k old.1)

cell_limits : (rel : ℕ) (storage : Storage) (cell : Cell) → IsCellOf rel storage cell → IsWithinLimits cell
cell_limits rel storage Null is = tt
cell_limits rel storage (Inline value) is = is
cell_limits rel Plain (Out pointer) is = absurd is
cell_limits rel External (Out pointer) is =
    let most = is.2 in
    omega (arith, most)

pub limits_of : (rel : ℕ) (storages : List Storage) (cells : List Cell) → length cells ≡ length storages → AreCellsOf rel storages cells → All IsWithinLimits cells
limits_of rel storages [] same are = All-nil IsWithinLimits
limits_of rel [] (cell ∷ cells) same are = absurd (omega (arith, same))
limits_of rel (storage ∷ storages) (cell ∷ cells) same are = All-cons IsWithinLimits cell cells (cell_limits rel storage cell are.0) (limits_of rel storages cells (omega (arith, same)) are.1)

-- ---- lengths

pub length_inserted : (row : Row) → length (map cell_in_line row) ≡ length row
length_inserted [] = refl
length_inserted (value ∷ row) =
    let rest = length_inserted row in
    omega (arith, rest)

-- ---- which pointers are kept

-- each cell is the old row's in its column, or no pointer
abbrev pub Keeps : List Cell → List Cell → Type 0
Keeps olds [] = ⊤
Keeps [] (cell ∷ cells) = (pointer_of cell ≡ None) × Keeps [] cells
Keeps (old ∷ olds) (cell ∷ cells) = ((cell ≡ old) ⊎ (pointer_of cell ≡ None)) × Keeps olds cells

pub inserted_keeps : (row : Row) → Keeps [] (map cell_in_line row)
inserted_keeps [] = tt
inserted_keeps (value ∷ row) = (line_points value, inserted_keeps row)

pub updated_keeps : (column : ℕ) (cells : List Cell) (sets : List Set) → Keeps cells (set_from column cells sets)
updated_keeps column [] sets = tt
updated_keeps column (cell ∷ cells) sets = (by (value_set sets column), updated_keeps (column + 1) cells sets)
  where
    by : (o : Option (Option (List ℕ))) → (option_map_or cell_in_line o cell ≡ cell) ⊎ (pointer_of (option_map_or cell_in_line o cell) ≡ None)
    by None = inl refl
    by (Some value) = inr (line_points value)

pub null_keeps : (olds cells : List Cell) (k : ℕ) → Keeps olds cells → Keeps olds (slice_set cells k Null)
null_keeps olds [] k old = tt
null_keeps [] (cell ∷ cells) zero old = (refl, old.1)
null_keeps [] (cell ∷ cells) (suc k) old = (old.0, null_keeps [] cells k old.1)
null_keeps (was ∷ olds) (cell ∷ cells) zero old = (inr refl, old.1)
null_keeps (was ∷ olds) (cell ∷ cells) (suc k) old = (old.0, null_keeps olds cells k old.1)

pub kept_at : (olds cells : List Cell) (k : ℕ) (pointer : Pointer) → Keeps olds cells → slice_index_or cells k Null ≡ Out pointer → slice_index_or olds k Null ≡ Out pointer
kept_at olds [] k pointer keeps e = absurd (cc)
kept_at [] (cell ∷ cells) zero pointer keeps e = absurd (none_some pointer (sym keeps.0 ∙ ap pointer_of e))
  where
    none_some : (p : Pointer) → None ≡ Some p → ⊥
    none_some p f = absurd (cc)
kept_at [] (cell ∷ cells) (suc k) pointer keeps e = kept_at [] cells k pointer keeps.1 e
kept_at (old ∷ olds) (cell ∷ cells) zero pointer keeps e = elim keeps.0 [
  | inl is ↦ sym is ∙ e
  | inr none ↦ absurd (none_some pointer (sym none ∙ ap pointer_of e))
]
  where
    none_some : (p : Pointer) → None ≡ Some p → ⊥
    none_some p f = absurd (cc)
kept_at (old ∷ olds) (cell ∷ cells) (suc k) pointer keeps e = kept_at olds cells k pointer keeps.1 e

-- ---- no two have one id

later_ids : (P : ℕ → Type 0) (cell : Cell) (cells : List Cell) → AllByRecursion P (ids_in (cell ∷ cells)) → AllByRecursion P (ids_in cells)
later_ids P Null cells all = all
later_ids P (Inline value) cells all = all
later_ids P (Out pointer) cells all = all.1

ids_kept : (P : ℕ → Type 0) (olds cells : List Cell) → Keeps olds cells → AllByRecursion P (ids_in olds) → AllByRecursion P (ids_in cells)
ids_kept P olds [] keeps all = tt
ids_kept P [] (Null ∷ cells) keeps all = ids_kept P [] cells keeps.1 all
ids_kept P [] (Inline value ∷ cells) keeps all = ids_kept P [] cells keeps.1 all
ids_kept P [] (Out pointer ∷ cells) keeps all =
    let none = keeps.0 in
    absurd (cc)
ids_kept P (old ∷ olds) (Null ∷ cells) keeps all = ids_kept P olds cells keeps.1 (later_ids P old olds all)
ids_kept P (old ∷ olds) (Inline value ∷ cells) keeps all = ids_kept P olds cells keeps.1 (later_ids P old olds all)
ids_kept P (old ∷ olds) (Out pointer ∷ cells) keeps all = elim keeps.0 [
  | inl is ↦
      let here : AllByRecursion P (ids_in (Out pointer ∷ olds)) = subst (λ (c : Cell). AllByRecursion P (ids_in (c ∷ olds))) (sym is) all in
      (here.0, ids_kept P olds cells keeps.1 here.1)
  | inr none ↦ absurd (cc)
]

later_distinct : (cell : Cell) (cells : List Cell) → IsDistinct nat_eq (ids_in (cell ∷ cells)) → IsDistinct nat_eq (ids_in cells)
unfolding IsDistinct
later_distinct Null cells all = all
later_distinct (Inline value) cells all = all
later_distinct (Out pointer) cells all = all.1

pub distinct_kept : (olds cells : List Cell) → Keeps olds cells → IsDistinct nat_eq (ids_in olds) → IsDistinct nat_eq (ids_in cells)
unfolding IsDistinct
distinct_kept olds [] keeps all = tt
distinct_kept [] (Null ∷ cells) keeps all = distinct_kept [] cells keeps.1 all
distinct_kept [] (Inline value ∷ cells) keeps all = distinct_kept [] cells keeps.1 all
distinct_kept [] (Out pointer ∷ cells) keeps all =
    let none = keeps.0 in
    absurd (cc)
distinct_kept (old ∷ olds) (Null ∷ cells) keeps all = distinct_kept olds cells keeps.1 (later_distinct old olds all)
distinct_kept (old ∷ olds) (Inline value ∷ cells) keeps all = distinct_kept olds cells keeps.1 (later_distinct old olds all)
distinct_kept (old ∷ olds) (Out pointer ∷ cells) keeps all = elim keeps.0 [
  | inl is ↦
      let here : IsDistinct nat_eq (ids_in (Out pointer ∷ olds)) = subst (λ (c : Cell). IsDistinct nat_eq (ids_in (c ∷ olds))) (sym is) all in
      (ids_kept (λ (id : ℕ). nat_eq pointer.value_id id ≡ false) olds cells keeps.1 here.0, distinct_kept olds cells keeps.1 here.1)
  | inr none ↦ absurd (cc)
]

-- ---- values

pub inserted_values : (store : Store) (row : Row) → map (cell_value store) (map cell_in_line row) ≡ row
inserted_values store [] = refl
inserted_values store (value ∷ row) = ap (λ (v : Option (List ℕ)). v ∷ map (cell_value store) (map cell_in_line row)) (line_value store value) ∙ ap (λ (rest : Row). value ∷ rest) (inserted_values store row)

-- a value that was taken out of a row and is put back
pub put_back : (cells : List Cell) (k : ℕ) (value : List ℕ) → slice_get cells k ≡ Some (Inline value) → slice_set (slice_set cells k Null) k (Inline value) ≡ cells
put_back cells k value e = set_twice cells k Null (Inline value) ∙ set_same cells k (Inline value) e
