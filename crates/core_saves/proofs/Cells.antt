-- Rows with another cell in a column: their pointers, and what their columns may have.
use Rattle.std.proofs.Common.{Bool, Contains, List, Some, [], ap, arith, false, inl, inr, length, refl, subst, suc, sym, true, zero, ℕ, ◌+◌, ◌-◌, ◌<◌, ◌∙◌, ◌∷◌, ◌≡◌, ◌≢◌, ◌⊎◌}
use Rattle.std.proofs.lemmas.Bool.Decides.{nat_tests}
use Rattle.std.specs.List.{AllByRecursion, IsDistinct}
use Rattle.std.specs.Prelude.{nat_eq, slice_get, slice_index_or, slice_set, ◌==◌}
use Rattle.list_facts.proofs.Members.{cases_in, first_in, later_in, none_in_nil}
use Rattle.external_pointer.specs.declared.external.Pointer.{Pointer}
use Rattle.tuple_layout.specs.declared.Storage.TheVariants.{External}
use Rattle.tuple_layout.specs.declared.Storage.{Storage}
use Rattle.tuple_layout.specs.declared.cell.Cell.TheVariants.{Inline, Null, Out}
use Rattle.tuple_layout.specs.declared.cell.Cell.{Cell}
use Rattle.write_steps.specs.Writes.{cell_of}
use Rattle.table_state.specs.Rows.{pointers_in}
use Rattle.table_state.specs.Tables.{AreCellsOf, IsCellOf}
use Rattle.core_state.proofs.Lists.{read_other, read_written}
use Rattle.core_state.specs.Facts.{ids_in}

-- a column has the cell that was written, or what it had
pub cell_cases : (cells : List Cell) (i : ℕ) (cell : Cell) (column : ℕ) → i < length cells → (cell_of (slice_set cells i cell) column ≡ cell) ⊎ (cell_of (slice_set cells i cell) column ≡ cell_of cells column)
cell_cases cells i cell column low = by ((column - 1) == i) refl
  where
    by : (b : Bool) → ((column - 1) == i) ≡ b → (cell_of (slice_set cells i cell) column ≡ cell) ⊎ (cell_of (slice_set cells i cell) column ≡ cell_of cells column)
    by true same =
        let is : column - 1 ≡ i = grind (arith, nat_tests, same) in
        inl (ap (λ (k : ℕ). slice_index_or (slice_set cells i cell) k Null) is ∙ read_written cells i cell Null low)
    by false apart =
        let differ : column - 1 ≢ i = grind (arith, nat_tests, apart) in
        inr (read_other cells i (column - 1) cell Null differ)

-- a pointer in a column is one of the row's
pub cell_pointer_in : (cells : List Cell) (i : ℕ) (p : Pointer) → slice_index_or cells i Null ≡ Out p → Contains (pointers_in cells) p
cell_pointer_in [] i p e = absurd (cc)
cell_pointer_in (cell ∷ cells) zero p e = subst (λ (c : Cell). Contains (pointers_in (c ∷ cells)) p) (sym e) (first_in p (pointers_in cells) p refl)
cell_pointer_in (Null ∷ cells) (suc i) p e = cell_pointer_in cells i p e
cell_pointer_in (Inline value ∷ cells) (suc i) p e = cell_pointer_in cells i p e
cell_pointer_in (Out q ∷ cells) (suc i) p e = later_in q (pointers_in cells) p (cell_pointer_in cells i p e)

-- and each of the row's stands in one
pub pointer_from : (cells : List Cell) (p : Pointer) → Contains (pointers_in cells) p → (column : ℕ) × (cell_of cells column ≡ Out p)
pointer_from cells p e = let at = by cells e in (at.0 + 1, ap (λ (k : ℕ). slice_index_or cells k Null) (omega arith) ∙ at.1)
  where
    by : (its : List Cell) → Contains (pointers_in its) p → (i : ℕ) × (slice_index_or its i Null ≡ Out p)
    by [] e = absurd (none_in_nil p e)
    by (Null ∷ rest) e = let at = by rest e in (suc at.0, at.1)
    by (Inline value ∷ rest) e = let at = by rest e in (suc at.0, at.1)
    by (Out q ∷ rest) e = elim (cases_in q (pointers_in rest) p e) [
      | inl is ↦ (zero, ap Out is)
      | inr later ↦ let at = by rest later in (suc at.0, at.1)
    ]

-- ---- distinct ids

-- all ids of a row pass a test that all passed before, and that of the pointer which was written
all_set : (test : ℕ → Type 0) (cells : List Cell) (i : ℕ) (p : Pointer) → test p.value_id → AllByRecursion test (ids_in cells) → AllByRecursion test (ids_in (slice_set cells i (Out p)))
all_set test [] i p mine all = tt
all_set test (Null ∷ cells) zero p mine all = (mine, all)
all_set test (Inline value ∷ cells) zero p mine all = (mine, all)
all_set test (Out q ∷ cells) zero p mine all = (mine, all.1)
all_set test (Null ∷ cells) (suc i) p mine all = all_set test cells i p mine all
all_set test (Inline value ∷ cells) (suc i) p mine all = all_set test cells i p mine all
all_set test (Out q ∷ cells) (suc i) p mine all = (all.0, all_set test cells i p mine all.1)

all_taken : (test : ℕ → Type 0) (cells : List Cell) (i : ℕ) → AllByRecursion test (ids_in cells) → AllByRecursion test (ids_in (slice_set cells i Null))
all_taken test [] i all = tt
all_taken test (Null ∷ cells) zero all = all
all_taken test (Inline value ∷ cells) zero all = all
all_taken test (Out q ∷ cells) zero all = all.1
all_taken test (Null ∷ cells) (suc i) all = all_taken test cells i all
all_taken test (Inline value ∷ cells) (suc i) all = all_taken test cells i all
all_taken test (Out q ∷ cells) (suc i) all = (all.0, all_taken test cells i all.1)

apart_sym : (a b : ℕ) → nat_eq a b ≡ false → nat_eq b a ≡ false
apart_sym a b e = grind (arith, nat_tests, e)

-- with the pointer of an id that none has, and without one, they are distinct still
pub distinct_set : (cells : List Cell) (i : ℕ) (p : Pointer) → IsDistinct nat_eq (p.value_id ∷ ids_in cells) → IsDistinct nat_eq (ids_in (slice_set cells i (Out p)))
unfolding IsDistinct
distinct_set [] i p is = tt
distinct_set (Null ∷ cells) zero p is = is
distinct_set (Inline value ∷ cells) zero p is = is
distinct_set (Out q ∷ cells) zero p is = (is.0.1, is.1.1)
distinct_set (Null ∷ cells) (suc i) p is = distinct_set cells i p is
distinct_set (Inline value ∷ cells) (suc i) p is = distinct_set cells i p is
distinct_set (Out q ∷ cells) (suc i) p is = (all_set (λ (y : ℕ). nat_eq q.value_id y ≡ false) cells i p (apart_sym p.value_id q.value_id is.0.0) is.1.0, distinct_set cells i p (is.0.1, is.1.1))

pub distinct_taken : (cells : List Cell) (i : ℕ) → IsDistinct nat_eq (ids_in cells) → IsDistinct nat_eq (ids_in (slice_set cells i Null))
unfolding IsDistinct
distinct_taken [] i is = tt
distinct_taken (Null ∷ cells) zero is = is
distinct_taken (Inline value ∷ cells) zero is = is
distinct_taken (Out q ∷ cells) zero is = is.1
distinct_taken (Null ∷ cells) (suc i) is = distinct_taken cells i is
distinct_taken (Inline value ∷ cells) (suc i) is = distinct_taken cells i is
distinct_taken (Out q ∷ cells) (suc i) is = (all_taken (λ (y : ℕ). nat_eq q.value_id y ≡ false) cells i is.0, distinct_taken cells i is.1)

-- an id that none has is distinct from all
all_apart : (id : ℕ) (ids : List ℕ) → ((its : ℕ) → Contains ids its → id ≢ its) → AllByRecursion (λ (y : ℕ). nat_eq id y ≡ false) ids
all_apart id [] apart = tt
all_apart id (first ∷ ids) apart =
    let differ : id ≢ first = apart first (first_in first ids first refl) in
    (grind (arith, nat_tests, differ), all_apart id ids (λ its e. apart its (later_in first ids its e)))

pub distinct_more : (id : ℕ) (ids : List ℕ) → ((its : ℕ) → Contains ids its → id ≢ its) → IsDistinct nat_eq ids → IsDistinct nat_eq (id ∷ ids)
unfolding IsDistinct
distinct_more id ids apart is = (all_apart id ids apart, is)

-- ---- what columns may have

pub cells_set : (toast_rel : ℕ) (storages : List Storage) (cells : List Cell) (i : ℕ) (p : Pointer) → slice_get storages i ≡ Some External → IsCellOf toast_rel External (Out p) → AreCellsOf toast_rel storages cells → AreCellsOf toast_rel storages (slice_set cells i (Out p))
cells_set toast_rel [] cells i p here fits are = tt
cells_set toast_rel (storage ∷ storages) [] i p here fits are = tt
cells_set toast_rel (storage ∷ storages) (cell ∷ cells) zero p here fits are =
    let is : storage ≡ External = cc in
    (subst (λ (its : Storage). IsCellOf toast_rel its (Out p)) (sym is) fits, are.1)
cells_set toast_rel (storage ∷ storages) (cell ∷ cells) (suc i) p here fits are = (are.0, cells_set toast_rel storages cells i p here fits are.1)

pub cells_taken : (toast_rel : ℕ) (storages : List Storage) (cells : List Cell) (i : ℕ) → AreCellsOf toast_rel storages cells → AreCellsOf toast_rel storages (slice_set cells i Null)
cells_taken toast_rel [] cells i are = tt
cells_taken toast_rel (storage ∷ storages) [] i are = tt
cells_taken toast_rel (storage ∷ storages) (cell ∷ cells) zero are = (tt, are.1)
cells_taken toast_rel (storage ∷ storages) (cell ∷ cells) (suc i) are = (are.0, cells_taken toast_rel storages cells i are.1)
