-- The pointers of a row's cells, by their columns, and ids that no two columns have.
use Rattle.std.proofs.Common.{ℕ, zero, suc, ◌≡◌, ◌≢◌, true, false, nat_eq, Some, List, [], ◌∷◌, map, slice_get, Contains, refl, sym, ap, subst, ◌∙◌, inl, inr, arith}
use Rattle.std.specs.List.{AllByRecursion, IsDistinct}
use Rattle.std.proofs.lemmas.Bool.Decides.{nat_tests}
use Rattle.std.proofs.lemmas.Option.{none-some}
use Rattle.list_facts.proofs.Members.{cases_in, first_in, from_map, later_in, none_in_nil}
use Rattle.external_pointer.specs.declared.external.Pointer.{Pointer}
use Rattle.tuple_layout.specs.declared.Storage.{Storage}
use Rattle.tuple_layout.specs.declared.Storage.TheVariants.{Plain, External}
use Rattle.tuple_layout.specs.declared.cell.Cell.{Cell}
use Rattle.tuple_layout.specs.declared.cell.Cell.TheVariants.{Null, Inline, Out}
use Rattle.table_state.specs.Rows.{has_id, pointers_in}
use Rattle.table_state.specs.Tables.{AreCellsOf, IsCellOf}
use Rattle.table_state.proofs.Ids.{id_from, id_in}
use Rattle.rewrite_facts.specs.Copies.{AreRowCells, IsRowCell, id_at, id_of}
use Rattle.rewrite_facts.proofs.Cells.{had_pointer}

-- ---- columns with pointers

-- the ids of cells
abbrev pub ids_in : List Cell → List ℕ
ids_in cells = map (λ (pointer : Pointer). pointer.value_id) (pointers_in cells)

-- a column has a pointer
pub record IsColumn (cells : List Cell) (pointer : Pointer) : Type 0 where
  pub column : ℕ
  pub here : slice_get cells column ≡ Some (Out pointer)

pub column_of : (cells : List Cell) (pointer : Pointer) → Contains (pointers_in cells) pointer → IsColumn cells pointer
column_of [] pointer held = absurd (none_in_nil pointer held)
column_of (Null ∷ cells) pointer held = let found = column_of cells pointer held in record { column = suc found.column; here = found.here }
column_of (Inline value ∷ cells) pointer held = let found = column_of cells pointer held in record { column = suc found.column; here = found.here }
column_of (Out first ∷ cells) pointer held = elim (cases_in first (pointers_in cells) pointer held) [
  | inl is ↦ record { column = zero; here = ap (λ p. Some (Out p)) is }
  | inr later ↦ let found = column_of cells pointer later in record { column = suc found.column; here = found.here }
]

pub pointer_there : (cells : List Cell) (n : ℕ) (pointer : Pointer) → slice_get cells n ≡ Some (Out pointer) → Contains (pointers_in cells) pointer
pointer_there [] n pointer e = absurd (cc)
pointer_there (Null ∷ cells) zero pointer e = absurd (cc)
pointer_there (Null ∷ cells) (suc n) pointer e = pointer_there cells n pointer e
pointer_there (Inline value ∷ cells) zero pointer e = absurd (cc)
pointer_there (Inline value ∷ cells) (suc n) pointer e = pointer_there cells n pointer e
pointer_there (Out q ∷ cells) zero pointer e =
    let is : q ≡ pointer = cc in
    first_in q (pointers_in cells) pointer is
pointer_there (Out q ∷ cells) (suc n) pointer e = later_in q (pointers_in cells) pointer (pointer_there cells n pointer e)

-- some column has a pointer with an id
pub record HasColumn (value_id : ℕ) (cells : List Cell) : Type 0 where
  pub column : ℕ
  pub pointer : Pointer
  pub here : slice_get cells column ≡ Some (Out pointer)
  pub id : pointer.value_id ≡ value_id

pub column_with : (value_id : ℕ) (cells : List Cell) → has_id value_id cells ≡ true → HasColumn value_id cells
column_with value_id cells has =
    let found = id_in value_id cells has in
    let column = column_of cells found.0 found.2 in
    record { column = column.column; pointer = found.0; here = column.here; id = found.1 }

pub id_there : (value_id : ℕ) (cells : List Cell) (n : ℕ) (pointer : Pointer) → slice_get cells n ≡ Some (Out pointer) → pointer.value_id ≡ value_id → has_id value_id cells ≡ true
id_there value_id cells n pointer here is = id_from value_id cells pointer is (pointer_there cells n pointer here)

-- a column whose id is told has a pointer with it
pub record HasOld (cells : List Cell) (n id : ℕ) : Type 0 where
  pub pointer : Pointer
  pub here : slice_get cells n ≡ Some (Out pointer)
  pub is : pointer.value_id ≡ id

pub had_at : (cells : List Cell) (n id : ℕ) → id_at (map id_of cells) n ≡ Some id → HasOld cells n id
had_at [] n id e = absurd (none-some id e)
had_at (cell ∷ cells) zero id e = let found = had_pointer cell id e in record { pointer = found.0; here = ap Some found.1; is = found.2 }
had_at (cell ∷ cells) (suc n) id e = let found = had_at cells n id e in record { pointer = found.pointer; here = found.here; is = found.is }

-- ---- distinct ids

front_differs : (id : ℕ) (cells : List Cell) (k : ℕ) (pointer : Pointer) → AllByRecursion (λ (y : ℕ). nat_eq id y ≡ false) (ids_in cells) → slice_get cells k ≡ Some (Out pointer) → nat_eq id pointer.value_id ≡ false
front_differs id [] k pointer all e = absurd (cc)
front_differs id (Null ∷ cells) zero pointer all e = absurd (cc)
front_differs id (Null ∷ cells) (suc k) pointer all e = front_differs id cells k pointer all e
front_differs id (Inline value ∷ cells) zero pointer all e = absurd (cc)
front_differs id (Inline value ∷ cells) (suc k) pointer all e = front_differs id cells k pointer all e
front_differs id (Out q ∷ cells) zero pointer all e =
    let is : q ≡ pointer = cc in
    subst (λ (r : Pointer). nat_eq id r.value_id ≡ false) is all.0
front_differs id (Out q ∷ cells) (suc k) pointer all e = front_differs id cells k pointer all.1 e

not_same : (a b : ℕ) → a ≡ b → nat_eq a b ≡ false → ⊥
not_same a b e f = absurd (grind (arith, nat_tests, e, f))

-- pointers with one id stand in one column
pub distinct_at : (cells : List Cell) (k j : ℕ) (p q : Pointer) → IsDistinct nat_eq (ids_in cells) → slice_get cells k ≡ Some (Out p) → slice_get cells j ≡ Some (Out q) → p.value_id ≡ q.value_id → k ≡ j
unfolding IsDistinct
distinct_at [] k j p q apart e f same = absurd (cc)
distinct_at (Null ∷ cells) zero j p q apart e f same = absurd (cc)
distinct_at (Null ∷ cells) (suc k) zero p q apart e f same = absurd (cc)
distinct_at (Null ∷ cells) (suc k) (suc j) p q apart e f same = ap suc (distinct_at cells k j p q apart e f same)
distinct_at (Inline value ∷ cells) zero j p q apart e f same = absurd (cc)
distinct_at (Inline value ∷ cells) (suc k) zero p q apart e f same = absurd (cc)
distinct_at (Inline value ∷ cells) (suc k) (suc j) p q apart e f same = ap suc (distinct_at cells k j p q apart e f same)
distinct_at (Out r ∷ cells) zero zero p q apart e f same = refl
distinct_at (Out r ∷ cells) zero (suc j) p q apart e f same =
    let is : r ≡ p = cc in
    absurd (not_same r.value_id q.value_id (ap (λ (x : Pointer). x.value_id) is ∙ same) (front_differs r.value_id cells j q apart.0 f))
distinct_at (Out r ∷ cells) (suc k) zero p q apart e f same =
    let is : r ≡ q = cc in
    absurd (not_same r.value_id p.value_id (ap (λ (x : Pointer). x.value_id) is ∙ sym same) (front_differs r.value_id cells k p apart.0 e))
distinct_at (Out r ∷ cells) (suc k) (suc j) p q apart e f same = ap suc (distinct_at cells k j p q apart.1 e f same)

-- and where that is so the ids are distinct
pub record AreApart (cells : List Cell) : Type 0 where
  pub each : (k j : ℕ) (p q : Pointer) → slice_get cells k ≡ Some (Out p) → slice_get cells j ≡ Some (Out q) → p.value_id ≡ q.value_id → k ≡ j

later_apart : (cell : Cell) (cells : List Cell) → AreApart (cell ∷ cells) → AreApart cells
later_apart cell cells apart = record { each = λ k j p q e f same. back k j (apart.each (suc k) (suc j) p q e f same) }
  where
    back : (k j : ℕ) → suc k ≡ suc j → k ≡ j
    back k j e = omega (arith, e)

all_apart : (id : ℕ) (ids : List ℕ) → ((its : ℕ) → Contains ids its → id ≢ its) → AllByRecursion (λ (y : ℕ). nat_eq id y ≡ false) ids
all_apart id [] apart = tt
all_apart id (first ∷ ids) apart =
    let differ : id ≢ first = apart first (first_in first ids first refl) in
    (grind (arith, nat_tests, differ), all_apart id ids (λ its e. apart its (later_in first ids its e)))

front_apart : (p : Pointer) (cells : List Cell) → AreApart (Out p ∷ cells) → (its : ℕ) → Contains (ids_in cells) its → p.value_id ≢ its
front_apart p cells apart its held same =
    let found = from_map (λ (pointer : Pointer). pointer.value_id) (pointers_in cells) its held in
    let column = column_of cells found.0 found.1 in
    zero_suc column.column (apart.each zero (suc column.column) p found.0 refl column.here (same ∙ sym found.2))
  where
    zero_suc : (k : ℕ) → zero ≡ suc k → ⊥
    zero_suc k e = omega (arith, e)

pub distinct_from : (cells : List Cell) → AreApart cells → IsDistinct nat_eq (ids_in cells)
unfolding IsDistinct
distinct_from [] apart = tt
distinct_from (Null ∷ cells) apart = distinct_from cells (later_apart Null cells apart)
distinct_from (Inline value ∷ cells) apart = distinct_from cells (later_apart (Inline value) cells apart)
distinct_from (Out p ∷ cells) apart = (all_apart p.value_id (ids_in cells) (front_apart p cells apart), distinct_from cells (later_apart (Out p) cells apart))

-- ---- what may stand in a column

pub cells_of_limits : (toast_rel : ℕ) (schema : List Storage) (cells : List Cell) → AreRowCells schema cells → ((n : ℕ) (p : Pointer) → slice_get cells n ≡ Some (Out p) → p.toast_rel ≡ toast_rel) → AreCellsOf toast_rel schema cells
cells_of_limits toast_rel [] cells limits own = tt
cells_of_limits toast_rel (storage ∷ schema) [] limits own = tt
cells_of_limits toast_rel (storage ∷ schema) (cell ∷ cells) limits own = (by_cell storage cell (limits.each zero storage cell refl refl) (own zero), cells_of_limits toast_rel schema cells (record { each = λ n. limits.each (suc n) }) (λ n. own (suc n)))
  where
    by_cell : (s : Storage) (c : Cell) → IsRowCell s c → ((p : Pointer) → Some c ≡ Some (Out p) → p.toast_rel ≡ toast_rel) → IsCellOf toast_rel s c
    by_cell s Null fits is = tt
    by_cell s (Inline value) fits is = fits
    by_cell Plain (Out p) fits is = fits
    by_cell External (Out p) fits is = (is p refl, fits.0, fits.1)
