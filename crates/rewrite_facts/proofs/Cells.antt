-- Cells of a row, by the place of their column.
use Rattle.std.proofs.Common.{◌≡◌, ℕ, zero, suc, ◌<◌, ◌≤◌, inl, inr, Option, Some, List, [], ◌∷◌, length, map, get_or, slice_get, slice_set, refl, sym, ap, ◌∙◌, subst, arith}
use Rattle.std.specs.Option.{option_map, option_flatten}
use Rattle.std.specs.List.{All}
use Rattle.std.specs.Int.{w64}
use Rattle.std.specs.Int.RustNames.{FitsSigned}
use Rattle.std.proofs.lemmas.List.{length-set}
use Rattle.std.proofs.lemmas.List.Elements.{All-set}
use Rattle.std.proofs.lemmas.Option.{none-some, same_Some, slice_get-map, slice_get_within, slice_get-get_or, slice_get_cases}
use Rattle.list_facts.proofs.Changed.{after_set}
use Rattle.external_pointer.specs.declared.external.Pointer.{Pointer}
use Rattle.tuple_layout.specs.declared.Storage.{Storage}
use Rattle.tuple_layout.specs.declared.Storage.TheVariants.{Plain, External}
use Rattle.tuple_layout.specs.declared.cell.Cell.{Cell}
use Rattle.tuple_layout.specs.declared.cell.Cell.TheVariants.{Null, Inline, Out}
use Rattle.tuple_layout.specs.Sizes.{least_out}
use Rattle.tuple_layout.specs.Tuples.{HasForm, HasTuple, IsWithinLimits}
use Rattle.tuple_layout.specs.declared.cell.Stored.{Stored}
use Rattle.toast_store.specs.Stores.{Store}
use Rattle.toast_store.specs.Values.{value_in}
use Rattle.table_state.specs.Rows.{cell_value}
use Rattle.table_state.specs.Tables.{longest_value}
use Rattle.rewrite_facts.specs.Copies.{AreRowCells, IsRowCell, id_at, id_of}

-- ---- values

-- where each pointer has the same bytes in two stores, so has each cell
pub values_left : (old new : Store) (cells : List Cell) → ((n : ℕ) (p : Pointer) → slice_get cells n ≡ Some (Out p) → value_in new p ≡ value_in old p) → map (cell_value new) cells ≡ map (cell_value old) cells
values_left old new [] left = refl
values_left old new (cell ∷ cells) left = ap (λ (v : Option (List ℕ)). v ∷ map (cell_value new) cells) (by_cell cell (left 0)) ∙ ap (λ (vs : List (Option (List ℕ))). cell_value old cell ∷ vs) (values_left old new cells (λ n. left (suc n)))
  where
    by_cell : (c : Cell) → ((p : Pointer) → Some c ≡ Some (Out p) → value_in new p ≡ value_in old p) → cell_value new c ≡ cell_value old c
    by_cell Null same = refl
    by_cell (Inline value) same = refl
    by_cell (Out p) same = ap Some (same p refl)

-- another cell of the same value leaves the row
pub values_set : (store : Store) (cells : List Cell) (n : ℕ) (was cell : Cell) → slice_get cells n ≡ Some was → cell_value store cell ≡ cell_value store was → map (cell_value store) (slice_set cells n cell) ≡ map (cell_value store) cells
values_set store [] n was cell there same = refl
values_set store (c ∷ cells) zero was cell there same =
    let is : c ≡ was = same_Some c was there in
    ap (λ (v : Option (List ℕ)). v ∷ map (cell_value store) cells) (same ∙ ap (cell_value store) (sym is))
values_set store (c ∷ cells) (suc n) was cell there same = ap (λ (vs : List (Option (List ℕ))). cell_value store c ∷ vs) (values_set store cells n was cell there same)

-- the value of a column is that of its cell
pub value_at : (store : Store) (cells : List Cell) (n : ℕ) (cell : Cell) → slice_get cells n ≡ Some cell → slice_get (map (cell_value store) cells) n ≡ Some (cell_value store cell)
value_at store cells n cell there = slice_get-map (cell_value store) cells n ∙ ap (option_map (cell_value store)) there

-- the id of a column's old value
pub id_is : (cells : List Cell) (n : ℕ) (cell : Cell) → slice_get cells n ≡ Some cell → id_at (map id_of cells) n ≡ id_of cell
id_is cells n cell there = ap option_flatten (slice_get-map id_of cells n ∙ ap (option_map id_of) there)

-- a column that had an id had a pointer with it
pub had_pointer : (cell : Cell) (id : ℕ) → id_of cell ≡ Some id → (p : Pointer) × (cell ≡ Out p) × (p.value_id ≡ id)
had_pointer Null id e = absurd (none-some id e)
had_pointer (Inline value) id e = absurd (none-some id e)
had_pointer (Out p) id e = (p, refl, same_Some p.value_id id e)

-- a column that stands in one of two lists of one length stands in the other
pub also_there : {X Y : Type 0} (xs : List X) (ys : List Y) (n : ℕ) (x : X) → length xs ≡ length ys → slice_get xs n ≡ Some x → (y : Y) × (slice_get ys n ≡ Some y)
also_there xs ys n x long there = elim ((slice_get_cases ys n).1) [
  | inl has ↦ (has.0, has.2)
  | inr past ↦ absurd (short past.0)
]
  where
    short : length ys ≤ n → ⊥
    short most = let within : n < length xs = slice_get_within xs n x there in omega (arith, within, most, long)

-- ---- limits

pub limits_set : (schema : List Storage) (cells : List Cell) (n : ℕ) (cell : Cell) → ((storage : Storage) → slice_get schema n ≡ Some storage → IsRowCell storage cell) → AreRowCells schema cells → AreRowCells schema (slice_set cells n cell)
limits_set schema cells n cell fits limits = record {
  each = λ j storage c has there. elim (after_set cells n cell j c there) [
    | inl is ↦ subst (IsRowCell storage) (sym is.1) (fits storage (ap (slice_get schema) (sym is.0) ∙ has))
    | inr other ↦ limits.each j storage c has other.1
  ];
}

-- a pointer's value has 21 to 65,536 bytes
pub pointer_sizes : (schema : List Storage) (cells : List Cell) (n : ℕ) (p : Pointer) → length cells ≡ length schema → AreRowCells schema cells → slice_get cells n ≡ Some (Out p) → (least_out ≤ p.size) × (p.size ≤ longest_value)
pointer_sizes schema cells n p one_each limits there = let storage = also_there cells schema n (Out p) one_each there in by_storage storage.0 (limits.each n storage.0 (Out p) storage.1 there)
  where
    by_storage : (storage : Storage) → IsRowCell storage (Out p) → (least_out ≤ p.size) × (p.size ≤ longest_value)
    by_storage Plain is = absurd is
    by_storage External is = is

-- the column of a pointer is EXTERNAL
pub pointer_external : (schema : List Storage) (cells : List Cell) (n : ℕ) (p : Pointer) → length cells ≡ length schema → AreRowCells schema cells → slice_get cells n ≡ Some (Out p) → slice_get schema n ≡ Some External
pointer_external schema cells n p one_each limits there = let storage = also_there cells schema n (Out p) one_each there in storage.1 ∙ ap Some (by_storage storage.0 (limits.each n storage.0 (Out p) storage.1 there))
  where
    by_storage : (storage : Storage) → IsRowCell storage (Out p) → storage ≡ External
    by_storage Plain is = absurd is
    by_storage External is = refl

-- an inline value has at most 65,536 bytes
pub inline_size : (schema : List Storage) (cells : List Cell) (n : ℕ) (value : List ℕ) → length cells ≡ length schema → AreRowCells schema cells → slice_get cells n ≡ Some (Inline value) → length value ≤ longest_value
inline_size schema cells n value one_each limits there = let storage = also_there cells schema n (Inline value) one_each there in by_storage storage.0 (limits.each n storage.0 (Inline value) storage.1 there)
  where
    by_storage : (storage : Storage) → IsRowCell storage (Inline value) → length value ≤ longest_value
    by_storage Plain is = is
    by_storage External is = is

-- so cells of a row are within the limits of a tuple
pub within_limits : (schema : List Storage) (cells : List Cell) → length cells ≡ length schema → AreRowCells schema cells → All IsWithinLimits cells
within_limits schema cells one_each limits k d within = by_cell (get_or cells k d) refl
  where
    there : slice_get cells k ≡ Some (get_or cells k d)
    there = slice_get-get_or cells k d within

    by_cell : (c : Cell) → get_or cells k d ≡ c → IsWithinLimits (get_or cells k d)
    by_cell Null is = subst IsWithinLimits (sym is) tt
    by_cell (Inline value) is = subst IsWithinLimits (sym is) (inline_size schema cells k value one_each limits (there ∙ ap Some is))
    by_cell (Out p) is =
        let sizes = pointer_sizes schema cells k p one_each limits (there ∙ ap Some is) in
        subst IsWithinLimits (sym is) (omega (arith, sizes.1))

-- ---- tuples

pub tuple_set : (schema : List Storage) (stored later : Stored) (n : ℕ) (cell : Cell) → later.key ≡ stored.key → later.cells ≡ slice_set stored.cells n cell → HasForm cell → HasTuple schema stored → HasTuple schema later
tuple_set schema stored later n cell key cells form has = record {
  one_each = ap length cells ∙ length-set stored.cells n cell ∙ has.one_each;
  forms = subst (All HasForm) (sym cells) (All-set HasForm stored.cells n cell form has.forms);
  key = subst (λ k. FitsSigned w64 k) (sym key) has.key;
}
