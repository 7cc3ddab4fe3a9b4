-- The pointers of cells, by their places: ids are distinct, and what is dropped stood in its column and is not kept there.
use Rattle.std.proofs.Common.{ap, arith, inl, inr, refl, subst, sym, ◌∙◌}
use Rattle.std.proofs.lemmas.Bool.Decides.{nat_tests}
use Rattle.std.specs.List.{AllByRecursion, IsDistinct, cons_option}
use Rattle.std.specs.Prelude.{Bool, Contains, List, None, Option, Some, [], false, if◌then◌else◌, length, nat_eq, nat_lt, not, slice_get, slice_index_or, suc, true, zero, ℕ, ◌&&◌, ◌-◌, ◌==◌, ◌∷◌, ◌≡◌, ◌≤◌, ◌⊎◌}
use Rattle.list_facts.proofs.Members.{cases_in, first_in, later_in, none_in_nil}
use Rattle.external_pointer.specs.declared.external.Pointer.{Pointer}
use Rattle.tuple_layout.specs.declared.cell.Cell.{Cell}
use Rattle.tuple_layout.specs.declared.cell.Cell.TheVariants.{Inline, Null, Out}
use Rattle.table_state.specs.Rows.{pointers_in}
use Rattle.write_steps.specs.Dropped.{dropped_at, dropped_of, keeps}
use Rattle.write_steps.specs.Writes.{cell_of}
use Rattle.core_state.proofs.Lists.{read_found}
use Rattle.core_state.specs.Facts.{ids_in}

-- ---- places

-- the cell of a column that is there
pub cell_found : (cells : List Cell) (k : ℕ) (cell : Cell) → slice_get cells k ≡ Some cell → cell_of cells (suc k) ≡ cell
cell_found cells k cell e =
    let place : suc k - 1 ≡ k = omega arith in
    rw place (read_found cells k cell Null e)

-- a column with a pointer is there
pub pointer_found : (cells : List Cell) (j : ℕ) (pointer : Pointer) → slice_index_or cells j Null ≡ Out pointer → slice_get cells j ≡ Some (Out pointer)
pointer_found [] j pointer e = absurd (cc)
pointer_found (cell ∷ cells) zero pointer e = ap Some e
pointer_found (cell ∷ cells) (suc j) pointer e = pointer_found cells j pointer e

-- its pointer is one of the cells'
pub pointer_there : (cells : List Cell) (k : ℕ) (pointer : Pointer) → slice_get cells k ≡ Some (Out pointer) → Contains (pointers_in cells) pointer
pointer_there [] k pointer e = absurd (cc)
pointer_there (Null ∷ cells) zero pointer e = absurd (cc)
pointer_there (Null ∷ cells) (suc k) pointer e = pointer_there cells k pointer e
pointer_there (Inline value ∷ cells) zero pointer e = absurd (cc)
pointer_there (Inline value ∷ cells) (suc k) pointer e = pointer_there cells k pointer e
pointer_there (Out q ∷ cells) zero pointer e =
    let is : q ≡ pointer = cc in
    first_in q (pointers_in cells) pointer is
pointer_there (Out q ∷ cells) (suc k) pointer e = later_in q (pointers_in cells) pointer (pointer_there cells k pointer e)

-- ---- distinct ids

front_differs : (id : ℕ) (cells : List Cell) (k : ℕ) (pointer : Pointer) → AllByRecursion (λ (y : ℕ). nat_eq id y ≡ false) (ids_in cells) → slice_get cells k ≡ Some (Out pointer) → nat_eq id pointer.value_id ≡ false
front_differs id [] k pointer all e = absurd (cc)
front_differs id (Null ∷ cells) zero pointer all e = absurd (cc)
front_differs id (Null ∷ cells) (suc k) pointer all e = front_differs id cells k pointer all e
front_differs id (Inline value ∷ cells) zero pointer all e = absurd (cc)
front_differs id (Inline value ∷ cells) (suc k) pointer all e = front_differs id cells k pointer all e
front_differs id (Out q ∷ cells) zero pointer all e =
    let is : q ≡ pointer = cc in
    subst (λ (r : Pointer). nat_eq id r.value_id ≡ false) is all.0
front_differs id (Out q ∷ cells) (suc k) pointer all e = front_differs id cells k pointer all.1 e

not_same : (a b : ℕ) → a ≡ b → nat_eq a b ≡ false → ⊥
not_same a b e f = absurd (grind (arith, nat_tests, e, f))

-- pointers with one id stand in one column
pub distinct_at : (cells : List Cell) (k j : ℕ) (p q : Pointer) → IsDistinct nat_eq (ids_in cells) → slice_get cells k ≡ Some (Out p) → slice_get cells j ≡ Some (Out q) → p.value_id ≡ q.value_id → k ≡ j
unfolding IsDistinct
distinct_at [] k j p q apart e f same = absurd (cc)
distinct_at (Null ∷ cells) zero j p q apart e f same = absurd (cc)
distinct_at (Null ∷ cells) (suc k) zero p q apart e f same = absurd (cc)
distinct_at (Null ∷ cells) (suc k) (suc j) p q apart e f same = ap suc (distinct_at cells k j p q apart e f same)
distinct_at (Inline value ∷ cells) zero j p q apart e f same = absurd (cc)
distinct_at (Inline value ∷ cells) (suc k) zero p q apart e f same = absurd (cc)
distinct_at (Inline value ∷ cells) (suc k) (suc j) p q apart e f same = ap suc (distinct_at cells k j p q apart e f same)
distinct_at (Out r ∷ cells) zero zero p q apart e f same = refl
distinct_at (Out r ∷ cells) zero (suc j) p q apart e f same =
    let is : r ≡ p = cc in
    absurd (not_same r.value_id q.value_id (ap (λ (x : Pointer). x.value_id) is ∙ same) (front_differs r.value_id cells j q apart.0 f))
distinct_at (Out r ∷ cells) (suc k) zero p q apart e f same =
    let is : r ≡ q = cc in
    absurd (not_same r.value_id p.value_id (ap (λ (x : Pointer). x.value_id) is ∙ sym same) (front_differs r.value_id cells k p apart.0 e))
distinct_at (Out r ∷ cells) (suc k) (suc j) p q apart e f same = ap suc (distinct_at cells k j p q apart.1 e f same)

-- so they are one
pub pointer_is : (cells : List Cell) (k j : ℕ) (p q : Pointer) → IsDistinct nat_eq (ids_in cells) → slice_get cells k ≡ Some (Out p) → slice_get cells j ≡ Some (Out q) → p.value_id ≡ q.value_id → p ≡ q
pointer_is cells k j p q apart e f same =
    let at = distinct_at cells k j p q apart e f same in
    some_is (sym e ∙ ap (slice_get cells) at ∙ f)
  where
    some_is : Some (Out p) ≡ Some (Out q) → p ≡ q
    some_is h = cc

-- ---- what is dropped

pub kept_itself : (pointer : Pointer) → keeps pointer (Out pointer) ≡ true
kept_itself pointer = same pointer.size pointer.value_id pointer.toast_rel
  where
    same : (a b c : ℕ) → ((a == a) && (b == b) && (c == c)) ≡ true
    same a b c = grind (arith, nat_tests)

dropped_is : (cell new : Cell) (pointer : Pointer) → dropped_at cell new ≡ Some pointer → (cell ≡ Out pointer) × (keeps pointer new ≡ false)
dropped_is Null new pointer e = absurd (cc)
dropped_is (Inline value) new pointer e = absurd (cc)
dropped_is (Out q) new pointer e = by (nat_lt 0 q.size) (keeps q new) refl e
  where
    by : (b kept : Bool) → keeps q new ≡ kept → (if b && not kept then Some q else None) ≡ Some pointer → (Out q ≡ Out pointer) × (keeps pointer new ≡ false)
    by true true f g = absurd (cc)
    by true false f g =
        let is : q ≡ pointer = cc in
        (ap Out is, ap (λ (r : Pointer). keeps r new) (sym is) ∙ f)
    by false true f g = absurd (cc)
    by false false f g = absurd (cc)

in_option : (o : Option Pointer) (rest : List Pointer) (pointer : Pointer) → Contains (cons_option o rest) pointer → (o ≡ Some pointer) ⊎ Contains rest pointer
in_option None rest pointer e = inr e
in_option (Some q) rest pointer e = elim (cases_in q rest pointer e) [
  | inl h ↦ inl (ap Some h)
  | inr h ↦ inr h
]

-- a dropped pointer stood in a column of the old row, and the new one does not keep it there
pub dropped_from : (cells news : List Cell) (pointer : Pointer) → Contains (dropped_of cells news) pointer → (k : ℕ) × (slice_get cells k ≡ Some (Out pointer)) × (keeps pointer (slice_index_or news k Null) ≡ false)
dropped_from [] news pointer e = absurd (none_in_nil pointer e)
dropped_from (cell ∷ cells) [] pointer e = elim (in_option (dropped_at cell Null) (dropped_of cells []) pointer e) [
  | inl h ↦
      let is = dropped_is cell Null pointer h in
      (zero, ap Some is.0, is.1)
  | inr h ↦
      let rest = dropped_from cells [] pointer h in
      (suc rest.0, rest.1, rest.2)
]
dropped_from (cell ∷ cells) (new ∷ news) pointer e = elim (in_option (dropped_at cell new) (dropped_of cells news) pointer e) [
  | inl h ↦
      let is = dropped_is cell new pointer h in
      (zero, ap Some is.0, is.1)
  | inr h ↦
      let rest = dropped_from cells news pointer h in
      (suc rest.0, rest.1, rest.2)
]

one_longer : (o : Option Pointer) (rest : List Pointer) (n : ℕ) → length rest ≤ n → length (cons_option o rest) ≤ suc n
one_longer None rest n h = omega (arith, h)
one_longer (Some q) rest n h = omega (arith, h)

pub dropped_few : (cells news : List Cell) → length (dropped_of cells news) ≤ length cells
dropped_few [] news = omega arith
dropped_few (cell ∷ cells) [] = one_longer (dropped_at cell Null) (dropped_of cells []) (length cells) (dropped_few cells [])
dropped_few (cell ∷ cells) (new ∷ news) = one_longer (dropped_at cell new) (dropped_of cells news) (length cells) (dropped_few cells news)
