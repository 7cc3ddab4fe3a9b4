-- The ids of the pointers of cells.
use Rattle.std.proofs.Common.{ℕ, ◌≡◌, ◌⊎◌, inl, inr, Bool, true, false, ◌||◌, ◌==◌, List, [], ◌∷◌, Contains, refl, ap, ◌∙◌, arith}
use Rattle.std.specs.List.{list_any}
use Rattle.std.proofs.lemmas.Bool.Decides.{nat_tests}
use Rattle.list_facts.proofs.Members.{none_in_nil, cases_in, first_in, later_in}
use Rattle.external_pointer.specs.declared.external.Pointer.{Pointer}
use Rattle.tuple_layout.specs.declared.cell.Cell.{Cell}
use Rattle.table_state.specs.Rows.{pointers_in, has_id}

or_cases : (a b : Bool) → (a || b) ≡ true → (a ≡ true) ⊎ (b ≡ true)
or_cases true b e = inl refl
or_cases false b e = inr e

same_id : (m n : ℕ) → (m == n) ≡ true → m ≡ n
same_id m n e = grind (arith, nat_tests, e)

own_id : (m n : ℕ) → m ≡ n → (m == n) ≡ true
own_id m n e = grind (arith, nat_tests, e)

any_in : (value_id : ℕ) (pointers : List Pointer) → list_any (λ pointer. pointer.value_id == value_id) pointers ≡ true → (pointer : Pointer) × (pointer.value_id ≡ value_id) × Contains pointers pointer
any_in value_id [] e = absurd (cc)
any_in value_id (pointer ∷ pointers) e = by_front (or_cases (pointer.value_id == value_id) (list_any (λ p. p.value_id == value_id) pointers) e) (λ h. any_in value_id pointers h)
  where
    by_front : ((pointer.value_id == value_id) ≡ true) ⊎ (list_any (λ (p : Pointer). p.value_id == value_id) pointers ≡ true) → (list_any (λ (p : Pointer). p.value_id == value_id) pointers ≡ true → (q : Pointer) × (q.value_id ≡ value_id) × Contains pointers q) → (q : Pointer) × (q.value_id ≡ value_id) × Contains (pointer ∷ pointers) q
    by_front (inl here) rest = (pointer, same_id pointer.value_id value_id here, first_in pointer pointers pointer refl)
    by_front (inr later) rest = let found = rest later in (found.0, found.1, later_in pointer pointers found.0 found.2)

in_any : (value_id : ℕ) (pointers : List Pointer) (pointer : Pointer) → pointer.value_id ≡ value_id → Contains pointers pointer → list_any (λ (p : Pointer). p.value_id == value_id) pointers ≡ true
in_any value_id [] pointer is held = absurd (none_in_nil pointer held)
in_any value_id (first ∷ pointers) pointer is held = elim (cases_in first pointers pointer held) [
  | inl here ↦ front (first.value_id == value_id) (list_any (λ (p : Pointer). p.value_id == value_id) pointers) (own_id first.value_id value_id (ap (λ (p : Pointer). p.value_id) here ∙ is))
  | inr later ↦ back (first.value_id == value_id) (list_any (λ (p : Pointer). p.value_id == value_id) pointers) (in_any value_id pointers pointer is later)
]
  where
    front : (a b : Bool) → a ≡ true → (a || b) ≡ true
    front true b e = refl
    front false b e = absurd (cc)

    back : (a b : Bool) → b ≡ true → (a || b) ≡ true
    back true b e = refl
    back false b e = e

-- where cells have an id, one of their pointers has it
pub id_in : (value_id : ℕ) (cells : List Cell) → has_id value_id cells ≡ true → (pointer : Pointer) × (pointer.value_id ≡ value_id) × Contains (pointers_in cells) pointer
id_in value_id cells has = any_in value_id (pointers_in cells) has

-- and they have the id of each
pub id_from : (value_id : ℕ) (cells : List Cell) (pointer : Pointer) → pointer.value_id ≡ value_id → Contains (pointers_in cells) pointer → has_id value_id cells ≡ true
id_from value_id cells pointer is held = in_any value_id (pointers_in cells) pointer is held
