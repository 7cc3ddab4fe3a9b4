-- What is found by halves in lists that are in order.
use Rattle.std.proofs.Common.{◌≡◌, inl, inr, ℕ, ◌<◌, ◌≤◌, ◌+◌, Bool, true, Err, List, [], ◌∷◌, length, get_or, drop, ap, ◌∙◌, arith, zero, suc}
use Rattle.std.specs.List.{insert, AllByRecursion}
use Rattle.std.specs.List.Sorted.{IsStrictlySortedBy, IsSorted, IsPartitionedBy, IsBinarySearchResult}
use Rattle.std.specs.declared.cmp.Ordering.{Ordering}
use Rattle.std.specs.declared.cmp.Ordering.TheVariants.{Less}
use Rattle.std.specs.Ordering.{is_lt, ordering_reverse}
use Rattle.std.specs.Cmp.{IsTotalOrder}
use Rattle.std.proofs.lemmas.Bool.{cases_eq}
use Rattle.std.proofs.lemmas.List.Sorted.{searchable_from_sorted}
use Rattle.chunk_index.specs.Orders.{inserted}
use Rattle.chunk_index.proofs.Inserted.{inserted_at}

all_at : {X : Type 0} (P : X → Type 0) (xs : List X) (k : ℕ) (d : X) → AllByRecursion P xs → k < length xs → P (get_or xs k d)
all_at P [] k d all within = absurd (omega (arith, within))
all_at P (x ∷ xs) zero d all within = all.0
all_at P (x ∷ xs) (suc k) d all within = all_at P xs k d all.1 (omega (arith, within))

-- in a list in strict order an element is less than each later one
pub sorted_pairs : {X : Type 0} (cmp : X → X → Ordering) (xs : List X) → IsStrictlySortedBy cmp xs → (i j : ℕ) (d : X) → i < j → j < length xs → cmp (get_or xs i d) (get_or xs j d) ≡ Less
unfolding IsStrictlySortedBy
sorted_pairs cmp [] sorted i j d below within = absurd (omega (arith, within))
sorted_pairs cmp (x ∷ xs) sorted i zero d below within = absurd (omega (arith, below))
sorted_pairs cmp (x ∷ xs) sorted zero (suc j) d below within = all_at (λ y. cmp x y ≡ Less) xs j d sorted.0 (omega (arith, within))
sorted_pairs cmp (x ∷ xs) sorted (suc i) (suc j) d below within = sorted_pairs cmp xs sorted.1 i j d (omega (arith, below)) (omega (arith, within))

-- so it is sorted
pub sorted_is : {X : Type 0} {cmp : X → X → Ordering} → IsTotalOrder cmp → (xs : List X) → IsStrictlySortedBy cmp xs → IsSorted cmp xs
sorted_is {cmp = cmp} o xs sorted = λ k d low high. ap is_lt (o.antisymm (get_or xs (k + 1) d) (get_or xs k d) ∙ ap ordering_reverse (sorted_pairs cmp xs sorted k (k + 1) d (omega arith) high))

-- and so is what is left of it from a place on
pub sorted_drop : {X : Type 0} (cmp : X → X → Ordering) (xs : List X) (n : ℕ) → IsStrictlySortedBy cmp xs → IsStrictlySortedBy cmp (drop n xs)
unfolding IsStrictlySortedBy
sorted_drop cmp xs zero sorted = sorted
sorted_drop cmp [] (suc n) sorted = sorted
sorted_drop cmp (x ∷ xs) (suc n) sorted = sorted_drop cmp xs n sorted.1

-- a test that holds of all that is less than what it holds of, parts a list in order
pub partitioned : {X : Type 0} (cmp : X → X → Ordering) (p : X → Bool) → ((x y : X) → cmp x y ≡ Less → p y ≡ true → p x ≡ true) → (xs : List X) → IsStrictlySortedBy cmp xs → IsPartitionedBy p xs
partitioned cmp p down xs sorted = λ i j d at_most within passes. elim (cases_eq i j) [
  | inl same ↦ ap (λ k. p (get_or xs k d)) same ∙ passes
  | inr differ ↦ down (get_or xs i d) (get_or xs j d) (sorted_pairs cmp xs sorted i j d (omega (arith, at_most, differ)) within) passes
]

-- an element that is sought and not found is inserted where the search ended
pub insert_place : {X : Type 0} {cmp : X → X → Ordering} → IsTotalOrder cmp → (x : X) (xs : List X) (at : ℕ) → IsStrictlySortedBy cmp xs → at ≤ length xs → IsBinarySearchResult (λ y. cmp y x) xs (Err at) → insert xs at x ≡ inserted cmp x xs
insert_place {X} {cmp} o x xs at sorted within answer =
    let parts = answer (searchable_from_sorted o (λ y. y) xs x (sorted_is o xs sorted)) in
    inserted_at cmp x xs at within
    (λ k d below. ap is_lt (o.antisymm x (get_or xs k d) ∙ ap ordering_reverse (parts.0 k d (omega arith) below)))
    (λ d inside. ap is_lt (o.antisymm x (get_or xs at d) ∙ ap ordering_reverse (parts.1 at d (omega arith) inside)))
