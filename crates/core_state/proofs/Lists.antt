-- What reading and writing one item of a list leaves of the others, and of a sum over all.
use Rattle.std.proofs.Common.{ap, arith, inl, inr, refl}
use Rattle.std.proofs.lemmas.List.Sums.{sum_by-cons}
use Rattle.std.specs.List.Sorted.{IsStrictlySortedBy}
use Rattle.std.specs.Prelude.{Bool, Contains, List, Some, [], count_by, if◌then◌else◌, length, map, slice_get, slice_index_or, slice_set, suc, sum_by, zero, ℕ, ◌++◌, ◌+◌, ◌<◌, ◌∷◌, ◌≡◌, ◌≢◌, ◌⊎◌}
use Rattle.std.specs.declared.cmp.Ordering.{Ordering}
use Rattle.list_facts.proofs.Changed.{get_set_same}
use Rattle.list_facts.proofs.Members.{cases_in, first_in, later_in, none_in_nil}

-- an element that is there is the one that is read
pub read_there : {T : Type 0} (xs : List T) (i : ℕ) (d : T) → i < length xs → slice_get xs i ≡ Some (slice_index_or xs i d)
read_there [] i d h = absurd (omega (arith, h))
read_there (x ∷ xs) zero d h = refl
read_there (x ∷ xs) (suc i) d h = read_there xs i d (omega (arith, h))

-- an element that is found is the one that is read
pub read_found : {T : Type 0} (xs : List T) (i : ℕ) (x d : T) → slice_get xs i ≡ Some x → slice_index_or xs i d ≡ x
read_found [] i x d e = absurd (cc)
read_found (y ∷ xs) zero x d e = cc
read_found (y ∷ xs) (suc i) x d e = read_found xs i x d e

-- an element that was not written is read as before
pub read_other : {T : Type 0} (xs : List T) (i j : ℕ) (y d : T) → j ≢ i → slice_index_or (slice_set xs i y) j d ≡ slice_index_or xs j d
read_other [] i j y d h = refl
read_other (x ∷ xs) zero zero y d h = absurd (h refl)
read_other (x ∷ xs) zero (suc j) y d h = refl
read_other (x ∷ xs) (suc i) zero y d h = refl
read_other (x ∷ xs) (suc i) (suc j) y d h = read_other xs i j y d (λ e. h (ap suc e))

-- one that was written is what was written
pub read_written : {T : Type 0} (xs : List T) (i : ℕ) (y d : T) → i < length xs → slice_index_or (slice_set xs i y) i d ≡ y
read_written xs i y d h = read_found (slice_set xs i y) i y d (get_set_same xs i y h)

-- writing changes a sum by what it changes of the item
pub sum_set : {T : Type 0} (f : T → ℕ) (xs : List T) (i : ℕ) (x y : T) → slice_get xs i ≡ Some x → sum_by f (slice_set xs i y) + f x ≡ sum_by f xs + f y
sum_set f [] i x y e = absurd (cc)
sum_set f (z ∷ xs) zero x y e =
    let is : z ≡ x = cc in
    let same : f z ≡ f x = ap f is in
    let new = sum_by-cons f y xs in
    let old = sum_by-cons f z xs in
    let both : sum_by f (y ∷ xs) + f x ≡ sum_by f (z ∷ xs) + f y = omega (arith, same, new, old) in
    both
sum_set f (z ∷ xs) (suc i) x y e =
    let rest = sum_set f xs i x y e in
    let new = sum_by-cons f z (slice_set xs i y) in
    let old = sum_by-cons f z xs in
    let both : sum_by f (z ∷ slice_set xs i y) + f x ≡ sum_by f (z ∷ xs) + f y = omega (arith, rest, new, old) in
    both

-- one where a test holds, else none
abbrev pub one_if : Bool → ℕ
one_if b = if b then 1 else 0

pub count_more : {T : Type 0} (p : T → Bool) (x : T) (xs : List T) → count_by p (x ∷ xs) ≡ one_if (p x) + count_by p xs
count_more p x xs = sum_by-cons (λ y. one_if (p y)) x xs

pub sum_stays : {T : Type 0} (f : T → ℕ) (xs : List T) (i : ℕ) (x y : T) → slice_get xs i ≡ Some x → f y ≡ f x → sum_by f (slice_set xs i y) ≡ sum_by f xs
sum_stays f xs i x y e same =
    let both = sum_set f xs i x y e in
    omega (arith, both, same)

-- ---- members

pub only_one : {T : Type 0} (y x : T) → Contains (y ∷ []) x → y ≡ x
only_one y x e = elim (cases_in y [] x e) [
  | inl h ↦ h
  | inr h ↦ absurd (none_in_nil x h)
]

pub in_append_right : {T : Type 0} (xs ys : List T) (x : T) → Contains ys x → Contains (xs ++ ys) x
in_append_right [] ys x h = h
in_append_right (y ∷ xs) ys x h = later_in y (xs ++ ys) x (in_append_right xs ys x h)

pub in_append_left : {T : Type 0} (xs ys : List T) (x : T) → Contains xs x → Contains (xs ++ ys) x
in_append_left [] ys x h = absurd (none_in_nil x h)
in_append_left (y ∷ xs) ys x h = elim (cases_in y xs x h) [
  | inl e ↦ first_in y (xs ++ ys) x e
  | inr e ↦ later_in y (xs ++ ys) x (in_append_left xs ys x e)
]

pub mapped_in : {T U : Type 0} (f : T → U) (xs : List T) (x : T) → Contains xs x → Contains (map f xs) (f x)
mapped_in f [] x h = absurd (none_in_nil x h)
mapped_in f (y ∷ xs) x h = elim (cases_in y xs x h) [
  | inl e ↦ first_in (f y) (map f xs) (f x) (ap f e)
  | inr e ↦ later_in (f y) (map f xs) (f x) (mapped_in f xs x e)
]

-- nothing is in order
pub sorted_nil : {K : Type 0} (c : K → K → Ordering) → IsStrictlySortedBy c []
unfolding IsStrictlySortedBy
sorted_nil c = tt

pub in_append : {T : Type 0} (xs ys : List T) (x : T) → Contains (xs ++ ys) x → Contains xs x ⊎ Contains ys x
in_append [] ys x h = inr h
in_append (y ∷ xs) ys x h = elim (cases_in y (xs ++ ys) x h) [
  | inl e ↦ inl (first_in y xs x e)
  | inr e ↦ elim (in_append xs ys x e) [
    | inl f ↦ inl (later_in y xs x f)
    | inr f ↦ inr f
  ]
]
