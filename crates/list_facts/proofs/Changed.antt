-- What stands at each place of a list after one element is written or one is added at the end.
use Rattle.std.proofs.Common.{◌≡◌, ◌≢◌, ◌<◌, ℕ, List, [], ◌∷◌, ◌++◌, Some, length, slice_get, slice_set, ◌⊎◌, inl, inr, refl, ap, arith, zero, suc}

-- a written element is there
pub get_set_same : {T : Type 0} (xs : List T) (i : ℕ) (y : T) → i < length xs → slice_get (slice_set xs i y) i ≡ Some y
get_set_same [] i y h = absurd (omega (arith, h))
get_set_same (x ∷ xs) zero y h = refl
get_set_same (x ∷ xs) (suc i) y h = get_set_same xs i y (omega (arith, h))

-- a write leaves every other place
pub get_set_other : {T : Type 0} (xs : List T) (i j : ℕ) (y : T) → j ≢ i → slice_get (slice_set xs i y) j ≡ slice_get xs j
get_set_other [] i j y h = refl
get_set_other (x ∷ xs) zero zero y h = absurd (h refl)
get_set_other (x ∷ xs) zero (suc j) y h = refl
get_set_other (x ∷ xs) (suc i) zero y h = refl
get_set_other (x ∷ xs) (suc i) (suc j) y h = get_set_other xs i j y (λ e. h (ap (λ n. suc n) e))

-- what stands at a place after a write is the new element there, or what stood there before
pub after_set : {T : Type 0} (xs : List T) (i : ℕ) (y : T) (j : ℕ) (x : T) → slice_get (slice_set xs i y) j ≡ Some x → ((j ≡ i) × (x ≡ y)) ⊎ ((j ≢ i) × (slice_get xs j ≡ Some x))
after_set [] i y j x e = absurd (cc)
after_set (z ∷ zs) zero y zero x e = inl (refl, cc)
after_set (z ∷ zs) zero y (suc j) x e = inr (λ n. cc, e)
after_set (z ∷ zs) (suc i) y zero x e = inr (λ n. cc, e)
after_set (z ∷ zs) (suc i) y (suc j) x e = elim (after_set zs i y j x e) [
  | inl h ↦ inl (ap (λ n. suc n) h.0, h.1)
  | inr h ↦ inr (λ n. h.0 (cc), h.1)
]

-- an element that was there is there after one more is added at the end
pub get_push_left : {T : Type 0} (xs : List T) (y : T) (i : ℕ) (x : T) → slice_get xs i ≡ Some x → slice_get (xs ++ y ∷ []) i ≡ Some x
get_push_left [] y i x e = absurd (cc)
get_push_left (z ∷ zs) y zero x e = e
get_push_left (z ∷ zs) y (suc i) x e = get_push_left zs y i x e

-- the added element stands at the old length
pub get_push_at : {T : Type 0} (xs : List T) (y : T) → slice_get (xs ++ y ∷ []) (length xs) ≡ Some y
get_push_at [] y = refl
get_push_at (z ∷ zs) y = get_push_at zs y

-- what stands at a place after one element is added is that element at the end, or what stood there before
pub after_push : {T : Type 0} (xs : List T) (y : T) (j : ℕ) (x : T) → slice_get (xs ++ y ∷ []) j ≡ Some x → ((j ≡ length xs) × (x ≡ y)) ⊎ (slice_get xs j ≡ Some x)
after_push [] y zero x e = inl (refl, cc)
after_push [] y (suc j) x e = absurd (cc)
after_push (z ∷ zs) y zero x e = inr e
after_push (z ∷ zs) y (suc j) x e = elim (after_push zs y j x e) [
  | inl h ↦ inl (ap (λ n. suc n) h.0, h.1)
  | inr h ↦ inr h
]

-- the second of two writes at a place counts
pub set_twice : {T : Type 0} (xs : List T) (i : ℕ) (x y : T) → slice_set (slice_set xs i x) i y ≡ slice_set xs i y
set_twice [] i x y = refl
set_twice (z ∷ zs) zero x y = refl
set_twice (z ∷ zs) (suc i) x y = ap (λ rest. z ∷ rest) (set_twice zs i x y)

-- writing what is there changes nothing
pub set_same : {T : Type 0} (xs : List T) (i : ℕ) (x : T) → slice_get xs i ≡ Some x → slice_set xs i x ≡ xs
set_same [] i x e = refl
set_same (z ∷ zs) zero x e = ap (λ first. first ∷ zs) (cc)
set_same (z ∷ zs) (suc i) x e = ap (λ rest. z ∷ rest) (set_same zs i x e)

-- what holds of each element at its place before a write, or can be carried over, and of the new element, holds after it
pub each_set : {T : Type 0} (P Q : ℕ → T → Type 0) (xs : List T) (i : ℕ) (y : T) → Q i y → ((j : ℕ) (x : T) → j ≢ i → slice_get xs j ≡ Some x → P j x → Q j x) → ((j : ℕ) (x : T) → slice_get xs j ≡ Some x → P j x) → (j : ℕ) (x : T) → slice_get (slice_set xs i y) j ≡ Some x → Q j x
each_set P Q xs i y here others each j x e = elim (after_set xs i y j x e) [
  | inl h ↦ rw (h.0, h.1) here
  | inr h ↦ others j x h.0 h.1 (each j x h.1)
]
