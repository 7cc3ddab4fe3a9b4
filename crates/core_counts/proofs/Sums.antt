-- Sums over a list of which an element is replaced.
use Rattle.std.proofs.Common.{arith, refl}
use Rattle.std.proofs.lemmas.List.Sums.{sum_by-cons}
use Rattle.std.specs.Prelude.{List, [], slice_index_or, slice_set, sum_by, suc, zero, ℕ, ◌+◌, ◌∷◌, ◌≡◌, ◌≤◌}

-- what stands in its place counts alike
pub put_alike : {X : Type 0} (f : X → ℕ) (xs : List X) (i : ℕ) (x y : X) → f x ≡ f y → sum_by f (slice_set xs i x) ≡ sum_by f (slice_set xs i y)
put_alike f [] i x y e = refl
put_alike f (z ∷ zs) zero x y e =
    let a = sum_by-cons f x zs in
    let b = sum_by-cons f y zs in
    omega (arith, a, b, e)
put_alike f (z ∷ zs) (suc i) x y e =
    let rest = put_alike f zs i x y e in
    let a = sum_by-cons f z (slice_set zs i x) in
    let b = sum_by-cons f z (slice_set zs i y) in
    omega (arith, a, b, rest)

-- it is replaced twice
pub put_again : {X : Type 0} (f : X → ℕ) (xs : List X) (i : ℕ) (x y : X) → sum_by f (slice_set (slice_set xs i x) i y) ≡ sum_by f (slice_set xs i y)
put_again f [] i x y = refl
put_again f (z ∷ zs) zero x y = refl
put_again f (z ∷ zs) (suc i) x y =
    let rest = put_again f zs i x y in
    let a = sum_by-cons f z (slice_set (slice_set zs i x) i y) in
    let b = sum_by-cons f z (slice_set zs i y) in
    omega (arith, a, b, rest)

-- it is taken out: no more is gone than it counts
pub taken_out : {X : Type 0} (f : X → ℕ) (xs : List X) (i : ℕ) (z d : X) → sum_by f xs ≤ f (slice_index_or xs i d) + sum_by f (slice_set xs i z)
taken_out f [] i z d = omega arith
taken_out f (x ∷ xs) zero z d =
    let a = sum_by-cons f x xs in
    let b = sum_by-cons f z xs in
    omega (arith, a, b)
taken_out f (x ∷ xs) (suc i) z d =
    let rest = taken_out f xs i z d in
    let a = sum_by-cons f x xs in
    let b = sum_by-cons f x (slice_set xs i z) in
    omega (arith, a, b, rest)
