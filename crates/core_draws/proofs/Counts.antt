-- How many ids of a range pass a test, and how many draws some seats owe.
use Rattle.std.proofs.Common.{ap, arith, inl, inr, refl, sym}
use Rattle.std.proofs.lemmas.Bool.{cases_eq}
use Rattle.std.proofs.lemmas.List.Sums.{sum_by-cons}
use Rattle.std.specs.Prelude.{Bool, Contains, List, Some, [], count_by, false, length, replicate, slice_get, suc, sum_by, true, zero, ℕ, ◌+◌, ◌∷◌, ◌≡◌, ◌≢◌, ◌≤◌, ◌⊎◌}
use Rattle.list_facts.proofs.Members.{first_in, later_in}
use Rattle.value_ids.proofs.Drawn.{ids_in}
use Rattle.value_ids.specs.Ids.{ids_from}
use Rattle.core_state.proofs.Lists.{count_more, one_if}

-- ---- ids

one_most : (a b : Bool) → (a ≡ true → b ≡ true) → one_if a ≤ one_if b
one_most false b more = omega arith
one_most true true more = omega arith
one_most true false more = absurd (clash (more refl))
  where
    clash : false ≡ true → ⊥
    clash e = cc

one_at_most : (a : Bool) → one_if a ≤ 1
one_at_most true = omega arith
one_at_most false = omega arith

-- a test that is passed by no more is passed by at most as many
pub count_most : (p q : ℕ → Bool) (ids : List ℕ) → ((id : ℕ) → Contains ids id → p id ≡ true → q id ≡ true) → count_by p ids ≤ count_by q ids
count_most p q [] more = omega arith
count_most p q (id ∷ ids) more =
    let rest = count_most p q ids (λ x e. more x (later_in id ids x e)) in
    let head = one_most (p id) (q id) (more id (first_in id ids id refl)) in
    omega (arith, rest, head, count_more p id ids, count_more q id ids)

-- by one more, by at most one more
pub count_one_more : (p q : ℕ → Bool) (one from n : ℕ) → ((id : ℕ) → p id ≡ true → (q id ≡ true) ⊎ (id ≡ one)) → count_by p (ids_from from n) ≤ count_by q (ids_from from n) + 1
count_one_more p q one from zero more = omega arith
count_one_more p q one from (suc n) more = elim (cases_eq one from) [
  | inl is ↦
      let rest = count_most p q (ids_from (from + 1) n) (λ id e passed. elim (more id passed) [
        | inl h ↦ h
        | inr h ↦ let low = (ids_in (from + 1) n id e).0 in absurd (omega (arith, h, is, low))
      ]) in
      let head = one_at_most (p from) in
      omega (arith, rest, head, count_more p from (ids_from (from + 1) n), count_more q from (ids_from (from + 1) n))
  | inr differ ↦
      let rest = count_one_more p q one (from + 1) n more in
      let head = one_most (p from) (q from) (λ passed. elim (more from passed) [ inl h ↦ h | inr h ↦ absurd (differ (sym h)) ]) in
      omega (arith, rest, head, count_more p from (ids_from (from + 1) n), count_more q from (ids_from (from + 1) n))
]

-- where each of so many passes, so many do; where none does, none
pub count_all : (p : ℕ → Bool) (from n : ℕ) → ((id : ℕ) → Contains (ids_from from n) id → p id ≡ true) → count_by p (ids_from from n) ≡ n
count_all p from zero all = refl
count_all p from (suc n) all =
    let rest = count_all p (from + 1) n (λ id e. all id (later_in from (ids_from (from + 1) n) id e)) in
    let head = ap one_if (all from (first_in from (ids_from (from + 1) n) from refl)) in
    omega (arith, rest, head, count_more p from (ids_from (from + 1) n))

pub count_none : (p : ℕ → Bool) (ids : List ℕ) → ((id : ℕ) → p id ≡ false) → count_by p ids ≡ 0
count_none p [] none = refl
count_none p (id ∷ ids) none =
    let rest = count_none p ids none in
    let head = ap one_if (none id) in
    omega (arith, rest, head, count_more p id ids)

-- ---- sums

pub sum_same : {T : Type 0} (f : T → ℕ) (xs ys : List T) → length ys ≡ length xs → ((j : ℕ) → slice_get ys j ≡ slice_get xs j) → sum_by f ys ≡ sum_by f xs
sum_same f [] [] count same = refl
sum_same f [] (y ∷ ys) count same = absurd (omega (arith, count))
sum_same f (x ∷ xs) [] count same = absurd (omega (arith, count))
sum_same f (x ∷ xs) (y ∷ ys) count same =
    let is : y ≡ x = one (same zero) in
    let rest = sum_same f xs ys (omega (arith, count)) (λ j. same (suc j)) in
    let head = ap f is in
    let both : sum_by f (y ∷ ys) ≡ sum_by f (x ∷ xs) = omega (arith, rest, head, sum_by-cons f x xs, sum_by-cons f y ys) in
    both
  where
    one : Some y ≡ Some x → y ≡ x
    one e = cc

-- where one item alone differs, a sum differs by what it gives
pub sum_apart : {T : Type 0} (f : T → ℕ) (xs ys : List T) (i : ℕ) (x y : T) → length ys ≡ length xs → slice_get xs i ≡ Some x → slice_get ys i ≡ Some y → ((j : ℕ) → j ≢ i → slice_get ys j ≡ slice_get xs j)
    → sum_by f ys + f x ≡ sum_by f xs + f y
sum_apart f [] ys i x y count at here others = absurd (cc)
sum_apart f (z ∷ xs) [] i x y count at here others = absurd (omega (arith, count))
sum_apart f (z ∷ xs) (w ∷ ys) zero x y count at here others =
    let old : z ≡ x = cc in
    let new : w ≡ y = cc in
    let rest = sum_same f xs ys (omega (arith, count)) (λ j. others (suc j) (λ e. absurd (omega (arith, e)))) in
    let first = ap f old in
    let second = ap f new in
    let both : sum_by f (w ∷ ys) + f x ≡ sum_by f (z ∷ xs) + f y = omega (arith, rest, first, second, sum_by-cons f z xs, sum_by-cons f w ys) in
    both
sum_apart f (z ∷ xs) (w ∷ ys) (suc i) x y count at here others =
    let is : w ≡ z = one (others zero (λ e. absurd (omega (arith, e)))) in
    let rest = sum_apart f xs ys i x y (omega (arith, count)) at here (λ j differ. others (suc j) (λ e. differ (omega (arith, e)))) in
    let head = ap f is in
    let both : sum_by f (w ∷ ys) + f x ≡ sum_by f (z ∷ xs) + f y = omega (arith, rest, head, sum_by-cons f z xs, sum_by-cons f w ys) in
    both
  where
    one : Some w ≡ Some z → w ≡ z
    one e = cc

pub sum_none : {T : Type 0} (f : T → ℕ) (x : T) (n : ℕ) → f x ≡ 0 → sum_by f (replicate n x) ≡ 0
sum_none f x zero none = refl
sum_none f x (suc n) none =
    let rest = sum_none f x n none in
    let all : sum_by f (x ∷ replicate n x) ≡ 0 = omega (arith, rest, none, sum_by-cons f x (replicate n x)) in
    all
