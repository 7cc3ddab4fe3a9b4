-- The least of a number and of a list of numbers.
use Rattle.std.proofs.Common.{◌≡◌, ◌<◌, ◌≤◌, ℕ, suc, min, true, List, [], ◌∷◌, ◌++◌, unwrap_or, slice_get, refl, ap, ◌∙◌, arith, inl, inr}
use Rattle.std.proofs.lemmas.Bool.{cases_eq}
use Rattle.std.proofs.lemmas.Bool.Decides.{nat_tests}
use Rattle.std.proofs.lemmas.Grind.{fold-append}
use Rattle.xact_status.proofs.Ascending.{AscendsFrom}
use Rattle.snapshot_registry.specs.Snapshots.{least, holds}

-- it is at most the number
pub least_below_start : (n : ℕ) (xs : List ℕ) → least n xs ≤ n
least_below_start n [] = omega arith
least_below_start n (x ∷ xs) = omega (arith, least_below_start (min n x) xs)

-- it is at most each number in the list
pub least_below_held : (n : ℕ) (xs : List ℕ) (x : ℕ) → holds xs x ≡ true → least n xs ≤ x
least_below_held n [] x held = absurd (cc)
least_below_held n (y ∷ xs) x held = elim (cases_eq y x) [
  | inl same ↦ omega (arith, same, least_below_start (min n y) xs)
  | inr differ ↦ least_below_held (min n y) xs x (grind (arith, nat_tests, held, differ))
]

-- it is the greatest number that is at most each of these
pub least_greatest : (n : ℕ) (xs : List ℕ) (bound : ℕ) → bound ≤ n → ((x : ℕ) → holds xs x ≡ true → bound ≤ x) → bound ≤ least n xs
least_greatest n [] bound start each = start
least_greatest n (y ∷ xs) bound start each =
    let first : bound ≤ y = each y (grind (arith, nat_tests)) in
    least_greatest (min n y) xs bound (omega arith) (λ x held. each x (grind (arith, nat_tests, held)))

-- the least of two lists is taken one list after the other
pub least_append : (n : ℕ) (xs ys : List ℕ) → least n (xs ++ ys) ≡ least (least n xs) ys
least_append n xs ys = fold-append min n xs ys

-- numbers that ascend from above n leave it the least
least_stays : (n x : ℕ) (xs : List ℕ) → n ≤ x → AscendsFrom (suc x) xs → least n xs ≡ n
least_stays n x [] le up = refl
least_stays n x (y ∷ xs) le up = ap (λ m. least m xs) (omega (arith, up.0)) ∙ least_stays n y xs (omega (arith, up.0)) up.1

-- of ascending numbers below n the first is the least
pub least_ascending : (from n : ℕ) (xs : List ℕ) → AscendsFrom from xs → ((x : ℕ) → holds xs x ≡ true → x < n) → least n xs ≡ unwrap_or (slice_get xs 0) n
least_ascending from n [] up below = refl
least_ascending from n (x ∷ xs) up below =
    let first : x < n = below x (grind (arith, nat_tests)) in
    ap (λ m. least m xs) (omega arith) ∙ least_stays x x xs (omega arith) up.1
