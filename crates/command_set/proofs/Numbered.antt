-- Places of a list, counted from 1.
use Rattle.std.proofs.Common.{◌≡◌, ◌≢◌, ◌≤◌, ◌<◌, ◌-◌, ℕ, zero, suc, List, [], ◌∷◌, Some, length, refl, ap, ◌∙◌, arith}
use Rattle.std.specs.Prelude.{slice_get, slice_set}
use Rattle.list_facts.proofs.Changed.{get_set_same, get_set_other}
use Rattle.command_set.specs.Plain.{nth}

-- a place from 1 on is the one before it counted from 0
pub nth_is : {A : Type 0} (xs : List A) (n : ℕ) → 1 ≤ n → nth xs n ≡ slice_get xs (n - 1)
nth_is xs zero h = absurd (omega (arith, h))
nth_is xs (suc i) h = let same : i ≡ suc i - 1 = omega arith in ap (slice_get xs) same

within : {A : Type 0} (xs : List A) (i : ℕ) (x : A) → slice_get xs i ≡ Some x → i < length xs
within [] i x h = absurd (cc)
within (y ∷ ys) zero x h = omega arith
within (y ∷ ys) (suc i) x h = let w = within ys i x h in omega (arith, w)

-- what is there has a place from 1 on, within the list
pub nth_within : {A : Type 0} (xs : List A) (n : ℕ) (x : A) → nth xs n ≡ Some x → (1 ≤ n) × (n ≤ length xs)
nth_within xs zero x h = absurd (cc)
nth_within xs (suc i) x h = let w = within xs i x h in (omega arith, omega (arith, w))

-- a place that was written
pub nth_set_same : {A : Type 0} (xs : List A) (n : ℕ) (y : A) → 1 ≤ n → n ≤ length xs → nth (slice_set xs (n - 1) y) n ≡ Some y
nth_set_same xs n y one h = nth_is (slice_set xs (n - 1) y) n one ∙ get_set_same xs (n - 1) y (omega (arith, one, h))

-- and one that was not
pub nth_set_other : {A : Type 0} (xs : List A) (n m : ℕ) (y : A) → 1 ≤ n → m ≢ n → nth (slice_set xs (n - 1) y) m ≡ nth xs m
nth_set_other xs n zero y one other = refl
nth_set_other xs n (suc j) y one other = get_set_other xs (n - 1) j y (λ e. other (omega (arith, e, one)))
