-- Lists of numbers that ascend: each number is above the one before it.
use Rattle.std.proofs.Common.{◌<◌, ◌≤◌, ◌+◌, ℕ, zero, suc, List, [], ◌∷◌, length, get_or, arith, add-one}
use Rattle.std.specs.List.Sorted.{IsStrictlyIncreasing}

-- each number is at least the given one, and above the one before
abbrev pub AscendsFrom : ℕ → List ℕ → Type 0
AscendsFrom least [] = Unit {0}
AscendsFrom least (x ∷ xs) = (least ≤ x) × AscendsFrom (suc x) xs

-- the bound may be lower
pub AscendsFrom_lower : (least lower : ℕ) (xs : List ℕ) → lower ≤ least → AscendsFrom least xs → AscendsFrom lower xs
AscendsFrom_lower least lower [] le up = tt
AscendsFrom_lower least lower (x ∷ xs) le up = (omega (arith, up.0), up.1)

-- no number is below the bound
pub at_least : (least : ℕ) (xs : List ℕ) (i : ℕ) → AscendsFrom least xs → i < length xs → least ≤ get_or xs i 0
at_least least [] i up h = absurd (omega (arith, h))
at_least least (x ∷ xs) zero up h = up.0
at_least least (x ∷ xs) (suc i) up h = omega (arith, up.0, at_least (suc x) xs i up.1 (omega (arith, h)))

-- a number before another is below it
pub ascends : (least : ℕ) (xs : List ℕ) (i j : ℕ) → AscendsFrom least xs → i < j → j < length xs → get_or xs i 0 < get_or xs j 0
ascends least [] i j up lt h = absurd (omega (arith, h))
ascends least (x ∷ xs) i zero up lt h = absurd (omega (arith, lt))
ascends least (x ∷ xs) zero (suc j) up lt h = omega (arith, at_least (suc x) xs j up.1 (omega (arith, h)))
ascends least (x ∷ xs) (suc i) (suc j) up lt h = ascends (suc x) xs i j up.1 (omega (arith, lt)) (omega (arith, h))

-- where each number is below the next, they ascend from any bound that the first one meets
pub AscendsFrom_increasing : (xs : List ℕ) (least : ℕ) → IsStrictlyIncreasing xs → (0 < length xs → least ≤ get_or xs 0 0) → AscendsFrom least xs
AscendsFrom_increasing [] least up first = tt
AscendsFrom_increasing (x ∷ xs) least up first = (first (omega arith), AscendsFrom_increasing xs (suc x) (λ k h. rw add-one (rw add-one at (up (suc k) (omega (arith, h))))) (λ h. up 0 (omega (arith, h))))

-- and the other way round
pub IsStrictlyIncreasing_ascending : (least : ℕ) (xs : List ℕ) → AscendsFrom least xs → IsStrictlyIncreasing xs
IsStrictlyIncreasing_ascending least xs up k h = ascends least xs k (k + 1) up (omega arith) h
