-- Whether a list of numbers holds a number, as a test, by places, and as a binary search answers it.
use Rattle.std.proofs.Common.{◌≡◌, ◌≢◌, ◌<◌, ◌≤◌, ◌↔◌, ℕ, zero, suc, true, false, List, [], ◌∷◌, Result, Ok, Err, Contains, is_ok, length, get_or, ◌==◌, MatchResult, refl, sym, ◌∙◌, arith, inl, inr}
use Rattle.std.specs.List.{list_any}
use Rattle.std.specs.List.Sorted.{IsBinarySearchResult}
use Rattle.std.specs.Ordering.{nat_cmp}
use Rattle.std.proofs.lemmas.Bool.{cases_eq, cases_lt}
use Rattle.std.proofs.lemmas.Bool.Decides.{nat_tests}
use Rattle.std.proofs.lemmas.List.{get_or_default}
use Rattle.std.proofs.lemmas.List.Sorted.{searched}
use Rattle.xact_status.proofs.Ascending.{AscendsFrom, ascends}

-- a number that stands at a place is held
pub held_at : (xs : List ℕ) (x i : ℕ) → i < length xs → get_or xs i 0 ≡ x → list_any (λ y. y == x) xs ≡ true
held_at [] x i h e = absurd (omega (arith, h))
held_at (y ∷ xs) x zero h e = grind (arith, nat_tests, e)
held_at (y ∷ xs) x (suc i) h e = grind (arith, nat_tests, held_at xs x i (omega (arith, h)) e)

-- a number that stands at no place is not held
pub none_held : (xs : List ℕ) (x : ℕ) → ((i : ℕ) → i < length xs → get_or xs i 0 ≢ x) → list_any (λ y. y == x) xs ≡ false
none_held [] x none = refl
none_held (y ∷ xs) x none = grind (arith, nat_tests, none 0 (omega arith), none_held xs x (λ i h. none (suc i) (omega (arith, h))))

-- a number that is held stands at a place
pub place_held : (xs : List ℕ) (x : ℕ) → list_any (λ y. y == x) xs ≡ true → (i : ℕ) × (i < length xs) × (get_or xs i 0 ≡ x)
place_held [] x held = absurd (cc)
place_held (y ∷ xs) x held = elim (cases_eq y x) [
  | inl same ↦ (0, omega arith, same)
  | inr differ ↦ let place = place_held xs x (grind (arith, nat_tests, held, differ)) in (suc place.0, omega (arith, place.1), place.2)
]

-- the test is std's membership
pub Contains_held : (xs : List ℕ) (x : ℕ) → Contains xs x ↔ (list_any (λ y. y == x) xs ≡ true)
Contains_held xs x = (λ contained. held_at xs x contained.0 contained.1 (get_or_default xs contained.0 0 x contained.1 ∙ contained.2), λ held. let place = place_held xs x held in (place.0, place.1, get_or_default xs place.0 x 0 place.1 ∙ place.2))

-- ascending numbers rise
rises : (least : ℕ) (xs : List ℕ) → AscendsFrom least xs → (i j : ℕ) → i ≤ j → j < length xs → get_or xs i 0 ≤ get_or xs j 0
rises least xs up i j le h = elim (cases_eq i j) [
  | inl same ↦ rw same (omega arith)
  | inr differ ↦ let less = ascends least xs i j up (omega arith) h in omega (arith, less)
]

-- what a binary search in ascending numbers answers: a place of the number, or that it is not held
pub search_ascending : (least : ℕ) (xs : List ℕ) (x : ℕ) (r : Result ℕ ℕ) → AscendsFrom least xs → IsBinarySearchResult (λ y. nat_cmp y x) xs r → MatchResult r (λ i. (i < length xs) × (get_or xs i 0 ≡ x)) (λ _. list_any (λ y. y == x) xs ≡ false)
search_ascending least xs x (Ok i) up answer = searched xs x (Ok i) answer (rises least xs up)
search_ascending least xs x (Err i) up answer =
    let gap = searched xs x (Err i) answer (rises least xs up) in
    none_held xs x (λ k h same. elim (cases_lt k i) [
      | inl below ↦ omega (arith, gap.1 k below)
      | inr above ↦ omega (arith, gap.2 k above h)
    ])

-- so it succeeds exactly where the number is held
pub search_holds : (least : ℕ) (xs : List ℕ) (x : ℕ) (r : Result ℕ ℕ) → AscendsFrom least xs → IsBinarySearchResult (λ y. nat_cmp y x) xs r → is_ok r ≡ list_any (λ y. y == x) xs
search_holds least xs x (Ok i) up answer = let found = search_ascending least xs x (Ok i) up answer in sym (held_at xs x i found.0 found.1)
search_holds least xs x (Err i) up answer = sym (search_ascending least xs x (Err i) up answer)
