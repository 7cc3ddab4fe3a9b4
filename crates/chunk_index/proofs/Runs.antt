-- What a filter leaves of a list where the elements that pass stand side by side.
use Rattle.std.proofs.Common.{◌≡◌, ℕ, ◌<◌, ◌≤◌, ◌+◌, Bool, true, false, not, ◌&&◌, cond, if◌then◌else◌, Option, Some, None, List, [], ◌∷◌, length, get_or, slice_get, take, drop, filter, refl, sym, ap, ◌∙◌, arith, zero, suc}
use Rattle.std.specs.Option.{option_and_then}
use Rattle.std.specs.List.Sorted.{IsPartitionPoint}
use Rattle.std.proofs.lemmas.Bool.{both_ways, false_from_ne_true}
use Rattle.std.proofs.lemmas.List.{get_or-drop, length-drop}
use Rattle.std.proofs.lemmas.List.Sums.{prefix_len_passes, prefix_len_stops}
use Rattle.std.proofs.lemmas.Option.{slice_get_within, get_or_from_slice_get}
use Rattle.std.specs.List.{prefix_len}

-- elements at the front that do not pass are left out
pub skip_run : {X : Type 0} (w : X → Bool) (xs : List X) (i : ℕ) → i ≤ length xs → ((k : ℕ) (d : X) → k < i → w (get_or xs k d) ≡ false) → filter w xs ≡ filter w (drop i xs)
skip_run w xs zero within fails = refl
skip_run w [] (suc i) within fails = absurd (omega (arith, within))
skip_run w (x ∷ xs) (suc i) within fails = ap (λ b. cond b (x ∷ filter w xs) (filter w xs)) (fails zero x (omega arith)) ∙ skip_run w xs i (omega (arith, within)) (λ k d l. fails (suc k) d (omega (arith, l)))

-- where the front passes and nothing beyond it does, the front is what passes
pub front_run : {X : Type 0} (w : X → Bool) (xs : List X) (j : ℕ) → ((k : ℕ) (d : X) → k < j → k < length xs → w (get_or xs k d) ≡ true) → ((k : ℕ) (d : X) → j ≤ k → k < length xs → w (get_or xs k d) ≡ false) → filter w xs ≡ take j xs
front_run w [] zero passes fails = refl
front_run w [] (suc j) passes fails = refl
front_run w (x ∷ xs) zero passes fails = ap (λ b. cond b (x ∷ filter w xs) (filter w xs)) (fails zero x (omega arith) (omega arith)) ∙ front_run w xs zero (λ k d l. absurd (omega (arith, l))) (λ k d l within. fails (suc k) d (omega arith) (omega (arith, within)))
front_run w (x ∷ xs) (suc j) passes fails =
    ap (λ b. cond b (x ∷ filter w xs) (filter w xs)) (passes zero x (omega arith) (omega arith))
    ∙ ap (λ zs. x ∷ zs) (front_run w xs j (λ k d l within. passes (suc k) d (omega (arith, l)) (omega (arith, within))) (λ k d l within. fails (suc k) d (omega (arith, l)) (omega (arith, within))))

-- the run between the place before which p holds and that before which q holds
pub between_run : {X : Type 0} (p q w : X → Bool) (xs : List X) (i j : ℕ) → ((x : X) → w x ≡ (not (p x) && q x)) → i ≤ length xs → IsPartitionPoint (λ x. p x ≡ true) (λ x. p x ≡ false) xs i → IsPartitionPoint (λ x. q x ≡ true) (λ x. q x ≡ false) (drop i xs) j
    → filter w xs ≡ take j (drop i xs)
between_run {X} p q w xs i j is within ahead reaches =
    skip_run w xs i within (λ k d l. is (get_or xs k d) ∙ ap (λ b. not b && q (get_or xs k d)) (ahead.0 k d (omega arith) l))
    ∙ front_run w (drop i xs) j
    (λ k d l inside. is (get_or (drop i xs) k d) ∙ both (p (get_or (drop i xs) k d)) (q (get_or (drop i xs) k d)) (past k d inside) (reaches.0 k d (omega arith) l))
    (λ k d l inside. is (get_or (drop i xs) k d) ∙ neither (p (get_or (drop i xs) k d)) (q (get_or (drop i xs) k d)) (reaches.1 k d l inside))
  where
    both : (a b : Bool) → a ≡ false → b ≡ true → (not a && b) ≡ true
    both a b e f = cc

    neither : (a b : Bool) → b ≡ false → (not a && b) ≡ false
    neither true b f = refl
    neither false b f = f

    past : (k : ℕ) (d : X) → k < length (drop i xs) → p (get_or (drop i xs) k d) ≡ false
    past k d inside = ap p (get_or-drop i xs k d) ∙ ahead.1 (i + k) d (omega arith) (omega (arith, inside, length-drop i xs))

-- an element by its place among those that pass, where those stand at the front
pub nth_run : {X : Type 0} (w : X → Bool) (xs : List X) → ((i j : ℕ) (d : X) → i ≤ j → j < length xs → w (get_or xs j d) ≡ true → w (get_or xs i d) ≡ true) → (n : ℕ) → slice_get (filter w xs) n ≡ option_and_then (λ x. if w x then Some x else None) (slice_get xs n)
nth_run w [] closed n = refl
nth_run {X} w (x ∷ xs) closed n = by_test (w x) refl n (λ m. nth_run w xs (λ i j d l within. closed (suc i) (suc j) d (omega (arith, l)) (omega (arith, within))) m)
  where
    none_of : (o : Option X) → ((y : X) → o ≡ Some y → w y ≡ false) → None ≡ option_and_then (λ y. if w y then Some y else None) o
    none_of None fails = refl
    none_of (Some y) fails = ap (λ b. cond b (Some y) None) (sym (fails y refl))

    all_fail : w x ≡ false → (k : ℕ) (d : X) → k < length (x ∷ xs) → w (get_or (x ∷ xs) k d) ≡ false
    all_fail fails k d within = false_from_ne_true (w (get_or (x ∷ xs) k d)) (λ passes. both_ways (w x) fails (closed zero k d (omega arith) within passes))

    by_test : (b : Bool) → w x ≡ b → (n : ℕ) → ((m : ℕ) → slice_get (filter w xs) m ≡ option_and_then (λ y. if w y then Some y else None) (slice_get xs m)) → slice_get (cond b (x ∷ filter w xs) (filter w xs)) n ≡ option_and_then (λ y. if w y then Some y else None) (slice_get (x ∷ xs) n)
    by_test true passes zero rest = ap (λ b. cond b (Some x) None) (sym passes)
    by_test true passes (suc m) rest = rest m
    by_test false fails n rest =
        ap (λ ys. slice_get ys n) (front_run w xs zero (λ k d l. absurd (omega (arith, l))) (λ k d l inside. all_fail fails (suc k) d (omega (arith, inside))))
        ∙ none_of (slice_get (x ∷ xs) n) (λ y at. ap w (sym (get_or_from_slice_get (x ∷ xs) n y y at)) ∙ all_fail fails n y (slice_get_within (x ∷ xs) n y at))

-- where what passes stands at the front, a filter leaves the front that passes
pub while_run : {X : Type 0} (w : X → Bool) (xs : List X) → ((i j : ℕ) (d : X) → i ≤ j → j < length xs → w (get_or xs j d) ≡ true → w (get_or xs i d) ≡ true) → filter w xs ≡ take (prefix_len w xs) xs
while_run w xs closed = front_run w xs (prefix_len w xs) (λ k d l within. prefix_len_passes w xs k d l)
    (λ k d l within. false_from_ne_true (w (get_or xs k d)) (λ passes. both_ways (w (get_or xs (prefix_len w xs) d)) (prefix_len_stops w xs d (omega (arith, l, within))) (closed (prefix_len w xs) k d l within passes)))
