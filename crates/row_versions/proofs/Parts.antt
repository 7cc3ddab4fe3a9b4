-- A list that a test parts: what passes stands before what fails.
use Rattle.std.proofs.Common.{◌≡◌, ℕ, ◌<◌, ◌≤◌, Bool, true, false, not, List, [], ◌∷◌, length, get_or, take, drop, filter, refl, ap, inl, inr, arith, zero, suc}
use Rattle.std.specs.List.Sorted.{IsStrictlySortedBy, IsPartitionedBy, IsPartitionPoint}
use Rattle.std.specs.declared.cmp.Ordering.{Ordering}
use Rattle.std.specs.declared.cmp.Ordering.TheVariants.{Less}
use Rattle.std.proofs.lemmas.Bool.{cases_eq}
use Rattle.std.proofs.lemmas.Map.Keys.{Less-from_sorted}

-- a list in order is parted by a test that what is below passes with what is above
pub parted : {K : Type 0} (c : K → K → Ordering) (p : K → Bool) (ks : List K) → IsStrictlySortedBy c ks → ((x y : K) → c x y ≡ Less → p y ≡ true → p x ≡ true) → IsPartitionedBy p ks
parted c p ks sorted down = λ i j d low high passes. elim (cases_eq i j) [
  | inl same ↦ rw same passes
  | inr other ↦ down (get_or ks i d) (get_or ks j d) (Less-from_sorted c ks i j d sorted (omega (arith, other)) high) passes
]

-- what passes is in front, and the rest behind
pub record ArePart {X : Type 0} (p : X → Bool) (xs : List X) (i : ℕ) : Type 0 where
  pub front : take i xs ≡ filter p xs
  pub behind : drop i xs ≡ filter (λ x. not (p x)) xs

parts_of : {X : Type 0} (p : X → Bool) (xs : List X) (i : ℕ) → ((k : ℕ) (d : X) → k < i → p (get_or xs k d) ≡ true) → ((k : ℕ) (d : X) → i ≤ k → k < length xs → p (get_or xs k d) ≡ false) → i ≤ length xs → ArePart p xs i
parts_of p [] i before after within = record {
  front = let none : i ≡ 0 = omega (arith, within) in rw none refl;
  behind = let none : i ≡ 0 = omega (arith, within) in rw none refl;
}
parts_of p (x ∷ xs) zero before after within =
    let rest = parts_of p xs zero (λ k d low. absurd (omega (arith, low))) (λ k d low high. after (suc k) d (omega arith) (omega (arith, high))) (omega arith) in
    let fails : p x ≡ false = after zero x (omega arith) (omega arith) in
    record {
      front = rw fails rest.front;
      behind = rw fails (ap (λ ys. x ∷ ys) rest.behind);
    }
parts_of p (x ∷ xs) (suc i) before after within =
    let rest = parts_of p xs i (λ k d low. before (suc k) d (omega (arith, low))) (λ k d low high. after (suc k) d (omega (arith, low)) (omega (arith, high))) (omega (arith, within)) in
    let passes : p x ≡ true = before zero x (omega arith) in
    record {
      front = rw passes (ap (λ ys. x ∷ ys) rest.front);
      behind = rw passes rest.behind;
    }

pub parts : {X : Type 0} (p : X → Bool) (xs : List X) (i : ℕ) → i ≤ length xs → IsPartitionPoint (λ y. p y ≡ true) (λ y. p y ≡ false) xs i → ArePart p xs i
parts p xs i within point = parts_of p xs i (λ k d low. point.0 k d (omega arith) low) (λ k d low high. point.1 k d low high) within
