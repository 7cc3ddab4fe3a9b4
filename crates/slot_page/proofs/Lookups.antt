-- What a list reads at each place after one element is written or one is added at the end, with a value for the places past the end.
use Rattle.std.proofs.Common.{ℕ, ◌≡◌, ◌≤◌, ◌⊎◌, inl, inr, List, [], ◌∷◌, ◌++◌, length, slice_set, slice_index_or, nat_lt, if◌then◌else◌, refl, ap, arith, zero, suc}
use Rattle.std.proofs.lemmas.Grind.{common_steps, get_or-set_at}
use Rattle.std.proofs.lemmas.List.{get_or_past, get_or_push}

-- an element after a write is the element before it, or the written one at its place
pub get_or-set : {X : Type 0} (xs : List X) (i k : ℕ) (x d : X) → (slice_index_or (slice_set xs i x) k d ≡ slice_index_or xs k d) ⊎ ((k ≡ i) × (slice_index_or (slice_set xs i x) k d ≡ x))
get_or-set [] i k x d = inl refl
get_or-set (y ∷ ys) zero zero x d = inr (refl, refl)
get_or-set (y ∷ ys) zero (suc k) x d = inl refl
get_or-set (y ∷ ys) (suc i) zero x d = inl refl
get_or-set (y ∷ ys) (suc i) (suc k) x d = elim (get_or-set ys i k x d) [ inl e ↦ inl e | inr h ↦ inr (ap (λ n. suc n) h.0, h.1) ]

-- an element after one is added at the end is the element before it, or the added one at the old length
pub get_or-push : {X : Type 0} (xs : List X) (k : ℕ) (x d : X) → (slice_index_or (xs ++ x ∷ []) k d ≡ slice_index_or xs k d) ⊎ ((k ≡ length xs) × (slice_index_or (xs ++ x ∷ []) k d ≡ x))
get_or-push [] zero x d = inr (refl, refl)
get_or-push [] (suc k) x d = inl refl
get_or-push (y ∷ ys) zero x d = inl refl
get_or-push (y ∷ ys) (suc k) x d = elim (get_or-push ys k x d) [ inl e ↦ inl e | inr h ↦ inr (ap (λ n. suc n) h.0, h.1) ]

-- an element after a change of one, or after one more at the end, is as before, or it is the changed one
pub changed_or_added : {X : Type 0} (f : X → X) (d : X) (xs : List X) (p k : ℕ) → p ≤ length xs
    → (slice_index_or (if nat_lt p (length xs) then slice_set xs p (f (slice_index_or xs p d)) else xs ++ f d ∷ []) k d ≡ slice_index_or xs k d) ⊎ ((k ≡ p) × (slice_index_or (if nat_lt p (length xs) then slice_set xs p (f (slice_index_or xs p d)) else xs ++ f d ∷ []) k d ≡ f (slice_index_or xs p d)))
changed_or_added f d xs p k within = grind (arith, common_steps, get_or-set xs p k (f (slice_index_or xs p d)) d, get_or-push xs k (f d) d, get_or_past xs p d)

-- the changed element, or the one more
pub changed_or_added_here : {X : Type 0} (f : X → X) (d : X) (xs : List X) (p : ℕ) → p ≤ length xs
    → slice_index_or (if nat_lt p (length xs) then slice_set xs p (f (slice_index_or xs p d)) else xs ++ f d ∷ []) p d ≡ f (slice_index_or xs p d)
changed_or_added_here f d xs p within = grind (arith, common_steps, get_or-set_at xs p p (f (slice_index_or xs p d)) d, get_or_push xs (f d) d p, get_or_past xs p d)
