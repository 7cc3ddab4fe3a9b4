-- What stands at a place of a list after one element is added at the end.
use Rattle.std.proofs.Common.{◌≡◌, ◌≢◌, ℕ, zero, suc, List, [], ◌∷◌, ◌++◌, length, slice_get, refl, ap}

-- every place but the new one has what it had
pub get_push_other : {T : Type 0} (xs : List T) (y : T) (i : ℕ) → i ≢ length xs → slice_get (xs ++ y ∷ []) i ≡ slice_get xs i
get_push_other [] y zero h = absurd (h refl)
get_push_other [] y (suc i) h = refl
get_push_other (x ∷ xs) y zero h = refl
get_push_other (x ∷ xs) y (suc i) h = get_push_other xs y i (λ e. h (ap (λ n. suc n) e))
