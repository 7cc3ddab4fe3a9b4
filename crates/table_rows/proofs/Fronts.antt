-- The first that a function gives of the items of a list.
use Rattle.std.proofs.Common.{ℕ, ◌≡◌, List, [], ◌∷◌, Option, Some, None, slice_index_or, refl, sym, ap, ◌∙◌, zero, suc}
use Rattle.std.specs.Option.{option_or}
use Rattle.std.proofs.lemmas.Option.{none-some}
use Rattle.table_rows.specs.Worlds.{first_some}

-- it gives none where it gives none of any of them
pub first_none : {X Y : Type 0} (f : X → Option Y) (d : X) (xs : List X) → ((i : ℕ) → f (slice_index_or xs i d) ≡ None) → first_some f xs ≡ None
first_none f d [] none = refl
first_none f d (x ∷ xs) none = ap (λ o. option_or o (first_some f xs)) (none 0) ∙ first_none f d xs (λ i. none (suc i))

-- and the same where two functions give the same of items at the same places
pub first_same : {X Y : Type 0} (f g : X → Option Y) (d : X) (xs ys : List X) → f d ≡ None → g d ≡ None → ((i : ℕ) → f (slice_index_or xs i d) ≡ g (slice_index_or ys i d)) → first_some f xs ≡ first_some g ys
first_same f g d [] [] fd gd same = refl
first_same f g d [] (y ∷ ys) fd gd same = sym (first_none g d (y ∷ ys) (λ i. sym (same i) ∙ fd))
first_same f g d (x ∷ xs) [] fd gd same = first_none f d (x ∷ xs) (λ i. same i ∙ gd)
first_same f g d (x ∷ xs) (y ∷ ys) fd gd same = ap (λ o. option_or o (first_some f xs)) (same 0) ∙ ap (λ o. option_or (g y) o) (first_same f g d xs ys fd gd (λ i. same (suc i)))

-- what it gives it gives of one of them
first_step : {X Y : Type 0} (f : X → Option Y) (d x : X) (xs : List X) (y : Y) (o : Option Y) → f x ≡ o → option_or o (first_some f xs) ≡ Some y → (first_some f xs ≡ Some y → (i : ℕ) × (f (slice_index_or xs i d) ≡ Some y)) → (i : ℕ) × (f (slice_index_or (x ∷ xs) i d) ≡ Some y)
first_step f d x xs y None is e rest = let later = rest e in (suc later.0, later.1)
first_step f d x xs y (Some z) is e rest = (0, is ∙ e)

pub first_is : {X Y : Type 0} (f : X → Option Y) (d : X) (xs : List X) (y : Y) → first_some f xs ≡ Some y → (i : ℕ) × (f (slice_index_or xs i d) ≡ Some y)
first_is f d [] y e = absurd (none-some y e)
first_is f d (x ∷ xs) y e = first_step f d x xs y (f x) refl e (λ h. first_is f d xs y h)

-- where it gives none, it gives none of any of them
none_parts : {Y : Type 0} (o p : Option Y) → option_or o p ≡ None → (o ≡ None) × (p ≡ None)
none_parts None p e = (refl, e)
none_parts (Some y) p e = absurd (none-some y (sym e))

pub first_gives_none : {X Y : Type 0} (f : X → Option Y) (d : X) (xs : List X) (i : ℕ) → f d ≡ None → first_some f xs ≡ None → f (slice_index_or xs i d) ≡ None
first_gives_none f d [] i fd e = fd
first_gives_none f d (x ∷ xs) zero fd e = (none_parts (f x) (first_some f xs) e).0
first_gives_none f d (x ∷ xs) (suc i) fd e = first_gives_none f d xs i fd (none_parts (f x) (first_some f xs) e).1
