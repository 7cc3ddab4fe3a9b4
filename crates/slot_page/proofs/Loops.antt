-- The steps of loops over the slots of a page.
use Rattle.std.proofs.Common.{ℕ, ◌≡◌, ◌<◌, ◌≤◌, ◌+◌, Bool, true, false, List, [], ◌∷◌, ◌++◌, length, get_or, slice_set, take, drop, map, count_by, refl, sym, ap, ◌∙◌, arith, cond}
use Rattle.std.proofs.lemmas.List.{get_or_default, get_or_at, drop_more, length-append, length-map, length-take-le, length-drop}
use Rattle.std.proofs.lemmas.List.Edits.{map_over_more}
use mir.Val.{bool_byte}
use Rattle.std.proofs.lemmas.List.Sums.{sum_by_more, sum_by-cons}

-- a slot that a loop which maps in place has not reached is as it was
pub unreached : {X : Type 0} (f : X → X) (xs ys : List X) (i : ℕ) (d : X) → i < length xs → ys ≡ map f (take i xs) ++ drop i xs → get_or ys i d ≡ get_or xs i d
unreached f xs ys i d within so_far = rw (so_far, drop_more xs i d within) (get_or_at (map f (take i xs)) (get_or xs i d) (drop (i + 1) xs) d i (length-map (take i xs) f ∙ length-take-le i xs (omega arith)))

-- and one step on
pub mapped_more : {X : Type 0} (f : X → X) (xs ys after : List X) (i : ℕ) (d : X) → i < length xs → ys ≡ map f (take i xs) ++ drop i xs → after ≡ slice_set ys i (f (get_or ys i d)) → after ≡ map f (take (i + 1) xs) ++ drop (i + 1) xs
mapped_more f xs ys after i d within so_far is =
    let same : length ys ≡ length xs = rw so_far (length-append (map f (take i xs)) (drop i xs) ∙ omega (arith, length-map (take i xs) f, length-take-le i xs (omega arith), length-drop i xs)) in
    is ∙ map_over_more f xs ys i (get_or ys i d) within so_far (get_or_default ys i d (get_or ys i d) (omega (arith, within, same)))

-- a truth as a number
pub byte_is : (b : Bool) → bool_byte b ≡ cond b 1 0
byte_is true = refl
byte_is false = refl

-- one more element, which a test passes or not, in a count
pub counted_more : {X : Type 0} (p : X → Bool) (xs : List X) (i n step : ℕ) (d x : X) (b : Bool) → i < length xs → n ≡ count_by p (take i xs) → x ≡ get_or xs i d → b ≡ p x → step ≡ bool_byte b → n + step ≡ count_by p (take (i + 1) xs)
counted_more p xs i n step d x b within so_far at is by = rw (so_far, by, byte_is b, is, at) (sym (sum_by_more (λ y. cond (p y) 1 0) xs i d within))

pub one_at_most : (b : Bool) (n i step : ℕ) → n ≤ i → step ≡ bool_byte b → n + step ≤ i + 1
one_at_most true n i step few by = omega (arith, by)
one_at_most false n i step few by = omega (arith, by)

-- a list in which no element passes a test is left alone by a map that changes only what passes
pub map_none : {X : Type 0} (p : X → Bool) (y : X) (xs : List X) → count_by p xs ≡ 0 → map (λ x. cond (p x) y x) xs ≡ xs
map_none p y [] none = refl
map_none p y (x ∷ xs) none = one (p x) refl (λ fails. map_none p y xs (omega (arith, none, sum_by-cons (λ z. cond (p z) 1 0) x xs)))
  where
    one : (b : Bool) → p x ≡ b → (b ≡ false → map (λ z. cond (p z) y z) xs ≡ xs) → map (λ z. cond (p z) y z) (x ∷ xs) ≡ x ∷ xs
    one true e rest = absurd (omega (arith, none, sum_by-cons (λ z. cond (p z) 1 0) x xs, ap {B = ℕ} (λ b. cond b 1 0) e))
    one false e rest = rw e (ap (λ ys. x ∷ ys) (rest refl))
