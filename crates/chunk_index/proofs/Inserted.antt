-- Lists in a strict order: one more element, and what a filter leaves of it.
use Rattle.std.proofs.Common.{◌≡◌, ◌≢◌, ◌⊎◌, inl, inr, ℕ, ◌<◌, ◌≤◌, Bool, true, false, cond, List, [], ◌∷◌, ◌++◌, length, get_or, filter, Contains, refl, sym, ap, ◌∙◌, arith, zero, suc}
use Rattle.std.specs.List.{insert, AllByRecursion}
use Rattle.std.specs.List.Sorted.{IsStrictlySortedBy}
use Rattle.std.specs.declared.cmp.Ordering.{Ordering}
use Rattle.std.specs.declared.cmp.Ordering.TheVariants.{Less, Equal, Greater}
use Rattle.std.specs.Ordering.{is_lt, ordering_reverse}
use Rattle.std.specs.Cmp.{IsTotalOrder}
use Rattle.chunk_index.specs.Orders.{inserted}
use Rattle.list_facts.proofs.Members.{none_in_nil, cases_in, first_in, later_in}

-- what a list holds beside one more element
pub in_inserted : {X : Type 0} (cmp : X → X → Ordering) (x y : X) (xs : List X) → Contains xs y → Contains (inserted cmp x xs) y
in_inserted cmp x y [] held = absurd (none_in_nil y held)
in_inserted cmp x y (z ∷ zs) held = by_test (is_lt (cmp x z)) (in_inserted cmp x y zs)
  where
    by_test : (b : Bool) → (Contains zs y → Contains (inserted cmp x zs) y) → Contains (cond b (x ∷ z ∷ zs) (z ∷ inserted cmp x zs)) y
    by_test true rest = later_in x (z ∷ zs) y held
    by_test false rest = elim (cases_in z zs y held) [ inl is ↦ first_in z (inserted cmp x zs) y is | inr later ↦ later_in z (inserted cmp x zs) y (rest later) ]

-- the element itself
pub new_in : {X : Type 0} (cmp : X → X → Ordering) (x : X) (xs : List X) → Contains (inserted cmp x xs) x
new_in cmp x [] = first_in x [] x refl
new_in cmp x (z ∷ zs) = by_test (is_lt (cmp x z)) (new_in cmp x zs)
  where
    by_test : (b : Bool) → Contains (inserted cmp x zs) x → Contains (cond b (x ∷ z ∷ zs) (z ∷ inserted cmp x zs)) x
    by_test true rest = first_in x (z ∷ zs) x refl
    by_test false rest = later_in z (inserted cmp x zs) x rest

-- and nothing else
pub inserted_holds : {X : Type 0} (cmp : X → X → Ordering) (x y : X) (xs : List X) → Contains (inserted cmp x xs) y → Contains xs y ⊎ (x ≡ y)
inserted_holds cmp x y [] held = elim (cases_in x [] y held) [ inl is ↦ inr is | inr none ↦ inl none ]
inserted_holds cmp x y (z ∷ zs) held = by_test (is_lt (cmp x z)) held (inserted_holds cmp x y zs)
  where
    by_test : (b : Bool) → Contains (cond b (x ∷ z ∷ zs) (z ∷ inserted cmp x zs)) y → (Contains (inserted cmp x zs) y → Contains zs y ⊎ (x ≡ y)) → Contains (z ∷ zs) y ⊎ (x ≡ y)
    by_test true held' rest = elim (cases_in x (z ∷ zs) y held') [ inl is ↦ inr is | inr later ↦ inl later ]
    by_test false held' rest = elim (cases_in z (inserted cmp x zs) y held') [
      | inl is ↦ inl (first_in z zs y is)
      | inr later ↦ elim (rest later) [ inl there ↦ inl (later_in z zs y there) | inr is ↦ inr is ]
    ]

-- where the place of an element is known, it is put there
pub inserted_at : {X : Type 0} (cmp : X → X → Ordering) (x : X) (xs : List X) (at : ℕ) → at ≤ length xs → ((k : ℕ) (d : X) → k < at → is_lt (cmp x (get_or xs k d)) ≡ false) → ((d : X) → at < length xs → is_lt (cmp x (get_or xs at d)) ≡ true) → insert xs at x ≡ inserted cmp x xs
inserted_at cmp x [] zero within below here = refl
inserted_at cmp x [] (suc at) within below here = absurd (omega (arith, within))
inserted_at cmp x (y ∷ ys) zero within below here = rw (here y (omega arith)) refl
inserted_at cmp x (y ∷ ys) (suc at) within below here = rw (below zero y (omega arith)) (ap (λ zs. y ∷ zs) (inserted_at cmp x ys at (omega (arith, within)) (λ k d l. below (suc k) d (omega (arith, l))) (λ d l. here d (omega (arith, l)))))

-- an element that is less than none of a list comes last
pub inserted_last : {X : Type 0} (cmp : X → X → Ordering) (x : X) (xs : List X) → ((y : X) → Contains xs y → is_lt (cmp x y) ≡ false) → inserted cmp x xs ≡ xs ++ x ∷ []
inserted_last cmp x [] above = refl
inserted_last cmp x (y ∷ ys) above = rw (above y (first_in y ys y refl)) (ap (λ zs. y ∷ zs) (inserted_last cmp x ys (λ z held. above z (later_in y ys z held))))

-- one that is less than each comes first
inserted_first : {X : Type 0} (cmp : X → X → Ordering) (x : X) (xs : List X) → AllByRecursion (λ y. cmp x y ≡ Less) xs → inserted cmp x xs ≡ x ∷ xs
inserted_first cmp x [] below = refl
inserted_first cmp x (y ∷ ys) below = rw below.0 refl

-- an element that does not pass is filtered out
pub filter-inserted_no : {X : Type 0} (cmp : X → X → Ordering) (p : X → Bool) (x : X) (xs : List X) → p x ≡ false → filter p (inserted cmp x xs) ≡ filter p xs
filter-inserted_no cmp p x [] fails = rw fails refl
filter-inserted_no cmp p x (y ∷ ys) fails = by_test (is_lt (cmp x y)) (filter-inserted_no cmp p x ys fails)
  where
    by_test : (b : Bool) → filter p (inserted cmp x ys) ≡ filter p ys → filter p (cond b (x ∷ y ∷ ys) (y ∷ inserted cmp x ys)) ≡ filter p (y ∷ ys)
    by_test true rest = rw fails refl
    by_test false rest = ap (λ zs. cond (p y) (y ∷ zs) zs) rest

all_filter : {X : Type 0} (P : X → Type 0) (p : X → Bool) (xs : List X) → AllByRecursion P xs → AllByRecursion P (filter p xs)
all_filter P p [] all = tt
all_filter P p (y ∷ ys) all = by_test (p y) (all_filter P p ys all.1)
  where
    by_test : (b : Bool) → AllByRecursion P (filter p ys) → AllByRecursion P (cond b (y ∷ filter p ys) (filter p ys))
    by_test true rest = (all.0, rest)
    by_test false rest = rest

all_map : {X : Type 0} (P Q : X → Type 0) (xs : List X) → ((x : X) → P x → Q x) → AllByRecursion P xs → AllByRecursion Q xs
all_map P Q [] f all = tt
all_map P Q (y ∷ ys) f all = (f y all.0, all_map P Q ys f all.1)

-- one that passes stays in its place among those that do
pub filter-inserted_yes : {X : Type 0} {cmp : X → X → Ordering} → IsTotalOrder cmp → (p : X → Bool) (x : X) (xs : List X) → IsStrictlySortedBy cmp xs → p x ≡ true → filter p (inserted cmp x xs) ≡ inserted cmp x (filter p xs)
unfolding IsStrictlySortedBy
filter-inserted_yes o p x [] sorted passes = rw passes refl
filter-inserted_yes {X} {cmp} o p x (y ∷ ys) sorted passes = by_order (cmp x y) refl (filter-inserted_yes o p x ys sorted.1 passes)
  where
    kept_after : (b : Bool) → is_lt (cmp x y) ≡ false → filter p (inserted cmp x ys) ≡ inserted cmp x (filter p ys) → cond b (y ∷ filter p (inserted cmp x ys)) (filter p (inserted cmp x ys)) ≡ inserted cmp x (cond b (y ∷ filter p ys) (filter p ys))
    kept_after true above rest = rw above (ap (λ zs. y ∷ zs) rest)
    kept_after false above rest = rest

    after : is_lt (cmp x y) ≡ false → filter p (inserted cmp x ys) ≡ inserted cmp x (filter p ys) → filter p (inserted cmp x (y ∷ ys)) ≡ inserted cmp x (filter p (y ∷ ys))
    after above rest = ap (λ b. filter p (cond b (x ∷ y ∷ ys) (y ∷ inserted cmp x ys))) above ∙ kept_after (p y) above rest

    by_order : (r : Ordering) → cmp x y ≡ r → filter p (inserted cmp x ys) ≡ inserted cmp x (filter p ys) → filter p (inserted cmp x (y ∷ ys)) ≡ inserted cmp x (filter p (y ∷ ys))
    by_order Less less rest =
        let all : AllByRecursion (λ z. cmp x z ≡ Less) (y ∷ ys) = (less, all_map (λ z. cmp y z ≡ Less) (λ z. cmp x z ≡ Less) ys (λ z more. o.trans x y z less more) sorted.0) in
        ap (λ r. filter p (cond (is_lt r) (x ∷ y ∷ ys) (y ∷ inserted cmp x ys))) less ∙ ap (λ b. cond b (x ∷ filter p (y ∷ ys)) (filter p (y ∷ ys))) passes ∙ sym (inserted_first cmp x (filter p (y ∷ ys)) (all_filter (λ z. cmp x z ≡ Less) p (y ∷ ys) all))
    by_order Equal equal rest = after (ap is_lt equal) rest
    by_order Greater greater rest = after (ap is_lt greater) rest

-- a list stays in order with an element that was not there
all_inserted : {X : Type 0} (cmp : X → X → Ordering) (P : X → Type 0) (x : X) (xs : List X) → P x → AllByRecursion P xs → AllByRecursion P (inserted cmp x xs)
all_inserted cmp P x [] new all = (new, tt)
all_inserted cmp P x (y ∷ ys) new all = by_test (is_lt (cmp x y)) (all_inserted cmp P x ys new all.1)
  where
    by_test : (b : Bool) → AllByRecursion P (inserted cmp x ys) → AllByRecursion P (cond b (x ∷ y ∷ ys) (y ∷ inserted cmp x ys))
    by_test true rest = (new, all)
    by_test false rest = (all.0, rest)

pub IsStrictlySortedBy-inserted : {X : Type 0} {cmp : X → X → Ordering} → IsTotalOrder cmp → (x : X) (xs : List X) → IsStrictlySortedBy cmp xs → ((y : X) → Contains xs y → cmp x y ≢ Equal) → IsStrictlySortedBy cmp (inserted cmp x xs)
unfolding IsStrictlySortedBy
IsStrictlySortedBy-inserted o x [] sorted new = (tt, tt)
IsStrictlySortedBy-inserted {X} {cmp} o x (y ∷ ys) sorted new = by_order (cmp x y) refl (IsStrictlySortedBy-inserted o x ys sorted.1 (λ z held. new z (later_in y ys z held)))
  where
    by_order : (r : Ordering) → cmp x y ≡ r → IsStrictlySortedBy cmp (inserted cmp x ys) → IsStrictlySortedBy cmp (inserted cmp x (y ∷ ys))
    by_order Less less rest = rw less ((less, all_map (λ z. cmp y z ≡ Less) (λ z. cmp x z ≡ Less) ys (λ z more. o.trans x y z less more) sorted.0), sorted)
    by_order Equal equal rest = absurd (new y (first_in y ys y refl) equal)
    by_order Greater greater rest = rw greater (all_inserted cmp (λ z. cmp y z ≡ Less) x ys (o.antisymm y x ∙ ap ordering_reverse greater) sorted.0, rest)
