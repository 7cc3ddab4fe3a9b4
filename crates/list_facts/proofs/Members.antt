-- What a list holds, first element by first element; what a filter leaves of it and what a search finds in it.
use Rattle.std.proofs.Common.{◌≡◌, ◌⊎◌, inl, inr, Bool, true, false, ◌&&◌, cond, Option, Some, None, List, map, [], ◌∷◌, ◌++◌, filter, find, Contains, refl, sym, ap, ◌∙◌, arith, zero, suc}
use Rattle.std.specs.List.{filter_map, cons_option}
use Rattle.std.proofs.lemmas.Option.{none-some}

-- an empty list holds nothing
pub none_in_nil : {X : Type 0} (x : X) → Contains [] x → ⊥
none_in_nil x held = omega (arith, held.1)

-- what a list holds is its first element or held by the rest
pub cases_in : {X : Type 0} (y : X) (ys : List X) (x : X) → Contains (y ∷ ys) x → (y ≡ x) ⊎ Contains ys x
cases_in y ys x (zero, below, is) = inl is
cases_in y ys x (suc k, below, is) = inr (k, omega (arith, below), is)

-- and the converse of both
pub first_in : {X : Type 0} (y : X) (ys : List X) (x : X) → y ≡ x → Contains (y ∷ ys) x
first_in y ys x is = (zero, omega arith, is)

pub later_in : {X : Type 0} (y : X) (ys : List X) (x : X) → Contains ys x → Contains (y ∷ ys) x
later_in y ys x held = (suc held.0, omega (arith, held.1), held.2)

-- what a list holds, mapped, is held by the list that is mapped
pub map_in : {X Y : Type 0} (f : X → Y) (xs : List X) (x : X) → Contains xs x → Contains (map f xs) (f x)
map_in f [] x held = absurd (none_in_nil x held)
map_in f (y ∷ ys) x held = elim (cases_in y ys x held) [
  | inl is ↦ first_in (f y) (map f ys) (f x) (ap f is)
  | inr later ↦ later_in (f y) (map f ys) (f x) (map_in f ys x later)
]

-- and what that list holds comes from what the other one holds
pub from_map : {X Y : Type 0} (f : X → Y) (xs : List X) (y : Y) → Contains (map f xs) y → (x : X) × Contains xs x × (f x ≡ y)
from_map f [] y held = absurd (none_in_nil y held)
from_map f (x ∷ xs) y held = elim (cases_in (f x) (map f xs) y held) [
  | inl is ↦ (x, first_in x xs x refl, is)
  | inr later ↦ let rest = from_map f xs y later in (rest.0, later_in x xs rest.0 rest.1, rest.2)
]

-- so does what is held where only some are mapped
pub from_chosen : {X Y : Type 0} (f : X → Option Y) (xs : List X) (y : Y) → Contains (filter_map f xs) y → (x : X) × Contains xs x × (f x ≡ Some y)
from_chosen f [] y held = absurd (none_in_nil y held)
from_chosen {X} {Y} f (x ∷ xs) y held = by_value (f x) refl held (from_chosen f xs y)
  where
    by_value : (o : Option Y) → f x ≡ o → Contains (cons_option o (filter_map f xs)) y → (Contains (filter_map f xs) y → (z : X) × Contains xs z × (f z ≡ Some y)) → (z : X) × Contains (x ∷ xs) z × (f z ≡ Some y)
    by_value None is held' rest = let later = rest held' in (later.0, later_in x xs later.0 later.1, later.2)
    by_value (Some w) is held' rest = elim (cases_in w (filter_map f xs) y held') [
      | inl same ↦ (x, first_in x xs x refl, is ∙ ap Some same)
      | inr more ↦ let later = rest more in (later.0, later_in x xs later.0 later.1, later.2)
    ]

-- what a filter holds passes, and was held
pub filter_holds : {X : Type 0} (p : X → Bool) (xs : List X) (x : X) → Contains (filter p xs) x → Contains xs x × (p x ≡ true)
filter_holds p [] x held = absurd (none_in_nil x held)
filter_holds {X} p (y ∷ ys) x held = by_test (p y) refl held (filter_holds p ys x)
  where
    by_test : (b : Bool) → p y ≡ b → Contains (cond b (y ∷ filter p ys) (filter p ys)) x → (Contains (filter p ys) x → Contains ys x × (p x ≡ true)) → Contains (y ∷ ys) x × (p x ≡ true)
    by_test true passes held' rest = elim (cases_in y (filter p ys) x held') [
      | inl is ↦ (first_in y ys x is, ap p (sym is) ∙ passes)
      | inr later ↦ (later_in y ys x (rest later).0, (rest later).1)
    ]
    by_test false fails held' rest = (later_in y ys x (rest held').0, (rest held').1)

-- and what passes stays held
pub held_by_filter : {X : Type 0} (p : X → Bool) (xs : List X) (x : X) → Contains xs x → p x ≡ true → Contains (filter p xs) x
held_by_filter p [] x held passes = absurd (none_in_nil x held)
held_by_filter p (y ∷ ys) x held passes = by_test (p y) refl (λ later. held_by_filter p ys x later passes)
  where
    clash : true ≡ false → ⊥
    clash e = cc

    by_test : (b : Bool) → p y ≡ b → (Contains ys x → Contains (filter p ys) x) → Contains (cond b (y ∷ filter p ys) (filter p ys)) x
    by_test true is rest = elim (cases_in y ys x held) [
      | inl same ↦ first_in y (filter p ys) x same
      | inr later ↦ later_in y (filter p ys) x (rest later)
    ]
    by_test false is rest = elim (cases_in y ys x held) [
      | inl same ↦ absurd (clash (sym passes ∙ ap p (sym same) ∙ is))
      | inr later ↦ rest later
    ]

-- what a search finds is of the list and passes
pub found_in : {X : Type 0} (p : X → Bool) (xs : List X) (x : X) → find p xs ≡ Some x → Contains xs x × (p x ≡ true)
found_in p [] x is = absurd (cc)
found_in p (y ∷ ys) x is = by_test (p y) refl is (found_in p ys x)
  where
    by_test : (b : Bool) → p y ≡ b → cond b (Some y) (find p ys) ≡ Some x → (find p ys ≡ Some x → Contains ys x × (p x ≡ true)) → Contains (y ∷ ys) x × (p x ≡ true)
    by_test true passes is' rest = let same : y ≡ x = cc in (first_in y ys x same, ap p (sym same) ∙ passes)
    by_test false fails is' rest = (later_in y ys x (rest is').0, (rest is').1)

-- where a search finds nothing, nothing passes
pub none_passes : {X : Type 0} (p : X → Bool) (xs : List X) (x : X) → find p xs ≡ None → Contains xs x → p x ≡ false
none_passes p [] x is held = absurd (none_in_nil x held)
none_passes p (y ∷ ys) x is held = by_test (p y) refl is (none_passes p ys x)
  where
    by_test : (b : Bool) → p y ≡ b → cond b (Some y) (find p ys) ≡ None → (find p ys ≡ None → Contains ys x → p x ≡ false) → p x ≡ false
    by_test true passes is' rest = absurd (cc)
    by_test false fails is' rest = elim (cases_in y ys x held) [ inl same ↦ ap p (sym same) ∙ fails | inr later ↦ rest is' later ]

-- in two lists, one after the other, what is found in the first is found, and else what is found in the second
pub find-append_some : {X : Type 0} (p : X → Bool) (xs ys : List X) (x : X) → find p xs ≡ Some x → find p (xs ++ ys) ≡ Some x
find-append_some p [] ys x found = absurd (none-some x found)
find-append_some {X} p (z ∷ zs) ys x found = by_test (p z) found (λ rest. find-append_some p zs ys x rest)
  where
    by_test : (b : Bool) → cond b (Some z) (find p zs) ≡ Some x → (find p zs ≡ Some x → find p (zs ++ ys) ≡ Some x) → cond b (Some z) (find p (zs ++ ys)) ≡ Some x
    by_test true found' rest = found'
    by_test false found' rest = rest found'

pub find-append_none : {X : Type 0} (p : X → Bool) (xs ys : List X) → find p xs ≡ None → find p (xs ++ ys) ≡ find p ys
find-append_none p [] ys none = refl
find-append_none {X} p (z ∷ zs) ys none = by_test (p z) none (λ rest. find-append_none p zs ys rest)
  where
    by_test : (b : Bool) → cond b (Some z) (find p zs) ≡ None → (find p zs ≡ None → find p (zs ++ ys) ≡ find p ys) → cond b (Some z) (find p (zs ++ ys)) ≡ find p ys
    by_test true none' rest = absurd (cc)
    by_test false none' rest = rest none'

-- two filters one after the other are one
pub filter-filter : {X : Type 0} (p q r : X → Bool) (xs : List X) → ((x : X) → (q x && p x) ≡ r x) → filter p (filter q xs) ≡ filter r xs
filter-filter p q r [] same = refl
filter-filter p q r (x ∷ xs) same = by_tests (p x) (q x) (r x) refl refl refl (same x) (filter-filter p q r xs same)
  where
    by_tests : (a b c : Bool) → p x ≡ a → q x ≡ b → r x ≡ c → (q x && p x) ≡ r x → filter p (filter q xs) ≡ filter r xs → filter p (filter q (x ∷ xs)) ≡ filter r (x ∷ xs)
    by_tests true true true ea eb ec s rest = rw (eb, ec, ea) (ap (λ ys. x ∷ ys) rest)
    by_tests true true false ea eb ec s rest = absurd (cc)
    by_tests false true true ea eb ec s rest = absurd (cc)
    by_tests false true false ea eb ec s rest = rw (eb, ec, ea) rest
    by_tests a false true ea eb ec s rest = absurd (cc)
    by_tests a false false ea eb ec s rest = rw (eb, ec) rest
