-- A list in strict order with one element more.
use Rattle.std.proofs.Common.{◌≡◌, ◌≢◌, ◌⊎◌, inl, inr, Bool, true, false, not, List, [], ◌∷◌, ◌++◌, filter, Contains, refl, ap, ◌∙◌}
use Rattle.std.specs.List.{AllByRecursion}
use Rattle.std.specs.List.Sorted.{IsStrictlySortedBy}
use Rattle.std.specs.Cmp.{IsTotalOrder}
use Rattle.std.specs.Ordering.{is_lt, ordering_reverse}
use Rattle.std.specs.declared.cmp.Ordering.{Ordering}
use Rattle.std.specs.declared.cmp.Ordering.TheVariants.{Less, Equal, Greater}
use Rattle.std.proofs.lemmas.List.Elements.{Contains-append_left, Contains-append_right, Contains-append_cases}
use Rattle.std.proofs.lemmas.List.Kept.{IsStrictlySortedBy-filter}
use Rattle.std.proofs.lemmas.Map.Keys.{sorted_head, sorted_tail}
use Rattle.list_facts.proofs.Members.{none_in_nil, cases_in, first_in, later_in, filter_holds, held_by_filter}

-- what holds of all holds of each
pub each_of : {X : Type 0} (P : X → Type 0) (xs : List X) (x : X) → AllByRecursion P xs → Contains xs x → P x
each_of P [] x all held = absurd (none_in_nil x held)
each_of P (y ∷ ys) x all held = elim (cases_in y ys x held) [
  | inl is ↦ rw (← is) all.0
  | inr later ↦ each_of P ys x all.1 later
]

all_from : {X : Type 0} (P : X → Type 0) (xs : List X) → ((x : X) → Contains xs x → P x) → AllByRecursion P xs
all_from P [] each = tt
all_from P (y ∷ ys) each = (each y (first_in y ys y refl), all_from P ys (λ x held. each x (later_in y ys x held)))

-- no element is in order
pub sorted_nil : {K : Type 0} (c : K → K → Ordering) → IsStrictlySortedBy c []
unfolding IsStrictlySortedBy
sorted_nil c = tt

-- an element below all of a list in order may be put before it
pub sorted_cons : {K : Type 0} (c : K → K → Ordering) (k : K) (ks : List K) → ((x : K) → Contains ks x → c k x ≡ Less) → IsStrictlySortedBy c ks → IsStrictlySortedBy c (k ∷ ks)
unfolding IsStrictlySortedBy
sorted_cons c k ks first sorted = (all_from (λ x. c k x ≡ Less) ks first, sorted)

-- two lists in order, and an element between them
sorted_join : {K : Type 0} {c : K → K → Ordering} (o : IsTotalOrder c) (front behind : List K) (e : K) → IsStrictlySortedBy c front → IsStrictlySortedBy c behind → ((x : K) → Contains front x → c x e ≡ Less) → ((y : K) → Contains behind y → c e y ≡ Less) → IsStrictlySortedBy c (front ++ e ∷ behind)
sorted_join {c = c} o [] behind e sorted after below above = sorted_cons c e behind above after
sorted_join {c = c} o (x ∷ xs) behind e sorted after below above =
    let first : c x e ≡ Less = below x (first_in x xs x refl) in
    sorted_cons c x (xs ++ e ∷ behind) (λ y held. elim (Contains-append_cases xs (e ∷ behind) y held) [
      | inl within ↦ each_of (λ z. c x z ≡ Less) xs y (sorted_head c x xs sorted) within
      | inr past ↦ elim (cases_in e behind y past) [
        | inl is ↦ rw (← is) first
        | inr later ↦ o.trans x e y first (above y later)
      ]
    ]) (sorted_join o xs behind e (sorted_tail c x xs sorted) after (λ y held. below y (later_in x xs y held)) above)

less_is : (r : Ordering) → is_lt r ≡ true → r ≡ Less
less_is Less e = refl
less_is Equal e = absurd (cc)
less_is Greater e = absurd (cc)

greater_is : (r : Ordering) → is_lt r ≡ false → r ≢ Equal → ordering_reverse r ≡ Less
greater_is Less e other = absurd (cc)
greater_is Equal e other = absurd (other refl)
greater_is Greater e other = refl

fails : (b : Bool) → not b ≡ true → b ≡ false
fails true e = absurd (cc)
fails false e = refl

-- a list in order stays so with an element put between what is below it and the rest, where it was not there
pub sorted_with : {K : Type 0} {c : K → K → Ordering} (o : IsTotalOrder c) → ((x y : K) → c x y ≡ Equal → x ≡ y) → (ks : List K) (e : K) → IsStrictlySortedBy c ks → (Contains ks e → ⊥) → IsStrictlySortedBy c (filter (λ k. is_lt (c k e)) ks ++ e ∷ filter (λ k. not (is_lt (c k e))) ks)
sorted_with {c = c} o exact ks e sorted new =
    sorted_join o (filter (λ k. is_lt (c k e)) ks) (filter (λ k. not (is_lt (c k e))) ks) e (IsStrictlySortedBy-filter c (λ k. is_lt (c k e)) ks sorted) (IsStrictlySortedBy-filter c (λ k. not (is_lt (c k e))) ks sorted)
    (λ x held. less_is (c x e) (filter_holds (λ k. is_lt (c k e)) ks x held).1)
    (λ y held.
    let kept = filter_holds (λ k. not (is_lt (c k e))) ks y held in
    o.antisymm e y ∙ greater_is (c y e) (fails (is_lt (c y e)) kept.1) (λ tie. new (rw (← exact y e tie) kept.0)))

-- what a list with an element more holds
pub held_with : {X : Type 0} (p : X → Bool) (xs : List X) (e x : X) → Contains (filter p xs ++ e ∷ filter (λ k. not (p k)) xs) x → Contains xs x ⊎ (e ≡ x)
held_with p xs e x held = elim (Contains-append_cases (filter p xs) (e ∷ filter (λ k. not (p k)) xs) x held) [
  | inl front ↦ inl (filter_holds p xs x front).0
  | inr rest ↦ elim (cases_in e (filter (λ k. not (p k)) xs) x rest) [
    | inl is ↦ inr is
    | inr behind ↦ inl (filter_holds (λ k. not (p k)) xs x behind).0
  ]
]

pub new_held : {X : Type 0} (p : X → Bool) (xs : List X) (e : X) → Contains (filter p xs ++ e ∷ filter (λ k. not (p k)) xs) e
new_held p xs e = Contains-append_right (filter p xs) (e ∷ filter (λ k. not (p k)) xs) e (first_in e (filter (λ k. not (p k)) xs) e refl)

pub still_held : {X : Type 0} (p : X → Bool) (xs : List X) (e x : X) → Contains xs x → Contains (filter p xs ++ e ∷ filter (λ k. not (p k)) xs) x
still_held p xs e x held = by_test (p x) refl
  where
    by_test : (b : Bool) → p x ≡ b → Contains (filter p xs ++ e ∷ filter (λ k. not (p k)) xs) x
    by_test true passes = Contains-append_left (filter p xs) (e ∷ filter (λ k. not (p k)) xs) x (held_by_filter p xs x held passes)
    by_test false fails' = Contains-append_right (filter p xs) (e ∷ filter (λ k. not (p k)) xs) x (later_in e (filter (λ k. not (p k)) xs) x (held_by_filter (λ k. not (p k)) xs x held (ap not fails')))
