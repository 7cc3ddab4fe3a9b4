-- What a partial function gives of the elements of a list.
use Rattle.std.proofs.Common.{◌≡◌, inl, inr, Bool, true, false, cond, Option, Some, None, List, [], ◌∷◌, filter, map, Contains, refl, sym, ap, ◌∙◌}
use Rattle.std.specs.Option.{option_map}
use Rattle.std.specs.List.{filter_map, cons_option}
use Rattle.std.proofs.lemmas.Option.{same_Some, none-some}
use Rattle.list_facts.proofs.Members.{none_in_nil, cases_in, first_in, later_in}

-- two functions that agree on the elements give the same
pub chosen_agree : {X Y : Type 0} (f g : X → Option Y) (xs : List X) → ((x : X) → Contains xs x → f x ≡ g x) → filter_map f xs ≡ filter_map g xs
chosen_agree f g [] same = refl
chosen_agree f g (x ∷ xs) same = ap (λ o. cons_option o (filter_map f xs)) (same x (first_in x xs x refl)) ∙ ap (λ ys. cons_option (g x) ys) (chosen_agree f g xs (λ y held. same y (later_in x xs y held)))

-- what is made of what they give
pub chosen_map : {X Y Z : Type 0} (h : Y → Z) (f : X → Option Y) (xs : List X) → map h (filter_map f xs) ≡ filter_map (λ x. option_map h (f x)) xs
chosen_map h f [] = refl
chosen_map {X} {Y} {Z} h f (x ∷ xs) = by_value (f x) (chosen_map h f xs)
  where
    by_value : (o : Option Y) → map h (filter_map f xs) ≡ filter_map (λ y. option_map h (f y)) xs → map h (cons_option o (filter_map f xs)) ≡ cons_option (option_map h o) (filter_map (λ y. option_map h (f y)) xs)
    by_value None rest = rest
    by_value (Some y) rest = ap (λ ys. h y ∷ ys) rest

-- a filter takes nothing from that where what it takes away gives nothing
pub chosen_filter : {X Y : Type 0} (f : X → Option Y) (q : X → Bool) (xs : List X) → ((x : X) → Contains xs x → q x ≡ false → f x ≡ None) → filter_map f (filter q xs) ≡ filter_map f xs
chosen_filter f q [] gone = refl
chosen_filter {X} {Y} f q (x ∷ xs) gone = by_test (q x) refl (chosen_filter f q xs (λ y held. gone y (later_in x xs y held)))
  where
    by_test : (b : Bool) → q x ≡ b → filter_map f (filter q xs) ≡ filter_map f xs → filter_map f (cond b (x ∷ filter q xs) (filter q xs)) ≡ cons_option (f x) (filter_map f xs)
    by_test true passes rest = ap (λ ys. cons_option (f x) ys) rest
    by_test false fails rest = rest ∙ ap (λ o. cons_option o (filter_map f xs)) (sym (gone x (first_in x xs x refl) fails))

-- the same of what another filter leaves
pub chosen_filters : {X Y : Type 0} (f : X → Option Y) (p q : X → Bool) (xs : List X) → ((x : X) → Contains xs x → q x ≡ false → f x ≡ None) → filter_map f (filter p (filter q xs)) ≡ filter_map f (filter p xs)
chosen_filters f p q [] gone = refl
chosen_filters {X} {Y} f p q (x ∷ xs) gone = by_tests (p x) (q x) refl refl (chosen_filters f p q xs (λ y held. gone y (later_in x xs y held)))
  where
    by_tests : (b d : Bool) → p x ≡ b → q x ≡ d → filter_map f (filter p (filter q xs)) ≡ filter_map f (filter p xs) → filter_map f (filter p (cond d (x ∷ filter q xs) (filter q xs))) ≡ filter_map f (cond b (x ∷ filter p xs) (filter p xs))
    by_tests true true is keeps rest = ap (λ c. filter_map f (cond c (x ∷ filter p (filter q xs)) (filter p (filter q xs)))) is ∙ ap (λ ys. cons_option (f x) ys) rest
    by_tests false true is keeps rest = ap (λ c. filter_map f (cond c (x ∷ filter p (filter q xs)) (filter p (filter q xs)))) is ∙ rest
    by_tests true false is takes rest = rest ∙ ap (λ o. cons_option o (filter_map f (filter p xs))) (sym (gone x (first_in x xs x refl) takes))
    by_tests false false is takes rest = rest

-- what an element gives is among what all give
pub chosen_in : {X Y : Type 0} (f : X → Option Y) (xs : List X) (x : X) (y : Y) → Contains xs x → f x ≡ Some y → Contains (filter_map f xs) y
chosen_in f [] x y held gives = absurd (none_in_nil x held)
chosen_in {X} {Y} f (z ∷ zs) x y held gives = by_value (f z) refl (λ later. chosen_in f zs x y later gives)
  where
    by_value : (o : Option Y) → f z ≡ o → (Contains zs x → Contains (filter_map f zs) y) → Contains (cons_option o (filter_map f zs)) y
    by_value None is rest = elim (cases_in z zs x held) [
      | inl same ↦ absurd (none-some y (sym is ∙ ap f same ∙ gives))
      | inr later ↦ rest later
    ]
    by_value (Some w) is rest = elim (cases_in z zs x held) [
      | inl same ↦ first_in w (filter_map f zs) y (same_Some w y (sym is ∙ ap f same ∙ gives))
      | inr later ↦ later_in w (filter_map f zs) y (rest later)
    ]
