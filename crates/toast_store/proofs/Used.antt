-- The search for an entry of an id that names a chunk.
use Rattle.std.proofs.Common.{ℕ, ◌≡◌, ◌+◌, inl, inr, Bool, true, false, ◌||◌, Some, None, List, take, get_or, sym, ap, ◌∙◌}
use Rattle.std.specs.Prelude.{slice_get}
use Rattle.std.specs.List.{list_any}
use Rattle.std.proofs.lemmas.Option.{slice_get_within, slice_get_cases, get_or_from_slice_get, none-some}
use Rattle.std.proofs.lemmas.List.{take_all}
use Rattle.std.proofs.lemmas.List.Folds.{list_any_at, list_any_more}

-- some element passes where the n-th does
pub any_found : {X : Type 0} (p : X → Bool) (xs : List X) (n : ℕ) (x : X) → slice_get xs n ≡ Some x → p x ≡ true → list_any p xs ≡ true
any_found p xs n x is passes = list_any_at p xs n x (slice_get_within xs n x is) (ap p (get_or_from_slice_get xs n x x is) ∙ passes)

-- none of the first passes with one more that does not
pub none_yet : {X : Type 0} (p : X → Bool) (xs : List X) (n : ℕ) (x : X) → slice_get xs n ≡ Some x → p x ≡ false → list_any p (take n xs) ≡ false → list_any p (take (n + 1) xs) ≡ false
none_yet p xs n x is fails before =
    list_any_more p xs n x (slice_get_within xs n x is) ∙ ap (λ b. b || p (get_or xs n x)) before ∙ ap p (get_or_from_slice_get xs n x x is) ∙ fails

-- where there is no n-th element, the first are all
pub none_at_all : {X : Type 0} (p : X → Bool) (xs : List X) (n : ℕ) → slice_get xs n ≡ None → list_any p (take n xs) ≡ false → list_any p xs ≡ false
none_at_all p xs n none before = elim ((slice_get_cases xs n).1) [
  | inl there ↦ absurd (none-some there.0 (sym none ∙ there.2))
  | inr past ↦ ap (list_any p) (sym (take_all n xs past.0)) ∙ before
]
