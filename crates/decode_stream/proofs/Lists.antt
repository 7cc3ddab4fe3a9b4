-- Lists with one item more, and what stands at a place of a list.
use Rattle.std.proofs.Common.{◌≡◌, ℕ, ◌+◌, ◌<◌, Bool, true, false, cond, not, List, [], ◌∷◌, ◌++◌, Option, Some, None, length, take, drop, slice_get, slice_index_or, slice_set, reverse, filter_map, refl, sym, ap, ◌∙◌, append_assoc, add-one, drop-cons, arith, zero, suc}
use Rattle.std.specs.List.{cons_option, take_while}
use Rattle.std.proofs.Math.Seq.{take-suc}
use Rattle.std.proofs.lemmas.List.{append-nil, reverse-append, take-append-drop}
use Rattle.std.proofs.lemmas.List.Elements.{filter_map-append}
use Rattle.std.proofs.lemmas.List.Sums.{take_while-cons}
use Rattle.decode_stream.specs.Decoding.{fronts_after, with_fronts, behind_last, first}

module _ {X : Type 0} where
  -- an item's front is all that stands before it
  pub fronts-push : (before xs : List X) (y : X) → fronts_after before (xs ++ y ∷ []) ≡ fronts_after before xs ++ (before ++ xs, y) ∷ []
  fronts-push before [] y = ap (λ (b : List X). (b, y) ∷ []) (sym (append-nil before))
  fronts-push before (x ∷ xs) y =
      ap (λ (rest : List (List X × X)). (before, x) ∷ rest)
      (fronts-push (before ++ x ∷ []) xs y ∙ ap (λ (b : List X). fronts_after (before ++ x ∷ []) xs ++ (b, y) ∷ []) (append_assoc before (x ∷ []) xs))

  pub with_fronts-push : (xs : List X) (y : X) → with_fronts (xs ++ y ∷ []) ≡ with_fronts xs ++ (xs, y) ∷ []
  unfolding with_fronts
  with_fronts-push xs y = fronts-push [] xs y

  -- one item more stands behind the last that passes, or is it
  pub behind_last-push : (test : X → Bool) (xs : List X) (y : X) → behind_last test (xs ++ y ∷ []) ≡ cond (test y) [] (behind_last test xs ++ y ∷ [])
  unfolding behind_last
  behind_last-push test xs y =
      ap (λ (l : List X). reverse (take_while fails l)) (reverse-append xs (y ∷ [])) ∙ ap reverse (take_while-cons fails y (reverse xs)) ∙ by (test y)
    where
      fails : X → Bool
      fails x = not (test x)

      kept : List X
      kept = take_while (λ x. not (test x)) (reverse xs)

      by : (b : Bool) → reverse (cond (not b) (y ∷ take_while (λ x. not (test x)) (reverse xs)) []) ≡ cond b [] (reverse (take_while (λ x. not (test x)) (reverse xs)) ++ y ∷ [])
      by true = refl
      by false = reverse-append (y ∷ []) (take_while (λ x. not (test x)) (reverse xs))

  -- the item at a place ends the part up to it, and begins the rest
  pub take_more : (xs : List X) (i : ℕ) (x : X) → i < length xs → x ≡ slice_index_or xs i x → take (i + 1) xs ≡ take i xs ++ x ∷ []
  take_more xs i x low e = rw add-one (take-suc xs i x low ∙ ap (λ (y : X). take i xs ++ y ∷ []) (sym e))

  pub drop_is : (xs : List X) (i : ℕ) (x : X) → i < length xs → x ≡ slice_index_or xs i x → drop i xs ≡ x ∷ drop (i + 1) xs
  drop_is xs i x low e = rw add-one (drop-cons xs i x low ∙ ap (λ (y : X). y ∷ drop (suc i) xs) (sym e))

  pub split_at : (xs : List X) (i : ℕ) (x : X) → i < length xs → x ≡ slice_index_or xs i x → xs ≡ take i xs ++ x ∷ drop (i + 1) xs
  split_at xs i x low e = sym (take-append-drop i xs) ∙ ap (λ (rest : List X). take i xs ++ rest) (drop_is xs i x low e)

  -- the same of an item that a look-up finds
  pub found_within : (xs : List X) (i : ℕ) → i < length xs → None ≡ slice_get xs i → ⊥
  found_within [] i low e = omega (arith, low)
  found_within (x ∷ xs) zero low e = cc
  found_within (x ∷ xs) (suc i) low e = found_within xs i (omega (arith, low)) e

  found_after : (xs : List X) (i : ℕ) (x : X) → Some x ≡ slice_get xs i → take (suc i) xs ≡ take i xs ++ x ∷ []
  found_after [] i x e = absurd (cc)
  found_after (y ∷ ys) zero x e = ap (λ (z : X). z ∷ []) (cc)
  found_after (y ∷ ys) (suc i) x e = ap (λ (rest : List X). y ∷ rest) (found_after ys i x e)

  found_before : (xs : List X) (i : ℕ) (x : X) → Some x ≡ slice_get xs i → xs ≡ take i xs ++ x ∷ drop (suc i) xs
  found_before [] i x e = absurd (cc)
  found_before (y ∷ ys) zero x e = ap (λ (z : X). z ∷ ys) (cc)
  found_before (y ∷ ys) (suc i) x e = ap (λ (rest : List X). y ∷ rest) (found_before ys i x e)

  pub take_found : (xs : List X) (i : ℕ) (x : X) → Some x ≡ slice_get xs i → take (i + 1) xs ≡ take i xs ++ x ∷ []
  take_found xs i x e = rw add-one (found_after xs i x e)

  pub split_found : (xs : List X) (i : ℕ) (x : X) → Some x ≡ slice_get xs i → xs ≡ take i xs ++ x ∷ drop (i + 1) xs
  split_found xs i x e = found_before xs i x e ∙ ap (λ (n : ℕ). take i xs ++ x ∷ drop n xs) (sym (add-one i))

  -- a write at the place behind a part
  pub set_behind : (xs : List X) (y z : X) (rest : List X) (i : ℕ) → length xs ≡ i → slice_set (xs ++ y ∷ rest) i z ≡ xs ++ z ∷ rest
  set_behind [] y z rest i e = ap (λ n. slice_set (y ∷ rest) n z) (sym e)
  set_behind (x ∷ xs) y z rest i e = ap (λ n. slice_set (x ∷ xs ++ y ∷ rest) n z) (sym e) ∙ ap (λ (more : List X). x ∷ more) (set_behind xs y z rest (length xs) refl)

module _ {X Y : Type 0} (f : X → Option Y) (xs : List X) (i : ℕ) (x : X) where
  -- the first that something is told of
  pub first_found : (y : Y) → i < length xs → x ≡ slice_index_or xs i x → filter_map f (take i xs) ≡ [] → f x ≡ Some y → first (filter_map f xs) ≡ Some y
  first_found y low e none some =
      ap (λ (l : List X). first (filter_map f l)) (split_at xs i x low e)
      ∙ ap first (filter_map-append f (take i xs) (x ∷ drop (i + 1) xs))
      ∙ (λ j. first (none j ++ cons_option (some j) (filter_map f (drop (i + 1) xs))))

  pub none_more : i < length xs → x ≡ slice_index_or xs i x → filter_map f (take i xs) ≡ [] → f x ≡ None → filter_map f (take (i + 1) xs) ≡ []
  none_more low e none h =
      ap (λ (l : List X). filter_map f l) (take_more xs i x low e)
      ∙ filter_map-append f (take i xs) (x ∷ [])
      ∙ (λ j. none j ++ cons_option (h j) [])
