-- The first place of a byte that passes a test, as a search tells it.
use Rattle.std.proofs.Common.{◌≡◌, ◌<◌, ◌+◌, ℕ, Bool, true, false, cond, List, [], ◌∷◌, Option, Some, None, length, refl, sym, ap, ◌∙◌, arith, zero, suc}
use Rattle.std.specs.Prelude.{slice_index}
use Rattle.std.specs.List.{position_from}
use Rattle.memchr.specs.Find.{IsFirstByte}

module _ (test : ℕ → Bool) where
  nowhere : (xs : List ℕ) (i : ℕ) → ((k : ℕ) → k < length xs → test (slice_index xs k) ≡ true → ⊥) → position_from test i xs ≡ None
  nowhere [] i none = refl
  nowhere (x ∷ xs) i none = by (test x) refl (nowhere xs (i + 1) (λ k low passes. none (suc k) (omega (arith, low)) passes))
    where
      by : (b : Bool) → test x ≡ b → position_from test (i + 1) xs ≡ None → cond b (Some i) (position_from test (i + 1) xs) ≡ None
      by true e rest = absurd (none 0 (omega arith) e)
      by false e rest = rest

  first_there : (xs : List ℕ) (i k : ℕ) → k < length xs → ((m : ℕ) → m < k → test (slice_index xs m) ≡ true → ⊥) → test (slice_index xs k) ≡ true → position_from test i xs ≡ Some (i + k)
  first_there [] i k low before here = absurd (omega (arith, low))
  first_there (x ∷ xs) i zero low before here =
      let same : i ≡ i + 0 = omega arith in
      ap (λ (b : Bool). cond b (Some i) (position_from test (i + 1) xs)) here ∙ ap Some same
  first_there (x ∷ xs) i (suc k) low before here = by (test x) refl (first_there xs (i + 1) k (omega (arith, low)) (λ m below passes. before (suc m) (omega (arith, below)) passes) here)
    where
      later : i + 1 + k ≡ i + suc k
      later = omega arith

      by : (b : Bool) → test x ≡ b → position_from test (i + 1) xs ≡ Some (i + 1 + k) → cond b (Some i) (position_from test (i + 1) xs) ≡ Some (i + suc k)
      by true e rest = absurd (before 0 (omega arith) e)
      by false e rest = rest ∙ ap Some later

  pub first_place : (xs : List ℕ) (r : Option ℕ) → IsFirstByte test xs r → r ≡ position_from test 0 xs
  first_place xs None h = sym (nowhere xs 0 (λ k low passes. h k (omega arith) low passes))
  first_place xs (Some k) h =
      let here : k ≡ 0 + k = omega arith in
      ap Some here ∙ sym (first_there xs 0 k h.0.high (λ m below passes. h.0.before m (omega arith) below passes) h.1)
