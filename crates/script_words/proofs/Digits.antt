-- The number that digits write, one digit at a time.
use Rattle.std.proofs.Common.{◌≡◌, ◌<◌, ◌≤◌, ◌+◌, ◌-◌, ◌*◌, ◌/◌, ℕ, true, List, [], ◌∷◌, length, drop, get_or, refl, sym, ◌∙◌, arith}
use Rattle.std.specs.List.{list_all}
use Rattle.std.specs.Char.{digit_value, is_ascii_digit}
use Rattle.std.specs.Str.Parse.{digits_value_after}
use Rattle.std.proofs.lemmas.List.{at_drop_more}
use Rattle.std.proofs.lemmas.List.Recursion.{and_at}
use Rattle.std.proofs.lemmas.Bool.Decides.{nat_tests}

-- more digits make no smaller number
pub after_ge : (n : ℕ) (ds : List ℕ) → n ≤ digits_value_after 10 n ds
after_ge n [] = omega arith
after_ge n (d ∷ ds) = omega (arith, after_ge (n * 10 + digit_value d) ds)

digit_range : (d : ℕ) → is_ascii_digit d ≡ true → (48 ≤ d) × (d ≤ 57)
digit_range d h = (grind (arith, nat_tests), grind (arith, nat_tests))

digit_is : (d : ℕ) → is_ascii_digit d ≡ true → digit_value d ≡ d - 48
digit_is d h =
    let low = (digit_range d h).0 in
    let high = (digit_range d h).1 in
    grind (arith, nat_tests)

-- a byte of digits is one
pub digit_there : (xs : List ℕ) (i : ℕ) → i < length xs → list_all is_ascii_digit xs ≡ true → (48 ≤ get_or xs i 0) × (get_or xs i 0 ≤ 57)
digit_there xs i h all = digit_range (get_or xs i 0) (and_at (list_all is_ascii_digit) is_ascii_digit refl (λ _ _. refl) xs i 0 h all)

-- one digit more
pub digit_more : (xs : List ℕ) (i n v : ℕ) → i < length xs → list_all is_ascii_digit xs ≡ true → digits_value_after 10 n (drop i xs) ≡ v → digits_value_after 10 (n * 10 + (get_or xs i 0 - 48)) (drop (i + 1) xs) ≡ v
digit_more xs i n v h all e =
    let is = digit_is (get_or xs i 0) (and_at (list_all is_ascii_digit) is_ascii_digit refl (λ _ _. refl) xs i 0 h all) in
    rw (← is) (sym (at_drop_more (digits_value_after 10 n) xs i 0 h) ∙ e)

-- digits that write too much already write too much with more
pub too_much : (xs : List ℕ) (i n v high : ℕ) → i < length xs → digits_value_after 10 n (drop i xs) ≡ v → high / 10 < n → high < v
too_much xs i n v high h e more =
    let step : digits_value_after 10 (n * 10 + digit_value (get_or xs i 0)) (drop (i + 1) xs) ≡ v = sym (at_drop_more (digits_value_after 10 n) xs i 0 h) ∙ e in
    omega (arith, after_ge (n * 10 + digit_value (get_or xs i 0)) (drop (i + 1) xs))
