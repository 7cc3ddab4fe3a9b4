-- Numbers and words that are read, and those that are spelled.
use Rattle.std.proofs.Common.{◌≡◌, ◌≤◌, ◌<◌, ◌^◌, ℕ, zero, suc, Bool, true, false, List, [], ◌∷◌, length, get_or, Option, Some, None, refl, sym, ap, ◌∙◌, arith, subst}
use Rattle.std.specs.Prelude.{◌-◌, ◌==◌, ◌&&◌, ◌||◌, ◌↔◌, not, nat_lt, nat_le, slice_index, codes, if◌then◌else◌}
use Rattle.std.specs.List.{list_all}
use Rattle.std.specs.Option.{option_map}
use Rattle.std.specs.Char.{is_ascii_digit}
use Rattle.std.specs.Int.{IsInRange}
use Rattle.std.specs.Str.{bytes_eq}
use Rattle.std.specs.Str.Parse.{digits_value}
use Rattle.std.specs.Fmt.{decimal}
use Rattle.std.proofs.lemmas.Bool.Decides.{nat_tests}
use Rattle.std.proofs.lemmas.Fmt.{decimal-digits_value, decimal_is_IsNumeral, digits_decimal, digits_value-decimal, first_decimal}
use Rattle.std.proofs.lemmas.Option.{same_Some}
use Rattle.std.proofs.lemmas.Slice.Eq.{bytes_eq-Decides}
use Rattle.std.proofs.lemmas.Str.Parse.{IsDigitsTest, IsNumeralModel, numerals_by_value}
use Rattle.script_words.specs.Numbers.{is_canonical, is_led, number_in}
use Rattle.script_words.proofs.Spelled.{number_is}
use Rattle.command_words.specs.Commands.{CommandsAreSpelled, IsCommand, alone_in, command_in, numbered_in, spelled}
use Rattle.command_words.specs.declared.CommandWords.{CommandWords}
use Rattle.command_words.specs.declared.CommandWords.TheVariants.{Replay, Run, Make}

-- decimal digits alone
abbrev Digits : List ℕ → Type 0
Digits ds = list_all is_ascii_digit ds ≡ true

both_true : (b c : Bool) → (b && c) ≡ true → (b ≡ true) × (c ≡ true)
both_true true c e = (refl, e)
both_true false c e = absurd (cc)

digit_range : (c : ℕ) → is_ascii_digit c ≡ true → IsInRange 48 57 c
digit_range c h = (grind (arith, nat_tests), grind (arith, nat_tests))

range_digit : (c : ℕ) → IsInRange 48 57 c → is_ascii_digit c ≡ true
range_digit c k = let low = k.0 in let high = k.1 in grind (arith, nat_tests)

tells : IsDigitsTest Digits
tells = record {
  empty = refl;
  parts = λ c cs h. let both = both_true (is_ascii_digit c) (list_all is_ascii_digit cs) h in (digit_range c both.0, both.1);
  more = λ c cs k h. rw (range_digit c k) h;
}

own : IsNumeralModel Digits (digits_value 10)
own = numerals_by_value Digits tells

-- no leading zero
led : (word : List ℕ) → is_led word ≡ true → (0 < length word) × (get_or word 0 0 ≡ 48 → length word ≡ 1)
led [] h = absurd (cc)
led (c ∷ []) h = (omega arith, λ z. refl)
led (c ∷ d ∷ ds) h = (omega arith, λ z. grind (arith, nat_tests))

led_back : (word : List ℕ) → 0 < length word → 48 < get_or word 0 0 → is_led word ≡ true
led_back [] some first = absurd (omega (arith, some))
led_back (c ∷ []) some first = refl
led_back (c ∷ d ∷ ds) some first = grind (arith, nat_tests)

-- a word that is canonical spells the number of its digits
canonical_spells : (word : List ℕ) → is_canonical word ≡ true → digits_value 10 word < 2 ^ 64 → decimal (digits_value 10 word) ≡ word
canonical_spells word h small =
    let both = both_true (is_led word) (list_all is_ascii_digit word) h in
    let first = led word both.0 in
    decimal-digits_value own word both.1 first.0 first.1 small

canonical_decimal : (n : ℕ) → 1 ≤ n → n < 2 ^ 64 → is_canonical (decimal n) ≡ true
canonical_decimal n some small =
    rw (led_back (decimal n) (decimal_is_IsNumeral n small).0.0 (first_decimal n some small)) (digits_decimal own n small)

spelled_by : (b c d : Bool) (v n : ℕ) → (if b && c && d then Some v else None) ≡ Some n → (b ≡ true) × (v ≡ n)
spelled_by true true true v n e = (refl, same_Some v n e)
spelled_by true true false v n e = absurd (cc)
spelled_by true false d v n e = absurd (cc)
spelled_by false c d v n e = absurd (cc)

-- the number that a word spells, and the word that spells a number
number_spelled : (word : List ℕ) (n : ℕ) → number_in 1 1000 word ≡ Some n → word ≡ decimal n
unfolding number_in
number_spelled word n e =
    let range = number_is 1 1000 word n e in
    let by = spelled_by (is_canonical word) _ _ (digits_value 10 word) n e in
    let within = range.within in
    let value = by.1 in
    let small : digits_value 10 word < 2 ^ 64 = omega (arith, within, value) in
    sym (canonical_spells word by.0 small) ∙ ap decimal by.1

spelled_number : (n : ℕ) → 1 ≤ n → n ≤ 1000 → number_in 1 1000 (decimal n) ≡ Some n
unfolding number_in
spelled_number n some most =
    let small : n < 2 ^ 64 = omega (arith, most) in
    let low : nat_le 1 n ≡ true = grind (arith, nat_tests) in
    let high : nat_le n 1000 ≡ true = grind (arith, nat_tests) in
    rw (canonical_decimal n some small, digits_value-decimal own n small, low, high) refl

-- a command that was read is spelled so
abbrev IsSpelled : List (List ℕ) → CommandWords → Type 0
IsSpelled words command = IsCommand command × (words ≡ spelled command)

alone_by : (b c : Bool) (word : List ℕ) (command : CommandWords) → bytes_eq word (codes "replay") ≡ b → bytes_eq word (codes "run") ≡ c → (if b then Some Replay else if c then Some Run else None) ≡ Some command → IsSpelled (word ∷ []) command
alone_by true c word command p q e = subst (IsSpelled (word ∷ [])) (same_Some Replay command e) (tt, ap (λ (w : List ℕ). w ∷ []) ((bytes_eq-Decides word (codes "replay")).0 p))
alone_by false true word command p q e = subst (IsSpelled (word ∷ [])) (same_Some Run command e) (tt, ap (λ (w : List ℕ). w ∷ []) ((bytes_eq-Decides word (codes "run")).0 q))
alone_by false false word command p q e = absurd (cc)

numbered_by : (b : Bool) (o : Option ℕ) (word count : List ℕ) (command : CommandWords) → bytes_eq word (codes "make") ≡ b → number_in 1 1000 count ≡ o → (if b then option_map Make o else None) ≡ Some command → IsSpelled (word ∷ count ∷ []) command
numbered_by true (Some n) word count command p q e =
    let range = number_is 1 1000 count n q in
    let head = (bytes_eq-Decides word (codes "make")).0 p in
    subst (IsSpelled (word ∷ count ∷ [])) (same_Some (Make n) command e) ((range.from, range.within), rw (head, number_spelled count n q) refl)
numbered_by true None word count command p q e = absurd (cc)
numbered_by false o word count command p q e = absurd (cc)

read_spells : (words : List (List ℕ)) (command : CommandWords) → command_in words ≡ Some command → IsSpelled words command
read_spells [] command e = absurd (cc)
read_spells (word ∷ []) command e = alone_by _ _ word command refl refl e
read_spells (word ∷ count ∷ []) command e = numbered_by _ _ word count command refl refl e
read_spells (a ∷ b ∷ c ∷ rest) command e = absurd (cc)

-- a spelled command is read
spelled_reads : (command : CommandWords) → IsCommand command → command_in (spelled command) ≡ Some command
spelled_reads Replay h = refl
spelled_reads Run h = refl
spelled_reads (Make n) h = ap (option_map Make) (spelled_number n h.0 h.1)

pub commands_spelled : CommandsAreSpelled
commands_spelled words command = (read_spells words command, λ h. ap command_in h.1 ∙ spelled_reads command h.0)
