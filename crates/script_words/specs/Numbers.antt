-- How numbers are spelled.
use Rattle.std.specs.Prelude.{ℕ, ℤ, pos, neg_ℤ, ◌-◌, ◌^◌, ◌==◌, ◌&&◌, ◌||◌, not, nat_lt, nat_le, Bool, List, length, drop, slice_index, Option, Some, None, Result, if◌then◌else◌}
use Rattle.std.specs.List.{list_all}
use Rattle.std.specs.Option.{ok_or, option_map}
use Rattle.std.specs.Char.{is_ascii_digit}
use Rattle.std.specs.Str.Parse.{digits_value, starts_with_minus}
use Rattle.script_words.specs.declared.fault.LineFault.{LineFault}
use Rattle.script_words.specs.declared.fault.LineFault.TheVariants.{BadNumber}

-- at least one byte, of which the first is `0` only where it stands alone
abbrev pub is_led : List ℕ → Bool
is_led word = nat_lt 0 (length word) && (length word == 1 || not (slice_index word 0 == 48))

-- decimal digits, at least one, of which the first is 0 only where it stands alone
abbrev pub is_canonical : List ℕ → Bool
is_canonical word = is_led word && list_all is_ascii_digit word

-- a number, if it is not past a limit
abbrev pub up_to : ℕ → ℕ → Option ℕ
up_to most n = if nat_le n most then Some n else None

-- the number from low to high that a word spells
unfoldable pub number_in : ℕ → ℕ → List ℕ → Option ℕ
number_in low high word =
    if is_canonical word && nat_le low (digits_value 10 word) && nat_le (digits_value 10 word) high
    then Some (digits_value 10 word) else None

-- the number from -half to half - 1 that a word spells: a negative one has a `-` before it, and `-0` is none
unfoldable pub signed_in : ℕ → List ℕ → Option ℤ
signed_in half word =
    if starts_with_minus word then option_map (λ n. neg_ℤ (pos n)) (number_in 1 half (drop 1 word))
    else option_map pos (number_in 0 (half - 1) word)

-- a key: a number of 64 bits
abbrev pub key_in : List ℕ → Result ℤ LineFault
key_in word = ok_or (signed_in (2 ^ 63) word) BadNumber

-- an offset or a length: a number of 32 bits
abbrev pub offset_in : List ℕ → Result ℤ LineFault
offset_in word = ok_or (signed_in (2 ^ 31) word) BadNumber
