-- How values are spelled.
use Rattle.std.specs.Prelude.{ℕ, ◌≤◌, ◌+◌, ◌%◌, nat_le, Bool, List, ◌==◌, length, take, drop, map, codes, Option, Some, None, Result, Ok, Err, if◌then◌else◌}
use Rattle.std.specs.List.{before_first, after_first, range_with_len}
use Rattle.std.specs.Option.{ForSome, ok_or}
use Rattle.std.specs.Str.{bytes_eq}
use Rattle.hex.specs.Hex.{decode_of}
use Rattle.hex.specs.declared.error.FromHexError.{FromHexError}
use Rattle.script_words.specs.Numbers.{number_in}
use Rattle.script_words.specs.Reading.{◌>>=◌, each_of}
use Rattle.script_words.specs.declared.fault.LineFault.{LineFault}
use Rattle.script_words.specs.declared.fault.LineFault.TheVariants.{BadValue}

-- a value, if it is not null, has at most 65,536 bytes
abbrev pub IsShort : Option (List ℕ) → Type 0
IsShort value = ForSome value (λ bytes. length bytes ≤ 65536)

-- the bytes that were decoded, or a bad value
abbrev pub decoded : Result (List ℕ) FromHexError → Result (List ℕ) LineFault
decoded (Ok bytes) = Ok bytes
decoded (Err fault) = Err BadValue

-- the bytes that hexadecimal digits spell, at most 65,536
unfoldable pub hex_in : List ℕ → Result (List ℕ) LineFault
hex_in digits = if nat_le (length digits) 131072 then decoded (decode_of digits) else Err BadValue

-- so many bytes that count up from a start and begin again with 0 after 250
abbrev pub cycle : ℕ → ℕ → List ℕ
cycle len start = map (λ i. (start + i) % 251) (range_with_len 0 len)

-- a dot
abbrev pub is_dot : ℕ → Bool
is_dot b = b == 46

-- the bytes that a length of at most 65,536, a dot and a start of at most 250 spell
unfoldable pub cycle_in : List ℕ → Result (List ℕ) LineFault
cycle_in word = do
  len ← ok_or (number_in 0 65536 (before_first is_dot word)) BadValue
  start ← ok_or (number_in 0 250 (after_first is_dot word)) BadValue
  Ok (cycle len start)

-- `null`, `x` and hexadecimal digits, or `c` and a length, a dot and a start
unfoldable pub value_in : List ℕ → Result (Option (List ℕ)) LineFault
value_in word =
    if bytes_eq word (codes "null") then Ok None
    else if bytes_eq (take 1 word) (codes "x") then (hex_in (drop 1 word) >>= λ bytes. Ok (Some bytes))
    else if bytes_eq (take 1 word) (codes "c") then (cycle_in (drop 1 word) >>= λ bytes. Ok (Some bytes))
    else Err BadValue

-- the values that words spell
abbrev pub values_in : List (List ℕ) → Result (List (Option (List ℕ))) LineFault
values_in words = each_of value_in words
