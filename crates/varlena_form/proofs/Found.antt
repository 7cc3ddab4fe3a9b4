-- What the reader finds stands at the front of the bytes.
use Rattle.std.proofs.Common.{◌≡◌, ℕ, ◌+◌, ◌*◌, ◌^◌, ◌<◌, ◌≤◌, ◌-◌, List, [], ◌∷◌, ◌++◌, length, get_or, take, drop, sym, ap, ◌∙◌, arith}
use Rattle.std.specs.Int.{w32, from_le_bytes, to_le_bytes}
use Rattle.std.proofs.lemmas.List.{length-take-le, length-take, length-drop}
use Rattle.varlena_form.specs.Spelling.{short, plain, compressed, short_form, plain_form, compressed_form, BeginsWith}
use Rattle.varlena_form.proofs.Bytes.{IsBytes, take-after_one, take-after_four, to_le_bytes-from}

pub short_found : (bytes : List ℕ) (n : ℕ) → IsBytes bytes → 1 ≤ length bytes → get_or bytes 0 0 ≡ 2 * n + 1 → 1 ≤ n → n ≤ length bytes → BeginsWith bytes (short (take (n - 1) (drop 1 bytes))) n
unfolding short_form
short_found [] n fits some is low high = absurd (omega arith)
short_found (b ∷ rest) n fits some is low high =
    let len : length (take (n - 1) rest) ≡ n - 1 = length-take-le (n - 1) rest (omega arith) in
    record {
      fits = omega (arith, fits 0);
      front = take-after_one n b rest low ∙ ap (λ (x : ℕ). x ∷ take (n - 1) rest) (omega arith);
      len = omega arith;
    }

-- the header of four bytes spells the length, with the mark in its two low bits
long_front : (bytes : List ℕ) (n mark : ℕ) → IsBytes bytes → 4 ≤ n → n ≤ length bytes → from_le_bytes w32 bytes ≡ 4 * n + mark
    → take n bytes ≡ to_le_bytes w32 (4 * n + mark) ++ take (n - 4) (drop 4 bytes)
long_front (a ∷ b ∷ c ∷ d ∷ rest) n mark fits low high is =
    take-after_four n a b c d rest low ∙ ap (λ (front : List ℕ). front ++ take (n - 4) rest) (sym (to_le_bytes-from a b c d rest fits) ∙ ap (to_le_bytes w32) is)
long_front _ n mark fits low high is = absurd (omega arith)

long_length : (bytes : List ℕ) (n : ℕ) → 4 ≤ n → n ≤ length bytes → length (take (n - 4) (drop 4 bytes)) + 4 ≡ n
long_length bytes n low high = omega (arith, length-take (n - 4) (drop 4 bytes), length-drop 4 bytes)

header_fits : (bytes : List ℕ) → IsBytes bytes → from_le_bytes w32 bytes < 2 ^ 32
header_fits bytes fits = omega (arith, fits 0, fits 1, fits 2, fits 3)

pub plain_found : (bytes : List ℕ) (n : ℕ) → IsBytes bytes → 4 ≤ n → n ≤ length bytes → from_le_bytes w32 bytes ≡ 4 * n → BeginsWith bytes (plain (take (n - 4) (drop 4 bytes))) n
unfolding plain_form
plain_found bytes n fits low high is =
    let len = long_length bytes n low high in
    record {
      fits = omega (arith, header_fits bytes fits);
      front = long_front bytes n 0 fits low high (omega arith) ∙ ap (λ (h : ℕ). to_le_bytes w32 h ++ take (n - 4) (drop 4 bytes)) (omega arith);
      len = omega arith;
    }

pub compressed_found : (bytes : List ℕ) (n : ℕ) → IsBytes bytes → 4 ≤ n → n ≤ length bytes → from_le_bytes w32 bytes ≡ 4 * n + 2 → BeginsWith bytes (compressed (take (n - 4) (drop 4 bytes))) n
unfolding compressed_form
compressed_found bytes n fits low high is =
    let len = long_length bytes n low high in
    record {
      fits = omega (arith, header_fits bytes fits);
      front = long_front bytes n 2 fits low high is ∙ ap (λ (h : ℕ). to_le_bytes w32 h ++ take (n - 4) (drop 4 bytes)) (omega arith);
      len = omega arith;
    }
