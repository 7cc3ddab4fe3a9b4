-- Lists of bytes, their fronts, and the four bytes of a header.
use Rattle.std.proofs.Common.{◌≡◌, ℕ, zero, suc, ◌^◌, ◌<◌, ◌≤◌, ◌-◌, List, [], ◌∷◌, ◌++◌, get_or, take, refl, ap, arith}
use Rattle.std.specs.Int.{w32, from_le_bytes, to_le_bytes}
use Rattle.std.proofs.lemmas.Nat.{le_bytes_4, from_le_bytes-to_le_bytes_4}

-- each place holds a byte
abbrev pub IsBytes : List ℕ → Type 0
IsBytes bytes = (i : ℕ) → get_or bytes i 0 < 256

-- a front of at least one byte
pub take-after_one : (n b : ℕ) (rest : List ℕ) → 1 ≤ n → take n (b ∷ rest) ≡ b ∷ take (n - 1) rest
take-after_one zero b rest low = absurd (omega arith)
take-after_one (suc m) b rest low = ap (λ (k : ℕ). b ∷ take k rest) (omega arith)

-- a front of at least four bytes
pub take-after_four : (n a b c d : ℕ) (rest : List ℕ) → 4 ≤ n → take n (a ∷ b ∷ c ∷ d ∷ rest) ≡ a ∷ b ∷ c ∷ d ∷ take (n - 4) rest
take-after_four (suc (suc (suc (suc m)))) a b c d rest low = ap (λ (k : ℕ). a ∷ b ∷ c ∷ d ∷ take k rest) (omega arith)
take-after_four _ a b c d rest low = absurd (omega arith)

first_four : (a b c d : ℕ) (rest : List ℕ) → IsBytes (a ∷ b ∷ c ∷ d ∷ rest) → IsBytes (a ∷ b ∷ c ∷ d ∷ [])
first_four a b c d rest fits zero = fits 0
first_four a b c d rest fits (suc zero) = fits 1
first_four a b c d rest fits (suc (suc zero)) = fits 2
first_four a b c d rest fits (suc (suc (suc zero))) = fits 3
first_four a b c d rest fits (suc (suc (suc (suc i)))) = omega arith

-- the number in the first four bytes is spelled by them
pub to_le_bytes-from : (a b c d : ℕ) (rest : List ℕ) → IsBytes (a ∷ b ∷ c ∷ d ∷ rest) → to_le_bytes w32 (from_le_bytes w32 (a ∷ b ∷ c ∷ d ∷ rest)) ≡ a ∷ b ∷ c ∷ d ∷ []
to_le_bytes-from a b c d rest fits = le_bytes_4 (a ∷ b ∷ c ∷ d ∷ []) _ refl (first_four a b c d rest fits) refl

-- what is spelled in the first four bytes is the number there
pub from_le_bytes-to : (n : ℕ) (rest : List ℕ) → n < 2 ^ 32 → from_le_bytes w32 (to_le_bytes w32 n ++ rest) ≡ n
from_le_bytes-to n rest lt = from_le_bytes-to_le_bytes_4 n lt
