-- Numbers of four bytes within a list of bytes.
use Rattle.std.proofs.Common.{◌≡◌, ℕ, ◌+◌, ◌^◌, ◌<◌, ◌≤◌, List, [], ◌++◌, length, get_or, take, drop, sym, ap, ◌∙◌, arith, inl, inr}
use Rattle.std.specs.Int.{w32, from_le_bytes, to_le_bytes}
use Rattle.std.proofs.lemmas.Bool.{cases_lt}
use Rattle.std.proofs.lemmas.Nat.{le_bytes_4}
use Rattle.std.proofs.lemmas.List.{get_or-drop, get_or-take, get_or_past, length-take, length-take-le, length-drop, take-append-drop, drop-drop, take_all, drop_all}
use Rattle.external_pointer.specs.Fault.{word_at}

-- each place holds a byte
abbrev pub IsBytes : List ℕ → Type 0
IsBytes bytes = (i : ℕ) → get_or bytes i 0 < 256

IsBytes-drop : (n : ℕ) (bytes : List ℕ) → IsBytes bytes → IsBytes (drop n bytes)
IsBytes-drop n bytes fits i = rw get_or-drop (fits (n + i))

IsBytes-take : (n : ℕ) (bytes : List ℕ) → IsBytes bytes → IsBytes (take n bytes)
IsBytes-take n bytes fits i =
    elim (cases_lt i n) [
      | inl lt ↦ rw (get_or-take n bytes i 0 lt) (fits i)
      | inr le ↦ rw (get_or_past (take n bytes) i 0 (omega (arith, length-take n bytes))) (omega arith)
    ]

-- only the first four bytes are read
front_is : (bytes : List ℕ) → from_le_bytes w32 bytes ≡ from_le_bytes w32 (take 4 bytes)
front_is bytes = omega (arith, get_or-take 4 bytes 0 0 (omega arith), get_or-take 4 bytes 1 0 (omega arith), get_or-take 4 bytes 2 0 (omega arith), get_or-take 4 bytes 3 0 (omega arith))

-- the number at a place is spelled by the four bytes there
pub to_le_bytes-word_at : (i : ℕ) (bytes : List ℕ) → IsBytes bytes → i + 4 ≤ length bytes → to_le_bytes w32 (word_at i bytes) ≡ take 4 (drop i bytes)
to_le_bytes-word_at i bytes fits long =
    le_bytes_4 (take 4 (drop i bytes)) (word_at i bytes) (length-take-le 4 (drop i bytes) (omega (arith, length-drop i bytes)))
    (IsBytes-take 4 (drop i bytes) (IsBytes-drop i bytes fits)) (front_is (drop i bytes))

pub word_at-lt : (i : ℕ) (bytes : List ℕ) → IsBytes bytes → word_at i bytes < 2 ^ 32
word_at-lt i bytes fits =
    let there = IsBytes-drop i bytes fits in
    omega (arith, there 0, there 1, there 2, there 3)

-- sixteen bytes are four times four
pub four_fours : (bytes : List ℕ) → length bytes ≡ 16 → bytes ≡ take 4 bytes ++ (take 4 (drop 4 bytes) ++ (take 4 (drop 8 bytes) ++ take 4 (drop 12 bytes)))
four_fours bytes len =
    let last : take 4 (drop 12 bytes) ≡ drop 12 bytes = take_all 4 (drop 12 bytes) (omega (arith, length-drop 12 bytes)) in
    let third : drop 8 bytes ≡ take 4 (drop 8 bytes) ++ take 4 (drop 12 bytes) =
    sym (take-append-drop 4 (drop 8 bytes)) ∙ ap (λ (x : List ℕ). take 4 (drop 8 bytes) ++ x) (drop-drop 4 8 bytes ∙ sym last) in
    let second : drop 4 bytes ≡ take 4 (drop 4 bytes) ++ (take 4 (drop 8 bytes) ++ take 4 (drop 12 bytes)) =
    sym (take-append-drop 4 (drop 4 bytes)) ∙ ap (λ (x : List ℕ). take 4 (drop 4 bytes) ++ x) (drop-drop 4 4 bytes ∙ third) in
    sym (take-append-drop 4 bytes) ∙ ap (λ (x : List ℕ). take 4 bytes ++ x) second

parts_same : (a b c x y : List ℕ) → b ≡ x → c ≡ y → a ++ (b ++ c) ≡ a ++ (x ++ y)
parts_same a b c x y p q = cc

-- a number that was written into the k = 4 places from a on: ys is what they hold then
pub word_put : (a k : ℕ) (xs ys : List ℕ) (word : ℕ) → k ≡ 4 → ys ≡ to_le_bytes w32 word ++ drop 4 (take k (drop a xs))
    → take a xs ++ (ys ++ drop k (drop a xs)) ≡ take a xs ++ (to_le_bytes w32 word ++ drop (a + 4) xs)
word_put a k xs ys word four is =
    let nothing : drop 4 (take k (drop a xs)) ≡ [] = drop_all 4 (take k (drop a xs)) (omega (arith, length-take k (drop a xs))) in
    let after : drop k (drop a xs) ≡ drop (a + 4) xs = drop-drop k a xs ∙ ap (λ (n : ℕ). drop n xs) (omega arith) in
    parts_same (take a xs) ys (drop k (drop a xs)) (to_le_bytes w32 word) (drop (a + 4) xs) (is ∙ ap (λ (x : List ℕ). to_le_bytes w32 word ++ x) nothing) after
