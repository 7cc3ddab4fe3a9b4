-- The bytes before the data of a tuple.
use Rattle.std.proofs.Common.{◌≡◌, ℕ, suc, ◌+◌, ◌*◌, ◌/◌, ◌%◌, ◌^◌, ◌<◌, ◌≤◌, true, false, Bool, List, [], ◌∷◌, ◌++◌, length, get_or, take, refl, sym, ap, ◌∙◌, arith, inl, inr}
use Rattle.std.specs.Prelude.{replicate, if◌then◌else◌}
use Rattle.std.specs.List.{list_any}
use Rattle.std.specs.Int.{w16, to_le_bytes}
use Rattle.std.proofs.Math.Nat.{pow-suc}
use Rattle.std.proofs.lemmas.Bool.{cases_lt}
use Rattle.std.proofs.lemmas.List.{length-map}
use Rattle.tuple_layout.specs.declared.cell.Cell.{Cell}
use Rattle.tuple_layout.specs.Sizes.{Width, is_missing, header_size}
use Rattle.tuple_layout.specs.Tuples.{cell_width, cell_widths, flags, present_bits, bitmap, padded, data_start, header}

pub power_more : (bit i : ℕ) → bit ≡ 2 ^ (i + 1) → bit * 2 ≡ 2 ^ (i + 1 + 1)
power_more bit i e =
    let next : suc (i + 1) ≡ i + 1 + 1 = omega arith in
    ap (λ (x : ℕ). x * 2) e ∙ sym (pow-suc 2 (i + 1)) ∙ ap (λ (k : ℕ). 2 ^ k) next

-- the header of its parts
abbrev of_parts : ℕ → ℕ → ℕ → List ℕ → List ℕ
of_parts start columns fl bits = padded start (replicate 18 0 ++ (to_le_bytes w16 columns ++ (to_le_bytes w16 fl ++ (start ∷ bits))))

-- the bytes that are written
abbrev pub written : ℕ → ℕ → ℕ → ℕ → ℕ → List ℕ
written start columns fl low high = replicate 18 0 ++ (columns ∷ 0 ∷ fl ∷ 0 ∷ start ∷ low ∷ high ∷ replicate 7 0)

small : (n : ℕ) → n < 256 → (n % 256 ≡ n) × (n / 256 % 256 ≡ 0)
small n h = (omega arith, omega arith)

plain : (columns fl : ℕ) → columns < 256 → fl < 256 → take 24 (written 24 columns fl 0 0) ≡ of_parts 24 columns fl []
plain columns fl h k =
    let a = small columns h in
    let b = small fl k in
    rw (a.0, a.1, b.0, b.1) refl

one_byte : (columns fl low high : ℕ) → columns < 256 → fl < 256 → take 24 (written 24 columns fl low high) ≡ of_parts 24 columns fl (low ∷ [])
one_byte columns fl low high h k =
    let a = small columns h in
    let b = small fl k in
    rw (a.0, a.1, b.0, b.1) refl

two_bytes : (columns fl low high : ℕ) → columns < 256 → fl < 256 → take 32 (written 32 columns fl low high) ≡ of_parts 32 columns fl (low ∷ high ∷ [])
two_bytes columns fl low high h k =
    let a = small columns h in
    let b = small fl k in
    rw (a.0, a.1, b.0, b.1) refl

parts_same : (start start' columns columns' fl fl' : ℕ) (bits bits' : List ℕ) → start ≡ start' → columns ≡ columns' → fl ≡ fl' → bits ≡ bits' → of_parts start columns fl bits ≡ of_parts start' columns' fl' bits'
parts_same start start' columns columns' fl fl' bits bits' p q r s = rw (p, q, r, s) refl

-- no column is null
pub front_plain : (ws : List Width) (columns fl start : ℕ) → length ws ≤ 8 → columns ≡ length ws + 1 → fl ≡ flags ws → fl < 256 → start ≡ data_start ws → list_any is_missing ws ≡ false
    → take start (written start columns fl 0 0) ≡ header ws
front_plain ws columns fl start few columns-is fl-is small_fl start-is none =
    let size : start ≡ 24 = start-is ∙ ap (header_size (length ws + 1)) none in
    let bits : bitmap ws ≡ [] = ap (λ (b : Bool). if b then take ((length ws + 8) / 8) (to_le_bytes w16 (present_bits ws)) else []) none in
    rw size (plain columns fl (omega arith) small_fl) ∙ parts_same 24 (data_start ws) columns (length ws + 1) fl (flags ws) [] (bitmap ws) (sym size ∙ start-is) columns-is fl-is (sym bits)

-- a column is null
pub front_null : (ws : List Width) (columns fl start low high : ℕ) → length ws ≤ 8 → columns ≡ length ws + 1 → fl ≡ flags ws → fl < 256 → start ≡ data_start ws → list_any is_missing ws ≡ true
    → low ∷ high ∷ [] ≡ to_le_bytes w16 (present_bits ws) → take start (written start columns fl low high) ≡ header ws
front_null ws columns fl start low high few columns-is fl-is small_fl start-is some bytes =
    let with_null : data_start ws ≡ header_size (length ws + 1) true = ap (header_size (length ws + 1)) some in
    let bits : (n : ℕ) → (length ws + 8) / 8 ≡ n → take n (low ∷ high ∷ []) ≡ bitmap ws =
    λ n e. ap (take n) bytes ∙ ap (λ (k : ℕ). take k (to_le_bytes w16 (present_bits ws))) (sym e) ∙ ap (λ (b : Bool). if b then take ((length ws + 8) / 8) (to_le_bytes w16 (present_bits ws)) else []) (sym some) in
    elim (cases_lt (length ws) 8) [
      | inl h ↦
          let size : start ≡ 24 = start-is ∙ with_null ∙ (let all : header_size (length ws + 1) true ≡ 24 = omega arith in all) in
          rw size (one_byte columns fl low high (omega arith) small_fl) ∙ parts_same 24 (data_start ws) columns (length ws + 1) fl (flags ws) (low ∷ []) (bitmap ws) (sym size ∙ start-is) columns-is fl-is (bits 1 (omega arith))
      | inr h ↦
          let size : start ≡ 32 = start-is ∙ with_null ∙ (let all : header_size (length ws + 1) true ≡ 32 = omega arith in all) in
          rw size (two_bytes columns fl low high (omega arith) small_fl) ∙ parts_same 32 (data_start ws) columns (length ws + 1) fl (flags ws) (low ∷ high ∷ []) (bitmap ws) (sym size ∙ start-is) columns-is fl-is (bits 2 (omega arith))
    ]

-- where the data start, from what is computed of it
pub start_is : (cells : List Cell) (start : ℕ) (null : Bool) → start ≡ header_size (length cells + 1) null → null ≡ list_any is_missing (cell_widths cells) → start ≡ data_start (cell_widths cells)
start_is cells start null e n = e ∙ rw (n, ← length-map cells cell_width) refl

-- two bytes as they are read
pub two_of : (bytes : List ℕ) (bits bits' : ℕ) → bytes ≡ to_le_bytes w16 bits → bits ≡ bits' → get_or bytes 0 0 ∷ get_or bytes 1 0 ∷ [] ≡ to_le_bytes w16 bits'
two_of bytes bits bits' e s = rw (e, s) refl
