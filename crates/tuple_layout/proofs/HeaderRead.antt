-- What the header of a tuple says is what the row has.
use Rattle.std.proofs.Common.{◌≡◌, ℕ, ℤ, zero, suc, ◌+◌, ◌-◌, ◌*◌, ◌/◌, ◌%◌, ◌^◌, ◌<◌, ◌≤◌, Bool, true, false, List, [], ◌∷◌, ◌++◌, length, map, take, drop, get_or, Option, Some, None, refl, sym, ap, ◌∙◌, append_assoc, arith, inl, inr, ◌⊎◌, ◌||◌}
use Rattle.std.specs.Prelude.{not, replicate, if◌then◌else◌, ◌==◌}
use Rattle.std.specs.List.{list_any}
use Rattle.std.specs.Int.{w16, w64, to_le_bytes, from_le_bytes, cast_signed, cast_unsigned}
use Rattle.std.proofs.lemmas.Int.{to_z-of_z, ints}
use Rattle.std.proofs.lemmas.Nat.{from_le_bytes-to_le_bytes_8}
use Rattle.std.specs.Int.RustNames.{FitsSigned}
use Rattle.std.proofs.Math.Nat.{pow-suc, div-div-eq-div-mul}
use Rattle.std.proofs.lemmas.Bool.{cases_lt}
use Rattle.std.proofs.lemmas.Bool.Decides.{nat_tests}
use Rattle.std.proofs.lemmas.List.{length-map, length-append, length-replicate, length-take, get_or-map, take_at, drop_at, drop-drop, append-nil}
use Rattle.tuple_layout.specs.declared.Storage.{Storage}
use Rattle.tuple_layout.specs.declared.cell.Cell.{Cell}
use Rattle.tuple_layout.specs.declared.cell.Stored.{Stored}
use Rattle.tuple_layout.specs.Sizes.{Width, is_missing, header_size, column_end, data_end_from}
use Rattle.tuple_layout.specs.Tuples.{cell_width, cell_widths, is_there, flags, number_of_bits, present_bits, bitmap, data_start, header, key_bytes, cell_bytes, data_from, tuple, row_size, HasTuple}
use Rattle.tuple_layout.proofs.ColumnLemmas.{length-cell_bytes}
use Rattle.tuple_layout.specs.Faults.{HoldsCells, columns_in, null_in, start_in, bitmap_in, is_present}

-- ---- bits

-- the bit at a place
bit_at : (bits : List Bool) (k : ℕ) (d : Bool) → k < length bits → (number_of_bits bits / 2 ^ k % 2 == 1) ≡ get_or bits k d
bit_at [] k d h = absurd (omega (arith, h))
bit_at (true ∷ bits) zero d h = grind (arith, nat_tests)
bit_at (false ∷ bits) zero d h = grind (arith, nat_tests)
bit_at (b ∷ bits) (suc k) d h =
    let n = number_of_bits bits in
    let double : 2 ^ suc k ≡ 2 * 2 ^ k = pow-suc 2 k ∙ omega arith in
    let half : (c : Bool) → ((if c then 1 else 0) + 2 * n) / 2 ≡ n = λ c. elim c as (λ v. ((if v then 1 else 0) + 2 * n) / 2 ≡ n) [ true ↦ omega arith | false ↦ omega arith ] in
    let whole = (if b then 1 else 0) + 2 * n in
    let shift : whole / 2 ^ suc k ≡ n / 2 ^ k = ap (λ (m : ℕ). whole / m) double ∙ sym (div-div-eq-div-mul whole 2 (2 ^ k)) ∙ ap (λ (m : ℕ). m / 2 ^ k) (half b) in
    ap (λ (m : ℕ). m % 2 == 1) shift ∙ bit_at bits k d (omega (arith, h))

-- the low eight bits are those of the low byte, whatever follows it
low_bits : (n high k : ℕ) → k < 8 → (n % 256 + high * 256) / 2 ^ k % 2 ≡ n / 2 ^ k % 2
low_bits n high zero h = omega arith
low_bits n high (suc zero) h = omega arith
low_bits n high (suc (suc zero)) h = omega arith
low_bits n high (suc (suc (suc zero))) h = omega arith
low_bits n high (suc (suc (suc (suc zero)))) h = omega arith
low_bits n high (suc (suc (suc (suc (suc zero))))) h = omega arith
low_bits n high (suc (suc (suc (suc (suc (suc zero)))))) h = omega arith
low_bits n high (suc (suc (suc (suc (suc (suc (suc zero))))))) h = omega arith
low_bits n high (suc (suc (suc (suc (suc (suc (suc (suc k)))))))) h = absurd (omega (arith, h))

-- and so are the low nine bits in two bytes
nine_bits : (n k : ℕ) → k < 9 → (n % 256 + n / 256 % 256 * 256) / 2 ^ k % 2 ≡ n / 2 ^ k % 2
nine_bits n k h = elim (cases_lt k 8) [
  | inl low ↦ low_bits n (n / 256 % 256) k low
  | inr top ↦
      let k-is : k ≡ 8 = omega arith in
      rw k-is (let all : (n % 256 + n / 256 % 256 * 256) / 256 % 2 ≡ n / 256 % 2 = omega arith in all)
]

-- what the bits say of a column
present_at : (ws : List Width) (k : ℕ) (d : Width) → k < length ws → (present_bits ws / 2 ^ (k + 1) % 2 == 1) ≡ is_there (get_or ws k d)
present_at ws k d h =
    let next : k + 1 ≡ suc k = omega arith in
    let long : suc k < length (true ∷ map is_there ws) = omega (arith, length-map ws is_there) in
    ap (λ (m : ℕ). present_bits ws / 2 ^ m % 2 == 1) next ∙ bit_at (true ∷ map is_there ws) (suc k) false long ∙ get_or-map is_there ws k d false h

-- the bitmap says it too, whatever follows the bitmap
bitmap_at : (ws : List Width) (tail : List ℕ) (k : ℕ) (d : Width) → length ws ≤ 8 → list_any is_missing ws ≡ true → k < length ws
    → (from_le_bytes w16 (bitmap ws ++ tail) / 2 ^ (k + 1) % 2 == 1) ≡ is_there (get_or ws k d)
bitmap_at ws tail k d few some h =
    let n = present_bits ws in
    let with_null : bitmap ws ≡ take ((length ws + 8) / 8) (to_le_bytes w16 n) = ap (λ (b : Bool). if b then take ((length ws + 8) / 8) (to_le_bytes w16 n) else []) some in
    elim (cases_lt (length ws) 8) [
      | inl lt ↦
          let one : (length ws + 8) / 8 ≡ 1 = omega arith in
          let bits : from_le_bytes w16 (bitmap ws ++ tail) ≡ n % 256 + get_or tail 0 0 * 256 = ap (λ (x : List ℕ). from_le_bytes w16 (x ++ tail)) (with_null ∙ ap (λ (m : ℕ). take m (to_le_bytes w16 n)) one) in
          ap (λ (m : ℕ). m / 2 ^ (k + 1) % 2 == 1) bits ∙ ap (λ (m : ℕ). m == 1) (low_bits n (get_or tail 0 0) (k + 1) (omega arith)) ∙ present_at ws k d h
      | inr le ↦
          let two : (length ws + 8) / 8 ≡ 2 = omega arith in
          let bits : from_le_bytes w16 (bitmap ws ++ tail) ≡ n % 256 + n / 256 % 256 * 256 = ap (λ (x : List ℕ). from_le_bytes w16 (x ++ tail)) (with_null ∙ ap (λ (m : ℕ). take m (to_le_bytes w16 n)) two) in
          ap (λ (m : ℕ). m / 2 ^ (k + 1) % 2 == 1) bits ∙ ap (λ (m : ℕ). m == 1) (nine_bits n (k + 1) (omega arith)) ∙ present_at ws k d h
    ]

true_or_false : (b : Bool) → (b ≡ true) ⊎ (b ≡ false)
true_or_false true = inl refl
true_or_false false = inr refl

or_left : (a b : Bool) → (a || b) ≡ false → a ≡ false
or_left true b e = e
or_left false b e = refl

or_right : (a b : Bool) → (a || b) ≡ false → b ≡ false
or_right true b e = absurd (cc)
or_right false b e = e

none_missing : (ws : List Width) (k : ℕ) (d : Width) → list_any is_missing ws ≡ false → k < length ws → is_missing (get_or ws k d) ≡ false
none_missing [] k d e h = absurd (omega (arith, h))
none_missing (w ∷ ws) zero d e h = or_left (is_missing w) (list_any is_missing ws) e
none_missing (w ∷ ws) (suc k) d e h = none_missing ws k d (or_right (is_missing w) (list_any is_missing ws) e) (omega (arith, h))

-- ---- the header's numbers

flag_is : (a b c : Bool) → (((if a then 1 else 0) + (if b then 2 else 0) + (if c then 4 else 0)) % 256 + ((if a then 1 else 0) + (if b then 2 else 0) + (if c then 4 else 0)) / 256 % 256 * 256) % 2 == 1 ≡ a
flag_is true true true = refl
flag_is true true false = refl
flag_is true false true = refl
flag_is true false false = refl
flag_is false true true = refl
flag_is false true false = refl
flag_is false false true = refl
flag_is false false false = refl

read_columns : (ws : List Width) (rest : List ℕ) → length ws ≤ 8 → columns_in (header ws ++ rest) ≡ length ws + 1
read_columns ws rest few = let all : (length ws + 1) % 256 + (length ws + 1) / 256 % 256 * 256 ≡ length ws + 1 = omega arith in all

read_null : (ws : List Width) (rest : List ℕ) → null_in (header ws ++ rest) ≡ list_any is_missing ws
read_null ws rest = flag_is (list_any is_missing ws) (list_any is_there ws) _

length-bitmap : (ws : List Width) → length ws ≤ 8 → 23 + length (bitmap ws) ≤ data_start ws
length-bitmap ws few = grind (arith, nat_tests, length-take)

length-header : (ws : List Width) → length ws ≤ 8 → length (header ws) ≡ data_start ws
length-header ws few =
    let bits = length-bitmap ws few in
    let front = replicate 18 0 ++ (to_le_bytes w16 (length ws + 1) ++ (to_le_bytes w16 (flags ws) ++ (data_start ws ∷ bitmap ws))) in
    length-append front (replicate (data_start ws - length front) 0) ∙ ap (λ (n : ℕ). length front + n) (length-replicate (data_start ws - length front) 0) ∙ omega (arith, bits)

read_bitmap : (ws : List Width) (rest : List ℕ) (k : ℕ) (d : Width) → length ws ≤ 8 → k < length ws → is_present (bitmap_in (header ws ++ rest)) (k + 1) ≡ is_there (get_or ws k d)
read_bitmap ws rest k d few h =
    let bytes = header ws ++ rest in
    let front = replicate 18 0 ++ (to_le_bytes w16 (length ws + 1) ++ (to_le_bytes w16 (flags ws) ++ (data_start ws ∷ bitmap ws))) in
    let zeros : List ℕ = replicate (data_start ws - length front) zero in
    let bits : from_le_bytes w16 (drop 23 bytes) ≡ from_le_bytes w16 (bitmap ws ++ (zeros ++ rest)) = ap (from_le_bytes w16) (append_assoc (bitmap ws) zeros rest) in
    let told : (b : Bool) → list_any is_missing ws ≡ b → bitmap_in bytes ≡ (if b then Some (from_le_bytes w16 (drop 23 bytes)) else None) =
    λ b e. ap (λ (v : Bool). if v then Some (from_le_bytes w16 (drop 23 bytes)) else None) (read_null ws rest ∙ e) in
    elim (true_or_false (list_any is_missing ws)) [
      | inl some ↦ ap (λ (o : Option ℕ). is_present o (k + 1)) (told true some) ∙ ap (λ (m : ℕ). m / 2 ^ (k + 1) % 2 == 1) bits ∙ bitmap_at ws (zeros ++ rest) k d few some h
      | inr none ↦ ap (λ (o : Option ℕ). is_present o (k + 1)) (told false none) ∙ ap not (sym (none_missing ws k d none h))
    ]

-- ---- the tuple

-- a tuple holds the cells of its row, behind its header
pub tuple_holds : (schema : List Storage) (s : Stored) → length schema ≤ 8 → HasTuple schema s → HoldsCells schema (tuple schema s) s.cells []
tuple_holds schema s few has =
    let ws = cell_widths s.cells in
    let rest = key_bytes s.key ++ data_from 8 schema s.cells in
    let len : length ws ≡ length s.cells = length-map s.cells cell_width in
    let small : length ws ≤ 8 = omega (arith, has.one_each) in
    let start = data_start ws in
    let total : length (header ws ++ rest) ≡ start + length rest = length-append (header ws) rest ∙ ap (λ (n : ℕ). n + length rest) (length-header ws small) in
    let key : length rest ≡ 8 + length (data_from 8 schema s.cells) = length-append (key_bytes s.key) (data_from 8 schema s.cells) in
    let low : 23 ≤ start = omega (arith, length-bitmap ws small) in
    let columns : length ws + 1 ≡ length schema + 1 = omega (arith, len, has.one_each) in
    record {
      has_header = record {
        long = omega (arith, total);
        columns = read_columns ws rest small ∙ columns;
        start = ap (λ (n : ℕ). header_size n (list_any is_missing ws)) columns ∙ ap (header_size (length schema + 1)) (sym (read_null ws rest));
      };
      has_key = omega (arith, total, key);
      few = omega (arith, has.one_each);
      forms = has.forms;
      nulls = λ k d h. sym (read_bitmap ws rest k (cell_width d) small (omega (arith, len)) ∙ ap is_there (get_or-map cell_width s.cells k d (cell_width d) h));
      behind_key = sym (drop-drop 8 start (header ws ++ rest)) ∙ ap (drop 8) (drop_at (header ws) rest start (length-header ws small)) ∙ sym (append-nil (data_from 8 schema s.cells));
    }

pub tuple_front : (schema : List Storage) (s : Stored) → length schema ≤ 8 → HasTuple schema s → take (start_in (tuple schema s)) (tuple schema s) ≡ header (cell_widths s.cells)
tuple_front schema s few has =
    let ws = cell_widths s.cells in
    let len : length ws ≡ length s.cells = length-map s.cells cell_width in
    take_at (header ws) (key_bytes s.key ++ data_from 8 schema s.cells) (data_start ws) (length-header ws (omega (arith, has.one_each)))

pub bits_below : (key : ℤ) → FitsSigned w64 key → cast_unsigned w64 key < 2 ^ 64
bits_below key fits = omega (arith, ints)

one_key : (a b : ℤ) → FitsSigned w64 a → FitsSigned w64 b → key_bytes a ≡ key_bytes b → a ≡ b
one_key a b f g e =
    let bits : cast_unsigned w64 a ≡ cast_unsigned w64 b =
    sym (from_le_bytes-to_le_bytes_8 (cast_unsigned w64 a) (bits_below a f)) ∙ ap (from_le_bytes w64) e ∙ from_le_bytes-to_le_bytes_8 (cast_unsigned w64 b) (bits_below b g) in
    sym (to_z-of_z w64 a f) ∙ ap (cast_signed w64) bits ∙ to_z-of_z w64 b g

abbrev made : ℤ → List Cell → Stored
made key cells = record { key = key; cells = cells }

pub same_stored : (s t : Stored) → s.key ≡ t.key → s.cells ≡ t.cells → s ≡ t
same_stored s t key cells =
    let same : made s.key s.cells ≡ made t.key t.cells = cc in same

-- where its key stands
pub front_key : (schema : List Storage) (s : Stored) → length schema ≤ 8 → length s.cells ≡ length schema → take 8 (drop (data_start (cell_widths s.cells)) (tuple schema s)) ≡ key_bytes s.key
front_key schema s few all =
    let ws = cell_widths s.cells in
    let len : length ws ≡ length s.cells = length-map s.cells cell_width in
    ap (take 8) (drop_at (header ws) (key_bytes s.key ++ data_from 8 schema s.cells) (data_start ws) (length-header ws (omega (arith, all))))
    ∙ take_at (key_bytes s.key) (data_from 8 schema s.cells) 8 refl

-- a row with the same tuple and the same cells has the same key
pub one_row : (schema : List Storage) (s t : Stored) → length schema ≤ 8 → HasTuple schema s → HasTuple schema t → s.cells ≡ t.cells → tuple schema s ≡ tuple schema t → s ≡ t
one_row schema s t few has others cells same =
    let places : data_start (cell_widths s.cells) ≡ data_start (cell_widths t.cells) = ap (λ (x : List Cell). data_start (cell_widths x)) cells in
    let keys : key_bytes s.key ≡ key_bytes t.key =
    sym (front_key schema s few has.one_each) ∙ ap (λ (n : ℕ). take 8 (drop n (tuple schema s))) places ∙ ap (λ (x : List ℕ). take 8 (drop (data_start (cell_widths t.cells)) x)) same ∙ front_key schema t few others.one_each in
    same_stored s t (one_key s.key t.key has.key others.key keys) cells

-- ---- the size

length-data : (at : ℕ) (schema : List Storage) (cells : List Cell) → at + length (data_from at schema cells) ≡ data_end_from at schema (cell_widths cells)
length-data at [] cells = omega arith
length-data at (s ∷ ss) [] = omega arith
length-data at (s ∷ ss) (c ∷ cs) =
    let next = column_end s at (cell_width c) in
    omega (arith, length-append (cell_bytes s at c) (data_from next ss cs), length-cell_bytes s at c, length-data next ss cs)

-- a tuple has the size of its row
pub length-tuple : (schema : List Storage) (s : Stored) → length schema ≤ 8 → length s.cells ≡ length schema → length (tuple schema s) ≡ row_size schema s.cells
length-tuple schema s few all =
    let ws = cell_widths s.cells in
    let len : length ws ≡ length s.cells = length-map s.cells cell_width in
    let small : length ws ≤ 8 = omega arith in
    let start : data_start ws ≡ header_size (length schema + 1) (list_any is_missing ws) = ap (λ (n : ℕ). header_size (n + 1) (list_any is_missing ws)) (len ∙ all) in
    let rest = key_bytes s.key ++ data_from 8 schema s.cells in
    let parts : length (tuple schema s) ≡ data_start ws + length rest = length-append (header ws) rest ∙ ap (λ (n : ℕ). n + length rest) (length-header ws small) in
    omega (arith, parts, start, length-append (key_bytes s.key) (data_from 8 schema s.cells), length-data 8 schema s.cells)
