-- A tuple's row is found in its bytes, and what is found is the row of the tuple.
use Rattle.std.proofs.Common.{◌≡◌, ℕ, suc, ◌+◌, ◌-◌, ◌*◌, ◌/◌, ◌%◌, ◌^◌, ◌<◌, ◌≤◌, Bool, true, false, List, [], ◌∷◌, ◌++◌, length, take, drop, get_or, Option, Some, None, refl, sym, ap, subst, ◌∙◌, append_assoc, arith, inl, inr}
use Rattle.std.specs.Prelude.{◌&&◌, ◌==◌, Result, Ok, Err, IfOk, IfErr, MatchResult, ◌≢◌, nat_lt, nat_le, if◌then◌else◌}
use Rattle.std.specs.List.{list_all, All}
use Rattle.std.specs.Str.{bytes_eq}
use Rattle.std.specs.Int.{w32, w64, to_le_bytes, from_le_bytes, cast_signed, cast_unsigned}
use Rattle.std.specs.Int.RustNames.{FitsSigned}
use Rattle.std.proofs.lemmas.Int.{to_z-of_z}
use Rattle.std.proofs.Math.Facts.{sfits_to_z, Fits-of_lt}
use Rattle.std.proofs.lemmas.Nat.{from_le_bytes-to_le_bytes_8}
use Rattle.std.proofs.lemmas.Slice.Eq.{bytes_eq-Decides}
use Rattle.std.proofs.lemmas.Bool.Decides.{nat_tests}
use Rattle.std.proofs.lemmas.List.{length-replicate, take_at, drop_at}
use Rattle.std.proofs.lemmas.List.Elements.{All-get_or, All-cons, All-nil}
use Rattle.varlena_form.specs.Spelling.{short_form, plain_form}
use Rattle.varlena_form.proofs.Bytes.{from_le_bytes-to}
use Rattle.external_pointer.specs.declared.external.Pointer.{Pointer}
use Rattle.external_pointer.specs.Spelling.{IsInRange, pointer_bytes}
use Rattle.external_pointer.proofs.Spelled.{word_at-size, word_at-value_id, word_at-toast_rel}
use Rattle.tuple_layout.specs.declared.Storage.{Storage}
use Rattle.tuple_layout.specs.declared.cell.Cell.{Cell}
use Rattle.tuple_layout.specs.declared.cell.Cell.TheVariants.{Null, Inline, Out}
use Rattle.tuple_layout.specs.declared.cell.Stored.{Stored}
use Rattle.tuple_layout.specs.declared.fault.TupleFault.{TupleFault}
use Rattle.tuple_layout.specs.declared.fault.TupleFault.TheVariants.{Memory}
use Rattle.tuple_layout.specs.Sizes.{aligned, column_end}
use Rattle.tuple_layout.specs.Tuples.{cell_width, cell_bytes, data_from, padding, tuple, is_there, HasForm, HasTuple}
use Rattle.tuple_layout.specs.Faults.{StandsFirst, IsFault, bitmap_in, is_present, start_in}
use Rattle.tuple_layout.specs.StoredRows.{pointer_at, plain_at, cell_at, cell_by, cells_from, cells_in, key_in, found_in, has_form, is_tuple_of, stored_in}
use Rattle.tuple_layout.proofs.CellLemmas.{IsEven, as_short, as_out, odd_cell, even_cell, parity}
use Rattle.tuple_layout.proofs.ColumnLemmas.{length-cell_bytes}
use Rattle.tuple_layout.proofs.HeaderRead.{tuple_holds, front_key, bits_below, same_stored}
use Rattle.tuple_layout.proofs.Judged.{reads_again}

-- ---- a cell

short_read : (at : ℕ) (value after : List ℕ) → cell_at at (short_form value ++ after) ≡ Inline value
unfolding short_form
short_read at value after =
    let n = length value in
    let first : (2 * (n + 1) + 1 == 1) ≡ false = grind (arith, nat_tests) in
    let odd : ((2 * (n + 1) + 1) % 2 == 1) ≡ true = grind (arith, nat_tests) in
    let len : (2 * (n + 1) + 1) / 2 - 1 ≡ n = omega arith in
    rw (first, odd, len) (ap (λ (x : List ℕ). Inline x) (take_at value after n refl))

plain_read : (value after : List ℕ) → length value + 4 < 2 ^ 30 → plain_at (plain_form value ++ after) ≡ value
unfolding plain_form
plain_read value after fits =
    let word : from_le_bytes w32 (to_le_bytes w32 (4 * (length value + 4)) ++ (value ++ after)) ≡ 4 * (length value + 4) = from_le_bytes-to (4 * (length value + 4)) (value ++ after) (omega arith) in
    ap (λ (n : ℕ). take (n / 4 - 4) (value ++ after)) word ∙ (let len : 4 * (length value + 4) / 4 - 4 ≡ length value = omega arith in ap (λ (n : ℕ). take n (value ++ after)) len) ∙ take_at value after (length value) refl

even_read : (at : ℕ) (rest value after : List ℕ) → IsEven rest → rest ≡ padding at ++ (plain_form value ++ after) → length value + 4 < 2 ^ 30 → cell_at at rest ≡ Inline value
even_read at rest value after even is fits =
    let first : (get_or rest 0 0 == 1) ≡ false = grind (arith, nat_tests) in
    let odd : (get_or rest 0 0 % 2 == 1) ≡ false = grind (arith, nat_tests) in
    let behind : drop (aligned at - at) rest ≡ plain_form value ++ after = ap (drop (aligned at - at)) is ∙ drop_at (padding at) (plain_form value ++ after) (aligned at - at) (length-replicate (aligned at - at) 0) in
    rw (first, odd) (ap (λ (x : List ℕ). Inline x) (ap plain_at behind ∙ plain_read value after fits))

same_pointer : (p q : Pointer) → p.size ≡ q.size → p.value_id ≡ q.value_id → p.toast_rel ≡ q.toast_rel → p ≡ q
same_pointer p q size value_id toast_rel =
    let made = λ (a b c : ℕ). (let r : Pointer = record { size = a; value_id = b; toast_rel = c } in r) in
    ap (λ (a : ℕ). made a p.value_id p.toast_rel) size ∙ ap (λ (b : ℕ). made q.size b p.toast_rel) value_id ∙ ap (λ (c : ℕ). made q.size q.value_id c) toast_rel

out_read : (at : ℕ) (p : Pointer) (after : List ℕ) → IsInRange p → cell_at at (pointer_bytes p ++ after) ≡ Out p
unfolding pointer_bytes
out_read at p after range =
    ap (λ (q : Pointer). Out q) (same_pointer (pointer_at (pointer_bytes p ++ after)) p (word_at-size p range) (word_at-value_id p range) (word_at-toast_rel p range))

-- a cell that stands at the front is found
pub cell_read : (storage : Storage) (at : ℕ) (rest : List ℕ) (cell : Cell) (after : List ℕ) → StandsFirst storage at rest cell after → cell_at at rest ≡ cell
cell_read storage at rest cell after h = elim (parity rest) [
  | inl even ↦
      let found = even_cell storage at rest cell after even h in
      let form : length found.value + 4 < 2 ^ 30 = subst HasForm found.is h.form in
      even_read at rest found.value after even found.padded form ∙ sym found.is
  | inr odd ↦ elim (odd_cell storage at rest cell after odd h) [
    | as_short value is kind begins front ↦ ap (cell_at at) front ∙ short_read at value after ∙ sym is
    | as_out p is fits begins front ↦ ap (cell_at at) front ∙ out_read at p after fits ∙ sym is
  ]
]

null_read : (there : Bool) (at : ℕ) (rest : List ℕ) → false ≡ there → cell_by there at rest ≡ Null
null_read there at rest is = ap (λ (b : Bool). cell_by b at rest) (sym is)

there_read : (there : Bool) (storage : Storage) (at : ℕ) (rest : List ℕ) (cell : Cell) (after : List ℕ) → true ≡ there → StandsFirst storage at rest cell after → cell_by there at rest ≡ cell
there_read there storage at rest cell after is h = ap (λ (b : Bool). cell_by b at rest) (sym is) ∙ cell_read storage at rest cell after h

by_read : (there : Bool) (storage : Storage) (at : ℕ) (rest : List ℕ) (cell : Cell) (after : List ℕ) → is_there (cell_width cell) ≡ there → HasForm cell → rest ≡ cell_bytes storage at cell ++ after → cell_by there at rest ≡ cell
by_read there storage at rest Null after is form front = null_read there at rest is
by_read there storage at rest (Inline value) after is form front = there_read there storage at rest (Inline value) after is (record { there = refl; form = form; front = front })
by_read there storage at rest (Out p) after is form front = there_read there storage at rest (Out p) after is (record { there = refl; form = form; front = front })

-- ---- a row

-- the cells of columns are found, null or not
pub columns_read : (there : ℕ → Bool) (at : ℕ) (schema : List Storage) (cells : List Cell) (after : List ℕ) → ((k : ℕ) (d : Cell) → k < length cells → HasForm (get_or cells k d)) → length cells ≡ length schema
    → ((k : ℕ) (d : Cell) → k < length cells → is_there (cell_width (get_or cells k d)) ≡ there k) → cells_from there at schema (data_from at schema cells ++ after) ≡ cells
columns_read there at [] [] after forms len set = refl
columns_read there at [] (c ∷ cs) after forms len set = absurd (omega (arith, len))
columns_read there at (s ∷ ss) [] after forms len set = absurd (omega (arith, len))
columns_read there at (s ∷ ss) (c ∷ cs) after forms len set =
    let end = column_end s at (cell_width c) in
    let later = data_from end ss cs ++ after in
    let rest = data_from at (s ∷ ss) (c ∷ cs) ++ after in
    let front : rest ≡ cell_bytes s at c ++ later = append_assoc (cell_bytes s at c) (data_from end ss cs) after in
    let own : cell_by (there 0) at rest ≡ c = by_read (there 0) s at rest c later (set 0 c (omega arith)) (forms 0 c (omega arith)) front in
    let size : length (cell_bytes s at c) ≡ end - at = omega (arith, length-cell_bytes s at c) in
    let behind : drop (end - at) rest ≡ later = ap (drop (end - at)) front ∙ drop_at (cell_bytes s at c) later (end - at) size in
    ap (λ (x : Cell). x ∷ cells_from (λ k. there (suc k)) (column_end s at (cell_width x)) ss (drop (column_end s at (cell_width x) - at) rest)) own
    ∙ ap (λ (x : List ℕ). c ∷ cells_from (λ k. there (suc k)) end ss x) behind
    ∙ ap (λ (x : List Cell). c ∷ x) (columns_read (λ k. there (suc k)) end ss cs after (λ k d h. forms (suc k) d (omega (arith, h))) (omega (arith, len)) (λ k d h. set (suc k) d (omega (arith, h))))

length-cells_from : (there : ℕ → Bool) (at : ℕ) (schema : List Storage) (rest : List ℕ) → length (cells_from there at schema rest) ≡ length schema
length-cells_from there at [] rest = refl
length-cells_from there at (s ∷ ss) rest =
    let end = column_end s at (cell_width (cell_by (there 0) at rest)) in
    ap (λ (n : ℕ). suc n) (length-cells_from (λ k. there (suc k)) end ss (drop (end - at) rest))

-- the cells of a tuple are found
pub cells_read : (schema : List Storage) (stored : Stored) → length schema ≤ 8 → HasTuple schema stored → cells_in schema (tuple schema stored) ≡ stored.cells
cells_read schema stored few has =
    let bytes = tuple schema stored in
    let there = λ (k : ℕ). is_present (bitmap_in bytes) (k + 1) in
    let holds = tuple_holds schema stored few has in
    ap (cells_from there 8 schema) holds.behind_key ∙ columns_read there 8 schema stored.cells [] (λ k d h. All-get_or HasForm stored.cells k d h has.forms) has.one_each holds.nulls

-- and so is its key
key_read : (schema : List Storage) (stored : Stored) → length schema ≤ 8 → HasTuple schema stored → key_in (tuple schema stored) ≡ stored.key
key_read schema stored few has =
    ap (λ (x : List ℕ). cast_signed w64 (from_le_bytes w64 x)) (front_key schema stored few has.one_each) ∙ ap (cast_signed w64) (from_le_bytes-to_le_bytes_8 (cast_unsigned w64 stored.key) (bits_below stored.key has.key)) ∙ to_z-of_z w64 stored.key has.key

found_read : (schema : List Storage) (stored : Stored) → length schema ≤ 8 → HasTuple schema stored → found_in schema (tuple schema stored) ≡ stored
found_read schema stored few has = same_stored (found_in schema (tuple schema stored)) stored (key_read schema stored few has) (cells_read schema stored few has)

-- ---- forms

form_tested : (cell : Cell) → HasForm cell → has_form cell ≡ true
form_tested Null h = refl
form_tested (Inline value) h = grind (arith, nat_tests)
form_tested (Out p) h =
    let a : nat_le p.size 1073741819 ≡ true = grind (arith, nat_tests, h.size) in
    let b : nat_lt p.value_id (2 ^ 32) ≡ true = grind (arith, nat_tests, h.value_id) in
    let c : nat_lt p.toast_rel (2 ^ 32) ≡ true = grind (arith, nat_tests, h.toast_rel) in
    rw (a, b, c) refl

range_by : (p : Pointer) (a b c : Bool) → nat_le p.size 1073741819 ≡ a → nat_lt p.value_id (2 ^ 32) ≡ b → nat_lt p.toast_rel (2 ^ 32) ≡ c → (a && (b && c)) ≡ true → IsInRange p
range_by p true true true x y z e = record { size = grind (arith, nat_tests); value_id = grind (arith, nat_tests); toast_rel = grind (arith, nat_tests) }
range_by p true true false x y z e = absurd (cc)
range_by p true false c x y z e = absurd (cc)
range_by p false b c x y z e = absurd (cc)

tested_form : (cell : Cell) → has_form cell ≡ true → HasForm cell
tested_form Null e = tt
tested_form (Inline value) e = grind (arith, nat_tests)
tested_form (Out p) e = range_by p _ _ _ refl refl refl e

all_tested : (cells : List Cell) → ((k : ℕ) (d : Cell) → k < length cells → HasForm (get_or cells k d)) → list_all has_form cells ≡ true
all_tested [] forms = refl
all_tested (c ∷ cs) forms = rw (form_tested c (forms 0 c (omega arith))) (all_tested cs (λ k d h. forms (suc k) d (omega (arith, h))))

tested_all_by : (c : Cell) (cs : List Cell) (a b : Bool) → has_form c ≡ a → list_all has_form cs ≡ b → (a && b) ≡ true → (list_all has_form cs ≡ true → All HasForm cs) → All HasForm (c ∷ cs)
tested_all_by c cs true true x y e rest = All-cons HasForm c cs (tested_form c x) (rest y)
tested_all_by c cs true false x y e rest = absurd (cc)
tested_all_by c cs false b x y e rest = absurd (cc)

tested_all : (cells : List Cell) → list_all has_form cells ≡ true → All HasForm cells
tested_all [] e = All-nil HasForm
tested_all (c ∷ cs) e = tested_all_by c cs _ _ refl refl e (tested_all cs)

-- ---- the row

row_tested : (schema : List Storage) (stored : Stored) → HasTuple schema stored → is_tuple_of schema (tuple schema stored) stored ≡ true
row_tested schema stored has =
    let forms : list_all has_form stored.cells ≡ true = all_tested stored.cells (λ k d h. All-get_or HasForm stored.cells k d h has.forms) in
    let same : bytes_eq (tuple schema stored) (tuple schema stored) ≡ true = (bytes_eq-Decides (tuple schema stored) (tuple schema stored)).1 refl in
    ap (λ (b : Bool). b && bytes_eq (tuple schema stored) (tuple schema stored)) forms ∙ same

-- a row is found in its tuple
pub stored_read : (schema : List Storage) (stored : Stored) → length schema ≤ 8 → HasTuple schema stored → stored_in schema (tuple schema stored) ≡ Some stored
stored_read schema stored few has =
    let bytes = tuple schema stored in
    ap (λ (x : Stored). if is_tuple_of schema bytes x then Some x else None) (found_read schema stored few has) ∙ ap (λ (b : Bool). if b then Some stored else None) (row_tested schema stored has)

-- ---- what is found is the row of the tuple

cells_fit : (schema : List Storage) (bytes : List ℕ) → length (cells_in schema bytes) ≡ length schema
cells_fit schema bytes = length-cells_from (λ k. is_present (bitmap_in bytes) (k + 1)) 8 schema (drop (start_in bytes + 8) bytes)

eight_bytes : (m : ℕ) → from_le_bytes w64 (to_le_bytes w64 m) < 2 ^ 64
eight_bytes m = omega arith

-- a key that is found in the tuple that it makes has 64 bits
key_fits : (schema : List Storage) (stored : Stored) → length schema ≤ 8 → length stored.cells ≡ length schema → stored.key ≡ key_in (tuple schema stored) → FitsSigned w64 stored.key
key_fits schema stored few all is =
    let from : key_in (tuple schema stored) ≡ cast_signed w64 (from_le_bytes w64 (to_le_bytes w64 (cast_unsigned w64 stored.key))) = ap (λ (x : List ℕ). cast_signed w64 (from_le_bytes w64 x)) (front_key schema stored few all) in
    subst (FitsSigned w64) (sym (is ∙ from)) (sfits_to_z {w = w64} {n = from_le_bytes w64 (to_le_bytes w64 (cast_unsigned w64 stored.key))} (Fits-of_lt {w = w64} {n = from_le_bytes w64 (to_le_bytes w64 (cast_unsigned w64 stored.key))} (eight_bytes (cast_unsigned w64 stored.key))))

both_by : (a b : Bool) → (a && b) ≡ true → (a ≡ true) × (b ≡ true)
both_by true true e = (refl, refl)
both_by true false e = absurd (cc)
both_by false b e = absurd (cc)

tuple_by : (schema : List Storage) (bytes : List ℕ) (stored : Stored) → length schema ≤ 8 → found_in schema bytes ≡ stored → is_tuple_of schema bytes stored ≡ true → HasTuple schema stored × (bytes ≡ tuple schema stored)
tuple_by schema bytes stored few found is =
    let tests = both_by (list_all has_form stored.cells) (bytes_eq bytes (tuple schema stored)) is in
    let same : bytes ≡ tuple schema stored = (bytes_eq-Decides bytes (tuple schema stored)).0 tests.1 in
    let all : length stored.cells ≡ length schema = ap (λ (x : Stored). length x.cells) (sym found) ∙ cells_fit schema bytes in
    let key : stored.key ≡ key_in (tuple schema stored) = ap (λ (x : Stored). x.key) (sym found) ∙ ap key_in same in
    (record { one_each = all; forms = tested_all stored.cells tests.0; key = key_fits schema stored few all key }, same)

some_by : (b : Bool) (x stored : Stored) → (if b then Some x else None) ≡ Some stored → (b ≡ true) × (x ≡ stored)
some_by true x stored e = (refl, cc)
some_by false x stored e = absurd (cc)

pub stored_found : (schema : List Storage) (bytes : List ℕ) (stored : Stored) → length schema ≤ 8 → stored_in schema bytes ≡ Some stored → HasTuple schema stored × (bytes ≡ tuple schema stored)
stored_found schema bytes stored few e =
    let x = found_in schema bytes in
    let parts = some_by (is_tuple_of schema bytes x) x stored e in
    tuple_by schema bytes stored few parts.1 (ap (is_tuple_of schema bytes) (sym parts.1) ∙ parts.0)

none_by : (schema : List Storage) (bytes : List ℕ) (f : TupleFault) (o : Option Stored) → length schema ≤ 8 → IsFault schema bytes f → f ≢ Memory → stored_in schema bytes ≡ o → o ≡ None
none_by schema bytes f None few fault named e = refl
none_by schema bytes f (Some stored) few fault named e =
    let has = stored_found schema bytes stored few e in
    let r : Result Stored TupleFault = Err f in
    let again : r ≡ Ok stored = reads_again schema bytes (Err f) few tt fault stored has.0 has.1 (λ (m : r ≡ Err Memory). named (cc)) in
    absurd (cc)

-- a reader whose answer is a row of the bytes or their fault answers by the row that is found in them
pub reads_row : (schema : List Storage) (bytes : List ℕ) (r : Result Stored TupleFault) → length schema ≤ 8 → IfOk r (λ t. HasTuple schema t × (bytes ≡ tuple schema t)) → IfErr r (IsFault schema bytes)
    → MatchResult r (λ t. stored_in schema bytes ≡ Some t) (λ f. f ≢ Memory → stored_in schema bytes ≡ None)
reads_row schema bytes (Ok stored) few found fault = ap (stored_in schema) found.1 ∙ stored_read schema stored few found.0
reads_row schema bytes (Err f) few found fault = λ named. none_by schema bytes f (stored_in schema bytes) few fault named refl
