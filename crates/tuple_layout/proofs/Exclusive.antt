-- What stands in the data is determined by them: a cell, and the cells of the first columns.
use Rattle.std.proofs.Common.{◌≡◌, ℕ, suc, ◌+◌, ◌<◌, ◌≤◌, Bool, true, List, [], ◌∷◌, ◌++◌, length, take, drop, get_or, refl, sym, ap, subst, ◌∙◌, append_assoc, arith, inl, inr}
use Rattle.std.specs.List.{All}
use Rattle.std.proofs.lemmas.List.{append_cancel_left, append-nil, length-append, drop_more, get_or_at}
use Rattle.std.proofs.lemmas.List.Elements.{All-head, All-tail, All-get_or}
use Rattle.std.proofs.lemmas.Bool.{cases_lt}
use Rattle.varlena_form.specs.Spelling.{short, plain, compressed, external, plain_form, BeginsWith}
use Rattle.varlena_form.proofs.Only.{one_datum, one_spelling}
use Rattle.external_pointer.specs.declared.external.Pointer.{Pointer}
use Rattle.external_pointer.specs.declared.fault.PointerFault.TheVariants.{Compressed as CompressedOut}
use Rattle.external_pointer.specs.Spelling.{pointer_bytes}
use Rattle.external_pointer.specs.Fault.{IsFault as IsPointerFault}
use Rattle.external_pointer.proofs.Spelled.{one_pointer, no_fault}
use Rattle.tuple_layout.specs.declared.Storage.{Storage}
use Rattle.tuple_layout.specs.declared.Storage.TheVariants.{Plain}
use Rattle.tuple_layout.specs.declared.cell.Cell.{Cell}
use Rattle.tuple_layout.specs.declared.cell.Cell.TheVariants.{Null, Inline, Out}
use Rattle.tuple_layout.specs.Sizes.{column_end, data_end_from}
use Rattle.tuple_layout.specs.Tuples.{cell_width, cell_widths, cell_bytes, data_from, padding, HasForm, is_there}
use Rattle.tuple_layout.specs.Faults.{StandsFirst, NoneStands, IsCompressed, HoldsCompressed, PointsToCompressed, HoldsCells, bitmap_in, is_present, end_of, next_storage}
use Rattle.tuple_layout.proofs.CellLemmas.{OddCell, as_short, as_out, odd_cell, EvenCell, even_cell, points_begin, odd_compressed, even_points, parity}
use Rattle.tuple_layout.proofs.ColumnLemmas.{data_from-nil, end-nil}

-- ---- one cell

one_external : (a b : List ℕ) → external a ≡ external b → a ≡ b
one_external a b e = cc

one_short : (a b : List ℕ) → short a ≡ short b → a ≡ b
one_short a b e = cc

one_plain : (a b : List ℕ) → plain a ≡ plain b → a ≡ b
one_plain a b e = cc

odd_same : (s : Storage) (rest : List ℕ) (x y : Cell) (a b : List ℕ) → OddCell s rest x a → OddCell s rest y b → (x ≡ y) × (a ≡ b)
odd_same s rest x y a b (as_short v x-is k h front) (as_short w y-is k' h' front') =
    let both = one_spelling (short v) (short w) a b h.fits h'.fits (sym front ∙ front') in
    (x-is ∙ ap (λ (z : List ℕ). Inline z) (one_short v w both.0) ∙ sym y-is, both.1)
odd_same s rest x y a b (as_short v x-is k h front) (as_out q y-is k' h' front') =
    let both = one_spelling (short v) (external (pointer_bytes q)) a b h.fits h'.fits (sym front ∙ front') in
    absurd (cc (both.0))
odd_same s rest x y a b (as_out p x-is k h front) (as_short w y-is k' h' front') =
    let both = one_spelling (external (pointer_bytes p)) (short w) a b h.fits h'.fits (sym front ∙ front') in
    absurd (cc (both.0))
odd_same s rest x y a b (as_out p x-is k h front) (as_out q y-is k' h' front') =
    let both = one_spelling (external (pointer_bytes p)) (external (pointer_bytes q)) a b h.fits h'.fits (sym front ∙ front') in
    (x-is ∙ ap (λ (z : Pointer). Out z) (one_pointer p q k k' (one_external _ _ both.0)) ∙ sym y-is, both.1)

even_same : (s : Storage) (at : ℕ) (rest : List ℕ) (x y : Cell) (a b : List ℕ) → EvenCell s at rest x a → EvenCell s at rest y b → (x ≡ y) × (a ≡ b)
even_same s at rest x y a b h k =
    let bodies : plain_form h.value ++ a ≡ plain_form k.value ++ b = append_cancel_left (padding at) _ _ (sym h.padded ∙ k.padded) in
    let both = one_spelling (plain h.value) (plain k.value) a b h.begins.fits k.begins.fits bodies in
    (h.is ∙ ap (λ (z : List ℕ). Inline z) (one_plain h.value k.value both.0) ∙ sym k.is, both.1)

-- one cell stands at the front
pub one_cell : (s : Storage) (at : ℕ) (rest : List ℕ) (x y : Cell) (a b : List ℕ) → StandsFirst s at rest x a → StandsFirst s at rest y b → (x ≡ y) × (a ≡ b)
one_cell s at rest x y a b h k = elim (parity rest) [
  | inl even ↦ even_same s at rest x y a b (even_cell s at rest x a even h) (even_cell s at rest y b even k)
  | inr odd ↦ odd_same s rest x y a b (odd_cell s at rest x a odd h) (odd_cell s at rest y b odd k)
]

odd_points : (s : Storage) (rest : List ℕ) (x : Cell) (a : List ℕ) → OddCell s rest x a → PointsToCompressed rest → ⊥
odd_points s rest x a (as_short v x-is k h front) points =
    let same : short v ≡ external (take 18 rest) = (one_datum rest _ _ _ _ h (points_begin rest points)).0 in
    cc
odd_points s rest x a (as_out p x-is k h front) points =
    let same : pointer_bytes p ≡ take 18 rest = one_external _ _ (one_datum rest _ _ _ _ h (points_begin rest points)).0 in
    no_fault p (CompressedOut points.raw_size points.ext_info) k (subst (λ (z : List ℕ). IsPointerFault z (CompressedOut points.raw_size points.ext_info)) (sym same) points.fault)

even_holds : (s : Storage) (at : ℕ) (rest : List ℕ) (x : Cell) (a : List ℕ) → EvenCell s at rest x a → HoldsCompressed at rest → ⊥
even_holds s at rest x a h held =
    let bodies : plain_form h.value ++ a ≡ held.tail = append_cancel_left (padding at) _ _ (sym h.padded ∙ held.padded) in
    let begins = subst (λ (z : List ℕ). BeginsWith z (plain h.value) (length (plain_form h.value))) bodies h.begins in
    let same : plain h.value ≡ compressed held.payload = (one_datum held.tail _ _ _ _ begins held.begins).0 in
    cc

-- no compressed value stands where a cell does
pub cell_not_compressed : (s : Storage) (at : ℕ) (rest : List ℕ) (x : Cell) (a : List ℕ) → StandsFirst s at rest x a → IsCompressed at rest → ⊥
cell_not_compressed s at rest x a h packed = elim (parity rest) [
  | inl even ↦ elim packed [
    | inl held ↦ even_holds s at rest x a (even_cell s at rest x a even h) held
    | inr points ↦ even_points rest even points
  ]
  | inr odd ↦ elim packed [
    | inl held ↦ odd_compressed at rest odd held
    | inr points ↦ odd_points s rest x a (odd_cell s at rest x a odd h) points
  ]
]

-- the same of a column, null or not
same_column : (s : Storage) (at : ℕ) (x y : Cell) (a b : List ℕ) → HasForm x → HasForm y → is_there (cell_width x) ≡ is_there (cell_width y) → cell_bytes s at x ++ a ≡ cell_bytes s at y ++ b → (x ≡ y) × (a ≡ b)
same_column s at Null Null a b f g same e = (refl, e)
same_column s at Null (Inline v) a b f g same e = absurd (cc (same))
same_column s at Null (Out q) a b f g same e = absurd (cc (same))
same_column s at (Inline v) Null a b f g same e = absurd (cc (same))
same_column s at (Inline v) y a b f g same e =
    one_cell s at (cell_bytes s at (Inline v) ++ a) (Inline v) y a b (record { there = refl; form = f; front = refl }) (record { there = sym same; form = g; front = e })
same_column s at (Out p) y a b f g same e =
    one_cell s at (cell_bytes s at (Out p) ++ a) (Out p) y a b (record { there = refl; form = f; front = refl }) (record { there = sym same; form = g; front = e })

-- ---- the first columns

-- the cells of fewer columns begin those of more
pub record Begins (at : ℕ) (schema : List Storage) (xs ys : List Cell) (a b : List ℕ) : Type 0 where
  pub more : List Cell
  pub cells : ys ≡ xs ++ more
  pub rest : a ≡ data_from (data_end_from at schema (cell_widths xs)) (drop (length xs) schema) more ++ b

pub one_beginning : (set : ℕ → Bool) (at : ℕ) (schema : List Storage) (xs ys : List Cell) (a b : List ℕ) → All HasForm xs → All HasForm ys
    → ((k : ℕ) (d : Cell) → k < length xs → is_there (cell_width (get_or xs k d)) ≡ set k) → ((k : ℕ) (d : Cell) → k < length ys → is_there (cell_width (get_or ys k d)) ≡ set k) → length xs ≤ length ys → length ys ≤ length schema
    → data_from at schema xs ++ a ≡ data_from at schema ys ++ b → Begins at schema xs ys a b
one_beginning set at schema [] ys a b f g nx ny le few e = record {
  more = ys;
  cells = refl;
  rest = ap (λ (z : List ℕ). z ++ a) (sym (data_from-nil at schema)) ∙ e ∙ ap (λ (n : ℕ). data_from n schema ys ++ b) (sym (end-nil at schema));
}
one_beginning set at schema (x ∷ xs) [] a b f g nx ny le few e = absurd (omega (arith, le))
one_beginning set at [] (x ∷ xs) (y ∷ ys) a b f g nx ny le few e = absurd (omega (arith, few))
one_beginning set at (s ∷ ss) (x ∷ xs) (y ∷ ys) a b f g nx ny le few e =
    let first = same_column s at x y (data_from (column_end s at (cell_width x)) ss xs ++ a) (data_from (column_end s at (cell_width y)) ss ys ++ b) (All-head HasForm x xs f) (All-head HasForm y ys g) (nx 0 x (omega arith) ∙ sym (ny 0 y (omega arith)))
    (sym (append_assoc (cell_bytes s at x) (data_from (column_end s at (cell_width x)) ss xs) a) ∙ e ∙ append_assoc (cell_bytes s at y) (data_from (column_end s at (cell_width y)) ss ys) b) in
    let rests = first.1 ∙ ap (λ (z : Cell). data_from (column_end s at (cell_width z)) ss ys ++ b) (sym first.0) in
    let others = one_beginning (λ k. set (suc k)) (column_end s at (cell_width x)) ss xs ys a b (All-tail HasForm x xs f) (All-tail HasForm y ys g) (λ k d h. nx (suc k) d (omega (arith, h))) (λ k d h. ny (suc k) d (omega (arith, h))) (omega (arith, le)) (omega (arith, few)) rests in
    record {
      more = others.more;
      cells = ap (λ (z : Cell). z ∷ ys) (sym first.0) ∙ ap (λ (zs : List Cell). x ∷ zs) others.cells;
      rest = others.rest;
    }

-- ---- where reading stops

-- all columns are there, or no cell stands at the next
pub record Stops (schema : List Storage) (bytes : List ℕ) (cells : List Cell) (rest : List ℕ) : Type 0 where
  pub holds : HoldsCells schema bytes cells rest
  pub last : length cells < length schema → (is_present (bitmap_in bytes) (length cells + 1) ≡ true) × NoneStands (next_storage schema cells) (end_of schema cells) rest

goes_further : (schema : List Storage) (bytes : List ℕ) (xs more : List Cell) (y : Cell) (a b : List ℕ) → Stops schema bytes xs a → HoldsCells schema bytes (xs ++ y ∷ more) b
    → a ≡ data_from (end_of schema xs) (drop (length xs) schema) (y ∷ more) ++ b → ⊥
goes_further schema bytes xs more y a b stops holds rest =
    let longer : length xs < length schema = omega (arith, length-append xs (y ∷ more), holds.few) in
    let last = stops.last longer in
    let s = next_storage schema xs in
    let at = end_of schema xs in
    let ss = drop (length xs + 1) schema in
    let within : length xs < length (xs ++ y ∷ more) = omega (arith, length-append xs (y ∷ more)) in
    let here : get_or (xs ++ y ∷ more) (length xs) y ≡ y = get_or_at xs y more y (length xs) refl in
    let after = data_from (column_end s at (cell_width y)) ss more ++ b in
    let split : a ≡ cell_bytes s at y ++ after =
    rest ∙ ap (λ (z : List Storage). data_from at z (y ∷ more) ++ b) (drop_more schema (length xs) Plain longer) ∙ append_assoc (cell_bytes s at y) (data_from (column_end s at (cell_width y)) ss more) b in
    last.1 y after (record {
      there = ap (λ (z : Cell). is_there (cell_width z)) (sym here) ∙ holds.nulls (length xs) y within ∙ last.0;
      form = subst HasForm here (All-get_or HasForm (xs ++ y ∷ more) (length xs) y within holds.forms);
      front = split;
    })

same_stop_by : (schema : List Storage) (bytes : List ℕ) (xs ys more : List Cell) (a b : List ℕ) → Stops schema bytes xs a → HoldsCells schema bytes ys b → ys ≡ xs ++ more → a ≡ data_from (end_of schema xs) (drop (length xs) schema) more ++ b → (xs ≡ ys) × (a ≡ b)
same_stop_by schema bytes xs ys [] a b stops holds cells rest = (sym (append-nil xs) ∙ sym cells, rest ∙ ap (λ (z : List ℕ). z ++ b) (data_from-nil (end_of schema xs) (drop (length xs) schema)))
same_stop_by schema bytes xs ys (y ∷ more) a b stops holds cells rest = absurd (goes_further schema bytes xs more y a b stops (subst (λ (zs : List Cell). HoldsCells schema bytes zs b) cells holds) rest)

same_stop_le : (schema : List Storage) (bytes : List ℕ) (xs ys : List Cell) (a b : List ℕ) → Stops schema bytes xs a → HoldsCells schema bytes ys b → length xs ≤ length ys → (xs ≡ ys) × (a ≡ b)
same_stop_le schema bytes xs ys a b stops holds le =
    let x = stops.holds in
    let found = one_beginning (λ k. is_present (bitmap_in bytes) (k + 1)) 8 schema xs ys a b x.forms holds.forms x.nulls holds.nulls le holds.few (sym x.behind_key ∙ holds.behind_key) in
    same_stop_by schema bytes xs ys found.more a b stops holds found.cells found.rest

-- reading stops at one place
pub one_stop : (schema : List Storage) (bytes : List ℕ) (xs ys : List Cell) (a b : List ℕ) → Stops schema bytes xs a → Stops schema bytes ys b → (xs ≡ ys) × (a ≡ b)
one_stop schema bytes xs ys a b h k = elim (cases_lt (length ys) (length xs)) [
  | inl lt ↦
      let back = same_stop_le schema bytes ys xs b a k h.holds (omega arith) in
      (sym back.0, sym back.1)
  | inr le ↦ same_stop_le schema bytes xs ys a b h k.holds le
]
