-- A row whose tuple fits a page has no value in line that is too long for it.
use Rattle.std.proofs.Common.{ap, arith, refl}
use Rattle.std.proofs.lemmas.Bool.{le-ltb, ltb-true}
use Rattle.std.proofs.lemmas.List.Sums.{sum_by-cons}
use Rattle.std.specs.List.{list_any}
use Rattle.std.specs.Prelude.{Bool, List, [], false, if◌then◌else◌, length, nat_le, nat_lt, slice_index_or, suc, true, zero, ℕ, ⊤, ◌*◌, ◌+◌, ◌<◌, ◌∷◌, ◌≡◌, ◌≤◌}
use Rattle.tuple_layout.specs.Sizes.{Missing, Outside, Width, Within, aligned, column_end, data_end_from, header_size, inline_end, is_missing, is_short, largest_tuple, longest_short}
use Rattle.tuple_layout.specs.Tuples.{cell_width, cell_widths, row_size}
use Rattle.tuple_layout.specs.declared.Storage.{Storage}
use Rattle.tuple_layout.specs.declared.Storage.TheVariants.{External, Plain}
use Rattle.tuple_layout.specs.declared.cell.Cell.{Cell}
use Rattle.tuple_layout.specs.declared.cell.Cell.TheVariants.{Inline, Null, Out}
use Rattle.core_counts.specs.Counts.{is_long, longest_inline, pieces_between}
use Rattle.core_counts.specs.Least.{inline_least, inlines_least}

-- a value in line is one that a tuple can hold
abbrev pub IsShortCell : Cell → Type 0
IsShortCell Null = ⊤
IsShortCell (Inline value) = length value ≤ longest_inline
IsShortCell (Out pointer) = ⊤

abbrev pub AreShortCells : List Cell → Type 0
AreShortCells [] = ⊤
AreShortCells (cell ∷ cells) = IsShortCell cell × AreShortCells cells

-- ---- where the data end

aligned_later : (at : ℕ) → at ≤ aligned at
aligned_later at = omega arith

inline_later : (storage : Storage) (at n : ℕ) → at ≤ inline_end storage at n
inline_later storage at n = by (is_short storage n)
  where
    by : (b : Bool) → at ≤ (if b then at + 1 + n else aligned at + 4 + n)
    by true = omega arith
    by false =
        let later = aligned_later at in
        omega (arith, later)

column_later : (storage : Storage) (at : ℕ) (w : Width) → at ≤ column_end storage at w
column_later storage at Missing = omega arith
column_later storage at (Within n) = inline_later storage at n
column_later storage at Outside = omega arith

data_later : (storages : List Storage) (ws : List Width) (at : ℕ) → at ≤ data_end_from at storages ws
data_later [] ws at = omega arith
data_later (storage ∷ storages) [] at = omega arith
data_later (storage ∷ storages) (w ∷ ws) at =
    let here = column_later storage at w in
    let rest = data_later storages ws (column_end storage at w) in
    omega (arith, here, rest)

-- a long value has a header of four bytes
long_plain : (storage : Storage) (n : ℕ) → longest_inline < n → is_short storage n ≡ false
long_plain Plain n long = refl
long_plain External n long = by (nat_le n longest_short) refl
  where
    by : (b : Bool) → nat_le n longest_short ≡ b → b ≡ false
    by true is = absurd (grind (arith, is, long))
    by false is = refl

long_end : (storage : Storage) (at n : ℕ) → longest_inline < n → at + 4 + n ≤ inline_end storage at n
long_end storage at n long =
    let plain : inline_end storage at n ≡ aligned at + 4 + n = ap (λ (b : Bool). if b then at + 1 + n else aligned at + 4 + n) (long_plain storage n long) in
    let later = aligned_later at in
    omega (arith, plain, later)

-- ---- a row

cell_short : (storage : Storage) (at : ℕ) (cell : Cell) (end : ℕ) → 8 ≤ at → column_end storage at (cell_width cell) ≤ end → end + 24 ≤ largest_tuple → IsShortCell cell
cell_short storage at Null end low before most = tt
cell_short storage at (Inline value) end low before most = by (nat_lt longest_inline (length value)) refl
  where
    by : (b : Bool) → nat_lt longest_inline (length value) ≡ b → length value ≤ longest_inline
    by true is =
        let long = long_end storage at (length value) (ltb-true longest_inline (length value) is) in
        omega (arith, long, low, before, most)
    by false is = grind (arith, is)
cell_short storage at (Out pointer) end low before most = tt

cells_short : (storages : List Storage) (cells : List Cell) (at : ℕ) → length cells ≡ length storages → 8 ≤ at → data_end_from at storages (cell_widths cells) + 24 ≤ largest_tuple → AreShortCells cells
cells_short storages [] at long low most = tt
cells_short [] (cell ∷ cells) at long low most = absurd (omega (arith, long))
cells_short (storage ∷ storages) (cell ∷ cells) at long low most =
    let next = column_end storage at (cell_width cell) in
    let here = column_later storage at (cell_width cell) in
    let rest = data_later storages (cell_widths cells) next in
    (cell_short storage at cell (data_end_from next storages (cell_widths cells)) low rest most, cells_short storages cells next (omega (arith, long)) (omega (arith, low, here)) most)

header_least : (columns : ℕ) (b : Bool) → 24 ≤ header_size columns b
header_least columns true = omega arith
header_least columns false = omega arith

pub fits_short : (storages : List Storage) (cells : List Cell) → length cells ≡ length storages → row_size storages cells ≤ largest_tuple → AreShortCells cells
fits_short storages cells long fits =
    let least = header_least (length storages + 1) (list_any is_missing (cell_widths cells)) in
    cells_short storages cells 8 long (omega arith) (omega (arith, least, fits))

-- ---- what it tells

pub short_value : (value : List ℕ) → length value ≤ longest_inline → is_long value ≡ false
short_value value short = le-ltb longest_inline (length value) short

pub short_inline : (cell : Cell) → IsShortCell cell → inline_least cell ≡ 0
short_inline Null is = refl
short_inline (Inline value) is = ap (λ (b : Bool). if b then 2 * pieces_between 0 (length value) + 1 else 0) (short_value value is)
short_inline (Out pointer) is = refl

pub short_inlines : (cells : List Cell) → AreShortCells cells → inlines_least cells ≡ 0
short_inlines [] are = refl
short_inlines (cell ∷ cells) are =
    let here = short_inline cell are.0 in
    let rest = short_inlines cells are.1 in
    let all = sum_by-cons inline_least cell cells in
    omega (arith, here, rest, all)

pub short_column : (cells : List Cell) (i : ℕ) → AreShortCells cells → IsShortCell (slice_index_or cells i Null)
short_column [] i are = tt
short_column (cell ∷ cells) zero are = are.0
short_column (cell ∷ cells) (suc i) are = short_column cells i are.1
