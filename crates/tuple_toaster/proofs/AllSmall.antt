-- How large a row's tuple is at most, whatever goes out of line.
use Rattle.std.proofs.Common.{arith}
use Rattle.std.proofs.lemmas.Bool.Decides.{nat_tests}
use Rattle.std.proofs.lemmas.List.Elements.{All-head, All-tail}
use Rattle.std.specs.List.{All, list_any}
use Rattle.std.specs.Prelude.{Bool, List, [], false, length, true, ℕ, ◌*◌, ◌+◌, ◌<◌, ◌∷◌, ◌≡◌, ◌≤◌, if◌then◌else◌}
use Rattle.tuple_layout.specs.Schemas.{HasColumns}
use Rattle.tuple_layout.specs.Sizes.{Outside, column_end, data_end_from, header_size, inline_end, is_missing}
use Rattle.tuple_layout.specs.Tuples.{IsWithinLimits, cell_width, cell_widths}
use Rattle.tuple_layout.specs.declared.Storage.{Storage}
use Rattle.tuple_layout.specs.declared.Storage.TheVariants.{External, Plain}
use Rattle.tuple_layout.specs.declared.cell.Cell.{Cell}
use Rattle.tuple_layout.specs.declared.cell.Cell.TheVariants.{Inline, Null, Out}
use Rattle.tuple_toaster.specs.Pushed.{all_moved_size, eligible, is_among, moved, moved_from, width_besides}

inline_most : (storage : Storage) (at n : ℕ) → n ≤ 65536 → inline_end storage at n ≤ at + 65543
inline_most Plain at n most = omega (arith, most)
inline_most External at n most = grind (arith, nat_tests, most)

-- a column, out of line or not
column_most : (storage : Storage) (at : ℕ) (cell : Cell) (out : Bool) → IsWithinLimits cell → column_end storage at (if out then Outside else cell_width cell) ≤ at + 65543
column_most storage at cell true limit = omega arith
column_most storage at Null false limit = omega arith
column_most storage at (Inline value) false limit = inline_most storage at (length value) limit
column_most storage at (Out pointer) false limit = omega arith

data_most : (n at : ℕ) (out : List ℕ) (storages : List Storage) (cells : List Cell) → All IsWithinLimits cells → data_end_from at storages (moved_from n out (cell_widths cells)) ≤ at + 65543 * length cells
data_most n at out [] cells limits = omega arith
data_most n at out (storage ∷ storages) [] limits = omega arith
data_most n at out (storage ∷ storages) (cell ∷ cells) limits =
    let here = column_most storage at cell (is_among out n) (All-head IsWithinLimits cell cells limits) in
    let rest = data_most (n + 1) (column_end storage at (width_besides out n (cell_width cell))) out storages cells (All-tail IsWithinLimits cell cells limits) in
    omega (arith, here, rest)

header_most : (columns : ℕ) (has_null : Bool) → columns ≤ 9 → header_size columns has_null ≤ 32
header_most columns true few = omega (arith, few)
header_most columns false few = omega arith

-- it is a number of 32 bits
pub size_small : (storages : List Storage) (cells : List Cell) → HasColumns (length storages) → length cells ≡ length storages → All IsWithinLimits cells → all_moved_size storages (cell_widths cells) < 1000000
size_small storages cells columns one_each limits =
    let few = columns.1 in
    let same = one_each in
    let head = header_most (length storages + 1) (list_any is_missing (moved (eligible storages (cell_widths cells)) (cell_widths cells))) (omega (arith, few)) in
    let rest = data_most 1 8 (eligible storages (cell_widths cells)) storages cells limits in
    omega (arith, few, same, head, rest)
