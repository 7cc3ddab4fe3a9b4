-- The data of a tuple, column by column.
use Rattle.std.proofs.Common.{◌≡◌, ℕ, ◌+◌, ◌*◌, ◌<◌, true, false, Bool, List, [], ◌∷◌, ◌||◌, length, drop, get_or, map, refl, sym, ap, ◌∙◌, arith, min}
use Rattle.std.specs.List.{list_any}
use Rattle.std.proofs.lemmas.List.{drop_more, drop_all}
use Rattle.tuple_layout.specs.declared.Storage.{Storage}
use Rattle.tuple_layout.specs.declared.cell.Cell.{Cell}
use Rattle.tuple_layout.specs.Sizes.{data_end_from, header_size, is_missing}
use Rattle.std.specs.Prelude.{if◌then◌else◌, not}
use Rattle.std.specs.Int.{from_bool}
use Rattle.tuple_layout.specs.Tuples.{cell_width, cell_widths, row_size, is_there, number_of_bits}

-- a test of what is made of each element
pub list_any_of_map : {X Y : Type 0} (p : Y → Bool) (f : X → Y) (xs : List X) → list_any p (map f xs) ≡ list_any (λ x. p (f x)) xs
list_any_of_map p f [] = refl
list_any_of_map p f (x ∷ xs) = ap (λ rest. p (f x) || rest) (list_any_of_map p f xs)

-- the end after all columns
pub end_all : (schema : List Storage) (cells : List Cell) (n at : ℕ) → length cells ≡ length schema → n ≡ min (length schema) (length cells)
    → data_end_from at (drop n schema) (cell_widths (drop n cells)) ≡ data_end_from 8 schema (cell_widths cells)
    → data_end_from 8 schema (cell_widths cells) ≡ at
end_all schema cells n at len all rest =
    let none : drop n schema ≡ [] = drop_all n schema (omega arith) in
    sym rest ∙ rw none refl

-- the size, from what is computed of it
pub size_is : (schema : List Storage) (cells : List Cell) (start end : ℕ) (null : Bool) → length cells ≡ length schema → null ≡ list_any is_missing (cell_widths cells)
    → start ≡ header_size (length cells + 1) null → data_end_from 8 schema (cell_widths cells) ≡ end → start + end ≡ row_size schema cells
size_is schema cells start end null len null-is start-is end-is = rw (start-is, null-is, len, ← end-is) refl

regroup : (bits bit k t : ℕ) → (bits + bit * k) + bit * 2 * t ≡ bits + bit * (k + 2 * t)
regroup bits bit k t = omega arith

-- the bit of one more column
pub bits_more : (bits bit n total : ℕ) (cells : List Cell) (c : Cell) → n < length cells → c ≡ get_or cells n c
    → bits + bit * number_of_bits (map is_there (cell_widths (drop n cells))) ≡ total
    → (bits + bit * (if is_there (cell_width c) then 1 else 0)) + bit * 2 * number_of_bits (map is_there (cell_widths (drop (n + 1) cells))) ≡ total
bits_more bits bit n total cells c h c-is rest =
    let split : drop n cells ≡ c ∷ drop (n + 1) cells = drop_more cells n c h ∙ ap (λ (x : Cell). x ∷ drop (n + 1) cells) (sym c-is) in
    let all : bits + bit * ((if is_there (cell_width c) then 1 else 0) + 2 * number_of_bits (map is_there (cell_widths (drop (n + 1) cells)))) ≡ total = rw split at rest in
    regroup bits bit (if is_there (cell_width c) then 1 else 0) (number_of_bits (map is_there (cell_widths (drop (n + 1) cells)))) ∙ all

-- what a bit adds
pub bit_adds : (bits bit : ℕ) (b : Bool) → bits < bit → bits + bit * (if b then 1 else 0) < bit * 2
bit_adds bits bit true h = omega arith
bit_adds bits bit false h = omega arith

-- a bit as a number
pub bit_is : (r : ℕ) (b missing : Bool) → r ≡ from_bool (not b) → b ≡ missing → r ≡ (if not missing then 1 else 0)
bit_is r b true e q = rw q at e
bit_is r b false e q = rw q at e
