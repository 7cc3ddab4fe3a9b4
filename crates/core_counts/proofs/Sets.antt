-- The values that are set stand in the new row, each in its own column.
use Rattle.std.proofs.Common.{ap, arith, refl, ◌∙◌}
use Rattle.std.proofs.lemmas.Bool.Decides.{nat_tests}
use Rattle.std.proofs.lemmas.List.Sums.{sum_by-cons}
use Rattle.std.proofs.lemmas.List.{length-set}
use Rattle.std.specs.List.{AllByRecursion, IsDistinct, enumerate_from}
use Rattle.std.specs.Option.{option_map_or}
use Rattle.std.specs.Prelude.{Bool, Contains, List, None, Option, Some, [], false, if◌then◌else◌, length, map, nat_eq, slice_set, suc, true, zero, ℕ, ◌+◌, ◌-◌, ◌<◌, ◌==◌, ◌∷◌, ◌≡◌, ◌≤◌}
use Rattle.list_facts.proofs.Members.{first_in, later_in}
use Rattle.tuple_layout.specs.declared.cell.Cell.{Cell}
use Rattle.tuple_layout.specs.declared.cell.Cell.TheVariants.{Null}
use Rattle.command_set.specs.Plain.{value_set}
use Rattle.command_set.specs.declared.Set.{Set}
use Rattle.core_state.specs.Begun.{cell_in_line}
use Rattle.core_counts.specs.Counts.{save_turns, set_turns, turns_of}
use Rattle.core_counts.specs.Least.{inline_least, inlines_least}

-- a cell of a column once these are set, and the cells of the columns from one on
abbrev pub cell_set : List Set → ℕ → Cell → Cell
cell_set sets column cell = option_map_or cell_in_line (value_set sets column) cell

abbrev pub cells_from : ℕ → List Cell → List Set → List Cell
cells_from n cells sets = map (λ (column, cell). cell_set sets column cell) (enumerate_from n cells)

-- a value in line counts what it counts where it is set
value_counts : (value : Option (List ℕ)) → inline_least (cell_in_line value) ≡ turns_of save_turns value
value_counts None = refl
value_counts (Some value) = refl

-- a set of a column counts there, and nowhere else
other_column : (s : Set) (sets : List Set) (n : ℕ) (cell : Cell) → (s.column == n) ≡ false → cell_set (s ∷ sets) n cell ≡ cell_set sets n cell
other_column s sets n cell differ = ap (λ (b : Bool). option_map_or cell_in_line (if b then Some s.value else value_set sets n) cell) differ

past : (s : Set) (sets : List Set) (n : ℕ) (cells : List Cell) → s.column < n → inlines_least (cells_from n cells (s ∷ sets)) ≡ inlines_least (cells_from n cells sets)
past s sets n [] before = refl
past s sets n (cell ∷ cells) before =
    let differ : (s.column == n) ≡ false = grind (arith, nat_tests) in
    let here = ap inline_least (other_column s sets n cell differ) in
    let rest = past s sets (n + 1) cells (omega (arith, before)) in
    let all = sum_by-cons inline_least (cell_set (s ∷ sets) n cell) (cells_from (n + 1) cells (s ∷ sets)) in
    let others = sum_by-cons inline_least (cell_set sets n cell) (cells_from (n + 1) cells sets) in
    omega (arith, here, rest, all, others)

placed : (s : Set) (sets : List Set) (n : ℕ) (cells : List Cell) (k : ℕ) → s.column ≡ n + k → k < length cells → value_set sets s.column ≡ None
    → inlines_least (cells_from n cells (s ∷ sets)) ≡ turns_of save_turns s.value + inlines_least (cells_from n (slice_set cells k Null) sets)
placed s sets n [] k at within unset = absurd (omega (arith, within))
placed s sets n (cell ∷ cells) zero at within unset =
    let same : (s.column == n) ≡ true = grind (arith, nat_tests) in
    let here : inline_least (cell_set (s ∷ sets) n cell) ≡ turns_of save_turns s.value = ap (λ (b : Bool). inline_least (option_map_or cell_in_line (if b then Some s.value else value_set sets n) cell)) same ∙ value_counts s.value in
    let none : value_set sets n ≡ None = ap (value_set sets) (omega (arith, at)) ∙ unset in
    let null : inline_least (cell_set sets n Null) ≡ 0 = ap (λ (o : Option (Option (List ℕ))). inline_least (option_map_or cell_in_line o Null)) none in
    let rest = past s sets (n + 1) cells (omega (arith, at)) in
    let all = sum_by-cons inline_least (cell_set (s ∷ sets) n cell) (cells_from (n + 1) cells (s ∷ sets)) in
    let others = sum_by-cons inline_least (cell_set sets n Null) (cells_from (n + 1) cells sets) in
    omega (arith, here, null, rest, all, others)
placed s sets n (cell ∷ cells) (suc k) at within unset =
    let differ : (s.column == n) ≡ false = grind (arith, nat_tests) in
    let here = ap inline_least (other_column s sets n cell differ) in
    let rest = placed s sets (n + 1) cells k (omega (arith, at)) (omega (arith, within)) unset in
    let all = sum_by-cons inline_least (cell_set (s ∷ sets) n cell) (cells_from (n + 1) cells (s ∷ sets)) in
    let others = sum_by-cons inline_least (cell_set sets n cell) (cells_from (n + 1) (slice_set cells k Null) sets) in
    omega (arith, here, rest, all, others)

-- a column that these do not set
unset_by : (sets : List Set) (column : ℕ) → AllByRecursion (λ (y : ℕ). nat_eq column y ≡ false) (map (λ (set : Set). set.column) sets) → value_set sets column ≡ None
unset_by [] column none = refl
unset_by (s ∷ sets) column none =
    let differ : (s.column == column) ≡ false = grind (arith, nat_tests, none.0) in
    ap (λ (b : Bool). if b then Some s.value else value_set sets column) differ ∙ unset_by sets column none.1

-- each set is of one of these columns
abbrev pub AreWithin : ℕ → ℕ → List Set → Type 0
AreWithin n count sets = (set : Set) → Contains sets set → (n ≤ set.column) × (set.column < n + count)

pub sets_least : (sets : List Set) (n : ℕ) (cells : List Cell) → AreWithin n (length cells) sets → IsDistinct nat_eq (map (λ (set : Set). set.column) sets) → set_turns sets ≤ inlines_least (cells_from n cells sets)
unfolding IsDistinct
sets_least [] n cells within once = omega arith
sets_least (s ∷ sets) n cells within once =
    let bounds = within s (first_in s sets s refl) in
    let k : ℕ = s.column - n in
    let at : s.column ≡ n + k = omega (arith, bounds.0) in
    let long : length (slice_set cells k Null) ≡ length cells = length-set cells k Null in
    let here = placed s sets n cells k at (omega (arith, bounds.0, bounds.1)) (unset_by sets s.column once.0) in
    let rest = sets_least sets n (slice_set cells k Null) (λ set e. let its = within set (later_in s sets set e) in (its.0, omega (arith, its.1, long))) once.1 in
    let all = sum_by-cons (λ (set : Set). turns_of save_turns set.value) s sets in
    omega (arith, here, rest, all)
