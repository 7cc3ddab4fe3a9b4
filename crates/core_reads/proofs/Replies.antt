-- What a read comes to that has not begun, where the values of its cells are whole: the values of the row, or a slice of one.
use Rattle.std.proofs.Common.{ap, arith, refl, ◌∙◌}
use Rattle.std.proofs.lemmas.List.{take_all}
use Rattle.std.specs.Option.{option_and_then, option_map}
use Rattle.std.specs.Prelude.{Contains, List, Option, Result, Some, [], length, map, pos, slice_index_or, suc, take, zero, ℕ, ℤ, ◌-◌, ◌∷◌, ◌≡◌}
use Rattle.std.specs.Result.{result_ok}
use Rattle.list_facts.proofs.Members.{first_in, later_in}
use Rattle.external_pointer.specs.declared.external.Pointer.{Pointer}
use Rattle.tuple_layout.specs.Places.{Row}
use Rattle.tuple_layout.specs.Slices.{slice}
use Rattle.tuple_layout.specs.declared.cell.Cell.{Cell}
use Rattle.tuple_layout.specs.declared.cell.Cell.TheVariants.{Inline, Null, Out}
use Rattle.tuple_layout.specs.declared.cell.Stored.{Stored}
use Rattle.slice_fetch.specs.Spans.{bytes_in}
use Rattle.slice_fetch.specs.declared.Span.{Span}
use Rattle.toast_store.proofs.Wholes.{outcome_whole}
use Rattle.toast_store.specs.Stores.{IsStore, Store}
use Rattle.toast_store.specs.Values.{Whole, value_in}
use Rattle.toast_store.specs.declared.fault.FetchFault.{FetchFault}
use Rattle.command_set.specs.declared.Reply.{Reply}
use Rattle.table_state.specs.Rows.{cell_value, pointers_in}
use Rattle.read_steps.specs.Columns.{IsWithin, whole_span}
use Rattle.read_steps.specs.Reads.{bytes_of, part_reply, row_of, row_reply, value_of}
use Rattle.toast_store.specs.Fetches.{new_fetch}
use Rattle.core_state.specs.Begun.{cell_size, span_of}
use Rattle.core_reads.proofs.Spans.{span_slice, span_within}
use Rattle.command_set.specs.declared.Reply.TheVariants as replies

-- the value of each pointer among some cells is whole
abbrev pub AreWhole : Store → List Cell → Type 0
AreWhole toast cells = (pointer : Pointer) → Contains (pointers_in cells) pointer → Whole toast pointer (value_in toast pointer)

first_whole : (toast : Store) (cell : Cell) (cells : List Cell) → AreWhole toast (cell ∷ cells) → AreWhole toast cells
first_whole toast Null cells whole = whole
first_whole toast (Inline value) cells whole = whole
first_whole toast (Out pointer) cells whole = λ other e. whole other (later_in pointer (pointers_in cells) other e)

-- the bytes of a span of a pointer's value
pub bytes_whole : (toast : Store) (s : ℕ) (pointer : Pointer) (span : Span) → IsStore toast → IsWithin span pointer.size → Whole toast pointer (value_in toast pointer)
    → bytes_of toast (new_fetch pointer span s) ≡ Some (bytes_in span (value_in toast pointer))
bytes_whole toast s pointer span store within whole = ap (λ (r : Result (List ℕ) FetchFault). result_ok r) (outcome_whole toast pointer span s (value_in toast pointer) within.ordered within.within store whole)

whole_bytes : (value : List ℕ) (size : ℕ) → size ≡ length value → take (size - 0) value ≡ value
whole_bytes value size same = take_all (size - 0) value (omega (arith, same))

value_whole : (toast : Store) (s : ℕ) (cell : Cell) (cells : List Cell) → IsStore toast → AreWhole toast (cell ∷ cells) → value_of toast s cell ≡ Some (cell_value toast cell)
value_whole toast s Null cells store whole = refl
value_whole toast s (Inline value) cells store whole = refl
value_whole toast s (Out pointer) cells store whole =
    let its = whole pointer (first_in pointer (pointers_in cells) pointer refl) in
    let within : IsWithin (whole_span pointer) pointer.size = record { ordered = omega arith; within = omega arith } in
    ap (λ (o : Option (List ℕ)). option_map (λ (bytes : List ℕ). Some bytes) o) (bytes_whole toast s pointer (whole_span pointer) store within its)
    ∙ ap (λ (bytes : List ℕ). Some (Some bytes)) (whole_bytes (value_in toast pointer) pointer.size its.size)

row_whole : (toast : Store) (s : ℕ) (cells : List Cell) → IsStore toast → AreWhole toast cells → row_of toast s cells ≡ Some (map (cell_value toast) cells)
row_whole toast s [] store whole = refl
row_whole toast s (cell ∷ cells) store whole =
    ap (λ (o : Option (Option (List ℕ))). option_and_then (λ (value : Option (List ℕ)). option_map (λ (row : Row). value ∷ row) (row_of toast s cells)) o) (value_whole toast s cell cells store whole)
    ∙ ap (λ (o : Option Row). option_map (λ (row : Row). cell_value toast cell ∷ row) o) (row_whole toast s cells store (first_whole toast cell cells whole))

-- a row comes to its values
pub row_comes : (toast : Store) (s : ℕ) (stored : Stored) → IsStore toast → AreWhole toast stored.cells → row_reply toast s stored ≡ Some (replies.Row stored.key (map (cell_value toast) stored.cells))
row_comes toast s stored store whole = ap (λ (o : Option Row). option_map (λ (row : Row). replies.Row stored.key row) o) (row_whole toast s stored.cells store whole)

-- the pointer of a column is among those of the row
pub pointer_of_column : (cells : List Cell) (at : ℕ) (pointer : Pointer) → slice_index_or cells at Null ≡ Out pointer → Contains (pointers_in cells) pointer
pointer_of_column [] at pointer e = absurd (cc)
pointer_of_column (Null ∷ cells) zero pointer e = absurd (cc)
pointer_of_column (Inline value ∷ cells) zero pointer e = absurd (cc)
pointer_of_column (Out other ∷ cells) zero pointer e =
    let is : other ≡ pointer = cc in
    first_in other (pointers_in cells) pointer is
pointer_of_column (Null ∷ cells) (suc at) pointer e = pointer_of_column cells at pointer e
pointer_of_column (Inline value ∷ cells) (suc at) pointer e = pointer_of_column cells at pointer e
pointer_of_column (Out other ∷ cells) (suc at) pointer e = later_in other (pointers_in cells) pointer (pointer_of_column cells at pointer e)

-- what a part comes to: a slice of the column's value, or null
abbrev pub part_due : Store → ℕ → ℤ → Cell → Reply
part_due toast offset len Null = replies.Null
part_due toast offset len (Inline value) = replies.Bytes (slice value (pos offset) len)
part_due toast offset len (Out pointer) = replies.Bytes (slice (value_in toast pointer) (pos offset) len)

pub part_comes : (toast : Store) (s : ℕ) (cell : Cell) (offset : ℕ) (len : ℤ) → IsStore toast → ((pointer : Pointer) → cell ≡ Out pointer → Whole toast pointer (value_in toast pointer))
    → part_reply toast s (span_of (cell_size cell) (pos offset) len) cell ≡ Some (part_due toast offset len cell)
part_comes toast s Null offset len store whole = refl
part_comes toast s (Inline value) offset len store whole = ap (λ (bytes : List ℕ). Some (replies.Bytes bytes)) (span_slice value (length value) offset len refl)
part_comes toast s (Out pointer) offset len store whole =
    let its = whole pointer refl in
    ap (λ (o : Option (List ℕ)). option_map (λ (bytes : List ℕ). replies.Bytes bytes) o) (bytes_whole toast s pointer (span_of pointer.size (pos offset) len) store (span_within pointer.size offset len) its)
    ∙ ap (λ (bytes : List ℕ). Some (replies.Bytes bytes)) (span_slice (value_in toast pointer) pointer.size offset len its.size)
