-- What the plain store counts of values is at most what the core's cells count.
use Rattle.std.proofs.Common.{ap, arith, refl, ◌∙◌}
use Rattle.std.proofs.lemmas.Bool.{le-ltb, ltb-true}
use Rattle.std.proofs.lemmas.List.Sums.{sum_by-cons}
use Rattle.std.proofs.lemmas.List.{length-drop, length-take}
use Rattle.std.specs.Option.{unwrap_or}
use Rattle.std.specs.Prelude.{Bool, List, None, Option, Some, [], drop, false, if◌then◌else◌, length, map, min, nat_lt, negsuc, pos, slice_get, slice_index_or, suc, true, unsigned_abs, zero, ℕ, ℤ, ◌&&◌, ◌+◌, ◌-◌, ◌∷◌, ◌≡◌, ◌≤◌}
use Rattle.list_facts.proofs.Members.{first_in, later_in}
use Rattle.external_pointer.specs.declared.external.Pointer.{Pointer}
use Rattle.tuple_layout.specs.Places.{Row}
use Rattle.tuple_layout.specs.Slices.{slice}
use Rattle.tuple_layout.specs.declared.cell.Cell.{Cell}
use Rattle.tuple_layout.specs.declared.cell.Cell.TheVariants.{Inline, Null, Out}
use Rattle.slice_fetch.specs.Spans.{bytes_in}
use Rattle.slice_fetch.specs.declared.Span.{Span}
use Rattle.toast_store.specs.Stores.{Store}
use Rattle.toast_store.specs.Values.{Whole, value_in}
use Rattle.table_state.specs.Rows.{cell_value, pointers_in}
use Rattle.table_state.specs.declared.table.Table.{Table}
use Rattle.read_steps.specs.Reads.{stage_held}
use Rattle.read_steps.specs.declared.wanted.Held.{Held}
use Rattle.core_state.specs.Begun.{cell_in_line, cell_size, held_size, span_of}
use Rattle.core_state.specs.State.{table_at}
use Rattle.core_state.specs.Views.{held_value}
use Rattle.core_reads.proofs.Replies.{AreWhole}
use Rattle.core_reads.proofs.Spans.{span_slice, span_within}
use Rattle.core_counts.proofs.Sizes.{AreShortCells, IsShortCell, short_value}
use Rattle.core_counts.specs.Counts.{is_long, pieces_between, read_turns, row_turns, save_turns, slice_turns, turns_of, whole_turns}
use Rattle.core_counts.specs.Least.{IsShort, cell_least, cells_least, inline_least, inlines_least, read_least, span_least}
use Rattle.read_steps.specs.declared.wanted.Held.TheVariants as helds

-- ---- a whole row

-- a value that is not long counts none
short_read : (value : List ℕ) (start end : ℕ) → is_long value ≡ false → read_turns value start end ≡ 0
short_read value start end short = ap (λ (b : Bool). if b && nat_lt start end then pieces_between start end + 1 else 0) short

fewer : (a b : Bool) (k : ℕ) → (if a && b then k else 0) ≤ (if b then k else 0)
fewer true true k = omega arith
fewer true false k = omega arith
fewer false true k = omega arith
fewer false false k = omega arith

out_counts : (value : List ℕ) (pointer : Pointer) → pointer.size ≡ length value → whole_turns value ≤ cell_least (Out pointer)
out_counts value pointer size =
    let same : cell_least (Out pointer) ≡ (if nat_lt 0 (length value) then pieces_between 0 (length value) + 1 else 0) = ap (λ (n : ℕ). if nat_lt 0 n then pieces_between 0 n + 1 else 0) size in
    let less = fewer (is_long value) (nat_lt 0 (length value)) (pieces_between 0 (length value) + 1) in
    omega (arith, same, less)

pub row_counts : (toast : Store) (cells : List Cell) → AreShortCells cells → AreWhole toast cells → row_turns whole_turns (map (cell_value toast) cells) ≤ cells_least cells
row_counts toast [] short whole = omega arith
row_counts toast (Null ∷ cells) short whole =
    let rest = row_counts toast cells short.1 whole in
    let all = sum_by-cons (turns_of whole_turns) None (map (cell_value toast) cells) in
    let its = sum_by-cons cell_least Null cells in
    omega (arith, rest, all, its)
row_counts toast (Inline value ∷ cells) short whole =
    let here : whole_turns value ≡ 0 = short_read value 0 (length value) (short_value value short.0) in
    let rest = row_counts toast cells short.1 whole in
    let all = sum_by-cons (turns_of whole_turns) (Some value) (map (cell_value toast) cells) in
    let its = sum_by-cons cell_least (Inline value) cells in
    omega (arith, here, rest, all, its)
row_counts toast (Out pointer ∷ cells) short whole =
    let mine = whole pointer (first_in pointer (pointers_in cells) pointer refl) in
    let here = out_counts (value_in toast pointer) pointer mine.size in
    let rest = row_counts toast cells short.1 (λ other e. whole other (later_in pointer (pointers_in cells) other e)) in
    let all = sum_by-cons (turns_of whole_turns) (Some (value_in toast pointer)) (map (cell_value toast) cells) in
    let its = sum_by-cons cell_least (Out pointer) cells in
    omega (arith, here, rest, all, its)

-- ---- a slice

spans_same : (start end first last : ℕ) → start ≡ first → end ≡ last → (if nat_lt start end then pieces_between start end + 1 else 0) ≡ (if nat_lt first last then pieces_between first last + 1 else 0)
spans_same start end first last a b = ap (λ (n : ℕ). if nat_lt n end then pieces_between n end + 1 else 0) a ∙ ap (λ (n : ℕ). if nat_lt first n then pieces_between first n + 1 else 0) b

out_slice : (value : List ℕ) (pointer : Pointer) (n : ℕ) (len : ℤ) → pointer.size ≡ length value → slice_turns (pos n) len value ≤ span_least (span_of pointer.size (pos n) len) (Out pointer)
out_slice value pointer n len size = by (nat_lt n (n + length (slice value (pos n) len))) refl
  where
    first : Span.start (span_of pointer.size (pos n) len) ≡ min n pointer.size
    first = refl

    -- the slice has as many bytes as the span
    many : length (slice value (pos n) len) ≡ Span.end (span_of pointer.size (pos n) len) - Span.start (span_of pointer.size (pos n) len)
    many =
        let is = span_of pointer.size (pos n) len in
        let within = span_within pointer.size n len in
        let bytes : length (bytes_in is value) ≡ length (slice value (pos n) len) = ap length (span_slice value pointer.size n len size) in
        let taken : length (bytes_in is value) ≡ min (is.end - is.start) (length (drop is.start value)) = length-take (is.end - is.start) (drop is.start value) in
        let dropped = length-drop is.start value in
        omega (arith, bytes, taken, dropped, within.ordered, within.within, size)

    by : (b : Bool) → nat_lt n (n + length (slice value (pos n) len)) ≡ b → (if is_long value && b then pieces_between n (n + length (slice value (pos n) len)) + 1 else 0) ≤ span_least (span_of pointer.size (pos n) len) (Out pointer)
    by false is =
        let none = fewer (is_long value) false (pieces_between n (n + length (slice value (pos n) len)) + 1) in
        omega (arith, none)
    by true is =
        let its = span_of pointer.size (pos n) len in
        let some = ltb-true n (n + length (slice value (pos n) len)) is in
        let within = span_within pointer.size n len in
        let start : its.start ≡ n = omega (arith, first, many, some, within.ordered, within.within) in
        let end : its.end ≡ n + length (slice value (pos n) len) = omega (arith, start, many, within.ordered) in
        let same = spans_same its.start its.end n (n + length (slice value (pos n) len)) start end in
        let there : (if nat_lt n (n + length (slice value (pos n) len)) then pieces_between n (n + length (slice value (pos n) len)) + 1 else 0) ≡ pieces_between n (n + length (slice value (pos n) len)) + 1 =
        ap (λ (b : Bool). if b then pieces_between n (n + length (slice value (pos n) len)) + 1 else 0) is in
        let less = fewer (is_long value) true (pieces_between n (n + length (slice value (pos n) len)) + 1) in
        omega (arith, same, there, less)

pub slice_counts : (toast : Store) (n : ℕ) (len : ℤ) (cell : Cell) → IsShortCell cell → ((pointer : Pointer) → cell ≡ Out pointer → Whole toast pointer (value_in toast pointer))
    → turns_of (slice_turns (pos n) len) (cell_value toast cell) ≤ span_least (span_of (cell_size cell) (pos n) len) cell
slice_counts toast n len Null short whole = omega arith
slice_counts toast n len (Inline value) short whole =
    let none : slice_turns (pos n) len value ≡ 0 = short_read value n (n + length (slice value (pos n) len)) (short_value value short) in
    omega (arith, none)
slice_counts toast n len (Out pointer) short whole =
    let its = whole pointer refl in
    out_slice (value_in toast pointer) pointer n len its.size

-- of a value that a handle keeps
pub held_counts : (tables : List Table) (t n : ℕ) (len : ℤ) (held : Held) → IsShort held → ((pointer : Pointer) → held ≡ helds.Out pointer → Whole (table_at tables t).toast pointer (value_in (table_at tables t).toast pointer))
    → slice_turns (pos n) len (held_value tables t held) ≤ read_least (stage_held held (span_of (held_size held) (pos n) len))
held_counts tables t n len (helds.Inline value) short whole =
    let none : slice_turns (pos n) len value ≡ 0 = short_read value n (n + length (slice value (pos n) len)) (short_value value short) in
    omega (arith, none)
held_counts tables t n len (helds.Out pointer) short whole =
    let its = whole pointer refl in
    out_slice (value_in (table_at tables t).toast pointer) pointer n len its.size

-- an offset before the first byte leaves no bytes
below_value : (n : ℕ) (len : ℤ) (value : List ℕ) → slice_turns (negsuc n) len value ≡ 0
below_value n len value = by (is_long value) (nat_lt (unsigned_abs (negsuc n)) (unsigned_abs (negsuc n) + 0)) (le-ltb (unsigned_abs (negsuc n)) (unsigned_abs (negsuc n) + 0) (omega arith))
  where
    by : (a b : Bool) → b ≡ false → (if a && b then pieces_between (unsigned_abs (negsuc n)) (unsigned_abs (negsuc n) + 0) + 1 else 0) ≡ 0
    by true true e = absurd (cc)
    by true false e = refl
    by false b e = refl

pub below_counts : (n : ℕ) (len : ℤ) (value : Option (List ℕ)) → turns_of (slice_turns (negsuc n) len) value ≡ 0
below_counts n len None = refl
below_counts n len (Some value) = below_value n len value

-- ---- columns

pub column_value : (toast : Store) (cells : List Cell) (i : ℕ) → unwrap_or (slice_get (map (cell_value toast) cells) i) None ≡ cell_value toast (slice_index_or cells i Null)
column_value toast [] i = refl
column_value toast (cell ∷ cells) zero = refl
column_value toast (cell ∷ cells) (suc i) = column_value toast cells i

-- ---- a new row

pub inserted_counts : (row : Row) → row_turns save_turns row ≡ inlines_least (map cell_in_line row)
inserted_counts [] = refl
inserted_counts (None ∷ row) =
    let rest = inserted_counts row in
    let all = sum_by-cons (turns_of save_turns) None row in
    let its = sum_by-cons inline_least Null (map cell_in_line row) in
    omega (arith, rest, all, its)
inserted_counts (Some value ∷ row) =
    let rest = inserted_counts row in
    let all = sum_by-cons (turns_of save_turns) (Some value) row in
    let its = sum_by-cons inline_least (Inline value) (map cell_in_line row) in
    omega (arith, rest, all, its)
