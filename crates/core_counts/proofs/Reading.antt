-- A step of a read is one of those that it takes at least.
use Rattle.std.proofs.Common.{ap, arith, refl, ◌∙◌}
use Rattle.std.proofs.lemmas.Bool.{lt-ltb, ltb-false, ltb-true}
use Rattle.std.proofs.lemmas.List.Sums.{sum_by-cons}
use Rattle.std.proofs.lemmas.Option.{get_or_from_slice_get}
use Rattle.std.specs.Option.{option_and_then, option_map}
use Rattle.std.specs.Prelude.{Bool, Err, List, None, Ok, Option, Some, [], false, if◌then◌else◌, is_some, nat_lt, not, slice_get, slice_index_or, slice_set, suc, true, ℕ, ◌+◌, ◌-◌, ◌/◌, ◌∷◌, ◌≡◌, ◌≤◌}
use Rattle.external_pointer.specs.declared.external.Pointer.{Pointer}
use Rattle.tuple_layout.specs.declared.cell.Cell.{Cell}
use Rattle.tuple_layout.specs.declared.cell.Cell.TheVariants.{Inline, Null, Out}
use Rattle.tuple_layout.specs.declared.cell.Stored.{Stored}
use Rattle.slot_page.specs.Pages.{item_in}
use Rattle.slice_fetch.specs.Spans.{chunk_size}
use Rattle.slice_fetch.specs.declared.Span.{Span}
use Rattle.chunk_index.specs.declared.entry.Entry.{Entry}
use Rattle.chunk_relation.specs.declared.chunk.Chunk.{Chunk}
use Rattle.command_set.specs.declared.Reply.{Reply}
use Rattle.toast_store.specs.Fetches.{Fetching, answer_by, end_of, fetch_after, first_of, new_fetch, next_chunk, refusal, with_chunk}
use Rattle.toast_store.specs.Stores.{Store}
use Rattle.toast_store.specs.Walks.{Walking, entry_at, is_over}
use Rattle.toast_store.specs.declared.fault.FetchFault.{FetchFault}
use Rattle.toast_store.specs.declared.fault.FetchFault.TheVariants.{MissingChunk}
use Rattle.toast_store.specs.declared.walk.WalkStage.{WalkStage}
use Rattle.read_steps.proofs.Rows.{cell_found, some_found}
use Rattle.read_steps.specs.Columns.{next_out, next_out_from, pointer_or, row_in, whole_span}
use Rattle.read_steps.specs.Reads.{bytes_due, bytes_told, needs_store, part_step, row_begun, row_step, stepped, whole_fetch, with_value}
use Rattle.read_steps.specs.declared.stage.ReadStage.{ReadStage}
use Rattle.read_steps.specs.declared.stage.ReadStep.{ReadStep}
use Rattle.core_counts.proofs.Sums.{put_alike, taken_out}
use Rattle.core_counts.specs.Counts.{pieces_between}
use Rattle.core_counts.specs.Least.{asks_least, cell_least, cells_least, fetch_least, read_least}
use Rattle.command_set.specs.declared.Reply.TheVariants as replies
use Rattle.read_steps.specs.declared.stage.ReadStage.TheVariants as reads
use Rattle.read_steps.specs.declared.stage.ReadStep.TheVariants as steps
use Rattle.toast_store.specs.declared.fetch.FetchStep.TheVariants as fetches
use Rattle.toast_store.specs.declared.walk.WalkStage.TheVariants as walks

-- ---- a fetch

next_most : (fetch : Fetching) (o : Option Chunk) → Fetching.next (with_chunk fetch o) ≤ fetch.next + 1
next_most fetch None = omega arith
next_most fetch (Some chunk) = omega arith

-- a step asks for a batch, or takes an entry
taken : (store : Store) (fetch : Fetching) (stage : WalkStage) → Fetching.next (with_chunk fetch (option_and_then (λ (e : Entry). item_in store.rel.pages e.tid) (entry_at stage))) + asks_least stage ≤ fetch.next + 1
taken store fetch walks.Empty = omega arith
taken store fetch (walks.Asking after) = omega arith
taken store fetch (walks.Reading batch at) =
    let most = next_most fetch (option_and_then (λ (e : Entry). item_in store.rel.pages e.tid) (slice_get batch.entries at)) in
    omega (arith, most)
taken store fetch walks.Over = omega arith

asks_most : (stage : WalkStage) → asks_least stage ≤ 1
asks_most walks.Empty = omega arith
asks_most (walks.Asking after) = omega arith
asks_most (walks.Reading batch at) = omega arith
asks_most walks.Over = omega arith

pub fetch_falls : (store : Store) (fetch : Fetching) → fetch_least fetch ≤ suc (fetch_least (fetch_after store fetch))
fetch_falls store fetch =
    let next : Fetching.next (fetch_after store fetch) + asks_least (Walking.stage (Fetching.walk fetch)) ≤ fetch.next + 1 = taken store fetch (Walking.stage (Fetching.walk fetch)) in
    let end : Walking.end (Fetching.walk (fetch_after store fetch)) ≡ Walking.end (Fetching.walk fetch) = refl in
    let most = asks_most (Walking.stage (Fetching.walk fetch)) in
    omega (arith, next, end, most)

-- a fetch that is done has no piece to come
done_by : (after : Fetching) (fault : Option FetchFault) (bytes : List ℕ) → bytes_told (answer_by after fault) ≡ Some bytes → fetch_least after ≡ 0
done_by after (Some fault) bytes e = absurd (cc)
done_by after None bytes e = by (is_over (Walking.stage (Fetching.walk after))) refl e
  where
    over : (stage : WalkStage) → is_over stage ≡ true → asks_least stage ≡ 0
    over walks.Empty e = refl
    over (walks.Asking next) e = absurd (cc)
    over (walks.Reading batch at) e = refl
    over walks.Over e = refl

    last : (b : Bool) → nat_lt after.next (Walking.end (Fetching.walk after)) ≡ b → bytes_told (if b then Err (MissingChunk after.next) else Ok (fetches.Done after.got)) ≡ Some bytes → Walking.end (Fetching.walk after) ≤ after.next
    last true is f = absurd (cc)
    last false is f = ltb-false after.next (Walking.end (Fetching.walk after)) is

    by : (b : Bool) → is_over (Walking.stage (Fetching.walk after)) ≡ b
        → bytes_told (if not b then Ok fetches.More else (if nat_lt after.next (Walking.end (Fetching.walk after)) then Err (MissingChunk after.next) else Ok (fetches.Done after.got))) ≡ Some bytes → fetch_least after ≡ 0
    by false is f = absurd (cc)
    by true is f =
        let asks = over (Walking.stage (Fetching.walk after)) is in
        let none = last (nat_lt after.next (Walking.end (Fetching.walk after))) refl f in
        omega (arith, asks, none)

pub fetch_ends : (store : Store) (fetch : Fetching) (bytes : List ℕ) → bytes_due store fetch ≡ Some bytes → fetch_least fetch ≤ 1
fetch_ends store fetch bytes e =
    let done = done_by (fetch_after store fetch) (option_and_then (refusal fetch.size fetch.next) (next_chunk store fetch.walk)) bytes e in
    let falls = fetch_falls store fetch in
    omega (arith, done, falls)

-- before its first step it has a batch to ask for, and each piece of its span
pub new_least : (pointer : Pointer) (span : Span) (session : ℕ) → nat_lt span.start span.end ≡ true → fetch_least (new_fetch pointer span session) ≡ pieces_between span.start span.end + 1
new_least pointer span session some =
    let less = ltb-true span.start span.end some in
    let end : end_of span ≡ (span.end - 1) / chunk_size + 1 = ap (λ (b : Bool). if b then (span.end - 1) / chunk_size + 1 else first_of span) some in
    let walk : nat_lt (first_of span) (end_of span) ≡ true = lt-ltb (first_of span) (end_of span) (omega (arith, end, less)) in
    let asks : asks_least (if nat_lt (first_of span) (end_of span) then walks.Asking None else walks.Empty) ≡ 1 = ap (λ (b : Bool). asks_least (if b then walks.Asking None else walks.Empty)) walk in
    let pieces : pieces_between span.start span.end ≡ (span.end - 1) / chunk_size + 1 - span.start / chunk_size = ap (λ (b : Bool). if b then (span.end - 1) / chunk_size + 1 - span.start / chunk_size else 0) some in
    omega (arith, end, asks, pieces, less)

-- ---- a row

-- a row with no value out of line that has bytes takes none
none_from : (n : ℕ) (cells : List Cell) → next_out_from n cells ≡ None → cells_least cells ≡ 0
none_from n [] e = refl
none_from n (Null ∷ cells) e =
    let rest = none_from (n + 1) cells e in
    let all = sum_by-cons cell_least Null cells in
    omega (arith, rest, all)
none_from n (Inline value ∷ cells) e =
    let rest = none_from (n + 1) cells e in
    let all = sum_by-cons cell_least (Inline value) cells in
    omega (arith, rest, all)
none_from n (Out pointer ∷ cells) e = by (λ f. none_from (n + 1) cells f) (nat_lt 0 pointer.size) refl e
  where
    by : (next_out_from (n + 1) cells ≡ None → cells_least cells ≡ 0) → (b : Bool) → nat_lt 0 pointer.size ≡ b → pointer_or n (if b then Some pointer else None) (next_out_from (n + 1) cells) ≡ None → cells_least (Out pointer ∷ cells) ≡ 0
    by others true is f = absurd (cc)
    by others false is f =
        let here : cell_least (Out pointer) ≡ 0 = ap (λ (b : Bool). if b then pieces_between 0 pointer.size + 1 else 0) is in
        let rest = others f in
        let all = sum_by-cons cell_least (Out pointer) cells in
        omega (arith, here, rest, all)

pub none_least : (cells : List Cell) → next_out cells ≡ None → cells_least cells ≡ 0
none_least cells e = none_from 0 cells e

-- its first value is fetched, and the others are still to come
first_falls : (store : Store) (session : ℕ) (stored : Stored) (at : ℕ) (pointer : Pointer) → next_out stored.cells ≡ Some (at, pointer)
    → cells_least stored.cells ≤ suc (fetch_least (fetch_after store (whole_fetch pointer session)) + cells_least (slice_set stored.cells at Null))
first_falls store session stored at pointer is =
    let some = lt-ltb 0 pointer.size (some_found stored.cells at pointer is) in
    let here : cell_least (slice_index_or stored.cells at Null) ≡ pieces_between 0 pointer.size + 1 =
    ap cell_least (get_or_from_slice_get stored.cells at (Out pointer) Null (cell_found stored.cells at pointer is)) ∙ ap (λ (b : Bool). if b then pieces_between 0 pointer.size + 1 else 0) some in
    let whole = new_least pointer (whole_span pointer) session some in
    let falls = fetch_falls store (whole_fetch pointer session) in
    let out = taken_out cell_least stored.cells at Null Null in
    omega (arith, here, whole, falls, out)

-- where a row's read stands with a value in hand, by whether one is still to be fetched; and a part's after its first step, by whether it has bytes
abbrev left_by : Stored → Bool → ReadStage × ReadStep
left_by stored b = if b then (reads.Row stored, steps.More) else (reads.Over, steps.Done (replies.Row stored.key (row_in stored.cells)))

abbrev part_by : Store → Fetching → Bool → ReadStage × ReadStep
part_by store fetch b = if b then (reads.PartValue (fetch_after store fetch), steps.More) else (reads.Over, steps.Done (replies.Bytes []))

-- ---- a step

pub stage_more : (store : Store) (session : ℕ) (stage : ReadStage) → (stepped store session stage).1 ≡ steps.More → read_least stage ≤ suc (read_least (stepped store session stage).0)
stage_more store session (reads.Row stored) e = by (next_out stored.cells) refl e
  where
    by : (next : Option (ℕ × Pointer)) → next_out stored.cells ≡ next → (row_begun store session stored next).1 ≡ steps.More → cells_least stored.cells ≤ suc (read_least (row_begun store session stored next).0)
    by None is f = absurd (cc)
    by (Some (at, pointer)) is f = first_falls store session stored at pointer is
stage_more store session (reads.RowValue stored at fetch) e = by (bytes_due store fetch) refl e
  where
    rest : (bytes : List ℕ) (b : Bool) → fetch_least fetch ≤ 1
        → (left_by (with_value stored at bytes) b).1 ≡ steps.More
        → fetch_least fetch + cells_least (slice_set stored.cells at Null)
        ≤ suc (read_least (left_by (with_value stored at bytes) b).0)
    rest bytes true ends f =
        let alike = put_alike cell_least stored.cells at (Inline bytes) Null refl in
        omega (arith, ends, alike)
    rest bytes false ends f = absurd (cc)

    by : (o : Option (List ℕ)) → bytes_due store fetch ≡ o → (row_step store stored at fetch o).1 ≡ steps.More → fetch_least fetch + cells_least (slice_set stored.cells at Null) ≤ suc (read_least (row_step store stored at fetch o).0)
    by None is f =
        let falls = fetch_falls store fetch in
        omega (arith, falls)
    by (Some bytes) is f = rest bytes (is_some (next_out (slice_set stored.cells at (Inline bytes)))) (fetch_ends store fetch bytes is) f
stage_more store session (reads.Part Null span) e = absurd (cc)
stage_more store session (reads.Part (Inline value) span) e = absurd (cc)
stage_more store session (reads.Part (Out pointer) span) e = by (nat_lt span.start span.end) refl e
  where
    by : (b : Bool) → nat_lt span.start span.end ≡ b → (part_by store (new_fetch pointer span session) b).1 ≡ steps.More
        → (if b then pieces_between span.start span.end + 1 else 0) ≤ suc (read_least (part_by store (new_fetch pointer span session) b).0)
    by true is f =
        let its = new_least pointer span session is in
        let falls = fetch_falls store (new_fetch pointer span session) in
        omega (arith, its, falls)
    by false is f = absurd (cc)
stage_more store session (reads.PartValue fetch) e = by (bytes_due store fetch) refl e
  where
    by : (o : Option (List ℕ)) → bytes_due store fetch ≡ o → (part_step store fetch o).1 ≡ steps.More → fetch_least fetch ≤ suc (read_least (part_step store fetch o).0)
    by None is f = fetch_falls store fetch
    by (Some bytes) is f = absurd (cc)
stage_more store session (reads.Ready bytes) e = absurd (cc)
stage_more store session reads.Over e = omega arith

pub stage_done : (store : Store) (session : ℕ) (stage : ReadStage) (reply : Reply) → (stepped store session stage).1 ≡ steps.Done reply → read_least stage ≤ 1
stage_done store session (reads.Row stored) reply e = by (next_out stored.cells) refl e
  where
    by : (next : Option (ℕ × Pointer)) → next_out stored.cells ≡ next → (row_begun store session stored next).1 ≡ steps.Done reply → cells_least stored.cells ≤ 1
    by None is f =
        let none = none_least stored.cells is in
        omega (arith, none)
    by (Some (at, pointer)) is f = absurd (cc)
stage_done store session (reads.RowValue stored at fetch) reply e = by (bytes_due store fetch) refl e
  where
    rest : (bytes : List ℕ) (next : Option (ℕ × Pointer)) → next_out (slice_set stored.cells at (Inline bytes)) ≡ next → fetch_least fetch ≤ 1
        → (left_by (with_value stored at bytes) (is_some next)).1 ≡ steps.Done reply
        → fetch_least fetch + cells_least (slice_set stored.cells at Null) ≤ 1
    rest bytes (Some next) is ends f = absurd (cc)
    rest bytes None is ends f =
        let none = none_least (slice_set stored.cells at (Inline bytes)) is in
        let alike = put_alike cell_least stored.cells at (Inline bytes) Null refl in
        omega (arith, ends, alike, none)

    by : (o : Option (List ℕ)) → bytes_due store fetch ≡ o → (row_step store stored at fetch o).1 ≡ steps.Done reply → fetch_least fetch + cells_least (slice_set stored.cells at Null) ≤ 1
    by None is f = absurd (cc)
    by (Some bytes) is f = rest bytes (next_out (slice_set stored.cells at (Inline bytes))) refl (fetch_ends store fetch bytes is) f
stage_done store session (reads.Part Null span) reply e = omega arith
stage_done store session (reads.Part (Inline value) span) reply e = omega arith
stage_done store session (reads.Part (Out pointer) span) reply e = by (nat_lt span.start span.end) e
  where
    by : (b : Bool) → (part_by store (new_fetch pointer span session) b).1 ≡ steps.Done reply → (if b then pieces_between span.start span.end + 1 else 0) ≤ 1
    by true f = absurd (cc)
    by false f = omega arith
stage_done store session (reads.PartValue fetch) reply e = by (bytes_due store fetch) refl e
  where
    by : (o : Option (List ℕ)) → bytes_due store fetch ≡ o → (part_step store fetch o).1 ≡ steps.Done reply → fetch_least fetch ≤ 1
    by None is f = absurd (cc)
    by (Some bytes) is f = fetch_ends store fetch bytes is
stage_done store session (reads.Ready bytes) reply e = omega arith
stage_done store session reads.Over reply e = omega arith

-- ---- before its first step

-- a read that wants nothing of the store takes no further step
pub unneeded : (session : ℕ) (stage : ReadStage) → needs_store (record { session = session; stage = stage }) ≡ false → read_least stage ≡ 0
unneeded session (reads.Row stored) e = by (next_out stored.cells) refl e
  where
    by : (next : Option (ℕ × Pointer)) → next_out stored.cells ≡ next → is_some (option_map (λ (x : ℕ × Pointer). whole_fetch x.1 session) next) ≡ false → cells_least stored.cells ≡ 0
    by None is f = none_least stored.cells is
    by (Some next) is f = absurd (cc)
unneeded session (reads.RowValue stored at fetch) e = absurd (cc)
unneeded session (reads.Part Null span) e = refl
unneeded session (reads.Part (Inline value) span) e = refl
unneeded session (reads.Part (Out pointer) span) e = by (nat_lt span.start span.end) e
  where
    by : (b : Bool) → is_some (if b then Some (new_fetch pointer span session) else None) ≡ false → (if b then pieces_between span.start span.end + 1 else 0) ≡ 0
    by true f = absurd (cc)
    by false f = refl
unneeded session (reads.PartValue fetch) e = absurd (cc)
unneeded session (reads.Ready bytes) e = refl
unneeded session reads.Over e = refl
