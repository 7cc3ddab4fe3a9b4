-- The values of a row's columns: which comes next, what they come to, and how many steps they take.
use Rattle.std.proofs.Common.{◌≡◌, ℕ, zero, suc, ◌+◌, ◌-◌, ◌/◌, ◌<◌, ◌≤◌, Bool, true, false, cond, nat_lt, Option, Some, None, List, [], ◌∷◌, refl, sym, ap, ◌∙◌, subst, zero-add, arith}
use Rattle.std.specs.Prelude.{slice_get, slice_set, Ok, Err}
use Rattle.std.specs.Option.{option_and_then, option_map, option_map_or}
use Rattle.std.specs.Result.{result_ok}
use Rattle.std.proofs.lemmas.Bool.Decides.{nat_tests}
use Rattle.external_pointer.specs.declared.external.Pointer.{Pointer}
use Rattle.tuple_layout.specs.Places.{Row}
use Rattle.tuple_layout.specs.declared.cell.Cell.{Cell}
use Rattle.tuple_layout.specs.declared.cell.Cell.TheVariants.{Null, Inline, Out}
use Rattle.slice_fetch.specs.declared.Span.{Span}
use Rattle.slice_fetch.specs.Spans.{chunk_size}
use Rattle.chunk_index.specs.declared.entry.Entry.{Entry}
use Rattle.toast_store.specs.Stores.{Store}
use Rattle.toast_store.specs.Walks.{new_walk, steps_left}
use Rattle.toast_store.specs.Fetches.{Fetching, end_of, first_of, new_fetch}
use Rattle.toast_store.specs.declared.fault.FetchFault.TheVariants.{MissingChunk}
use Rattle.toast_store.specs.declared.walk.WalkStage.{WalkStage}
use Rattle.toast_store.specs.declared.walk.WalkStage.TheVariants as walks
use Rattle.read_steps.specs.Columns.{next_out, next_out_from, pointer_or, row_in, whole_span}
use Rattle.read_steps.specs.Reads.{bytes_of, row_of, row_steps, value_of, value_steps, whole_fetch}

-- ---- the next value out of line

-- where the next pointer stands, among columns that count from a number on
pub record Found (n : ℕ) (cells : List Cell) (at : ℕ) (p : Pointer) : Type 0 where
  pub place : ℕ
  pub at_is : at ≡ n + place
  pub cell_is : slice_get cells place ≡ Some (Out p)
  pub some : 0 < p.size

later : (n : ℕ) (cell : Cell) (cells : List Cell) (at : ℕ) (p : Pointer) → Found (n + 1) cells at p → Found n (cell ∷ cells) at p
later n cell cells at p found = record { place = suc found.place; at_is = omega (arith, found.at_is); cell_is = found.cell_is; some = found.some }

found_from : (n : ℕ) (cells : List Cell) (at : ℕ) (p : Pointer) → next_out_from n cells ≡ Some (at, p) → Found n cells at p
found_from n [] at p e = cc
found_from n (Null ∷ cells) at p e = later n Null cells at p (found_from (n + 1) cells at p e)
found_from n (Inline value ∷ cells) at p e = later n (Inline value) cells at p (found_from (n + 1) cells at p e)
found_from n (Out q ∷ cells) at p e = by_size (λ f. found_from (n + 1) cells at p f) (nat_lt 0 q.size) refl e
  where
    by_size : (next_out_from (n + 1) cells ≡ Some (at, p) → Found (n + 1) cells at p) → (b : Bool) → nat_lt 0 q.size ≡ b → pointer_or n (cond b (Some q) None) (next_out_from (n + 1) cells) ≡ Some (at, p) → Found n (Out q ∷ cells) at p
    by_size rest false less f = later n (Out q) cells at p (rest f)
    by_size rest true less f =
        let same : q ≡ p = ap (λ (o : Option (ℕ × Pointer)). option_map_or (λ (x : ℕ × Pointer). x.1) o q) f in
        let place : n ≡ at = ap (λ (o : Option (ℕ × Pointer)). option_map_or (λ (x : ℕ × Pointer). x.0) o n) f in
        record { place = 0; at_is = omega arith; cell_is = ap (λ (x : Pointer). Some (Out x)) same; some = subst (λ (x : Pointer). 0 < x.size) same (grind (arith, nat_tests)) }

pub found : (cells : List Cell) (at : ℕ) (p : Pointer) → next_out cells ≡ Some (at, p) → Found 0 cells at p
found cells at p e = found_from 0 cells at p e

pub cell_found : (cells : List Cell) (at : ℕ) (p : Pointer) → next_out cells ≡ Some (at, p) → slice_get cells at ≡ Some (Out p)
cell_found cells at p e =
    let f = found cells at p e in
    let place : at ≡ f.place = omega (arith, f.at_is) in
    ap (slice_get cells) place ∙ f.cell_is

pub some_found : (cells : List Cell) (at : ℕ) (p : Pointer) → next_out cells ≡ Some (at, p) → 0 < p.size
some_found cells at p e = (found cells at p e).some

-- ---- what a row comes to

irreflexive : (n : ℕ) → nat_lt n n ≡ false
irreflexive n = grind (arith, nat_tests)

-- a fetch of no bytes comes to none
pub bytes_of-empty : (store : Store) (p : Pointer) (span : Span) (session : ℕ) → nat_lt span.start span.end ≡ false → bytes_of store (new_fetch p span session) ≡ Some []
bytes_of-empty store p span session none =
    let end_is : end_of span ≡ first_of span = ap (λ (b : Bool). cond b ((span.end - 1) / chunk_size + 1) (first_of span)) none in
    let less : nat_lt (first_of span) (end_of span) ≡ false = ap (nat_lt (first_of span)) end_is ∙ irreflexive (first_of span) in
    ap (λ (s : WalkStage). bytes_of store (record { size = p.size; span = span; got = []; next = first_of span; walk = record { value_id = p.value_id; first = first_of span; end = end_of span; session = session; stage = s } })) (ap (λ (b : Bool). cond b (walks.Asking None) walks.Empty) less)
    ∙ ap (λ (b : Bool). result_ok (cond b (Err (MissingChunk (first_of span))) (Ok []))) less

-- a row with no value out of line that has bytes comes to its values
row_of-held_from : (n : ℕ) (store : Store) (session : ℕ) (cells : List Cell) → next_out_from n cells ≡ None → row_of store session cells ≡ Some (row_in cells)
row_of-held_from n store session [] e = refl
row_of-held_from n store session (Null ∷ cells) e = ap (option_map (λ (row : Row). None ∷ row)) (row_of-held_from (n + 1) store session cells e)
row_of-held_from n store session (Inline value ∷ cells) e = ap (option_map (λ (row : Row). Some value ∷ row)) (row_of-held_from (n + 1) store session cells e)
row_of-held_from n store session (Out q ∷ cells) e = by_size (λ f. row_of-held_from (n + 1) store session cells f) (nat_lt 0 q.size) refl e
  where
    by_size : (next_out_from (n + 1) cells ≡ None → row_of store session cells ≡ Some (row_in cells)) → (b : Bool) → nat_lt 0 q.size ≡ b → pointer_or n (cond b (Some q) None) (next_out_from (n + 1) cells) ≡ None → row_of store session (Out q ∷ cells) ≡ Some (row_in (Out q ∷ cells))
    by_size rest true less f = cc
    by_size rest false less f =
        ap (λ (o : Option (List ℕ)). option_and_then (λ (value : Option (List ℕ)). option_map (λ (row : Row). value ∷ row) (row_of store session cells)) (option_map (λ bytes. Some bytes) o)) (bytes_of-empty store q (whole_span q) session less)
        ∙ ap (option_map (λ (row : Row). Some [] ∷ row)) (rest f)

pub row_of-held : (store : Store) (session : ℕ) (cells : List Cell) → next_out cells ≡ None → row_of store session cells ≡ Some (row_in cells)
row_of-held store session cells e = row_of-held_from 0 store session cells e

-- a row comes to what it comes to with one of its values in hand, if that value comes to its bytes
swapped : (R : List ℕ → Option Row) (value : Option (Option (List ℕ))) (bytes : Option (List ℕ)) → option_and_then (λ v. option_map (λ (row : Row). v ∷ row) (option_and_then R bytes)) value ≡ option_and_then (λ b. option_and_then (λ v. option_map (λ (row : Row). v ∷ row) (R b)) value) bytes
swapped R None None = refl
swapped R None (Some b) = refl
swapped R (Some v) None = refl
swapped R (Some v) (Some b) = refl

pub row_of-split : (store : Store) (session : ℕ) (cells : List Cell) (at : ℕ) (p : Pointer) → slice_get cells at ≡ Some (Out p)
    → row_of store session cells ≡ option_and_then (λ bytes. row_of store session (slice_set cells at (Inline bytes))) (bytes_of store (whole_fetch p session))
row_of-split store session [] at p e = cc
row_of-split store session (cell ∷ cells) zero p e = subst (λ (c : Cell). row_of store session (c ∷ cells) ≡ option_and_then (λ bytes. row_of store session (Inline bytes ∷ cells)) (bytes_of store (whole_fetch p session))) is_cell (by_bytes (bytes_of store (whole_fetch p session)))
  where
    is_cell : Out p ≡ cell
    is_cell = cc

    by_bytes : (o : Option (List ℕ)) → option_and_then (λ (v : Option (List ℕ)). option_map (λ (row : Row). v ∷ row) (row_of store session cells)) (option_map (λ bytes. Some bytes) o) ≡ option_and_then (λ bytes. option_map (λ (row : Row). Some bytes ∷ row) (row_of store session cells)) o
    by_bytes None = refl
    by_bytes (Some b) = refl
row_of-split store session (cell ∷ cells) (suc at) p e =
    ap (λ (o : Option Row). option_and_then (λ (v : Option (List ℕ)). option_map (λ (row : Row). v ∷ row) o) (value_of store session cell)) (row_of-split store session cells at p e)
    ∙ swapped (λ bytes. row_of store session (slice_set cells at (Inline bytes))) (value_of store session cell) (bytes_of store (whole_fetch p session))

-- a row comes to the same in stores where each of its pointers does
pub row_of-same : (old new : Store) (session : ℕ) (cells : List Cell) → ((p : Pointer) → bytes_of new (whole_fetch p session) ≡ bytes_of old (whole_fetch p session)) → row_of new session cells ≡ row_of old session cells
row_of-same old new session [] same = refl
row_of-same old new session (Null ∷ cells) same = ap (option_map (λ (row : Row). None ∷ row)) (row_of-same old new session cells same)
row_of-same old new session (Inline value ∷ cells) same = ap (option_map (λ (row : Row). Some value ∷ row)) (row_of-same old new session cells same)
row_of-same old new session (Out p ∷ cells) same =
    ap (λ (o : Option (List ℕ)). option_and_then (λ (v : Option (List ℕ)). option_map (λ (row : Row). v ∷ row) (row_of new session cells)) (option_map (λ bytes. Some bytes) o)) (same p)
    ∙ ap (λ (o : Option Row). option_and_then (λ (v : Option (List ℕ)). option_map (λ (row : Row). v ∷ row) o) (option_map (λ bytes. Some bytes) (bytes_of old (whole_fetch p session)))) (row_of-same old new session cells same)

-- ---- how many steps are left

-- a walk that has not begun has a step left
pub new_steps : (entries : List Entry) (value_id first end session : ℕ) → 1 ≤ steps_left entries (new_walk value_id first end session)
new_steps entries value_id first end session = by_test (nat_lt first end)
  where
    by_test : (b : Bool) → 1 ≤ steps_left entries (record { value_id = value_id; first = first; end = end; session = session; stage = cond b (walks.Asking None) walks.Empty })
    by_test true = omega arith
    by_test false = omega arith

-- the steps of one value, and of the others
pub row_steps-split : (entries : List Entry) (session : ℕ) (cells : List Cell) (at : ℕ) (p : Pointer) → slice_get cells at ≡ Some (Out p) → 0 < p.size
    → row_steps entries session cells ≡ steps_left entries (Fetching.walk (whole_fetch p session)) + row_steps entries session (slice_set cells at Null)
row_steps-split entries session [] at p e some = cc
row_steps-split entries session (cell ∷ cells) zero p e some = subst (λ (c : Cell). row_steps entries session (c ∷ cells) ≡ steps_left entries (Fetching.walk (whole_fetch p session)) + row_steps entries session (Null ∷ cells)) is_cell (ap (λ (b : Bool). option_map_or (λ (q : Pointer). steps_left entries (Fetching.walk (whole_fetch q session))) (cond b (Some p) None) 0 + row_steps entries session cells) is_some ∙ ap (λ n. steps_left entries (Fetching.walk (whole_fetch p session)) + n) (sym (zero-add (row_steps entries session cells))))
  where
    is_cell : Out p ≡ cell
    is_cell = cc

    is_some : nat_lt 0 p.size ≡ true
    is_some = grind (arith, nat_tests)
row_steps-split entries session (cell ∷ cells) (suc at) p e some =
    let rest = row_steps-split entries session cells at p e some in
    omega (arith, rest)

pub row_steps-held : (entries : List Entry) (session : ℕ) (cells : List Cell) (at : ℕ) (bytes : List ℕ) → row_steps entries session (slice_set cells at (Inline bytes)) ≡ row_steps entries session (slice_set cells at Null)
row_steps-held entries session [] at bytes = refl
row_steps-held entries session (cell ∷ cells) zero bytes = refl
row_steps-held entries session (cell ∷ cells) (suc at) bytes = ap (λ n. value_steps entries session cell + n) (row_steps-held entries session cells at bytes)
