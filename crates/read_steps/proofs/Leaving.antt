-- What each step of a read leaves.
use Rattle.std.proofs.Common.{◌≡◌, ℕ, ◌<◌, Bool, true, false, cond, nat_lt, Option, Some, None, List, [], refl, sym, ap, ◌∙◌, subst, arith}
use Rattle.std.specs.Prelude.{slice_set, IsSome, IfSome, Result, is_some}
use Rattle.std.specs.Option.{option_and_then, option_map, option_map_or}
use Rattle.std.specs.Result.{result_ok}
use Rattle.external_pointer.specs.declared.external.Pointer.{Pointer}
use Rattle.tuple_layout.specs.Places.{Row}
use Rattle.tuple_layout.specs.declared.cell.Cell.{Cell}
use Rattle.tuple_layout.specs.declared.cell.Cell.TheVariants.{Null, Inline, Out}
use Rattle.tuple_layout.specs.declared.cell.Stored.{Stored}
use Rattle.slice_fetch.specs.declared.Span.{Span}
use Rattle.chunk_index.specs.declared.entry.Entry.{Entry}
use Rattle.chunk_index.specs.Pinned.{pin_of}
use Rattle.command_set.specs.declared.Reply.{Reply}
use Rattle.command_set.specs.declared.Reply.TheVariants as replies
use Rattle.toast_store.specs.Stores.{Store, named_by}
use Rattle.toast_store.specs.Walks.{Walking, CanStep, IsBatchHeld, ahead, index_walked, steps_left}
use Rattle.toast_store.specs.Fetches.{Fetching, comparison, end_of, fetch_after, first_of, new_fetch}
use Rattle.toast_store.specs.declared.fault.FetchFault.{FetchFault}
use Rattle.toast_store.proofs.Walked.{begun, entries_walked}
use Rattle.toast_store.proofs.Held.{held_new}
use Rattle.read_steps.specs.declared.stage.ReadStage.{ReadStage}
use Rattle.read_steps.specs.declared.stage.ReadStage.TheVariants as stages
use Rattle.read_steps.specs.declared.stage.ReadStep.{ReadStep}
use Rattle.read_steps.specs.declared.stage.ReadStep.TheVariants.{More, Done}
use Rattle.read_steps.specs.Columns.{next_out, row_in, whole_span}
use Rattle.read_steps.specs.Reads.{Reading, GoesOn, Leaves, bytes_of, part_begun, part_fetch, reply_of, row_begun, row_fetch, row_left, row_of, row_reply, row_steps, store_fetched, whole_fetch, with_value}
use Rattle.read_steps.specs.Fetched.{BeginsFetch, BeginsPart, FetchEnds, FetchGoesOn}
use Rattle.read_steps.proofs.Rows.{bytes_of-empty, cell_found, new_steps, row_of-held, row_of-same, row_of-split, row_steps-held, row_steps-split, some_found}

-- a read of a session at a stage
at_stage : ℕ → ReadStage → Reading
at_stage session stage = record { session = session; stage = stage }

-- ---- the store after a step of a fetch

-- it has the same entries
entries_fetched : (old new : Store) (fetch : Fetching) → new ≡ store_fetched old (Some fetch) → Store.index new ≡ index_walked old.index fetch.walk
entries_fetched old new fetch is = ap (λ (s : Store). s.index) is

same_entries : (old new : Store) (fetch : Fetching) → new ≡ store_fetched old (Some fetch) → new.index.entries ≡ old.index.entries
same_entries old new fetch is = subst (λ (s : Store). s.index.entries ≡ old.index.entries) (sym is) (entries_walked old.index fetch.walk)

-- so a fetch of a value comes to the same there
same_bytes : (old new : Store) (fetch other : Fetching) → new ≡ store_fetched old (Some fetch) → bytes_of new other ≡ bytes_of old other
same_bytes old new fetch other is =
    subst (λ (s : Store). bytes_of s other ≡ bytes_of old other) (sym is)
    (ap (λ (entries : List Entry). result_ok (comparison other (named_by old.rel.pages (ahead entries other.walk)))) (entries_walked old.index fetch.walk))

same_row : (old new : Store) (fetch : Fetching) (session : ℕ) (cells : List Cell) → new ≡ store_fetched old (Some fetch) → row_of new session cells ≡ row_of old session cells
same_row old new fetch session cells is = row_of-same old new session cells (λ p. same_bytes old new fetch (whole_fetch p session) is)

same_reply : (old new : Store) (fetch : Fetching) (session : ℕ) (stored : Stored) → new ≡ store_fetched old (Some fetch) → row_reply new session stored ≡ row_reply old session stored
same_reply old new fetch session stored is = ap (option_map (λ (row : Row). replies.Row stored.key row)) (same_row old new fetch session stored.cells is)

-- ---- a row

and_then-same : (f g : List ℕ → Option Reply) (o : Option (List ℕ)) → ((b : List ℕ) → f b ≡ g b) → option_and_then f o ≡ option_and_then g o
and_then-same f g None same = refl
and_then-same f g (Some b) same = same b

-- a row's reply is that with its next value in hand
reply-split : (store : Store) (session : ℕ) (stored : Stored) (at : ℕ) (p : Pointer) → next_out stored.cells ≡ Some (at, p)
    → row_reply store session stored ≡ option_and_then (λ bytes. row_reply store session (with_value stored at bytes)) (bytes_of store (whole_fetch p session))
reply-split store session stored at p e =
    ap (option_map (λ (row : Row). replies.Row stored.key row)) (row_of-split store session stored.cells at p (cell_found stored.cells at p e))
    ∙ by_bytes (bytes_of store (whole_fetch p session))
  where
    by_bytes : (o : Option (List ℕ)) → option_map (λ (row : Row). replies.Row stored.key row) (option_and_then (λ bytes. row_of store session (slice_set stored.cells at (Inline bytes))) o) ≡ option_and_then (λ bytes. row_reply store session (with_value stored at bytes)) o
    by_bytes None = refl
    by_bytes (Some b) = refl

-- so its next value comes to its bytes where the row comes to a reply
pub row_comes : (store : Store) (session : ℕ) (stored : Stored) (read : Reading) → record { session = session; stage = stages.Row stored } ≡ read → IsSome (reply_of store read) → IfSome (row_fetch stored.cells session) (λ fetch. IsSome (bytes_of store fetch))
row_comes store session stored read is comes = by_next (next_out stored.cells) refl
  where
    some : IsSome (row_reply store session stored)
    some = subst (λ (r : Reading). IsSome (reply_of store r)) (sym is) comes

    by_bytes : (f : List ℕ → Option Reply) (o : Option (List ℕ)) → IsSome (option_and_then f o) → IsSome o
    by_bytes f None h = h
    by_bytes f (Some b) h = refl

    by_next : (next : Option (ℕ × Pointer)) → next_out stored.cells ≡ next → IfSome (option_map (λ (x : ℕ × Pointer). whole_fetch x.1 session) next) (λ fetch. IsSome (bytes_of store fetch))
    by_next None e = tt
    by_next (Some (at, p)) e = by_bytes (λ bytes. row_reply store session (with_value stored at bytes)) (bytes_of store (whole_fetch p session)) (subst (λ (o : Option Reply). IsSome o) (reply-split store session stored at p e) some)

-- the first step of a row's next value, or the row
pub row_begins : (old new : Store) (session : ℕ) (stored : Stored) (read : Reading) (first : ReadStage × ReadStep) → record { session = session; stage = stages.Row stored } ≡ read
    → first ≡ row_begun old session stored (next_out stored.cells) → new ≡ store_fetched old (row_fetch stored.cells session) → BeginsFetch old session (next_out stored.cells) new
    → Leaves old read new (record { session = session; stage = first.0 }) first.1
row_begins old new session stored read first is first_is store_is goes =
    subst (λ (r : Reading). Leaves old r new (record { session = session; stage = first.0 }) first.1) is
    (subst (λ (b : ReadStage × ReadStep). Leaves old (record { session = session; stage = stages.Row stored }) new (record { session = session; stage = b.0 }) b.1) (sym first_is)
    (by_next (next_out stored.cells) refl store_is goes))
  where
    by_next : (next : Option (ℕ × Pointer)) → next_out stored.cells ≡ next → new ≡ store_fetched old (option_map (λ (x : ℕ × Pointer). whole_fetch x.1 session) next) → BeginsFetch old session next new
        → Leaves old (record { session = session; stage = stages.Row stored }) new (record { session = session; stage = (row_begun old session stored next).0 }) (row_begun old session stored next).1
    by_next None e store_is goes = record { came = ap (option_map (λ (row : Row). replies.Row stored.key row)) (row_of-held old session stored.cells e); over = refl }
    by_next (Some (at, p)) e store_is goes =
        let fetch : Fetching = whole_fetch p session in
        let split = row_steps-split old.index.entries session stored.cells at p (cell_found stored.cells at p e) (some_found stored.cells at p e) in
        let entries = same_entries old new fetch store_is in
        record {
          same =
              and_then-same (λ bytes. row_reply new session (with_value stored at bytes)) (λ bytes. row_reply old session (with_value stored at bytes)) (bytes_of new (fetch_after old fetch)) (λ b. same_reply old new fetch session (with_value stored at b) store_is)
              ∙ ap (λ (r : Result (List ℕ) FetchFault). option_and_then (λ bytes. row_reply old session (with_value stored at bytes)) (result_ok r)) goes.same
              ∙ sym (reply-split old session stored at p e);
          can = record { under_way = tt; can_step = goes.can };
          fewer =
              let others : row_steps new.index.entries session (slice_set stored.cells at Null) ≡ row_steps old.index.entries session (slice_set stored.cells at Null) = ap (λ (es : List Entry). row_steps es session (slice_set stored.cells at Null)) entries in
              omega (arith, goes.fewer, split, others);
          batch = λ h. goes.batch (held_new p.value_id (first_of (whole_span p)) (end_of (whole_span p)) session old.index.entries);
        }

-- a step within a row's value that goes on
pub value_goes : (old new : Store) (session : ℕ) (stored : Stored) (at : ℕ) (before after : Fetching) (read : Reading) → record { session = session; stage = stages.RowValue stored at before } ≡ read
    → new ≡ store_fetched old (Some before) → FetchGoesOn old before new after → GoesOn old read new (record { session = session; stage = stages.RowValue stored at after })
value_goes old new session stored at before after read is store_is goes =
    subst (λ (r : Reading). GoesOn old r new (record { session = session; stage = stages.RowValue stored at after })) is (record {
      same =
          and_then-same (λ bytes. row_reply new session (with_value stored at bytes)) (λ bytes. row_reply old session (with_value stored at bytes)) (bytes_of new after) (λ b. same_reply old new before session (with_value stored at b) store_is)
          ∙ ap (λ (r : Result (List ℕ) FetchFault). option_and_then (λ bytes. row_reply old session (with_value stored at bytes)) (result_ok r)) goes.same;
      can = record { under_way = tt; can_step = goes.can };
      fewer =
          let others : row_steps new.index.entries session (slice_set stored.cells at Null) ≡ row_steps old.index.entries session (slice_set stored.cells at Null) = ap (λ (es : List Entry). row_steps es session (slice_set stored.cells at Null)) (same_entries old new before store_is) in
          omega (arith, goes.fewer, others);
      batch = goes.batch;
    })

-- a step that has a row's value in hand
pub value_ends : (old new : Store) (session : ℕ) (stored : Stored) (at : ℕ) (before : Fetching) (bytes : List ℕ) (read : Reading) (left : ReadStage × ReadStep) → record { session = session; stage = stages.RowValue stored at before } ≡ read
    → new ≡ store_fetched old (Some before) → Walking.session (Fetching.walk before) ≡ session → 0 < steps_left old.index.entries before.walk → FetchEnds old before new bytes → left ≡ row_left (with_value stored at bytes)
    → Leaves old read new (record { session = session; stage = left.0 }) left.1
value_ends old new session stored at before bytes read left is store_is mine some ends left_is =
    subst (λ (r : Reading). Leaves old r new (record { session = session; stage = left.0 }) left.1) is
    (subst (λ (l : ReadStage × ReadStep). Leaves old (record { session = session; stage = stages.RowValue stored at before }) new (record { session = session; stage = l.0 }) l.1) (sym left_is)
    (by_next (next_out (slice_set stored.cells at (Inline bytes))) refl))
  where
    came : reply_of old (record { session = session; stage = stages.RowValue stored at before }) ≡ row_reply old session (with_value stored at bytes)
    came = ap (λ (r : Result (List ℕ) FetchFault). option_and_then (λ b. row_reply old session (with_value stored at b)) (result_ok r)) ends.came

    left_by : Option (ℕ × Pointer) → ReadStage × ReadStep
    left_by next = cond (is_some next) (stages.Row (with_value stored at bytes), More) (stages.Over, Done (replies.Row stored.key (row_in (slice_set stored.cells at (Inline bytes)))))

    held : row_steps old.index.entries session (slice_set stored.cells at (Inline bytes)) ≡ row_steps old.index.entries session (slice_set stored.cells at Null)
    held = row_steps-held old.index.entries session stored.cells at bytes

    others : row_steps new.index.entries session (slice_set stored.cells at (Inline bytes)) ≡ row_steps old.index.entries session (slice_set stored.cells at (Inline bytes))
    others = ap (λ (es : List Entry). row_steps es session (slice_set stored.cells at (Inline bytes))) (same_entries old new before store_is)

    free : pin_of new.index.pins session ≡ None
    free = subst (λ (s : ℕ). pin_of new.index.pins s ≡ None) mine ends.free

    by_next : (next : Option (ℕ × Pointer)) → next_out (slice_set stored.cells at (Inline bytes)) ≡ next
        → Leaves old (record { session = session; stage = stages.RowValue stored at before }) new (record { session = session; stage = (left_by next).0 }) (left_by next).1
    by_next None e = record { came = came ∙ ap (option_map (λ (row : Row). replies.Row stored.key row)) (row_of-held old session (slice_set stored.cells at (Inline bytes)) e); over = refl }
    by_next (Some (place, p)) e =
        let cells = slice_set stored.cells at (Inline bytes) in
        let split = row_steps-split old.index.entries session cells place p (cell_found cells place p e) (some_found cells place p e) in
        let first = new_steps old.index.entries p.value_id (first_of (whole_span p)) (end_of (whole_span p)) session in
        record {
          same = same_reply old new before session (with_value stored at bytes) store_is ∙ sym came;
          can = record {
            under_way = tt;
            can_step = subst (λ (n : Option (ℕ × Pointer)). IfSome (option_map (λ (x : ℕ × Pointer). whole_fetch x.1 session) n) (λ fetch. CanStep new.index fetch.walk)) (sym e) (begun new.index (Fetching.walk (whole_fetch p session)) p.value_id (first_of (whole_span p)) (end_of (whole_span p)) session refl free);
          };
          fewer = omega (arith, split, first, held, others, some);
          batch = λ h. subst (λ (n : Option (ℕ × Pointer)). IfSome (option_map (λ (x : ℕ × Pointer). whole_fetch x.1 session) n) (λ fetch. IsBatchHeld new.index.entries fetch.walk)) (sym e) (held_new p.value_id (first_of (whole_span p)) (end_of (whole_span p)) session new.index.entries);
        }

-- ---- a part

-- the first step of a part's value, or the part
pub part_begins : (old new : Store) (session : ℕ) (cell : Cell) (span : Span) (read : Reading) (first : ReadStage × ReadStep) → record { session = session; stage = stages.Part cell span } ≡ read
    → first ≡ part_begun old session span cell → new ≡ store_fetched old (part_fetch session span cell) → IfSome (part_fetch session span cell) (BeginsPart old new)
    → Leaves old read new (record { session = session; stage = first.0 }) first.1
part_begins old new session cell span read first is first_is store_is goes =
    subst (λ (r : Reading). Leaves old r new (record { session = session; stage = first.0 }) first.1) is
    (subst (λ (b : ReadStage × ReadStep). Leaves old (record { session = session; stage = stages.Part cell span }) new (record { session = session; stage = b.0 }) b.1) (sym first_is)
    (by_cell cell goes))
  where
    begun_by : Pointer → Bool → ReadStage × ReadStep
    begun_by p b = cond b (stages.PartValue (fetch_after old (new_fetch p span session)), More) (stages.Over, Done (replies.Bytes []))

    by_test : (p : Pointer) (b : Bool) → nat_lt span.start span.end ≡ b → IfSome (cond b (Some (new_fetch p span session)) None) (BeginsPart old new)
        → Leaves old (record { session = session; stage = stages.Part (Out p) span }) new (record { session = session; stage = (begun_by p b).0 }) (begun_by p b).1
    by_test p false e goes = record { came = ap (option_map (λ bytes. replies.Bytes bytes)) (bytes_of-empty old p span session e); over = refl }
    by_test p true e goes =
        let fetch : Fetching = new_fetch p span session in
        let due : part_fetch session span (Out p) ≡ Some fetch = ap (λ (b : Bool). cond b (Some fetch) None) e in
        record {
          same = ap (λ (r : Result (List ℕ) FetchFault). option_map (λ bytes. replies.Bytes bytes) (result_ok r)) goes.same;
          can = record { under_way = tt; can_step = goes.can };
          fewer = subst (λ (o : Option Fetching). steps_left new.index.entries (Fetching.walk (fetch_after old fetch)) < option_map_or (λ (f : Fetching). steps_left old.index.entries f.walk) o 1) (sym due) goes.fewer;
          batch = λ h. goes.batch (held_new p.value_id (first_of span) (end_of span) session old.index.entries);
        }

    by_cell : (cell : Cell) → IfSome (part_fetch session span cell) (BeginsPart old new)
        → Leaves old (record { session = session; stage = stages.Part cell span }) new (record { session = session; stage = (part_begun old session span cell).0 }) (part_begun old session span cell).1
    by_cell Null goes = record { came = refl; over = refl }
    by_cell (Inline value) goes = record { came = refl; over = refl }
    by_cell (Out p) goes = by_test p (nat_lt span.start span.end) refl goes
