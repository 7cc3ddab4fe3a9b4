-- What a read relies on where it begins, through its own steps and past the events of others.
use Rattle.std.proofs.Common.{ℕ, ◌≡◌, Bool, true, false, cond, nat_lt, inl, inr, ◌+◌, ◌<◌, suc, Option, Some, None, Result, List, [], ◌∷◌, length, get_or, arith, refl, sym, ap, subst}
use Rattle.std.specs.Prelude.{IsSome, IfSome}
use Rattle.std.specs.Option.{option_and_then, option_map}
use Rattle.std.proofs.lemmas.Bool.{cases_lt}
use Rattle.std.specs.Result.{result_ok}
use Rattle.external_pointer.specs.declared.external.Pointer.{Pointer}
use Rattle.slot_page.specs.declared.line.Tid.{Tid}
use Rattle.slice_fetch.specs.declared.Span.{Span}
use Rattle.tuple_layout.specs.Places as places
use Rattle.tuple_layout.specs.declared.cell.Cell.{Cell}
use Rattle.tuple_layout.specs.declared.cell.Stored.{Stored}
use Rattle.tuple_layout.specs.declared.cell.Cell.TheVariants.{Null, Inline, Out}
use Rattle.xact_status.specs.Xacts.{Xacts}
use Rattle.command_set.specs.declared.Reply.{Reply}
use Rattle.command_set.specs.declared.Reply.TheVariants as replies
use Rattle.chunk_relation.specs.Relations.{Pages}
use Rattle.chunk_index.specs.declared.entry.Entry.{Entry}
use Rattle.chunk_index.specs.Pinned.{pin_of}
use Rattle.chunk_index.specs.Indexes.{Index}
use Rattle.toast_store.specs.Stores.{Store, IsUnnamed, NamesChunk}
use Rattle.toast_store.specs.Walks.{Walking, CanStep, IsBatchHeld, new_walk}
use Rattle.toast_store.specs.Fetches.{Fetching, end_of, fetch_after, first_of, new_fetch, outcome}
use Rattle.toast_store.specs.Between.{Pins}
use Rattle.toast_store.specs.declared.fault.FetchFault.{FetchFault}
use Rattle.toast_store.proofs.Ahead.{outcome_left, pin_leaves_ahead}
use Rattle.toast_store.proofs.Held.{held_new}
use Rattle.toast_store.proofs.Walked.{begun, can_still, entries_walked}
use Rattle.read_steps.specs.Columns.{next_out, whole_span}
use Rattle.read_steps.specs.Reads.{CanRead, GoesOn, IsBatchKept, Reading, bytes_due, bytes_of, fetch_at, part_fetch, part_step, read_after, reply_at, reply_of, row_fetch, row_of, store_fetched, store_read, stepped, value_of, whole_fetch}
use Rattle.read_steps.specs.Reads as reads
use Rattle.read_steps.specs.declared.stage.ReadStage.{ReadStage}
use Rattle.read_steps.specs.declared.stage.ReadStep.{ReadStep}
use Rattle.read_steps.specs.declared.stage.ReadStep.TheVariants.{More, Done}
use Rattle.read_steps.specs.declared.stage.ReadStage.TheVariants.{Row, RowValue, Part, PartValue, Ready, Over}
use Rattle.read_trials.specs.Readers.{IsLaid, IsPartOf, IsReader, PassesBy}

-- ---- where it begins

mapped_some : {X Y : Type 0} (f : X → Y) (o : Option X) → IsSome o → IsSome (option_map f o)
mapped_some f None some = some
mapped_some f (Some x) some = refl

-- a session without a pin may begin to read a part of a value out of line
part_begins : (index : Index) (pointer : Pointer) (span : Span) (session : ℕ) → pin_of index.pins session ≡ None → IfSome (part_fetch session span (Out pointer)) (λ fetch. CanStep index (Fetching.walk fetch))
part_begins index pointer span session free = by_test (nat_lt span.start span.end)
  where
    by_test : (b : Bool) → IfSome (cond b (Some (new_fetch pointer span session)) None) (λ fetch. CanStep index (Fetching.walk fetch))
    by_test true = begun index (new_walk pointer.value_id (first_of span) (end_of span) session) pointer.value_id (first_of span) (end_of span) session refl free
    by_test false = tt

pub can_begin : (store : Store) (pointer : Pointer) (span : Span) (session : ℕ) → pin_of store.index.pins session ≡ None → CanRead store (record { session = session; stage = Part (Out pointer) span })
can_begin store pointer span session free = record { under_way = tt; can_step = part_begins store.index pointer span session free }

pub part_comes : (store : Store) (pointer : Pointer) (span : Span) (session : ℕ) → IsSome (bytes_of store (new_fetch pointer span session)) → IsSome (reply_of store (record { session = session; stage = Part (Out pointer) span }))
part_comes store pointer span session there = mapped_some (λ bytes. replies.Bytes bytes) (bytes_of store (new_fetch pointer span session)) there

-- nothing of a batch is left then
part_held : (entries : List Entry) (pointer : Pointer) (span : Span) (session : ℕ) → IfSome (part_fetch session span (Out pointer)) (λ fetch. IsBatchHeld entries (Fetching.walk fetch))
part_held entries pointer span session = by_test (nat_lt span.start span.end)
  where
    by_test : (b : Bool) → IfSome (cond b (Some (new_fetch pointer span session)) None) (λ fetch. IsBatchHeld entries (Fetching.walk fetch))
    by_test true = held_new pointer.value_id (first_of span) (end_of span) session entries
    by_test false = tt

pub reader_begun : (store : Store) (pointer : Pointer) (span : Span) (session : ℕ) → pin_of store.index.pins session ≡ None → IsSome (bytes_of store (new_fetch pointer span session)) → IsReader pointer.value_id store (record { session = session; stage = Part (Out pointer) span })
reader_begun store pointer span session free there = record {
  can = can_begin store pointer span session free;
  comes = part_comes store pointer span session there;
  batch = part_held store.index.entries pointer span session;
  part = refl;
}

-- so it may begin to read a row
pub row_begins : (index : Index) (cells : List Cell) (session : ℕ) → pin_of index.pins session ≡ None → IfSome (row_fetch cells session) (λ fetch. CanStep index (Fetching.walk fetch))
row_begins index cells session free = by_next (next_out cells)
  where
    by_next : (next : Option (ℕ × Pointer)) → IfSome (option_map (λ (x : ℕ × Pointer). whole_fetch x.1 session) next) (λ fetch. CanStep index (Fetching.walk fetch))
    by_next None = tt
    by_next (Some (at, pointer)) = begun index (new_walk pointer.value_id (first_of (whole_span pointer)) (end_of (whole_span pointer)) session) pointer.value_id (first_of (whole_span pointer)) (end_of (whole_span pointer)) session refl free

pub row_can : (store : Store) (stored : Stored) (session : ℕ) → pin_of store.index.pins session ≡ None → CanRead store (record { session = session; stage = Row stored })
row_can store stored session free = record { under_way = tt; can_step = row_begins store.index stored.cells session free }

-- and it comes to its reply where each value is there
pub value_there : (store : Store) (pointer : Pointer) (session : ℕ) → IsSome (bytes_of store (whole_fetch pointer session)) → IsSome (value_of store session (Out pointer))
value_there store pointer session there = mapped_some (λ bytes. Some bytes) (bytes_of store (whole_fetch pointer session)) there

pub row_there : (store : Store) (session : ℕ) (cells : List Cell) → ((k : ℕ) → k < length cells → IsSome (value_of store session (get_or cells k Null))) → IsSome (row_of store session cells)
row_there store session [] there = refl
row_there store session (cell ∷ cells) there = by_both (value_of store session cell) (row_of store session cells) (there 0 (omega arith)) (row_there store session cells (λ k below. there (suc k) (omega (arith, below))))
  where
    by_both : (o : Option (Option (List ℕ))) (r : Option places.Row) → IsSome o → IsSome r → IsSome (option_and_then (λ value. option_map (λ row. value ∷ row) r) o)
    by_both None r first rest = first
    by_both (Some value) r first rest = mapped_some (λ row. value ∷ row) r rest

pub row_comes : (store : Store) (stored : Stored) (session : ℕ) → IsSome (row_of store session stored.cells) → IsSome (reply_of store (record { session = session; stage = Row stored }))
row_comes store stored session there = mapped_some (λ row. replies.Row stored.key row) (row_of store session stored.cells) there

-- ---- pins that change

pub outcome_pins : (old new : Store) (fetch : Fetching) → Pins old new → outcome new fetch ≡ outcome old fetch
outcome_pins old new fetch pins = outcome_left old new fetch (pin_leaves_ahead old new fetch.walk pins)

pub value_pins : (old new : Store) (session : ℕ) (cell : Cell) → Pins old new → IsSome (value_of old session cell) → IsSome (value_of new session cell)
value_pins old new session Null pins there = there
value_pins old new session (Inline value) pins there = there
value_pins old new session (Out pointer) pins there = subst (λ (r : Result (List ℕ) FetchFault). IsSome (option_map (λ bytes. Some bytes) (result_ok r))) (sym (outcome_pins old new (whole_fetch pointer session) pins)) there

-- one more value of a row is there
pub one_more_there : (old new : Store) (session n : ℕ) (cells : List Cell) → Pins old new → ((k : ℕ) → k < n → IsSome (value_of old session (get_or cells k Null))) → IsSome (value_of new session (get_or cells n Null)) → (k : ℕ) → k < n + 1 → IsSome (value_of new session (get_or cells k Null))
one_more_there old new session n cells pins before own k below = elim (cases_lt k n) [
  | inl less ↦ value_pins old new session (get_or cells k Null) pins (before k less)
  | inr last ↦ let is : n ≡ k = omega (arith, last, below) in subst (λ j. IsSome (value_of new session (get_or cells j Null))) is own
]

pub laid_pins : (old new : Store) (value_id : ℕ) (laid : Option Tid) → Pins old new → IsLaid old value_id laid → IsLaid new value_id laid
laid_pins old new value_id None pins is = tt
laid_pins old new value_id (Some tid) pins is = (subst (λ (pages : Pages). NamesChunk pages (record { value_id = value_id; seq = 99; tid = tid })) (sym pins.pages) is.0, subst (λ (es : List Entry). IsUnnamed es tid) (sym pins.entries) is.1)

-- ---- a step of the read

fetched_pins : (store : Store) (o : Option Fetching) → Pins store (store_fetched store o)
fetched_pins store None = record { pages = refl; entries = refl }
fetched_pins store (Some fetch) = record { pages = refl; entries = entries_walked store.index (Fetching.walk fetch) }

pub step_pins : (old new : Store) (read : Reading) → new ≡ store_read old read → Pins old new
step_pins old new read is = subst (Pins old) (sym is) (fetched_pins old (fetch_at read.session read.stage))

-- a part is read on, until it is over
part_on : (store : Store) (session value_id : ℕ) (stage : ReadStage) → IsPartOf value_id stage → reads.IsUnderWay (stepped store session stage).0 → IsPartOf value_id (stepped store session stage).0
part_on store session value_id (Row stored) part going = absurd part
part_on store session value_id (RowValue stored at fetch) part going = absurd part
part_on store session value_id (Part Null span) part going = absurd part
part_on store session value_id (Part (Inline value) span) part going = absurd part
part_on store session value_id (Part (Out pointer) span) part going = by_test (nat_lt span.start span.end) going
  where
    begun_at : Bool → ReadStage × ReadStep
    begun_at b = cond b (PartValue (fetch_after store (new_fetch pointer span session)), More) (Over, Done (replies.Bytes []))

    by_test : (b : Bool) → reads.IsUnderWay (begun_at b).0 → IsPartOf value_id (begun_at b).0
    by_test true on = part
    by_test false on = absurd on
part_on store session value_id (PartValue fetch) part going = by_bytes (bytes_due store fetch) going
  where
    by_bytes : (o : Option (List ℕ)) → reads.IsUnderWay (part_step store fetch o).0 → IsPartOf value_id (part_step store fetch o).0
    by_bytes None on = part
    by_bytes (Some bytes) on = absurd on
part_on store session value_id (Ready bytes) part going = absurd part
part_on store session value_id Over part going = absurd part

pub reader_stepped : (value_id : ℕ) (old new : Store) (before after : Reading) → IsReader value_id old before → after ≡ read_after old before → GoesOn old before new after → IsReader value_id new after
reader_stepped value_id old new before after reader is goes = record {
  can = goes.can;
  comes = subst (λ (o : Option Reply). IsSome o) (sym goes.same) reader.comes;
  batch = goes.batch reader.batch;
  part = subst (λ (r : Reading). IsPartOf value_id r.stage) (sym is) (part_on old before.session value_id before.stage reader.part (subst (λ (r : Reading). reads.IsUnderWay r.stage) is goes.can.under_way));
}

-- ---- an event of others

-- the fetch of which the next step is one, if it is, is of the value
fetch_of : (session value_id : ℕ) (stage : ReadStage) → IsPartOf value_id stage → IfSome (fetch_at session stage) (λ fetch. Walking.value_id (Fetching.walk fetch) ≡ value_id)
fetch_of session value_id (Row stored) part = absurd part
fetch_of session value_id (RowValue stored at fetch) part = absurd part
fetch_of session value_id (Part Null span) part = absurd part
fetch_of session value_id (Part (Inline value) span) part = absurd part
fetch_of session value_id (Part (Out pointer) span) part = by_test (nat_lt span.start span.end)
  where
    by_test : (b : Bool) → IfSome (cond b (Some (new_fetch pointer span session)) None) (λ fetch. Walking.value_id (Fetching.walk fetch) ≡ value_id)
    by_test true = part
    by_test false = tt
fetch_of session value_id (PartValue fetch) part = part
fetch_of session value_id (Ready bytes) part = absurd part
fetch_of session value_id Over part = absurd part

module _ (xacts : Xacts) (value_id : ℕ) (old new : Store) (passes : PassesBy xacts value_id old new) where
  still_steps : (o : Option Fetching) → IfSome o (λ fetch. CanStep old.index (Fetching.walk fetch)) → IfSome o (λ fetch. CanStep new.index (Fetching.walk fetch))
  still_steps None can = tt
  still_steps (Some fetch) can = can_still old.index new.index fetch.walk (ap (λ pins. pin_of pins (Walking.session (Fetching.walk fetch))) passes.pins) can

  still_held : (o : Option Fetching) → IfSome o (λ fetch. Walking.value_id (Fetching.walk fetch) ≡ value_id) → IfSome o (λ fetch. IsBatchHeld old.index.entries (Fetching.walk fetch)) → IfSome o (λ fetch. IsBatchHeld new.index.entries (Fetching.walk fetch))
  still_held None own held = tt
  still_held (Some fetch) own held = passes.batches fetch.walk own held

  bytes_same : (fetch : Fetching) → outcome new fetch ≡ outcome old fetch → option_map (λ bytes. replies.Bytes bytes) (bytes_of new fetch) ≡ option_map (λ bytes. replies.Bytes bytes) (bytes_of old fetch)
  bytes_same fetch same = ap (λ (r : Result (List ℕ) FetchFault). option_map (λ bytes. replies.Bytes bytes) (result_ok r)) same

  still_comes : (session : ℕ) (stage : ReadStage) → IsPartOf value_id stage → IfSome (fetch_at session stage) (λ fetch. IsBatchHeld old.index.entries (Fetching.walk fetch)) → reply_at new session stage ≡ reply_at old session stage
  still_comes session (Row stored) part held = absurd part
  still_comes session (RowValue stored at fetch) part held = absurd part
  still_comes session (Part Null span) part held = absurd part
  still_comes session (Part (Inline value) span) part held = absurd part
  still_comes session (Part (Out pointer) span) part held = bytes_same (new_fetch pointer span session) (passes.fetches (new_fetch pointer span session) part (held_new pointer.value_id (first_of span) (end_of span) session old.index.entries))
  still_comes session (PartValue fetch) part held = bytes_same fetch (passes.fetches fetch part held)
  still_comes session (Ready bytes) part held = absurd part
  still_comes session Over part held = absurd part

pub reader_passed : (xacts : Xacts) (value_id : ℕ) (old new : Store) (read : Reading) → PassesBy xacts value_id old new → IsReader value_id old read → IsReader value_id new read
reader_passed xacts value_id old new read passes reader = record {
  can = record { under_way = reader.can.under_way; can_step = still_steps xacts value_id old new passes (fetch_at read.session read.stage) reader.can.can_step };
  comes = subst (λ (o : Option Reply). IsSome o) (sym (still_comes xacts value_id old new passes read.session read.stage reader.part reader.batch)) reader.comes;
  batch = still_held xacts value_id old new passes (fetch_at read.session read.stage) (fetch_of read.session value_id read.stage reader.part) reader.batch;
  part = reader.part;
}
