-- Fetching the bytes of a span: the chunks in range are compared with the pieces that the value must have there.
use Rattle.std.specs.Prelude.{ℕ, ◌≡◌, ◌+◌, ◌-◌, ◌/◌, ◌<◌, ◌≤◌, ◌==◌, nat_lt, not, if◌then◌else◌, Result, Ok, Err, Option, Some, None, List, [], ◌∷◌, ◌++◌, length, ⊤}
use Rattle.std.specs.Option.{option_and_then}
use Rattle.external_pointer.specs.declared.external.Pointer.{Pointer}
use Rattle.slot_page.specs.Pages.{item_in}
use Rattle.slice_fetch.specs.declared.Span.{Span}
use Rattle.slice_fetch.specs.Spans.{bytes_in, chunk_size, seen_from}
use Rattle.chunk_relation.specs.declared.chunk.Chunk.{Chunk}
use Rattle.chunk_index.specs.Pinned.{without_pin}
use Rattle.toast_store.specs.Stores.{Store, IsStore, named_by}
use Rattle.toast_store.specs.Values.{Whole, piece_count, piece_size}
use Rattle.toast_store.specs.Walks.{Walking, CanStep, IsBatchHeld, new_walk, ahead, entry_at, index_walked, is_over, steps_left, walk_after}
use Rattle.toast_store.specs.declared.fault.FetchFault.{FetchFault}
use Rattle.toast_store.specs.declared.fault.FetchFault.TheVariants.{MissingChunk, UnexpectedChunk, ChunkSize, Memory}
use Rattle.toast_store.specs.declared.fetch.FetchStep.{FetchStep}
use Rattle.toast_store.specs.declared.fetch.FetchStep.TheVariants.{More, Done}
use Rattle.toast_store.specs.declared.walk.WalkStage.TheVariants.{Over}

-- a fetch: the size of the value, the span, the bytes that it has of it, the number of the next piece, and its walk
pub record Fetching : Type 0 where
  pub size : ℕ
  pub span : Span
  pub got : List ℕ
  pub next : ℕ
  pub walk : Walking

-- what is true of each fetch: the span lies in the value, and no piece beyond the value's was taken
pub record IsFetch (fetch : Fetching) : Type 0 where
  pub ordered : fetch.span.start ≤ fetch.span.end
  pub within : fetch.span.end ≤ fetch.size
  pub next : fetch.next ≤ piece_count fetch.size

-- the number of the first piece of a span
abbrev pub first_of : Span → ℕ
first_of span = span.start / chunk_size

-- the number of the piece after its last, which is the first's where the span is empty
abbrev pub end_of : Span → ℕ
end_of span = if nat_lt span.start span.end then (span.end - 1) / chunk_size + 1 else first_of span

-- a fetch before its first step
abbrev pub new_fetch : Pointer → Span → ℕ → Fetching
new_fetch pointer span session = record { size = pointer.size; span = span; got = []; next = first_of span; walk = new_walk pointer.value_id (first_of span) (end_of span) session }

-- the part of a span that lies in a piece
abbrev pub part_of : Span → ℕ → List ℕ → List ℕ
part_of span seq bytes = bytes_in (seen_from seq span) bytes

-- what comes of comparing chunks, in order, with the pieces from one up to the end that a value of this size has: the span's bytes behind those that are there, or the first fault
abbrev pub compared : ℕ → ℕ → Span → ℕ → List ℕ → List Chunk → Result (List ℕ) FetchFault
compared size end span seq got [] = if nat_lt seq end then Err (MissingChunk seq) else Ok got
compared size end span seq got (chunk ∷ chunks) =
    if not (chunk.seq == seq) then Err (UnexpectedChunk chunk.seq seq) else
    (if not (length chunk.bytes == piece_size size seq) then Err (ChunkSize (length chunk.bytes) (piece_size size seq)) else
    compared size end span (seq + 1) (got ++ part_of span seq chunk.bytes) chunks)

-- the same of chunks that a fetch still finds
abbrev pub comparison : Fetching → List Chunk → Result (List ℕ) FetchFault
comparison fetch chunks = compared fetch.size fetch.walk.end fetch.span fetch.next fetch.got chunks

-- what a fetch comes to where the store stays as it is
abbrev pub outcome : Store → Fetching → Result (List ℕ) FetchFault
outcome store fetch = comparison fetch (named_by store.rel.pages (ahead store.index.entries fetch.walk))

-- a fetch that has read a chunk, if there is one: with its part of the span, and the next piece wanted
abbrev pub with_chunk : Fetching → Option Chunk → Fetching
with_chunk fetch None = fetch
with_chunk fetch (Some chunk) = record fetch { got = fetch.got ++ part_of fetch.span fetch.next chunk.bytes; next = fetch.next + 1 }

-- the chunk that the entry of the next step names, if it takes an entry and that names a chunk
abbrev pub next_chunk : Store → Walking → Option Chunk
next_chunk store walk = option_and_then (λ e. item_in store.rel.pages e.tid) (entry_at walk.stage)

-- a fetch after a step that finds no fault
abbrev pub fetch_after : Store → Fetching → Fetching
fetch_after store fetch = let read = with_chunk fetch (next_chunk store fetch.walk) in record read { walk = walk_after store.index fetch.walk }

-- why a chunk is refused where the piece with a number is wanted of a value of this size: for its number, or else for its length
abbrev pub refusal : ℕ → ℕ → Chunk → Option FetchFault
refusal size wanted chunk =
    if not (chunk.seq == wanted) then Some (UnexpectedChunk chunk.seq wanted) else
    (if not (length chunk.bytes == piece_size size wanted) then Some (ChunkSize (length chunk.bytes) (piece_size size wanted)) else None)

-- what a step answers, by why its chunk is refused, if it is, and else by what it leaves: a walk that goes on, or one that is over, with a piece still wanted or with all bytes
abbrev pub answer_by : Fetching → Option FetchFault → Result FetchStep FetchFault
answer_by after (Some fault) = Err fault
answer_by after None = if not (is_over after.walk.stage) then Ok More else (if nat_lt after.next after.walk.end then Err (MissingChunk after.next) else Ok (Done after.got))

-- what a step answers where there is memory: a chunk is refused in the step that reads it, and an end that comes too early in the step that ends the walk
abbrev pub answer_due : Store → Fetching → Result FetchStep FetchFault
answer_due store fetch = answer_by (fetch_after store fetch) (option_and_then (refusal fetch.size fetch.next) (next_chunk store fetch.walk))

-- a store in which a pointer is whole gives the span's bytes
abbrev pub FetchesWhole : Pointer → Span → Fetching → Type 0
FetchesWhole pointer span fetch = (store : Store) (value : List ℕ) → IsStore store → Whole store pointer value → outcome store fetch ≡ Ok (bytes_in span value)

-- what a step answers tells what the fetch comes to, or leaves it
abbrev pub IsFetchAnswer : Result (List ℕ) FetchFault → Result (List ℕ) FetchFault → FetchStep → Type 0
IsFetchAnswer before after More = after ≡ before
IsFetchAnswer before after (Done bytes) = before ≡ Ok bytes

-- what a step leaves: a fetch that goes on, or the bytes that it has
abbrev pub IsFetchLeft : Fetching → Fetching → FetchStep → Type 0
IsFetchLeft after new More = new ≡ after
IsFetchLeft after new (Done bytes) = bytes ≡ after.got

-- a fetch with steps left may make the next one in this store; one that is done is over
abbrev pub IsFetchReady : Store → Fetching → FetchStep → Type 0
IsFetchReady store fetch More = CanStep store.index fetch.walk
IsFetchReady store fetch (Done bytes) = fetch.walk.stage ≡ Over

-- a fault is the one that was to come, where it is not want of memory
abbrev pub IsFetchCause : {X : Type 0} → Result X FetchFault → FetchFault → Type 0
IsFetchCause due (MissingChunk seq) = due ≡ Err (MissingChunk seq)
IsFetchCause due (UnexpectedChunk got wanted) = due ≡ Err (UnexpectedChunk got wanted)
IsFetchCause due (ChunkSize got wanted) = due ≡ Err (ChunkSize got wanted)
IsFetchCause due Memory = ⊤

-- after want of memory a fetch is as before; after another fault it is over
abbrev pub IsFetchAfter : FetchFault → Fetching → Fetching → Type 0
IsFetchAfter Memory old new = new ≡ old
IsFetchAfter (MissingChunk seq) old new = new.walk.stage ≡ Over
IsFetchAfter (UnexpectedChunk got wanted) old new = new.walk.stage ≡ Over
IsFetchAfter (ChunkSize got wanted) old new = new.walk.stage ≡ Over

-- the store after a fault: as before, but that the session has no pin unless it was for want of memory
abbrev pub store_after_fault : Store → ℕ → FetchFault → Store
store_after_fault store session Memory = store
store_after_fault store session (MissingChunk seq) = record store { index = record store.index { pins = without_pin store.index.pins session } }
store_after_fault store session (UnexpectedChunk got wanted) = record store { index = record store.index { pins = without_pin store.index.pins session } }
store_after_fault store session (ChunkSize got wanted) = record store { index = record store.index { pins = without_pin store.index.pins session } }

-- a step that leaves some steps has taken one of them
abbrev pub IsFetchProgress : ℕ → ℕ → FetchStep → Type 0
IsFetchProgress before after More = (0 < after) × (after < before)
IsFetchProgress before after (Done bytes) = after ≡ 0

-- what a step does that finds no fault
pub record FetchSteps (old : Store) (before : Fetching) (new : Store) (after : Fetching) (step : FetchStep) : Type 0 where
  -- what the fetch comes to is kept, or answered; and what this step answers is told by the store and the fetch before it
  pub answer : IsFetchAnswer (outcome old before) (outcome new after) step
  pub told : answer_due old before ≡ Ok step
  -- the fetch and the store are then exactly these: a batch pins its leaf, and its last entry drops the pin
  pub fetch : IsFetchLeft (fetch_after old before) after step
  pub walk : after.walk ≡ walk_after old.index before.walk
  pub store : new ≡ record old { index = index_walked old.index before.walk }
  -- what the next step relies on, what is left of the batch, and that fewer steps are left
  pub ready : IsFetchReady new after step
  pub batch : IsBatchHeld old.index.entries before.walk → IsBatchHeld new.index.entries after.walk
  pub left : IsFetchProgress (steps_left old.index.entries before.walk) (steps_left new.index.entries after.walk) step

-- what a step does that ends in a fault
pub record FetchFails (old : Store) (before : Fetching) (new : Store) (after : Fetching) (fault : FetchFault) : Type 0 where
  -- but for want of memory, the fault is what the fetch comes to, and what this step was to answer
  pub cause : IsFetchCause (outcome old before) fault
  pub due : IsFetchCause (answer_due old before) fault
  -- the pin is dropped and the fetch over; after want of memory all is as before
  pub fetch : IsFetchAfter fault before after
  pub store : new ≡ store_after_fault old before.walk.session fault
