-- What a read under way comes to, where one session's step leaves what it still has to read.
use Rattle.std.proofs.Common.{Contains, List, None, Result, Some, [], ap, inl, inr, refl, suc, zero, ℕ, ◌∙◌, ◌∷◌, ◌≡◌, ◌≢◌}
use Rattle.std.specs.Option.{option_and_then, option_map}
use Rattle.std.specs.Prelude.{IfSome, Option, slice_set}
use Rattle.std.specs.Result.{result_ok}
use Rattle.list_facts.proofs.Members.{cases_in, first_in, later_in, none_in_nil}
use Rattle.external_pointer.specs.declared.external.Pointer.{Pointer}
use Rattle.tuple_layout.specs.Places.{Row}
use Rattle.tuple_layout.specs.declared.cell.Cell.TheVariants.{Inline, Null, Out}
use Rattle.tuple_layout.specs.declared.cell.Cell.{Cell}
use Rattle.tuple_layout.specs.declared.cell.Stored.{Stored}
use Rattle.slice_fetch.specs.declared.Span.{Span}
use Rattle.chunk_index.specs.Pinned.{pin_of}
use Rattle.toast_store.proofs.Held.{held_new}
use Rattle.toast_store.specs.Fetches.{Fetching, end_of, first_of, new_fetch, outcome}
use Rattle.toast_store.specs.Others.{LeavesOthers}
use Rattle.toast_store.specs.Stores.{Store}
use Rattle.toast_store.specs.Values.{value_in}
use Rattle.toast_store.specs.Walks.{IsBatchHeld}
use Rattle.toast_store.specs.declared.fault.FetchFault.{FetchFault}
use Rattle.read_steps.specs.Columns.{whole_span}
use Rattle.read_steps.specs.Reads.{fetch_at, part_reply, reply_at, row_of, row_reply, value_of, with_value}
use Rattle.read_steps.specs.declared.stage.ReadStage.{ReadStage}
use Rattle.core_state.proofs.Lists.{only_one}
use Rattle.core_state.specs.Facts.{fetch_id, ids_in, ids_to_read}
use Rattle.command_set.specs.declared.Reply.TheVariants as replies
use Rattle.read_steps.specs.declared.stage.ReadStage.TheVariants as read_stages

-- what a step of a session leaves of a table's store for others: the id that it works under, and the one whose value it adds to, if any
pub record StepLeaves (own added : Option ℕ) (s : ℕ) (old new : Store) : Type 0 where
  pub others : LeavesOthers own s old new
  pub pins : (other : ℕ) → other ≢ s → pin_of new.index.pins other ≡ pin_of old.index.pins other
  pub values : (pointer : Pointer) → added ≢ Some pointer.value_id → value_in new pointer ≡ value_in old pointer
  pub fetches : (fetch : Fetching) → added ≢ Some (fetch_id fetch) → IsBatchHeld old.index.entries (Fetching.walk fetch) → outcome new fetch ≡ outcome old fetch

-- a fetch that has not begun comes to what it came to
new_left : (own added : Option ℕ) (s : ℕ) (old new : Store) (pointer : Pointer) (span : Span) (session : ℕ) → StepLeaves own added s old new → added ≢ Some pointer.value_id → outcome new (new_fetch pointer span session) ≡ outcome old (new_fetch pointer span session)
new_left own added s old new pointer span session leaves apart =
    leaves.fetches (new_fetch pointer span session) apart (held_new pointer.value_id (first_of span) (end_of span) session old.index.entries)

value_left : (own added : Option ℕ) (s : ℕ) (old new : Store) (session : ℕ) (cell : Cell) → StepLeaves own added s old new → ((value_id : ℕ) → Contains (ids_in (cell ∷ [])) value_id → added ≢ Some value_id)
    → value_of new session cell ≡ value_of old session cell
value_left own added s old new session Null leaves apart = refl
value_left own added s old new session (Inline value) leaves apart = refl
value_left own added s old new session (Out pointer) leaves apart =
    ap (λ (r : Result (List ℕ) FetchFault). option_map (λ (bytes : List ℕ). Some bytes) (result_ok r))
    (new_left own added s old new pointer (whole_span pointer) session leaves (apart pointer.value_id (first_in pointer.value_id [] pointer.value_id refl)))

-- the ids of one cell are among those of all
front_ids : (cell : Cell) (cells : List Cell) (value_id : ℕ) → Contains (ids_in (cell ∷ [])) value_id → Contains (ids_in (cell ∷ cells)) value_id
front_ids Null cells value_id e = absurd (none_in_nil value_id e)
front_ids (Inline value) cells value_id e = absurd (none_in_nil value_id e)
front_ids (Out pointer) cells value_id e = first_in pointer.value_id (ids_in cells) value_id (only_one pointer.value_id value_id e)

pub rest_ids : (cell : Cell) (cells : List Cell) (value_id : ℕ) → Contains (ids_in cells) value_id → Contains (ids_in (cell ∷ cells)) value_id
rest_ids Null cells value_id e = e
rest_ids (Inline value) cells value_id e = e
rest_ids (Out pointer) cells value_id e = later_in pointer.value_id (ids_in cells) value_id e

row_left : (own added : Option ℕ) (s : ℕ) (old new : Store) (session : ℕ) (cells : List Cell) → StepLeaves own added s old new → ((value_id : ℕ) → Contains (ids_in cells) value_id → added ≢ Some value_id)
    → row_of new session cells ≡ row_of old session cells
row_left own added s old new session [] leaves apart = refl
row_left own added s old new session (cell ∷ cells) leaves apart =
    ap (λ (o : Option (Option (List ℕ))). option_and_then (λ (value : Option (List ℕ)). option_map (λ (row : Row). value ∷ row) (row_of new session cells)) o)
    (value_left own added s old new session cell leaves (λ value_id e. apart value_id (front_ids cell cells value_id e)))
    ∙ ap (λ (r : Option Row). option_and_then (λ (value : Option (List ℕ)). option_map (λ (row : Row). value ∷ row) r) (value_of old session cell))
    (row_left own added s old new session cells leaves (λ value_id e. apart value_id (rest_ids cell cells value_id e)))

row_reply_left : (own added : Option ℕ) (s : ℕ) (old new : Store) (session : ℕ) (stored : Stored) → StepLeaves own added s old new → ((value_id : ℕ) → Contains (ids_in stored.cells) value_id → added ≢ Some value_id)
    → row_reply new session stored ≡ row_reply old session stored
row_reply_left own added s old new session stored leaves apart = ap (option_map (λ (row : Row). replies.Row stored.key row)) (row_left own added s old new session stored.cells leaves apart)

-- a row with a value in hand has fewer ids
in_hand_ids : (cells : List Cell) (at : ℕ) (bytes : List ℕ) (value_id : ℕ) → Contains (ids_in (slice_set cells at (Inline bytes))) value_id → Contains (ids_in cells) value_id
in_hand_ids [] at bytes value_id e = e
in_hand_ids (cell ∷ cells) zero bytes value_id e = rest_ids cell cells value_id e
in_hand_ids (Null ∷ cells) (suc at) bytes value_id e = in_hand_ids cells at bytes value_id e
in_hand_ids (Inline value ∷ cells) (suc at) bytes value_id e = in_hand_ids cells at bytes value_id e
in_hand_ids (Out pointer ∷ cells) (suc at) bytes value_id e = elim (cases_in pointer.value_id (ids_in (slice_set cells at (Inline bytes))) value_id e) [
  | inl h ↦ first_in pointer.value_id (ids_in cells) value_id h
  | inr h ↦ later_in pointer.value_id (ids_in cells) value_id (in_hand_ids cells at bytes value_id h)
]

part_left : (own added : Option ℕ) (s : ℕ) (old new : Store) (session : ℕ) (span : Span) (cell : Cell) → StepLeaves own added s old new → ((value_id : ℕ) → Contains (ids_in (cell ∷ [])) value_id → added ≢ Some value_id)
    → part_reply new session span cell ≡ part_reply old session span cell
part_left own added s old new session span Null leaves apart = refl
part_left own added s old new session span (Inline value) leaves apart = refl
part_left own added s old new session span (Out pointer) leaves apart =
    ap (λ (r : Result (List ℕ) FetchFault). option_map (λ (bytes : List ℕ). replies.Bytes bytes) (result_ok r))
    (new_left own added s old new pointer span session leaves (apart pointer.value_id (first_in pointer.value_id [] pointer.value_id refl)))

-- a read comes to the same reply where it has not to read the value that is added to
pub reply_left : (own added : Option ℕ) (s : ℕ) (old new : Store) (session : ℕ) (stage : ReadStage) → StepLeaves own added s old new → ((value_id : ℕ) → Contains (ids_to_read stage) value_id → added ≢ Some value_id)
    → IfSome (fetch_at session stage) (λ (fetch : Fetching). IsBatchHeld old.index.entries (Fetching.walk fetch)) → reply_at new session stage ≡ reply_at old session stage
reply_left own added s old new session (read_stages.Row stored) leaves apart held = row_reply_left own added s old new session stored leaves apart
reply_left own added s old new session (read_stages.RowValue stored at fetch) leaves apart held =
    ap (λ (r : Result (List ℕ) FetchFault). option_and_then (λ (bytes : List ℕ). row_reply new session (with_value stored at bytes)) (result_ok r))
    (leaves.fetches fetch (apart (fetch_id fetch) (first_in (fetch_id fetch) (ids_in stored.cells) (fetch_id fetch) refl)) held)
    ∙ by (result_ok (outcome old fetch))
  where
    by : (o : Option (List ℕ)) → option_and_then (λ (bytes : List ℕ). row_reply new session (with_value stored at bytes)) o ≡ option_and_then (λ (bytes : List ℕ). row_reply old session (with_value stored at bytes)) o
    by None = refl
    by (Some bytes) = row_reply_left own added s old new session (with_value stored at bytes) leaves (λ value_id e. apart value_id (later_in (fetch_id fetch) (ids_in stored.cells) value_id (in_hand_ids stored.cells at bytes value_id e)))
reply_left own added s old new session (read_stages.Part cell span) leaves apart held = part_left own added s old new session span cell leaves apart
reply_left own added s old new session (read_stages.PartValue fetch) leaves apart held =
    ap (λ (r : Result (List ℕ) FetchFault). option_map (λ (bytes : List ℕ). replies.Bytes bytes) (result_ok r)) (leaves.fetches fetch (apart (fetch_id fetch) (first_in (fetch_id fetch) [] (fetch_id fetch) refl)) held)
reply_left own added s old new session (read_stages.Ready bytes) leaves apart held = refl
reply_left own added s old new session read_stages.Over leaves apart held = refl
