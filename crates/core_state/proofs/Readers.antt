-- What a read still comes to where each fetch comes to what it came to.
use Rattle.std.proofs.Common.{ap, refl, ◌∙◌}
use Rattle.std.specs.Prelude.{List, None, Option, Result, Some, [], option_and_then, option_map, ℕ, ◌∷◌, ◌≡◌}
use Rattle.std.specs.Result.{result_ok}
use Rattle.tuple_layout.specs.Places.{Row}
use Rattle.tuple_layout.specs.declared.cell.Cell.{Cell}
use Rattle.tuple_layout.specs.declared.cell.Cell.TheVariants.{Inline, Null, Out}
use Rattle.tuple_layout.specs.declared.cell.Stored.{Stored}
use Rattle.slice_fetch.specs.declared.Span.{Span}
use Rattle.toast_store.specs.Fetches.{Fetching, new_fetch, outcome}
use Rattle.toast_store.specs.Stores.{Store}
use Rattle.toast_store.specs.declared.fault.FetchFault.{FetchFault}
use Rattle.read_steps.specs.Reads.{part_reply, reply_at, row_of, row_reply, value_of, whole_fetch, with_value}
use Rattle.read_steps.specs.declared.stage.ReadStage.{ReadStage}
use Rattle.command_set.specs.declared.Reply.TheVariants as replies
use Rattle.read_steps.specs.declared.stage.ReadStage.TheVariants as read_stages

value_same : (old new : Store) (session : ℕ) (cell : Cell) → ((fetch : Fetching) → outcome new fetch ≡ outcome old fetch) → value_of new session cell ≡ value_of old session cell
value_same old new session Null same = refl
value_same old new session (Inline value) same = refl
value_same old new session (Out pointer) same = ap (λ (r : Result (List ℕ) FetchFault). option_map (λ (bytes : List ℕ). Some bytes) (result_ok r)) (same (whole_fetch pointer session))

row_same : (old new : Store) (session : ℕ) (cells : List Cell) → ((fetch : Fetching) → outcome new fetch ≡ outcome old fetch) → row_of new session cells ≡ row_of old session cells
row_same old new session [] same = refl
row_same old new session (cell ∷ cells) same =
    ap (λ (o : Option (Option (List ℕ))). option_and_then (λ (value : Option (List ℕ)). option_map (λ (row : Row). value ∷ row) (row_of new session cells)) o) (value_same old new session cell same)
    ∙ ap (λ (r : Option Row). option_and_then (λ (value : Option (List ℕ)). option_map (λ (row : Row). value ∷ row) r) (value_of old session cell)) (row_same old new session cells same)

row_reply_same : (old new : Store) (session : ℕ) (stored : Stored) → ((fetch : Fetching) → outcome new fetch ≡ outcome old fetch) → row_reply new session stored ≡ row_reply old session stored
row_reply_same old new session stored same = ap (option_map (λ (row : Row). replies.Row stored.key row)) (row_same old new session stored.cells same)

part_same : (old new : Store) (session : ℕ) (span : Span) (cell : Cell) → ((fetch : Fetching) → outcome new fetch ≡ outcome old fetch) → part_reply new session span cell ≡ part_reply old session span cell
part_same old new session span Null same = refl
part_same old new session span (Inline value) same = refl
part_same old new session span (Out pointer) same = ap (λ (r : Result (List ℕ) FetchFault). option_map (λ (bytes : List ℕ). replies.Bytes bytes) (result_ok r)) (same (new_fetch pointer span session))

pub reply_same : (old new : Store) (session : ℕ) (stage : ReadStage) → ((fetch : Fetching) → outcome new fetch ≡ outcome old fetch) → reply_at new session stage ≡ reply_at old session stage
reply_same old new session (read_stages.Row stored) same = row_reply_same old new session stored same
reply_same old new session (read_stages.RowValue stored at fetch) same =
    ap (λ (r : Result (List ℕ) FetchFault). option_and_then (λ (bytes : List ℕ). row_reply new session (with_value stored at bytes)) (result_ok r)) (same fetch)
    ∙ by (result_ok (outcome old fetch))
  where
    by : (o : Option (List ℕ)) → option_and_then (λ (bytes : List ℕ). row_reply new session (with_value stored at bytes)) o ≡ option_and_then (λ (bytes : List ℕ). row_reply old session (with_value stored at bytes)) o
    by None = refl
    by (Some bytes) = row_reply_same old new session (with_value stored at bytes) same
reply_same old new session (read_stages.Part cell span) same = part_same old new session span cell same
reply_same old new session (read_stages.PartValue fetch) same = ap (λ (r : Result (List ℕ) FetchFault). option_map (λ (bytes : List ℕ). replies.Bytes bytes) (result_ok r)) (same fetch)
reply_same old new session (read_stages.Ready bytes) same = refl
reply_same old new session read_stages.Over same = refl
