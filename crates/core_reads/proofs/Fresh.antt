-- A read that has not begun: it may begin where its session has no pin, and holds nothing of a batch.
use Rattle.std.proofs.Common.{cond, refl, subst, sym}
use Rattle.std.specs.Prelude.{Bool, Contains, IfSome, IsSome, None, Option, Some, false, nat_lt, option_map, true, ℕ, ⊤, ◌≡◌}
use Rattle.external_pointer.specs.declared.external.Pointer.{Pointer}
use Rattle.tuple_layout.specs.declared.cell.Cell.TheVariants.{Inline, Null, Out}
use Rattle.slice_fetch.specs.declared.Span.{Span}
use Rattle.xact_status.specs.Xacts.{Xacts}
use Rattle.snapshot_registry.specs.Snapshots.{Snaps}
use Rattle.chunk_index.specs.Indexes.{Index}
use Rattle.chunk_index.specs.Pinned.{pin_of}
use Rattle.toast_store.proofs.Held.{held_new}
use Rattle.toast_store.proofs.Walked.{begun}
use Rattle.toast_store.specs.Fetches.{Fetching, end_of, first_of, new_fetch}
use Rattle.toast_store.specs.Walks.{CanStep, IsBatchHeld, Walking}
use Rattle.command_set.specs.declared.Reply.{Reply}
use Rattle.table_state.specs.declared.table.Table.{Table}
use Rattle.read_steps.specs.Columns.{next_out, whole_span}
use Rattle.read_steps.specs.Reads.{IsUnderWay, fetch_at, reply_of, whole_fetch}
use Rattle.read_steps.specs.declared.stage.ReadStage.{ReadStage}
use Rattle.core_state.specs.Facts.{KeepsId, ReadIsSound, ids_to_read}
use Rattle.core_state.specs.State.{uses_of, xid_of}
use Rattle.core_state.specs.declared.seat.Seat.{Seat}
use Rattle.read_steps.specs.declared.stage.ReadStage.TheVariants as read_stages

-- it has not begun
abbrev pub IsNew : ReadStage → Type 0
IsNew (read_stages.Row stored) = ⊤
IsNew (read_stages.RowValue stored at fetch) = ⊥
IsNew (read_stages.Part cell span) = ⊤
IsNew (read_stages.PartValue fetch) = ⊥
IsNew (read_stages.Ready bytes) = ⊤
IsNew read_stages.Over = ⊥

-- what is true of its fetch, if it wants one
record IsFreshFetch (index : Index) (s : ℕ) (fetch : Fetching) : Type 0 where
  own : Walking.session (Fetching.walk fetch) ≡ s
  can : CanStep index (Fetching.walk fetch)
  batch : IsBatchHeld index.entries (Fetching.walk fetch)

fresh_fetch : (index : Index) (s : ℕ) (pointer : Pointer) (span : Span) → pin_of index.pins s ≡ None → IsFreshFetch index s (new_fetch pointer span s)
fresh_fetch index s pointer span free = record {
  own = refl;
  can = begun index (Fetching.walk (new_fetch pointer span s)) pointer.value_id (first_of span) (end_of span) s refl free;
  batch = held_new pointer.value_id (first_of span) (end_of span) s index.entries;
}

fresh_at : (index : Index) (s : ℕ) (stage : ReadStage) → pin_of index.pins s ≡ None → IsNew stage → IfSome (fetch_at s stage) (IsFreshFetch index s)
fresh_at index s (read_stages.Row stored) free new = by (next_out stored.cells)
  where
    by : (next : Option (ℕ × Pointer)) → IfSome (option_map (λ (x : ℕ × Pointer). whole_fetch x.1 s) next) (IsFreshFetch index s)
    by None = tt
    by (Some (at, pointer)) = fresh_fetch index s pointer (whole_span pointer) free
fresh_at index s (read_stages.RowValue stored at fetch) free new = absurd new
fresh_at index s (read_stages.Part Null span) free new = tt
fresh_at index s (read_stages.Part (Inline value) span) free new = tt
fresh_at index s (read_stages.Part (Out pointer) span) free new = by (nat_lt span.start span.end)
  where
    by : (b : Bool) → IfSome (cond b (Some (new_fetch pointer span s)) None) (IsFreshFetch index s)
    by true = fresh_fetch index s pointer span free
    by false = tt
fresh_at index s (read_stages.PartValue fetch) free new = absurd new
fresh_at index s (read_stages.Ready bytes) free new = tt
fresh_at index s read_stages.Over free new = absurd new

under_way : (stage : ReadStage) → IsNew stage → IsUnderWay stage
under_way (read_stages.Row stored) new = tt
under_way (read_stages.RowValue stored at fetch) new = absurd new
under_way (read_stages.Part cell span) new = tt
under_way (read_stages.PartValue fetch) new = absurd new
under_way (read_stages.Ready bytes) new = tt
under_way read_stages.Over new = absurd new

-- so it is sound, where it comes to a reply and its values are kept
pub fresh_sound : (xacts : Xacts) (snaps : Snaps) (table : Table) (s : ℕ) (seat : Seat) (stage : ReadStage) (reply : Reply) → pin_of table.toast.index.pins s ≡ None → IsNew stage
    → reply_of table.toast (record { session = s; stage = stage }) ≡ Some reply → ((value_id : ℕ) → Contains (ids_to_read stage) value_id → KeepsId xacts snaps table (uses_of seat) (xid_of seat.state) value_id)
    → ReadIsSound xacts snaps table s seat (record { session = s; stage = stage })
fresh_sound xacts snaps table s seat stage reply free new comes kept =
    let fresh = fresh_at table.toast.index s stage free new in
    record {
      session = refl;
      walk = own (fetch_at s stage) fresh;
      can = record { under_way = under_way stage new; can_step = can (fetch_at s stage) fresh };
      comes = subst (λ (o : Option Reply). IsSome o) (sym comes) refl;
      batch = batch (fetch_at s stage) fresh;
      kept = kept;
    }
  where
    own : (f : Option Fetching) → IfSome f (IsFreshFetch table.toast.index s) → IfSome f (λ (fetch : Fetching). Walking.session (Fetching.walk fetch) ≡ s)
    own None fresh = tt
    own (Some fetch) fresh = fresh.own

    can : (f : Option Fetching) → IfSome f (IsFreshFetch table.toast.index s) → IfSome f (λ (fetch : Fetching). CanStep table.toast.index (Fetching.walk fetch))
    can None fresh = tt
    can (Some fetch) fresh = fresh.can

    batch : (f : Option Fetching) → IfSome f (IsFreshFetch table.toast.index s) → IfSome f (λ (fetch : Fetching). IsBatchHeld table.toast.index.entries (Fetching.walk fetch))
    batch None fresh = tt
    batch (Some fetch) fresh = fresh.batch
