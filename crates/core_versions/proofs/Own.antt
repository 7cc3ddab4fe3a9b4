-- What is true of the session that makes a version step, afterwards.
use Rattle.std.proofs.Common.{ap, arith, refl, sym, ◌∙◌}
use Rattle.std.proofs.lemmas.Bool.Decides.{nat_tests}
use Rattle.std.specs.List.{IsDistinct}
use Rattle.std.specs.Prelude.{Bool, Contains, List, Some, [], false, length, nat_eq, nat_lt, not, option_map, slice_get, true, ℕ, ◌<◌, ◌==◌, ◌∷◌, ◌≡◌, ◌≤◌}
use Rattle.list_facts.proofs.Members.{filter_holds, none_in_nil}
use Rattle.external_pointer.specs.declared.external.Pointer.{Pointer}
use Rattle.tuple_layout.specs.declared.Storage.{Storage}
use Rattle.xact_status.specs.Xacts.{Xacts}
use Rattle.snapshot_registry.specs.Snapshots.{Snaps}
use Rattle.row_versions.specs.Relations.{Pages}
use Rattle.row_versions.specs.declared.keys.KeyEntry.{KeyEntry}
use Rattle.chunk_index.specs.Pinned.{pin_of}
use Rattle.value_ids.specs.Ids.{Pool}
use Rattle.value_ids.specs.declared.pool.InHand.{InHand}
use Rattle.lock_table.specs.declared.held.SessionLocks.{SessionLocks}
use Rattle.toast_store.proofs.Held.{held_new}
use Rattle.toast_store.proofs.Marking.{marking_new}
use Rattle.toast_store.proofs.Walked.{begun}
use Rattle.toast_store.specs.Begun.{IsOverSome}
use Rattle.toast_store.specs.Marks.{Marking, new_mark}
use Rattle.toast_store.specs.Stores.{Store}
use Rattle.toast_store.specs.Values.{piece_count}
use Rattle.toast_store.specs.Walks.{new_walk}
use Rattle.table_state.specs.Events.{with_rows}
use Rattle.table_state.specs.Tables.{AreCellsOf, toast_rel_of}
use Rattle.table_state.specs.declared.table.Table.{Table}
use Rattle.write_steps.specs.Standing.{AreSized, HoldsNoPin, IsMarkingAt}
use Rattle.write_steps.specs.Writes.{Writing}
use Rattle.write_steps.specs.declared.stage.Owner.{Owner}
use Rattle.write_steps.specs.declared.stage.WriteStage.{WriteStage}
use Rattle.core_state.proofs.Answered.{within}
use Rattle.core_state.specs.Facts.{HandsAreSound, IsDropping, IsOwnWrite, PinsAreSound, WriteIsSound, write_has_batch}
use Rattle.core_state.specs.Lines.{ids_released}
use Rattle.core_state.specs.declared.seat.Job.{Job}
use Rattle.core_state.specs.declared.seat.State.{State}
use Rattle.core_versions.proofs.Tables.{Steps, toast_same}
use Rattle.core_state.specs.declared.seat.Job.TheVariants as jobs
use Rattle.write_steps.specs.declared.stage.WriteStage.TheVariants as stages

-- ---- ids and pins

-- no id is in hand for a session that has given up its own
pub hands_none : (ids : Pool) (s : ℕ) → HandsAreSound (ids_released ids s).in_hand s jobs.Idle
hands_none ids s = record { each = λ one e f. clash one (filter_holds (λ (held : InHand). not (held.session == s)) ids.in_hand one e).1 f }
  where
    clash : (one : InHand) → not (one.session == s) ≡ true → one.session ≡ s → ⊥
    clash one e f =
        let same : (one.session == s) ≡ true = grind (arith, nat_tests, f) in
        let other : not (one.session == s) ≡ false = ap not same in
        absurd (cc)

-- a write that has no batch has no pin, whatever follows it
pub pins_none : (tables later : List Table) (t s : ℕ) (pages : Pages) (entries : List KeyEntry) (write : Writing) (job : Job) → Steps tables later t pages entries → write_has_batch write.stage ≡ false → PinsAreSound tables s (jobs.Writing t write) → PinsAreSound later s job
pins_none tables later t s pages entries write job steps none old = record {
  each = λ k leaf e.
      let may = old.each k leaf (ap (λ (store : Store). pin_of store.index.pins s) (sym (toast_same tables later t k pages entries steps)) ∙ e) in
      absurd (clash (write_has_batch write.stage) may.1 none);
}
  where
    clash : (b : Bool) → b ≡ true → b ≡ false → ⊥
    clash b e f = cc

-- ---- a mark that follows

cells_nil : (rel : ℕ) (schema : List Storage) → AreCellsOf rel schema []
cells_nil rel [] = tt
cells_nil rel (storage ∷ schema) = tt

distinct_nil : IsDistinct nat_eq []
unfolding IsDistinct
distinct_nil = tt

some_pieces : (pointer : Pointer) (session : ℕ) → 0 < pointer.size → IsOverSome (new_walk pointer.value_id 0 (piece_count pointer.size) session).stage
some_pieces pointer session sized = by (nat_lt 0 (piece_count pointer.size)) refl
  where
    by : (b : Bool) → nat_lt 0 (piece_count pointer.size) ≡ b → IsOverSome (new_walk pointer.value_id 0 (piece_count pointer.size) session).stage
    by true e = rw e tt
    by false e =
        let some : 0 < piece_count pointer.size = omega (arith, sized) in
        absurd (grind (arith, nat_tests, e, some))

-- the write is next to mark the first of what it drops
marking_at : (owner : Owner) (dropped : List Pointer) (first : Pointer) → AreSized dropped → length dropped ≤ 8 → slice_get dropped 0 ≡ Some first → IsMarkingAt owner dropped 0 (new_mark first owner.xid owner.session)
marking_at owner dropped first sized few e = record {
  sized = sized;
  there = within dropped 0 first e;
  few = omega (arith, few);
  walk = some_pieces first owner.session (sized.each 0 first e);
}

-- what it relies on then
pub marking_stands : (xacts : Xacts) (snaps : Snaps) (ids : Pool) (held : SessionLocks) (table : Table) (pages : Pages) (entries : List KeyEntry) (s t : ℕ) (state : State) (owner : Owner) (stage : WriteStage) (dropped : List Pointer) (first : Pointer)
    → IsOwnWrite held s t state (record { owner = owner; stage = stage }) → HoldsNoPin table.toast owner → AreSized dropped → length dropped ≤ 8 → slice_get dropped 0 ≡ Some first
    → ((pointer : Pointer) → Contains dropped pointer → IsDropping xacts snaps (with_rows table pages entries) owner.xid pointer)
    → WriteIsSound xacts snaps ids held (with_rows table pages entries) s t state (record { owner = owner; stage = stages.Marking dropped 0 (new_mark first owner.xid owner.session) })
marking_stands xacts snaps ids held table pages entries s t state owner stage dropped first own free sized few e dropping = record {
  own = record {
    session = own.session;
    of_table = own.of_table;
    xid = own.xid;
    stage = marking_at owner dropped first sized few e;
    mark = (refl, ap (option_map (λ (pointer : Pointer). pointer.value_id)) e);
    claimed = λ key h. absurd (none_in_nil key h);
  };
  stands = λ log. record {
    session = refl;
    can = begun table.toast.index (Marking.walk (new_mark first owner.xid owner.session)) first.value_id 0 (piece_count first.size) owner.session refl free;
    batch = held_new first.value_id 0 (piece_count first.size) owner.session table.toast.index.entries;
    marking = marking_new first.value_id (piece_count first.size) owner.xid owner.session table.toast;
  };
  rows = record { old = λ row version h at. absurd (cc); alone = λ stored h f. absurd (cc) };
  new = record {
    key = λ new h. absurd (cc);
    cells = cells_nil (toast_rel_of t) table.rows.schema.storages;
    pushed = λ column h. absurd (none_in_nil column h);
    kept = λ column pointer h. absurd (cc);
    distinct = distinct_nil;
  };
  fresh = record { each = λ value_id h. absurd (none_in_nil value_id h) };
  dropping = λ pointer h. dropping pointer h;
}
