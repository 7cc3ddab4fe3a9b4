-- What the moves between two steps keep.
use Rattle.std.proofs.Common.{◌≡◌, ℕ, ◌+◌, ◌-◌, ◌/◌, ◌≤◌, Bool, true, false, cond, nat_lt, Some, None, List, length, take, slice_get, refl, sym, ap, ◌∙◌, subst, arith}
use Rattle.std.specs.Prelude.{Ok}
use Rattle.std.proofs.lemmas.Bool.{false≢true}
use Rattle.std.proofs.lemmas.Bool.Decides.{nat_tests}
use Rattle.std.proofs.lemmas.List.{take_all}
use Rattle.std.proofs.lemmas.Option.{get_or_from_slice_get}
use Rattle.list_facts.proofs.Changed.{set_same, set_twice}
use Rattle.slot_page.specs.declared.line.Tid.{Tid}
use Rattle.slot_page.specs.Pages.{item_in}
use Rattle.external_pointer.specs.declared.external.Pointer.{Pointer}
use Rattle.external_pointer.specs.Spelling.{IsInRange}
use Rattle.slice_fetch.specs.Spans.{bytes_in, chunk_size}
use Rattle.tuple_layout.specs.Schemas.{HasColumns}
use Rattle.tuple_layout.specs.declared.cell.Cell.{Cell}
use Rattle.tuple_layout.specs.declared.cell.Cell.TheVariants.{Inline, Null, Out}
use Rattle.tuple_layout.specs.Sizes.{Width, largest_tuple, least_out}
use Rattle.tuple_layout.specs.Tuples.{cell_widths}
use Rattle.tuple_toaster.specs.Pushed.{all_moved_size}
use Rattle.xact_status.specs.Xacts.{Xacts}
use Rattle.snapshot_registry.specs.Snapshots.{Snaps}
use Rattle.row_versions.specs.declared.version.Version.{Version}
use Rattle.row_versions.specs.Relations.{IsRelation}
use Rattle.toast_store.specs.Stores.{Store, IsStore, is_used}
use Rattle.toast_store.specs.Values.{Whole, value_in}
use Rattle.toast_store.specs.Walks.{Walking}
use Rattle.toast_store.specs.declared.walk.WalkStage.TheVariants as walks
use Rattle.toast_store.specs.Begun.{IsOverSome}
use Rattle.toast_store.specs.PieceJobs.{new_pieces}
use Rattle.toast_store.specs.Fetches.{Fetching, end_of, first_of, new_fetch}
use Rattle.toast_store.proofs.Walked.{begun}
use Rattle.toast_store.proofs.Wholes.{outcome_whole}
use Rattle.table_state.specs.declared.table.Table.{Table}
use Rattle.rewrite_facts.specs.Chunks.{cells_at, put_at}
use Rattle.rewrite_facts.specs.Copies.{IsCopyable, id_at, inline_widths, row_in_old}
use Rattle.rewrite_facts.specs.Holds.{IsFilling, IsPlacing, IsReading, RewriteHolds, StandsAt}
use Rattle.rewrite_facts.specs.Rewrites.{Rewriting, at_stage, busy_at, inserter_at, restored, with_cell}
use Rattle.rewrite_facts.specs.declared.stage.RowCopy.{RowCopy}
use Rattle.rewrite_facts.specs.declared.stage.RewriteStage.{RewriteStage}
use Rattle.rewrite_facts.specs.declared.stage.RewriteStage.TheVariants.{Visiting, Filling, Reading, Placing, Laying, Ready}
use Rattle.rewrite_facts.proofs.Cells.{pointer_sizes}
use Rattle.rewrite_facts.proofs.Chunks.{chunks_planned, chunks_restaged}
use Rattle.rewrite_facts.proofs.Columns.{planned}
use Rattle.rewrite_facts.proofs.Sizes.{inline_is, row_fits}
use Rattle.rewrite_facts.proofs.Steps.{hold_restaged, hold_visited}
use Rattle.rewrite_facts.proofs.Values.{hold_kept, hold_shared}
use Rattle.rewrite_full.specs.Moves.{ArePassed, CanCopy, HasInline, HaveNoPointer, IsNextOf, IsPointerOf, IsSharedAt, IsStop, copy_of, whole_span}

-- ---- visits

pub stop_copyable : (xacts : Xacts) (snaps : Snaps) (old : Table) (place : Tid) (version : Version) → CanCopy xacts snaps old → IsStop xacts snaps old.rows.pages place → item_in old.rows.pages place ≡ Some version → IsCopyable old version
stop_copyable xacts snaps old place version can stop there = can.each place version there (stop.chosen version there)

-- the next version that is copied
pub visited_version : (xacts : Xacts) (snaps : Snaps) (old : Table) (r : Rewriting) (to : Tid) (version : Version) (copy : RowCopy) → r.stage ≡ Visiting → ArePassed xacts snaps old.rows.pages r.place to → IsStop xacts snaps old.rows.pages to → item_in old.rows.pages to ≡ Some version → IsCopyable old version
    → copy ≡ copy_of old.rows.schema.storages version → RewriteHolds xacts snaps old r → RewriteHolds xacts snaps old (record r { place = to; stage = Filling copy })
visited_version xacts snaps old r to version copy stage passed stop there can is holds = subst (λ (c : RowCopy). RewriteHolds xacts snaps old (record r { place = to; stage = Filling c })) (sym is)
    (hold_visited xacts snaps old r to (Filling (copy_of old.rows.schema.storages version)) (ap busy_at stage) refl (ap cells_at stage) refl passed.not_before passed.none (λ v at same. stop.chosen v at) (filling, subst (StandsAt old r) stage holds.stage) holds)
  where
    filling : IsFilling old to (copy_of old.rows.schema.storages version)
    filling = record {
      was = version;
      of = record { old_one = record { there = there; copyable = can }; key = refl; stamp = refl; ids = refl };
      has = can.stored.has;
      limits = can.cells;
      row = refl;
      whole = can.whole;
    }

-- or the end
pub visited_end : (xacts : Xacts) (snaps : Snaps) (old : Table) (r : Rewriting) (to : Tid) → r.stage ≡ Visiting → ArePassed xacts snaps old.rows.pages r.place to → IsStop xacts snaps old.rows.pages to → item_in old.rows.pages to ≡ None
    → RewriteHolds xacts snaps old r → RewriteHolds xacts snaps old (record r { place = to; stage = Ready })
visited_end xacts snaps old r to stage passed stop none holds = hold_visited xacts snaps old r to Ready (ap busy_at stage) refl (ap cells_at stage) refl passed.not_before passed.none (λ v at same. stop.chosen v at) (stop.end none) holds

-- ---- reads

-- what holds of a rewrite at a stage
pub stands_here : (xacts : Xacts) (snaps : Snaps) (old : Table) (r : Rewriting) (stage : RewriteStage) → r.stage ≡ stage → RewriteHolds xacts snaps old r → StandsAt old r stage
stands_here xacts snaps old r stage is holds = subst (StandsAt old r) is holds.stage

-- a copy without a pointer fits with all out that may go
pub filling_fits : (old : Table) (place : Tid) (copy : RowCopy) → IsRelation old.rows → HasColumns (length old.rows.schema.storages) → HaveNoPointer copy.cells → IsFilling old place copy → all_moved_size old.rows.schema.storages (cell_widths copy.cells) ≤ largest_tuple
filling_fits old place copy sound columns none filling =
    let widths : cell_widths copy.cells ≡ inline_widths (row_in_old old filling.was) = inline_is old.toast copy.cells none ∙ ap inline_widths filling.row in
    subst (λ (ws : List Width). all_moved_size old.rows.schema.storages ws ≤ largest_tuple) (sym widths)
    (row_fits old filling.was columns.1 filling.of.old_one.copyable (sound.sized place filling.was filling.of.old_one.there).most)

-- the fetch of a whole value begins
begun_some : (p : Pointer) (session : ℕ) → least_out ≤ p.size → IsOverSome (Walking.stage (Fetching.walk (new_fetch p (whole_span p) session)))
begun_some p session long = by_test (nat_lt 0 (end_of (whole_span p))) refl
  where
    positive : nat_lt 0 p.size ≡ true
    positive = grind (arith, nat_tests)

    end_is : end_of (whole_span p) ≡ (p.size - 1) / chunk_size + 1
    end_is = ap (λ (b : Bool). cond b ((p.size - 1) / chunk_size + 1) (first_of (whole_span p))) positive

    more : nat_lt 0 ((p.size - 1) / chunk_size + 1) ≡ true
    more = grind (arith, nat_tests)

    by_test : (b : Bool) → nat_lt 0 (end_of (whole_span p)) ≡ b → IsOverSome (cond b (walks.Asking None) walks.Empty)
    by_test true e = tt
    by_test false e = absurd (false≢true (sym e ∙ ap (nat_lt 0) end_is ∙ more))

pub filled_on : (xacts : Xacts) (snaps : Snaps) (old : Table) (r : Rewriting) (copy : RowCopy) (next : RewriteStage) → r.stage ≡ Filling copy → IsStore old.toast → IsNextOf old.rows.schema.storages r.session copy next → RewriteHolds xacts snaps old r → RewriteHolds xacts snaps old (at_stage r next)
filled_on xacts snaps old r copy Visiting stage sound is holds = absurd is
filled_on xacts snaps old r copy (Filling same) stage sound is holds = absurd is
filled_on xacts snaps old r copy (Laying same columns at pieces) stage sound is holds = absurd is
filled_on xacts snaps old r copy Ready stage sound is holds = absurd is
filled_on xacts snaps old r copy (Placing same columns at) stage sound is holds =
    let stands = stands_here xacts snaps old r (Filling copy) stage holds in
    hold_restaged xacts snaps old r (Placing same columns at) (ap busy_at stage) refl (ap (λ (c : RowCopy). Some c.stamp.inserter) is.0 ∙ sym (ap inserter_at stage))
    (subst (λ (n : ℕ). IsPlacing old r.toast None r.place same columns n) (sym is.1.1.1) (subst (λ (c : RowCopy). IsPlacing old r.toast None r.place c columns 0) (sym is.0) (planned old r.toast r.place copy columns is.1.0 is.1.1.0 stands.0)), stands.1) holds
    (chunks_planned old.toast holds.copies r (Placing same columns at) (sym (ap busy_at stage)) (sym (ap put_at stage)) (ap cells_at stage) (subst HaveNoPointer (ap RowCopy.cells (sym is.0)) is.1.0) holds.chunks)
filled_on xacts snaps old r copy (Reading same at fetch) stage sound is holds =
    let stands = stands_here xacts snaps old r (Filling copy) stage holds in
    let p : Pointer = is.1.0 in
    let sizes = pointer_sizes old.rows.schema.storages copy.cells at p stands.0.has.one_each stands.0.limits is.1.1 in
    let whole : Whole old.toast p (value_in old.toast p) = stands.0.whole.each at p is.1.1 in
    let span = whole_span p in
    let reading : IsReading old r.session copy at (new_fetch p span r.session) = record {
      pointer = p;
      here = is.1.1;
      comes_to = outcome_whole old.toast p span r.session (value_in old.toast p) (omega arith) (omega arith) sound whole ∙ ap (λ (bytes : List ℕ). Ok bytes) (all_bytes p (value_in old.toast p) whole.size);
      session_is = refl;
      can = begun old.toast.index (Fetching.walk (new_fetch p span r.session)) p.value_id (first_of span) (end_of span) r.session refl stands.1;
      some = begun_some p r.session sizes.0;
    } in
    hold_restaged xacts snaps old r (Reading same at fetch) (ap busy_at stage) refl (ap (λ (c : RowCopy). Some c.stamp.inserter) is.0 ∙ sym (ap inserter_at stage))
    (subst (IsFilling old r.place) (sym is.0) stands.0, subst (λ (c : RowCopy). IsReading old r.session c at fetch) (sym is.0) (subst (IsReading old r.session copy at) (sym is.1.2) reading)) holds
    (chunks_restaged old.toast holds.copies r (Reading same at fetch) (sym (ap busy_at stage)) (sym (ap put_at stage)) (sym (ap cells_at stage)) holds.chunks)
  where
    all_bytes : (p : Pointer) (value : List ℕ) → p.size ≡ length value → bytes_in (whole_span p) value ≡ value
    all_bytes p value size = let whole : p.size - 0 ≡ p.size = omega arith in ap (λ (n : ℕ). take n value) whole ∙ take_all p.size value (omega (arith, size))

-- ---- columns

-- the next column has an inline value
pub next_inline : (old : Table) (new : Store) (place : Tid) (copy : RowCopy) (columns : List ℕ) (at column : ℕ) → slice_get columns at ≡ Some column → IsPlacing old new None place copy columns at → HasInline copy column
next_inline old new place copy columns at column here placing =
    let can = placing.push.values at column (omega arith) here in
    record { value = can.value; from = can.from; inline = can.inline; least = can.least; most = can.most }

-- a value that the new relation has
pub passed_one : (xacts : Xacts) (snaps : Snaps) (old : Table) (r : Rewriting) (copy after : RowCopy) (columns : List ℕ) (at : ℕ) (found : ℕ × ℕ) (toast_rel : ℕ) (pointer : Pointer) → toast_rel ≡ r.toast.rel.rel_id → IsSharedAt r.toast copy columns at found → IsPointerOf copy found.0 found.1 toast_rel pointer → IsInRange pointer
    → after ≡ with_cell copy found.0 (Out pointer) → RewriteHolds xacts snaps old (at_stage r (Placing copy columns at)) → RewriteHolds xacts snaps old (at_stage r (Placing after columns (at + 1)))
passed_one xacts snaps old r copy after columns at found toast_rel pointer own shared of in_range is holds = subst (λ (c : RowCopy). RewriteHolds xacts snaps old (at_stage r (Placing c columns (at + 1)))) (sym is)
    (hold_shared xacts snaps old (at_stage r (Placing copy columns at)) copy columns at found.0 pointer of.value refl shared.column of.inline (shared.id ∙ ap (λ (n : ℕ). Some n) (sym id)) (ap (is_used r.toast) id ∙ shared.used) in_range (ap (λ (p : Pointer). p.size) of.is) (ap (λ (p : Pointer). p.toast_rel) of.is ∙ own) holds)
  where
    id : pointer.value_id ≡ found.1
    id = ap (λ (p : Pointer). p.value_id) of.is

-- a copy whose next value is taken out has it back
pub taken_restored : (copy taken : RowCopy) (columns : List ℕ) (at column : ℕ) (value : List ℕ) → slice_get columns at ≡ Some column → slice_get copy.cells (column - 1) ≡ Some (Inline value) → taken ≡ with_cell copy column Null → restored taken columns at value ≡ copy
taken_restored copy taken columns at column value here inline is =
    ap (λ (c : RowCopy). restored c columns at value) is ∙ ap (λ (n : ℕ). with_cell (with_cell copy column Null) n (Inline value)) (get_or_from_slice_get columns at column 0 here)
    ∙ ap (λ (cells : List Cell). record copy { cells = cells }) (set_twice copy.cells (column - 1) Null (Inline value) ∙ set_same copy.cells (column - 1) (Inline value) inline)

-- a value that was out of line comes on its way
pub passed_kept : (xacts : Xacts) (snaps : Snaps) (old : Table) (r : Rewriting) (copy taken : RowCopy) (columns : List ℕ) (at column id : ℕ) (value : List ℕ) → slice_get columns at ≡ Some column → id_at copy.ids (column - 1) ≡ Some id → is_used r.toast id ≡ false → taken ≡ with_cell copy column Null → slice_get copy.cells (column - 1) ≡ Some (Inline value)
    → RewriteHolds xacts snaps old (at_stage r (Placing copy columns at)) → RewriteHolds xacts snaps old (at_stage r (Laying taken columns at (new_pieces r.xid id value)))
passed_kept xacts snaps old r copy taken columns at column id value here had unused is inline holds =
    hold_kept xacts snaps old (at_stage r (Placing copy columns at)) copy taken columns at column id value refl (taken_restored copy taken columns at column value here inline is) here inline had unused holds
