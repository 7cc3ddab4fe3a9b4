-- How many steps are left after what takes none, and after each event.
use Rattle.std.proofs.Common.{◌≡◌, ℕ, ◌+◌, ◌≤◌, Some, None, List, slice_get, sym, ap, ◌∙◌, subst, arith}
use Rattle.std.specs.Prelude.{Ok, Result}
use Rattle.slot_page.specs.declared.line.Tid.{Tid}
use Rattle.slot_page.specs.Pages.{item_in}
use Rattle.external_pointer.specs.declared.external.Pointer.{Pointer}
use Rattle.tuple_layout.specs.declared.cell.Cell.TheVariants.{Null, Out}
use Rattle.xact_status.specs.Xacts.{Xacts}
use Rattle.snapshot_registry.specs.Snapshots.{Snaps}
use Rattle.value_ids.specs.Ids.{Pool}
use Rattle.row_versions.specs.declared.version.Version.{Version}
use Rattle.toast_store.specs.declared.fault.FetchFault.{FetchFault}
use Rattle.toast_store.specs.Stores.{Store}
use Rattle.toast_store.specs.Values.{value_in}
use Rattle.toast_store.specs.Walks.{steps_left}
use Rattle.toast_store.specs.Fetches.{FetchSteps, Fetching, end_of, first_of}
use Rattle.toast_store.specs.PieceJobs.{Piecing, new_pieces}
use Rattle.toast_store.specs.declared.fetch.FetchStep.{FetchStep}
use Rattle.toast_store.specs.declared.fetch.FetchStep.TheVariants as told
use Rattle.table_state.specs.declared.table.Table.{Table}
use Rattle.rewrite_facts.specs.Copies.{next_place}
use Rattle.rewrite_facts.specs.Holds.{CanGoOut, IsPlacing, IsReading}
use Rattle.rewrite_facts.specs.Left.{IsProgress, left_at}
use Rattle.rewrite_facts.specs.Rewrites.{Rewriting, answer_at, column_at, with_cell, with_value}
use Rattle.rewrite_facts.specs.declared.stage.RowCopy.{RowCopy}
use Rattle.rewrite_facts.specs.declared.stage.RewriteStage.{RewriteStage}
use Rattle.rewrite_facts.specs.declared.stage.RewriteStage.TheVariants.{Visiting, Filling, Reading, Placing, Laying, Ready}
use Rattle.rewrite_facts.proofs.Left.{left_begun, left_out, left_over, left_pinned, left_placing, left_read, left_reading, left_some, rest_here, rest_later}
use Rattle.rewrite_facts.proofs.Reading.{walked_pins, with_values}
use Rattle.rewrite_full.specs.Moves.{ArePassed, HasFewer, HasNoMore, IsNextOf, copy_of, whole_span}
use Rattle.rewrite_full.specs.Stages.{DrawsOn, IsBegun, Ends, Goes, LaidOn, LaysOn}

-- ---- what takes no step

-- a visit
pub more_visited : (xacts : Xacts) (snaps : Snaps) (old : Table) (r : Rewriting) (to : Tid) (stage : RewriteStage) (version : Version) (copy : RowCopy) → stage ≡ Visiting → ArePassed xacts snaps old.rows.pages r.place to → item_in old.rows.pages to ≡ Some version
    → copy ≡ copy_of old.rows.schema.storages version → HasNoMore old r stage (record r { place = to }) (Filling copy)
more_visited xacts snaps old r to stage version copy stage_is passed there is =
    let here = rest_here old to version there in
    let later = rest_later old r.place to passed.not_before in
    let before = ap (left_at old r.place) stage_is in
    let filling = ap (λ (c : RowCopy). left_at old to (Filling c)) is in
    omega (arith, here, later, before, filling)

-- the next read, or the columns
pub more_filled : (old : Table) (r : Rewriting) (stage next : RewriteStage) (copy : RowCopy) (session : ℕ) → stage ≡ Filling copy → IsNextOf old.rows.schema.storages session copy next → HasNoMore old r stage r next
more_filled old r stage next copy session stage_is is = subst (λ (s : RewriteStage). HasNoMore old r s r next) (sym stage_is) (by_next next is)
  where
    by_next : (s : RewriteStage) → IsNextOf old.rows.schema.storages session copy s → HasNoMore old r (Filling copy) r s
    by_next Visiting at = absurd at
    by_next (Filling same) at = absurd at
    by_next (Laying same columns n pieces) at = absurd at
    by_next Ready at = absurd at
    by_next (Reading same n fetch) at =
        let p : Pointer = at.1.0 in
        let copies = ap (λ (c : RowCopy). left_at old r.place (Reading c n fetch)) at.0 in
        omega (arith, copies, left_reading old r.place copy n (first_of (whole_span p)) (end_of (whole_span p)) session p fetch at.1.1 (ap (λ (f : Fetching). f.walk) at.1.2))
    by_next (Placing same columns n) at =
        let copies = ap (λ (c : RowCopy). left_at old r.place (Placing c columns n)) at.0 in
        omega (arith, copies, left_placing old r.place copy columns n at.1.0)

-- a value that the new relation has
pub more_passed : (old : Table) (place : Tid) (copy after : RowCopy) (columns : List ℕ) (at column : ℕ) (pointer : Pointer) → after ≡ with_cell copy column (Out pointer) → left_at old place (Placing after columns (at + 1)) ≤ left_at old place (Placing copy columns at)
more_passed old place copy after columns at column pointer is = subst (λ (c : RowCopy). left_at old place (Placing c columns (at + 1)) ≤ left_at old place (Placing copy columns at)) (sym is) (left_out old place copy columns at column pointer)

-- a value that was out of line comes on its way, past those before it
pub more_kept : (old : Table) (r : Rewriting) (stage next : RewriteStage) (first copy : RowCopy) (columns : List ℕ) (from at column xid id : ℕ) → stage ≡ Placing first columns from → CanGoOut old.rows.schema.storages copy.cells column → IsBegun xid copy columns at column id next
    → HasNoMore old r (Placing first columns from) r (Placing copy columns at) → HasNoMore old r stage r next
more_kept old r stage next first copy columns from at column xid id stage_is can begun passed =
    let before = ap (left_at old r.place) stage_is in
    let after = ap (left_at old r.place) begun.stage_is in
    omega (arith, before, after, passed, left_begun old r.place copy columns at column xid id begun.value can begun.inline)

-- ---- events

-- the old store has other pins
left_later : (old : Table) (fetch after : Fetching) (later : Store) (t : FetchStep) (place : Tid) (stage : RewriteStage) → FetchSteps old.toast fetch later after t → left_at (with_values old later) place stage ≡ left_at old place stage
left_later old fetch after later t place stage steps = ap (λ (s : Store). left_at (with_values old s) place stage) (walked_pins old.toast later fetch.walk steps.store) ∙ left_pinned old later.index.pins place stage

-- a read goes on
pub fewer_reading : (old : Table) (r : Rewriting) (stage : RewriteStage) (copy : RowCopy) (at : ℕ) (fetch after : Fetching) (later : Store) → stage ≡ Reading copy at fetch → FetchSteps old.toast fetch later after told.More → HasFewer old r stage (with_values old later) r (Reading copy at after)
fewer_reading old r stage copy at fetch after later stage_is steps =
    let before = ap (left_at old r.place) stage_is in
    let same = left_later old fetch after later told.More r.place (Reading copy at after) steps in
    let entries = ap (λ (s : Store). steps_left s.index.entries after.walk) (walked_pins old.toast later fetch.walk steps.store) in
    left_some (with_values old later) r.place (left_at old r.place stage) (Reading copy at after) (omega (arith, before, same, entries, steps.left.1))

-- or has its value
pub fewer_read : (old : Table) (r : Rewriting) (stage : RewriteStage) (copy filled : RowCopy) (at : ℕ) (fetch after : Fetching) (later : Store) (value : List ℕ) → stage ≡ Reading copy at fetch → IsReading old r.session copy at fetch → FetchSteps old.toast fetch later after (told.Done value) → filled ≡ with_value copy at value
    → HasFewer old r stage (with_values old later) r (Filling filled)
fewer_read old r stage copy filled at fetch after later value stage_is was steps is =
    let before = ap (left_at old r.place) stage_is in
    let answer : ◌≡◌ {A = Result (List ℕ) FetchFault} (Ok value) (Ok (value_in old.toast was.pointer)) = sym steps.answer ∙ was.comes_to in
    let value_is : value ≡ value_in old.toast was.pointer = cc in
    let same = left_later old fetch after later (told.Done value) r.place (Filling (with_value copy at value)) steps in
    subst (λ (c : RowCopy). HasFewer old r stage (with_values old later) r (Filling c)) (sym is)
    (left_some (with_values old later) r.place (left_at old r.place stage) (Filling (with_value copy at value)) (omega (arith, before, same, left_read old r.place copy at fetch was.pointer value was.here value_is was.some was.can.0)))

pub fewer_drawn : (old : Table) (ids ids_after : Pool) (r : Rewriting) (stage next : RewriteStage) (copy : RowCopy) (columns : List ℕ) (at column : ℕ) → stage ≡ Placing copy columns at → slice_get columns at ≡ Some column → IsPlacing old r.toast None r.place copy columns at
    → DrawsOn old.toast ids r copy columns at column ids_after next → HasFewer old r stage old r next
fewer_drawn old ids ids_after r stage next copy columns at column stage_is here placing draws =
    let can = placing.push.values at column (omega arith) here in
    let before = ap (left_at old r.place) stage_is in
    subst (HasFewer old r stage old r) (sym draws.begun.stage_is) (left_some old r.place (left_at old r.place stage) (Laying (with_cell copy column Null) columns at (new_pieces r.xid draws.id draws.begun.value)) (omega (arith, before, left_begun old r.place copy columns at column r.xid draws.id draws.begun.value can draws.begun.inline)))

pub fewer_laid : (old : Table) (r after : Rewriting) (stage next : RewriteStage) (copy : RowCopy) (columns : List ℕ) (at : ℕ) (job : Piecing) (toast_rel : ℕ) → after.place ≡ r.place → stage ≡ Laying copy columns at job → LaysOn r.toast copy columns at job toast_rel after.toast next → HasFewer old r stage old after next
fewer_laid old r after stage next copy columns at job toast_rel place stage_is lays = subst (λ (t : Tid). IsProgress (left_at old r.place stage) (left_at old t next) (answer_at next)) (sym place) (by_laid lays.laid)
  where
    before : left_at old r.place stage ≡ left_at old r.place (Laying copy columns at job)
    before = ap (left_at old r.place) stage_is

    by_laid : LaidOn copy columns at lays.left toast_rel next → HasFewer old r stage old r next
    by_laid (Goes going is) = subst (HasFewer old r stage old r) (sym is) (left_some old r.place (left_at old r.place stage) (Laying copy columns at lays.left) (omega (arith, before, lays.step.left)))
    by_laid (Ends pointer over in_range pointer_is is) = subst (HasFewer old r stage old r) (sym is) (left_some old r.place (left_at old r.place stage) (Placing (with_cell copy (column_at columns at) (Out pointer)) columns (at + 1))
        (omega (arith, before, left_over old r.place copy columns at (column_at columns at) job pointer (omega (arith, lays.step.left)))))

pub fewer_put : (old : Table) (r after : Rewriting) (stage next : RewriteStage) (copy : RowCopy) (columns : List ℕ) (at : ℕ) → stage ≡ Placing copy columns at → next ≡ Visiting → after.place ≡ next_place r.place → HasFewer old r stage old after next
fewer_put old r after stage next copy columns at stage_is next_is place =
    let before = ap (left_at old r.place) stage_is in
    let there = ap (λ (t : Tid). left_at old t Visiting) place in
    subst (HasFewer old r stage old after) (sym next_is) (left_some old after.place (left_at old r.place stage) Visiting (omega (arith, before, there)))
