-- What the event of a stage keeps, and that it is one event.
use Rattle.std.proofs.Common.{◌≡◌, ℕ, ℤ, ◌-◌, ◌<◌, ◌≤◌, inl, inr, Option, Some, None, List, length, slice_get, slice_set, refl, sym, ap, ◌∙◌, subst, arith}
use Rattle.std.specs.Prelude.{Result, Ok, Err, IfOk}
use Rattle.std.proofs.lemmas.List.{length-set}
use Rattle.std.proofs.lemmas.Option.{get_or_from_slice_get, none-some, slice_get_cases, slice_get_within}
use Rattle.slot_page.specs.declared.line.Tid.{Tid}
use Rattle.tuple_layout.specs.Schemas.{HasColumns, TableSchema}
use Rattle.tuple_layout.specs.declared.Storage.{Storage}
use Rattle.tuple_layout.specs.declared.cell.Cell.{Cell}
use Rattle.tuple_layout.specs.declared.cell.Cell.TheVariants.{Inline, Null, Out}
use Rattle.tuple_layout.specs.Sizes.{Width, largest_tuple, size}
use Rattle.tuple_layout.specs.Tuples.{row_size, tuple}
use Rattle.xact_status.specs.Xacts.{Xacts}
use Rattle.snapshot_registry.specs.Snapshots.{Snaps}
use Rattle.value_ids.specs.Ids.{Pool}
use Rattle.row_versions.specs.declared.version.Version.{Version}
use Rattle.row_versions.specs.Versions.{stamped_version}
use Rattle.row_versions.specs.Relations.{IsRelation, Relation, with_version}
use Rattle.toast_store.specs.Stores.{Store, IsStore}
use Rattle.toast_store.specs.Fetches.{FetchSteps, Fetching}
use Rattle.toast_store.specs.PieceJobs.{Piecing, pointer_to}
use Rattle.toast_store.specs.declared.fetch.FetchStep.{FetchStep}
use Rattle.table_state.specs.declared.table.Table.{Table}
use Rattle.rewrite_facts.specs.Copies.{id_at, next_place, with_cells}
use Rattle.rewrite_facts.specs.Holds.{IsPlacing, RewriteHolds, StandsAt}
use Rattle.rewrite_facts.specs.Rewrites.{Rewriting, at_stage, column_at, with_cell}
use Rattle.rewrite_facts.specs.declared.stage.RowCopy.{RowCopy}
use Rattle.rewrite_facts.specs.declared.stage.RewriteStage.{RewriteStage}
use Rattle.rewrite_facts.specs.declared.stage.RewriteStage.TheVariants.{Visiting, Filling, Reading, Placing, Laying, Ready}
use Rattle.rewrite_facts.proofs.Columns.{all_out}
use Rattle.rewrite_facts.proofs.Sizes.{chosen_fits}
use Rattle.rewrite_facts.proofs.Steps.{changed, hold_laid, same_rel}
use Rattle.rewrite_facts.proofs.Values.{hold_drawn, hold_over, hold_version}
use Rattle.rewrite_full.specs.Stages.{DrawsOn, LaidOn, LaysOn, Goes, Ends, told_by}
use Rattle.rewrite_full.specs.Moves.{IsNextOf}
use Rattle.rewrite_full.specs.Steps.{IsEvent, IsReadOf, KeepsRead, read_on, ReadsOne, DrawsOne, LaysOne, PutsOne, EndsAll}
use Rattle.rewrite_full.proofs.Settles.{taken_restored}

-- ---- what holds after each event

pub act_draw : (xacts : Xacts) (snaps : Snaps) (old : Table) (r : Rewriting) (ids ids_after : Pool) (copy : RowCopy) (columns : List ℕ) (at column : ℕ) (next : RewriteStage) → r.stage ≡ Placing copy columns at → slice_get columns at ≡ Some column → id_at copy.ids (column - 1) ≡ None
    → DrawsOn old.toast ids r copy columns at column ids_after next → RewriteHolds xacts snaps old r → RewriteHolds xacts snaps old (at_stage r next)
act_draw xacts snaps old r ids ids_after copy columns at column next stage here had draws holds = subst (λ (s : RewriteStage). RewriteHolds xacts snaps old (at_stage r s)) (sym draws.begun.stage_is)
    (hold_drawn xacts snaps old r copy (with_cell copy column Null) columns at column draws.id draws.begun.value ids stage (taken_restored copy (with_cell copy column Null) columns at column draws.begun.value here draws.begun.inline refl) here draws.begun.inline had draws.free holds)

pub act_lay : (xacts : Xacts) (snaps : Snaps) (old : Table) (r : Rewriting) (copy : RowCopy) (columns : List ℕ) (at : ℕ) (job : Piecing) (later : Store) (next : RewriteStage) → r.stage ≡ Laying copy columns at job → slice_get columns at ≡ Some (column_at columns at) → IsStore r.toast
    → LaysOn r.toast copy columns at job r.toast.rel.rel_id later next → RewriteHolds xacts snaps old r → RewriteHolds xacts snaps old (changed r later next)
act_lay xacts snaps old r copy columns at job later next stage here sound lays holds = by_laid lays.laid
  where
    by_laid : LaidOn copy columns at lays.left r.toast.rel.rel_id next → RewriteHolds xacts snaps old (changed r later next)
    by_laid (Goes going is) = subst (λ (s : RewriteStage). RewriteHolds xacts snaps old (changed r later s)) (sym is) (hold_laid xacts snaps old r copy columns at job lays.left later stage sound lays.step going holds)
    by_laid (Ends pointer over in_range pointer_is is) = subst (λ (s : RewriteStage). RewriteHolds xacts snaps old (changed r later s)) (sym is)
        (hold_over xacts snaps old r copy columns at (column_at columns at) job lays.left later pointer stage here sound lays.step over in_range (pointer_is ∙ ap (pointer_to lays.left) (sym (same_rel r.toast later job lays.left lays.step))) holds)

-- with no column left a place is past the columns
past_all : (columns : List ℕ) (at : ℕ) → slice_get columns at ≡ None → length columns ≤ at
past_all columns at none = elim ((slice_get_cases columns at).1) [
  | inl there ↦ absurd (none-some there.0 (sym none ∙ there.2))
  | inr past ↦ past.0
]

pub act_put : (xacts : Xacts) (snaps : Snaps) (old : Table) (r after : Rewriting) (copy : RowCopy) (columns : List ℕ) (at : ℕ) → r.stage ≡ Placing copy columns at → slice_get columns at ≡ None
    → after ≡ record r { rows = with_version r.rows (stamped_version copy.key copy.stamp (tuple old.rows.schema.storages (with_cells copy.key copy.cells))); place = next_place r.place; stage = Visiting }
    → RewriteHolds xacts snaps old r → RewriteHolds xacts snaps old after
act_put xacts snaps old r after copy columns at stage none is holds = subst (RewriteHolds xacts snaps old) (sym is)
    (hold_version xacts snaps old r copy columns at (with_version r.rows (stamped_version copy.key copy.stamp (tuple old.rows.schema.storages (with_cells copy.key copy.cells)))) stage (past_all columns at none) refl holds)

-- ---- what the calls ask

-- a copy all of whose columns are out that go out fits on a page
pub placing_fits : (old : Table) (new : Store) (place : Tid) (copy : RowCopy) (columns : List ℕ) (at : ℕ) → IsRelation old.rows → HasColumns (length old.rows.schema.storages) → slice_get columns at ≡ None → IsPlacing old new None place copy columns at → row_size old.rows.schema.storages copy.cells ≤ largest_tuple
placing_fits old new place copy columns at sound has none placing = subst (λ (ws : List Width). size old.rows.schema.storages ws ≤ largest_tuple) (sym (all_out old new None place copy columns at (past_all columns at none) placing))
    (chosen_fits old placing.was has.1 placing.of.old_one.copyable (sound.sized place placing.was placing.of.old_one.there).most)

-- the column whose value is on its way is there
pub laying_here : (columns : List ℕ) (at column : ℕ) → slice_get columns at ≡ Some column → slice_get columns at ≡ Some (column_at columns at)
laying_here columns at column here = here ∙ ap (λ (n : ℕ). Some n) (sym (get_or_from_slice_get columns at column 0 here))

pub laying_there : (copy : RowCopy) (columns : List ℕ) (at column n : ℕ) (value : List ℕ) (cell : Cell) → slice_get columns at ≡ Some column → slice_get (slice_set copy.cells n cell) (column - 1) ≡ Some (Inline value) → column_at columns at - 1 < length copy.cells
laying_there copy columns at column n value cell here there =
    let within = slice_get_within (slice_set copy.cells n cell) (column - 1) (Inline value) there in
    let long = length-set copy.cells n cell in
    let is = get_or_from_slice_get columns at column 0 here in
    omega (arith, within, long, is)

-- the rewrite once a version is put: the keys are those of the call's own words
pub put_is : (schema found : TableSchema) (copy : RowCopy) (near far : ℤ) (bytes : List ℕ) (rows : Relation) (place : Tid) (view now : Rewriting) → view ≡ now → found ≡ schema → near ≡ copy.key → far ≡ copy.key
    → bytes ≡ tuple found.storages (with_cells near copy.cells) → rows ≡ with_version view.rows (stamped_version far copy.stamp bytes) → place ≡ next_place view.place
    → ◌≡◌ {A = Rewriting} (record { table = view.table; session = view.session; xid = view.xid; rows = rows; toast = view.toast; place = place; stage = view.stage })
    (record now { rows = with_version now.rows (stamped_version copy.key copy.stamp (tuple schema.storages (with_cells copy.key copy.cells))); place = next_place now.place })
put_is schema found copy near far bytes rows place view now same schemas near_is far_is bytes_is rows_is place_is =
    ap (λ (rel : Relation). record view { rows = rel; place = place }) (rows_is ∙ ap (λ (k : ℤ). with_version view.rows (stamped_version k copy.stamp bytes)) far_is ∙ ap (λ (b : List ℕ). with_version view.rows (stamped_version copy.key copy.stamp b)) whole)
    ∙ ap (λ (p : Tid). record view { rows = with_version view.rows (stamped_version copy.key copy.stamp (tuple schema.storages (with_cells copy.key copy.cells))); place = p }) place_is
    ∙ ap (λ (v : Rewriting). record v { rows = with_version v.rows (stamped_version copy.key copy.stamp (tuple schema.storages (with_cells copy.key copy.cells))); place = next_place v.place }) same
  where
    whole : bytes ≡ tuple schema.storages (with_cells copy.key copy.cells)
    whole = bytes_is ∙ ap (λ (k : ℤ). tuple found.storages (with_cells k copy.cells)) near_is ∙ ap (λ (s : TableSchema). tuple s.storages (with_cells copy.key copy.cells)) schemas

-- ---- answers of calls

pub both_ok : {X E : Type 0} (r : Result X E) (P Q T : X → Type 0) → ((x : X) → P x → Q x → T x) → IfOk r P → IfOk r Q → IfOk r T
both_ok (Ok x) P Q T f p q = f x p q
both_ok (Err e) P Q T f p q = tt

-- a step of a read told what it is found to have told
pub steps_told : (old later : Store) (fetch after : Fetching) (had is : Option (List ℕ)) → had ≡ is → FetchSteps old fetch later after (told_by had) → FetchSteps old fetch later after (told_by is)
steps_told old later fetch after had is same steps = subst (λ (o : Option (List ℕ)). FetchSteps old fetch later after (told_by o)) same steps

-- what stands at the stage that is found
pub stands_at : (old : Table) (r : Rewriting) (stage at : RewriteStage) → stage ≡ at → StandsAt old (at_stage r stage) stage → StandsAt old (at_stage r at) at
stands_at old r stage at is stands = subst (λ (s : RewriteStage). StandsAt old (at_stage r s) s) is stands

-- a draw is one for the rewrite at whichever stage
pub draws_at : (old : Store) (ids : Pool) (r : Rewriting) (stage : RewriteStage) (copy : RowCopy) (columns : List ℕ) (at column : ℕ) (ids_after : Pool) (next : RewriteStage) → DrawsOn old ids r copy columns at column ids_after next → DrawsOn old ids (at_stage r stage) copy columns at column ids_after next
draws_at old ids r stage copy columns at column ids_after next d = record { id = d.id; free = d.free; drawn = d.drawn; begun = d.begun }

-- ---- one event

pub event_read : (old : Store) (ids : Pool) (r : Rewriting) (copy : RowCopy) (at : ℕ) (fetch after : Fetching) (told : FetchStep) (stage next : RewriteStage) (later : Store) → stage ≡ Reading copy at fetch → fetch.walk.session ≡ r.session → FetchSteps old fetch later after told → next ≡ read_on copy at after told
    → IsEvent old ids (at_stage r stage) later ids (at_stage r next)
event_read old ids r copy at fetch after told stage next later is session steps next_is =
    ReadsOne (record { copy = copy; at = at; fetch = fetch; next = after; told = told; due = subst (λ (s : RewriteStage). IsReadOf r.session s copy at fetch) (sym is) (refl, (refl, refl)); session = session; step = steps; stage = next_is; rows = refl; toast = refl }) refl

pub event_draw : (old : Store) (ids ids_after : Pool) (r : Rewriting) (copy : RowCopy) (columns : List ℕ) (at column : ℕ) (stage next : RewriteStage) → DrawsOn old ids r copy columns at column ids_after next → IsEvent old ids (at_stage r stage) old ids_after (at_stage r next)
event_draw old ids ids_after r copy columns at column stage next d = DrawsOne (record { id = d.id; free = d.free; drawn = d.drawn; rows = refl; toast = refl }) refl

pub event_lay : (old : Store) (ids : Pool) (r after : Rewriting) (copy : RowCopy) (columns : List ℕ) (at : ℕ) (job : Piecing) (stage next : RewriteStage) → job.xid ≡ r.xid → after ≡ record r { toast = after.toast } → LaysOn r.toast copy columns at job r.toast.rel.rel_id after.toast next → IsEvent old ids (at_stage r stage) old ids (at_stage after next)
event_lay old ids r after copy columns at job stage next xid rest lays = LaysOne (record { job = job; left = lays.left; xid = xid; step = lays.step; rows = ap (λ (s : Rewriting). s.rows) rest }) refl refl

pub event_put : (old : Store) (ids : Pool) (r after : Rewriting) (stage next : RewriteStage) (version : Version) (place : Tid) → after ≡ record r { rows = with_version r.rows version; place = place } → IsEvent old ids (at_stage r stage) old ids (at_stage after next)
event_put old ids r after stage next version place is = PutsOne (record { version = version; rows = ap (λ (s : Rewriting). s.rows) is; toast = ap (λ (s : Rewriting). s.toast) is }) refl refl

-- the columns on their way
pub laying_from : (columns : List ℕ) (at column : ℕ) → slice_get columns at ≡ Some column → 1 ≤ column → 1 ≤ column_at columns at
laying_from columns at column here from = let is = get_or_from_slice_get columns at column 0 here in omega (arith, from, is)

-- an event is one from wherever the rewrite was on its way to it
pub event_moved : (old later : Store) (ids ids_after : Pool) (r after : Rewriting) (place : Tid) (stage : RewriteStage) → KeepsRead r.session r.stage stage → IsEvent old ids (record r { place = place; stage = stage }) later ids_after after → IsEvent old ids r later ids_after after
event_moved old later ids ids_after r after place stage keeps (ReadsOne is same) = ReadsOne (record { copy = is.copy; at = is.at; fetch = is.fetch; next = is.next; told = is.told; due = keeps is.copy is.at is.fetch is.due; session = is.session; step = is.step; stage = is.stage; rows = is.rows; toast = is.toast }) same
event_moved old later ids ids_after r after place stage keeps (DrawsOne is same) = DrawsOne (record { id = is.id; free = is.free; drawn = is.drawn; rows = is.rows; toast = is.toast }) same
event_moved old later ids ids_after r after place stage keeps (LaysOne is same ids_same) = LaysOne (record { job = is.job; left = is.left; xid = is.xid; step = is.step; rows = is.rows }) same ids_same
event_moved old later ids ids_after r after place stage keeps (PutsOne is same ids_same) = PutsOne (record { version = is.version; rows = is.rows; toast = is.toast }) same ids_same
event_moved old later ids ids_after r after place stage keeps (EndsAll is same ids_same) = EndsAll (record { stage = is.stage; rows = is.rows; toast = is.toast }) same ids_same

-- the next read of a copy begins it
pub keeps_filled : (schema : List Storage) (session : ℕ) (stage next : RewriteStage) (copy : RowCopy) → stage ≡ Filling copy → IsNextOf schema session copy next → KeepsRead session stage next
keeps_filled schema session stage next copy stage_is is = subst (λ (s : RewriteStage). KeepsRead session s next) (sym stage_is) (by_next next is)
  where
    by_next : (s : RewriteStage) → IsNextOf schema session copy s → KeepsRead session (Filling copy) s
    by_next Visiting off c at fetch due = absurd off
    by_next (Filling same) off c at fetch due = absurd off
    by_next (Laying same columns n pieces) off c at fetch due = absurd off
    by_next Ready off c at fetch due = absurd off
    by_next (Placing same columns n) is c at fetch due = absurd due
    by_next (Reading same n under_way) is c at fetch due = record { pointer = is.1.0; out = subst (λ (m : ℕ). slice_get c.cells m ≡ Some (Out is.1.0)) due.1.0 (subst (λ (d : RowCopy). slice_get d.cells n ≡ Some (Out is.1.0)) (sym is.0 ∙ due.0) is.1.1); is = sym due.1.1 ∙ is.1.2 }
