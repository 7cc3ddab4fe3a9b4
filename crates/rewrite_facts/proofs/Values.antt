-- The steps of a value that goes out: it is shared, or comes on its way under its id, and its last piece is indexed; and the step of the version.
use Rattle.std.proofs.Common.{◌≡◌, ◌≢◌, ℕ, ℤ, ◌+◌, ◌-◌, ◌<◌, ◌≤◌, inl, inr, Bool, true, false, ◌||◌, Option, Some, None, List, ◌∷◌, length, slice_get, slice_set, refl, sym, ap, ◌∙◌, subst, arith}
use Rattle.std.proofs.lemmas.Bool.{cases_eq, false≢true}
use Rattle.std.proofs.lemmas.Option.{get_or_from_slice_get, none-some, same_Some}
use Rattle.list_facts.proofs.Changed.{set_twice}
use Rattle.list_facts.proofs.Members.{cases_in}
use Rattle.slot_page.specs.declared.line.Tid.{Tid}
use Rattle.external_pointer.specs.declared.external.Pointer.{Pointer}
use Rattle.external_pointer.specs.Spelling.{IsInRange}
use Rattle.tuple_layout.specs.declared.Storage.{Storage}
use Rattle.tuple_layout.specs.declared.cell.Cell.{Cell}
use Rattle.tuple_layout.specs.declared.cell.Cell.TheVariants.{Inline, Out}
use Rattle.tuple_layout.specs.Tuples.{tuple}
use Rattle.xact_status.specs.Xacts.{Xacts}
use Rattle.xact_status.specs.declared.Stamp.{Stamp}
use Rattle.snapshot_registry.specs.Snapshots.{Snaps}
use Rattle.value_ids.specs.Ids.{Pool, first_free_id, is_held}
use Rattle.value_ids.proofs.Drawn.{drawn_free}
use Rattle.row_versions.specs.declared.version.Version.{Version}
use Rattle.row_versions.specs.Relations.{Relation, with_version}
use Rattle.row_versions.specs.Versions.{stamped_version}
use Rattle.toast_store.specs.Stores.{Store, IsStore, is_used}
use Rattle.toast_store.specs.Values.{Whole, piece_count, pieces_of, value_in}
use Rattle.toast_store.specs.PieceJobs.{Piecing, PiecesStandAt, PiecesStep, new_pieces, pointer_to}
use Rattle.toast_store.specs.declared.piece_job.PieceStage.TheVariants.{Over}
use Rattle.toast_store.proofs.Laying.{stands_begun, whole_laid}
use Rattle.toast_store.proofs.Others.{pieces_step_leaves}
use Rattle.table_state.specs.declared.table.Table.{Table}
use Rattle.table_state.specs.Cells.{cells_in}
use Rattle.rewrite_facts.specs.Chunks.{HasPointer, Made, UnderWay, cells_at, put_at, put_by}
use Rattle.rewrite_facts.specs.Copies.{Copied, IsCopy, IsIdOf, IsNewPointer, id_at, next_place, version_of, with_cells}
use Rattle.rewrite_facts.specs.Holds.{AreShared, CanGoOut, IsLaying, IsPlacing, RewriteHolds, StandsAt, pieces_under}
use Rattle.rewrite_facts.specs.Rewrites.{Rewriting, at_stage, busy_at, column_at, inserter_at, is_used_in, restored, with_cell}
use Rattle.rewrite_facts.specs.declared.stage.RowCopy.{RowCopy}
use Rattle.rewrite_facts.specs.declared.stage.RewriteStage.{RewriteStage}
use Rattle.rewrite_facts.specs.declared.stage.RewriteStage.TheVariants.{Visiting, Placing, Laying}
use Rattle.rewrite_facts.proofs.Cells.{also_there, had_pointer, id_is, value_at}
use Rattle.rewrite_facts.proofs.Chunks.{IsMore, chunks_made, chunks_over, chunks_shared}
use Rattle.rewrite_facts.proofs.Columns.{all_out, column_out}
use Rattle.rewrite_facts.proofs.Inserted.{inserted_made}
use Rattle.rewrite_facts.proofs.Keeps.{Spares, placing_kept, shared_kept}
use Rattle.rewrite_facts.proofs.Orders.{here_next, visited_copied}
use Rattle.rewrite_facts.proofs.Steps.{changed, hold_begun, hold_changed, hold_restaged, same_rel, spares_step}
use Rattle.rewrite_facts.proofs.Used.{whole_shared, whole_used}

-- ---- the old value of a column

-- a column that had an id had a pointer to the value that it still has
pub record HadValue (old : Store) (id : ℕ) (value : List ℕ) : Type 0 where
  pub pointer : Pointer
  pub id_is : pointer.value_id ≡ id
  pub whole : Whole old pointer value

pub had_value : (old : Table) (new : Store) (r : Rewriting) (copy : RowCopy) (columns : List ℕ) (at n id : ℕ) (value : List ℕ) → slice_get copy.cells n ≡ Some (Inline value) → id_at copy.ids n ≡ Some id → IsPlacing old new None r.place copy columns at → HadValue old.toast id value
had_value old new r copy columns at n id value inline had placing = record {
  pointer = q;
  id_is = out.2;
  whole = subst (Whole old.toast q) (sym same) (placing.of.old_one.copyable.whole.each n q there);
}
  where
    schema : List Storage
    schema = old.rows.schema.storages

    cells : List Cell
    cells = cells_in schema placing.was.tuple

    long : length copy.cells ≡ length cells
    long = placing.new_one.has.one_each ∙ sym placing.of.old_one.copyable.stored.has.one_each

    cell : (c : Cell) × (slice_get cells n ≡ Some c)
    cell = also_there copy.cells cells n (Inline value) long inline

    out : (p : Pointer) × (cell.0 ≡ Out p) × (p.value_id ≡ id)
    out = had_pointer cell.0 id (sym (id_is cells n cell.0 cell.1) ∙ ap (λ (ids : List (Option ℕ)). id_at ids n) (sym placing.of.ids) ∙ had)

    q : Pointer
    q = out.0

    there : slice_get cells n ≡ Some (Out q)
    there = cell.1 ∙ ap Some out.1

    both : Some (Some value) ≡ Some (Some (value_in old.toast q))
    both = sym (value_at new copy.cells n (Inline value) inline) ∙ ap (λ (row : List (Option (List ℕ))). slice_get row n) placing.new_one.row ∙ value_at old.toast cells n (Out q) there

    same : value ≡ value_in old.toast q
    same = same_Some value (value_in old.toast q) (same_Some (Some value) (Some (value_in old.toast q)) both)

-- ---- a value that the new relation has

pub hold_shared : (xacts : Xacts) (snaps : Snaps) (old : Table) (r : Rewriting) (copy : RowCopy) (columns : List ℕ) (at column : ℕ) (p : Pointer) (value : List ℕ) → r.stage ≡ Placing copy columns at → slice_get columns at ≡ Some column → slice_get copy.cells (column - 1) ≡ Some (Inline value)
    → id_at copy.ids (column - 1) ≡ Some p.value_id → is_used r.toast p.value_id ≡ true → IsInRange p → p.size ≡ length value → p.toast_rel ≡ r.toast.rel.rel_id
    → RewriteHolds xacts snaps old r → RewriteHolds xacts snaps old (at_stage r (Placing (with_cell copy column (Out p)) columns (at + 1)))
hold_shared xacts snaps old r copy columns at column p value stage here inline had used in_range size own holds = hold_restaged xacts snaps old r (Placing (with_cell copy column (Out p)) columns (at + 1)) (ap busy_at stage) refl (sym (ap inserter_at stage)) (column_out old r.toast r.place copy columns at column p value here inline in_range whole (own ∙ holds.relation) id stands.0, stands.1) holds
    (chunks_shared old.toast holds.copies r (Placing (with_cell copy column (Out p)) columns (at + 1)) (column - 1) p (sym (ap busy_at stage)) (sym (ap put_at stage)) more (λ unused. false≢true (sym unused ∙ used_old)) holds.chunks)
  where
    more : IsMore r (at_stage r (Placing (with_cell copy column (Out p)) columns (at + 1))) (column - 1) p
    more = record {
      place = refl;
      value = value;
      inline = ap (λ (s : RewriteStage). slice_get (cells_at s) (column - 1)) stage ∙ inline;
      cells = ap (λ (s : RewriteStage). slice_set (cells_at s) (column - 1) (Out p)) (sym stage);
    }

    stands : StandsAt old r (Placing copy columns at)
    stands = subst (StandsAt old r) stage holds.stage

    can : CanGoOut old.rows.schema.storages copy.cells column
    can = stands.0.push.values at column (omega arith) here

    some : 0 < length value
    some = let e : Inline can.value ≡ Inline value = same_Some (Inline can.value) (Inline value) (sym can.inline ∙ inline) in let same : can.value ≡ value = cc in omega (arith, can.least, ap length same)

    was : HadValue old.toast p.value_id value
    was = had_value old r.toast r copy columns at (column - 1) p.value_id value inline had stands.0

    used_old : is_used old.toast p.value_id ≡ true
    used_old = subst (λ (n : ℕ). is_used old.toast n ≡ true) was.id_is (whole_used old.toast was.pointer value some was.whole)

    same_pieces : pieces_under r.toast p.value_id ≡ pieces_under old.toast p.value_id
    same_pieces = holds.shared.each p.value_id (λ e. none-some p.value_id (ap busy_at (sym stage) ∙ e)) used used_old

    whole : Whole r.toast p value
    whole = whole_shared old.toast r.toast was.pointer p value (sym was.id_is) size (subst (λ (n : ℕ). pieces_under r.toast n ≡ pieces_under old.toast n) (sym was.id_is) same_pieces) was.whole

    id : IsIdOf old.toast (id_at copy.ids (column - 1)) p.value_id
    id = subst (λ (o : Option ℕ). IsIdOf old.toast o p.value_id) (sym had) refl

-- ---- a value that comes on its way

-- with the id that it had
pub hold_kept : (xacts : Xacts) (snaps : Snaps) (old : Table) (r : Rewriting) (copy taken : RowCopy) (columns : List ℕ) (at column id : ℕ) (value : List ℕ) → r.stage ≡ Placing copy columns at → restored taken columns at value ≡ copy → slice_get columns at ≡ Some column → slice_get copy.cells (column - 1) ≡ Some (Inline value)
    → id_at copy.ids (column - 1) ≡ Some id → is_used r.toast id ≡ false → RewriteHolds xacts snaps old r → RewriteHolds xacts snaps old (at_stage r (Laying taken columns at (new_pieces r.xid id value)))
hold_kept xacts snaps old r copy taken columns at column id value stage full here inline had unused holds = hold_begun xacts snaps old r copy taken columns at (new_pieces r.xid id value) stage full unused stands.0 stands.1 laying holds
  where
    stands : StandsAt old r (Placing copy columns at)
    stands = subst (StandsAt old r) stage holds.stage

    was : HadValue old.toast id value
    was = had_value old r.toast r copy columns at (column - 1) id value inline had stands.0

    laying : IsLaying old.toast r.toast r.xid copy columns at (new_pieces r.xid id value)
    laying = record {
      column = column;
      here = here;
      value = inline;
      id = subst (λ (o : Option ℕ). IsIdOf old.toast o id) (sym had) refl;
      xid_is = refl;
      laying = tt;
      stands = stands_begun r.toast r.xid id value unused;
      same = λ used. ap (pieces_under old.toast) (sym was.id_is) ∙ was.whole.chunks;
    }

-- a drawn id is used in neither
pub drawn_unused : (old new : Store) (ids : Pool) (table id : ℕ) → first_free_id (is_used_in old new) ids table ≡ Some id → (is_used old id ≡ false) × (is_used new id ≡ false)
drawn_unused old new ids table id drawn = by_tests (is_used old id) (is_used new id) (is_held ids.in_hand table id) (drawn_free (is_used_in old new) ids table id drawn)
  where
    by_tests : (a b c : Bool) → ((a || b) || c) ≡ false → (a ≡ false) × (b ≡ false)
    by_tests false false c e = (refl, refl)
    by_tests false true c e = absurd (false≢true (sym e))
    by_tests true b c e = absurd (false≢true (sym e))

pub hold_drawn : (xacts : Xacts) (snaps : Snaps) (old : Table) (r : Rewriting) (copy taken : RowCopy) (columns : List ℕ) (at column id : ℕ) (value : List ℕ) (ids : Pool) → r.stage ≡ Placing copy columns at → restored taken columns at value ≡ copy → slice_get columns at ≡ Some column → slice_get copy.cells (column - 1) ≡ Some (Inline value)
    → id_at copy.ids (column - 1) ≡ None → first_free_id (is_used_in old.toast r.toast) ids r.table ≡ Some id → RewriteHolds xacts snaps old r → RewriteHolds xacts snaps old (at_stage r (Laying taken columns at (new_pieces r.xid id value)))
hold_drawn xacts snaps old r copy taken columns at column id value ids stage full here inline had drawn holds = hold_begun xacts snaps old r copy taken columns at (new_pieces r.xid id value) stage full unused.1 stands.0 stands.1 laying holds
  where
    stands : StandsAt old r (Placing copy columns at)
    stands = subst (StandsAt old r) stage holds.stage

    unused : (is_used old.toast id ≡ false) × (is_used r.toast id ≡ false)
    unused = drawn_unused old.toast r.toast ids r.table id drawn

    laying : IsLaying old.toast r.toast r.xid copy columns at (new_pieces r.xid id value)
    laying = record {
      column = column;
      here = here;
      value = inline;
      id = subst (λ (o : Option ℕ). IsIdOf old.toast o id) (sym had) unused.0;
      xid_is = refl;
      laying = tt;
      stands = stands_begun r.toast r.xid id value unused.1;
      same = λ used. absurd (false≢true (sym unused.0 ∙ used));
    }

-- ---- its last piece is indexed

pub hold_over : (xacts : Xacts) (snaps : Snaps) (old : Table) (r : Rewriting) (copy : RowCopy) (columns : List ℕ) (at column : ℕ) (job after : Piecing) (later : Store) (p : Pointer) → r.stage ≡ Laying copy columns at job → slice_get columns at ≡ Some column → IsStore r.toast → PiecesStep r.toast job later after → after.stage ≡ Over
    → IsInRange p → p ≡ pointer_to after later.rel.rel_id → RewriteHolds xacts snaps old r → RewriteHolds xacts snaps old (changed r later (Placing (with_cell copy column (Out p)) columns (at + 1)))
hold_over xacts snaps old r copy columns at column job after later p stage here sound step over in_range is holds =
    hold_changed xacts snaps old r later (Placing (with_cell copy column (Out p)) columns (at + 1)) spares shared relation (sym (ap inserter_at stage))
    (subst (λ (c : RowCopy). IsPlacing old later None r.place c columns (at + 1)) twice (column_out old later r.place full columns at column p job.value here inline in_range whole (ap (λ (q : Pointer). q.toast_rel) is ∙ relation ∙ holds.relation) id placed), stands.1.1) holds
    (chunks_over old.toast holds.copies r (changed r later (Placing (with_cell copy column (Out p)) columns (at + 1))) job after (column - 1) p step laying.xid_is refl (ap busy_at stage) (ap put_at stage) (ap put_by (sym over)) more (ap (λ (q : Pointer). q.value_id) is ∙ same_id) fresh holds.chunks)
  where
    full : RowCopy
    full = restored copy columns at job.value

    place_is : column_at columns at ≡ column
    place_is = get_or_from_slice_get columns at column 0 here

    twice : with_cell full column (Out p) ≡ with_cell copy column (Out p)
    twice = ap (λ (n : ℕ). with_cell (with_cell copy n (Inline job.value)) column (Out p)) place_is ∙ ap (λ (cells : List Cell). record copy { cells = cells }) (set_twice copy.cells (column - 1) (Inline job.value) (Out p))

    stands : StandsAt old r (Laying copy columns at job)
    stands = subst (StandsAt old r) stage holds.stage

    laying : IsLaying old.toast r.toast r.xid full columns at job
    laying = stands.1.0

    relation : later.rel.rel_id ≡ r.toast.rel.rel_id
    relation = same_rel r.toast later job after step

    own : Spares r.toast later (Some job.value_id) None
    own = spares_step r.toast later job after None sound laying.stands step (λ other apart same. none-some other same)

    spares : Spares r.toast later (busy_at r.stage) None
    spares = subst (λ (s : RewriteStage). Spares r.toast later (busy_at s) None) (sym stage) own

    placed : IsPlacing old later None r.place full columns at
    placed = placing_kept old r.toast later (Some job.value_id) None r.place full columns at own stands.0

    column_is : laying.column ≡ column
    column_is = same_Some laying.column column (sym laying.here ∙ here)

    inline : slice_get full.cells (column - 1) ≡ Some (Inline job.value)
    inline = subst (λ (n : ℕ). slice_get full.cells (n - 1) ≡ Some (Inline job.value)) column_is laying.value

    more : IsMore r (changed r later (Placing (with_cell copy column (Out p)) columns (at + 1))) (column - 1) p
    more = record {
      place = refl;
      value = job.value;
      inline = ap (λ (s : RewriteStage). slice_get (cells_at s) (column - 1)) stage ∙ inline;
      cells = ap RowCopy.cells (sym twice) ∙ ap (λ (s : RewriteStage). slice_set (cells_at s) (column - 1) (Out p)) (sym stage);
    }

    value : after.value ≡ job.value
    value = ap (λ (j : Piecing). j.value) step.job

    same_id : after.value_id ≡ job.value_id
    same_id = ap (λ (j : Piecing). j.value_id) step.job

    -- the id of a value on its way is that of no pointer
    fresh : (from : Tid) (n : ℕ) (q : Pointer) → HasPointer holds.copies r from n q → q.value_id ≡ p.value_id → ⊥
    fresh from n q has same = by_has has
      where
        its : Some job.value_id ≡ Some q.value_id
        its = ap (λ (i : ℕ). Some i) (sym (same ∙ ap (λ (x : Pointer). x.value_id) is ∙ same_id))

        by_has : HasPointer holds.copies r from n q → ⊥
        by_has (Made made held at_place there) = IsNewPointer.settled ((holds.made made held).new_one.pointers n q there) (ap busy_at stage ∙ its)
        by_has (UnderWay at_place there) = IsNewPointer.settled (stands.0.new_one.pointers n q (ap (λ (s : RewriteStage). slice_get (cells_at s) n) (sym stage) ∙ there)) its

    id : IsIdOf old.toast (id_at copy.ids (column - 1)) p.value_id
    id = subst (IsIdOf old.toast (id_at copy.ids (column - 1))) (sym (ap (λ (q : Pointer). q.value_id) is ∙ same_id)) (subst (λ (n : ℕ). IsIdOf old.toast (id_at copy.ids (n - 1)) job.value_id) column_is laying.id)

    laid_whole : Whole later (pointer_to after later.rel.rel_id) after.value
    laid_whole = whole_laid later after later.rel.rel_id (subst (PiecesStandAt later after) over step.stands)

    whole : Whole later p job.value
    whole = subst (λ (q : Pointer). Whole later q job.value) (sym is) (subst (Whole later (pointer_to after later.rel.rel_id)) value laid_whole)

    shared : AreShared old.toast later None
    shared = record {
      each = λ other idle in_new in_old. elim (cases_eq job.value_id other) [
        | inl same ↦ here_shared other same in_old
        | inr differ ↦ other_shared other differ in_new in_old
      ];
    }
      where
        here_shared : (other : ℕ) → job.value_id ≡ other → is_used old.toast other ≡ true → pieces_under later other ≡ pieces_under old.toast other
        here_shared other same in_old =
            ap (pieces_under later) (sym same ∙ sym same_id) ∙ laid_whole.chunks ∙ ap (λ (bytes : List ℕ). pieces_of bytes 0 (piece_count (length bytes))) value
            ∙ sym (laying.same (ap (is_used old.toast) same ∙ in_old)) ∙ ap (pieces_under old.toast) same

        other_shared : (other : ℕ) → job.value_id ≢ other → is_used later other ≡ true → is_used old.toast other ≡ true → pieces_under later other ≡ pieces_under old.toast other
        other_shared other differ in_new in_old =
            let apart : Some job.value_id ≢ Some other = λ e. differ (same_Some job.value_id other e) in
            AreShared.each (shared_other) other apart in_new in_old
          where
            shared_other : AreShared old.toast later (Some job.value_id)
            shared_other = shared_kept old.toast r.toast later (Some job.value_id) (Some job.value_id) (λ n apart. (apart, (pieces_step_leaves r.toast job later after 0 sound laying.stands step).values n apart)) (subst (λ (s : RewriteStage). AreShared old.toast r.toast (busy_at s)) stage holds.shared)

-- ---- the version is put

pub hold_version : (xacts : Xacts) (snaps : Snaps) (old : Table) (r : Rewriting) (copy : RowCopy) (columns : List ℕ) (at : ℕ) (rows : Relation) → r.stage ≡ Placing copy columns at → length columns ≤ at
    → rows ≡ with_version r.rows (stamped_version copy.key copy.stamp (tuple old.rows.schema.storages (with_cells copy.key copy.cells)))
    → RewriteHolds xacts snaps old r → RewriteHolds xacts snaps old (record r { rows = rows; place = next_place r.place; stage = Visiting })
hold_version xacts snaps old r copy columns at rows stage over put holds = record {
  copies = made ∷ holds.copies;
  rows = put ∙ ap (λ (v : Version). with_version r.rows v) version ∙ ap (λ (rel : Relation). with_version rel (version_of schema made)) holds.rows;
  order = (here_next r.place, holds.order);
  visited = visited_copied xacts snaps old.rows.pages holds.copies made holds.visited;
  made = λ other held. elim (cases_in made holds.copies other held) [
    | inl is ↦ subst (IsCopy old r.toast None) is this
    | inr earlier ↦ subst (λ (b : Option ℕ). IsCopy old r.toast b other) (ap busy_at stage) (holds.made other earlier)
  ];
  inserted = inserted_made xacts made holds.copies r.stage Visiting (ap inserter_at stage ∙ ap (λ (s : Stamp). Some s.inserter) placing.of.stamp) refl holds.inserted;
  relation = holds.relation;
  shared = subst (AreShared old.toast r.toast) (ap busy_at stage) holds.shared;
  chunks = chunks_made old.toast holds.copies r (record r { rows = rows; place = next_place r.place; stage = Visiting }) made refl refl refl (ap busy_at stage) (ap put_at stage) refl (sym (ap cells_at stage)) holds.chunks;
  stage = stands.1;
}
  where
    schema : List Storage
    schema = old.rows.schema.storages

    stands : StandsAt old r (Placing copy columns at)
    stands = subst (StandsAt old r) stage holds.stage

    placing : IsPlacing old r.toast None r.place copy columns at
    placing = stands.0

    made : Copied
    made = record { from = r.place; was = placing.was; cells = copy.cells }

    this : IsCopy old r.toast None made
    this = record { old_one = placing.of.old_one; new_one = placing.new_one; out = all_out old r.toast None r.place copy columns at over placing }

    version : stamped_version copy.key copy.stamp (tuple schema (with_cells copy.key copy.cells)) ≡ version_of schema made
    version = ap (λ (k : ℤ). stamped_version k copy.stamp (tuple schema (with_cells k copy.cells))) placing.of.key ∙ ap (λ (s : Stamp). stamped_version placing.was.key s (tuple schema (with_cells placing.was.key copy.cells))) placing.of.stamp
