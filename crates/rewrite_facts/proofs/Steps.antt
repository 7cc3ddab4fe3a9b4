-- What each step of a rewrite keeps of all that holds of it.
use Rattle.std.proofs.Common.{◌≡◌, ◌≢◌, ℕ, true, false, Option, Some, None, List, [], refl, sym, ap, ◌∙◌, subst}
use Rattle.std.proofs.lemmas.Bool.{false≢true}
use Rattle.std.proofs.lemmas.Option.{none-some}
use Rattle.list_facts.proofs.Members.{none_in_nil}
use Rattle.slot_page.specs.declared.line.Tid.{Tid}
use Rattle.slot_page.specs.Pages.{item_in}
use Rattle.slot_page.specs.NextItems.{is_before}
use Rattle.xact_status.specs.Xacts.{Xacts}
use Rattle.snapshot_registry.specs.Snapshots.{Snaps}
use Rattle.row_versions.specs.declared.version.Version.{Version}
use Rattle.toast_store.specs.Stores.{Store, IsStore, is_used}
use Rattle.toast_store.specs.Between.{LeavesValue}
use Rattle.toast_store.specs.PieceJobs as pieces
use Rattle.toast_store.specs.PieceJobs.{Piecing, PiecesStand, PiecesStep, new_pieces, pointer_to}
use Rattle.toast_store.specs.declared.piece_job.PieceStage.TheVariants.{Putting, Indexing, Over}
use Rattle.toast_store.proofs.Others.{pieces_step_leaves}
use Rattle.table_state.specs.declared.table.Table.{Table}
use Rattle.chunk_relation.specs.Relations as chunks
use Rattle.toast_store.specs.declared.piece_job.PieceStage.{PieceStage}
use Rattle.rewrite_facts.specs.Chunks.{AreChunks, cells_at, put_at}
use Rattle.rewrite_facts.specs.Copies.{IsCopy, is_chosen}
use Rattle.rewrite_facts.specs.Holds.{AreShared, HoldsNoPin, IsLaying, IsPlacing, RewriteHolds, StandsAt}
use Rattle.rewrite_facts.specs.Rewrites.{Rewriting, at_stage, busy_at, inserter_at, new_rewrite, restored}
use Rattle.rewrite_facts.specs.declared.stage.RowCopy.{RowCopy}
use Rattle.rewrite_facts.specs.declared.stage.RewriteStage.{RewriteStage}
use Rattle.rewrite_facts.specs.declared.stage.RewriteStage.TheVariants.{Placing, Laying}
use Rattle.rewrite_facts.proofs.Chunks.{chunks_begun, chunks_laid, chunks_none, chunks_visited, idle_put}
use Rattle.rewrite_facts.proofs.Inserted.{inserted_same, inserted_visited}
use Rattle.rewrite_facts.proofs.Keeps.{Spares, copy_kept, placing_kept, shared_kept}
use Rattle.rewrite_facts.proofs.Orders.{none_before, order_later, visited_passed}

-- ---- the start

pub hold_begin : (xacts : Xacts) (snaps : Snaps) (table session xid : ℕ) (old : Table) → HoldsNoPin old.toast session → RewriteHolds xacts snaps old (new_rewrite table session xid old)
hold_begin xacts snaps table session xid old free = record {
  copies = [];
  rows = refl;
  order = tt;
  visited = record { each = λ t version there before chosen. absurd (none_before t before) };
  made = λ copy held. absurd (none_in_nil copy held);
  inserted = record { each = λ copy held. absurd (none_in_nil copy held); under_way = λ inserter is. absurd (none-some inserter is) };
  relation = refl;
  shared = record { each = λ id other in_new in_old. absurd (false≢true in_new) };
  chunks = chunks_none old.toast (new_rewrite table session xid old) (λ tid. refl) (λ tid dead. dead) refl;
  stage = free;
}

-- ---- changes of the stage, of the new values, and of the place

-- a rewrite with other new values at another stage
abbrev pub changed : Rewriting → Store → RewriteStage → Rewriting
changed r later stage = record r { toast = later; stage = stage }

pub hold_changed : (xacts : Xacts) (snaps : Snaps) (old : Table) (r : Rewriting) (later : Store) (stage : RewriteStage) → Spares r.toast later (busy_at r.stage) (busy_at stage) → AreShared old.toast later (busy_at stage) → later.rel.rel_id ≡ r.toast.rel.rel_id → inserter_at stage ≡ inserter_at r.stage
    → StandsAt old (changed r later stage) stage → (holds : RewriteHolds xacts snaps old r) → AreChunks old.toast holds.copies (changed r later stage) → RewriteHolds xacts snaps old (changed r later stage)
hold_changed xacts snaps old r later stage spares shared relation same stands holds chunks = record {
  copies = holds.copies;
  rows = holds.rows;
  order = holds.order;
  visited = holds.visited;
  made = λ copy held. copy_kept old r.toast later (busy_at r.stage) (busy_at stage) copy spares (holds.made copy held);
  inserted = inserted_same xacts holds.copies r.stage stage same holds.inserted;
  relation = relation ∙ holds.relation;
  shared = shared;
  chunks = chunks;
  stage = stands;
}

-- only the stage, where no value comes on its way
pub hold_restaged : (xacts : Xacts) (snaps : Snaps) (old : Table) (r : Rewriting) (stage : RewriteStage) → busy_at r.stage ≡ None → busy_at stage ≡ None → inserter_at stage ≡ inserter_at r.stage → StandsAt old (at_stage r stage) stage → (holds : RewriteHolds xacts snaps old r) → AreChunks old.toast holds.copies (at_stage r stage) → RewriteHolds xacts snaps old (at_stage r stage)
hold_restaged xacts snaps old r stage idle still same stands holds chunks = record {
  copies = holds.copies;
  rows = holds.rows;
  order = holds.order;
  visited = holds.visited;
  made = λ copy held. subst (λ (b : Option ℕ). IsCopy old r.toast b copy) (idle ∙ sym still) (holds.made copy held);
  inserted = inserted_same xacts holds.copies r.stage stage same holds.inserted;
  relation = holds.relation;
  shared = subst (AreShared old.toast r.toast) (idle ∙ sym still) holds.shared;
  chunks = chunks;
  stage = stands;
}

-- versions are passed over up to a place, none of which is chosen
pub hold_visited : (xacts : Xacts) (snaps : Snaps) (old : Table) (r : Rewriting) (to : Tid) (stage : RewriteStage) → busy_at r.stage ≡ None → busy_at stage ≡ None → cells_at r.stage ≡ [] → cells_at stage ≡ [] → is_before to r.place ≡ false
    → ((t : Tid) (version : Version) → item_in old.rows.pages t ≡ Some version → is_before t r.place ≡ false → is_before t to ≡ true → is_chosen xacts snaps version ≡ false)
    → ((version : Version) → item_in old.rows.pages to ≡ Some version → inserter_at stage ≡ Some version.inserter → is_chosen xacts snaps version ≡ true)
    → StandsAt old (record r { place = to; stage = stage }) stage → RewriteHolds xacts snaps old r → RewriteHolds xacts snaps old (record r { place = to; stage = stage })
hold_visited xacts snaps old r to stage idle still before after not_before passed chosen stands holds = record {
  copies = holds.copies;
  rows = holds.rows;
  order = order_later r.place to holds.copies not_before holds.order;
  visited = visited_passed xacts snaps old.rows.pages r.place to holds.copies passed holds.visited;
  made = λ copy held. subst (λ (b : Option ℕ). IsCopy old r.toast b copy) (idle ∙ sym still) (holds.made copy held);
  inserted = inserted_visited xacts snaps old (record r { place = to; stage = stage }) holds.copies r.stage chosen stands holds.inserted;
  relation = holds.relation;
  shared = subst (AreShared old.toast r.toast) (idle ∙ sym still) holds.shared;
  chunks = chunks_visited old.toast holds.copies r to stage (still ∙ sym idle) (idle_put stage still ∙ sym (idle_put r.stage idle)) before after holds.chunks;
  stage = stands;
}

-- ---- a value comes on its way

-- under an id that the new store does not use
pub spares_begun : (new : Store) (id : ℕ) → is_used new id ≡ false → Spares new new None (Some id)
spares_begun new id unused = record {
  leaves = λ other idle. refl;
  idle = λ other idle used. λ same. let is : id ≡ other = cc in false≢true (sym unused ∙ ap (is_used new) is ∙ used);
}

-- a value of the next column, which is taken out of the copy
pub hold_begun : (xacts : Xacts) (snaps : Snaps) (old : Table) (r : Rewriting) (copy taken : RowCopy) (columns : List ℕ) (at : ℕ) (job : Piecing) → r.stage ≡ Placing copy columns at → restored taken columns at job.value ≡ copy → is_used r.toast job.value_id ≡ false
    → IsPlacing old r.toast None r.place copy columns at → HoldsNoPin old.toast r.session → IsLaying old.toast r.toast r.xid copy columns at job
    → RewriteHolds xacts snaps old r → RewriteHolds xacts snaps old (at_stage r (Laying taken columns at job))
hold_begun xacts snaps old r copy taken columns at job stage whole unused placing free laying holds = hold_changed xacts snaps old r r.toast (Laying taken columns at job) spares shared refl (ap (λ (c : RowCopy). Some c.stamp.inserter) whole ∙ sym (ap inserter_at stage))
    (subst (λ (c : RowCopy). IsPlacing old r.toast (Some job.value_id) r.place c columns at × (IsLaying old.toast r.toast r.xid c columns at job × HoldsNoPin old.toast r.session)) (sym whole) (placing_kept old r.toast r.toast None (Some job.value_id) r.place copy columns at begun placing, (laying, free))) holds
    (chunks_begun old.toast holds.copies r (Laying taken columns at job) (ap busy_at stage) (ap put_at stage) (ap RowCopy.cells whole ∙ sym (ap cells_at stage)) holds.chunks)
  where
    begun : Spares r.toast r.toast None (Some job.value_id)
    begun = spares_begun r.toast job.value_id unused

    spares : Spares r.toast r.toast (busy_at r.stage) (Some job.value_id)
    spares = subst (λ (s : RewriteStage). Spares r.toast r.toast (busy_at s) (Some job.value_id)) (sym stage) begun

    idle : (s : RewriteStage) → s ≡ Placing copy columns at → (id : ℕ) → busy_at s ≢ Some id
    idle s is id = λ same. none-some id (ap busy_at (sym is) ∙ same)

    shared : AreShared old.toast r.toast (Some job.value_id)
    shared = record { each = λ id other in_new in_old. holds.shared.each id (idle r.stage stage id) in_new in_old }

-- ---- a piece is put or indexed

-- the relation keeps its id
pub same_rel : (old new : Store) (before after : Piecing) → PiecesStep old before new after → new.rel.rel_id ≡ old.rel.rel_id
same_rel old new before after step = by_stage before.stage step.rel
  where
    by_stage : (s : PieceStage) → new.rel ≡ pieces.rel_after old.rel before s → new.rel.rel_id ≡ old.rel.rel_id
    by_stage (Putting seq) is = ap (λ (rel : chunks.Relation). rel.rel_id) is
    by_stage (Indexing seq tid) is = ap (λ (rel : chunks.Relation). rel.rel_id) is
    by_stage Over is = ap (λ (rel : chunks.Relation). rel.rel_id) is

-- each other value is left
pub spares_step : (old new : Store) (before after : Piecing) (then : Option ℕ) → IsStore old → PiecesStand old before → PiecesStep old before new after → ((id : ℕ) → Some before.value_id ≢ Some id → then ≢ Some id) → Spares old new (Some before.value_id) then
spares_step old new before after then sound stands step idle = record {
  leaves = (pieces_step_leaves old before new after 0 sound stands step).values;
  idle = λ id other used. idle id other;
}

-- the pieces go on
pub hold_laid : (xacts : Xacts) (snaps : Snaps) (old : Table) (r : Rewriting) (copy : RowCopy) (columns : List ℕ) (at : ℕ) (job after : Piecing) (later : Store) → r.stage ≡ Laying copy columns at job → IsStore r.toast → PiecesStep r.toast job later after → pieces.IsLaying after.stage
    → RewriteHolds xacts snaps old r → RewriteHolds xacts snaps old (changed r later (Laying copy columns at after))
hold_laid xacts snaps old r copy columns at job after later stage sound step going holds =
    subst (λ (a : Piecing). PiecesStep r.toast job later a → pieces.IsLaying a.stage → RewriteHolds xacts snaps old (changed r later (Laying copy columns at a))) (sym step.job) goes step going
  where
    full : RowCopy
    full = restored copy columns at job.value

    next : Piecing
    next = record job { stage = pieces.pieces_after r.toast.rel job.value job.stage }

    stands : StandsAt old r (Laying copy columns at job)
    stands = subst (StandsAt old r) stage holds.stage

    laying : IsLaying old.toast r.toast r.xid full columns at job
    laying = stands.1.0

    shared_was : AreShared old.toast r.toast (Some job.value_id)
    shared_was = subst (λ (s : RewriteStage). AreShared old.toast r.toast (busy_at s)) stage holds.shared

    goes : PiecesStep r.toast job later next → pieces.IsLaying next.stage → RewriteHolds xacts snaps old (changed r later (Laying copy columns at next))
    goes its still = hold_changed xacts snaps old r later (Laying copy columns at next) spares shared (same_rel r.toast later job next its) (sym (ap inserter_at stage)) (placed, (laid_on, stands.1.1)) holds chunks
      where
        chunks : AreChunks old.toast holds.copies (changed r later (Laying copy columns at next))
        chunks = chunks_laid old.toast holds.copies r (changed r later (Laying copy columns at next)) job next its laying.xid_is refl refl (ap busy_at stage) (ap put_at stage) refl (sym (ap cells_at stage)) refl holds.chunks

        left : (id : ℕ) → Some job.value_id ≢ Some id → LeavesValue id r.toast later
        left = (pieces_step_leaves r.toast job later next 0 sound laying.stands its).values

        own : Spares r.toast later (Some job.value_id) (Some job.value_id)
        own = spares_step r.toast later job next (Some job.value_id) sound laying.stands its (λ other apart. apart)

        spares : Spares r.toast later (busy_at r.stage) (Some job.value_id)
        spares = subst (λ (s : RewriteStage). Spares r.toast later (busy_at s) (Some job.value_id)) (sym stage) own

        shared : AreShared old.toast later (Some job.value_id)
        shared = shared_kept old.toast r.toast later (Some job.value_id) (Some job.value_id) (λ other apart. (apart, left other apart)) shared_was

        placed : IsPlacing old later (Some job.value_id) r.place full columns at
        placed = placing_kept old r.toast later (Some job.value_id) (Some job.value_id) r.place full columns at own stands.0

        laid_on : IsLaying old.toast later r.xid full columns at next
        laid_on = record { column = laying.column; here = laying.here; value = laying.value; id = laying.id; xid_is = laying.xid_is; laying = still; stands = its.stands; same = laying.same }
