-- The new relations are a table once the rewrite's transaction has committed.
use Rattle.std.proofs.Common.{ℕ, ℤ, ◌≡◌, inl, Bool, true, ◌==◌, cond, Some, List, slice_get, Contains, refl, sym, ap, subst, ◌∙◌, arith}
use Rattle.std.proofs.lemmas.Bool.Decides.{nat_tests}
use Rattle.std.proofs.lemmas.Option.{none-some}
use Rattle.std.specs.List.{IsDistinct}
use Rattle.std.specs.Prelude.{nat_eq}
use Rattle.slot_page.specs.declared.line.Tid.{Tid}
use Rattle.slot_page.specs.declared.line.LinePointer.{LinePointer}
use Rattle.slot_page.specs.declared.line.LinePointer.TheVariants.{Normal, Dead, Unused}
use Rattle.slot_page.specs.Pages.{item_in, slot_of}
use Rattle.slot_page.specs.Slots.{item_of}
use Rattle.external_pointer.specs.declared.external.Pointer.{Pointer}
use Rattle.tuple_layout.specs.declared.cell.Cell.{Cell}
use Rattle.tuple_layout.specs.declared.cell.Cell.TheVariants.{Out}
use Rattle.tuple_layout.specs.Tuples.{HasTuple, tuple}
use Rattle.xact_status.specs.Xacts.{Xacts, IsAssigned, after_commit, is_committed, is_running}
use Rattle.xact_status.proofs.Events.{assigned_from_committed, committed_commit}
use Rattle.heap_prune.specs.Lines.{IsLineAssigned}
use Rattle.snapshot_registry.specs.Snapshots.{Snaps}
use Rattle.snapshot_registry.specs.Laws.{IsRegistryOf}
use Rattle.row_versions.specs.declared.version.Version.{Version}
use Rattle.chunk_relation.specs.declared.chunk.Chunk.{Chunk}
use Rattle.chunk_relation.specs.Chunks.{chunk_stamp}
use Rattle.chunk_relation.specs.Relations.{AreAssigned}
use Rattle.value_holders.specs.Stamps.{IsSoundStamp}
use Rattle.value_holders.proofs.Tests.{clash}
use Rattle.table_rows.specs.Steps.{stamp_of}
use Rattle.table_rows.specs.Worlds.{IsUntouched}
use Rattle.table_state.specs.declared.table.Table.{Table}
use Rattle.table_state.specs.Cells.{cells_in}
use Rattle.table_state.specs.Tables.{AreCellsOf, IsRowTuple, IsTable, toast_rel_of}
use Rattle.table_state.proofs.Records.{moments_keep}
use Rattle.rewrite_facts.specs.Chunks.{Made}
use Rattle.rewrite_facts.specs.Copies.{Copied, IsCopy, version_of}
use Rattle.rewrite_facts.specs.Rewrites.{Rewriting, busy_at, new_table}
use Rattle.rewrite_ends.specs.Quiet.{AreQuiet}
use Rattle.rewrite_ends.specs.Ends.{IsReady}
use Rattle.rewrite_ends.specs.Laws.{TableAtEnd}
use Rattle.rewrite_ends.proofs.Chosen.{IsQuiet}
use Rattle.rewrite_ends.proofs.Events.{events_keep, quiet_at, quiet_commit}
use Rattle.rewrite_ends.proofs.Cells.{AreApart, cells_of_limits, distinct_at, distinct_from, ids_in}
use Rattle.rewrite_ends.proofs.Copied.{copy_cells, new_version, same_schema}
use Rattle.rewrite_ends.proofs.Whole.{whole}
use Rattle.rewrite_ends.proofs.Worlds.{one_version}
use Rattle.rewrite_ends.proofs.Held.{Comes, Kept, Drawn, comes, held, sound_stamp}

-- ---- tuples

-- no two columns of a copy have one id: two that were kept stood in one column, and a drawn one was drawn for its own
columns_apart : (number : ℕ) (xacts : Xacts) (snaps : Snaps) (old : Table) (r : Rewriting) (ready : IsReady xacts snaps old r) → IsTable number xacts snaps old → (copy : Copied) → Contains ready.holds.copies copy → IsCopy old r.toast (busy_at r.stage) copy → AreApart copy.cells
columns_apart number xacts snaps old r ready table copy among made = record { each = λ n k p q here there same. by_ids n k p q here there same (comes old r copy n p made here) (comes old r copy k q made there) }
  where
    by_ids : (n k : ℕ) (p q : Pointer) → slice_get copy.cells n ≡ Some (Out p) → slice_get copy.cells k ≡ Some (Out q) → p.value_id ≡ q.value_id → Comes old copy n p → Comes old copy k q → n ≡ k
    by_ids n k p q here there same (Kept was was_here is) (Kept other other_here is_too) = distinct_at (cells_in old.rows.schema.storages copy.was.tuple) n k was other (table.tuples copy.from copy.was made.old_one.there).distinct was_here other_here (is ∙ same ∙ sym is_too)
    by_ids n k p q here there same (Drawn unused) from = (ready.holds.chunks.once copy.from copy.from n k p q (Made copy among refl here) (Made copy among refl there) same unused).1
    by_ids n k p q here there same (Kept was was_here is) (Drawn unused) = sym (ready.holds.chunks.once copy.from copy.from k n q p (Made copy among refl there) (Made copy among refl here) (sym same) unused).1

-- a copy's tuple is that of a row of the table
copy_tuple : (number : ℕ) (xacts : Xacts) (snaps : Snaps) (old : Table) (r : Rewriting) (ready : IsReady xacts snaps old r) → IsTable number xacts snaps old → (copy : Copied) → Contains ready.holds.copies copy → IsCopy old r.toast (busy_at r.stage) copy
    → IsRowTuple (toast_rel_of number) old.rows.schema.storages copy.was.key (Version.tuple (version_of old.rows.schema.storages copy))
copy_tuple number xacts snaps old r ready table copy among made =
    let schema = old.rows.schema.storages in
    let same = copy_cells old r copy ready.columns made in
    record {
      stored = record {
        has = subst (λ (cells : List Cell). HasTuple schema (record { key = copy.was.key; cells = cells })) (sym same) made.new_one.has;
        is = ap (λ (cells : List Cell). tuple schema (record { key = copy.was.key; cells = cells })) (sym same);
      };
      cells = subst (λ (cells : List Cell). AreCellsOf (toast_rel_of number) schema cells) (sym same) (cells_of_limits (toast_rel_of number) schema copy.cells made.new_one.limits (λ n p here. (made.new_one.pointers n p here).own ∙ table.relation));
      distinct = subst (λ (cells : List Cell). IsDistinct nat_eq (ids_in cells)) (sym same) (distinct_from copy.cells (columns_apart number xacts snaps old r ready table copy among made));
    }

-- ---- values

-- a chunk's transaction was given its xid
chunks_given : (xacts : Xacts) (snaps : Snaps) (old : Table) (r : Rewriting) → is_committed xacts r.xid ≡ true → IsReady xacts snaps old r → AreAssigned xacts r.toast.rel.pages
chunks_given xacts snaps old r committed ready = record { each = λ tid. by_line tid (slot_of r.toast.rel.pages tid) refl }
  where
    by_line : (tid : Tid) (line : LinePointer Chunk) → slot_of r.toast.rel.pages tid ≡ line → IsLineAssigned chunk_stamp xacts line
    by_line tid (Normal size chunk) is =
        let new = ready.holds.chunks.each tid chunk (ap item_of is) in
        record { inserter = assigned_from_committed xacts chunk.inserter (ap (is_committed xacts) new.inserter ∙ committed); ender = λ xid ended. absurd (none-some xid (sym new.ender ∙ ended)) }
    by_line tid Dead is = tt
    by_line tid Unused is = tt

-- ---- the law

-- what is told of a new version is told of its copy
told : (xacts : Xacts) (snaps : Snaps) (old : Table) (r : Rewriting) (ready : IsReady xacts snaps old r) → AreQuiet xacts old.rows.pages → (P : Version → Type 0)
    → ((copy : Copied) → Contains ready.holds.copies copy → IsCopy old r.toast (busy_at r.stage) copy → IsQuiet xacts copy.was → P (version_of old.rows.schema.storages copy)) → (tid : Tid) (version : Version) → item_in r.rows.pages tid ≡ Some version → P version
told xacts snaps old r ready quiet P of tid version there =
    let new = new_version xacts snaps old r ready.holds tid version there in
    subst P new.is (of new.copy new.among new.made (quiet_at xacts old.rows.pages new.copy.from new.copy.was quiet new.made.old_one.there))

at_end : (number : ℕ) (xacts : Xacts) (snaps : Snaps) (old : Table) (r : Rewriting) → is_committed xacts r.xid ≡ true → AreQuiet xacts old.rows.pages → IsTable number xacts snaps old → IsReady xacts snaps old r → IsTable number xacts snaps (new_table r)
at_end number xacts snaps old r committed quiet table ready = record {
  relation = ready.holds.relation ∙ table.relation;
  tuples = by_copy (λ version. IsRowTuple (toast_rel_of number) r.rows.schema.storages version.key version.tuple)
      (λ copy among made still. subst (λ schema. IsRowTuple (toast_rel_of number) schema.storages copy.was.key (Version.tuple (version_of old.rows.schema.storages copy))) (sym schema_same) (copy_tuple number xacts snaps old r ready table copy among made));
  whole = λ tid version pointer there protected. whole xacts snaps old r tid version pointer ready.columns ready.holds there;
  one = one_version xacts snaps old r table.one ready.holds;
  held = λ value_id. held number xacts snaps old r value_id committed quiet table ready;
  sound = by_copy (λ version. IsSoundStamp xacts (stamp_of version)) (λ copy among made still. sound_stamp xacts copy.was still);
  given = record {
    inserter = by_copy (λ version. IsAssigned xacts version.inserter) (λ copy among made still. still.inserter.given);
    ender = λ tid version xid there. by_copy (λ v. v.ender ≡ Some xid → IsAssigned xacts xid) (λ copy among made still ended. (still.ender xid ended).given) tid version there;
  };
  assigned = chunks_given xacts snaps old r committed ready;
}
  where
    schema_same : r.rows.schema ≡ old.rows.schema
    schema_same = same_schema xacts snaps old r ready.holds

    by_copy : (P : Version → Type 0) → ((copy : Copied) → Contains ready.holds.copies copy → IsCopy old r.toast (busy_at r.stage) copy → IsQuiet xacts copy.was → P (version_of old.rows.schema.storages copy))
        → (tid : Tid) (version : Version) → item_in r.rows.pages tid ≡ Some version → P version
    by_copy = told xacts snaps old r ready quiet

-- the rewrite's own transaction, which runs, has touched no version
untouched : (xacts : Xacts) (old : Table) (x : ℕ) (key : ℤ) → is_running xacts x ≡ true → AreQuiet xacts old.rows.pages → IsUntouched x old.rows.pages key
untouched xacts old x key runs quiet = record {
  inserter = λ tid version at same. clash (is_running xacts version.inserter) (ap (is_running xacts) same ∙ runs) (quiet.inserter tid version at.there).ended;
  ender = λ tid version at same. clash (is_running xacts x) runs (quiet.ender tid version x at.there same).ended;
}

at_commit : (number : ℕ) (xacts : Xacts) (snaps : Snaps) (old : Table) (r : Rewriting) → is_running xacts r.xid ≡ true → IsRegistryOf xacts snaps → AreQuiet xacts old.rows.pages → IsTable number xacts snaps old
    → IsReady xacts snaps old r → IsTable number (after_commit xacts r.xid) snaps (new_table r)
at_commit number xacts snaps old r runs registry quiet table ready = at_end number (after_commit xacts r.xid) snaps old r
    (committed_commit xacts r.xid runs r.xid ∙ itself r.xid (is_committed xacts r.xid)) (quiet_commit xacts r.xid old.rows.pages runs quiet)
    (moments_keep.committed number xacts snaps r.xid old runs registry (λ y key others apart. inl (untouched xacts old r.xid key runs quiet)) table)
    (record { stage = ready.stage; holds = events_keep.committed xacts snaps r.xid old r runs registry quiet ready.holds; columns = ready.columns })
  where
    itself : (n : ℕ) (b : Bool) → cond (n == n) true b ≡ true
    itself n b = grind (arith, nat_tests)

pub table_at_end : TableAtEnd
table_at_end = record { at_end = at_end; at_commit = at_commit }
