-- What a vacuum has removed since its start stays removed.
use Rattle.std.proofs.Common.{◌+◌, inl, inr, Option, List, drop, length, sym, subst, arith}
use Rattle.slot_page.specs.declared.line.LinePointer.{LinePointer}
use Rattle.xact_status.specs.declared.Stamp.{Stamp}
use Rattle.xact_status.specs.Xacts.{Xacts}
use Rattle.chunk_relation.specs.Chunks.{chunk_stamp}
use Rattle.chunk_relation.specs.Relations.{with_ended}
use Rattle.chunk_index.specs.declared.entry.Entry.{Entry}
use Rattle.chunk_index.specs.declared.entry.Swept.{Swept}
use Rattle.toast_store.specs.Stores.{Store}
use Rattle.row_versions.specs.Versions.{version_stamp}
use Rattle.row_versions.specs.Relations as rows
use Rattle.row_versions.specs.Relations.{Relation}
use Rattle.toast_vacuum.specs.declared.stage.Stage.{Stage}
use Rattle.toast_vacuum.specs.declared.stage.Stage.TheVariants.{Pruning, Sweeping, Reaping, Ended}
use Rattle.toast_vacuum.specs.Vacuums.{Vacuuming}
use Rattle.toast_vacuum.specs.Machines.{after_leaf, on_page, target_at, vacuum_at}
use Rattle.toast_vacuum.specs.Targets.{row_ops, toast_ops}
use Rattle.toast_vacuum.specs.Holds.{IsLater, RowVacuumHolds, StartHolds, VacuumHolds}
use Rattle.toast_vacuum.specs.Laws.{StartsStand}
use Rattle.toast_vacuum.proofs.Statuses.{later_aborted, later_assigned, later_committed}
use Rattle.toast_vacuum.proofs.PagesKept.{start_begun, start_ended, start_pruned, start_put, start_reaped}
use Rattle.toast_vacuum.proofs.Rows.{rows_reaped, version_ends}
use Rattle.toast_vacuum.proofs.StoreSteps.{chunk_ends, store_reaped}

-- once the first round is over nothing is still to be made
start_swept : {T : Type 0} (stamp_of : T → Stamp) (first : Xacts) (pages : List (List (LinePointer T))) (v : Vacuuming) (from : Option Entry) (swept : Swept) → StartHolds stamp_of first pages (record v { stage = Sweeping from }) → StartHolds stamp_of first pages (record v { stage = after_leaf from swept })
start_swept stamp_of first pages v from swept holds = record { gone = λ t item is. elim (holds.gone t item is) [ inl still ↦ absurd (omega (arith, still.unmade, still.there)) | inr alive ↦ inr alive ] }

step_at : (first xacts : Xacts) (s : Store) (v : Vacuuming) (stage : Stage) → IsLater first xacts → VacuumHolds xacts s (record v { stage = stage }) → StartHolds chunk_stamp first s.rel.pages (record v { stage = stage })
    → StartHolds chunk_stamp first (Store.rel (target_at toast_ops xacts (record v { stage = stage }) s stage)).pages (vacuum_at toast_ops xacts (record v { stage = stage }) s stage)
step_at first xacts s v (Pruning page) later holds start = start_pruned chunk_stamp xacts v s.rel.pages page (v.removed + toast_ops.newly xacts v.horizon s page) first later holds.pages.place start
step_at first xacts s v (Sweeping from) later holds start = start_swept chunk_stamp first s.rel.pages v from (toast_ops.answer s from v.gathered) start
step_at first xacts s v (Reaping page at) later holds start = subst (λ (x : Store). StartHolds chunk_stamp first x.rel.pages (vacuum_at toast_ops xacts v s (Reaping page at))) (sym (store_reaped (on_page page (drop at v.gathered)) s)) (start_reaped chunk_stamp xacts v s.rel.pages page at holds.pages first start)
step_at first xacts s v Ended later holds start = start

rows_step_at : (first xacts : Xacts) (s : Relation) (v : Vacuuming) (stage : Stage) → IsLater first xacts → RowVacuumHolds xacts s (record v { stage = stage }) → StartHolds version_stamp first s.pages (record v { stage = stage })
    → StartHolds version_stamp first (Relation.pages (target_at row_ops xacts (record v { stage = stage }) s stage)) (vacuum_at row_ops xacts (record v { stage = stage }) s stage)
rows_step_at first xacts s v (Pruning page) later holds start = start_pruned version_stamp xacts v s.pages page (v.removed + row_ops.newly xacts v.horizon s page) first later holds.pages.place start
rows_step_at first xacts s v (Sweeping from) later holds start = start_swept version_stamp first s.pages v from (row_ops.answer s from v.gathered) start
rows_step_at first xacts s v (Reaping page at) later holds start = subst (λ (x : Relation). StartHolds version_stamp first x.pages (vacuum_at row_ops xacts v s (Reaping page at))) (sym (rows_reaped (on_page page (drop at v.gathered)) s)) (start_reaped version_stamp xacts v s.pages page at holds.pages first start)
rows_step_at first xacts s v Ended later holds start = start

pub starts_stand : StartsStand
starts_stand = record {
  begins = λ xacts s horizon. start_begun chunk_stamp xacts s.rel.pages horizon;
  put = λ first xacts s v size chunk later unended runs start. start_put chunk_stamp xacts first size chunk s.rel.pages v later runs unended start;
  ended = λ first xacts s v tid xid later runs start. start_ended chunk_stamp xacts first xid s.rel.pages (with_ended xid s.rel.pages tid) v later runs (chunk_ends xid s.rel.pages tid) start;
  step = λ first xacts s v later holds start. step_at first xacts s v v.stage later holds start;
  rows_begin = λ xacts s horizon. start_begun version_stamp xacts s.pages horizon;
  rows_put = λ first xacts s v version later unended runs start. start_put version_stamp xacts first (length version.tuple) version s.pages v later runs unended start;
  rows_ended = λ first xacts s v tid xid later runs start. start_ended version_stamp xacts first xid s.pages (rows.pages_ended xid s.pages tid) v later runs (version_ends xid s.pages tid) start;
  rows_step = λ first xacts s v later holds start. rows_step_at first xacts s v v.stage later holds start;
  first = λ xacts. record { aborted = λ xid is. is; committed = λ xid is. is };
  assigned = later_assigned;
  committed = later_committed;
  aborted = later_aborted;
}
