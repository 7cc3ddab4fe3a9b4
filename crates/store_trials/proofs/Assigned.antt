-- The transactions that chunks name are ones that were given their xids, after each step of a save and of a mark too.
use Rattle.std.proofs.Common.{ℕ, Bool, true, false, cond, Option, Some, None}
use Rattle.std.specs.Prelude.{is_some}
use Rattle.slot_page.specs.Pages.{item_in}
use Rattle.xact_status.specs.Xacts.{Xacts, IsAssigned}
use Rattle.chunk_relation.specs.Relations.{Pages, Relation, AreAssigned, with_ended}
use Rattle.chunk_relation.proofs.Events.{assigned_put, assigned_ended, new_assigned}
use Rattle.chunk_index.specs.declared.entry.Entry.{Entry}
use Rattle.slice_fetch.specs.Spans.{piece}
use Rattle.toast_store.specs.declared.piece_job.PieceStage.{PieceStage}
use Rattle.toast_store.specs.declared.piece_job.PieceStage.TheVariants.{Putting, Indexing, Over}
use Rattle.toast_store.specs.PieceJobs as pieces
use Rattle.toast_store.specs.PieceJobs.{Piecing, tuple_size}
use Rattle.toast_store.specs.Saves.{Saving, Stage, Drawing, Laying, pieces_of, rel_after}
use Rattle.toast_store.specs.Marks.{marked}

-- a job of pieces puts chunks of its own transaction
pub assigned_laid : (xacts : Xacts) (rel : Relation) (job : Piecing) (at : PieceStage) → IsAssigned xacts job.xid → AreAssigned xacts rel.pages → AreAssigned xacts (Relation.pages (pieces.rel_after rel job at))
assigned_laid xacts rel job (Putting seq) given assigned = assigned_put xacts (tuple_size job.value seq) _ rel.pages assigned (new_assigned xacts job.value_id seq job.xid (piece job.value seq) given)
assigned_laid xacts rel job (Indexing seq tid) given assigned = assigned
assigned_laid xacts rel job Over given assigned = assigned

-- and so does a save
pub assigned_saved : (xacts : Xacts) (rel : Relation) (save : Saving) (stage : Stage) → IsAssigned xacts save.xid → AreAssigned xacts rel.pages → AreAssigned xacts (Relation.pages (rel_after rel save stage))
assigned_saved xacts rel save Drawing given assigned = assigned
assigned_saved xacts rel save (Laying value_id at) given assigned = assigned_laid xacts rel (pieces_of save value_id at) at given assigned

-- and a mark ends chunks by its own
pub assigned_marked : (xacts : Xacts) (xid : ℕ) (pages : Pages) (o : Option Entry) → IsAssigned xacts xid → AreAssigned xacts pages → AreAssigned xacts (marked xid pages o)
assigned_marked xacts xid pages None given assigned = assigned
assigned_marked xacts xid pages (Some e) given assigned = by_test (is_some (item_in pages e.tid))
  where
    by_test : (b : Bool) → AreAssigned xacts (cond b (with_ended xid pages e.tid) pages)
    by_test true = assigned_ended xacts xid pages e.tid assigned given
    by_test false = assigned
