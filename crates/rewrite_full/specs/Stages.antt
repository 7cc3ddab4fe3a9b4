-- What holds of a rewrite at a stage, and what its step goes on from.
use Rattle.std.specs.Prelude.{ℕ, ◌≡◌, ◌+◌, ◌-◌, Option, Some, None, List, slice_get, ⊤}
use Rattle.toast_store.specs.Stores.{Store}
use Rattle.toast_store.specs.declared.fetch.FetchStep.{FetchStep}
use Rattle.toast_store.specs.declared.fetch.FetchStep.TheVariants as told
use Rattle.rewrite_facts.specs.Copies.{id_at}
use Rattle.rewrite_facts.specs.Rewrites.{Rewriting, column_at, is_used_in, with_cell}
use Rattle.external_pointer.specs.declared.external.Pointer.{Pointer}
use Rattle.external_pointer.specs.Spelling.{IsInRange}
use Rattle.tuple_layout.specs.declared.cell.Cell.TheVariants.{Inline, Null, Out}
use Rattle.value_ids.specs.Ids.{Pool, first_free_id}
use Rattle.toast_store.specs.PieceJobs.{IsLaying, Piecing, PiecesStep, new_pieces, pointer_to}
use Rattle.toast_store.specs.declared.piece_job.PieceStage.TheVariants.{Over}
use Rattle.rewrite_full.specs.Steps.{drawn_from}
use Rattle.rewrite_facts.specs.declared.stage.RowCopy.{RowCopy}
use Rattle.rewrite_facts.specs.declared.stage.RewriteStage.{RewriteStage}
use Rattle.rewrite_facts.specs.declared.stage.RewriteStage.TheVariants.{Visiting, Filling, Reading, Placing, Laying, Ready}

-- what a step of a read has told that has its value, or none yet
abbrev pub told_by : Option (List ℕ) → FetchStep
told_by None = told.More
told_by (Some value) = told.Done value

-- the old value of the next column, if there is one, was not out of line
abbrev pub IsDrawing : RewriteStage → Type 0
IsDrawing Visiting = ⊥
IsDrawing (Filling copy) = ⊥
IsDrawing (Reading copy at fetch) = ⊤
IsDrawing (Placing copy columns at) = (column : ℕ) → slice_get columns at ≡ Some column → id_at copy.ids (column - 1) ≡ None
IsDrawing (Laying copy columns at pieces) = ⊤
IsDrawing Ready = ⊤

-- the value of a column is taken out of the copy and comes on its way under an id
pub record IsBegun (xid : ℕ) (copy : RowCopy) (columns : List ℕ) (at column id : ℕ) (stage : RewriteStage) : Type 0 where
  pub value : List ℕ
  pub inline : slice_get copy.cells (column - 1) ≡ Some (Inline value)
  pub stage_is : stage ≡ Laying (with_cell copy column Null) columns at (new_pieces xid id value)

-- what a draw does for the value of a column
pub record DrawsOn (old : Store) (ids : Pool) (r : Rewriting) (copy : RowCopy) (columns : List ℕ) (at column : ℕ) (ids_after : Pool) (stage : RewriteStage) : Type 0 where
  pub id : ℕ
  pub free : first_free_id (is_used_in old r.toast) ids r.table ≡ Some id
  pub drawn : ids_after ≡ drawn_from ids r.table r.session id
  pub begun : IsBegun r.xid copy columns at column id stage

-- the pieces go on, or were the last
pub data LaidOn (copy : RowCopy) (columns : List ℕ) (at : ℕ) (left : Piecing) (toast_rel : ℕ) (stage : RewriteStage) : Type 0 where
  Goes : IsLaying left.stage → stage ≡ Laying copy columns at left → LaidOn copy columns at left toast_rel stage
  Ends : (pointer : Pointer) → left.stage ≡ Over → IsInRange pointer → pointer ≡ pointer_to left toast_rel → stage ≡ Placing (with_cell copy (column_at columns at) (Out pointer)) columns (at + 1) → LaidOn copy columns at left toast_rel stage

-- what a step of a value's pieces does
pub record LaysOn (new : Store) (copy : RowCopy) (columns : List ℕ) (at : ℕ) (job : Piecing) (toast_rel : ℕ) (later : Store) (stage : RewriteStage) : Type 0 where
  pub left : Piecing
  pub step : PiecesStep new job later left
  pub laid : LaidOn copy columns at left toast_rel stage
