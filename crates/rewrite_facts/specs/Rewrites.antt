-- A rewrite as plain data.
use Rattle.std.specs.Prelude.{ℕ, ◌-◌, Bool, ◌||◌, Option, Some, None, List, [], slice_index_or, slice_set}
use Rattle.slot_page.specs.declared.line.Tid.{Tid}
use Rattle.row_versions.specs.Relations.{Relation, no_versions}
use Rattle.toast_store.specs.Stores.{Store, is_used}
use Rattle.toast_store.specs.PieceJobs.{Piecing}
use Rattle.table_state.specs.declared.table.Table.{Table}
use Rattle.tuple_layout.specs.declared.cell.Cell.{Cell}
use Rattle.tuple_layout.specs.declared.cell.Cell.TheVariants.{Inline}
use Rattle.rewrite_facts.specs.declared.stage.RowCopy.{RowCopy}
use Rattle.rewrite_facts.specs.declared.stage.RewriteStage.{RewriteStage}
use Rattle.rewrite_facts.specs.declared.stage.RewriteStage.TheVariants.{Visiting, Filling, Reading, Placing, Laying, Ready}
use Rattle.rewrite_facts.specs.declared.stage.RewriteStep.{RewriteStep}
use Rattle.rewrite_facts.specs.declared.stage.RewriteStep.TheVariants as steps

-- a rewrite: of which table, for which session, by the transaction with which xid; the new rows and their values out of line; and how far it is: up to which place of the old relation, and what its next step does
pub record Rewriting : Type 0 where
  pub table : ℕ
  pub session : ℕ
  pub xid : ℕ
  pub rows : Relation
  pub toast : Store
  pub place : Tid
  pub stage : RewriteStage

-- a table, by its two parts
abbrev pub table_of : Relation → Store → Table
table_of rows toast = record { rows = rows; toast = toast }

-- the new relations
abbrev pub new_table : Rewriting → Table
new_table r = table_of r.rows r.toast

-- a store without a chunk, whose toast relation is that of another
abbrev pub empty_store : Store → Store
empty_store old = record { rel = record { rel_id = old.rel.rel_id; pages = [] }; index = record { entries = []; bounds = []; pins = [] } }

-- a rewrite of a table before its first step
abbrev pub new_rewrite : ℕ → ℕ → ℕ → Table → Rewriting
new_rewrite table session xid old = record { table = table; session = session; xid = xid; rows = no_versions old.rows.schema; toast = empty_store old.toast; place = record { page = 0; slot = 0 }; stage = Visiting }

-- a rewrite at another stage
abbrev pub at_stage : Rewriting → RewriteStage → Rewriting
at_stage r stage = record r { stage = stage }

-- whether an id is used in the old store or in the new one
abbrev pub is_used_in : Store → Store → ℕ → Bool
is_used_in old new id = is_used old id || is_used new id

-- a copy with another cell in a column, from 1
abbrev pub with_cell : RowCopy → ℕ → Cell → RowCopy
with_cell copy column cell = record copy { cells = slice_set copy.cells (column - 1) cell }

-- a copy with the value of the column at a place
abbrev pub with_value : RowCopy → ℕ → List ℕ → RowCopy
with_value copy at value = record copy { cells = slice_set copy.cells at (Inline value) }

-- the column at a place of some
abbrev pub column_at : List ℕ → ℕ → ℕ
column_at columns at = slice_index_or columns at 0

-- a copy whose next column has its value back, which was taken out to be put
abbrev pub restored : RowCopy → List ℕ → ℕ → List ℕ → RowCopy
restored copy columns at value = with_cell copy (column_at columns at) (Inline value)

-- the id whose pieces are on their way
abbrev pub busy_at : RewriteStage → Option ℕ
busy_at Visiting = None
busy_at (Filling copy) = None
busy_at (Reading copy at fetch) = None
busy_at (Placing copy columns at) = None
busy_at (Laying copy columns at pieces) = Some (Piecing.value_id pieces)
busy_at Ready = None

-- who put the version that is being copied
abbrev pub inserter_at : RewriteStage → Option ℕ
inserter_at Visiting = None
inserter_at (Filling copy) = Some copy.stamp.inserter
inserter_at (Reading copy at fetch) = Some copy.stamp.inserter
inserter_at (Placing copy columns at) = Some copy.stamp.inserter
inserter_at (Laying copy columns at pieces) = Some copy.stamp.inserter
inserter_at Ready = None

-- what a step answers, by where the rewrite stands then
abbrev pub answer_at : RewriteStage → RewriteStep
answer_at Visiting = steps.More
answer_at (Filling copy) = steps.More
answer_at (Reading copy at fetch) = steps.More
answer_at (Placing copy columns at) = steps.More
answer_at (Laying copy columns at pieces) = steps.More
answer_at Ready = steps.Ready
