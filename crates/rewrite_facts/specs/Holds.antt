-- What holds of a rewrite with the old relations, before its first step and after each.
use Rattle.std.specs.Prelude.{ℕ, ◌≡◌, ◌≢◌, ◌-◌, ◌≤◌, true, Option, Some, None, List, Contains, length, map, drop, slice_get}
use Rattle.slot_page.specs.declared.line.Tid.{Tid}
use Rattle.slot_page.specs.NextItems.{IsEmptyFrom}
use Rattle.external_pointer.specs.declared.external.Pointer.{Pointer}
use Rattle.tuple_layout.specs.declared.Storage.{Storage}
use Rattle.tuple_layout.specs.declared.Storage.TheVariants.{External}
use Rattle.tuple_layout.specs.declared.cell.Cell.{Cell}
use Rattle.tuple_layout.specs.declared.cell.Cell.TheVariants.{Inline, Out}
use Rattle.tuple_layout.specs.Sizes.{least_out}
use Rattle.tuple_layout.specs.Tuples.{HasTuple, cell_widths}
use Rattle.tuple_toaster.specs.Pushed.{moved}
use Rattle.xact_status.specs.Xacts.{Xacts, is_committed}
use Rattle.snapshot_registry.specs.Snapshots.{Snaps}
use Rattle.row_versions.specs.declared.version.Version.{Version}
use Rattle.row_versions.specs.Versions.{version_stamp}
use Rattle.chunk_index.specs.Pinned.{pin_of}
use Rattle.toast_store.specs.Stores.{Store, chunks_of, is_used}
use Rattle.toast_store.specs.Values.{Piece, piece_count, piece_in, pieces_of, value_in}
use Rattle.toast_store.specs.Walks.{CanStep}
use Rattle.toast_store.specs.Begun.{IsOverSome}
use Rattle.toast_store.specs.PieceJobs as pieces
use Rattle.toast_store.specs.PieceJobs.{Piecing, PiecesStand}
use Rattle.toast_store.specs.Fetches.{Fetching, outcome}
use Rattle.table_state.specs.declared.table.Table.{Table}
use Rattle.table_state.specs.Rows.{cell_value}
use Rattle.rewrite_facts.specs.Copies.{AreInOrder, AreRowCells, AreVisited, AreWhole, Copied, IsCopy, IsIdOf, IsNewRow, IsOldVersion, chosen_widths, id_at, ids_of, laid, row_in_old, with_cells}
use Rattle.rewrite_facts.specs.Chunks.{AreChunks}
use Rattle.rewrite_facts.specs.Rewrites.{Rewriting, busy_at, inserter_at, restored}
use Rattle.rewrite_facts.specs.declared.stage.RowCopy.{RowCopy}
use Rattle.rewrite_facts.specs.declared.stage.RewriteStage.{RewriteStage}
use Rattle.rewrite_facts.specs.declared.stage.RewriteStage.TheVariants as stages
use Rattle.table_state.specs.Tables.{longest_value}
use Rattle.std.specs.Prelude.{Ok}

-- ---- the version that is being copied

-- a copy is of the old version at a place
pub record IsCopyOf (old : Table) (place : Tid) (copy : RowCopy) (was : Version) : Type 0 where
  pub old_one : IsOldVersion old place was
  pub key : copy.key ≡ was.key
  pub stamp : copy.stamp ≡ version_stamp was
  pub ids : copy.ids ≡ ids_of old was

-- its values are being read: the cells have the row of the old version, by the values of the old store
pub record IsFilling (old : Table) (place : Tid) (copy : RowCopy) : Type 0 where
  pub was : Version
  pub of : IsCopyOf old place copy was
  pub has : HasTuple old.rows.schema.storages (with_cells was.key copy.cells)
  pub limits : AreRowCells old.rows.schema.storages copy.cells
  pub row : map (cell_value old.toast) copy.cells ≡ row_in_old old was
  pub whole : AreWhole old.toast copy.cells

-- the value of the column at a place is being read: the fetch may go on, and comes to it
pub record IsReading (old : Table) (session : ℕ) (copy : RowCopy) (at : ℕ) (fetch : Fetching) : Type 0 where
  pub pointer : Pointer
  pub here : slice_get copy.cells at ≡ Some (Out pointer)
  pub comes_to : outcome old.toast fetch ≡ Ok (value_in old.toast pointer)
  pub session_is : fetch.walk.session ≡ session
  pub can : CanStep old.toast.index fetch.walk
  pub some : IsOverSome fetch.walk.stage

-- the value of a column may go out: it is EXTERNAL, and its value is inline, of 21 to 65,536 bytes
pub record CanGoOut (schema : List Storage) (cells : List Cell) (column : ℕ) : Type 0 where
  pub value : List ℕ
  pub from : 1 ≤ column
  pub external : slice_get schema (column - 1) ≡ Some External
  pub inline : slice_get cells (column - 1) ≡ Some (Inline value)
  pub least : least_out ≤ length value
  pub most : length value ≤ longest_value

-- those of some columns from a place on may go out, and none comes twice
pub record CanPush (schema : List Storage) (cells : List Cell) (columns : List ℕ) (from : ℕ) : Type 0 where
  pub values : (at column : ℕ) → from ≤ at → slice_get columns at ≡ Some column → CanGoOut schema cells column
  pub once : (at other column : ℕ) → slice_get columns at ≡ Some column → slice_get columns other ≡ Some column → at ≡ other
  pub there : (at column : ℕ) → slice_get columns at ≡ Some column → 1 ≤ column

-- its columns go out, up to a place of those that are chosen
pub record IsPlacing (old : Table) (new : Store) (busy : Option ℕ) (place : Tid) (copy : RowCopy) (columns : List ℕ) (at : ℕ) : Type 0 where
  pub was : Version
  pub of : IsCopyOf old place copy was
  pub new_one : IsNewRow old new busy was copy.cells
  pub out : moved (drop at columns) (cell_widths copy.cells) ≡ chosen_widths old.rows.schema.storages (row_in_old old was)
  pub push : CanPush old.rows.schema.storages copy.cells columns at

-- the pieces under an id
abbrev pub pieces_under : Store → ℕ → List Piece
pieces_under store value_id = map piece_in (chunks_of store value_id)

-- the value of the column at that place is on its way under its id, which the old store uses for no other
pub record IsLaying (old new : Store) (xid : ℕ) (copy : RowCopy) (columns : List ℕ) (at : ℕ) (job : Piecing) : Type 0 where
  pub column : ℕ
  pub here : slice_get columns at ≡ Some column
  pub value : slice_get copy.cells (column - 1) ≡ Some (Inline job.value)
  pub id : IsIdOf old (id_at copy.ids (column - 1)) job.value_id
  pub xid_is : job.xid ≡ xid
  pub laying : pieces.IsLaying job.stage
  pub stands : PiecesStand new job
  pub same : is_used old job.value_id ≡ true → pieces_under old job.value_id ≡ pieces_of job.value 0 (piece_count (length job.value))

-- ---- the whole

-- the session has no pin in the old store
abbrev pub HoldsNoPin : Store → ℕ → Type 0
HoldsNoPin old session = pin_of old.index.pins session ≡ None

-- what stands by where a rewrite is
abbrev pub StandsAt : Table → Rewriting → RewriteStage → Type 0
StandsAt old r stages.Visiting = HoldsNoPin old.toast r.session
StandsAt old r (stages.Filling copy) = IsFilling old r.place copy × HoldsNoPin old.toast r.session
StandsAt old r (stages.Reading copy at fetch) = IsFilling old r.place copy × IsReading old r.session copy at fetch
StandsAt old r (stages.Placing copy columns at) = IsPlacing old r.toast None r.place copy columns at × HoldsNoPin old.toast r.session
StandsAt old r (stages.Laying copy columns at job) = let whole = restored copy columns at (Piecing.value job) in IsPlacing old r.toast (Some (Piecing.value_id job)) r.place whole columns at × (IsLaying old.toast r.toast r.xid whole columns at job × HoldsNoPin old.toast r.session)
StandsAt old r stages.Ready = IsEmptyFrom old.rows.pages r.place

-- an id that both stores use, and whose pieces are not on their way, has the same pieces in both
pub record AreShared (old new : Store) (busy : Option ℕ) : Type 0 where
  pub each : (id : ℕ) → busy ≢ Some id → is_used new id ≡ true → is_used old id ≡ true → pieces_under new id ≡ pieces_under old id

-- who put each version that was copied, or is being copied, has committed, as at its visit
pub record AreInserted (xacts : Xacts) (copies : List Copied) (stage : RewriteStage) : Type 0 where
  pub each : (copy : Copied) → Contains copies copy → is_committed xacts copy.was.inserter ≡ true
  pub under_way : (inserter : ℕ) → inserter_at stage ≡ Some inserter → is_committed xacts inserter ≡ true

-- what holds of a rewrite
pub record RewriteHolds (xacts : Xacts) (snaps : Snaps) (old : Table) (r : Rewriting) : Type 0 where
  -- the copies so far; the new rows are what putting them one by one gives, in the old order
  pub copies : List Copied
  pub rows : r.rows ≡ laid old.rows.schema copies
  pub order : AreInOrder r.place copies
  -- each version that was visited and is chosen has its copy, and each copy has its version's row
  pub visited : AreVisited xacts snaps old.rows.pages r.place copies
  pub made : (copy : Copied) → Contains copies copy → IsCopy old r.toast (busy_at r.stage) copy
  pub inserted : AreInserted xacts copies r.stage
  -- the new values beside the old ones
  pub relation : r.toast.rel.rel_id ≡ old.toast.rel.rel_id
  pub shared : AreShared old.toast r.toast (busy_at r.stage)
  pub chunks : AreChunks old.toast copies r
  -- the version that is being copied
  pub stage : StandsAt old r r.stage
