-- The end of a rewrite, and its new versions beside the old ones that they copy.
use Rattle.std.specs.Prelude.{ℕ, ◌≡◌, ◌≤◌, true, None, List, length, Contains, Some, ⊤}
use Rattle.slot_page.specs.declared.line.Tid.{Tid}
use Rattle.slot_page.specs.Pages.{item_in}
use Rattle.xact_status.specs.Xacts.{Xacts}
use Rattle.snapshot_registry.specs.Snapshots.{Snaps}
use Rattle.row_versions.specs.declared.version.Version.{Version}
use Rattle.table_state.specs.declared.table.Table.{Table}
use Rattle.table_state.specs.Rows.{has_id, row_of}
use Rattle.table_state.specs.Tables.{cells_of}
use Rattle.rewrite_facts.specs.Copies.{AreInOrder, Copied, IsCopy, laid}
use Rattle.rewrite_facts.specs.Holds.{RewriteHolds}
use Rattle.rewrite_facts.specs.Rewrites.{Rewriting}
use Rattle.rewrite_facts.specs.declared.stage.RewriteStage.{RewriteStage}
use Rattle.rewrite_facts.specs.declared.stage.RewriteStage.TheVariants.{Visiting, Filling, Reading, Placing, Laying, Ready}

-- a rewrite of a table has nothing left to do
pub record IsReady (xacts : Xacts) (snaps : Snaps) (old : Table) (r : Rewriting) : Type 0 where
  pub stage : r.stage ≡ Ready
  pub holds : RewriteHolds xacts snaps old r
  pub columns : length old.rows.schema.storages ≤ 8

-- a new version has the key, the inserter, the ender and the row of an old one
pub record IsSameVersion (old new : Table) (was version : Version) : Type 0 where
  pub key : version.key ≡ was.key
  pub inserter : version.inserter ≡ was.inserter
  pub ender : version.ender ≡ was.ender
  pub row : row_of new.rows.schema.storages new.toast version.tuple ≡ row_of old.rows.schema.storages old.toast was.tuple

-- some new version does
pub record HasNewVersion (old new : Table) (was : Version) : Type 0 where
  pub tid : Tid
  pub version : Version
  pub there : item_in new.rows.pages tid ≡ Some version
  pub same : IsSameVersion old new was version

-- a new version is that of some old one
pub record HasOldVersion (old new : Table) (version : Version) : Type 0 where
  pub tid : Tid
  pub was : Version
  pub there : item_in old.rows.pages tid ≡ Some was
  pub same : IsSameVersion old new was version

-- the new rows are copies of old versions, put one by one from an empty relation in the order of the old ones. IsCopy: which columns are out and under which ids, and that the pointers have whole values and name the table's toast relation
pub record AreLaid (old : Table) (r : Rewriting) : Type 0 where
  pub copies : List Copied
  pub rows : r.rows ≡ laid old.rows.schema copies
  pub order : AreInOrder r.place copies
  pub each : (copy : Copied) → Contains copies copy → IsCopy old r.toast None copy

-- a version is being copied
abbrev pub IsCopying : RewriteStage → Type 0
IsCopying Visiting = ⊥
IsCopying (Filling copy) = ⊤
IsCopying (Reading copy at fetch) = ⊤
IsCopying (Placing copy columns at) = ⊤
IsCopying (Laying copy columns at pieces) = ⊤
IsCopying Ready = ⊥

-- some version of a table has a pointer with an id
pub record IsHad (table : Table) (value_id : ℕ) : Type 0 where
  pub tid : Tid
  pub version : Version
  pub there : item_in table.rows.pages tid ≡ Some version
  pub has : has_id value_id (cells_of table version) ≡ true
