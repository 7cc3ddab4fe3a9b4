-- The copies while a rewrite runs: those that must be kept are there, and their values are whole.
use Rattle.std.proofs.Common.{◌≡◌, ◌≤◌, true, Some, List, length, Contains, sym, ap, subst, ◌∙◌}
use Rattle.slot_page.specs.declared.line.Tid.{Tid}
use Rattle.slot_page.specs.NextItems.{is_before}
use Rattle.slot_page.specs.Pages.{item_in}
use Rattle.external_pointer.specs.declared.external.Pointer.{Pointer}
use Rattle.tuple_layout.specs.declared.cell.Cell.{Cell}
use Rattle.xact_status.specs.Xacts.{Xacts}
use Rattle.snapshot_registry.specs.Snapshots.{Snaps, is_protected}
use Rattle.row_versions.specs.declared.version.Version.{Version}
use Rattle.toast_store.specs.Values.{Whole, value_in}
use Rattle.table_state.specs.declared.table.Table.{Table}
use Rattle.table_state.specs.Cells.{cells_in}
use Rattle.table_state.specs.Rows.{pointers_in}
use Rattle.table_state.specs.Tables.{cells_of}
use Rattle.rewrite_facts.specs.Copies.{Copied, IsCopy, IsOldVersion, version_of}
use Rattle.rewrite_facts.specs.Holds.{IsCopyOf, IsFilling, IsPlacing, RewriteHolds, StandsAt}
use Rattle.rewrite_facts.specs.Rewrites.{Rewriting, busy_at, new_table}
use Rattle.rewrite_facts.specs.declared.stage.RewriteStage.{RewriteStage}
use Rattle.rewrite_facts.specs.declared.stage.RewriteStage.TheVariants.{Visiting, Filling, Reading, Placing, Laying, Ready}
use Rattle.rewrite_ends.specs.Quiet.{AreQuiet}
use Rattle.rewrite_ends.specs.Ends.{HasNewVersion, IsCopying}
use Rattle.rewrite_ends.specs.Laws.{CopiesAreWhole}
use Rattle.rewrite_ends.proofs.Chosen.{protected_chosen}
use Rattle.rewrite_ends.proofs.Events.{quiet_at}
use Rattle.rewrite_ends.proofs.Cells.{column_of}
use Rattle.rewrite_ends.proofs.Copied.{copy_cells, copy_visited, new_of, new_version, same_schema}

copied : (xacts : Xacts) (snaps : Snaps) (old : Table) (r : Rewriting) (tid : Tid) (version : Version) → length old.rows.schema.storages ≤ 8 → AreQuiet xacts old.rows.pages → RewriteHolds xacts snaps old r
    → item_in old.rows.pages tid ≡ Some version → is_before tid r.place ≡ true → is_protected xacts snaps version.inserter version.ender ≡ true → HasNewVersion old (new_table r) version
copied xacts snaps old r tid version few quiet holds there before protected = new_of xacts snaps old r tid version few holds (copy_visited xacts snaps old r holds tid version there before (protected_chosen xacts snaps version (quiet_at xacts old.rows.pages tid version quiet there) protected))

-- the cells of a new version are those of its copy
pub new_cells : (xacts : Xacts) (snaps : Snaps) (old : Table) (r : Rewriting) (copy : Copied) (version : Version) → length old.rows.schema.storages ≤ 8 → RewriteHolds xacts snaps old r → IsCopy old r.toast (busy_at r.stage) copy → version_of old.rows.schema.storages copy ≡ version
    → cells_of (new_table r) version ≡ copy.cells
new_cells xacts snaps old r copy version few holds made is = ap (λ schema. cells_in schema.storages version.tuple) (same_schema xacts snaps old r holds) ∙ ap (λ (v : Version). cells_in old.rows.schema.storages v.tuple) (sym is) ∙ copy_cells old r copy few made

pub whole : (xacts : Xacts) (snaps : Snaps) (old : Table) (r : Rewriting) (tid : Tid) (version : Version) (pointer : Pointer) → length old.rows.schema.storages ≤ 8 → RewriteHolds xacts snaps old r
    → item_in r.rows.pages tid ≡ Some version → Contains (pointers_in (cells_of (new_table r) version)) pointer → Whole r.toast pointer (value_in r.toast pointer)
whole xacts snaps old r tid version pointer few holds there held =
    let new = new_version xacts snaps old r holds tid version there in
    let column = column_of new.copy.cells pointer (subst (λ (cells : List Cell). Contains (pointers_in cells) pointer) (new_cells xacts snaps old r new.copy version few holds new.made new.is) held) in
    (new.made.new_one.pointers column.column pointer column.here).whole

-- the old version of the copy under way
under_way : (xacts : Xacts) (snaps : Snaps) (old : Table) (r : Rewriting) → RewriteHolds xacts snaps old r → IsCopying r.stage → (version : Version) × IsOldVersion old r.place version
under_way xacts snaps old r holds copying = by_stage r.stage copying holds.stage
  where
    by_stage : (stage : RewriteStage) → IsCopying stage → StandsAt old r stage → (version : Version) × IsOldVersion old r.place version
    by_stage Visiting is stands = absurd is
    by_stage (Filling copy) is stands = (IsFilling.was stands.0, IsCopyOf.old_one (IsFilling.of stands.0))
    by_stage (Reading copy at fetch) is stands = (IsFilling.was stands.0, IsCopyOf.old_one (IsFilling.of stands.0))
    by_stage (Placing copy columns at) is stands = (IsPlacing.was stands.0, IsCopyOf.old_one (IsPlacing.of stands.0))
    by_stage (Laying copy columns at job) is stands = (IsPlacing.was stands.0, IsCopyOf.old_one (IsPlacing.of stands.0))
    by_stage Ready is stands = absurd is

pub copies_are_whole : CopiesAreWhole
copies_are_whole = record { copied = copied; whole = whole; under_way = under_way }
