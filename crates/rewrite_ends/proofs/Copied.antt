-- The new versions and the old ones that they copy.
use Rattle.std.proofs.Common.{◌≡◌, ◌≤◌, inl, inr, true, Some, None, List, length, map, Contains, refl, sym, ap, subst, ◌∙◌}
use Rattle.std.proofs.lemmas.Option.{none-some, same_Some}
use Rattle.slot_page.specs.declared.line.Tid.{Tid}
use Rattle.slot_page.specs.Pages.{item_in}
use Rattle.slot_page.specs.NextItems.{IsEmptyFrom, is_before}
use Rattle.xact_status.specs.Xacts.{Xacts, is_committed}
use Rattle.snapshot_registry.specs.Snapshots.{Snaps}
use Rattle.row_versions.specs.declared.version.Version.{Version}
use Rattle.row_versions.specs.Relations.{Relation}
use Rattle.table_state.specs.declared.table.Table.{Table}
use Rattle.table_state.specs.Cells.{cells_in}
use Rattle.table_state.specs.Rows.{cell_value, row_of}
use Rattle.table_state.proofs.Tuples.{cells_of_tuple}
use Rattle.rewrite_facts.specs.Copies.{Copied, IsCopy, is_chosen, version_of, with_cells}
use Rattle.rewrite_facts.specs.Holds.{RewriteHolds, StandsAt}
use Rattle.rewrite_facts.specs.Rewrites.{Rewriting, busy_at, new_table}
use Rattle.rewrite_facts.proofs.Orders.{cases_before}
use Rattle.rewrite_ends.specs.Ends.{HasNewVersion, HasOldVersion, IsReady, IsSameVersion}
use Rattle.rewrite_ends.specs.Laws.{CopiesAreTheChosen}
use Rattle.rewrite_ends.proofs.Laid.{LiesAt, copy_laid, laid_pages, laid_schema, lies_in, lies_there, of_copy}

-- ---- the new relation is that of the copies

pub same_item : (xacts : Xacts) (snaps : Snaps) (old : Table) (r : Rewriting) (holds : RewriteHolds xacts snaps old r) (tid : Tid) → item_in r.rows.pages tid ≡ item_in (laid_pages old.rows.schema holds.copies) tid
same_item xacts snaps old r holds tid = ap (λ (rel : Relation). item_in rel.pages tid) holds.rows

pub same_schema : (xacts : Xacts) (snaps : Snaps) (old : Table) (r : Rewriting) → RewriteHolds xacts snaps old r → r.rows.schema ≡ old.rows.schema
same_schema xacts snaps old r holds = ap (λ (rel : Relation). rel.schema) holds.rows ∙ laid_schema old.rows.schema holds.copies

-- a version of the new table, with the copy that it is of
pub record IsNewVersion (old : Table) (r : Rewriting) (copies : List Copied) (tid : Tid) (version : Version) : Type 0 where
  pub copy : Copied
  pub among : Contains copies copy
  pub lies : LiesAt old.rows.schema copies tid copy
  pub is : version_of old.rows.schema.storages copy ≡ version
  pub made : IsCopy old r.toast (busy_at r.stage) copy

pub new_version : (xacts : Xacts) (snaps : Snaps) (old : Table) (r : Rewriting) (holds : RewriteHolds xacts snaps old r) (tid : Tid) (version : Version) → item_in r.rows.pages tid ≡ Some version → IsNewVersion old r holds.copies tid version
new_version xacts snaps old r holds tid version there =
    let found = of_copy old.rows.schema holds.copies tid version (sym (same_item xacts snaps old r holds tid) ∙ there) in
    let among = lies_in old.rows.schema holds.copies tid found.copy found.lies in
    record { copy = found.copy; among = among; lies = found.lies; is = found.is; made = holds.made found.copy among }

-- and where the copy of an old version stands
pub record IsCopyThere (old : Table) (r : Rewriting) (copies : List Copied) (from : Tid) (was : Version) : Type 0 where
  pub copy : Copied
  pub among : Contains copies copy
  pub made : IsCopy old r.toast (busy_at r.stage) copy
  pub from_is : copy.from ≡ from
  pub was_is : copy.was ≡ was
  pub tid : Tid
  pub there : item_in r.rows.pages tid ≡ Some (version_of old.rows.schema.storages copy)

pub copy_visited : (xacts : Xacts) (snaps : Snaps) (old : Table) (r : Rewriting) (holds : RewriteHolds xacts snaps old r) (from : Tid) (was : Version) → item_in old.rows.pages from ≡ Some was → is_before from r.place ≡ true → is_chosen xacts snaps was ≡ true
    → IsCopyThere old r holds.copies from was
copy_visited xacts snaps old r holds from was there before chosen =
    let has = holds.visited.each from was there before chosen in
    let made = holds.made has.copy has.there in
    let place = copy_laid old.rows.schema holds.copies has.copy has.there in
    record {
      copy = has.copy;
      among = has.there;
      made = made;
      from_is = has.from;
      was_is = same_Some _ _ (sym made.old_one.there ∙ ap (item_in old.rows.pages) has.from ∙ there);
      tid = place.tid;
      there = same_item xacts snaps old r holds place.tid ∙ lies_there old.rows.schema holds.copies place.tid has.copy place.lies;
    }

-- at the end all are visited
all_visited : (xacts : Xacts) (snaps : Snaps) (old : Table) (r : Rewriting) → IsReady xacts snaps old r → (tid : Tid) (version : Version) → item_in old.rows.pages tid ≡ Some version → is_before tid r.place ≡ true
all_visited xacts snaps old r ready tid version there = elim (cases_before tid r.place) [
  | inl before ↦ before
  | inr not_before ↦ absurd (none-some version (sym (IsEmptyFrom.each none_left tid not_before) ∙ there))
]
  where
    none_left : IsEmptyFrom old.rows.pages r.place
    none_left = subst (λ stage. StandsAt old r stage) ready.stage ready.holds.stage

pub copy_there : (xacts : Xacts) (snaps : Snaps) (old : Table) (r : Rewriting) (ready : IsReady xacts snaps old r) (from : Tid) (was : Version) → item_in old.rows.pages from ≡ Some was → is_chosen xacts snaps was ≡ true → IsCopyThere old r ready.holds.copies from was
copy_there xacts snaps old r ready from was there = copy_visited xacts snaps old r ready.holds from was there (all_visited xacts snaps old r ready from was there)

-- ---- a copy's row

pub copy_cells : (old : Table) (r : Rewriting) (copy : Copied) → length old.rows.schema.storages ≤ 8 → IsCopy old r.toast (busy_at r.stage) copy → cells_in old.rows.schema.storages (Version.tuple (version_of old.rows.schema.storages copy)) ≡ copy.cells
copy_cells old r copy few made = cells_of_tuple old.rows.schema.storages (with_cells copy.was.key copy.cells) few made.new_one.has

pub copy_row : (old : Table) (r : Rewriting) (copy : Copied) → length old.rows.schema.storages ≤ 8 → IsCopy old r.toast (busy_at r.stage) copy
    → row_of old.rows.schema.storages r.toast (Version.tuple (version_of old.rows.schema.storages copy)) ≡ row_of old.rows.schema.storages old.toast copy.was.tuple
copy_row old r copy few made = ap (λ cells. map (cell_value r.toast) cells) (copy_cells old r copy few made) ∙ made.new_one.row

copy_same : (xacts : Xacts) (snaps : Snaps) (old : Table) (r : Rewriting) (copy : Copied) → length old.rows.schema.storages ≤ 8 → RewriteHolds xacts snaps old r → IsCopy old r.toast (busy_at r.stage) copy → IsSameVersion old (new_table r) copy.was (version_of old.rows.schema.storages copy)
copy_same xacts snaps old r copy few holds made = record {
  key = refl;
  inserter = refl;
  ender = refl;
  row = ap (λ s. row_of s r.toast (Version.tuple (version_of old.rows.schema.storages copy))) (ap (λ schema. schema.storages) (same_schema xacts snaps old r holds)) ∙ copy_row old r copy few made;
}

-- ---- the law

-- the new version of a copy
pub new_of : (xacts : Xacts) (snaps : Snaps) (old : Table) (r : Rewriting) (from : Tid) (was : Version) → length old.rows.schema.storages ≤ 8 → (holds : RewriteHolds xacts snaps old r) → IsCopyThere old r holds.copies from was → HasNewVersion old (new_table r) was
new_of xacts snaps old r from was few holds found = record {
  tid = found.tid;
  version = version_of old.rows.schema.storages found.copy;
  there = found.there;
  same = subst (λ v. IsSameVersion old (new_table r) v (version_of old.rows.schema.storages found.copy)) found.was_is (copy_same xacts snaps old r found.copy few holds found.made);
}

chosen : (xacts : Xacts) (snaps : Snaps) (old : Table) (r : Rewriting) (tid : Tid) (version : Version) → IsReady xacts snaps old r → item_in old.rows.pages tid ≡ Some version → is_chosen xacts snaps version ≡ true → HasNewVersion old (new_table r) version
chosen xacts snaps old r tid version ready there is = new_of xacts snaps old r tid version ready.columns ready.holds (copy_there xacts snaps old r ready tid version there is)

copied : (xacts : Xacts) (snaps : Snaps) (old : Table) (r : Rewriting) (tid : Tid) (version : Version) → IsReady xacts snaps old r → item_in r.rows.pages tid ≡ Some version → HasOldVersion old (new_table r) version
copied xacts snaps old r tid version ready there =
    let found = new_version xacts snaps old r ready.holds tid version there in
    record { tid = found.copy.from; was = found.copy.was; there = found.made.old_one.there; same = subst (λ v. IsSameVersion old (new_table r) found.copy.was v) found.is (copy_same xacts snaps old r found.copy ready.columns ready.holds found.made) }

-- a new version has the inserter of the old one, which had committed when that was visited
inserted : (xacts : Xacts) (snaps : Snaps) (old : Table) (r : Rewriting) (tid : Tid) (version : Version) → RewriteHolds xacts snaps old r → item_in r.rows.pages tid ≡ Some version → is_committed xacts version.inserter ≡ true
inserted xacts snaps old r tid version holds there =
    let found = new_version xacts snaps old r holds tid version there in
    ap (λ (v : Version). is_committed xacts v.inserter) (sym found.is) ∙ holds.inserted.each found.copy found.among

pub made_ready : (xacts : Xacts) (snaps : Snaps) (old : Table) (r : Rewriting) (ready : IsReady xacts snaps old r) (copy : Copied) → Contains ready.holds.copies copy → IsCopy old r.toast None copy
made_ready xacts snaps old r ready copy among = subst (λ stage. IsCopy old r.toast (busy_at stage) copy) ready.stage (ready.holds.made copy among)

pub copies_are_the_chosen : CopiesAreTheChosen
copies_are_the_chosen = record {
  laid = λ xacts snaps old r ready. record { copies = ready.holds.copies; rows = ready.holds.rows; order = ready.holds.order; each = made_ready xacts snaps old r ready };
  copied = copied;
  chosen = chosen;
  inserted = inserted;
}
