-- The two targets of a vacuum: a store of values out of line, and a relation of rows.
use Rattle.std.specs.Prelude.{ℕ, ◌+◌, ◌≢◌, Option, Some, None, List, Contains, length, count_by}
use Rattle.slot_page.specs.declared.line.LinePointer.TheVariants.{Unused}
use Rattle.slot_page.specs.Slots.{IsDead}
use Rattle.slot_page.specs.Pages.{page_at, slot_of, written}
use Rattle.slot_page.specs.DeadSlots.{dead_tids}
use Rattle.chunk_relation.specs.Chunks.{is_newly_dead}
use Rattle.chunk_relation.specs.Relations.{AreAssigned, with_pruned}
use Rattle.chunk_index.specs.declared.entry.Entry.{Entry}
use Rattle.chunk_index.specs.declared.entry.Swept.TheVariants.{End}
use Rattle.chunk_index.specs.Leaves.{is_from, leaf_at}
use Rattle.chunk_index.specs.Indexes.{after_sweep, sweep_answer}
use Rattle.toast_store.specs.Stores.{Store, IsUnnamed}
use Rattle.row_versions.specs.declared.keys.KeyEntry.{KeyEntry}
use Rattle.row_versions.specs.Keys.{names_one_of}
use Rattle.row_versions.specs.Versions as versions
use Rattle.row_versions.specs.Relations as rows
use Rattle.row_versions.specs.Relations.{Relation, without_entries, with_reaped}
use Rattle.toast_vacuum.specs.Ops.{Ops}

-- how many leaves there are from one on, of those with these bounds after the first
abbrev pub leaves_from : List Entry → Option Entry → ℕ
leaves_from bounds None = length bounds + 1
leaves_from bounds (Some bound) = count_by (is_from (Some bound)) bounds

abbrev pub toast_ops : Ops Store
toast_ops = record {
  pages = λ s. length s.rel.pages;
  pruned = λ xacts horizon s page. record s { rel = record s.rel { pages = with_pruned xacts horizon s.rel.pages page } };
  newly = λ xacts horizon s page. count_by (is_newly_dead xacts horizon) (page_at s.rel.pages page);
  dead_on = λ s page. dead_tids page (page_at s.rel.pages page);
  swept = λ s from dead. record s { index = after_sweep s.index (leaf_at s.index.bounds from) dead };
  answer = λ s from dead. sweep_answer s.index (leaf_at s.index.bounds from) dead;
  leaves = λ s from. leaves_from s.index.bounds from;
  reaped = λ s t. record s { rel = record s.rel { pages = written s.rel.pages t Unused } };
  IsReady = λ xacts s. AreAssigned xacts s.rel.pages;
  IsDeadAt = λ s t. IsDead (slot_of s.rel.pages t);
  IsFree = λ s t. IsUnnamed s.index.entries t;
}

-- the key map is one leaf
abbrev pub row_ops : Ops Relation
row_ops = record {
  pages = λ s. length s.pages;
  pruned = λ xacts horizon s page. rows.with_pruned xacts horizon s page;
  newly = λ xacts horizon s page. count_by (versions.is_newly_dead xacts horizon) (page_at s.pages page);
  dead_on = λ s page. dead_tids page (page_at s.pages page);
  swept = λ s from dead. without_entries s dead;
  answer = λ s from dead. End (count_by (names_one_of dead) s.entries);
  leaves = λ s from. 1;
  reaped = λ s t. with_reaped s t;
  IsReady = λ xacts s. rows.AreAssigned xacts s.pages;
  IsDeadAt = λ s t. IsDead (slot_of s.pages t);
  IsFree = λ s t. (e : KeyEntry) → Contains s.entries e → e.tid ≢ t;
}
