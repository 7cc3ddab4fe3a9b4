-- The pages of a relation and the prune of one of them, whatever the items are (PostgreSQL, "Routine Vacuuming, Recovering Disk Space").
use Rattle.std.specs.Prelude.{ℕ, List, map, slice_set, count_by}
use Rattle.slot_page.specs.declared.line.Tid.{Tid}
use Rattle.slot_page.specs.declared.line.LinePointer.{LinePointer}
use Rattle.slot_page.specs.DeadSlots.{dead_tids}
use Rattle.slot_page.specs.Pages.{page_at, slot_of}
use Rattle.xact_status.specs.declared.Stamp.{Stamp}
use Rattle.xact_status.specs.Xacts.{Xacts}
use Rattle.heap_prune.specs.Lines.{IsLineAssigned, is_newly_dead, pruned}

-- the pages with one of them pruned
abbrev pub with_pruned : {T : Type 0} → (T → Stamp) → Xacts → ℕ → List (List (LinePointer T)) → ℕ → List (List (LinePointer T))
with_pruned stamp_of xacts horizon pages page = slice_set pages page (map (pruned stamp_of xacts horizon) (page_at pages page))

-- how many slots of a page have an item that no reader can see
abbrev pub newly_dead_on : {T : Type 0} → (T → Stamp) → Xacts → ℕ → List (List (LinePointer T)) → ℕ → ℕ
newly_dead_on stamp_of xacts horizon pages page = count_by (is_newly_dead stamp_of xacts horizon) (page_at pages page)

-- the tids of a page's dead slots, in order
abbrev pub dead_on : {T : Type 0} → List (List (LinePointer T)) → ℕ → List Tid
dead_on pages page = dead_tids page (page_at pages page)

-- the transactions that the items of a relation name were given their xids
pub record AreAssigned {T : Type 0} (stamp_of : T → Stamp) (xacts : Xacts) (pages : List (List (LinePointer T))) : Type 0 where
  pub each : (tid : Tid) → IsLineAssigned stamp_of xacts (slot_of pages tid)
