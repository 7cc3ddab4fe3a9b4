-- What becomes of a slot when its page is pruned, by the transactions that its item names, whatever the item is (PostgreSQL, "Routine Vacuuming, Recovering Disk Space").
use Rattle.std.specs.Prelude.{ℕ, Bool, false, if◌then◌else◌, ⊤}
use Rattle.slot_page.specs.declared.line.LinePointer.{LinePointer}
use Rattle.slot_page.specs.declared.line.LinePointer.TheVariants.{Normal, Dead, Unused}
use Rattle.xact_status.specs.declared.Stamp.{Stamp}
use Rattle.xact_status.specs.Versions.{is_dead, IsStampAssigned}
use Rattle.xact_status.specs.Xacts.{Xacts}

module _ {T : Type 0} (stamp_of : T → Stamp) where
  -- whether no reader can see an item, by how the transactions stand and a horizon
  abbrev pub is_dead_item : Xacts → ℕ → T → Bool
  is_dead_item xacts horizon item = is_dead xacts horizon (stamp_of item).inserter (stamp_of item).ender

  -- whether a slot has an item that no reader can see
  abbrev pub is_newly_dead : Xacts → ℕ → LinePointer T → Bool
  is_newly_dead xacts horizon (Normal size item) = is_dead_item xacts horizon item
  is_newly_dead xacts horizon Dead = false
  is_newly_dead xacts horizon Unused = false

  -- a slot after a prune: dead where it has an item that no reader can see, else as before
  abbrev pub pruned : Xacts → ℕ → LinePointer T → LinePointer T
  pruned xacts horizon line = if is_newly_dead xacts horizon line then Dead else line

  -- the transactions that a slot's item names, if it has one, were given their xids
  abbrev pub IsLineAssigned : Xacts → LinePointer T → Type 0
  IsLineAssigned xacts (Normal size item) = IsStampAssigned xacts (stamp_of item)
  IsLineAssigned xacts Dead = ⊤
  IsLineAssigned xacts Unused = ⊤
