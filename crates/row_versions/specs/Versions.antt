-- Versions of rows and the slots that hold them (PostgreSQL, "Concurrency Control, Multiversion Concurrency Control").
use Rattle.std.specs.Prelude.{ℕ, ℤ, ◌≤◌, Bool, Some, None, List, length}
use Rattle.slot_page.specs.declared.line.LinePointer.{LinePointer}
use Rattle.slot_page.specs.declared.line.LinePointer.TheVariants.{Normal, Dead, Unused}
use Rattle.tuple_layout.specs.Sizes.{largest_tuple}
use Rattle.xact_status.specs.declared.Stamp.{Stamp}
use Rattle.xact_status.specs.Versions.{IsStampAssigned}
use Rattle.xact_status.specs.Xacts.{Xacts}
use Rattle.heap_prune.specs.Lines as lines
use Rattle.heap_prune.specs.Lines.{is_dead_item}
use Rattle.row_versions.specs.declared.version.Version.{Version}

-- the transactions that put and ended a version
abbrev pub version_stamp : Version → Stamp
version_stamp version = record { inserter = version.inserter; ender = version.ender }

-- a version with its stamp
abbrev pub stamped_version : ℤ → Stamp → List ℕ → Version
stamped_version key stamp tuple = record { key = key; inserter = stamp.inserter; ender = stamp.ender; tuple = tuple }

-- a version that was just put: nothing has ended it
abbrev pub new_version : ℤ → ℕ → List ℕ → Version
new_version key inserter tuple = record { key = key; inserter = inserter; ender = None; tuple = tuple }

-- a slot whose version is ended by a transaction; one with no version stays
abbrev pub ended : ℕ → LinePointer Version → LinePointer Version
ended xid (Normal size version) = Normal size (record version { ender = Some xid })
ended xid Dead = Dead
ended xid Unused = Unused

-- whether no reader can see a version, by how the transactions stand and a horizon
abbrev pub is_dead_version : Xacts → ℕ → Version → Bool
is_dead_version xacts horizon version = is_dead_item version_stamp xacts horizon version

-- whether a slot has a version that no reader can see
abbrev pub is_newly_dead : Xacts → ℕ → LinePointer Version → Bool
is_newly_dead xacts horizon line = lines.is_newly_dead version_stamp xacts horizon line

-- the transactions that a version names were given their xids
abbrev pub IsVersionAssigned : Xacts → Version → Type 0
IsVersionAssigned xacts version = IsStampAssigned xacts (version_stamp version)

-- how many bytes a tuple has: its header and at most what a page has room for
pub record IsTupleSize (size : ℕ) : Type 0 where
  pub least : 24 ≤ size
  pub most : size ≤ largest_tuple

-- a version whose tuple a page has room for
abbrev pub IsSized : Version → Type 0
IsSized version = IsTupleSize (length version.tuple)
