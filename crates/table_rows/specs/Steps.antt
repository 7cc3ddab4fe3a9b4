-- What each change of a table's pages is to its versions, whatever it does to slots and rooms.
use Rattle.std.specs.Prelude.{ℕ, ◌≡◌, ◌≢◌, true, ◌⊎◌, Some, None}
use Rattle.slot_page.specs.declared.line.Tid.{Tid}
use Rattle.slot_page.specs.Pages.{item_in}
use Rattle.xact_status.specs.Xacts.{Xacts, IsAssigned}
use Rattle.xact_status.specs.Versions.{is_dead}
use Rattle.row_versions.specs.declared.version.Version.{Version}
use Rattle.row_versions.specs.Relations.{Pages}
use Rattle.xact_status.specs.declared.Stamp.{Stamp}

-- who inserted a version and who ended it
abbrev pub stamp_of : Version → Stamp
stamp_of version = record { inserter = version.inserter; ender = version.ender }

-- the transactions that versions name were given their xids
pub record AreGiven (xacts : Xacts) (pages : Pages) : Type 0 where
  pub inserter : (tid : Tid) (version : Version) → item_in pages tid ≡ Some version → IsAssigned xacts version.inserter
  pub ender : (tid : Tid) (version : Version) (xid : ℕ) → item_in pages tid ≡ Some version → version.ender ≡ Some xid → IsAssigned xacts xid

-- the version once a transaction has ended it, whatever ended it before
abbrev pub ended_by : ℕ → Version → Version
ended_by xid version = record version { ender = Some xid }

-- a version stands where none stood, and all others are as before
pub record IsPut (pages later : Pages) (new : Tid) (version : Version) : Type 0 where
  pub free : item_in pages new ≡ None
  pub put : item_in later new ≡ Some version
  pub elsewhere : (tid : Tid) → tid ≢ new → item_in later tid ≡ item_in pages tid

-- a transaction has ended a version, and all others are as before
pub record IsEnded (xid : ℕ) (pages later : Pages) (tid : Tid) (old : Version) : Type 0 where
  pub there : item_in pages tid ≡ Some old
  pub ended : item_in later tid ≡ Some (ended_by xid old)
  pub elsewhere : (other : Tid) → other ≢ tid → item_in later other ≡ item_in pages other

-- a version stands where none stood and a transaction has ended another, in whatever order that came about: an update, or a move to another key
pub record IsReplaced (xid : ℕ) (pages later : Pages) (tid new : Tid) (old version : Version) : Type 0 where
  pub there : item_in pages tid ≡ Some old
  pub free : item_in pages new ≡ None
  pub put : item_in later new ≡ Some version
  pub ended : item_in later tid ≡ Some (ended_by xid old)
  pub elsewhere : (other : Tid) → other ≢ new → other ≢ tid → item_in later other ≡ item_in pages other

-- a vacuum has taken versions away that are dead under a horizon, and all others are as before
pub record TakesDead (xacts : Xacts) (bound : ℕ) (pages later : Pages) : Type 0 where
  pub left : (tid : Tid) (version : Version) → item_in later tid ≡ Some version → item_in pages tid ≡ Some version
  pub gone : (tid : Tid) (version : Version) → item_in pages tid ≡ Some version → (item_in later tid ≡ Some version) ⊎ (is_dead xacts bound version.inserter version.ender ≡ true)

-- no version has changed: a dead slot is free again
pub record SameVersions (pages later : Pages) : Type 0 where
  pub each : (tid : Tid) → item_in later tid ≡ item_in pages tid
