-- Versions that no running transaction has inserted or ended, as those of a table are while it is rewritten (PostgreSQL, "Explicit Locking, Table-Level Locks", ACCESS EXCLUSIVE).
use Rattle.std.specs.Prelude.{ℕ, ◌≡◌, false, Some}
use Rattle.slot_page.specs.declared.line.Tid.{Tid}
use Rattle.slot_page.specs.Pages.{item_in}
use Rattle.xact_status.specs.Xacts.{Xacts, IsAssigned, is_running}
use Rattle.row_versions.specs.declared.version.Version.{Version}
use Rattle.row_versions.specs.Relations.{Pages}

-- a transaction was given its xid, and does not run
pub record IsOver (xacts : Xacts) (xid : ℕ) : Type 0 where
  pub given : IsAssigned xacts xid
  pub ended : is_running xacts xid ≡ false

-- each transaction that a version names is over
pub record AreQuiet (xacts : Xacts) (pages : Pages) : Type 0 where
  pub inserter : (tid : Tid) (version : Version) → item_in pages tid ≡ Some version → IsOver xacts version.inserter
  pub ender : (tid : Tid) (version : Version) (xid : ℕ) → item_in pages tid ≡ Some version → version.ender ≡ Some xid → IsOver xacts xid
