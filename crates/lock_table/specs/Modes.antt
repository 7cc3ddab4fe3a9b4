-- What a table is locked for. Documentation: "Explicit Locking, Table-Level Locks", the table of conflicting lock modes.
use Rattle.std.specs.Prelude.{Bool, true, false}
use Rattle.lock_table.specs.declared.lock.Upkeep.{Upkeep}
use Rattle.lock_table.specs.declared.lock.Upkeep.TheVariants as upkeep
use Rattle.lock_table.specs.declared.lock.LockMode.{LockMode}
use Rattle.lock_table.specs.declared.lock.LockMode.TheVariants.{Use, Main, Toast, Rewrite}

-- what upkeep locks its table for
abbrev pub mode_of : Upkeep → LockMode
mode_of upkeep.Main = Main
mode_of upkeep.Toast = Toast
mode_of upkeep.Rewrite = Rewrite

-- whether a table that is locked for the second can't be locked for the first by another session
abbrev pub conflicts : LockMode → LockMode → Bool
conflicts Use Use = false
conflicts Use Main = false
conflicts Use Toast = false
conflicts Use Rewrite = true
conflicts Main Use = false
conflicts Main Main = true
conflicts Main Toast = false
conflicts Main Rewrite = true
conflicts Toast Use = false
conflicts Toast Main = false
conflicts Toast Toast = true
conflicts Toast Rewrite = true
conflicts Rewrite held = true

-- whether two modes are the same
abbrev pub same_mode : LockMode → LockMode → Bool
same_mode Use Use = true
same_mode Main Main = true
same_mode Toast Toast = true
same_mode Rewrite Rewrite = true
same_mode mode other = false
