-- Stamps, of versions and of chunks: who may end what, and for whom an end counts, whatever the snapshots. Documentation: "Transaction Isolation"; "Routine Vacuuming, Recovering Disk Space".
use Rattle.std.specs.Prelude.{◌≡◌, ℕ, Bool, true, false, Option, Some, None}
use Rattle.std.specs.Option.{option_map_or}
use Rattle.xact_status.specs.declared.Stamp.{Stamp}
use Rattle.xact_status.specs.Xacts.{Xacts, IsAssigned, is_running, is_committed, is_aborted}
use Rattle.xact_status.specs.Versions.{counts_for}

-- the stamp once a transaction has ended what bears it, and that of what a transaction has put
abbrev pub ended_by : ℕ → Stamp → Stamp
ended_by xid stamp = record { inserter = stamp.inserter; ender = Some xid }

abbrev pub fresh : ℕ → Stamp
fresh xid = record { inserter = xid; ender = None }

-- whether the end of what bears a stamp counts for a transaction, or for none
abbrev pub has_ended : Xacts → Option ℕ → Stamp → Bool
has_ended xacts own stamp = option_map_or (counts_for xacts own) stamp.ender false

-- the transaction runs, if there is one
abbrev pub Runs : Xacts → Option ℕ → Type 0
Runs xacts None = Unit {0}
Runs xacts (Some xid) = is_running xacts xid ≡ true

-- no transaction that runs or has committed is the ender. One that has aborted may be
pub record IsUnended (xacts : Xacts) (ender : Option ℕ) : Type 0 where
  pub not_ending : (xid : ℕ) → ender ≡ Some xid → is_running xacts xid ≡ false
  pub not_ended : (xid : ℕ) → ender ≡ Some xid → is_committed xacts xid ≡ false

-- whether there is no ender, or one that has aborted
abbrev pub has_no_end : Xacts → Stamp → Bool
has_no_end xacts stamp = option_map_or (is_aborted xacts) stamp.ender true

-- what a transaction may end: it is there for it, and no other that runs is about to end it
pub record IsOpenFor (xacts : Xacts) (xid : ℕ) (stamp : Stamp) : Type 0 where
  pub inserted : counts_for xacts (Some xid) stamp.inserter ≡ true
  pub unended : IsUnended xacts stamp.ender

-- the inserter was given its xid, and while it runs nobody else ends what it inserted
pub record IsSoundStamp (xacts : Xacts) (stamp : Stamp) : Type 0 where
  pub given : IsAssigned xacts stamp.inserter
  pub own_end : (xid : ℕ) → is_running xacts stamp.inserter ≡ true → stamp.ender ≡ Some xid → xid ≡ stamp.inserter
