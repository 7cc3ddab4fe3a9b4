-- What becomes of a row version or a chunk, and for whom it is there, by the xid that inserted it and the one that ended it, if any. Documentation: "Routine Vacuuming, Recovering Disk Space"; "Transaction Isolation, Read Committed Isolation Level".
use Rattle.std.specs.Prelude.{ℕ, Bool, true, false, not, ◌&&◌, ◌||◌, ◌==◌, Option, nat_lt}
use Rattle.std.specs.Option.{ForSome, option_map_or}
use Rattle.xact_status.specs.declared.Stamp.{Stamp}
use Rattle.xact_status.specs.Xacts.{Xacts, IsAssigned, is_committed, is_aborted}

-- no reader below the horizon can see it: its inserter has aborted, or its ender has committed and is below the horizon
abbrev pub is_dead : Xacts → ℕ → ℕ → Option ℕ → Bool
is_dead xacts horizon inserter ender = is_aborted xacts inserter || option_map_or (λ xid. is_committed xacts xid && nat_lt xid horizon) ender false

-- it is there now: its inserter has committed, and it has no ender, or one that has aborted
abbrev pub is_live : Xacts → ℕ → Option ℕ → Bool
is_live xacts inserter ender = is_committed xacts inserter && option_map_or (is_aborted xacts) ender true

-- whether it is there, by a test of the xids whose changes count: its insertion counts, and its end does not
abbrev pub is_there : (ℕ → Bool) → ℕ → Option ℕ → Bool
is_there counts inserter ender = counts inserter && not (option_map_or counts ender false)

-- whether the change of an xid counts at this moment for a transaction with an xid of its own, or for one without: it is its own, or has committed
abbrev pub counts_for : Xacts → Option ℕ → ℕ → Bool
counts_for xacts own xid = option_map_or (λ mine. mine == xid) own false || is_committed xacts xid

-- whether what bears a stamp is there for it at this moment
abbrev pub is_current : Xacts → Option ℕ → Stamp → Bool
is_current xacts own stamp = is_there (counts_for xacts own) stamp.inserter stamp.ender

-- the xids that a stamp names were given
pub record IsStampAssigned (xacts : Xacts) (stamp : Stamp) : Type 0 where
  pub inserter : IsAssigned xacts stamp.inserter
  pub ender : ForSome stamp.ender (IsAssigned xacts)
