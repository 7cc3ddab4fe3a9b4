-- What is true of every core.
use Rattle.core_state.specs.Facts.{IsSound, PartsAreSound}
use Rattle.core_state.specs.State.{CoreState}

-- its sessions, tables, statuses, snapshots, locks, ids and log fit together, and each table is one by the types of its parts
pub record IsCore (c : CoreState) : Type 0 where
  pub sound : IsSound c
  pub parts : PartsAreSound c
