-- The laws of tables, from the lemmas of each event.
use Rattle.table_state.specs.Laws.{VersionStepsKeep, ChunkStepsKeep, VacuumKeeps, MomentsKeep}
use Rattle.table_state.proofs.Versions.{table_put, table_ended, table_replaced, ended_for, dropped_for, table_pruned, table_unchanged}
use Rattle.table_state.proofs.Toast.{chunk_put, entry_added, chunk_ended, pinned, chunks_pruned, swept, chunk_reaped}
use Rattle.table_state.proofs.Moments.{table_assigned, table_committed, table_aborted, table_taken, table_shared, table_released}

pub version_steps_keep : VersionStepsKeep
version_steps_keep = record {
  put = table_put;
  ended = table_ended;
  replaced = table_replaced;
  ended_for = ended_for;
  dropped_for = dropped_for;
}

pub chunk_steps_keep : ChunkStepsKeep
chunk_steps_keep = record {
  put = chunk_put;
  added = entry_added;
  ended = chunk_ended;
  pinned = pinned;
}

pub vacuum_keeps : VacuumKeeps
vacuum_keeps = record {
  rows_pruned = table_pruned;
  rows_freed = table_unchanged;
  chunks_pruned = chunks_pruned;
  swept = swept;
  chunk_freed = chunk_reaped;
}

pub moments_keep : MomentsKeep
moments_keep = record {
  assigned = table_assigned;
  committed = table_committed;
  aborted = table_aborted;
  taken = table_taken;
  shared = table_shared;
  released = table_released;
}
