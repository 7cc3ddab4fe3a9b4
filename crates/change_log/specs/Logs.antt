-- The log as contracts see it.
use Rattle.std.specs.Prelude.{ℕ, List}
use Rattle.change_log.specs.declared.entry.LogEntry.{LogEntry}

-- the entries in the order in which they were made, and for how many end entries room is kept
pub record LogState : Type 0 where
  pub entries : List LogEntry
  pub ends : ℕ
