-- A source in memory, as contracts see it.
use Rattle.std.specs.Prelude.{ℕ, List, drop}
use Rattle.toast_io.specs.Faults.{next_count}

pub record SourceInMemory : Type 0 where
  -- the bytes that are not yet read
  pub unread : List ℕ
  -- the most that one call gives
  pub piece : ℕ
  -- the numbers of the calls that fail
  pub fails : List ℕ
  -- how many calls were made, where the last value stands for every further one
  pub calls : ℕ
  -- how many of them failed
  pub failures : ℕ

-- after a call that gave this many bytes
abbrev pub after_read : SourceInMemory → ℕ → SourceInMemory
after_read source count = record source { unread = drop count source.unread; calls = next_count source.calls }

-- after a call that failed
abbrev pub after_failed_read : SourceInMemory → SourceInMemory
after_failed_read source = record source { calls = next_count source.calls; failures = next_count source.failures }
