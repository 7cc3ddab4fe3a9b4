-- A sink in memory, as contracts see it.
use Rattle.std.specs.Prelude.{◌≡◌, ◌⊎◌, ◌<◌, ◌-◌, ◌++◌, ℕ, List, length, take, Contains}
use Rattle.toast_io.specs.Faults.{next_count}

pub record SinkInMemory : Type 0 where
  -- the bytes that it has taken
  pub bytes : List ℕ
  -- how many more it takes
  pub room : ℕ
  -- the numbers of the calls that fail
  pub fails : List ℕ
  -- how many calls were made, where the last value stands for every further one
  pub calls : ℕ
  -- how many of them failed
  pub failures : ℕ

-- this call fails: by its number, or since nothing of a piece that is not empty can be taken
abbrev pub IsRefused : SinkInMemory → List ℕ → Type 0
IsRefused sink piece = Contains sink.fails sink.calls ⊎ ((sink.room ≡ 0) × (0 < length piece))

-- after a call that took this many bytes of a piece
abbrev pub after_write : SinkInMemory → List ℕ → ℕ → SinkInMemory
after_write sink piece count = record sink {
  bytes = sink.bytes ++ take count piece;
  room = sink.room - count;
  calls = next_count sink.calls;
}

-- after a call that failed
abbrev pub after_failed_write : SinkInMemory → SinkInMemory
after_failed_write sink = record sink { calls = next_count sink.calls; failures = next_count sink.failures }
