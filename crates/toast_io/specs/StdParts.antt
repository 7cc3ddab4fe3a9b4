-- A reader or a writer of std with a count of its failures.
use Rattle.std.specs.Prelude.{ℕ}

pub record Counted (X : Type 0) : Type 0 where
  -- the reader or the writer
  pub inner : X
  -- how often it has failed, where the last value stands for every further failure
  pub failures : ℕ
