-- What `read_all` takes, by its answer.
use Rattle.std.specs.Prelude.{ℕ, ◌+◌, ◌≤◌, List, length, Option, Result, Ok, Err}
use Rattle.toast_io.specs.Source.{Takes, TakesUpTo, ReadsToEnd}
use Rattle.toast_io.specs.declared.fault.ReadAllFault.{ReadAllFault}
use Rattle.toast_io.specs.declared.fault.ReadAllFault.TheVariants.{ReadFault, TooLong, Memory}

-- all bytes up to the end, and no more than the limit
pub record IsWhole (limit : ℕ) (old new : Option (List ℕ)) (bytes : List ℕ) : Type 0 where
  pub within : length bytes ≤ limit
  pub reads : ReadsToEnd old new bytes

-- one byte more than the limit exactly where the answer is `TooLong`
abbrev pub TakesByAnswer : ℕ → Option (List ℕ) → Option (List ℕ) → Result (List ℕ) ReadAllFault → Type 0
TakesByAnswer limit old new (Ok bytes) = IsWhole limit old new bytes
TakesByAnswer limit old new (Err TooLong) = Takes old new (limit + 1)
TakesByAnswer limit old new (Err ReadFault) = TakesUpTo old new limit
TakesByAnswer limit old new (Err Memory) = TakesUpTo old new limit
