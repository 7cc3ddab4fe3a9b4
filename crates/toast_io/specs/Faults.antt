-- How often a source or a sink has failed, as a `u64` that stays at its last value.
use Rattle.std.specs.Prelude.{ℕ, ◌+◌, ◌-◌, ◌^◌, ◌≤◌, min}

-- the count after one more: at its last value it stays
abbrev pub next_count : ℕ → ℕ
next_count count = min (count + 1) (2 ^ 64 - 1)

-- a count of faults does not fall
abbrev pub NeverFalls : ℕ → ℕ → Type 0
NeverFalls old new = old ≤ new

-- the count has risen by one at least; where it stood at its last value, it counts as risen
abbrev pub HasRisen : ℕ → ℕ → Type 0
HasRisen old new = next_count old ≤ new
