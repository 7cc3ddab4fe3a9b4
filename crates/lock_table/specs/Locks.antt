-- What the sessions hold, each at the place of its number, and who is in whose way.
use Rattle.std.specs.Prelude.{◌≡◌, ℕ, ℤ, ◌-◌, ◌<◌, Bool, true, false, not, ◌&&◌, ◌==◌, nat_lt, List, [], ◌∷◌, ◌++◌, length, slice_index_or, slice_set, replicate, Option, Some, None, Result, Ok, Err, if◌then◌else◌}
use Rattle.lock_table.specs.declared.lock.LockMode.{LockMode}
use Rattle.lock_table.specs.declared.lock.Lock.{Lock}
use Rattle.lock_table.specs.declared.lock.Lock.TheVariants.{Table, Row}
use Rattle.lock_table.specs.declared.held.SessionLocks.{SessionLocks}
use Rattle.lock_table.specs.declared.fault.LockFault.{LockFault}
use Rattle.lock_table.specs.declared.fault.LockFault.TheVariants as lock_faults
use Rattle.lock_table.specs.declared.fault.ClaimFault.{ClaimFault}
use Rattle.lock_table.specs.declared.fault.ClaimFault.TheVariants as claim_faults
use Rattle.lock_table.specs.Held.{nothing, is_in_way, with_lock}

-- the lock on a table for this
abbrev pub table_lock : ℕ → LockMode → Lock
table_lock table mode = Table (record { table = table; mode = mode })

-- the claim of a row
abbrev pub row_lock : ℕ → ℤ → Lock
row_lock table key = Row (record { table = table; key = key })

-- what a session holds; one past the end holds nothing
abbrev pub held_by : List SessionLocks → ℕ → SessionLocks
held_by locks session = slice_index_or locks session nothing

-- whether another session is in the way of a session's lock
abbrev pub blocks : List SessionLocks → ℕ → Lock → ℕ → Bool
blocks locks session lock other = not (other == session) && is_in_way lock (held_by locks other)

-- the least other session that is in the way, if there is one
abbrev pub IsFirstInWay : List SessionLocks → ℕ → Lock → Option ℕ → Type 0
IsFirstInWay locks session lock None = (other : ℕ) → blocks locks session lock other ≡ false
IsFirstInWay locks session lock (Some first) = (blocks locks session lock first ≡ true) × ((other : ℕ) → other < first → blocks locks session lock other ≡ false)

-- the locks after what a session holds is written; the sessions up to it that had no place hold nothing
abbrev pub with_locks : List SessionLocks → ℕ → SessionLocks → List SessionLocks
with_locks locks session held = if nat_lt session (length locks) then slice_set locks session held else locks ++ (replicate (session - length locks) nothing ++ held ∷ [])

-- a session has one lock more
abbrev pub granted : List SessionLocks → ℕ → Lock → List SessionLocks
granted locks session lock = with_locks locks session (with_lock lock (held_by locks session))

-- a lock that was asked for is granted where nobody is in the way
abbrev pub after_asking : List SessionLocks → ℕ → Lock → Option ℕ → List SessionLocks
after_asking locks session lock None = granted locks session lock
after_asking locks session lock (Some other) = locks

-- a session has given up all that it held
abbrev pub after_end : List SessionLocks → ℕ → List SessionLocks
after_end locks session = slice_set locks session nothing

-- the session that a refusal names
abbrev pub locked_by : Result (Unit {0}) LockFault → Option ℕ
locked_by (Ok t) = None
locked_by (Err (lock_faults.Locked session)) = Some session
locked_by (Err lock_faults.Memory) = None

abbrev pub busy_with : Result (Unit {0}) ClaimFault → Option ℕ
busy_with (Ok t) = None
busy_with (Err (claim_faults.Busy session)) = Some session
busy_with (Err claim_faults.Memory) = None
