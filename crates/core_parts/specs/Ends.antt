-- The end of a transaction: what its session gives up, and what lets it.
use Rattle.std.specs.Prelude.{List, None, Some, count_by, true, ℕ, ◌==◌, ◌≡◌, ◌≤◌}
use Rattle.xact_status.specs.Xacts.{is_running}
use Rattle.snapshot_registry.specs.Snapshots.{Snaps, holders_at}
use Rattle.core_state.specs.Lines.{after_end_of}
use Rattle.core_state.specs.State.{CoreState, IsSession, IsTableOf, job_table, seat_of, uses_of, xid_of}
use Rattle.core_state.specs.declared.seat.State.{State}

-- each use of a snapshot among some is counted
pub record CanRelease (snaps : Snaps) (ids : List ℕ) : Type 0 where
  pub each : (id : ℕ) → count_by (λ other. other == id) ids ≤ holders_at snaps id

-- all that a session holds can be given up
pub record CanLeave (c : CoreState) (s : ℕ) : Type 0 where
  pub session : IsSession c.seats s
  pub uses : CanRelease c.snaps (uses_of (seat_of c s))
  pub table : (t : ℕ) → job_table (seat_of c s).job ≡ Some t → IsTableOf c.tables t

-- its transaction runs if it has an xid, and the log has room for its end
pub record CanEnd (c : CoreState) (s : ℕ) : Type 0 where
  pub leaves : CanLeave c s
  pub runs : (xid : ℕ) → xid_of (seat_of c s).state ≡ Some xid → is_running c.xacts xid ≡ true
  pub room : (xid : ℕ) → xid_of (seat_of c s).state ≡ Some xid → 1 ≤ c.log.ends

-- a session gives up all that it holds, and is then in this
abbrev pub after_leaving : CoreState → ℕ → State → CoreState
after_leaving c s state = after_end_of c s c.xacts None state
