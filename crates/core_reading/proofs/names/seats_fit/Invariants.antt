use Rattle.std.specs.Prelude.{Some, length, slice_get, ℕ, ◌<◌, ◌≡◌, ◌≤◌}
use Rattle.core_state.specs.declared.seat.Seat.{Seat}
use Rattle.core_reading.specs.Handles.{AreNamed}
use Rattle.core_reading.proofs.names.seats_fit.Given as goal

abbrev pub invariant-loop-seat : goal.invariant-loop-seat
invariant-loop-seat l = (i : ℕ) (seat : Seat) → i < l.seat-index → slice_get l.seats i ≡ Some seat → AreNamed seat.handles → length seat.handles ≤ 65536
