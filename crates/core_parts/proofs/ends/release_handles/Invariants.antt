use Rattle.std.proofs.Common.{◌≡◌, drop}
use Rattle.std.specs.Prelude.{map}
use Rattle.core_state.specs.Lines.{once_released}
use Rattle.core_state.specs.declared.seat.Handle.{Handle}
use Rattle.core_parts.specs.Ends.{CanRelease}
use Rattle.core_parts.proofs.ends.release_handles.Given as goal

abbrev pub invariant-loop-handle : goal.invariant-loop-handle
invariant-loop-handle l = record {
  can : CanRelease l.snaps (map (λ (handle : Handle). handle.snapshot) (drop l.handle-index l.handles));
  same : once_released l.snaps (map (λ (handle : Handle). handle.snapshot) (drop l.handle-index l.handles)) ≡ once_released l.initial.snaps (map (λ (handle : Handle). handle.snapshot) l.handles);
}
