use Rattle.std.proofs.Common.{[], sym, subst}
use Rattle.write_steps.specs.Standing.{AreSized}
use Rattle.write_steps.proofs.Pointers.{sized_dropped}
use Rattle.write_steps.proofs.version.remove.Goals as goal

pub returns-clause-sized : goal.returns-clause-sized
returns-clause-sized c = subst AreSized (sym c.in_ok-dropped.ensures) (sized_dropped c.as_slice.result.now [])
