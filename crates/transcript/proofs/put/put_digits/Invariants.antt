use Rattle.std.proofs.Common.{length}
use Rattle.transcript.proofs.Digits.{Goes}
use Rattle.transcript.proofs.put.put_digits.Given as goal

abbrev pub invariant-loop-rest : goal.invariant-loop-rest
invariant-loop-rest l = Goes l.bytes l.rest l.fn.out l.out

abbrev pub decreases-loop-rest : goal.decreases-loop-rest
decreases-loop-rest l = length l.rest
