-- The worker has come to the place.
use Rattle.decode_stream.specs.Parts.{Works}
use Rattle.decode_stream.proofs.worker.decode_part.Given as goal

abbrev pub invariant-loop-n : goal.invariant-loop-n
invariant-loop-n l = Works l.log.entries l.workers l.worker l.n l.table l.part
