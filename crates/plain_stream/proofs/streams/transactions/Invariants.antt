use Rattle.plain_stream.proofs.Following.{IsSoFar}
use Rattle.plain_stream.proofs.streams.transactions.Given as goal

abbrev pub invariant-loop-entry : goal.invariant-loop-entry
invariant-loop-entry l = IsSoFar l.script l.journal l.entry-index l.so_far
