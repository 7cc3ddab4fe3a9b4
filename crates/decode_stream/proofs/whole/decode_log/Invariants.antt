use Rattle.std.proofs.Common.{take}
use Rattle.decode_stream.specs.Steps.{IsSent}
use Rattle.decode_stream.proofs.whole.decode_log.Given as goal

-- the entries so far are decoded
abbrev pub invariant-loop-n : goal.invariant-loop-n
invariant-loop-n l = IsSent l.decoder l.sent (take l.n l.log.entries)
