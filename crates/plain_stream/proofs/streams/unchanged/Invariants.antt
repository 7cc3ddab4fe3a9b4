use Rattle.std.proofs.Common.{◌≡◌, []}
use Rattle.std.specs.Prelude.{replicate}
use Rattle.plain_stream.proofs.streams.unchanged.Given as goal

abbrev pub invariant-loop : goal.invariant-loop
invariant-loop l = l.written.items ≡ replicate l.counter []
