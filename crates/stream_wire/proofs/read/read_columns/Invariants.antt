use Rattle.std.proofs.Common.{◌≡◌, ◌-◌}
use Rattle.stream_wire.specs.Reading.{columns_at}
use Rattle.stream_wire.proofs.Loop.{with_front}
use Rattle.stream_wire.proofs.read.read_columns.Given as goal

abbrev pub invariant-loop : goal.invariant-loop
invariant-loop l = with_front l.columns (columns_at (l.count - l.counter) l.rest) ≡ columns_at l.count l.bytes
