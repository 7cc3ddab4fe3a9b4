use Rattle.std.proofs.Common.{◌≡◌, ◌++◌, drop}
use Rattle.change_stream.specs.Streams.{unset}
use Rattle.plain_stream.proofs.writing.unset.Given as goal

abbrev pub invariant-loop-column : goal.invariant-loop-column
invariant-loop-column l = l.left ++ unset l.sets (drop l.column-index l.columns) ≡ unset l.sets l.columns
