use Rattle.std.proofs.Common.{◌≡◌, ◌++◌, drop}
use Rattle.plain_stream.specs.States.{next_written}
use Rattle.plain_stream.proofs.Rest.{written_each}
use Rattle.plain_stream.proofs.writing.next_written.Given as goal

abbrev pub invariant-loop-change : goal.invariant-loop-change
invariant-loop-change l = l.all ++ written_each l.script l.kept (drop l.change-index l.new) ≡ next_written l.script l.kept l.fn.written l.left
