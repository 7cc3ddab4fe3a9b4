use Rattle.std.proofs.Common.{◌≡◌, drop}
use Rattle.plain_stream.specs.States.{with_puts}
use Rattle.plain_stream.proofs.commits.with_puts.Given as goal

abbrev pub invariant-loop-change : goal.invariant-loop-change
invariant-loop-change l = with_puts (drop l.change-index l.written) l.after.items ≡ with_puts l.written l.initial.after.items
