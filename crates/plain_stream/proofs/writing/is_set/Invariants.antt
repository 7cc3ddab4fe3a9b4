use Rattle.std.proofs.Common.{◌≡◌, drop}
use Rattle.command_set.specs.Plain.{value_set}
use Rattle.plain_stream.proofs.writing.is_set.Given as goal

abbrev pub invariant-loop-set : goal.invariant-loop-set
invariant-loop-set l = value_set (drop l.set-index l.sets) l.column ≡ value_set l.sets l.column
