-- A value is taken by its own name alone.
use Rattle.decode_stream.specs.States.{value_name}
use Rattle.decode_stream.proofs.Columns.{taken_name}
use Rattle.decode_stream.proofs.row.taken.Goals as goal

pub returns-in-Out-clause-left : goal.returns-in-Out-clause-left
returns-in-Out-clause-left c = λ value_id. rw c.in-Out.is (taken_name c.args.table c.in-Out.p.value_id value_id c.name_of.result _ _ c.name_of.ensures (c.swap_remove.ensures.updates.0 (value_name c.args.table value_id)))
