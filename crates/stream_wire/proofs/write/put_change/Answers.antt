use Rattle.stream_wire.proofs.Parts.{three_parts}
use Rattle.stream_wire.proofs.write.put_change.Goals as goal

pub returns-clause-ok : goal.returns-clause-ok
returns-clause-ok c = three_parts c.put_columns.result _ _ _ _ _ _ _ c.in_ok-put_table.ensures.ok c.in_ok-put_key.ensures.ok c.put_columns.ensures.ok
