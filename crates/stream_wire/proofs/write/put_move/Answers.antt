use Rattle.stream_wire.proofs.Parts.{four_parts}
use Rattle.stream_wire.proofs.write.put_move.Goals as goal

pub returns-clause-ok : goal.returns-clause-ok
returns-clause-ok c = four_parts c.put_columns.result _ _ _ _ _ _ _ _ _ c.in_ok-put_table.ensures.ok c.in_ok-put_key.ensures.ok c.in_ok-put_key-2.ensures.ok c.put_columns.ensures.ok
