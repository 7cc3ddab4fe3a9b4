use Rattle.tuple_layout.proofs.Judged.{reads_again, one_fault}
use Rattle.tuple_layout.proofs.StoredRowLemmas.{reads_row}
use Rattle.tuple_layout.proofs.read.read_tuple.Goals as goal

pub returns-clause-again : goal.returns-clause-again
returns-clause-again c = reads_again c.args.schema.now.storages c.args.bytes.now c.read_parts.result c.read_parts.ensures.few c.read_parts.ensures.found c.read_parts.ensures.fault

pub returns-clause-fault_only : goal.returns-clause-fault_only
returns-clause-fault_only c = one_fault c.args.schema.now.storages c.args.bytes.now c.read_parts.result c.read_parts.ensures.few c.read_parts.ensures.found c.read_parts.ensures.fault

pub returns-clause-row : goal.returns-clause-row
returns-clause-row c = reads_row c.args.schema.now.storages c.args.bytes.now c.read_parts.result c.read_parts.ensures.few c.read_parts.ensures.found c.read_parts.ensures.fault
