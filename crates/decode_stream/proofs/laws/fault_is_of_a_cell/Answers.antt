use Rattle.decode_stream.proofs.Growing.{fault_is_of_a_cell}
use Rattle.decode_stream.proofs.laws.fault_is_of_a_cell.Goals as goal

pub returns : goal.returns
returns c = fault_is_of_a_cell
