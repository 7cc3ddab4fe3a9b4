use Rattle.std.proofs.Common.{arith}
use Rattle.slice_fetch.proofs.Cuts.{pieces_cut}
use Rattle.slice_fetch.proofs.chunk_range.Goals as goal

pub returns-clause-pieces : goal.returns-clause-pieces
returns-clause-pieces c = λ bytes. pieces_cut bytes c.args.span (omega arith)
