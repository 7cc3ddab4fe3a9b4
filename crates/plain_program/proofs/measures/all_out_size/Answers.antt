use Rattle.std.proofs.Common.{◌+◌, refl}
use Rattle.plain_program.proofs.AllOut.{all_out_is}
use Rattle.plain_program.proofs.measures.all_out_size.Goals as goal

pub returns : goal.returns
returns c = all_out_is c.args.schema.now c.args.row.now (c.header_size.result + c.data_end.result) (rw (c.header_size.ensures.size, c.data_end.ensures.end, c.has_null.ensures, c.as_slice-values.ensures) refl)
