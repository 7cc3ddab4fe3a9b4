use Rattle.std.proofs.Common.{◌/◌, get_or, arith}
use Rattle.varlena_form.proofs.Found.{short_found}
use Rattle.varlena_form.proofs.parse.parse_short.Goals as goal

pub returns-clause-found : goal.returns-clause-found
returns-clause-found c =
    short_found c.args.bytes.now (get_or c.args.bytes.now 0 0 / 2) (λ i. omega (arith, c.type_inv.bytes i)) (omega arith) (omega arith) (omega arith) (omega arith)
