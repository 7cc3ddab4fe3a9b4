use Rattle.std.proofs.lemmas.Result.{err_from_is_err_and}
use Rattle.tuple_layout.proofs.read_cell.read_cell.Goals as goal

pub returns-in_err-read-clause-fault : goal.returns-in_err-read-clause-fault
returns-in_err-read-clause-fault c =
    let p = err_from_is_err_and c.from_residual.result c.from_residual.ensures.1 in
    rw (p.1, p.2) (c.in_err-read.ensures.fault c.args.at)

pub returns-then-first-eq1-clause-found : goal.returns-then-first-eq1-clause-found
returns-then-first-eq1-clause-found c = c.in_ok-read.ensures.found c.args.at
