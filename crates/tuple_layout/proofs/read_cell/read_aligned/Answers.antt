use Rattle.std.proofs.lemmas.Result.{err_from_is_err_and}
use Rattle.tuple_layout.proofs.CellFaultLemmas.{even_unpadded, even_plain, plain_stands, even_short, even_external, even_other, padding_long}
use Rattle.tuple_layout.proofs.read_cell.read_aligned.Goals as goal

pub returns-in_default-clause-fault : goal.returns-in_default-clause-fault
returns-in_default-clause-fault c = even_unpadded c.args.storage c.args.at c.args.rest.now c.requires c.in_default.ensures

pub returns-in_err-cell-in-Ok-Plain-default-clause-fault :
    goal.returns-in_err-cell-in-Ok-Plain-default-clause-fault
returns-in_err-cell-in-Ok-Plain-default-clause-fault c =
    let p = err_from_is_err_and c.from_residual.result c.from_residual.ensures.1 in
    let begins = rw c.in-Ok-Plain-default.field-0-0-is at c.in-Ok-Plain-default.ensures.found in
    rw (p.1, p.2) (even_plain c.args.storage c.args.at c.args.rest.now c.in-Some.body.now c.in-Ok-Plain-default.payload.now c.in-Ok-Plain-default.size c.in_err-cell-in-Ok-Plain-default.field-0.0 c.requires c.in-Some.ensures begins c.in_err-cell-in-Ok-Plain-default.ensures.fault)

pub returns-in_ok-cell-in-Ok-Plain-default-clause-found :
    goal.returns-in_ok-cell-in-Ok-Plain-default-clause-found
returns-in_ok-cell-in-Ok-Plain-default-clause-found c =
    let begins = rw c.in-Ok-Plain-default.field-0-0-is at c.in-Ok-Plain-default.ensures.found in
    plain_stands c.args.storage c.args.at c.padding.result c.args.rest.now c.in-Some.body.now c.in-Ok-Plain-default.payload.now c.in-Ok-Plain-default.size c.in_ok-cell-in-Ok-Plain-default.cell c.in-Some.ensures
    (padding_long c.args.at c.padding.result c.padding.ensures.aligned) begins c.in_ok-cell-in-Ok-Plain-default.ensures.found.0 c.in_ok-cell-in-Ok-Plain-default.ensures.found.1

pub returns-in-Ok-Short-default-clause-fault : goal.returns-in-Ok-Short-default-clause-fault
returns-in-Ok-Short-default-clause-fault c =
    let begins = rw c.in-Ok-Short-default.field-0-0-is at c.in-Ok-Short-default.ensures.found in
    even_short c.args.storage c.args.at c.args.rest.now c.in-Some.body.now c.in-Ok-Short-default.field-0-0-0.now c.in-Ok-Short-default.field-0-1 c.requires c.in-Some.ensures begins

pub returns-in-Ok-External-default-clause-fault : goal.returns-in-Ok-External-default-clause-fault
returns-in-Ok-External-default-clause-fault c =
    let begins = rw c.in-Ok-External-default.field-0-0-is at c.in-Ok-External-default.ensures.found in
    even_external c.args.storage c.args.at c.args.rest.now c.in-Some.body.now c.in-Ok-External-default.field-0-0-0.now c.in-Ok-External-default.field-0-1 c.requires c.in-Some.ensures begins

pub returns-in-Err-clause-fault : goal.returns-in-Err-clause-fault
returns-in-Err-clause-fault c =
    even_other c.args.storage c.args.at c.args.rest.now c.in-Some.body.now c.requires c.in-Some.ensures (λ value n h k. c.in-Err.ensures.only _ n h) (λ payload n h. c.in-Err.ensures.only _ n h)
