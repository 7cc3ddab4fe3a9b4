use Rattle.std.proofs.lemmas.Result.{err_from_is_err_and}
use Rattle.tuple_layout.proofs.CellFaultLemmas.{odd_none, odd_short, odd_out}
use Rattle.tuple_layout.proofs.CellLemmas.{odd_not_plain, odd_not_compressed}
use Rattle.tuple_layout.proofs.read_cell.read_unaligned.Goals as goal

pub returns-in_err-cell-in-Ok-Short-default-clause-fault :
    goal.returns-in_err-cell-in-Ok-Short-default-clause-fault
returns-in_err-cell-in-Ok-Short-default-clause-fault c = λ at.
    let p = err_from_is_err_and c.from_residual.result c.from_residual.ensures.1 in
    let begins = rw c.in-Ok-Short-default.field-0-0-is at c.in-Ok-Short-default.ensures.found in
    rw (p.1, p.2) (odd_short c.args.storage at c.args.rest.now c.in-Ok-Short-default.payload.now c.in-Ok-Short-default.size c.in_err-cell-in-Ok-Short-default.field-0.0 c.requires begins c.in_err-cell-in-Ok-Short-default.ensures.fault)

pub returns-in_err-pointer-in-Ok-External-default-clause-fault :
    goal.returns-in_err-pointer-in-Ok-External-default-clause-fault
returns-in_err-pointer-in-Ok-External-default-clause-fault c = λ at.
    let p = err_from_is_err_and c.from_residual-in_err-pointer-in-Ok-External-default.result c.from_residual-in_err-pointer-in-Ok-External-default.ensures.1 in
    let begins = rw c.in-Ok-External-default.field-0-0-is at c.in-Ok-External-default.ensures.found in
    rw (p.1, p.2) (odd_out c.args.storage at c.args.rest.now c.in-Ok-External-default.bytes.now c.in-Ok-External-default.size c.in_err-pointer-in-Ok-External-default.field-0.0 c.requires begins c.in_err-pointer-in-Ok-External-default.ensures.fault)

pub returns-in-Ok-Plain-default-clause-fault : goal.returns-in-Ok-Plain-default-clause-fault
returns-in-Ok-Plain-default-clause-fault c = λ at.
    let begins = rw c.in-Ok-Plain-default.field-0-0-is at c.in-Ok-Plain-default.ensures.found in
    absurd (odd_not_plain c.args.rest.now c.in-Ok-Plain-default.field-0-0-0.now c.in-Ok-Plain-default.field-0-1 c.requires begins)

pub returns-in-Ok-Compressed-default-clause-fault :
    goal.returns-in-Ok-Compressed-default-clause-fault
returns-in-Ok-Compressed-default-clause-fault c = λ at.
    let begins = rw c.in-Ok-Compressed-default.field-0-0-is at c.in-Ok-Compressed-default.ensures.found in
    absurd (odd_not_compressed c.args.rest.now c.in-Ok-Compressed-default.field-0-0-0.now c.in-Ok-Compressed-default.field-0-1 c.requires begins)

pub returns-in-Err-clause-fault : goal.returns-in-Err-clause-fault
returns-in-Err-clause-fault c = λ at. odd_none c.args.storage at c.args.rest.now c.requires c.in-Err.ensures.only
