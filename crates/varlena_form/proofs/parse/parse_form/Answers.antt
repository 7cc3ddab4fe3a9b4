use Rattle.std.proofs.Common.{rules, Err}
use Rattle.varlena_form.specs.Fault.{IsFault}
use Rattle.varlena_form.specs.declared.fault.FormFault.TheVariants.{Truncated}
use Rattle.varlena_form.proofs.Only.{only_datum, only_fault, reads_again}
use Rattle.varlena_form.proofs.parse.parse_form.Goals as goal

pub returns-in-Some-clause-only : goal.returns-in-Some-clause-only
returns-in-Some-clause-only c = only_datum c.args.bytes.now c.parse_by_header.result c.parse_by_header.ensures.found c.parse_by_header.ensures.fault

pub returns-in-Some-clause-fault_only : goal.returns-in-Some-clause-fault_only
returns-in-Some-clause-fault_only c = only_fault c.args.bytes.now c.parse_by_header.result c.parse_by_header.ensures.found c.parse_by_header.ensures.fault

pub returns-in-Some-clause-again : goal.returns-in-Some-clause-again
returns-in-Some-clause-again c = reads_again c.args.bytes.now c.parse_by_header.result c.parse_by_header.ensures.found c.parse_by_header.ensures.fault

pub returns-in-None-clause-only : goal.returns-in-None-clause-only
returns-in-None-clause-only c =
    let fault : IsFault c.args.bytes.now (Truncated 1 0) = search rules in
    only_datum c.args.bytes.now (Err (Truncated 1 0)) tt fault

pub returns-in-None-clause-again : goal.returns-in-None-clause-again
returns-in-None-clause-again c =
    let fault : IsFault c.args.bytes.now (Truncated 1 0) = search rules in
    reads_again c.args.bytes.now (Err (Truncated 1 0)) tt fault
