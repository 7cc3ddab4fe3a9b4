use Rattle.toast_vacuum.proofs.Rows.{row_vacuums_stand}
use Rattle.store_trials.proofs.vacuums.step_rows.Goals as goal

pub step-requires : goal.step-requires
step-requires c = row_vacuums_stand.may_step c.args.xacts.now c.args.rel.now c.args.vacuum.now c.requires.assigned c.requires.holds

pub returns-clause-assigned : goal.returns-clause-assigned
returns-clause-assigned c = rw c.in_ok-answer.ensures.target (row_vacuums_stand.given c.args.xacts.now c.args.rel.now c.args.vacuum.now c.requires.assigned)

pub returns-clause-holds : goal.returns-clause-holds
returns-clause-holds c = rw (c.in_ok-answer.ensures.target, c.in_ok-answer.ensures.vacuum) (row_vacuums_stand.step c.args.xacts.now c.args.rel.now c.args.vacuum.now c.requires.holds)
