use Rattle.std.proofs.Common.{sym, ap, ◌∙◌, subst}
use Rattle.xact_status.specs.Xacts.{Xacts}
use Rattle.chunk_relation.specs.Relations.{AreAssigned}
use Rattle.toast_store.specs.Stores.{Store}
use Rattle.toast_vacuum.specs.Vacuums.{Vacuuming}
use Rattle.toast_vacuum.proofs.StoreSteps.{vacuums_stand}
use Rattle.toast_vacuum.proofs.Tells.{steps_tell}
use Rattle.store_trials.proofs.Readers.{pins_stay}
use Rattle.store_trials.proofs.vacuums.step.Goals as goal

pub step-requires : goal.step-requires
step-requires g c = vacuums_stand.may_step c.args.xacts.now c.args.store.now c.args.vacuum.now c.requires.assigned c.requires.holds

pub returns-clause-assigned : goal.returns-clause-assigned
returns-clause-assigned g c = rw c.in_ok-answer.ensures.target (steps_tell.given c.args.xacts.now c.args.store.now c.args.vacuum.now c.requires.assigned)

pub returns-clause-holds : goal.returns-clause-holds
returns-clause-holds g c = rw (c.in_ok-answer.ensures.target, c.in_ok-answer.ensures.vacuum) (vacuums_stand.step c.args.xacts.now c.args.store.now c.args.vacuum.now c.rel.ensures.sound c.requires.holds)

pub returns-clause-pins : goal.returns-clause-pins
returns-clause-pins g c = ap (λ (s : Store). s.index.pins) c.in_ok-answer.ensures.target ∙ pins_stay c.args.xacts.now c.args.store.now c.args.vacuum.now _
