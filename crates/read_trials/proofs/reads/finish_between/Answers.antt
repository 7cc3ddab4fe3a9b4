use Rattle.std.proofs.Common.{subst}
use Rattle.read_steps.specs.Reads.{Leaves}
use Rattle.read_trials.proofs.Passing.{pins_alive}
use Rattle.read_trials.proofs.Reading.{laid_pins, reader_passed, reader_stepped, step_pins}
use Rattle.read_trials.proofs.reads.finish_between.Goals as goal

pub disturb-requires-clause-alive : goal.disturb-requires-clause-alive
disturb-requires-clause-alive g c = pins_alive c.args.xacts.now 16385 c.loop-step.store c.step.new.toast (step_pins c.loop-step.store c.step.new.toast c.loop-step.read c.in_ok-step.ensures.store) c.loop-step.invariant.alive

pub disturb-requires-clause-laid : goal.disturb-requires-clause-laid
disturb-requires-clause-laid g c = laid_pins c.loop-step.store c.step.new.toast c.loop-step.others.value_id c.loop-step.others.laid (step_pins c.loop-step.store c.step.new.toast c.loop-step.read c.in_ok-step.ensures.store) c.loop-step.invariant.laid

pub returns-in-Done-clause-alive : goal.returns-in-Done-clause-alive
returns-in-Done-clause-alive g c = pins_alive c.args.xacts.now 16385 c.loop-step.store c.step.new.toast (step_pins c.loop-step.store c.step.new.toast c.loop-step.read c.in_ok-step.ensures.store) c.loop-step.invariant.alive

pub returns-in-Done-clause-laid : goal.returns-in-Done-clause-laid
returns-in-Done-clause-laid g c = laid_pins c.loop-step.store c.step.new.toast c.loop-step.others.value_id c.loop-step.others.laid (step_pins c.loop-step.store c.step.new.toast c.loop-step.read c.in_ok-step.ensures.store) c.loop-step.invariant.laid

pub loop-step-preserved : goal.loop-step-preserved
loop-step-preserved g c =
    let goes = subst (Leaves c.loop-step.store c.loop-step.read c.step.new.toast c.step.new.self) c.in-More.is c.in_ok-step.ensures.leaves in
    record {
      alive = c.in_ok-disturb-in-More.ensures.passes.alive;
      laid = c.in_ok-disturb-in-More.ensures.laid;
      reader = reader_passed c.args.xacts.now 16385 c.step.new.toast c.disturb.new.store c.step.new.self c.in_ok-disturb-in-More.ensures.passes (reader_stepped 16385 c.loop-step.store c.step.new.toast c.loop-step.read c.step.new.self c.loop-step.invariant.reader c.in_ok-step.ensures.read goes);
    }
