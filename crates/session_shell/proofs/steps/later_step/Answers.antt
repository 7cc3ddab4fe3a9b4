use Rattle.std.proofs.Common.{subst, sym}
use Rattle.session_shell.specs.Steps.{LaterMade, StepsLater}
use Rattle.session_shell.proofs.Cores.{ended_event, ended_later, going_event, later_never_idle, more_later}
use Rattle.session_shell.proofs.steps.later_step.Goals as goal

pub unreachable-requires : goal.unreachable-requires
unreachable-requires c = later_never_idle c.args.core.now c.advance.new.self c.args.session _ c.in-Ok-Idle.field-0-is c.requires.under_way c.in-Ok-Idle.ensures.moved c.requires.granted

pub returns-in-Ok-More-clause-steps : goal.returns-in-Ok-More-clause-steps
returns-in-Ok-More-clause-steps c = more_later c.args.core.now c.advance.new.self c.args.session _ c.in-Ok-More.field-0-is c.requires.session c.requires.under_way c.in-Ok-More.ensures.moved c.in-Ok-More.ensures.event c.in-Ok-More.ensures.left c.requires.granted

pub returns-in-Ok-Done-clause-steps : goal.returns-in-Ok-Done-clause-steps
returns-in-Ok-Done-clause-steps c =
    subst (StepsLater c.args.core.now c.args.session c.advance.new.self) (sym c.ended.ensures)
    (ended_later c.args.core.now c.advance.new.self c.args.session _ c.in-Ok-Done.reply c.in-Ok-Done.field-0-is c.requires.under_way c.in-Ok-Done.ensures.moved c.in-Ok-Done.ensures.event c.requires.granted)

pub returns-in-Ok-More-clause-event : goal.returns-in-Ok-More-clause-event
returns-in-Ok-More-clause-event c = going_event c.args.core.now c.advance.new.self c.args.session _ c.in-Ok-More.field-0-is c.advance.ensures.sound c.in-Ok-More.ensures.event

pub returns-in-Ok-Done-clause-event : goal.returns-in-Ok-Done-clause-event
returns-in-Ok-Done-clause-event c =
    subst (LaterMade c.args.core.now c.args.session c.advance.new.self) (sym c.ended.ensures)
    (ended_event c.args.core.now c.advance.new.self c.args.session _ c.in-Ok-Done.reply c.in-Ok-Done.field-0-is c.advance.ensures.sound c.in-Ok-Done.ensures.event)

pub returns-in-Ok-More-clause-kept : goal.returns-in-Ok-More-clause-kept
returns-in-Ok-More-clause-kept c = c.in-Ok-More.ensures.kept

pub returns-in-Ok-Done-clause-kept : goal.returns-in-Ok-Done-clause-kept
returns-in-Ok-Done-clause-kept c = c.in-Ok-Done.ensures.kept

pub returns-in-Err-clause-kept : goal.returns-in-Err-clause-kept
returns-in-Err-clause-kept c = c.in-Err.ensures.kept
