use Rattle.session_shell.proofs.Cores.{done_event, done_first, has_made, more_event, more_first, never_idle}
use Rattle.session_shell.proofs.steps.first_step.Goals as goal

pub unreachable-requires : goal.unreachable-requires
unreachable-requires c = never_idle c.args.core.now c.begin.new.core c.args.session c.args.command.now _ c.in-Ok-Idle.field-0-is c.in-Ok-Idle.ensures.ok c.requires.stood

pub returns-in-Ok-Done-clause-begins : goal.returns-in-Ok-Done-clause-begins
returns-in-Ok-Done-clause-begins c = done_first c.args.core.now c.begin.new.core c.args.session c.args.command.now _ _ c.in-Ok-Done.field-0-is c.in-Ok-Done.ensures.ok

pub returns-in-Ok-More-clause-begins : goal.returns-in-Ok-More-clause-begins
returns-in-Ok-More-clause-begins c = more_first c.args.core.now c.begin.new.core c.args.session c.args.command.now _ _ c.requires.session c.requires.fits c.in-Ok-More.field-0-is c.granted_reply.ensures c.in-Ok-More.ensures.ok

pub returns-in-Ok-Done-clause-event : goal.returns-in-Ok-Done-clause-event
returns-in-Ok-Done-clause-event c = done_event c.args.core.now c.begin.new.core c.args.session c.args.command.now _ _ c.in-Ok-Done.field-0-is c.in-Ok-Done.ensures.ok

pub returns-in-Ok-More-clause-event : goal.returns-in-Ok-More-clause-event
returns-in-Ok-More-clause-event c = more_event c.args.core.now c.begin.new.core c.args.session c.args.command.now _ c.in-Ok-More.field-0-is c.in-Ok-More.ensures.ok

pub returns-in-Ok-Done-clause-made : goal.returns-in-Ok-Done-clause-made
returns-in-Ok-Done-clause-made c = λ run. has_made c.args.core.now c.begin.new.core c.args.session c.args.command.now _ c.in-Ok-Done.ensures.ok

pub returns-in-Ok-More-clause-made : goal.returns-in-Ok-More-clause-made
returns-in-Ok-More-clause-made c = λ run. has_made c.args.core.now c.begin.new.core c.args.session c.args.command.now _ c.in-Ok-More.ensures.ok

pub returns-in-Err-clause-made : goal.returns-in-Err-clause-made
returns-in-Err-clause-made c = λ run. absurd (cc)

pub returns-in-Ok-Done-clause-kept : goal.returns-in-Ok-Done-clause-kept
returns-in-Ok-Done-clause-kept c = c.in-Ok-Done.ensures.kept

pub returns-in-Ok-More-clause-kept : goal.returns-in-Ok-More-clause-kept
returns-in-Ok-More-clause-kept c = c.in-Ok-More.ensures.kept

pub returns-in-Err-clause-kept : goal.returns-in-Err-clause-kept
returns-in-Err-clause-kept c = c.in-Err.ensures.kept
