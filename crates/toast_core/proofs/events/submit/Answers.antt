use Rattle.std.proofs.Common.{ap, ◌∙◌}
use Rattle.command_set.specs.declared.Command.{Command}
use Rattle.core_state.specs.Lines.{after_submit}
use Rattle.core_parts.proofs.Ending.{can_end}
use Rattle.toast_core.proofs.Kept.{fail_kept, submit_kept}
use Rattle.toast_core.proofs.events.submit.Goals as goal

pub fail-requires : goal.fail-requires
fail-requires c = can_end c.args.core.now c.args.session c.requires.at.there c.requires.at.sound

pub returns-in-Ok-clause-kept : goal.returns-in-Ok-clause-kept
returns-in-Ok-clause-kept c = submit_kept c.args.core.now c.args.session c.args.command.now c.set_job.new.self c.requires.at c.requires.idle c.requires.fits (c.set_job.ensures ∙ ap (λ (command : Command). after_submit c.args.core.now c.args.session command) c.in-Ok.ensures.ok)

pub returns-in-Err-clause-kept : goal.returns-in-Err-clause-kept
returns-in-Err-clause-kept c = fail_kept c.args.core.now c.args.session c.fail.new.self c.requires.at c.fail.ensures
