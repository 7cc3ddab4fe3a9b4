use Rattle.std.proofs.Common.{subst, sym}
use Rattle.core_events.specs.Advanced.{FailsBy}
use Rattle.core_state.specs.State.{CoreState}
use Rattle.toast_core.proofs.Cut.{cut_ends, cut_fails}
use Rattle.toast_core.proofs.Kept.{advance_kept, cut_kept}
use Rattle.toast_core.proofs.events.advance.Goals as goal

pub fail-requires : goal.fail-requires
fail-requires c = cut_ends c.args.core.now c.args.session c.event.new.core c.requires c.in-Err.ensures.err

pub returns-in-Ok-clause-kept : goal.returns-in-Ok-clause-kept
returns-in-Ok-clause-kept c = advance_kept c.args.core.now c.args.session c.event.new.core c.in-Ok.advance c.requires c.in-Ok.ensures.ok

pub returns-in-Err-clause-err : goal.returns-in-Err-clause-err
returns-in-Err-clause-err c = subst (λ (v : CoreState). FailsBy c.args.core.now c.args.session v) (sym c.fail.ensures) (cut_fails c.args.core.now c.args.session c.event.new.core c.requires.there c.in-Err.ensures.err)

pub returns-in-Err-clause-kept : goal.returns-in-Err-clause-kept
returns-in-Err-clause-kept c = cut_kept c.args.core.now c.args.session c.event.new.core c.fail.new.self c.requires c.in-Err.ensures.err c.fail.ensures
