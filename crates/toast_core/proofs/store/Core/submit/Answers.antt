use Rattle.std.proofs.Common.{inl, subst, sym, ◌≡◌}
use Rattle.core_state.proofs.Proved.{submit_keeps}
use Rattle.core_state.specs.Lines.{after_failing, after_submit}
use Rattle.core_state.specs.Moves.{Falls, OthersStay, StandsOn}
use Rattle.core_state.specs.State.{CoreState}
use Rattle.core_events.proofs.Proved.{failures_keep}
use Rattle.toast_core.proofs.Kept.{sound_at, submit_others}
use Rattle.toast_core.proofs.Results.{on_err}
use Rattle.toast_core.specs.Cores.{IsCore}
use Rattle.toast_core.proofs.store.Core.submit.Goals as goal

pub returns-in_err-submit-clause-falls : goal.returns-in_err-submit-clause-falls
returns-in_err-submit-clause-falls c =
    let at = sound_at c.args.self.now c.args.session c.requires.session (subst IsCore c.self.view_is c.self.invariant) in
    let is = subst (λ (v : CoreState). c.submit.new.core ≡ after_failing v c.args.session) c.self.view_is c.in_err-submit.ensures.err in
    on_err (Falls c.args.self.now c.args.session c.submit.new.core) (failures_keep.falls c.args.self.now c.args.session c.submit.new.core at (inl is)) c.from_residual.result

pub returns-in_err-submit-clause-others : goal.returns-in_err-submit-clause-others
returns-in_err-submit-clause-others c =
    let at = sound_at c.args.self.now c.args.session c.requires.session (subst IsCore c.self.view_is c.self.invariant) in
    let is = subst (λ (v : CoreState). c.submit.new.core ≡ after_failing v c.args.session) c.self.view_is c.in_err-submit.ensures.err in
    failures_keep.others c.args.self.now c.args.session c.submit.new.core at (inl is)

pub returns-clause-stands : goal.returns-clause-stands
returns-clause-stands c =
    let is = subst (λ (v : CoreState). c.submit.new.core ≡ after_submit v c.args.session c.args.command.now) c.self.view_is c.in_ok-submit.ensures.ok in
    subst (λ (v : CoreState). StandsOn c.args.self.now v) (sym is) (submit_keeps.stands c.args.self.now c.args.session c.args.command.now c.requires.session c.requires.idle)

pub returns-clause-others : goal.returns-clause-others
returns-clause-others c =
    let is = subst (λ (v : CoreState). c.submit.new.core ≡ after_submit v c.args.session c.args.command.now) c.self.view_is c.in_ok-submit.ensures.ok in
    subst (λ (v : CoreState). OthersStay c.args.self.now c.args.session v) (sym is) (submit_others c.args.self.now c.args.session c.args.command.now)
