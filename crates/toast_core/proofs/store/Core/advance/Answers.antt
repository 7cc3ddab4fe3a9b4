use Rattle.std.proofs.Common.{subst}
use Rattle.core_state.specs.Moves.{Falls}
use Rattle.core_state.specs.State.{CoreState}
use Rattle.core_events.proofs.Proved.{advances_keep, advances_run, failures_keep}
use Rattle.core_events.specs.Advanced.{FailsBy, IsAdvanced}
use Rattle.toast_core.proofs.Kept.{sound_at}
use Rattle.toast_core.proofs.Results.{on_err}
use Rattle.toast_core.specs.Cores.{IsCore}
use Rattle.toast_core.proofs.store.Core.advance.Goals as goal

pub returns-in_err-advance-clause-falls : goal.returns-in_err-advance-clause-falls
returns-in_err-advance-clause-falls c =
    let at = sound_at c.args.self.now c.args.session c.requires.session (subst IsCore c.self.view_is c.self.invariant) in
    let failed = subst (λ (v : CoreState). FailsBy v c.args.session c.advance.new.core) c.self.view_is c.in_err-advance.ensures.err in
    on_err (Falls c.args.self.now c.args.session c.advance.new.core) (failures_keep.falls c.args.self.now c.args.session c.advance.new.core at failed) c.from_residual.result

pub returns-in_err-advance-clause-others : goal.returns-in_err-advance-clause-others
returns-in_err-advance-clause-others c =
    let at = sound_at c.args.self.now c.args.session c.requires.session (subst IsCore c.self.view_is c.self.invariant) in
    failures_keep.others c.args.self.now c.args.session c.advance.new.core at (subst (λ (v : CoreState). FailsBy v c.args.session c.advance.new.core) c.self.view_is c.in_err-advance.ensures.err)

pub returns-clause-event : goal.returns-clause-event
returns-clause-event c =
    let at = sound_at c.args.self.now c.args.session c.requires.session (subst IsCore c.self.view_is c.self.invariant) in
    advances_run.event c.args.self.now c.args.session c.advance.new.core c.in_ok-advance.advance at (subst (λ (v : CoreState). IsAdvanced v c.args.session c.advance.new.core c.in_ok-advance.advance) c.self.view_is c.in_ok-advance.ensures.ok)

pub returns-clause-moved : goal.returns-clause-moved
returns-clause-moved c =
    let at = sound_at c.args.self.now c.args.session c.requires.session (subst IsCore c.self.view_is c.self.invariant) in
    advances_run.moved c.args.self.now c.args.session c.advance.new.core c.in_ok-advance.advance at (subst (λ (v : CoreState). IsAdvanced v c.args.session c.advance.new.core c.in_ok-advance.advance) c.self.view_is c.in_ok-advance.ensures.ok)

pub returns-clause-left : goal.returns-clause-left
returns-clause-left c busy =
    let at = sound_at c.args.self.now c.args.session c.requires.session (subst IsCore c.self.view_is c.self.invariant) in
    advances_run.falls c.args.self.now c.args.session c.advance.new.core c.in_ok-advance.advance at busy (subst (λ (v : CoreState). IsAdvanced v c.args.session c.advance.new.core c.in_ok-advance.advance) c.self.view_is c.in_ok-advance.ensures.ok)

pub returns-clause-others : goal.returns-clause-others
returns-clause-others c =
    let at = sound_at c.args.self.now c.args.session c.requires.session (subst IsCore c.self.view_is c.self.invariant) in
    advances_keep.others c.args.self.now c.args.session c.advance.new.core c.in_ok-advance.advance at (subst (λ (v : CoreState). IsAdvanced v c.args.session c.advance.new.core c.in_ok-advance.advance) c.self.view_is c.in_ok-advance.ensures.ok)

pub returns-clause-sound : goal.returns-clause-sound
returns-clause-sound c = subst IsCore c.self.view_is c.self.invariant

pub returns-in_err-advance-clause-sound : goal.returns-in_err-advance-clause-sound
returns-in_err-advance-clause-sound c = subst IsCore c.self.view_is c.self.invariant
