use Rattle.std.proofs.Common.{subst, sym}
use Rattle.core_parts.specs.Later.{IsStepMade}
use Rattle.core_parts.specs.Moments.{IsMade}
use Rattle.core_sights.specs.Ready.{IsReady}
use Rattle.core_state.specs.Commands.{IsFitting}
use Rattle.core_state.specs.Facts.{IsSound}
use Rattle.core_state.specs.State.{CoreState, schemas_of}
use Rattle.core_events.specs.Advanced.{IsAdvanced}
use Rattle.toast_core.proofs.Cut.{fits, ready}
use Rattle.toast_core.proofs.Dues.{moment_advances, step_advances, step_same, submitted_is, taken_is}
use Rattle.toast_core.proofs.Results.{ok_as}
use Rattle.toast_core.proofs.events.event.Goals as goal

pub moment-requires-clause-ready : goal.moment-requires-clause-ready
moment-requires-clause-ready c =
    let job = submitted_is c.args.core.now c.args.session c.in-Moment.command _ c.take_due_of.ensures.due c.in-Moment.is in
    let is = taken_is c.args.core.now c.args.session c.in-Moment.command _ job c.take_due_of.ensures.taken in
    subst (λ (v : CoreState). IsReady v c.args.session) (sym is) (ready c.args.core.now c.args.session c.in-Moment.command c.requires job)

pub moment-requires-clause-fits : goal.moment-requires-clause-fits
moment-requires-clause-fits c =
    let job = submitted_is c.args.core.now c.args.session c.in-Moment.command _ c.take_due_of.ensures.due c.in-Moment.is in
    let is = taken_is c.args.core.now c.args.session c.in-Moment.command _ job c.take_due_of.ensures.taken in
    subst (λ (v : CoreState). IsFitting (schemas_of v.tables) c.in-Moment.command) (sym is) (fits c.args.core.now c.args.session c.in-Moment.command c.requires job)

pub step-requires-clause-sound : goal.step-requires-clause-sound
step-requires-clause-sound c = subst IsSound (sym (step_same c.args.core.now c.args.session _ _ c.requires.there c.take_due_of.ensures.due c.in-Step.is c.take_due_of.ensures.taken)) c.requires.sound

pub returns-in-Moment-clause-ok : goal.returns-in-Moment-clause-ok
returns-in-Moment-clause-ok c =
    let job = submitted_is c.args.core.now c.args.session c.in-Moment.command _ c.take_due_of.ensures.due c.in-Moment.is in
    let is = taken_is c.args.core.now c.args.session c.in-Moment.command _ job c.take_due_of.ensures.taken in
    ok_as (IsMade c.take_due_of.new.core c.args.session c.in-Moment.command c.moment.new.core) (IsAdvanced c.args.core.now c.args.session c.moment.new.core)
    (λ advance made. moment_advances c.args.core.now c.args.session c.in-Moment.command c.take_due_of.new.core c.moment.new.core advance c.requires.there job is made) c.moment.result c.moment.ensures.ok

pub returns-in-Step-clause-ok : goal.returns-in-Step-clause-ok
returns-in-Step-clause-ok c =
    let same = step_same c.args.core.now c.args.session _ _ c.requires.there c.take_due_of.ensures.due c.in-Step.is c.take_due_of.ensures.taken in
    ok_as (IsStepMade c.take_due_of.new.core c.args.session c.step.new.self) (IsAdvanced c.args.core.now c.args.session c.step.new.self)
    (λ advance made. step_advances c.args.core.now c.args.session _ c.take_due_of.new.core c.step.new.self advance c.take_due_of.ensures.due c.in-Step.is same made) c.step.result c.step.ensures.ok
