use Rattle.std.proofs.Common.{sym, ap, ◌∙◌, subst}
use Rattle.rewrite_facts.specs.Rewrites.{Rewriting, at_stage}
use Rattle.rewrite_facts.specs.declared.stage.RewriteStage.{RewriteStage}
use Rattle.rewrite_full.specs.Moves.{IsAtOrPast, IsNextStop}
use Rattle.rewrite_full.specs.Steps.{IsEvent, KeepsRead}
use Rattle.rewrite_full.proofs.Acts.{event_moved}
use Rattle.rewrite_full.proofs.rewrite.Rewrite.step.Goals as goal

pub returns-clause-event : goal.returns-clause-event
returns-clause-event c =
    let next = c.in_ok-stage-2.stage in
    let settled = c.in_ok-stage.stage in
    let after_is = ap (λ (r : Rewriting). at_stage r next) (sym c.self-2.view_is) in
    let before_is = ap (λ (r : Rewriting). at_stage r settled) c.settled.ensures.rest ∙ ap (λ (r : Rewriting). record r { place = c.settled.new.self.place; stage = settled }) c.self.view_is in
    let due = subst (λ (s : RewriteStage). KeepsRead c.self.inside.session s settled) c.replace-stage.ensures.value c.in_ok-stage.ensures.reads in
    let keeps = subst (λ (r : Rewriting). KeepsRead r.session r.stage settled) c.self.view_is due in
    let event = subst (λ (r : Rewriting). IsEvent c.args.toast.now c.args.ids.now r c.act.new.toast c.act.new.ids (at_stage c.act.new.self next)) before_is c.in_ok-stage-2.ensures.event in
    subst (λ (r : Rewriting). IsEvent c.args.toast.now c.args.ids.now c.args.self.now c.act.new.toast c.act.new.ids r) after_is
    (event_moved c.args.toast.now c.act.new.toast c.args.ids.now c.act.new.ids c.args.self.now (at_stage c.act.new.self next) c.settled.new.self.place settled keeps event)

pub returns-clause-chosen : goal.returns-clause-chosen
returns-clause-chosen c visiting =
    let value = c.replace-stage.ensures.value ∙ ap (λ (r : Rewriting). r.stage) c.self.view_is ∙ visiting in
    let stop = subst (λ (r : Rewriting). IsNextStop c.args.xacts.now c.args.snaps.now c.args.rows.now.pages r.place c.settled.new.self.place) c.self.view_is (c.in_ok-stage.ensures.chosen value) in
    record { at = c.settled.new.self.place; next = stop; there = subst (λ (r : Rewriting). IsAtOrPast c.settled.new.self.place r.place) (sym c.self-2.view_is) c.in_ok-stage-2.ensures.place }
