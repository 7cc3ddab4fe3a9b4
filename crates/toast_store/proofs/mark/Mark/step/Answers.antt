use Rattle.std.proofs.Common.{◌≡◌, true, false, sym, ap, ◌∙◌, subst}
use Rattle.toast_store.specs.Walks.{IsStage, is_over}
use Rattle.toast_store.specs.Marks.{Marking}
use Rattle.toast_store.proofs.Ended.{mark_goes_on, mark_is_done}
use Rattle.toast_store.proofs.mark.Mark.step.Goals as goal

pub returns-then-is_over-clause-ok : goal.returns-then-is_over-clause-ok
returns-then-is_over-clause-ok c =
    let took = c.in_ok-take.ensures in
    let over : is_over c.take.new.self.walk.stage ≡ true = ap (λ (m : Marking). is_over m.walk.stage) (sym c.self.view_is) ∙ sym c.is_over.ensures.over ∙ c.if-is_over.true in
    mark_is_done c.args.store.now c.take.new.store c.args.self.now c.take.new.self c.facts.ensures (record { stage = took.stage; mark = took.mark; store = took.store; marking = took.marking; left = took.left }) over

pub returns-clause-ok : goal.returns-clause-ok
returns-clause-ok c =
    let took = c.in_ok-take.ensures in
    let going : is_over c.take.new.self.walk.stage ≡ false = ap (λ (m : Marking). is_over m.walk.stage) (sym c.self.view_is) ∙ sym c.is_over.ensures.over ∙ c.if-is_over.false in
    let stage = subst (λ (m : Marking). IsStage m.walk.first m.walk.end m.walk.stage) c.self.view_is c.is_over.ensures.sound in
    mark_goes_on c.args.store.now c.take.new.store c.args.self.now c.take.new.self c.facts.ensures (record { stage = took.stage; mark = took.mark; store = took.store; marking = took.marking; left = took.left }) stage going
