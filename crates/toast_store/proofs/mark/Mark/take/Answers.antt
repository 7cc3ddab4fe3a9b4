use Rattle.std.proofs.Common.{ap}
use Rattle.toast_store.specs.Stores.{Store}
use Rattle.toast_store.specs.Marks.{Marking}
use Rattle.toast_store.proofs.Walked.{steps_taken}
use Rattle.toast_store.proofs.Marking.{marking_taken, marking_asked}
use Rattle.toast_store.proofs.mark.Mark.take.Goals as goal

pub returns-in-Some-clause-marking : goal.returns-in-Some-clause-marking
returns-in-Some-clause-marking c = λ marking. marking_taken c.args.store.now _ _ _ c.args.self.now c.in-Some.entry _ c.self.view_is c.in-Some.ensures.entry c.requires.sound.index c.requires.under_way c.end_chunk.ensures.ended c.pass.ensures.walk c.pass.ensures.store marking

pub returns-in_ok-ask-in-None-clause-marking : goal.returns-in_ok-ask-in-None-clause-marking
returns-in_ok-ask-in-None-clause-marking c = λ marking. marking_asked c.args.store.now _ _ c.args.self.now _ c.self.view_is c.in-None.ensures.entry c.requires.sound.index c.requires.under_way c.in-None.ensures.stage c.in_ok-ask-in-None.ensures.walk c.in_ok-ask-in-None.ensures.store marking

pub returns-in_ok-ask-in-None-clause-left : goal.returns-in_ok-ask-in-None-clause-left
returns-in_ok-ask-in-None-clause-left c =
    let same = ap (λ (m : Marking). m.walk) c.self.view_is in
    steps_taken c.args.store.now.index _ c.args.self.now.walk _ _ _ same same c.requires.sound.index c.entry.ensures.sound c.requires.under_way c.in_ok-ask-in-None.ensures.walk (ap (λ (s : Store). s.index) c.in_ok-ask-in-None.ensures.store)
