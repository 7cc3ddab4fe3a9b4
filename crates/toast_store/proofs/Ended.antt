-- The steps of a mark, whole: what each leaves and answers.
use Rattle.std.proofs.Common.{◌≡◌, ◌<◌, inl, inr, true, false, Contains, ap, subst}
use Rattle.list_facts.proofs.Members.{none_in_nil}
use Rattle.toast_store.specs.Stores.{Store, IsStore}
use Rattle.toast_store.specs.Walks.{IsBatchHeld, IsStage, ahead_at, index_walked, is_over, steps_left, walk_after}
use Rattle.toast_store.specs.declared.mark.MarkStep.TheVariants.{More, Done}
use Rattle.toast_store.specs.Marks.{Marking, IsMarked, IsMarking, MarkSteps, store_marked}
use Rattle.toast_store.proofs.Walked.{over_is, steps_remain, stepped_ready}
use Rattle.toast_store.proofs.Held.{held_stepped, marks_own}

-- what a step has done that found memory, before it answers
pub record HasEnded (old : Store) (before : Marking) (new : Store) (after : Marking) : Type 0 where
  pub stage : IsStage before.walk.first before.walk.end before.walk.stage
  pub mark : after ≡ record before { walk = walk_after old.index before.walk }
  pub store : new ≡ store_marked old before
  pub marking : IsMarking old before → IsMarking new after
  pub left : steps_left new.index.entries after.walk < steps_left old.index.entries before.walk

walk_is : (old new : Store) (before after : Marking) → HasEnded old before new after → after.walk ≡ walk_after old.index before.walk
walk_is old new before after ended = ap (λ (m : Marking). m.walk) ended.mark

index_is : (old new : Store) (before after : Marking) → HasEnded old before new after → new.index ≡ index_walked old.index before.walk
index_is old new before after ended = ap (λ (s : Store). s.index) ended.store

batch_held : (old new : Store) (before after : Marking) → HasEnded old before new after → IsBatchHeld old.index.entries before.walk → IsBatchHeld new.index.entries after.walk
batch_held old new before after ended held = held_stepped old.index new.index before.walk after.walk (walk_is old new before after ended) (index_is old new before after ended) ended.stage held

-- with nothing ahead each chunk is ended
all_marked : (store : Store) (mark : Marking) → is_over mark.walk.stage ≡ true → IsMarking store mark → IsMarked store mark
all_marked store mark over marking = record {
  each = λ e held of_walk. elim (marking.each e held of_walk) [
    | inl later ↦ absurd (none_in_nil e (subst (λ s. Contains (ahead_at mark.walk store.index.entries s) e) (over_is mark.walk.stage over) later))
    | inr done ↦ done
  ];
}

-- a step that goes on
pub mark_goes_on : (old new : Store) (before after : Marking) → IsStore old → HasEnded old before new after → IsStage after.walk.first after.walk.end after.walk.stage → is_over after.walk.stage ≡ false → MarkSteps old before new after More
mark_goes_on old new before after is ended stage going = record {
  mark = ended.mark;
  store = ended.store;
  own = marks_own old before is;
  marked = ended.marking;
  ready = stepped_ready old.index new.index before.walk after.walk (walk_is old new before after ended) (index_is old new before after ended) going;
  batch = batch_held old new before after ended;
  left = (steps_remain after.walk new.index.entries stage going, ended.left);
}

-- a step after which nothing is left
pub mark_is_done : (old new : Store) (before after : Marking) → IsStore old → HasEnded old before new after → is_over after.walk.stage ≡ true → MarkSteps old before new after Done
mark_is_done old new before after is ended over = record {
  mark = ended.mark;
  store = ended.store;
  own = marks_own old before is;
  marked = λ marking. all_marked new after over (ended.marking marking);
  ready = over_is after.walk.stage over;
  batch = batch_held old new before after ended;
  left = ap (λ s. steps_left new.index.entries (record after.walk { stage = s })) (over_is after.walk.stage over);
}
