-- What steps of walks over some numbers leave: no pin of the session once one has ended, and a step as long as it has not.
use Rattle.std.proofs.Common.{◌≡◌, ℕ, ◌+◌, ◌<◌, Bool, true, false, cond, nat_lt, Option, Some, None, List, [], ◌∷◌, length, refl, sym, subst, arith}
use Rattle.std.specs.Prelude.{slice_get}
use Rattle.std.specs.List.Sorted.{IsStrictlySortedBy}
use Rattle.std.proofs.lemmas.Bool.{ltb-true}
use Rattle.chunk_index.specs.declared.entry.Entry.{Entry}
use Rattle.chunk_index.specs.declared.entry.Batch.{Batch}
use Rattle.chunk_index.specs.Entries.{entry_cmp}
use Rattle.chunk_index.specs.Pinned.{pin_of, without_pin}
use Rattle.chunk_index.specs.Indexes.{Index, after_batch, batch_of}
use Rattle.chunk_index.proofs.PinFacts.{pin_dropped}
use Rattle.toast_store.specs.Begun.{IsOverSome}
use Rattle.toast_store.specs.Walks.{Walking, CanStep, MayAsk, IsUnderWay, index_after, index_walked, stage_after, stage_of_batch, steps_at, steps_left, wanted_by}
use Rattle.toast_store.specs.declared.walk.WalkStage.{WalkStage}
use Rattle.toast_store.specs.declared.walk.WalkStage.TheVariants as walks
use Rattle.toast_store.proofs.OwnLeaf.{empty_batch}

-- a step of a walk leaves the bounds of the leaves
pub bounds_after : (index : Index) (walk : Walking) (s : WalkStage) → Index.bounds (index_after index walk s) ≡ index.bounds
bounds_after index walk walks.Empty = refl
bounds_after index walk (walks.Asking after) = by_wanted (wanted_by walk after index.entries)
  where
    by_wanted : (wanted : List Entry) → Index.bounds (after_batch index walk.session wanted) ≡ index.bounds
    by_wanted [] = refl
    by_wanted (e ∷ es) = refl
bounds_after index walk (walks.Reading batch at) = by_test (nat_lt (at + 1) (length batch.entries))
  where
    by_test : (b : Bool) → Index.bounds (cond b index (record index { pins = without_pin index.pins walk.session })) ≡ index.bounds
    by_test true = refl
    by_test false = refl
bounds_after index walk walks.Over = refl

-- a walk that has just ended, of some numbers, leaves its session no pin
pub over_free : (index : Index) (walk : Walking) → IsStrictlySortedBy entry_cmp index.bounds → IsOverSome walk.stage → CanStep index walk → stage_after index walk walk.stage ≡ walks.Over → pin_of (Index.pins (index_walked index walk)) walk.session ≡ None
over_free index walk sorted some can over = by_stage walk.stage some can.0 can.1 over
  where
    by_batch : (wanted batch : List Entry) → (batch ≡ [] → wanted ≡ []) → pin_of index.pins walk.session ≡ None → stage_of_batch wanted batch ≡ walks.Over → pin_of (Index.pins (after_batch index walk.session wanted)) walk.session ≡ None
    by_batch wanted [] none free o = subst (λ (es : List Entry). pin_of (Index.pins (after_batch index walk.session es)) walk.session ≡ None) (sym (none refl)) free
    by_batch wanted (e ∷ es) none free o = cc

    by_more : (batch : Batch) (at : ℕ) (b : Bool) → cond b (walks.Reading batch (at + 1)) (cond batch.more (walks.Asking (slice_get batch.entries at)) walks.Over) ≡ walks.Over → pin_of (Index.pins (cond b index (record index { pins = without_pin index.pins walk.session }))) walk.session ≡ None
    by_more batch at true o = cc
    by_more batch at false o = pin_dropped index.pins walk.session

    by_stage : (s : WalkStage) → IsOverSome s → IsUnderWay s → MayAsk index walk.session s → stage_after index walk s ≡ walks.Over → pin_of (Index.pins (index_after index walk s)) walk.session ≡ None
    by_stage walks.Empty none under_way may o = absurd none
    by_stage (walks.Asking after) is under_way may o = by_batch (wanted_by walk after index.entries) (batch_of index.bounds (wanted_by walk after index.entries)) (empty_batch index.bounds (wanted_by walk after index.entries) sorted) may o
    by_stage (walks.Reading batch at) is under_way may o = by_more batch at (nat_lt (at + 1) (length batch.entries)) o
    by_stage walks.Over is under_way may o = absurd under_way

-- a walk of some numbers stays one
pub some_after : (index : Index) (walk : Walking) (s : WalkStage) → IsOverSome (stage_after index walk s)
some_after index walk walks.Empty = tt
some_after index walk (walks.Asking after) = by_batch (wanted_by walk after index.entries) (batch_of index.bounds (wanted_by walk after index.entries))
  where
    by_batch : (wanted batch : List Entry) → IsOverSome (stage_of_batch wanted batch)
    by_batch wanted [] = tt
    by_batch wanted (e ∷ es) = omega arith
some_after index walk (walks.Reading batch at) = by_test (nat_lt (at + 1) (length batch.entries)) refl
  where
    by_more : (b : Bool) → IsOverSome (cond b (walks.Asking (slice_get batch.entries at)) walks.Over)
    by_more true = tt
    by_more false = tt

    by_test : (b : Bool) → nat_lt (at + 1) (length batch.entries) ≡ b → IsOverSome (cond b (walks.Reading batch (at + 1)) (cond batch.more (walks.Asking (slice_get batch.entries at)) walks.Over))
    by_test true less = ltb-true (at + 1) (length batch.entries) less
    by_test false less = by_more batch.more
some_after index walk walks.Over = tt

-- a walk of some numbers that goes on has a step left
pub some_left : (entries : List Entry) (walk : Walking) → IsOverSome walk.stage → IsUnderWay walk.stage → 0 < steps_left entries walk
some_left entries walk some under_way = by_stage walk.stage some under_way
  where
    by_stage : (s : WalkStage) → IsOverSome s → IsUnderWay s → 0 < steps_at walk entries s
    by_stage walks.Empty none going = absurd none
    by_stage (walks.Asking after) is going = omega arith
    by_stage (walks.Reading batch at) is going = omega arith
    by_stage walks.Over is none = absurd none
