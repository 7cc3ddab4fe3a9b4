-- What a step of a fetch leaves.
use Rattle.std.proofs.Common.{◌≡◌, ℕ, ◌+◌, ◌<◌, Bool, true, false, cond, nat_lt, None, List, [], ◌∷◌, length, refl, sym, ap, ◌∙◌, subst, arith}
use Rattle.std.specs.Prelude.{slice_get}
use Rattle.std.specs.List.Sorted.{IsStrictlySortedBy}
use Rattle.std.proofs.lemmas.Bool.{ltb-true}
use Rattle.chunk_index.specs.declared.entry.Entry.{Entry}
use Rattle.chunk_index.specs.declared.entry.Batch.{Batch}
use Rattle.chunk_index.specs.Entries.{entry_cmp}
use Rattle.chunk_index.specs.Pinned.{pin_of, without_pin}
use Rattle.chunk_index.specs.Indexes.{Index, after_batch, batch_of}
use Rattle.chunk_index.proofs.PinFacts.{pin_dropped}
use Rattle.toast_store.specs.Stores.{Store, IsStore}
use Rattle.toast_store.specs.Walks.{Walking, CanStep, MayAsk, IsUnderWay, index_after, index_walked, stage_after, stage_of_batch, steps_at, steps_left, wanted_by}
use Rattle.toast_store.specs.Fetches.{Fetching, FetchSteps, fetch_after}
use Rattle.toast_store.specs.declared.fetch.FetchStep.{FetchStep}
use Rattle.toast_store.specs.declared.fetch.FetchStep.TheVariants.{More, Done}
use Rattle.toast_store.specs.declared.walk.WalkStage.{WalkStage}
use Rattle.toast_store.specs.declared.walk.WalkStage.TheVariants as walks
use Rattle.toast_store.specs.Begun.{IsOverSome}
use Rattle.toast_store.proofs.Begun.{bounds_after, over_free, some_after}
use Rattle.read_steps.specs.Sound.{IsFetchOf}
use Rattle.read_steps.specs.Fetched.{FetchLeaves}

-- so a step that is granted leaves what the read needs
pub fetch_leaves : (old new : Store) (before after : Fetching) (step : FetchStep) → IsOverSome (Walking.stage before.walk) → CanStep old.index before.walk → IsStore new → FetchSteps old before new after step → FetchLeaves old before new after step
fetch_leaves old new before after More some can sound steps = record { same = steps.answer; can = steps.ready; fewer = steps.left.1; batch = steps.batch }
fetch_leaves old new before after (Done bytes) some can sound steps = record {
  came = steps.answer;
  free =
      let index_is : new.index ≡ index_walked old.index before.walk = ap (λ (s : Store). s.index) steps.store in
      let sorted : IsStrictlySortedBy entry_cmp (Index.bounds old.index) = subst (λ (bounds : List Entry). IsStrictlySortedBy entry_cmp bounds) (ap (λ (i : Index). i.bounds) index_is ∙ bounds_after old.index before.walk (Walking.stage before.walk)) sound.index.bounds_sorted in
      let over : stage_after old.index before.walk (Walking.stage before.walk) ≡ walks.Over = sym (ap (λ (w : Walking). w.stage) steps.walk) ∙ steps.ready in
      subst (λ (i : Index). pin_of i.pins (Walking.session before.walk) ≡ None) (sym index_is) (over_free old.index before.walk sorted some can over);
}

pub some_fetched : (store : Store) (session : ℕ) (before after : Fetching) → Walking.session (Fetching.walk before) ≡ session → after ≡ fetch_after store before → IsFetchOf session after
some_fetched store session before after mine is = record {
  of_session = ap (λ (f : Fetching). Walking.session (Fetching.walk f)) is ∙ mine;
  some = subst (λ (f : Fetching). IsOverSome (Walking.stage (Fetching.walk f))) (sym is) (some_after store.index before.walk (Walking.stage before.walk));
}
