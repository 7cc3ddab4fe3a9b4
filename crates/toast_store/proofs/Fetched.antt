-- The steps of a fetch, whole: what each leaves and answers.
use Rattle.std.proofs.Common.{ℕ, ◌≡◌, ◌<◌, true, false, cond, not, nat_lt, Ok, Err, None, List, sym, ap, ◌∙◌, subst}
use Rattle.std.specs.Option.{option_and_then}
use Rattle.chunk_index.specs.Indexes.{IsIndex}
use Rattle.toast_store.specs.Stores.{Store}
use Rattle.toast_store.specs.Walks.{IsBatchHeld, IsStage, index_walked, is_over, steps_left, walk_after}
use Rattle.toast_store.specs.declared.fault.FetchFault.{FetchFault}
use Rattle.toast_store.specs.declared.fault.FetchFault.TheVariants.{MissingChunk}
use Rattle.toast_store.specs.declared.fetch.FetchStep.TheVariants.{More, Done}
use Rattle.toast_store.specs.Fetches.{Fetching, FetchFails, FetchSteps, IsFetchAfter, IsFetchCause, answer_by, answer_due, fetch_after, next_chunk, outcome, refusal, store_after_fault}
use Rattle.toast_store.proofs.Walked.{over_is, steps_remain, stepped_ready}
use Rattle.toast_store.proofs.Held.{held_stepped}
use Rattle.toast_store.proofs.Outcomes.{ended_store}

-- what a step has done that found no fault, before it answers
pub record HasTaken (old : Store) (before : Fetching) (new : Store) (after : Fetching) : Type 0 where
  pub stage : IsStage before.walk.first before.walk.end before.walk.stage
  pub fetch : after ≡ fetch_after old before
  pub store : new ≡ record old { index = index_walked old.index before.walk }
  pub same : outcome new after ≡ outcome old before
  pub left : steps_left new.index.entries after.walk < steps_left old.index.entries before.walk
  pub taken : option_and_then (refusal before.size before.next) (next_chunk old before.walk) ≡ None

walk_is : (old new : Store) (before after : Fetching) → HasTaken old before new after → after.walk ≡ walk_after old.index before.walk
walk_is old new before after took = ap (λ (f : Fetching). f.walk) took.fetch

index_is : (old new : Store) (before after : Fetching) → HasTaken old before new after → new.index ≡ index_walked old.index before.walk
index_is old new before after took = ap (λ (s : Store). s.index) took.store

-- what a fetch comes to whose walk is over
pub outcome_over : (store : Store) (fetch : Fetching) → is_over fetch.walk.stage ≡ true → outcome store fetch ≡ cond (nat_lt fetch.next fetch.walk.end) (Err (MissingChunk fetch.next)) (Ok fetch.got)
outcome_over store fetch over = ap (λ s. outcome store (record fetch { walk = record fetch.walk { stage = s } })) (over_is fetch.walk.stage over)

-- what a step answers that takes its chunk
due_is : (old new : Store) (before after : Fetching) → HasTaken old before new after → answer_due old before ≡ answer_by after None
due_is old new before after took = ap (answer_by (fetch_after old before)) took.taken ∙ ap (λ f. answer_by f None) (sym took.fetch)

due_going : (old new : Store) (before after : Fetching) → HasTaken old before new after → is_over after.walk.stage ≡ false → answer_due old before ≡ Ok More
due_going old new before after took going = due_is old new before after took ∙ ap (λ b. cond (not b) (Ok More) (cond (nat_lt after.next after.walk.end) (Err (MissingChunk after.next)) (Ok (Done after.got)))) going

due_over : (old new : Store) (before after : Fetching) → HasTaken old before new after → is_over after.walk.stage ≡ true → answer_due old before ≡ cond (nat_lt after.next after.walk.end) (Err (MissingChunk after.next)) (Ok (Done after.got))
due_over old new before after took over = due_is old new before after took ∙ ap (λ b. cond (not b) (Ok More) (cond (nat_lt after.next after.walk.end) (Err (MissingChunk after.next)) (Ok (Done after.got)))) over

-- what is left of the batch stands
batch_held : (old new : Store) (before after : Fetching) → HasTaken old before new after → IsBatchHeld old.index.entries before.walk → IsBatchHeld new.index.entries after.walk
batch_held old new before after took held = held_stepped old.index new.index before.walk after.walk (walk_is old new before after took) (index_is old new before after took) took.stage held

-- a step that goes on
pub fetch_goes_on : (old new : Store) (before after : Fetching) → HasTaken old before new after → IsStage after.walk.first after.walk.end after.walk.stage → is_over after.walk.stage ≡ false → FetchSteps old before new after More
fetch_goes_on old new before after took stage going = record {
  answer = took.same;
  told = due_going old new before after took going;
  fetch = took.fetch;
  walk = walk_is old new before after took;
  store = took.store;
  ready = stepped_ready old.index new.index before.walk after.walk (walk_is old new before after took) (index_is old new before after took) going;
  batch = batch_held old new before after took;
  left = (steps_remain after.walk new.index.entries stage going, took.left);
}

-- a step that ends with the bytes
pub fetch_is_done : (old new : Store) (before after : Fetching) (got : List ℕ) → HasTaken old before new after → is_over after.walk.stage ≡ true → nat_lt after.next after.walk.end ≡ false → FetchSteps old before new (record after { got = got }) (Done after.got)
fetch_is_done old new before after got took over all = record {
  answer = sym took.same ∙ outcome_over new after over ∙ ap (λ b. cond b (Err (MissingChunk after.next)) (Ok after.got)) all;
  told = due_over old new before after took over ∙ ap (λ b. cond b (Err (MissingChunk after.next)) (Ok (Done after.got))) all;
  fetch = ap (λ (f : Fetching). f.got) took.fetch;
  walk = walk_is old new before after took;
  store = took.store;
  ready = over_is after.walk.stage over;
  batch = batch_held old new before after took;
  left = ap (λ s. steps_left new.index.entries (record after.walk { stage = s })) (over_is after.walk.stage over);
}

-- a step that ends while a piece is wanted
pub fetch_misses : (old new later : Store) (before after given : Fetching) (fault : FetchFault) → IsIndex old.index → HasTaken old before new after → is_over after.walk.stage ≡ true → nat_lt after.next after.walk.end ≡ true
    → fault ≡ MissingChunk after.next → IsFetchAfter (MissingChunk after.next) after given → later ≡ store_after_fault new after.walk.session (MissingChunk after.next) → FetchFails old before later given fault
fetch_misses old new later before after given fault is took over wanted tells gives stores = subst (FetchFails old before later given) (sym tells) (record {
  cause = sym took.same ∙ outcome_over new after over ∙ ap (λ b. cond b (Err (MissingChunk after.next)) (Ok after.got)) wanted;
  due = due_over old new before after took over ∙ ap (λ b. cond b (Err (MissingChunk after.next)) (Ok (Done after.got))) wanted;
  fetch = gives;
  store = stores ∙ ended_store old new before after is took.fetch took.store over;
})

-- a step whose chunk is refused, or for which there is no memory
pub fetch_gives_up : (old new later : Store) (before after given : Fetching) (fault tells : FetchFault) → after ≡ before → new ≡ old → IsFetchCause (outcome old before) fault → IsFetchCause (answer_due old before) fault
    → tells ≡ fault → IsFetchAfter fault after given → later ≡ store_after_fault new after.walk.session fault → FetchFails old before later given tells
fetch_gives_up old new later before after given fault tells same stays cause due is gives stores = subst (FetchFails old before later given) (sym is) (record {
  cause = cause;
  due = due;
  fetch = subst (λ f. IsFetchAfter fault f given) same gives;
  store = stores ∙ ap (λ (s : Store). store_after_fault s after.walk.session fault) stays ∙ ap (λ (f : Fetching). store_after_fault old f.walk.session fault) same;
})
