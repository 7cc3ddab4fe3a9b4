-- What is still to be taken of a batch stands in the index: what a step keeps of that, what others do, and what follows.
use Rattle.std.proofs.Common.{ℕ, ◌≡◌, ◌<◌, ◌+◌, ◌-◌, Bool, true, false, cond, nat_lt, Option, Some, None, List, [], ◌∷◌, length, drop, Contains, sym, ap, ◌∙◌, subst, arith}
use Rattle.std.specs.Prelude.{slice_get}
use Rattle.std.proofs.lemmas.List.{drop_more}
use Rattle.std.proofs.lemmas.Option.{none-some, slice_get_within, get_or_from_slice_get}
use Rattle.list_facts.proofs.Members.{none_in_nil, first_in, later_in}
use Rattle.slot_page.specs.declared.line.Tid.{Tid}
use Rattle.slot_page.specs.Pages.{slot_of}
use Rattle.chunk_index.specs.declared.entry.Entry.{Entry}
use Rattle.chunk_index.specs.Leaves.{Leaf}
use Rattle.chunk_index.specs.Indexes.{Index, batch_of, is_swept}
use Rattle.chunk_index.proofs.Batches.{batch_holds, wanted_are}
use Rattle.chunk_index.proofs.Inserts.{entry_stays}
use Rattle.chunk_index.proofs.Sweeps.{is_left}
use Rattle.toast_store.specs.declared.walk.WalkStage.{WalkStage}
use Rattle.toast_store.specs.declared.walk.WalkStage.TheVariants.{Empty, Asking, Reading, Over}
use Rattle.toast_store.specs.Stores.{Store, IsStore}
use Rattle.toast_store.specs.Walks.{Walking, IsStage, IsOfWalk, IsBatchHeld, batch_left, entry_at, index_walked, new_walk, stage_after, stage_of_batch, walk_after, wanted_by}
use Rattle.toast_store.specs.Marks.{Marking, EndsOwn}
use Rattle.toast_store.specs.Between.{Adds, Sweeps, IsBatchNamed}
use Rattle.toast_store.proofs.Kept.{id_named}
use Rattle.toast_store.proofs.Walked.{entries_walked}
use Rattle.toast_store.proofs.Wholes.{numbered}

-- of an entry still to be taken
pub record IsHeld (entries : List Entry) (walk : Walking) (e : Entry) : Type 0 where
  pub of_walk : IsOfWalk walk e
  pub stands : Contains entries e

-- the entries of a batch that was asked for
held_batch : (index : Index) (walk : Walking) (after : Option Entry) (batch : List Entry) (e : Entry) → walk.first < walk.end → batch_of index.bounds (wanted_by walk after index.entries) ≡ batch → Contains batch e → IsHeld index.entries walk e
held_batch index walk after batch e some is held =
    let wanted = wanted_are walk.value_id walk.first (walk.end - 1) after index.entries e (from_wanted (wanted_by walk after index.entries) (subst (λ (es : List Entry). Contains es e) (sym is) held)) in
    record { of_walk = record { of_value = wanted.of_value; from_first = wanted.from_number; before_end = omega (arith, some, wanted.to_number) }; stands = wanted.there }
  where
    from_wanted : (es : List Entry) → Contains (batch_of index.bounds es) e → Contains es e
    from_wanted [] h = h
    from_wanted (f ∷ fs) h = (batch_holds index.bounds f fs e h).0

-- where a walk stands after a step, each entry still to be taken was, or is of the batch that was asked for
held_at : (index : Index) (walk : Walking) (s : WalkStage) → IsStage walk.first walk.end s → ((e : Entry) → Contains (batch_left s) e → IsHeld index.entries walk e) → (e : Entry) → Contains (batch_left (stage_after index walk s)) e → IsHeld index.entries walk e
held_at index walk Empty stage held e left = absurd (none_in_nil e left)
held_at index walk (Asking after) stage held e left = by_batch (batch_of index.bounds (wanted_by walk after index.entries)) (λ b is h. held_batch index walk after b e stage is h) left
  where
    by_batch : (batch : List Entry) → ((b : List Entry) → batch ≡ b → Contains b e → IsHeld index.entries walk e) → Contains (batch_left (stage_of_batch (wanted_by walk after index.entries) batch)) e → IsHeld index.entries walk e
    by_batch [] own h = absurd (none_in_nil e h)
    by_batch (f ∷ fs) own h = own (f ∷ fs) (λ i. f ∷ fs) h
held_at index walk (Reading batch at) stage held e left = by_test (nat_lt (at + 1) (length batch.entries)) left
  where
    by_more : (b : Bool) → Contains (batch_left (cond b (Asking (slice_get batch.entries at)) Over)) e → IsHeld index.entries walk e
    by_more true h = absurd (none_in_nil e h)
    by_more false h = absurd (none_in_nil e h)

    by_test : (b : Bool) → Contains (batch_left (cond b (Reading batch (at + 1)) (cond batch.more (Asking (slice_get batch.entries at)) Over))) e → IsHeld index.entries walk e
    by_test true h = held e (subst (λ (es : List Entry). Contains es e) (sym (drop_more batch.entries at e stage.1)) (later_in _ (drop (at + 1) batch.entries) e h))
    by_test false h = by_more batch.more h
held_at index walk Over stage held e left = absurd (none_in_nil e left)

-- so a step keeps it
pub held_stepped : (index later : Index) (before walk : Walking) → walk ≡ walk_after index before → later ≡ index_walked index before → IsStage before.first before.end before.stage → IsBatchHeld index.entries before → IsBatchHeld later.entries walk
held_stepped index later before walk walks stores stage held =
    let entries : later.entries ≡ index.entries = ap (λ (i : Index). i.entries) stores ∙ entries_walked index before in
    let is : (e : Entry) → Contains (batch_left (stage_after index before before.stage)) e → IsHeld index.entries before e = held_at index before before.stage stage (λ e left. record { of_walk = held.of_walk e left; stands = held.stands e left }) in
    subst (IsBatchHeld later.entries) (sym walks) (subst (λ (es : List Entry). IsBatchHeld es (walk_after index before)) (sym entries) (record {
      of_walk = λ e left. let own = IsHeld.of_walk (is e left) in record { of_value = own.of_value; from_first = own.from_first; before_end = own.before_end };
      stands = λ e left. IsHeld.stands (is e left);
    }))

-- before the first step nothing is to be taken yet
pub held_new : (value_id first end session : ℕ) (entries : List Entry) → IsBatchHeld entries (new_walk value_id first end session)
held_new value_id first end session entries = record { of_walk = λ e left. absurd (by_test (nat_lt first end) e left); stands = λ e left. absurd (by_test (nat_lt first end) e left) }
  where
    by_test : (b : Bool) (e : Entry) → Contains (batch_left (cond b (Asking None) Empty)) e → ⊥
    by_test true e h = none_in_nil e h
    by_test false e h = none_in_nil e h

-- others keep it where the entries stay
pub batch_kept : (old new : List Entry) (walk : Walking) → ((e : Entry) → Contains old e → Contains (batch_left walk.stage) e → Contains new e) → IsBatchHeld old walk → IsBatchHeld new walk
batch_kept old new walk stays held = record { of_walk = held.of_walk; stands = λ e left. stays e (held.stands e left) left }

-- an entry that is added changes nothing in that
pub add_keeps_batch : (old new : Store) (added : Entry) (walk : Walking) → Adds old new added → IsBatchHeld old.index.entries walk → IsBatchHeld new.index.entries walk
add_keeps_batch old new added walk adds = batch_kept old.index.entries new.index.entries walk (λ e held left. subst (λ (es : List Entry). Contains es e) (sym adds.entries) (entry_stays old.index.entries added e held))

-- nor does a sweep that takes none of them, as that of a leaf in which none of them lies
pub sweep_keeps_batch : (old new : Store) (leaf : Leaf) (dead : List Tid) (walk : Walking) → Sweeps old new leaf dead → ((e : Entry) → Contains (batch_left walk.stage) e → is_swept old.index.bounds leaf dead e ≡ false) → IsBatchHeld old.index.entries walk → IsBatchHeld new.index.entries walk
sweep_keeps_batch old new leaf dead walk sweeps spared = batch_kept old.index.entries new.index.entries walk (λ e held left. subst (λ (es : List Entry). Contains es e) (sym sweeps.entries) (is_left old.index.bounds leaf dead old.index.entries e held (spared e left)))

-- so each of them names a chunk of its id and number or a dead slot
pub batch_named : (store : Store) (walk : Walking) → IsStore store → IsBatchHeld store.index.entries walk → IsBatchNamed store walk
batch_named store walk is held = record { each = λ e left. is.names.named e (held.stands e left) }

-- the entry that the next step takes is still to be taken
pub taken_left : (e : Entry) (s : WalkStage) → entry_at s ≡ Some e → Contains (batch_left s) e
taken_left e Empty at = absurd (none-some e at)
taken_left e (Asking after) at = absurd (none-some e at)
taken_left e (Reading batch n) at = subst (λ (es : List Entry). Contains es e) (sym (drop_more batch.entries n e (slice_get_within batch.entries n e at))) (first_in _ (drop (n + 1) batch.entries) e (get_or_from_slice_get batch.entries n e e at))
taken_left e Over at = absurd (none-some e at)

-- and a mark ends chunks of its value alone
pub marks_own : (store : Store) (mark : Marking) → IsStore store → IsBatchHeld store.index.entries mark.walk → EndsOwn store mark
marks_own store mark is held = record {
  each = λ e chunk at there.
      let left = taken_left e mark.walk.stage at in
      let own = held.of_walk e left in
      let number : chunk.seq ≡ e.seq = numbered e (slot_of store.rel.pages e.tid) chunk (is.names.named e (held.stands e left)) there in
      (id_named store e chunk is (held.stands e left) there ∙ own.of_value, omega (arith, number, own.before_end));
}
