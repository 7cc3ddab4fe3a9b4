-- What each event of others leaves of a value whose chunks they do not end, and of the walks through its entries.
use Rattle.std.proofs.Common.{ℕ, ◌≡◌, ◌≢◌, ◌-◌, inl, inr, Bool, true, false, cond, not, Option, Some, None, List, [], Contains, length, drop, slice_get, refl, sym, ap, ◌∙◌, subst}
use Rattle.std.specs.Option.{option_map_or}
use Rattle.std.proofs.lemmas.Bool.{cases_Bool}
use Rattle.std.proofs.lemmas.Option.{same_Some, none-some}
use Rattle.std.proofs.lemmas.List.Elements.{Contains-append_cases}
use Rattle.list_facts.proofs.Members.{none_in_nil, from_chosen}
use Rattle.slot_page.specs.declared.line.Tid.{Tid}
use Rattle.slot_page.specs.declared.line.LinePointer.{LinePointer}
use Rattle.slot_page.specs.declared.line.LinePointer.TheVariants.{Normal, Dead, Unused}
use Rattle.slot_page.specs.Slots.{IsDead, item_of}
use Rattle.slot_page.specs.Tids.{is_listed}
use Rattle.slot_page.specs.DeadSlots.{dead_tids}
use Rattle.slot_page.specs.Pages.{page_at, slot_of, item_in, with_put_on}
use Rattle.slot_page.proofs.Pages.{put_was_free}
use Rattle.slot_page.proofs.Tids.{listed_among}
use Rattle.slot_page.proofs.Gathered.{gathered_are}
use Rattle.xact_status.specs.Xacts.{Xacts, IsAssigned}
use Rattle.chunk_relation.specs.declared.chunk.Chunk.{Chunk}
use Rattle.chunk_relation.specs.Chunks.{IsChunkAssigned, is_dead_chunk}
use Rattle.chunk_relation.specs.Relations.{AreAssigned, with_ended, with_pruned}
use Rattle.chunk_relation.proofs.Events.{assigned_put, assigned_ended, assigned_pruned, chunk_of-put, chunk_of-pruned}
use Rattle.chunk_index.specs.declared.entry.Entry.{Entry}
use Rattle.chunk_index.specs.Entries.{with_entry}
use Rattle.chunk_index.specs.Leaves.{Leaf}
use Rattle.chunk_index.specs.Pinned.{holder_of}
use Rattle.chunk_index.specs.Indexes.{after_sweep, is_swept, swept_index}
use Rattle.chunk_index.proofs.Batches.{wanted_are}
use Rattle.chunk_index.proofs.Inserts.{entry_was}
use Rattle.chunk_index.proofs.Sweeps.{left_was}
use Rattle.toast_store.specs.declared.walk.WalkStage.{WalkStage}
use Rattle.toast_store.specs.declared.walk.WalkStage.TheVariants.{Empty, Asking, Reading, Over}
use Rattle.toast_store.specs.Stores.{Store, IsStore}
use Rattle.toast_store.specs.Walks.{Walking, IsBatchHeld, ahead_at, ahead, batch_left, wanted_by}
use Rattle.toast_store.specs.Fetches.{outcome}
use Rattle.toast_store.specs.Between.{IsAheadSpared, Puts, Adds, Ends, Prunes, Sweeps, Pins}
use Rattle.toast_store.proofs.Ahead.{put_leaves_ahead, add_leaves_ahead, prune_leaves_ahead, sweep_leaves_ahead, end_keeps_outcome, outcome_left}
use Rattle.toast_store.proofs.Held.{add_keeps_batch, batch_named, sweep_keeps_batch}
use Rattle.toast_store.proofs.Kept.{end_item, swept_listed}
use Rattle.read_trials.specs.Readers.{AreAlive, IsAlive, PassesBy}

clash : false ≡ true → ⊥
clash e = cc

-- ---- what a walk still takes

-- an entry of the index, of a value
record IsIn (entries : List Entry) (value_id : ℕ) (e : Entry) : Type 0 where
  stands : Contains entries e
  of_value : e.value_id ≡ value_id

-- each entry ahead of a walk is one, where those of its batch are
ahead_in : (entries : List Entry) (walk : Walking) (stage : WalkStage) → ((e : Entry) → Contains (batch_left stage) e → IsIn entries walk.value_id e) → (e : Entry) → Contains (ahead_at walk entries stage) e → IsIn entries walk.value_id e
ahead_in entries walk Empty batch e held = absurd (none_in_nil e held)
ahead_in entries walk (Asking after) batch e held = let wanted = wanted_are walk.value_id walk.first (walk.end - 1) after entries e held in record { stands = wanted.there; of_value = wanted.of_value }
ahead_in entries walk (Reading b at) batch e held = elim (Contains-append_cases (drop at b.entries) _ e held) [
  | inl here ↦ batch e here
  | inr later ↦ by_more b.more later
]
  where
    by_more : (more : Bool) → Contains (cond more (wanted_by walk (slice_get b.entries (length b.entries - 1)) entries) []) e → IsIn entries walk.value_id e
    by_more true h = let wanted = wanted_are walk.value_id walk.first (walk.end - 1) _ entries e h in record { stands = wanted.there; of_value = wanted.of_value }
    by_more false h = absurd (none_in_nil e h)
ahead_in entries walk Over batch e held = absurd (none_in_nil e held)

-- so the chunks ahead are not dead where those of the value are not
ahead_spared : (xacts : Xacts) (value_id : ℕ) (store : Store) (walk : Walking) → walk.value_id ≡ value_id → AreAlive xacts value_id store → IsBatchHeld store.index.entries walk → IsAheadSpared store walk xacts 5
ahead_spared xacts value_id store walk same alive batch = record {
  each = λ chunk held.
      let from = from_chosen (λ (e : Entry). item_in store.rel.pages e.tid) (ahead store.index.entries walk) chunk held in
      let in_index = ahead_in store.index.entries walk walk.stage (λ e left. record { stands = batch.stands e left; of_value = (batch.of_walk e left).of_value }) from.0 from.1 in
      let is = alive.each from.0 in_index.stands (in_index.of_value ∙ same) in
      ap (is_dead_chunk xacts 5) (same_Some chunk is.0 (sym from.2 ∙ is.1)) ∙ is.2;
}

-- ---- events

-- one event after another
pub passes_then : (xacts : Xacts) (value_id : ℕ) (old mid new : Store) → PassesBy xacts value_id old mid → PassesBy xacts value_id mid new → PassesBy xacts value_id old new
passes_then xacts value_id old mid new first second = record {
  alive = second.alive;
  pins = second.pins ∙ first.pins;
  batches = λ walk of_value held. second.batches walk of_value (first.batches walk of_value held);
  fetches = λ fetch of_value held. second.fetches fetch of_value (first.batches fetch.walk of_value held) ∙ first.fetches fetch of_value held;
}

-- a chunk is put
puts_of : (old new : Store) (size : ℕ) (chunk : Chunk) → new ≡ record old { rel = record old.rel { pages = with_put_on size chunk old.rel.pages } } → Puts old new size chunk
puts_of old new size chunk is = record { pages = ap (λ (s : Store). s.rel.pages) is; entries = ap (λ (s : Store). s.index.entries) is }

pub put_alive : (xacts : Xacts) (value_id : ℕ) (old new : Store) (size : ℕ) (chunk : Chunk) → IsChunkAssigned xacts chunk → new ≡ record old { rel = record old.rel { pages = with_put_on size chunk old.rel.pages } } → AreAlive xacts value_id old → AreAlive xacts value_id new
put_alive xacts value_id old new size chunk given is alive = record {
  assigned = subst (λ (s : Store). AreAssigned xacts s.rel.pages) (sym is) (assigned_put xacts size chunk old.rel.pages alive.assigned given);
  each = λ e held of_value.
      let was = alive.each e (subst (λ (s : Store). Contains s.index.entries e) is held) of_value in
      (was.0, ap (λ (s : Store). item_in s.rel.pages e.tid) is ∙ unmoved e was.0 was.1 ∙ was.1, was.2);
}
  where
    unmoved : (e : Entry) (there : Chunk) → item_in old.rel.pages e.tid ≡ Some there → item_in (with_put_on size chunk old.rel.pages) e.tid ≡ item_in old.rel.pages e.tid
    unmoved e there at = elim (chunk_of-put size chunk old.rel.pages e.tid) [
      | inl same ↦ same
      | inr h ↦ absurd (none-some there (sym (ap item_of (ap (slot_of old.rel.pages) h.0 ∙ put_was_free size old.rel.pages)) ∙ at))
    ]

pub put_passes : (xacts : Xacts) (value_id : ℕ) (old new : Store) (size : ℕ) (chunk : Chunk) → IsStore old → IsChunkAssigned xacts chunk → new ≡ record old { rel = record old.rel { pages = with_put_on size chunk old.rel.pages } } → AreAlive xacts value_id old → PassesBy xacts value_id old new
put_passes xacts value_id old new size chunk sound given is alive = record {
  alive = put_alive xacts value_id old new size chunk given is alive;
  pins = ap (λ (s : Store). s.index.pins) is;
  batches = λ walk of_value held. subst (λ (s : Store). IsBatchHeld s.index.entries walk) (sym is) held;
  fetches = λ fetch of_value held. outcome_left old new fetch (put_leaves_ahead old new size chunk fetch.walk sound (batch_named old fetch.walk sound held) (puts_of old new size chunk is));
}

-- an entry is added: its chunk, if it is of the value, is alive
pub add_alive : (xacts : Xacts) (value_id : ℕ) (old new : Store) (e : Entry) → new.rel ≡ old.rel → new.index.entries ≡ with_entry old.index.entries e → (e.value_id ≡ value_id → IsAlive xacts old.rel.pages e) → AreAlive xacts value_id old → AreAlive xacts value_id new
add_alive xacts value_id old new e rel entries own alive = record {
  assigned = subst (λ rel. AreAssigned xacts rel.pages) (sym rel) alive.assigned;
  each = λ f held of_value. subst (λ rel. IsAlive xacts rel.pages f) (sym rel) (elim (entry_was old.index.entries e f (subst (λ (es : List Entry). Contains es f) entries held)) [
    | inl was ↦ alive.each f was of_value
    | inr is ↦ subst (IsAlive xacts old.rel.pages) is (own (ap (λ (g : Entry). g.value_id) is ∙ of_value))
  ]);
}

pub add_passes : (xacts : Xacts) (value_id : ℕ) (old new : Store) (e : Entry) → Adds old new e → new.rel ≡ old.rel → new.index.pins ≡ old.index.pins → e.value_id ≢ value_id → AreAlive xacts value_id old → PassesBy xacts value_id old new
add_passes xacts value_id old new e adds rel pins other alive = record {
  alive = add_alive xacts value_id old new e rel adds.entries (λ same. absurd (other same)) alive;
  pins = pins;
  batches = λ walk of_value held. add_keeps_batch old new e walk adds held;
  fetches = λ fetch of_value held. outcome_left old new fetch (add_leaves_ahead old new e fetch.walk adds (λ same. other (same ∙ of_value)));
}

-- a chunk of another value is ended
pub end_passes : (xacts : Xacts) (value_id : ℕ) (old new : Store) (tid : Tid) (xid : ℕ) → IsStore old → IsAssigned xacts xid → new ≡ record old { rel = record old.rel { pages = with_ended xid old.rel.pages tid } }
    → ((chunk : Chunk) → item_in old.rel.pages tid ≡ Some chunk → chunk.value_id ≢ value_id) → AreAlive xacts value_id old → PassesBy xacts value_id old new
end_passes xacts value_id old new tid xid sound given is other alive = record {
  alive = record {
    assigned = subst (λ (s : Store). AreAssigned xacts s.rel.pages) (sym is) (assigned_ended xacts xid old.rel.pages tid alive.assigned given);
    each = λ e held of_value.
        let there = subst (λ (s : Store). Contains s.index.entries e) is held in
        let was = alive.each e there of_value in
        (was.0, end_item old new tid xid value_id sound ends other e there of_value ∙ was.1, was.2);
  };
  pins = ap (λ (s : Store). s.index.pins) is;
  batches = λ walk of_value held. subst (λ (s : Store). IsBatchHeld s.index.entries walk) (sym is) held;
  fetches = λ fetch of_value held. end_keeps_outcome old new tid xid fetch ends;
}
  where
    ends : Ends old new tid xid
    ends = record { pages = ap (λ (s : Store). s.rel.pages) is; entries = ap (λ (s : Store). s.index.entries) is }

-- a page is pruned
pub prune_passes : (xacts : Xacts) (value_id : ℕ) (old new : Store) (page : ℕ) → new ≡ record old { rel = record old.rel { pages = with_pruned xacts 5 old.rel.pages page } } → AreAlive xacts value_id old → PassesBy xacts value_id old new
prune_passes xacts value_id old new page is alive = record {
  alive = record {
    assigned = subst (λ (s : Store). AreAssigned xacts s.rel.pages) (sym is) (assigned_pruned xacts 5 old.rel.pages page alive.assigned);
    each = λ e held of_value.
        let was = alive.each e (subst (λ (s : Store). Contains s.index.entries e) is held) of_value in
        (was.0, ap (λ (s : Store). item_in s.rel.pages e.tid) is ∙ unmoved e was.0 was.1 was.2 ∙ was.1, was.2);
  };
  pins = ap (λ (s : Store). s.index.pins) is;
  batches = λ walk of_value held. subst (λ (s : Store). IsBatchHeld s.index.entries walk) (sym is) held;
  fetches = λ fetch of_value held. outcome_left old new fetch (prune_leaves_ahead old new xacts 5 page fetch.walk prunes (ahead_spared xacts value_id old fetch.walk of_value alive held));
}
  where
    prunes : Prunes old new xacts 5 page
    prunes = record { pages = ap (λ (s : Store). s.rel.pages) is; entries = ap (λ (s : Store). s.index.entries) is }

    unmoved : (e : Entry) (there : Chunk) → item_in old.rel.pages e.tid ≡ Some there → is_dead_chunk xacts 5 there ≡ false → item_in (with_pruned xacts 5 old.rel.pages page) e.tid ≡ item_in old.rel.pages e.tid
    unmoved e there at live = elim (chunk_of-pruned xacts 5 old.rel.pages page e.tid) [
      | inl same ↦ same
      | inr h ↦ absurd (clash (sym live ∙ ap (is_dead_chunk xacts 5) (same_Some there h.0 (sym at ∙ h.1)) ∙ h.2))
    ]

-- a leaf is swept of the entries of dead slots, if none has it pinned
dead_empty : (line : LinePointer Chunk) → IsDead line → item_of line ≡ None
dead_empty (Normal size chunk) dead = absurd dead
dead_empty Dead dead = refl
dead_empty Unused dead = absurd dead

swept : (xacts : Xacts) (value_id : ℕ) (old new : Store) (leaf : Leaf) (dead : List Tid) → ((tid : Tid) → is_listed dead tid ≡ true → item_in old.rel.pages tid ≡ None) → new ≡ record old { index = swept_index old.index leaf dead } → AreAlive xacts value_id old → PassesBy xacts value_id old new
swept xacts value_id old new leaf dead gone is alive = record {
  alive = record {
    assigned = subst (λ (s : Store). AreAssigned xacts s.rel.pages) (sym is) alive.assigned;
    each = λ e held of_value.
        let was = alive.each e (left_was old.index.bounds leaf dead old.index.entries e (subst (λ (s : Store). Contains s.index.entries e) is held)).0 of_value in
        (was.0, ap (λ (s : Store). item_in s.rel.pages e.tid) is ∙ was.1, was.2);
  };
  pins = ap (λ (s : Store). s.index.pins) is;
  batches = λ walk of_value held. sweep_keeps_batch old new leaf dead walk sweeps (λ e left. spared e (held.stands e left) ((held.of_walk e left).of_value ∙ of_value)) held;
  fetches = λ fetch of_value held. outcome_left old new fetch (sweep_leaves_ahead old new leaf dead fetch.walk sweeps);
}
  where
    sweeps : Sweeps old new leaf dead
    sweeps = record { gone = gone; pages = ap (λ (s : Store). s.rel.pages) is; entries = ap (λ (s : Store). s.index.entries) is }

    spared : (e : Entry) → Contains old.index.entries e → e.value_id ≡ value_id → is_swept old.index.bounds leaf dead e ≡ false
    spared e there of_value = elim (cases_Bool (is_swept old.index.bounds leaf dead e)) [
      | inl taken ↦ let was = alive.each e there of_value in absurd (none-some was.0 (sym (gone e.tid (swept_listed old.index.bounds leaf dead e (ap not taken))) ∙ was.1))
      | inr left ↦ left
    ]

-- nothing changes
same_passes : (xacts : Xacts) (value_id : ℕ) (old new : Store) → new ≡ old → AreAlive xacts value_id old → PassesBy xacts value_id old new
same_passes xacts value_id old new is alive = record {
  alive = subst (AreAlive xacts value_id) (sym is) alive;
  pins = ap (λ (s : Store). s.index.pins) is;
  batches = λ walk of_value held. subst (λ (s : Store). IsBatchHeld s.index.entries walk) (sym is) held;
  fetches = λ fetch of_value held. ap (λ (s : Store). outcome s fetch) is;
}

pub sweep_passes : (xacts : Xacts) (value_id : ℕ) (old new : Store) (page : ℕ) (leaf : Leaf) (dead : List Tid) → dead ≡ dead_tids page (page_at old.rel.pages page) → new ≡ record old { index = after_sweep old.index leaf dead } → AreAlive xacts value_id old → PassesBy xacts value_id old new
sweep_passes xacts value_id old new page leaf dead gathered is alive = by_holder (holder_of old.index.pins leaf) is
  where
    by_holder : (o : Option ℕ) → new ≡ record old { index = option_map_or (λ holder. old.index) o (swept_index old.index leaf dead) } → PassesBy xacts value_id old new
    by_holder None taken = swept xacts value_id old new leaf dead (λ tid listed. dead_empty (slot_of old.rel.pages tid) (gathered_are old.rel.pages page dead tid gathered (listed_among dead tid listed))) taken alive
    by_holder (Some holder) kept = same_passes xacts value_id old new kept alive

-- pins alone change
pub pins_alive : (xacts : Xacts) (value_id : ℕ) (old new : Store) → Pins old new → AreAlive xacts value_id old → AreAlive xacts value_id new
pins_alive xacts value_id old new pins alive = record {
  assigned = subst (AreAssigned xacts) (sym pins.pages) alive.assigned;
  each = λ e held of_value. subst (λ pages. IsAlive xacts pages e) (sym pins.pages) (alive.each e (subst (λ (es : List Entry). Contains es e) pins.entries held) of_value);
}
