-- What others do to a store, seen from a mark under way: what it has ended stays ended, and what lies ahead stays ahead.
use Rattle.std.proofs.Common.{ℕ, ◌≡◌, ◌≢◌, inl, inr, Bool, true, false, cond, Option, Some, List, [], length, drop, slice_get, Contains, sym, ap, ◌∙◌, ◌-◌, subst}
use Rattle.std.proofs.lemmas.List.Elements.{Contains-append_cases, Contains-append_left, Contains-append_right}
use Rattle.slot_page.specs.declared.line.Tid.{Tid}
use Rattle.slot_page.specs.Pages.{slot_of, item_in, with_put_on}
use Rattle.slot_page.proofs.Pages.{put_was_free}
use Rattle.xact_status.specs.Xacts.{Xacts}
use Rattle.chunk_relation.specs.declared.chunk.Chunk.{Chunk}
use Rattle.chunk_relation.proofs.Events.{chunk_of-put, chunk_of-pruned, chunk_of-reaped}
use Rattle.chunk_index.specs.declared.entry.Entry.{Entry}
use Rattle.chunk_index.specs.Leaves.{Leaf}
use Rattle.chunk_index.proofs.Inserts.{entry_was}
use Rattle.chunk_index.proofs.Batches.{wanted_are, are_wanted}
use Rattle.chunk_index.proofs.Sweeps.{left_was}
use Rattle.toast_store.specs.declared.walk.WalkStage.{WalkStage}
use Rattle.toast_store.specs.declared.walk.WalkStage.TheVariants.{Empty, Asking, Reading, Over}
use Rattle.toast_store.specs.Stores.{Store, Names, IsStore}
use Rattle.toast_store.specs.Walks.{Walking, IsOfWalk, ahead_at, wanted_by}
use Rattle.toast_store.specs.Marks.{Marking, IsEnded, IsMarking}
use Rattle.toast_store.specs.Between.{Puts, Adds, Ends, Prunes, Sweeps, Reaps, Pins}
use Rattle.toast_store.proofs.Kept.{end_item}

-- entries that lie ahead and still stand in the index lie ahead
still_wanted : (walk : Walking) (after : Option Entry) (old new : List Entry) (e : Entry) → Contains new e → Contains (wanted_by walk after old) e → Contains (wanted_by walk after new) e
still_wanted walk after old new e there held =
    let was = wanted_are walk.value_id walk.first (walk.end - 1) after old e held in
    are_wanted walk.value_id walk.first (walk.end - 1) after new e (record { there = there; of_value = was.of_value; from_number = was.from_number; to_number = was.to_number; beyond = was.beyond })

still_ahead : (walk : Walking) (stage : WalkStage) (old new : List Entry) (e : Entry) → Contains new e → Contains (ahead_at walk old stage) e → Contains (ahead_at walk new stage) e
still_ahead walk Empty old new e there held = held
still_ahead walk (Asking after) old new e there held = still_wanted walk after old new e there held
still_ahead walk (Reading b at) old new e there held = elim (Contains-append_cases (drop at b.entries) (rest old b.more) e held) [
  | inl here ↦ Contains-append_left (drop at b.entries) (rest new b.more) e here
  | inr later ↦ Contains-append_right (drop at b.entries) (rest new b.more) e (by_more b.more later)
]
  where
    rest : List Entry → Bool → List Entry
    rest entries more = cond more (wanted_by walk (slice_get b.entries (length b.entries - 1)) entries) []

    by_more : (more : Bool) → Contains (rest old more) e → Contains (rest new more) e
    by_more true h = still_wanted walk (slice_get b.entries (length b.entries - 1)) old new e there h
    by_more false h = h
still_ahead walk Over old new e there held = held

-- a mark is kept where no entry of its value comes, and what is ended stays so
marking_kept : (old new : Store) (mark : Marking) → ((e : Entry) → Contains new.index.entries e → IsOfWalk mark.walk e → Contains old.index.entries e)
    → ((e : Entry) → Contains old.index.entries e → IsOfWalk mark.walk e → IsEnded mark.xid (item_in old.rel.pages e.tid) → IsEnded mark.xid (item_in new.rel.pages e.tid)) → IsMarking old mark → IsMarking new mark
marking_kept old new mark was ended marking = record {
  each = λ e held of_walk. elim (marking.each e (was e held of_walk) of_walk) [
    | inl lies ↦ inl (still_ahead mark.walk mark.walk.stage old.index.entries new.index.entries e held lies)
    | inr done ↦ inr (ended e (was e held of_walk) of_walk done)
  ];
}

-- with the same entries, where the slots of the value's are the same
same_marking : (old new : Store) (mark : Marking) → new.index.entries ≡ old.index.entries → ((e : Entry) → Contains old.index.entries e → IsOfWalk mark.walk e → item_in new.rel.pages e.tid ≡ item_in old.rel.pages e.tid) → IsMarking old mark → IsMarking new mark
same_marking old new mark entries same marking =
    marking_kept old new mark (λ e held of_walk. subst (λ es. Contains es e) entries held) (λ e held of_walk done. subst (IsEnded mark.xid) (sym (same e held of_walk)) done) marking

pub put_leaves_marking : (old new : Store) (size : ℕ) (chunk : Chunk) (mark : Marking) → IsStore old → Puts old new size chunk → IsMarking old mark → IsMarking new mark
put_leaves_marking old new size chunk mark is puts marking = same_marking old new mark puts.entries (λ e held of_walk. ap (λ pages. item_in pages e.tid) puts.pages ∙ unmoved e held) marking
  where
    unmoved : (e : Entry) → Contains old.index.entries e → item_in (with_put_on size chunk old.rel.pages) e.tid ≡ item_in old.rel.pages e.tid
    unmoved e held = elim (chunk_of-put size chunk old.rel.pages e.tid) [
      | inl same ↦ same
      | inr h ↦ absurd (subst (Names e) (ap (slot_of old.rel.pages) h.0 ∙ put_was_free size old.rel.pages) (is.names.named e held))
    ]

-- an entry of another value
pub add_leaves_marking : (old new : Store) (e : Entry) (mark : Marking) → Adds old new e → e.value_id ≢ mark.walk.value_id → IsMarking old mark → IsMarking new mark
add_leaves_marking old new e mark adds other marking =
    marking_kept old new mark
    (λ f held of_walk. elim (entry_was old.index.entries e f (subst (λ es. Contains es f) adds.entries held)) [
      | inl was ↦ was
      | inr new_one ↦ absurd (other (ap (λ (g : Entry). g.value_id) new_one ∙ of_walk.of_value))
    ])
    (λ f held of_walk done. subst (λ pages. IsEnded mark.xid (item_in pages f.tid)) (sym adds.pages) done)
    marking

-- a chunk of another value that is ended
pub end_leaves_marking : (old new : Store) (tid : Tid) (xid : ℕ) (mark : Marking) → IsStore old → Ends old new tid xid → ((chunk : Chunk) → item_in old.rel.pages tid ≡ Some chunk → chunk.value_id ≢ mark.walk.value_id) → IsMarking old mark → IsMarking new mark
end_leaves_marking old new tid xid mark is ends other marking = same_marking old new mark ends.entries (λ e held of_walk. end_item old new tid xid mark.walk.value_id is ends other e held of_walk.of_value) marking

-- a prune, which may take chunks that are ended
pub prune_leaves_marking : (old new : Store) (xacts : Xacts) (horizon page : ℕ) (mark : Marking) → Prunes old new xacts horizon page → IsMarking old mark → IsMarking new mark
prune_leaves_marking old new xacts horizon page mark prunes marking =
    marking_kept old new mark (λ e held of_walk. subst (λ es. Contains es e) prunes.entries held)
    (λ e held of_walk done. subst (λ pages. IsEnded mark.xid (item_in pages e.tid)) (sym prunes.pages) (elim (chunk_of-pruned xacts horizon old.rel.pages page e.tid) [
      | inl same ↦ subst (IsEnded mark.xid) (sym same) done
      | inr h ↦ subst (IsEnded mark.xid) (sym h.3) tt
    ]))
    marking

pub sweep_leaves_marking : (old new : Store) (leaf : Leaf) (dead : List Tid) (mark : Marking) → Sweeps old new leaf dead → IsMarking old mark → IsMarking new mark
sweep_leaves_marking old new leaf dead mark sweeps marking =
    marking_kept old new mark (λ e held of_walk. (left_was old.index.bounds leaf dead old.index.entries e (subst (λ es. Contains es e) sweeps.entries held)).0)
    (λ e held of_walk done. subst (λ pages. IsEnded mark.xid (item_in pages e.tid)) (sym sweeps.pages) done)
    marking

pub reap_leaves_marking : (old new : Store) (tid : Tid) (mark : Marking) → Reaps old new tid → IsMarking old mark → IsMarking new mark
reap_leaves_marking old new tid mark reaps marking = same_marking old new mark reaps.entries (λ e held of_walk. ap (λ pages. item_in pages e.tid) reaps.pages ∙ chunk_of-reaped old.rel.pages tid e.tid reaps.dead) marking

pub pin_leaves_marking : (old new : Store) (mark : Marking) → Pins old new → IsMarking old mark → IsMarking new mark
pin_leaves_marking old new mark pins marking = same_marking old new mark pins.entries (λ e held of_walk. ap (λ pages. item_in pages e.tid) pins.pages) marking
