-- That a mark ends the chunk of each entry of its value.
use Rattle.std.proofs.Common.{◌≡◌, ℕ, ◌-◌, ◌⊎◌, inl, inr, Bool, true, false, cond, nat_lt, Option, Some, None, List, Contains, refl, sym, ap, ◌∙◌, subst, arith}
use Rattle.std.specs.Prelude.{is_some}
use Rattle.std.proofs.lemmas.Bool.{lt-ltb}
use Rattle.std.proofs.lemmas.Option.{none-some}
use Rattle.list_facts.proofs.Members.{cases_in}
use Rattle.slot_page.specs.declared.line.Tid.{Tid}
use Rattle.slot_page.specs.declared.line.LinePointer.{LinePointer}
use Rattle.slot_page.specs.declared.line.LinePointer.TheVariants.{Normal, Dead, Unused}
use Rattle.slot_page.specs.Slots.{item_of, is_unused}
use Rattle.slot_page.specs.Pages.{slot_of, item_in}
use Rattle.chunk_relation.specs.declared.chunk.Chunk.{Chunk}
use Rattle.chunk_relation.specs.Chunks.{ended}
use Rattle.chunk_relation.specs.Relations.{Pages, with_ended}
use Rattle.chunk_relation.proofs.Events.{chunk_of-ended}
use Rattle.slot_page.proofs.Pages.{written_here}
use Rattle.chunk_index.specs.declared.entry.Entry.{Entry}
use Rattle.chunk_index.specs.Indexes.{Index, IsIndex}
use Rattle.chunk_index.proofs.Batches.{are_wanted}
use Rattle.toast_store.specs.Stores.{Store}
use Rattle.toast_store.specs.Walks.{Walking, IsOfWalk, IsUnderWay, IsAsking, ahead, ahead_at, entry_at, index_walked, walk_after, new_walk}
use Rattle.toast_store.specs.declared.walk.WalkStage.{WalkStage}
use Rattle.toast_store.specs.declared.walk.WalkStage.TheVariants.{Empty, Asking}
use Rattle.toast_store.specs.Marks.{Marking, IsEnded, IsMarking, marked, store_marked}
use Rattle.toast_store.proofs.Walked.{ahead_asked, ahead_taken, entries_walked}

-- a slot has an ended chunk, or none
ended_item : (xid : ℕ) (line : LinePointer Chunk) → IsEnded xid (item_of (ended xid line))
ended_item xid (Normal size chunk) = refl
ended_item xid Dead = tt
ended_item xid Unused = tt

-- the chunk that an entry names is ended by a step that takes it
marked_here : (xid : ℕ) (pages : Pages) (e : Entry) → IsEnded xid (item_in (marked xid pages (Some e)) e.tid)
marked_here xid pages e = by_line (slot_of pages e.tid) refl
  where
    by_line : (line : LinePointer Chunk) → slot_of pages e.tid ≡ line → IsEnded xid (item_in (cond (is_some (item_of line)) (with_ended xid pages e.tid) pages) e.tid)
    by_line (Normal size chunk) there = subst (λ l. IsEnded xid (item_of l)) (sym (written_here pages e.tid (ended xid (slot_of pages e.tid)) (ap is_unused there))) (ended_item xid (slot_of pages e.tid))
    by_line Dead there = rw there tt
    by_line Unused there = rw there tt

-- and one that is ended stays so
marked_stays : (xid : ℕ) (pages : Pages) (o : Option Entry) (t : Tid) → IsEnded xid (item_in pages t) → IsEnded xid (item_in (marked xid pages o) t)
marked_stays xid pages None t is = is
marked_stays xid pages (Some e) t is = by_test (is_some (item_in pages e.tid))
  where
    by_test : (b : Bool) → IsEnded xid (item_in (cond b (with_ended xid pages e.tid) pages) t)
    by_test false = is
    by_test true = elim (chunk_of-ended xid pages e.tid t) [
      | inl same ↦ subst (IsEnded xid) (sym same) is
      | inr here ↦ subst (IsEnded xid) (sym here.1) (ended_item xid (slot_of pages e.tid))
    ]

-- a mark begins with each entry of its value ahead
pub marking_new : (value_id end xid session : ℕ) (store : Store) → IsMarking store (record { xid = xid; walk = new_walk value_id 0 end session })
marking_new value_id end xid session store = record {
  each = λ e held of_walk.
      let some : nat_lt 0 end ≡ true = lt-ltb 0 end (omega (arith, of_walk.before_end)) in
      let wanted = are_wanted value_id 0 (end - 1) None store.index.entries e (record { there = held; of_value = of_walk.of_value; from_number = of_walk.from_first; to_number = omega (arith, of_walk.before_end); beyond = refl }) in
      inl (subst (λ (b : Bool). Contains (ahead_at (new_walk value_id 0 end session) store.index.entries (cond b (Asking None) Empty)) e) (sym some) wanted);
}

-- the entries of a walk are the same wherever it is
of_walk_before : (walk : Walking) (stage : WalkStage) (e : Entry) → IsOfWalk (record walk { stage = stage }) e → IsOfWalk walk e
of_walk_before walk stage e is = record { of_value = is.of_value; from_first = is.from_first; before_end = is.before_end }

-- a step leaves each entry ahead, or its chunk ended
marking_kept : (store : Store) (mark : Marking) → IsIndex store.index → IsUnderWay mark.walk.stage → (IsUnderWay mark.walk.stage → entry_at mark.walk.stage ≡ None → IsAsking mark.walk.stage)
    → IsMarking store mark → IsMarking (store_marked store mark) (record mark { walk = walk_after store.index mark.walk })
marking_kept store mark is under_way asking marking = record {
  each = λ e held of_walk. by_entry e (entry_at mark.walk.stage) refl (marking.each e (subst (λ (es : List Entry). Contains es e) (entries_walked store.index mark.walk) held) (of_walk_before mark.walk _ e of_walk));
}
  where
    by_entry : (e : Entry) (o : Option Entry) → entry_at mark.walk.stage ≡ o → Contains (ahead store.index.entries mark.walk) e ⊎ IsEnded mark.xid (item_in store.rel.pages e.tid)
        → Contains (ahead (Index.entries (index_walked store.index mark.walk)) (walk_after store.index mark.walk)) e ⊎ IsEnded mark.xid (item_in (marked mark.xid store.rel.pages (entry_at mark.walk.stage)) e.tid)
    by_entry e o at (inr done) = inr (marked_stays mark.xid store.rel.pages (entry_at mark.walk.stage) e.tid done)
    by_entry e None at (inl later) = inl (subst (λ (es : List Entry). Contains es e) (sym (ahead_asked store.index mark.walk is (asking under_way at))) later)
    by_entry e (Some f) at (inl later) = elim (cases_in f (ahead (Index.entries (index_walked store.index mark.walk)) (walk_after store.index mark.walk)) e (subst (λ (es : List Entry). Contains es e) (ahead_taken store.index mark.walk f at) later)) [
      | inl same ↦ inr (subst (λ (g : Entry). IsEnded mark.xid (item_in (marked mark.xid store.rel.pages (entry_at mark.walk.stage)) g.tid)) same (subst (λ (x : Option Entry). IsEnded mark.xid (item_in (marked mark.xid store.rel.pages x) f.tid)) (sym at) (marked_here mark.xid store.rel.pages f)))
      | inr rest ↦ inl rest
    ]

-- the same of a step that takes an entry, part by part
pub marking_taken : (store half later : Store) (opened mark : Marking) (e : Entry) (walk : Walking) → opened ≡ mark → Some e ≡ entry_at opened.walk.stage → IsIndex store.index → IsUnderWay mark.walk.stage
    → half ≡ record store { rel = record store.rel { pages = marked opened.xid store.rel.pages (Some e) } } → walk ≡ walk_after half.index opened.walk → later ≡ record half { index = index_walked half.index opened.walk }
    → IsMarking store mark → IsMarking later (record opened { walk = walk })
marking_taken store half later opened mark e walk same at is under_way halves walks stores marking =
    let later_is : later ≡ store_marked store opened =
    stores ∙ ap (λ (h : Store). record h { index = index_walked h.index opened.walk }) halves
    ∙ ap (λ o. record store { rel = record store.rel { pages = marked opened.xid store.rel.pages o }; index = index_walked store.index opened.walk }) at in
    let walk_is : walk ≡ walk_after store.index opened.walk = walks ∙ ap (λ (h : Store). walk_after h.index opened.walk) halves in
    let kept = marking_kept store opened is (subst (λ (m : Marking). IsUnderWay m.walk.stage) (sym same) under_way) (λ u none. absurd (none-some e (sym none ∙ sym at))) (subst (IsMarking store) (sym same) marking) in
    subst (λ (s : Store). IsMarking s (record opened { walk = walk })) (sym later_is) (subst (λ (w : Walking). IsMarking (store_marked store opened) (record opened { walk = w })) (sym walk_is) kept)

-- and of one that takes none
pub marking_asked : (store later : Store) (opened mark : Marking) (walk : Walking) → opened ≡ mark → None ≡ entry_at opened.walk.stage → IsIndex store.index → IsUnderWay mark.walk.stage → (IsUnderWay opened.walk.stage → IsAsking opened.walk.stage)
    → walk ≡ walk_after store.index opened.walk → later ≡ record store { index = index_walked store.index opened.walk } → IsMarking store mark → IsMarking later (record opened { walk = walk })
marking_asked store later opened mark walk same at is under_way asking walks stores marking =
    let later_is : later ≡ store_marked store opened = stores ∙ ap (λ o. record store { rel = record store.rel { pages = marked opened.xid store.rel.pages o }; index = index_walked store.index opened.walk }) at in
    let kept = marking_kept store opened is (subst (λ (m : Marking). IsUnderWay m.walk.stage) (sym same) under_way) (λ u none. asking u) (subst (IsMarking store) (sym same) marking) in
    subst (λ (s : Store). IsMarking s (record opened { walk = walk })) (sym later_is) (subst (λ (w : Walking). IsMarking (store_marked store opened) (record opened { walk = w })) (sym walks) kept)
