-- What one step of a save, of a job of pieces, of a fetch or of a mark is to all other sessions.
use Rattle.std.proofs.Common.{ℕ, ◌≡◌, ◌≢◌, ◌+◌, Bool, true, false, cond, nat_lt, Option, Some, None, List, length, Contains, refl, sym, ap, ap₂, ◌∙◌, subst}
use Rattle.std.specs.Prelude.{is_some}
use Rattle.std.proofs.lemmas.Option.{none-some}
use Rattle.std.proofs.lemmas.List.Elements.{Contains-append_left}
use Rattle.slot_page.specs.Pages.{item_in}
use Rattle.slice_fetch.specs.Spans.{piece}
use Rattle.chunk_relation.specs.declared.chunk.Chunk.{Chunk}
use Rattle.chunk_relation.specs.Chunks.{new_chunk}
use Rattle.chunk_relation.specs.Relations.{Relation, with_ended}
use Rattle.chunk_index.specs.declared.entry.Entry.{Entry}
use Rattle.chunk_index.specs.Pinned.{pin_of, without_pin}
use Rattle.chunk_index.specs.Indexes.{Index}
use Rattle.value_ids.specs.declared.pool.InHand.{InHand}
use Rattle.value_ids.specs.Ids.{Pool}
use Rattle.toast_store.specs.Stores.{Store, IsStore}
use Rattle.toast_store.specs.Walks.{Walking, CanStep, IsBatchHeld, MayAsk, entry_at, index_after, index_walked, wanted_by}
use Rattle.toast_store.specs.declared.walk.WalkStage.{WalkStage}
use Rattle.toast_store.specs.declared.walk.WalkStage.TheVariants.{Empty, Asking, Reading, Over}
use Rattle.toast_store.specs.declared.piece_job.PieceStage.{PieceStage}
use Rattle.toast_store.specs.declared.piece_job.PieceStage.TheVariants as pieces
use Rattle.toast_store.specs.PieceJobs as jobs
use Rattle.toast_store.specs.PieceJobs.{Piecing, PiecesStand, PiecesStandAt, PiecesStep, tuple_size}
use Rattle.toast_store.specs.Saves.{Saving, Stage, Drawing, Laying, Parts, SaveStands, SaveSteps, StandsAt, IsIndexAfter, held_by, id_of, ids_after, pieces_of, rel_after}
use Rattle.toast_store.specs.Fetches.{Fetching, FetchFails, FetchSteps, store_after_fault}
use Rattle.toast_store.specs.declared.fetch.FetchStep.{FetchStep}
use Rattle.toast_store.specs.declared.fault.FetchFault.{FetchFault}
use Rattle.toast_store.specs.declared.fault.FetchFault.TheVariants.{MissingChunk, UnexpectedChunk, ChunkSize, Memory}
use Rattle.toast_store.specs.Marks.{Marking, MarkSteps, marked}
use Rattle.toast_store.specs.declared.mark.MarkStep.{MarkStep}
use Rattle.toast_store.specs.declared.save.SaveStep.{SaveStep}
use Rattle.toast_store.specs.Between.{LeavesPieces, Adds, Ends, Pins, Puts}
use Rattle.toast_store.specs.Others.{LeavesOthers, LeavesReaders}
use Rattle.toast_store.proofs.Kept.{add_leaves, add_leaves_unnamed, end_keeps_whole, end_leaves, end_leaves_unnamed, id_named, pieces_kept, pin_leaves, pin_leaves_unnamed, put_leaves, put_leaves_unnamed, whole_kept}
use Rattle.toast_store.proofs.Ahead.{add_leaves_ahead, end_keeps_outcome, outcome_left, pin_leaves_ahead, put_leaves_ahead}
use Rattle.toast_store.proofs.Marked.{add_leaves_marking, end_leaves_marking, pin_leaves_marking, put_leaves_marking}
use Rattle.toast_store.proofs.Held.{add_keeps_batch, batch_named, taken_left}
use Rattle.toast_store.proofs.Walked.{batch_leaves_step, can_still, entries_walked, unpin_leaves_step}

-- ---- joining
-- a store that stays
others_same : (own : Option ℕ) (session : ℕ) (old new : Store) → new ≡ old → LeavesOthers own session old new
others_same own session old new same = subst (LeavesOthers own session old) (sym same) (record {
  values = λ id other. refl;
  pieces = λ job other stands. stands;
  fetches = λ fetch other held. refl;
  marks = λ mark other marking. marking;
  batches = λ walk held. held;
  walks = λ walk other can. can;
})

-- a step under no id leaves what one under any id does
under_none : (own : Option ℕ) (session : ℕ) (old new : Store) → LeavesOthers None session old new → LeavesOthers own session old new
under_none own session old new left = record {
  values = λ id other. left.values id (none-some id);
  pieces = λ job other stands. left.pieces job (none-some job.value_id) stands;
  fetches = λ fetch other held. left.fetches fetch (none-some fetch.walk.value_id) held;
  marks = λ mark other marking. left.marks mark (none-some mark.walk.value_id) marking;
  batches = left.batches;
  walks = left.walks;
}

-- one after another
others_then : (own : Option ℕ) (session : ℕ) (old half new : Store) → LeavesOthers own session old half → LeavesOthers own session half new → LeavesOthers own session old new
others_then own session old half new first second = record {
  values = λ id other. second.values id other ∙ first.values id other;
  pieces = λ job other stands. second.pieces job other (first.pieces job other stands);
  fetches = λ fetch other held. second.fetches fetch other (first.batches fetch.walk held) ∙ first.fetches fetch other held;
  marks = λ mark other marking. second.marks mark other (first.marks mark other marking);
  batches = λ walk held. second.batches walk (first.batches walk held);
  walks = λ walk other can. second.walks walk other (first.walks walk other can);
}

-- with the same entries each batch stands as it did
same_entries : (old new : Store) → new.index.entries ≡ old.index.entries → (walk : Walking) → IsBatchHeld old.index.entries walk → IsBatchHeld new.index.entries walk
same_entries old new same walk held = subst (λ (es : List Entry). IsBatchHeld es walk) (sym same) held

-- ---- the events
put_to_others : (old new : Store) (size : ℕ) (chunk : Chunk) (session : ℕ) → IsStore old → Puts old new size chunk → new.index ≡ old.index → LeavesOthers None session old new
put_to_others old new size chunk session is puts index = record {
  values = λ id other. put_leaves old new size chunk id is puts;
  pieces = λ job other stands. pieces_kept old new job job.stage (by_stage job job.stage stands) stands;
  fetches = λ fetch other held. outcome_left old new fetch (put_leaves_ahead old new size chunk fetch.walk is (batch_named old fetch.walk is held) puts);
  marks = λ mark other marking. put_leaves_marking old new size chunk mark is puts marking;
  batches = same_entries old new puts.entries;
  walks = λ walk other can. subst (λ (i : Index). CanStep i walk) (sym index) can;
}
  where
    by_stage : (job : Piecing) (at : PieceStage) → PiecesStandAt old job at → LeavesPieces job.value_id old new at
    by_stage job (pieces.Putting seq) stands = put_leaves old new size chunk job.value_id is puts
    by_stage job (pieces.Indexing seq tid) stands = (put_leaves old new size chunk job.value_id is puts, put_leaves_unnamed old new size chunk tid _ puts stands.1.there)
    by_stage job pieces.Over stands = put_leaves old new size chunk job.value_id is puts

add_to_others : (old new : Store) (e : Entry) (session : ℕ) → Adds old new e → new.index.pins ≡ old.index.pins → LeavesOthers (Some e.value_id) session old new
add_to_others old new e session adds pins = record {
  values = λ id other. add_leaves old new e id adds (differs id other);
  pieces = λ job other stands. pieces_kept old new job job.stage (by_stage job (differs job.value_id other) job.stage stands) stands;
  fetches = λ fetch other held. outcome_left old new fetch (add_leaves_ahead old new e fetch.walk adds (differs fetch.walk.value_id other));
  marks = λ mark other marking. add_leaves_marking old new e mark adds (differs mark.walk.value_id other) marking;
  batches = λ walk held. add_keeps_batch old new e walk adds held;
  walks = λ walk other can. can_still old.index new.index walk (ap (λ ps. pin_of ps walk.session) pins) can;
}
  where
    differs : (id : ℕ) → Some e.value_id ≢ Some id → e.value_id ≢ id
    differs id other = λ same. other (ap (λ (k : ℕ). Some k) same)

    by_stage : (job : Piecing) → e.value_id ≢ job.value_id → (at : PieceStage) → PiecesStandAt old job at → LeavesPieces job.value_id old new at
    by_stage job other (pieces.Putting seq) stands = add_leaves old new e job.value_id adds other
    by_stage job other (pieces.Indexing seq tid) stands = (add_leaves old new e job.value_id adds other, add_leaves_unnamed old new e tid (new_chunk job.value_id seq job.xid (piece job.value seq)) adds stands.1.there other)
    by_stage job other pieces.Over stands = add_leaves old new e job.value_id adds other

-- the chunk of an entry is ended
end_to_others : (old new : Store) (e : Entry) (xid value_id session : ℕ) → IsStore old → Contains old.index.entries e → e.value_id ≡ value_id → Ends old new e.tid xid → new.index ≡ old.index → LeavesOthers (Some value_id) session old new
end_to_others old new e xid value_id session is held of_value ends index = record {
  values = λ id other. end_leaves old new e.tid xid id is ends (differs id other);
  pieces = λ job other stands. pieces_kept old new job job.stage (by_stage job (differs job.value_id other) job.stage stands) stands;
  fetches = λ fetch other left. end_keeps_outcome old new e.tid xid fetch ends;
  marks = λ mark other marking. end_leaves_marking old new e.tid xid mark is ends (differs mark.walk.value_id other) marking;
  batches = same_entries old new ends.entries;
  walks = λ walk other can. subst (λ (i : Index). CanStep i walk) (sym index) can;
}
  where
    differs : (id : ℕ) → Some value_id ≢ Some id → (chunk : Chunk) → item_in old.rel.pages e.tid ≡ Some chunk → chunk.value_id ≢ id
    differs id other chunk there = λ same. other (ap (λ (k : ℕ). Some k) (sym of_value ∙ sym (id_named old e chunk is held there) ∙ same))

    by_stage : (job : Piecing) → ((chunk : Chunk) → item_in old.rel.pages e.tid ≡ Some chunk → chunk.value_id ≢ job.value_id) → (at : PieceStage) → PiecesStandAt old job at → LeavesPieces job.value_id old new at
    by_stage job other (pieces.Putting seq) stands = end_leaves old new e.tid xid job.value_id is ends other
    by_stage job other (pieces.Indexing seq tid) stands = (end_leaves old new e.tid xid job.value_id is ends other, end_leaves_unnamed old new e.tid tid xid ends (λ same. stands.1.unnamed.by_none e held (sym same)))
    by_stage job other pieces.Over stands = end_leaves old new e.tid xid job.value_id is ends other

-- only pins change
pin_to_others : (old new : Store) (session : ℕ) → Pins old new → ((walk : Walking) → walk.session ≢ session → CanStep old.index walk → CanStep new.index walk) → LeavesOthers None session old new
pin_to_others old new session pins walks = record {
  values = λ id other. pin_leaves old new id pins;
  pieces = λ job other stands. pieces_kept old new job job.stage (by_stage job job.stage) stands;
  fetches = λ fetch other held. outcome_left old new fetch (pin_leaves_ahead old new fetch.walk pins);
  marks = λ mark other marking. pin_leaves_marking old new mark pins marking;
  batches = same_entries old new pins.entries;
  walks = walks;
}
  where
    by_stage : (job : Piecing) (at : PieceStage) → LeavesPieces job.value_id old new at
    by_stage job (pieces.Putting seq) = pin_leaves old new job.value_id pins
    by_stage job (pieces.Indexing seq tid) = (pin_leaves old new job.value_id pins, pin_leaves_unnamed old new tid pins)
    by_stage job pieces.Over = pin_leaves old new job.value_id pins

-- a walk that goes on leaves the walks of others able to
walked_leaves_step : (index : Index) (mine walk : Walking) → CanStep index mine → walk.session ≢ mine.session → CanStep index walk → CanStep (index_walked index mine) walk
walked_leaves_step index mine walk may other can = by_stage mine.stage may.1
  where
    by_test : (b : Bool) → CanStep (cond b index (record index { pins = without_pin index.pins mine.session })) walk
    by_test true = can
    by_test false = unpin_leaves_step index mine.session walk other can

    by_stage : (s : WalkStage) → MayAsk index mine.session s → CanStep (index_after index mine s) walk
    by_stage Empty m = can
    by_stage (Asking after) m = batch_leaves_step index mine.session (wanted_by mine after index.entries) walk m other can
    by_stage (Reading batch at) m = by_test (nat_lt (at + 1) (length batch.entries))
    by_stage Over m = can

-- its step changes pins alone
walk_pins : (old new : Store) (mine : Walking) → new.rel ≡ old.rel → new.index ≡ index_walked old.index mine → Pins old new
walk_pins old new mine rel index = record { pages = ap (λ (r : Relation). r.pages) rel; entries = ap (λ (i : Index). i.entries) index ∙ entries_walked old.index mine }

walk_to_others : (old new : Store) (mine : Walking) → CanStep old.index mine → new.rel ≡ old.rel → new.index ≡ index_walked old.index mine → LeavesOthers None mine.session old new
walk_to_others old new mine may rel index = pin_to_others old new mine.session (walk_pins old new mine rel index) (λ walk other can. subst (λ (i : Index). CanStep i walk) (sym index) (walked_leaves_step old.index mine walk may other can))

-- ---- a job of pieces, and a save
laid_to_others : (old new : Store) (job : Piecing) (session : ℕ) (at : PieceStage) → IsStore old → PiecesStandAt old job at → new.rel ≡ jobs.rel_after old.rel job at → jobs.IsIndexAfter job.value_id at old.index new.index → LeavesOthers (Some job.value_id) session old new
laid_to_others old new job session (pieces.Putting seq) is stands rel index =
    under_none (Some job.value_id) session old new
    (put_to_others old new (tuple_size job.value seq) (new_chunk job.value_id seq job.xid (piece job.value seq)) session is (record { pages = ap (λ (r : Relation). r.pages) rel; entries = ap (λ (i : Index). i.entries) index }) index)
laid_to_others old new job session (pieces.Indexing seq tid) is stands rel index =
    add_to_others old new (record { value_id = job.value_id; seq = seq; tid = tid }) session (record {
      names = (new_chunk job.value_id seq job.xid (piece job.value seq), stands.1.there, refl, refl);
      pages = ap (λ (r : Relation). r.pages) rel;
      entries = index.entries;
    }) index.pins
laid_to_others old new job session pieces.Over is stands rel index = others_same (Some job.value_id) session old new (ap₂ (λ (r : Relation) (i : Index). record { rel = r; index = i }) rel index)

-- a step of a job of pieces
pub pieces_step_leaves : (old : Store) (before : Piecing) (new : Store) (after : Piecing) (session : ℕ) → IsStore old → PiecesStand old before → PiecesStep old before new after → LeavesOthers (Some before.value_id) session old new
pieces_step_leaves old before new after session is stands step = laid_to_others old new before session before.stage is stands step.rel step.index

-- a step of a save
pub save_step_leaves : (old : Parts) (before : Saving) (new : Parts) (after : Saving) (step : SaveStep) → IsStore old.store → SaveStands old.store old.ids before → SaveSteps old before new after step → LeavesOthers (id_of before.stage) before.session old.store new.store
save_step_leaves old before new after step is stands steps = by_stage before.stage stands steps.rel steps.index
  where
    by_stage : (s : Stage) → StandsAt old.store old.ids before s → new.store.rel ≡ rel_after old.store.rel before s → IsIndexAfter s old.store.index new.store.index → LeavesOthers (id_of s) before.session old.store new.store
    by_stage Drawing h rel index = others_same None before.session old.store new.store (ap₂ (λ (r : Relation) (i : Index). record { rel = r; index = i }) rel index)
    by_stage (Laying value_id at) h rel index = laid_to_others old.store new.store (pieces_of before value_id at) before.session at is h.pieces rel index

-- it leaves each id in hand
pub save_step_holds : (old : Parts) (before : Saving) (new : Parts) (after : Saving) (step : SaveStep) → SaveSteps old before new after step → (held : InHand) → Contains old.ids.in_hand held → Contains new.ids.in_hand held
save_step_holds old before new after step steps held there = subst (λ (p : Pool). Contains p.in_hand held) (sym steps.ids) (by_stage before.stage)
  where
    by_stage : (s : Stage) → Contains (Pool.in_hand (ids_after old.store old.ids before s)) held
    by_stage Drawing = Contains-append_left old.ids.in_hand _ held there
    by_stage (Laying value_id at) = there

-- who leaves the others leaves what the save of one of them relies on, with its id in hand
pub save_left : (old new : Store) (ids later : Pool) (own : Option ℕ) (session : ℕ) (other : Saving) → LeavesOthers own session old new → ((held : InHand) → Contains ids.in_hand held → Contains later.in_hand held)
    → ((value_id : ℕ) → id_of other.stage ≡ Some value_id → own ≢ Some value_id) → SaveStands old ids other → SaveStands new later other
save_left old new ids later own session other left holds apart stands = by_stage other.stage apart stands
  where
    by_stage : (s : Stage) → ((value_id : ℕ) → id_of s ≡ Some value_id → own ≢ Some value_id) → StandsAt old ids other s → StandsAt new later other s
    by_stage Drawing differ h = tt
    by_stage (Laying value_id at) differ h = record { in_hand = holds (held_by other value_id) h.in_hand; pieces = left.pieces (pieces_of other value_id at) (differ value_id refl) h.pieces }

-- so what another save relies on is left, whose id is another
pub save_step_keeps : (old : Parts) (before : Saving) (new : Parts) (after : Saving) (step : SaveStep) (other : Saving) → IsStore old.store → SaveStands old.store old.ids before → SaveSteps old before new after step
    → ((value_id : ℕ) → id_of other.stage ≡ Some value_id → id_of before.stage ≢ Some value_id) → SaveStands old.store old.ids other → SaveStands new.store new.ids other
save_step_keeps old before new after step other is stands steps apart others =
    save_left old.store new.store old.ids new.ids (id_of before.stage) before.session other (save_step_leaves old before new after step is stands steps) (save_step_holds old before new after step steps) apart others

-- ---- a fetch
pub fetch_step_leaves : (old : Store) (before : Fetching) (new : Store) (after : Fetching) (step : FetchStep) → CanStep old.index before.walk → FetchSteps old before new after step → LeavesOthers None before.walk.session old new
fetch_step_leaves old before new after step may steps = walk_to_others old new before.walk may (ap (λ (s : Store). s.rel) steps.store) (ap (λ (s : Store). s.index) steps.store)

-- one that ends in a fault
pub fetch_fault_leaves : (old : Store) (before : Fetching) (new : Store) (after : Fetching) (fault : FetchFault) → FetchFails old before new after fault → LeavesOthers None before.walk.session old new
fetch_fault_leaves old before new after fault fails = subst (LeavesOthers None session old) (sym fails.store) (by_fault fault)
  where
    session : ℕ
    session = before.walk.session

    dropped : LeavesOthers None before.walk.session old (record old { index = record old.index { pins = without_pin old.index.pins before.walk.session } })
    dropped = pin_to_others old (record old { index = record old.index { pins = without_pin old.index.pins before.walk.session } }) before.walk.session (record { pages = refl; entries = refl }) (λ walk other can. unpin_leaves_step old.index before.walk.session walk other can)

    by_fault : (f : FetchFault) → LeavesOthers None before.walk.session old (store_after_fault old before.walk.session f)
    by_fault (MissingChunk seq) = dropped
    by_fault (UnexpectedChunk got wanted) = dropped
    by_fault (ChunkSize got wanted) = dropped
    by_fault Memory = others_same None before.walk.session old old refl

-- readers see no fetch
pins_to_readers : (old new : Store) → Pins old new → LeavesReaders old new
pins_to_readers old new pins = record {
  whole = λ pointer value whole. whole_kept old new pointer value (pin_leaves old new pointer.value_id pins) whole;
  fetches = λ fetch. outcome_left old new fetch (pin_leaves_ahead old new fetch.walk pins);
}

pub fetch_step_readers : (old : Store) (before : Fetching) (new : Store) (after : Fetching) (step : FetchStep) → FetchSteps old before new after step → LeavesReaders old new
fetch_step_readers old before new after step steps = pins_to_readers old new (walk_pins old new before.walk (ap (λ (s : Store). s.rel) steps.store) (ap (λ (s : Store). s.index) steps.store))

-- ---- a mark
-- the store once the chunk of an entry is ended, if there is one
abbrev ended_at : Store → ℕ → Option Entry → Store
ended_at store xid o = record store { rel = record store.rel { pages = marked xid store.rel.pages o } }

end_at_to_others : (old : Store) (xid value_id session : ℕ) (o : Option Entry) → IsStore old → ((e : Entry) → o ≡ Some e → Contains old.index.entries e × (e.value_id ≡ value_id)) → LeavesOthers (Some value_id) session old (ended_at old xid o)
end_at_to_others old xid value_id session None is named = others_same (Some value_id) session old old refl
end_at_to_others old xid value_id session (Some e) is named = by_test (is_some (item_in old.rel.pages e.tid))
  where
    by_test : (b : Bool) → LeavesOthers (Some value_id) session old (record old { rel = record old.rel { pages = cond b (with_ended xid old.rel.pages e.tid) old.rel.pages } })
    by_test true = let is_own = named e refl in end_to_others old (record old { rel = record old.rel { pages = with_ended xid old.rel.pages e.tid } }) e xid value_id session is is_own.0 is_own.1 (record { pages = refl; entries = refl }) refl
    by_test false = others_same (Some value_id) session old old refl

-- a step of a mark
pub mark_step_leaves : (old : Store) (before : Marking) (new : Store) (after : Marking) (step : MarkStep) → IsStore old → CanStep old.index before.walk → IsBatchHeld old.index.entries before.walk → MarkSteps old before new after step → LeavesOthers (Some before.walk.value_id) before.walk.session old new
mark_step_leaves old before new after step is may held steps =
    let o = entry_at before.walk.stage in
    let half = ended_at old before.xid o in
    others_then (Some before.walk.value_id) before.walk.session old half new
    (end_at_to_others old before.xid before.walk.value_id before.walk.session o is (λ e at. let left = taken_left e before.walk.stage at in (held.stands e left, (held.of_walk e left).of_value)))
    (under_none (Some before.walk.value_id) before.walk.session half new (walk_to_others half new before.walk may (ap (λ (s : Store). s.rel) steps.store) (ap (λ (s : Store). s.index) steps.store)))

-- readers of whichever value, of the marked one too, see nothing of it
end_at_to_readers : (old : Store) (xid : ℕ) (o : Option Entry) → LeavesReaders old (ended_at old xid o)
end_at_to_readers old xid None = record { whole = λ pointer value whole. whole; fetches = λ fetch. refl }
end_at_to_readers old xid (Some e) = by_test (is_some (item_in old.rel.pages e.tid))
  where
    by_test : (b : Bool) → LeavesReaders old (record old { rel = record old.rel { pages = cond b (with_ended xid old.rel.pages e.tid) old.rel.pages } })
    by_test true =
        let new = record old { rel = record old.rel { pages = with_ended xid old.rel.pages e.tid } } in
        let ends : Ends old new e.tid xid = record { pages = refl; entries = refl } in
        record { whole = λ pointer value whole. end_keeps_whole old new e.tid xid pointer value ends whole; fetches = λ fetch. end_keeps_outcome old new e.tid xid fetch ends }
    by_test false = record { whole = λ pointer value whole. whole; fetches = λ fetch. refl }

pub mark_step_readers : (old : Store) (before : Marking) (new : Store) (after : Marking) (step : MarkStep) → MarkSteps old before new after step → LeavesReaders old new
mark_step_readers old before new after step steps =
    let half = ended_at old before.xid (entry_at before.walk.stage) in
    let first = end_at_to_readers old before.xid (entry_at before.walk.stage) in
    let second = pins_to_readers half new (walk_pins half new before.walk (ap (λ (s : Store). s.rel) steps.store) (ap (λ (s : Store). s.index) steps.store)) in
    record {
      whole = λ pointer value whole. second.whole pointer value (first.whole pointer value whole);
      fetches = λ fetch. second.fetches fetch ∙ first.fetches fetch;
    }
