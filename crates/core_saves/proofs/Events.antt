-- What a step of a write's save or mark is to other sessions, by its stage.
use Rattle.std.proofs.Common.{Bool, Contains, List, None, Some, ap, ap₂, arith, cond, drop, false, length, min, nat_lt, refl, subst, sym, true, ℕ, ◌*◌, ◌+◌, ◌-◌, ◌<◌, ◌∙◌, ◌≡◌, ◌≢◌, ◌≤◌}
use Rattle.std.proofs.lemmas.Bool.Decides.{nat_tests}
use Rattle.std.proofs.lemmas.List.{length-drop, length-take}
use Rattle.std.specs.Prelude.{Option, is_some}
use Rattle.slot_page.specs.Pages.{item_in, put_tid, slot_of, with_put_on}
use Rattle.slot_page.specs.Slots.{item_of}
use Rattle.slot_page.specs.declared.line.LinePointer.TheVariants.{Dead, Normal, Unused}
use Rattle.slot_page.specs.declared.line.LinePointer.{LinePointer}
use Rattle.slot_page.specs.declared.line.Tid.{Tid}
use Rattle.slice_fetch.specs.Spans.{chunk_size, piece}
use Rattle.chunk_relation.specs.Relations.{with_ended}
use Rattle.chunk_relation.specs.declared.chunk.Chunk.{Chunk}
use Rattle.chunk_index.proofs.PinFacts.{pin_of-batch, pin_of-without}
use Rattle.chunk_index.specs.Indexes.{Index}
use Rattle.chunk_index.specs.Pinned.{pin_of, without_pin}
use Rattle.chunk_index.specs.declared.entry.Entry.{Entry}
use Rattle.chunk_index.specs.declared.entry.Pin.{Pin}
use Rattle.value_ids.specs.Ids.{Pool}
use Rattle.toast_store.proofs.Ahead.{end_keeps_outcome, outcome_left, pin_leaves_ahead}
use Rattle.toast_store.proofs.Held.{taken_left}
use Rattle.toast_store.proofs.Kept.{end_leaves, end_leaves_unnamed, id_named, pieces_kept, pin_leaves, pin_leaves_unnamed}
use Rattle.toast_store.proofs.Laying.{index_step, put_step, stands_put}
use Rattle.toast_store.proofs.Marked.{end_leaves_marking, pin_leaves_marking}
use Rattle.toast_store.proofs.Others.{pieces_step_leaves}
use Rattle.toast_store.proofs.ValueIn.{end_keeps_value, value_left}
use Rattle.toast_store.proofs.Walked.{can_still, entries_walked}
use Rattle.toast_store.specs.Between.{Adds, Ends, LeavesPieces, Pins, Puts}
use Rattle.toast_store.specs.Marks.{Marking, marked, store_marked}
use Rattle.toast_store.specs.Others.{LeavesOthers}
use Rattle.toast_store.specs.PieceJobs.{IsWithEntry, PiecesStandAt, Piecing, chunk_of, tuple_size}
use Rattle.toast_store.specs.Saves.{Drawing, IsIndexAfter, IsUnderWay, Laying, Saving, Stage, StandsAt, id_of, pieces_of, rel_after}
use Rattle.toast_store.specs.Stores.{IsPieceSized, IsStore, Store}
use Rattle.toast_store.specs.Values.{piece_count}
use Rattle.toast_store.specs.Walks.{CanStep, IsBatchHeld, MayAsk, Walking, entry_at, index_after, index_walked, wanted_by}
use Rattle.toast_store.specs.declared.piece_job.PieceStage.{PieceStage}
use Rattle.toast_store.specs.declared.walk.WalkStage.{WalkStage}
use Rattle.core_saves.proofs.ToRead.{StepLeaves}
use Rattle.chunk_relation.specs.Relations as chunk_relations
use Rattle.toast_store.specs.declared.piece_job.PieceStage.TheVariants as pieces
use Rattle.toast_store.specs.declared.walk.WalkStage.TheVariants as walks

-- ---- the pieces of a value

-- a piece with bytes is one of the value's
pub piece_within : (value : List ℕ) (seq : ℕ) → 1 ≤ length (piece value seq) → seq < piece_count (length value)
piece_within value seq some =
    let taken : length (piece value seq) ≡ min chunk_size (length (drop (chunk_size * seq) value)) = length-take chunk_size (drop (chunk_size * seq) value) in
    let dropped : length (drop (chunk_size * seq) value) ≡ length value - chunk_size * seq = length-drop (chunk_size * seq) value in
    omega (arith, some, taken, dropped)

-- a chunk that stands in a store has bytes
pub has_bytes : (store : Store) (tid : Tid) (chunk : Chunk) → IsStore store → item_in store.rel.pages tid ≡ Some chunk → 1 ≤ length chunk.bytes
has_bytes store tid chunk is there = by (slot_of store.rel.pages tid) (is.sized tid) there
  where
    by : (line : LinePointer Chunk) → IsPieceSized line → item_of line ≡ Some chunk → 1 ≤ length chunk.bytes
    by (Normal size found) sized e =
        let same : found ≡ chunk = cc in
        subst (λ (c : Chunk). 1 ≤ length c.bytes) same sized.0
    by Dead sized e = absurd (cc)
    by Unused sized e = absurd (cc)

-- the store after a put, as its parts tell it
put_is : (old new : Store) (save : Saving) (value_id seq : ℕ) → new.rel ≡ rel_after old.rel save (Laying value_id (pieces.Putting seq)) → new.index ≡ old.index
    → new ≡ record old { rel = record old.rel { pages = with_put_on (tuple_size save.value seq) (chunk_of (pieces_of save value_id (pieces.Putting seq)) seq) old.rel.pages } }
put_is old new save value_id seq rel index = ap₂ (λ (r : chunk_relations.Relation) (i : Index). record { rel = r; index = i }) rel index

pub put_event : (old new : Store) (save : Saving) (value_id seq : ℕ) → new.rel ≡ rel_after old.rel save (Laying value_id (pieces.Putting seq)) → new.index ≡ old.index
    → Puts old new (tuple_size save.value seq) (chunk_of (pieces_of save value_id (pieces.Putting seq)) seq)
put_event old new save value_id seq rel index = record { pages = ap (λ (r : chunk_relations.Relation). r.pages) rel; entries = ap (λ (i : Index). i.entries) index }

-- so a piece that is put is one of the value's, and so is one that is indexed
pub put_within : (old new : Store) (ids : Pool) (save : Saving) (value_id seq : ℕ) → IsStore old → IsStore new → StandsAt old ids save (Laying value_id (pieces.Putting seq)) → new.rel ≡ rel_after old.rel save (Laying value_id (pieces.Putting seq))
    → new.index ≡ old.index → seq < piece_count (length save.value)
put_within old new ids save value_id seq is made stands rel index =
    let job = pieces_of save value_id (pieces.Putting seq) in
    let put = stands_put old new job seq (put_tid (tuple_size save.value seq) old.rel.pages) is (put_event old new save value_id seq rel index) refl stands.pieces in
    piece_within save.value seq (has_bytes new (put_tid (tuple_size save.value seq) old.rel.pages) (chunk_of job seq) made put.1.there)

pub index_within : (old : Store) (ids : Pool) (save : Saving) (value_id seq : ℕ) (tid : Tid) → IsStore old → StandsAt old ids save (Laying value_id (pieces.Indexing seq tid)) → seq < piece_count (length save.value)
index_within old ids save value_id seq tid is stands = piece_within save.value seq (has_bytes old tid (chunk_of (pieces_of save value_id (pieces.Indexing seq tid)) seq) is stands.pieces.1.there)

pub add_event : (old new : Store) (ids : Pool) (save : Saving) (value_id seq : ℕ) (tid : Tid) → StandsAt old ids save (Laying value_id (pieces.Indexing seq tid)) → new.rel ≡ old.rel
    → IsWithEntry old.index new.index (record { value_id = value_id; seq = seq; tid = tid }) → Adds old new (record { value_id = value_id; seq = seq; tid = tid })
add_event old new ids save value_id seq tid stands rel index = record {
  names = (chunk_of (pieces_of save value_id (pieces.Indexing seq tid)) seq, stands.pieces.1.there, refl, refl);
  pages = ap (λ (r : chunk_relations.Relation). r.pages) rel;
  entries = index.entries;
}

-- ---- a step of a save

-- a store that stays
others_same : (own : Option ℕ) (session : ℕ) (old new : Store) → new ≡ old → LeavesOthers own session old new
others_same own session old new same = subst (LeavesOthers own session old) (sym same) (record {
  values = λ id other. refl;
  pieces = λ job other stands. stands;
  fetches = λ fetch other held. refl;
  marks = λ mark other marking. marking;
  batches = λ walk held. held;
  walks = λ walk other can. can;
})

-- what leaves others leaves all but the id that it is under
by_others : (own : Option ℕ) (s : ℕ) (old new : Store) → LeavesOthers own s old new → ((other : ℕ) → other ≢ s → pin_of new.index.pins other ≡ pin_of old.index.pins other) → StepLeaves own own s old new
by_others own s old new leaves pins = record {
  others = leaves;
  pins = pins;
  values = λ pointer differ. value_left old new pointer (leaves.values pointer.value_id differ);
  fetches = λ fetch differ held. leaves.fetches fetch differ held;
}

pub save_leaves : (old new : Store) (ids : Pool) (save : Saving) (stage : Stage) (s : ℕ) → IsStore old → IsStore new → IsUnderWay stage → StandsAt old ids save stage → new.rel ≡ rel_after old.rel save stage → IsIndexAfter stage old.index new.index
    → StepLeaves (id_of stage) (id_of stage) s old new
save_leaves old new ids save Drawing s is made under stands rel index =
    by_others None s old new (others_same None s old new (ap₂ (λ (r : chunk_relations.Relation) (i : Index). record { rel = r; index = i }) rel index)) (λ other differ. ap (λ (i : Index). pin_of i.pins other) index)
save_leaves old new ids save (Laying value_id (pieces.Putting seq)) s is made under stands rel index =
    let job = pieces_of save value_id (pieces.Putting seq) in
    let within = put_within old new ids save value_id seq is made stands rel index in
    by_others (Some value_id) s old new
    (pieces_step_leaves old job new _ s is stands.pieces (put_step old new job seq (put_tid (tuple_size save.value seq) old.rel.pages) (piece save.value seq) refl refl is (put_is old new save value_id seq rel index) refl within stands.pieces))
    (λ other differ. ap (λ (i : Index). pin_of i.pins other) index)
save_leaves old new ids save (Laying value_id (pieces.Indexing seq tid)) s is made under stands rel index =
    let job = pieces_of save value_id (pieces.Indexing seq tid) in
    let within = index_within old ids save value_id seq tid is stands in
    by_others (Some value_id) s old new
    (pieces_step_leaves old job new _ s is stands.pieces (index_step old new job seq tid refl is rel index within stands.pieces))
    (λ other differ. ap (λ (pins : List Pin). pin_of pins other) index.pins)
save_leaves old new ids save (Laying value_id pieces.Over) s is made under stands rel index = absurd under

-- ---- a step of a mark

-- the store once the chunk of an entry is ended, if there is one
abbrev pub ended_at : Store → ℕ → Option Entry → Store
ended_at store xid o = record store { rel = record store.rel { pages = marked xid store.rel.pages o } }

-- the chunk of an entry is ended: the event of each session's facts
end_leaves_others : (old new : Store) (e : Entry) (xid value_id s : ℕ) → IsStore old → Contains old.index.entries e → e.value_id ≡ value_id → Ends old new e.tid xid → new.index ≡ old.index → StepLeaves (Some value_id) None s old new
end_leaves_others old new e xid value_id s is held of_value ends index = record {
  others = record {
    values = λ id other. end_leaves old new e.tid xid id is ends (differs id other);
    pieces = λ job other stands. pieces_kept old new job job.stage (by_stage job (differs job.value_id other) job.stage stands) stands;
    fetches = λ fetch other left. end_keeps_outcome old new e.tid xid fetch ends;
    marks = λ mark other marking. end_leaves_marking old new e.tid xid mark is ends (differs mark.walk.value_id other) marking;
    batches = λ walk its. subst (λ (entries : List Entry). IsBatchHeld entries walk) (sym ends.entries) its;
    walks = λ walk other can. subst (λ (i : Index). CanStep i walk) (sym index) can;
  };
  pins = λ other differ. ap (λ (i : Index). pin_of i.pins other) index;
  values = λ pointer differ. end_keeps_value old new e.tid xid pointer ends;
  fetches = λ fetch differ its. end_keeps_outcome old new e.tid xid fetch ends;
}
  where
    differs : (id : ℕ) → Some value_id ≢ Some id → (chunk : Chunk) → item_in old.rel.pages e.tid ≡ Some chunk → chunk.value_id ≢ id
    differs id other chunk there = λ same. other (ap (λ (k : ℕ). Some k) (sym of_value ∙ sym (id_named old e chunk is held there) ∙ same))

    by_stage : (job : Piecing) → ((chunk : Chunk) → item_in old.rel.pages e.tid ≡ Some chunk → chunk.value_id ≢ job.value_id) → (at : PieceStage) → PiecesStandAt old job at → LeavesPieces job.value_id old new at
    by_stage job other (pieces.Putting seq) stands = end_leaves old new e.tid xid job.value_id is ends other
    by_stage job other (pieces.Indexing seq tid) stands = (end_leaves old new e.tid xid job.value_id is ends other, end_leaves_unnamed old new e.tid tid xid ends (λ same. stands.1.unnamed.by_none e held (sym same)))
    by_stage job other pieces.Over stands = end_leaves old new e.tid xid job.value_id is ends other

-- a store that stays leaves all
stays_leaves : (own : Option ℕ) (s : ℕ) (store : Store) → StepLeaves own None s store store
stays_leaves own s store = record { others = others_same own s store store refl; pins = λ other differ. refl; values = λ pointer differ. refl; fetches = λ fetch differ held. refl }

-- one step after another
then_leaves : (own : Option ℕ) (s : ℕ) (old half new : Store) → StepLeaves own None s old half → StepLeaves own None s half new → StepLeaves own None s old new
then_leaves own s old half new first second = record {
  others = record {
    values = λ id other. second.others.values id other ∙ first.others.values id other;
    pieces = λ job other stands. second.others.pieces job other (first.others.pieces job other stands);
    fetches = λ fetch other held. second.others.fetches fetch other (first.others.batches fetch.walk held) ∙ first.others.fetches fetch other held;
    marks = λ mark other marking. second.others.marks mark other (first.others.marks mark other marking);
    batches = λ walk held. second.others.batches walk (first.others.batches walk held);
    walks = λ walk other can. second.others.walks walk other (first.others.walks walk other can);
  };
  pins = λ other differ. second.pins other differ ∙ first.pins other differ;
  values = λ pointer differ. second.values pointer differ ∙ first.values pointer differ;
  fetches = λ fetch differ held. second.fetches fetch differ (first.others.batches fetch.walk held) ∙ first.fetches fetch differ held;
}

-- the chunk of the entry that a mark takes, if it takes one that has a chunk
taken_leaves : (old : Store) (xid value_id s : ℕ) (o : Option Entry) → IsStore old → ((e : Entry) → o ≡ Some e → Contains old.index.entries e × (e.value_id ≡ value_id)) → StepLeaves (Some value_id) None s old (ended_at old xid o)
taken_leaves old xid value_id s None is named = stays_leaves (Some value_id) s old
taken_leaves old xid value_id s (Some e) is named = by (is_some (item_in old.rel.pages e.tid))
  where
    by : (b : Bool) → StepLeaves (Some value_id) None s old (record old { rel = record old.rel { pages = cond b (with_ended xid old.rel.pages e.tid) old.rel.pages } })
    by true =
        let own = named e refl in
        end_leaves_others old (record old { rel = record old.rel { pages = with_ended xid old.rel.pages e.tid } }) e xid value_id s is own.0 own.1 (record { pages = refl; entries = refl }) refl
    by false = stays_leaves (Some value_id) s old

-- a batch is asked for, or a pin dropped
pub walk_event : (old : Store) (walk : Walking) → Pins old (record old { index = index_walked old.index walk })
walk_event old walk = record { pages = refl; entries = entries_walked old.index walk }

walk_pins : (index : Index) (walk : Walking) (other : ℕ) → CanStep index walk → other ≢ walk.session → pin_of (Index.pins (index_walked index walk)) other ≡ pin_of index.pins other
walk_pins index walk other can differ = by_stage walk.stage can.1
  where
    dropped : pin_of (without_pin index.pins walk.session) other ≡ pin_of index.pins other
    dropped = pin_of-without index.pins walk.session other ∙ grind (arith, nat_tests, differ)

    by_test : (b : Bool) → pin_of (Index.pins (cond b index (record index { pins = without_pin index.pins walk.session }))) other ≡ pin_of index.pins other
    by_test true = refl
    by_test false = dropped

    by_stage : (stage : WalkStage) → MayAsk index walk.session stage → pin_of (Index.pins (index_after index walk stage)) other ≡ pin_of index.pins other
    by_stage walks.Empty may = refl
    by_stage (walks.Asking after) may = pin_of-batch index walk.session (wanted_by walk after index.entries) other may differ
    by_stage (walks.Reading batch at) may = by_test (nat_lt (at + 1) (length batch.entries))
    by_stage walks.Over may = refl

walk_leaves : (old : Store) (walk : Walking) (own : Option ℕ) → CanStep old.index walk → StepLeaves own None walk.session old (record old { index = index_walked old.index walk })
walk_leaves old walk own can =
    let new : Store = record old { index = index_walked old.index walk } in
    let pins = walk_event old walk in
    record {
      others = record {
        values = λ id other. pin_leaves old new id pins;
        pieces = λ job other stands. pieces_kept old new job job.stage (by_stage job job.stage) stands;
        fetches = λ fetch other held. outcome_left old new fetch (pin_leaves_ahead old new fetch.walk pins);
        marks = λ mark other marking. pin_leaves_marking old new mark pins marking;
        batches = λ its held. subst (λ (entries : List Entry). IsBatchHeld entries its) (sym pins.entries) held;
        walks = λ its other may. can_still old.index new.index its (walk_pins old.index walk its.session can other) may;
      };
      pins = λ other differ. walk_pins old.index walk other can differ;
      values = λ pointer differ. value_left old new pointer (pin_leaves old new pointer.value_id pins);
      fetches = λ fetch differ held. outcome_left old new fetch (pin_leaves_ahead old new fetch.walk pins);
    }
  where
    by_stage : (job : Piecing) (at : PieceStage) → LeavesPieces job.value_id old (record old { index = index_walked old.index walk }) at
    by_stage job (pieces.Putting seq) = pin_leaves old _ job.value_id (walk_event old walk)
    by_stage job (pieces.Indexing seq tid) = (pin_leaves old _ job.value_id (walk_event old walk), pin_leaves_unnamed old _ tid (walk_event old walk))
    by_stage job pieces.Over = pin_leaves old _ job.value_id (walk_event old walk)

pub mark_leaves : (old : Store) (mark : Marking) → IsStore old → CanStep old.index mark.walk → IsBatchHeld old.index.entries mark.walk → StepLeaves (Some mark.walk.value_id) None mark.walk.session old (store_marked old mark)
mark_leaves old mark is can held =
    let o = entry_at mark.walk.stage in
    then_leaves (Some mark.walk.value_id) mark.walk.session old (ended_at old mark.xid o) (store_marked old mark)
    (taken_leaves old mark.xid mark.walk.value_id mark.walk.session o is (λ e at. let left = taken_left e mark.walk.stage at in (held.stands e left, (held.of_walk e left).of_value)))
    (walk_leaves (ended_at old mark.xid o) mark.walk (Some mark.walk.value_id) can)
