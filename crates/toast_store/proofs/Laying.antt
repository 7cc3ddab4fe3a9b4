-- The pieces of a value on their way into a store: what their job relies on holds after each step, and at its end the value is whole.
use Rattle.std.proofs.Common.{ℕ, ◌≡◌, ◌<◌, ◌+◌, ◌-◌, ◌*◌, Bool, true, false, cond, ◌||◌, ◌==◌, nat_lt, Option, Some, None, is_some, List, [], ◌∷◌, ◌++◌, length, map, filter, Contains, refl, sym, ap, ◌∙◌, subst, arith}
use Rattle.std.specs.List.{filter_map, cons_option, list_any, range_with_len}
use Rattle.std.specs.List.Sorted.{IsStrictlySortedBy}
use Rattle.std.specs.Ordering.{is_lt}
use Rattle.std.proofs.lemmas.Bool.{ltb-true, ltb-false, false≢true}
use Rattle.std.proofs.lemmas.Bool.Decides.{nat_tests}
use Rattle.std.proofs.lemmas.Option.{same_Some, none-some}
use Rattle.std.proofs.lemmas.List.FromFn.{map-range_with_len_more}
use Rattle.std.proofs.lemmas.List.Elements.{filter_map-append}
use Rattle.std.proofs.lemmas.List.Kept.{IsStrictlySortedBy-filter}
use Rattle.list_facts.proofs.Members.{filter_holds}
use Rattle.slot_page.specs.declared.line.Tid.{Tid}
use Rattle.slot_page.specs.declared.line.LinePointer.{LinePointer}
use Rattle.slot_page.specs.declared.line.LinePointer.TheVariants.{Normal, Dead, Unused}
use Rattle.slot_page.specs.Slots.{item_of}
use Rattle.slot_page.specs.Pages.{slot_of, item_in, put_tid, with_put_on}
use Rattle.slot_page.proofs.Pages.{item_put, put_was_free}
use Rattle.slice_fetch.specs.Spans.{piece}
use Rattle.chunk_relation.specs.declared.chunk.Chunk.{Chunk}
use Rattle.chunk_relation.specs.Chunks.{chunk_tuple_size, new_chunk}
use Rattle.chunk_relation.specs.Relations.{Pages, Relation}
use Rattle.chunk_index.specs.declared.entry.Entry.{Entry}
use Rattle.chunk_index.specs.Entries.{entry_cmp, of_id, with_entry}
use Rattle.chunk_index.proofs.Inserts.{one_more, comes_last, of_id-same, of_id_has}
use Rattle.toast_store.specs.Stores.{Store, Names, IsStore, IsUnnamed, chunks_of, named_by, is_used}
use Rattle.toast_store.specs.Values.{Whole, piece_count, piece_in}
use Rattle.toast_store.specs.Between.{Puts}
use Rattle.toast_store.specs.PieceJobs.{Piecing, HasPieces, HasPut, IsLaying, IsPieceStage, IsWithEntry, PiecesStand, PiecesStandAt, PiecesStep, chunk_of, is_laid, new_pieces, pointer_to, stage_passed, steps_at, tuple_size}
use Rattle.toast_store.specs.declared.piece_job.PieceStage.{PieceStage}
use Rattle.toast_store.specs.declared.piece_job.PieceStage.TheVariants.{Putting, Indexing, Over}
use Rattle.toast_store.proofs.Chosen.{chosen_filter, chosen_in}
use Rattle.toast_store.proofs.Kept.{put_leaves}
use Rattle.toast_store.proofs.Pieces.{map-map, made_below}

clash : true ≡ false → ⊥
clash e = cc

none_of : {X : Type 0} (o : Option X) → is_some o ≡ false → o ≡ None
none_of None h = refl
none_of (Some x) h = absurd (clash h)

some_of : {X : Type 0} (o : Option X) → is_some o ≡ true → (x : X) × (o ≡ Some x)
some_of None h = absurd (clash (sym h))
some_of (Some x) h = (x, refl)

-- entries of which none names a chunk give none
none_named : (pages : Pages) (entries : List Entry) → list_any (λ (e : Entry). is_some (item_in pages e.tid)) entries ≡ false → named_by pages entries ≡ []
none_named pages [] none = refl
none_named pages (e ∷ es) none = by_item (item_in pages e.tid) none (λ later. none_named pages es later)
  where
    by_item : (o : Option Chunk) → (is_some o || list_any (λ (f : Entry). is_some (item_in pages f.tid)) es) ≡ false → (list_any (λ (f : Entry). is_some (item_in pages f.tid)) es ≡ false → named_by pages es ≡ []) → cons_option o (named_by pages es) ≡ []
    by_item None h rest = rest h
    by_item (Some chunk) h rest = absurd (clash h)

-- an id that is not used has no chunk
pub unused_none : (store : Store) (value_id : ℕ) → is_used store value_id ≡ false → chunks_of store value_id ≡ []
unused_none store value_id unused = none_named store.rel.pages (of_id value_id store.index.entries) unused

-- an id that is not used has no piece yet, so the job of a value may begin under it
pub stands_begun : (store : Store) (xid value_id : ℕ) (value : List ℕ) → is_used store value_id ≡ false → PiecesStand store (new_pieces xid value_id value)
stands_begun store xid value_id value unused = unused_none store value_id unused

-- after a put
pub stands_put : (old new : Store) (job : Piecing) (seq : ℕ) (tid : Tid) → IsStore old → Puts old new (tuple_size job.value seq) (new_chunk job.value_id seq job.xid (piece job.value seq)) → tid ≡ put_tid (tuple_size job.value seq) old.rel.pages
    → HasPieces old job seq → HasPieces new job seq × HasPut new (chunk_of job seq) tid
stands_put old new job seq tid is puts at stands = (
  put_leaves old new (tuple_size job.value seq) chunk job.value_id is puts ∙ stands,
  record {
    there = ap (λ t. item_in new.rel.pages t) at ∙ ap (λ pages. item_in pages (put_tid (tuple_size job.value seq) old.rel.pages)) puts.pages ∙ item_put (tuple_size job.value seq) chunk old.rel.pages;
    unnamed = record { by_none = λ e held here. subst (Names e) (ap (slot_of old.rel.pages) (here ∙ at) ∙ put_was_free (tuple_size job.value seq) old.rel.pages) (is.names.named e (subst (λ es. Contains es e) puts.entries held)) };
  },
)
  where
    chunk : Chunk
    chunk = new_chunk job.value_id seq job.xid (piece job.value seq)

-- an entry that comes after each that names a chunk adds its chunk behind theirs
named_last : (pages : Pages) (entries : List Entry) (e : Entry) (chunk : Chunk) → IsStrictlySortedBy entry_cmp entries → item_in pages e.tid ≡ Some chunk → ((f : Entry) (c : Chunk) → Contains entries f → item_in pages f.tid ≡ Some c → is_lt (entry_cmp e f) ≡ false)
    → named_by pages (with_entry entries e) ≡ named_by pages entries ++ chunk ∷ []
named_last pages entries e chunk sorted is above =
    sym (chosen_filter item live (with_entry entries e) (λ f held dead. none_of (item f) dead))
    ∙ ap (filter_map item) (one_more live entries e sorted (ap is_some is) ∙ comes_last (filter live entries) e (λ f held. let has = filter_holds live entries f held in let there = some_of (item f) has.1 in above f there.0 has.0 there.1))
    ∙ filter_map-append item (filter live entries) (e ∷ [])
    ∙ ap (λ cs. cs ++ filter_map item (e ∷ [])) (chosen_filter item live entries (λ f held dead. none_of (item f) dead))
    ∙ ap (λ o. named_by pages entries ++ cons_option o []) is
  where
    item : Entry → Option Chunk
    item f = item_in pages f.tid

    live : Entry → Bool
    live f = is_some (item_in pages f.tid)

-- an entry of a value with a greater number comes after
comes_after : (e f : Entry) → e.value_id ≡ f.value_id → f.seq < e.seq → is_lt (entry_cmp e f) ≡ false
comes_after e f same above = grind (arith, nat_tests)

-- the chunk in the slot of an entry has the entry's number
pub seq_of : (e : Entry) (line : LinePointer Chunk) (chunk : Chunk) → Names e line → item_of line ≡ Some chunk → chunk.seq ≡ e.seq
seq_of e (Normal size item) chunk names is = ap (λ (c : Chunk). c.seq) (sym (same_Some item chunk is)) ∙ names.1
seq_of e Dead chunk names is = absurd (none-some chunk is)
seq_of e Unused chunk names is = absurd (none-some chunk is)

-- after a piece's entry
pub stands_indexed : (old new : Store) (job : Piecing) (seq : ℕ) (tid : Tid) → IsStore old → new.rel ≡ old.rel → new.index.entries ≡ with_entry old.index.entries (record { value_id = job.value_id; seq = seq; tid = tid })
    → HasPieces old job seq → HasPut old (chunk_of job seq) tid → HasPieces new job (seq + 1)
stands_indexed old new job seq tid is rel entries stands put =
    ap (λ r. named_by (Relation.pages r) (of_id job.value_id new.index.entries)) rel
    ∙ ap (λ es. named_by old.rel.pages (of_id job.value_id es)) entries
    ∙ ap (named_by old.rel.pages) (of_id-same old.index.entries e is.index.entries_sorted)
    ∙ named_last old.rel.pages (of_id job.value_id old.index.entries) e chunk (IsStrictlySortedBy-filter entry_cmp (λ (f : Entry). f.value_id == job.value_id) old.index.entries is.index.entries_sorted) put.there above
    ∙ ap (λ cs. cs ++ chunk ∷ []) stands
    ∙ sym (map-range_with_len_more (λ k. new_chunk job.value_id k job.xid (piece job.value k)) 0 seq seq (omega arith))
  where
    e : Entry
    e = record { value_id = job.value_id; seq = seq; tid = tid }

    chunk : Chunk
    chunk = new_chunk job.value_id seq job.xid (piece job.value seq)

    above : (f : Entry) (c : Chunk) → Contains (of_id job.value_id old.index.entries) f → item_in old.rel.pages f.tid ≡ Some c → is_lt (entry_cmp e f) ≡ false
    above f c held there =
        let has = of_id_has job.value_id old.index.entries f held in
        let made = made_below (λ k. new_chunk job.value_id k job.xid (piece job.value k)) 0 seq c (subst (λ cs. Contains cs c) stands (chosen_in (λ (g : Entry). item_in old.rel.pages g.tid) (of_id job.value_id old.index.entries) f c held there)) in
        let number : c.seq ≡ f.seq = seq_of f (slot_of old.rel.pages f.tid) c (is.names.named f has.0) there in
        comes_after e f (sym has.1) (omega (arith, made.1, number, ap (λ (d : Chunk). d.seq) made.2))

-- an entry that names an unnamed slot is not there
pub not_there : (entries : List Entry) (e : Entry) → IsUnnamed entries e.tid → Contains entries e → ⊥
not_there entries e free held = free.by_none e held refl

-- once a piece is indexed the job stands before the next one, or at its end
pub stands_passed : (store : Store) (job : Piecing) (seq : ℕ) → seq < piece_count (length job.value) → HasPieces store job (seq + 1) → PiecesStandAt store job (stage_passed job.value seq)
stands_passed store job seq within has = by_test (nat_lt (seq + 1) (piece_count (length job.value))) refl
  where
    by_test : (b : Bool) → nat_lt (seq + 1) (piece_count (length job.value)) ≡ b → PiecesStandAt store job (cond b (Putting (seq + 1)) Over)
    by_test true is = has
    by_test false is =
        let last : seq + 1 ≡ piece_count (length job.value) = omega (arith, within, ltb-false (seq + 1) (piece_count (length job.value)) is) in
        subst (HasPieces store job) last has

-- once each piece is indexed the value is whole
pub whole_laid : (store : Store) (job : Piecing) (toast_rel : ℕ) → PiecesStandAt store job Over → Whole store (pointer_to job toast_rel) job.value
whole_laid store job toast_rel stands = record {
  chunks = ap (map piece_in) stands ∙ map-map piece_in (λ k. new_chunk job.value_id k job.xid (piece job.value k)) (range_with_len 0 (piece_count (length job.value)));
  size = refl;
}

-- ---- the steps of the job
-- where a piece is indexed, one step fewer is left
passed_left : (count seq : ℕ) → seq < count → steps_at count (Indexing seq (record { page = 0; slot = 0 })) ≡ steps_at count (cond (nat_lt (seq + 1) count) (Putting (seq + 1)) Over) + 1
passed_left count seq within = by_test (nat_lt (seq + 1) count) refl
  where
    by_test : (b : Bool) → nat_lt (seq + 1) count ≡ b → 2 * (count - seq) - 1 ≡ steps_at count (cond b (Putting (seq + 1)) Over) + 1
    by_test true is = omega (arith, ltb-true (seq + 1) count is)
    by_test false is = omega (arith, within, ltb-false (seq + 1) count is)

-- some are left where the job is not over
pub laying_left : (value : List ℕ) (at : PieceStage) → IsPieceStage value at → is_laid at ≡ false → 0 < steps_at (piece_count (length value)) at
laying_left value (Putting seq) within going = omega (arith, within)
laying_left value (Indexing seq tid) within going = omega (arith, within)
laying_left value Over within going = absurd (false≢true (sym going))

-- a job that has not ended has a step left
pub still_laying : (at : PieceStage) → is_laid at ≡ false → IsLaying at
still_laying (Putting seq) going = tt
still_laying (Indexing seq tid) going = tt
still_laying Over going = absurd (false≢true (sym going))

-- one that has ended is at its end
pub laid_over : (at : PieceStage) → is_laid at ≡ true → at ≡ Over
laid_over (Putting seq) over = absurd (false≢true over)
laid_over (Indexing seq tid) over = absurd (false≢true over)
laid_over Over over = refl

-- a job at a stage
abbrev at_stage : Piecing → PieceStage → Piecing
at_stage job stage = record job { stage = stage }

-- what it relies on at one stage does not change with where it stands
restaged : (store : Store) (job : Piecing) (stage at : PieceStage) → PiecesStandAt store job at → PiecesStandAt store (at_stage job stage) at
restaged store job stage (Putting seq) stands = stands
restaged store job stage (Indexing seq tid) stands = stands
restaged store job stage Over stands = stands

-- a put
step_put : (old new : Store) (job : Piecing) (seq : ℕ) (tid : Tid) (bytes : List ℕ) → bytes ≡ piece job.value seq → IsStore old
    → new ≡ record old { rel = record old.rel { pages = with_put_on (chunk_tuple_size (length bytes)) (new_chunk job.value_id seq job.xid bytes) old.rel.pages } } → tid ≡ put_tid (chunk_tuple_size (length bytes)) old.rel.pages
    → seq < piece_count (length job.value) → HasPieces old job seq → PiecesStep old (at_stage job (Putting seq)) new (at_stage job (Indexing seq tid))
step_put old new job seq tid bytes is_piece is puts at within has =
    let put : new ≡ record old { rel = record old.rel { pages = with_put_on (tuple_size job.value seq) (new_chunk job.value_id seq job.xid (piece job.value seq)) old.rel.pages } } =
    puts ∙ ap (λ bs. record old { rel = record old.rel { pages = with_put_on (chunk_tuple_size (length bs)) (new_chunk job.value_id seq job.xid bs) old.rel.pages } }) is_piece in
    let place : tid ≡ put_tid (tuple_size job.value seq) old.rel.pages = at ∙ ap (λ (bs : List ℕ). put_tid (chunk_tuple_size (length bs)) old.rel.pages) is_piece in
    record {
      job = ap (λ t. at_stage job (Indexing seq t)) place;
      rel = ap (λ (s : Store). s.rel) put;
      index = ap (λ (s : Store). s.index) put;
      stands = stands_put old new job seq tid is (record { pages = ap (λ (s : Store). s.rel.pages) put; entries = ap (λ (s : Store). s.index.entries) put }) place has;
      left = omega (arith, within);
    }

pub put_step : (old new : Store) (before : Piecing) (seq : ℕ) (tid : Tid) (bytes : List ℕ) → before.stage ≡ Putting seq → bytes ≡ piece before.value seq → IsStore old
    → new ≡ record old { rel = record old.rel { pages = with_put_on (chunk_tuple_size (length bytes)) (new_chunk before.value_id seq before.xid bytes) old.rel.pages } } → tid ≡ put_tid (chunk_tuple_size (length bytes)) old.rel.pages
    → seq < piece_count (length before.value) → PiecesStand old before → PiecesStep old before new (at_stage before (Indexing seq tid))
put_step old new before seq tid bytes stage is_piece is puts at within stands =
    subst (λ b. PiecesStep old b new (at_stage before (Indexing seq tid))) (ap (at_stage before) (sym stage))
    (step_put old new before seq tid bytes is_piece is puts at within (subst (PiecesStandAt old before) stage stands))

-- an entry
step_indexed : (old new : Store) (job : Piecing) (seq : ℕ) (tid : Tid) → IsStore old → new.rel ≡ old.rel → IsWithEntry old.index new.index (record { value_id = job.value_id; seq = seq; tid = tid })
    → seq < piece_count (length job.value) → HasPieces old job seq × HasPut old (chunk_of job seq) tid → PiecesStep old (at_stage job (Indexing seq tid)) new (at_stage job (stage_passed job.value seq))
step_indexed old new job seq tid is rel added within stands = record {
  job = refl;
  rel = rel;
  index = added;
  stands = restaged new job (stage_passed job.value seq) (stage_passed job.value seq) (stands_passed new job seq within (stands_indexed old new job seq tid is rel added.entries stands.0 stands.1));
  left = passed_left (piece_count (length job.value)) seq within;
}

pub index_step : (old new : Store) (before : Piecing) (seq : ℕ) (tid : Tid) → before.stage ≡ Indexing seq tid → IsStore old → new.rel ≡ old.rel → IsWithEntry old.index new.index (record { value_id = before.value_id; seq = seq; tid = tid })
    → seq < piece_count (length before.value) → PiecesStand old before → PiecesStep old before new (at_stage before (stage_passed before.value seq))
index_step old new before seq tid stage is rel added within stands =
    subst (λ b. PiecesStep old b new (at_stage before (stage_passed before.value seq))) (ap (at_stage before) (sym stage))
    (step_indexed old new before seq tid is rel added within (subst (PiecesStandAt old before) stage stands))

-- what an opened job relies on, by the stage that it is found in
pub stands_here : (store : Store) (opened job : Piecing) (at : PieceStage) → opened ≡ job → opened.stage ≡ at → PiecesStand store job → PiecesStandAt store opened at
stands_here store opened job at same stage stands = subst (PiecesStandAt store opened) stage (subst (PiecesStand store) (sym same) stands)
