-- What others do to a store, seen from a value whose chunks they leave alone.
use Rattle.std.proofs.Common.{ℕ, ◌≡◌, ◌≢◌, inl, inr, Bool, true, false, not, ◌&&◌, ◌==◌, Some, List, map, Contains, refl, sym, ap, ◌∙◌, subst}
use Rattle.std.specs.Option.{option_map}
use Rattle.std.proofs.lemmas.Option.{same_Some, none-some}
use Rattle.slot_page.specs.declared.line.Tid.{Tid}
use Rattle.slot_page.specs.declared.line.LinePointer.{LinePointer}
use Rattle.slot_page.specs.declared.line.LinePointer.TheVariants.{Normal, Dead, Unused}
use Rattle.slot_page.specs.Slots.{item_of}
use Rattle.slot_page.specs.Pages.{slot_of, item_in, with_put_on}
use Rattle.slot_page.proofs.Pages.{put_was_free}
use Rattle.xact_status.specs.Xacts.{Xacts}
use Rattle.chunk_relation.specs.declared.chunk.Chunk.{Chunk}
use Rattle.chunk_relation.specs.Chunks.{ended, is_dead_chunk}
use Rattle.chunk_relation.proofs.Events.{chunk_of-put, chunk_of-ended, chunk_of-pruned, chunk_of-reaped}
use Rattle.chunk_index.specs.declared.entry.Entry.{Entry}
use Rattle.slot_page.specs.Tids.{is_listed}
use Rattle.chunk_index.specs.Entries.{of_id}
use Rattle.chunk_index.specs.Leaves.{Leaf, in_leaf}
use Rattle.chunk_index.specs.Indexes.{is_swept}
use Rattle.chunk_index.proofs.Inserts.{entry_was, of_id-other, of_id_has, has_of_id}
use Rattle.chunk_index.proofs.Sweeps.{left_was}
use Rattle.external_pointer.specs.declared.external.Pointer.{Pointer}
use Rattle.toast_store.specs.Stores.{Store, Names, IsStore, IsUnnamed, chunks_of, named_by}
use Rattle.toast_store.specs.Values.{Whole, piece_in}
use Rattle.toast_store.specs.Between.{LeavesValue, LeavesUnnamed, LeavesPieces, LeavesSave, Puts, Adds, Ends, Prunes, Sweeps, Reaps, Pins, IsSpared}
use Rattle.value_ids.specs.Ids.{Pool}
use Rattle.value_ids.specs.declared.pool.InHand.{InHand}
use Rattle.toast_store.specs.declared.piece_job.PieceStage.{PieceStage}
use Rattle.toast_store.specs.declared.piece_job.PieceStage.TheVariants.{Putting, Indexing, Over}
use Rattle.toast_store.specs.PieceJobs.{Piecing, PiecesStandAt}
use Rattle.toast_store.specs.Saves.{Saving, Stage, Drawing, Laying, StandsAt, held_by, pieces_of}
use Rattle.toast_store.proofs.Chosen.{chosen_agree, chosen_map, chosen_filters, chosen_in}

-- a value that is left as it was stays whole
pub whole_kept : (old new : Store) (pointer : Pointer) (value : List ℕ) → LeavesValue pointer.value_id old new → Whole old pointer value → Whole new pointer value
whole_kept old new pointer value left whole = record { chunks = ap (map piece_in) left ∙ whole.chunks; size = whole.size }

-- the chunk in the slot of an entry has the entry's id
chunk_named : (e : Entry) (line : LinePointer Chunk) (chunk : Chunk) → Names e line → item_of line ≡ Some chunk → chunk.value_id ≡ e.value_id
chunk_named e (Normal size item) chunk names is = ap (λ (c : Chunk). c.value_id) (sym (same_Some item chunk is)) ∙ names.0
chunk_named e Dead chunk names is = absurd (none-some chunk is)
chunk_named e Unused chunk names is = absurd (none-some chunk is)

pub id_named : (store : Store) (e : Entry) (chunk : Chunk) → IsStore store → Contains store.index.entries e → item_in store.rel.pages e.tid ≡ Some chunk → chunk.value_id ≡ e.value_id
id_named store e chunk is held there = chunk_named e (slot_of store.rel.pages e.tid) chunk (is.names.named e held) there

-- with the same entries, a value is left as it was where the slots of its entries are
same_slots : (old new : Store) (value_id : ℕ) → new.index.entries ≡ old.index.entries → ((e : Entry) → Contains old.index.entries e → e.value_id ≡ value_id → item_in new.rel.pages e.tid ≡ item_in old.rel.pages e.tid) → LeavesValue value_id old new
same_slots old new value_id entries same =
    ap (λ es. named_by new.rel.pages (of_id value_id es)) entries
    ∙ chosen_agree (λ (e : Entry). item_in new.rel.pages e.tid) (λ (e : Entry). item_in old.rel.pages e.tid) (of_id value_id old.index.entries) (λ e held. let has = of_id_has value_id old.index.entries e held in same e has.0 has.1)

-- a put leaves each value
pub put_leaves : (old new : Store) (size : ℕ) (chunk : Chunk) (value_id : ℕ) → IsStore old → Puts old new size chunk → LeavesValue value_id old new
put_leaves old new size chunk value_id is puts = same_slots old new value_id puts.entries (λ e held of_value. ap (λ pages. item_in pages e.tid) puts.pages ∙ unmoved e held)
  where
    unmoved : (e : Entry) → Contains old.index.entries e → item_in (with_put_on size chunk old.rel.pages) e.tid ≡ item_in old.rel.pages e.tid
    unmoved e held = elim (chunk_of-put size chunk old.rel.pages e.tid) [
      | inl same ↦ same
      | inr h ↦ absurd (subst (Names e) (ap (slot_of old.rel.pages) h.0 ∙ put_was_free size old.rel.pages) (is.names.named e held))
    ]

pub put_leaves_unnamed : (old new : Store) (size : ℕ) (chunk : Chunk) (tid : Tid) (there : Chunk) → Puts old new size chunk → item_in old.rel.pages tid ≡ Some there → LeavesUnnamed tid old new
put_leaves_unnamed old new size chunk tid there puts is = record {
  chunk = ap (λ pages. item_in pages tid) puts.pages ∙ elim (chunk_of-put size chunk old.rel.pages tid) [
    | inl same ↦ same
    | inr h ↦ absurd (none-some there (sym (ap item_of (ap (slot_of old.rel.pages) h.0 ∙ put_was_free size old.rel.pages)) ∙ is))
  ];
  unnamed = λ free. subst (λ es. IsUnnamed es tid) (sym puts.entries) free;
}

-- an entry of another value leaves a value
pub add_leaves : (old new : Store) (e : Entry) (value_id : ℕ) → Adds old new e → e.value_id ≢ value_id → LeavesValue value_id old new
add_leaves old new e value_id adds other = ap (λ pages. named_by pages (of_id value_id new.index.entries)) adds.pages ∙ ap (named_by old.rel.pages) (ap (of_id value_id) adds.entries ∙ of_id-other value_id old.index.entries e other)

pub add_leaves_unnamed : (old new : Store) (e : Entry) (tid : Tid) (there : Chunk) → Adds old new e → item_in old.rel.pages tid ≡ Some there → e.value_id ≢ there.value_id → LeavesUnnamed tid old new
add_leaves_unnamed old new e tid there adds is other = record {
  chunk = ap (λ pages. item_in pages tid) adds.pages;
  unnamed = λ free. record {
    by_none = λ f held. elim (entry_was old.index.entries e f (subst (λ es. Contains es f) adds.entries held)) [
      | inl was ↦ free.by_none f was
      | inr new_one ↦ λ here. other (sym adds.names.2 ∙ ap (λ (c : Chunk). c.value_id) (same_Some adds.names.0 there (sym adds.names.1 ∙ ap (item_in old.rel.pages) (ap (λ (g : Entry). g.tid) new_one ∙ here) ∙ is)))
    ];
  };
}

-- where a chunk of another value is ended, the slots of a value's entries stay
pub end_item : (old new : Store) (tid : Tid) (xid value_id : ℕ) → IsStore old → Ends old new tid xid → ((chunk : Chunk) → item_in old.rel.pages tid ≡ Some chunk → chunk.value_id ≢ value_id) → (e : Entry) → Contains old.index.entries e → e.value_id ≡ value_id → item_in new.rel.pages e.tid ≡ item_in old.rel.pages e.tid
end_item old new tid xid value_id is ends other e held of_value = ap (λ pages. item_in pages e.tid) ends.pages ∙ elim (chunk_of-ended xid old.rel.pages tid e.tid) [
  | inl same ↦ same
  | inr h ↦ h.1 ∙ unended (slot_of old.rel.pages tid) refl h.0
]
  where
    unended : (line : LinePointer Chunk) → slot_of old.rel.pages tid ≡ line → e.tid ≡ tid → item_of (ended xid line) ≡ item_in old.rel.pages e.tid
    unended (Normal size chunk) at here = absurd (other chunk (ap item_of at) (id_named old e chunk is held (ap (item_in old.rel.pages) here ∙ ap item_of at) ∙ of_value))
    unended Dead at here = sym (ap (item_in old.rel.pages) here ∙ ap item_of at)
    unended Unused at here = sym (ap (item_in old.rel.pages) here ∙ ap item_of at)

-- so it leaves the value
pub end_leaves : (old new : Store) (tid : Tid) (xid value_id : ℕ) → IsStore old → Ends old new tid xid → ((chunk : Chunk) → item_in old.rel.pages tid ≡ Some chunk → chunk.value_id ≢ value_id) → LeavesValue value_id old new
end_leaves old new tid xid value_id is ends other = same_slots old new value_id ends.entries (λ e held of_value. end_item old new tid xid value_id is ends other e held of_value)

pub end_leaves_unnamed : (old new : Store) (tid u : Tid) (xid : ℕ) → Ends old new tid xid → u ≢ tid → LeavesUnnamed u old new
end_leaves_unnamed old new tid u xid ends other = record {
  chunk = ap (λ pages. item_in pages u) ends.pages ∙ elim (chunk_of-ended xid old.rel.pages tid u) [ inl same ↦ same | inr h ↦ absurd (other h.0) ];
  unnamed = λ free. subst (λ es. IsUnnamed es u) (sym ends.entries) free;
}

-- whatever chunk is ended, each slot has the piece that it had
ended_piece : (xid : ℕ) (line : LinePointer Chunk) → option_map piece_in (item_of (ended xid line)) ≡ option_map piece_in (item_of line)
ended_piece xid (Normal size chunk) = refl
ended_piece xid Dead = refl
ended_piece xid Unused = refl

pub same_piece : (old new : Store) (tid : Tid) (xid : ℕ) → Ends old new tid xid → (t : Tid) → option_map piece_in (item_in new.rel.pages t) ≡ option_map piece_in (item_in old.rel.pages t)
same_piece old new tid xid ends t = ap (λ pages. option_map piece_in (item_in pages t)) ends.pages ∙ elim (chunk_of-ended xid old.rel.pages tid t) [
  | inl same ↦ ap (option_map piece_in) same
  | inr h ↦ ap (option_map piece_in) h.1 ∙ ended_piece xid (slot_of old.rel.pages tid) ∙ ap (λ u. option_map piece_in (item_in old.rel.pages u)) (sym h.0)
]

-- so the chunks under an id have the pieces that they had
pub end_leaves_value_pieces : (old new : Store) (tid : Tid) (xid value_id : ℕ) → Ends old new tid xid → map piece_in (chunks_of new value_id) ≡ map piece_in (chunks_of old value_id)
end_leaves_value_pieces old new tid xid value_id ends =
    ap (λ es. map piece_in (named_by new.rel.pages (of_id value_id es))) ends.entries
    ∙ chosen_map piece_in (λ (e : Entry). item_in new.rel.pages e.tid) (of_id value_id old.index.entries)
    ∙ chosen_agree (λ (e : Entry). option_map piece_in (item_in new.rel.pages e.tid)) (λ (e : Entry). option_map piece_in (item_in old.rel.pages e.tid)) (of_id value_id old.index.entries) (λ e held. same_piece old new tid xid ends e.tid)
    ∙ sym (chosen_map piece_in (λ (e : Entry). item_in old.rel.pages e.tid) (of_id value_id old.index.entries))

-- and a whole value stays whole
pub end_keeps_whole : (old new : Store) (tid : Tid) (xid : ℕ) (pointer : Pointer) (value : List ℕ) → Ends old new tid xid → Whole old pointer value → Whole new pointer value
end_keeps_whole old new tid xid pointer value ends whole = record { chunks = end_leaves_value_pieces old new tid xid pointer.value_id ends ∙ whole.chunks; size = whole.size }

-- a prune leaves a value none of whose chunks is dead under its horizon
pub prune_leaves : (old new : Store) (xacts : Xacts) (horizon page value_id : ℕ) → Prunes old new xacts horizon page → IsSpared old value_id xacts horizon → LeavesValue value_id old new
prune_leaves old new xacts horizon page value_id prunes spared = same_slots old new value_id prunes.entries (λ e held of_value. ap (λ pages. item_in pages e.tid) prunes.pages ∙ elim (chunk_of-pruned xacts horizon old.rel.pages page e.tid) [
  | inl same ↦ same
  | inr h ↦ absurd (clash (sym (spared.each h.0 (chosen_in (λ (f : Entry). item_in old.rel.pages f.tid) (of_id value_id old.index.entries) e h.0 (has_of_id value_id old.index.entries e held of_value) h.1)) ∙ h.2))
])
  where
    clash : false ≡ true → ⊥
    clash e = cc

pub prune_leaves_unnamed : (old new : Store) (xacts : Xacts) (horizon page : ℕ) (tid : Tid) (there : Chunk) → Prunes old new xacts horizon page → item_in old.rel.pages tid ≡ Some there → is_dead_chunk xacts horizon there ≡ false → LeavesUnnamed tid old new
prune_leaves_unnamed old new xacts horizon page tid there prunes is live = record {
  chunk = ap (λ pages. item_in pages tid) prunes.pages ∙ elim (chunk_of-pruned xacts horizon old.rel.pages page tid) [
    | inl same ↦ same
    | inr h ↦ absurd (clash (sym live ∙ ap (is_dead_chunk xacts horizon) (same_Some there h.0 (sym is ∙ h.1)) ∙ h.2))
  ];
  unnamed = λ free. subst (λ es. IsUnnamed es tid) (sym prunes.entries) free;
}
  where
    clash : false ≡ true → ⊥
    clash e = cc

second : (a b : Bool) → not (a && b) ≡ false → b ≡ true
second true true h = refl
second true false h = absurd (cc)
second false b h = absurd (cc)

-- an entry that a sweep takes is listed
pub swept_listed : (bounds : List Entry) (leaf : Leaf) (dead : List Tid) (e : Entry) → not (is_swept bounds leaf dead e) ≡ false → is_listed dead e.tid ≡ true
swept_listed bounds leaf dead e taken = second (in_leaf bounds leaf e) (is_listed dead e.tid) taken

-- a sweep of entries whose slots have no chunk leaves each value
pub sweep_leaves : (old new : Store) (leaf : Leaf) (dead : List Tid) (value_id : ℕ) → Sweeps old new leaf dead → LeavesValue value_id old new
sweep_leaves old new leaf dead value_id sweeps =
    ap (λ pages. named_by pages (of_id value_id new.index.entries)) sweeps.pages
    ∙ ap (λ es. named_by old.rel.pages (of_id value_id es)) sweeps.entries
    ∙ chosen_filters (λ (e : Entry). item_in old.rel.pages e.tid) (λ (e : Entry). e.value_id == value_id) (λ (e : Entry). not (is_swept old.index.bounds leaf dead e)) old.index.entries (λ e held taken. sweeps.gone e.tid (swept_listed old.index.bounds leaf dead e taken))

pub sweep_leaves_unnamed : (old new : Store) (leaf : Leaf) (dead : List Tid) (tid : Tid) → Sweeps old new leaf dead → LeavesUnnamed tid old new
sweep_leaves_unnamed old new leaf dead tid sweeps = record {
  chunk = ap (λ pages. item_in pages tid) sweeps.pages;
  unnamed = λ free. record { by_none = λ e held. free.by_none e ((left_was old.index.bounds leaf dead old.index.entries e (subst (λ es. Contains es e) sweeps.entries held)).0) };
}

-- a slot that is freed had no chunk
pub reap_leaves : (old new : Store) (tid : Tid) (value_id : ℕ) → Reaps old new tid → LeavesValue value_id old new
reap_leaves old new tid value_id reaps = same_slots old new value_id reaps.entries (λ e held of_value. ap (λ pages. item_in pages e.tid) reaps.pages ∙ chunk_of-reaped old.rel.pages tid e.tid reaps.dead)

pub reap_leaves_unnamed : (old new : Store) (tid u : Tid) → Reaps old new tid → LeavesUnnamed u old new
reap_leaves_unnamed old new tid u reaps = record {
  chunk = ap (λ pages. item_in pages u) reaps.pages ∙ chunk_of-reaped old.rel.pages tid u reaps.dead;
  unnamed = λ free. subst (λ es. IsUnnamed es u) (sym reaps.entries) free;
}

-- pins leave each value
pub pin_leaves : (old new : Store) (value_id : ℕ) → Pins old new → LeavesValue value_id old new
pin_leaves old new value_id pins = same_slots old new value_id pins.entries (λ e held of_value. ap (λ pages. item_in pages e.tid) pins.pages)

pub pin_leaves_unnamed : (old new : Store) (tid : Tid) → Pins old new → LeavesUnnamed tid old new
pin_leaves_unnamed old new tid pins = record {
  chunk = ap (λ pages. item_in pages tid) pins.pages;
  unnamed = λ free. subst (λ es. IsUnnamed es tid) (sym pins.entries) free;
}

-- what a job of pieces relies on is kept where the value that it has put and the chunk that it has not indexed yet are left
pub pieces_kept : (old new : Store) (job : Piecing) (at : PieceStage) → LeavesPieces job.value_id old new at → PiecesStandAt old job at → PiecesStandAt new job at
pieces_kept old new job (Putting seq) left stands = left ∙ stands
pieces_kept old new job (Indexing seq tid) left stands = (left.0 ∙ stands.0, record { there = left.1.chunk ∙ stands.1.there; unnamed = left.1.unnamed stands.1.unnamed })
pieces_kept old new job Over left stands = left ∙ stands

-- and so is what a save relies on, where its id stays in hand too
pub save_kept : (old new : Store) (ids later : Pool) (save : Saving) (stage : Stage) → LeavesSave old new stage → ((held : InHand) → Contains ids.in_hand held → Contains later.in_hand held) → StandsAt old ids save stage → StandsAt new later save stage
save_kept old new ids later save Drawing left held stands = tt
save_kept old new ids later save (Laying value_id at) left held stands = record { in_hand = held (held_by save value_id) stands.in_hand; pieces = pieces_kept old new (pieces_of save value_id at) at left stands.pieces }
