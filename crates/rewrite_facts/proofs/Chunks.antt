-- The chunks of the new store and the pointers to its values, through each step.
use Rattle.std.proofs.Common.{◌≡◌, ◌≢◌, ℕ, ◌⊎◌, inl, inr, false, Option, Some, None, List, [], ◌∷◌, Contains, slice_get, slice_set, refl, sym, ap, ◌∙◌, subst}
use Rattle.std.proofs.lemmas.Option.{none-some, same_Some, slice_get_within}
use Rattle.list_facts.proofs.Changed.{after_set, get_set_other, get_set_same}
use Rattle.list_facts.proofs.Members.{cases_in, first_in, later_in, none_in_nil}
use Rattle.slot_page.specs.declared.line.Tid.{Tid}
use Rattle.slot_page.specs.Pages.{item_in, slot_of}
use Rattle.slot_page.specs.Slots.{IsDead}
use Rattle.slot_page.proofs.Pages.{slot_of-put}
use Rattle.external_pointer.specs.declared.external.Pointer.{Pointer}
use Rattle.tuple_layout.specs.declared.cell.Cell.{Cell}
use Rattle.tuple_layout.specs.declared.cell.Cell.TheVariants.{Inline, Out}
use Rattle.chunk_relation.specs.declared.chunk.Chunk.{Chunk}
use Rattle.chunk_relation.specs.Relations as chunks
use Rattle.chunk_relation.proofs.Events.{chunk_of-put}
use Rattle.chunk_index.specs.declared.entry.Entry.{Entry}
use Rattle.chunk_index.specs.Indexes.{Index}
use Rattle.chunk_index.proofs.Inserts.{entry_added, entry_stays}
use Rattle.toast_store.specs.Stores.{Store, is_used}
use Rattle.toast_store.specs.PieceJobs.{IsIndexAfter, Piecing, PiecesStep, chunk_of, pieces_after, rel_after, tuple_size}
use Rattle.toast_store.specs.declared.piece_job.PieceStage.{PieceStage}
use Rattle.toast_store.specs.declared.piece_job.PieceStage.TheVariants.{Putting, Indexing, Over}
use Rattle.rewrite_facts.specs.Chunks.{AreChunks, HasPointer, IsNamed, IsNewChunk, IsOwned, Made, UnderWay, cells_at, put_at, put_by}
use Rattle.rewrite_facts.specs.Copies.{Copied}
use Rattle.rewrite_facts.specs.Rewrites.{Rewriting, at_stage, busy_at}
use Rattle.rewrite_facts.specs.declared.stage.RewriteStage.{RewriteStage}
use Rattle.rewrite_facts.specs.declared.stage.RewriteStage.TheVariants.{Visiting, Filling, Reading, Placing, Laying, Ready}

-- ---- the same pointers

-- one rewrite has no pointer that another does not have
abbrev pub PointersStay : List Copied → Rewriting → List Copied → Rewriting → Type 0
PointersStay copies r later after = (from : Tid) (n : ℕ) (p : Pointer) → HasPointer copies r from n p → HasPointer later after from n p

-- a value stays owned where the pointers stay
owned_stays : (copies later : List Copied) (r after : Rewriting) (id : ℕ) → PointersStay copies r later after → IsOwned copies r id → IsOwned later after id
owned_stays copies later r after id stay is = record { from = is.from; column = is.column; pointer = is.pointer; has = stay is.from is.column is.pointer is.has; id = is.id }

-- pointers by the cells of the copy under way, with the same copies at the same place
pub pointers_by : (copies : List Copied) (r after : Rewriting) → after.place ≡ r.place → ((n : ℕ) (p : Pointer) → slice_get (cells_at r.stage) n ≡ Some (Out p) → slice_get (cells_at after.stage) n ≡ Some (Out p)) → PointersStay copies r copies after
pointers_by copies r after place stay from n p (Made copy held at there) = Made copy held at there
pointers_by copies r after place stay from n p (UnderWay at there) = UnderWay (place ∙ at) (stay n p there)

-- the chunks stay as they are, and so do the pointers
pub chunks_stay : (old : Store) (copies later : List Copied) (r after : Rewriting) → after.xid ≡ r.xid → after.toast ≡ r.toast → busy_at after.stage ≡ busy_at r.stage → put_at after.stage ≡ put_at r.stage
    → PointersStay copies r later after → PointersStay later after copies r → AreChunks old copies r → AreChunks old later after
chunks_stay old copies later r after xid store busy put stay back chunks = record {
  each = λ tid chunk there. one tid chunk (chunks.each tid chunk (subst (λ (s : Store). item_in s.rel.pages tid ≡ Some chunk) store there));
  undead = λ tid dead. chunks.undead tid (subst (λ (s : Store). IsDead (slot_of s.rel.pages tid)) store dead);
  once = λ from other n k p q first second same unused. chunks.once from other n k p q (back from n p first) (back other k q second) same unused;
}
  where
    one : (tid : Tid) (chunk : Chunk) → IsNewChunk copies r tid chunk → IsNewChunk later after tid chunk
    one tid chunk is = record {
      inserter = is.inserter ∙ sym xid;
      ender = is.ender;
      owned = elim is.owned [
        | inl on_its_way ↦ inl (busy ∙ on_its_way)
        | inr owned ↦ inr (owned_stays copies later r after chunk.value_id stay owned)
      ];
      named = elim is.named [
        | inl next ↦ inl (put ∙ next)
        | inr named ↦ inr (subst (λ (s : Store). IsNamed s.index.entries tid) (sym store) named)
      ];
    }

-- where the copy under way has the same cells
pub chunks_restaged : (old : Store) (copies : List Copied) (r : Rewriting) (stage : RewriteStage) → busy_at stage ≡ busy_at r.stage → put_at stage ≡ put_at r.stage → cells_at stage ≡ cells_at r.stage → AreChunks old copies r → AreChunks old copies (at_stage r stage)
chunks_restaged old copies r stage busy put cells = chunks_stay old copies copies r (at_stage r stage) refl refl busy put
    (pointers_by copies r (at_stage r stage) refl (λ n p there. ap (λ (cs : List Cell). slice_get cs n) cells ∙ there)) (pointers_by copies (at_stage r stage) r refl (λ n p there. ap (λ (cs : List Cell). slice_get cs n) (sym cells) ∙ there))

-- a value comes on its way, with no piece put
pub chunks_begun : (old : Store) (copies : List Copied) (r : Rewriting) (stage : RewriteStage) → busy_at r.stage ≡ None → put_at r.stage ≡ None → cells_at stage ≡ cells_at r.stage → AreChunks old copies r → AreChunks old copies (at_stage r stage)
chunks_begun old copies r stage idle none cells chunks = record {
  each = λ tid chunk there. one tid chunk (chunks.each tid chunk there);
  undead = chunks.undead;
  once = λ from other n k p q first second same unused. chunks.once from other n k p q (back from n p first) (back other k q second) same unused;
}
  where
    stay : PointersStay copies r copies (at_stage r stage)
    stay = pointers_by copies r (at_stage r stage) refl (λ n p there. ap (λ (cs : List Cell). slice_get cs n) cells ∙ there)

    back : PointersStay copies (at_stage r stage) copies r
    back = pointers_by copies (at_stage r stage) r refl (λ n p there. ap (λ (cs : List Cell). slice_get cs n) (sym cells) ∙ there)

    one : (tid : Tid) (chunk : Chunk) → IsNewChunk copies r tid chunk → IsNewChunk copies (at_stage r stage) tid chunk
    one tid chunk is = record {
      inserter = is.inserter;
      ender = is.ender;
      owned = elim is.owned [
        | inl on_its_way ↦ absurd (none-some chunk.value_id (sym idle ∙ on_its_way))
        | inr owned ↦ inr (owned_stays copies copies r (at_stage r stage) chunk.value_id stay owned)
      ];
      named = elim is.named [
        | inl next ↦ absurd (none-some tid (sym none ∙ next))
        | inr named ↦ inr named
      ];
    }

-- where the copy under way has no pointer, before and after
pub chunks_planned : (old : Store) (copies : List Copied) (r : Rewriting) (stage : RewriteStage) → busy_at stage ≡ busy_at r.stage → put_at stage ≡ put_at r.stage → cells_at r.stage ≡ [] → ((n : ℕ) (p : Pointer) → slice_get (cells_at stage) n ≡ Some (Out p) → ⊥)
    → AreChunks old copies r → AreChunks old copies (at_stage r stage)
chunks_planned old copies r stage busy put empty none = chunks_stay old copies copies r (at_stage r stage) refl refl busy put
    (pointers_by copies r (at_stage r stage) refl (λ n p there. absurd (none-some (Out p) (ap (λ (cs : List Cell). slice_get cs n) (sym empty) ∙ there)))) (pointers_by copies (at_stage r stage) r refl (λ n p there. absurd (none n p there)))

-- where nothing of a copy is in the new relation, the rewrite goes to another place
pub chunks_visited : (old : Store) (copies : List Copied) (r : Rewriting) (to : Tid) (stage : RewriteStage) → busy_at stage ≡ busy_at r.stage → put_at stage ≡ put_at r.stage → cells_at r.stage ≡ [] → cells_at stage ≡ []
    → AreChunks old copies r → AreChunks old copies (record r { place = to; stage = stage })
chunks_visited old copies r to stage busy put before after = chunks_stay old copies copies r (record r { place = to; stage = stage }) refl refl busy put forth back
  where
    none_in : (cells : List Cell) (n : ℕ) (p : Pointer) → cells ≡ [] → slice_get cells n ≡ Some (Out p) → ⊥
    none_in cells n p is there = none-some (Out p) (ap (λ (cs : List Cell). slice_get cs n) (sym is) ∙ there)

    forth : PointersStay copies r copies (record r { place = to; stage = stage })
    forth from n p (Made copy held at there) = Made copy held at there
    forth from n p (UnderWay at there) = absurd (none_in (cells_at r.stage) n p before there)

    back : PointersStay copies (record r { place = to; stage = stage }) copies r
    back from n p (Made copy held at there) = Made copy held at there
    back from n p (UnderWay at there) = absurd (none_in (cells_at stage) n p after there)

-- the copy under way is made
pub chunks_made : (old : Store) (copies : List Copied) (r after : Rewriting) (made : Copied) → after.xid ≡ r.xid → after.toast ≡ r.toast → after.stage ≡ Visiting → busy_at r.stage ≡ None → put_at r.stage ≡ None → made.from ≡ r.place → made.cells ≡ cells_at r.stage
    → AreChunks old copies r → AreChunks old (made ∷ copies) after
chunks_made old copies r after made xid store stage idle none place cells = chunks_stay old copies (made ∷ copies) r after xid store (ap busy_at stage ∙ sym idle) (ap put_at stage ∙ sym none) forth back
  where
    forth : PointersStay copies r (made ∷ copies) after
    forth from n p (Made copy held at there) = Made copy (later_in made copies copy held) at there
    forth from n p (UnderWay at there) = Made made (first_in made copies made refl) (place ∙ at) (ap (λ (cs : List Cell). slice_get cs n) cells ∙ there)

    back : PointersStay (made ∷ copies) after copies r
    back from n p (Made copy held at there) = elim (cases_in made copies copy held) [
      | inl is ↦ UnderWay (sym place ∙ ap (λ (c : Copied). c.from) is ∙ at) (ap (λ (cs : List Cell). slice_get cs n) (sym cells) ∙ ap (λ (c : Copied). slice_get c.cells n) is ∙ there)
      | inr earlier ↦ Made copy earlier at there
    ]
    back from n p (UnderWay at there) = absurd (none-some (Out p) (ap (λ (s : RewriteStage). slice_get (cells_at s) n) (sym stage) ∙ there))

-- ---- one pointer more

-- the column at a place, whose value was inline, has a pointer
pub record IsMore (r after : Rewriting) (k : ℕ) (pointer : Pointer) : Type 0 where
  pub place : after.place ≡ r.place
  pub value : List ℕ
  pub inline : slice_get (cells_at r.stage) k ≡ Some (Inline value)
  pub cells : cells_at after.stage ≡ slice_set (cells_at r.stage) k (Out pointer)

pub more_stays : (copies : List Copied) (r after : Rewriting) (k : ℕ) (pointer : Pointer) → IsMore r after k pointer → PointersStay copies r copies after
more_stays copies r after k pointer more = pointers_by copies r after more.place (λ n p there. ap (λ (cs : List Cell). slice_get cs n) more.cells ∙ get_set_other (cells_at r.stage) k n (Out pointer) (differ n p there) ∙ there)
  where
    differ : (n : ℕ) (p : Pointer) → slice_get (cells_at r.stage) n ≡ Some (Out p) → n ≢ k
    differ n p there same = clash (sym more.inline ∙ ap (slice_get (cells_at r.stage)) (sym same) ∙ there)
      where
        clash : ◌≡◌ {A = Option Cell} (Some (Inline more.value)) (Some (Out p)) → ⊥
        clash e = cc

-- it has it
pub more_has : (copies : List Copied) (r after : Rewriting) (k : ℕ) (pointer : Pointer) → IsMore r after k pointer → HasPointer copies after r.place k pointer
more_has copies r after k pointer more = UnderWay more.place (ap (λ (cs : List Cell). slice_get cs k) more.cells ∙ get_set_same (cells_at r.stage) k (Out pointer) (slice_get_within (cells_at r.stage) k (Inline more.value) more.inline))

-- what has a pointer then had it, or is that column
pub more_was : (copies : List Copied) (r after : Rewriting) (k : ℕ) (pointer : Pointer) → IsMore r after k pointer → (from : Tid) (n : ℕ) (p : Pointer) → HasPointer copies after from n p → HasPointer copies r from n p ⊎ ((from ≡ r.place) × (n ≡ k) × (p ≡ pointer))
more_was copies r after k pointer more from n p (Made copy held at there) = inl (Made copy held at there)
more_was copies r after k pointer more from n p (UnderWay at there) = elim (after_set (cells_at r.stage) k (Out pointer) n (Out p) (ap (λ (cs : List Cell). slice_get cs n) (sym more.cells) ∙ there)) [
  | inl is ↦ inr (sym at ∙ more.place, is.0, same_out is.1)
  | inr other ↦ inl (UnderWay (sym more.place ∙ at) other.1)
]
  where
    same_out : Out p ≡ Out pointer → p ≡ pointer
    same_out e = cc

-- whose id is used in the old store, or that of no other pointer: an id that the old store does not use is still that of one column
pub once_more : (old : Store) (copies : List Copied) (r after : Rewriting) (k : ℕ) (pointer : Pointer) → IsMore r after k pointer
    → ((from : Tid) (n : ℕ) (p : Pointer) → HasPointer copies r from n p → p.value_id ≡ pointer.value_id → is_used old pointer.value_id ≡ false → ⊥)
    → AreChunks old copies r → (from other : Tid) (n j : ℕ) (p q : Pointer) → HasPointer copies after from n p → HasPointer copies after other j q → p.value_id ≡ q.value_id → is_used old p.value_id ≡ false → (from ≡ other) × (n ≡ j)
once_more old copies r after k pointer more fresh chunks from other n j p q first second same unused = elim (more_was copies r after k pointer more from n p first) [
  | inl had ↦ elim (more_was copies r after k pointer more other j q second) [
    | inl its ↦ chunks.once from other n j p q had its same unused
    | inr is ↦ absurd (fresh from n p had (same ∙ ap (λ (x : Pointer). x.value_id) is.2) (ap (is_used old) (sym (same ∙ ap (λ (x : Pointer). x.value_id) is.2)) ∙ unused))
  ]
  | inr here ↦ elim (more_was copies r after k pointer more other j q second) [
    | inl its ↦ absurd (fresh other j q its (sym same ∙ ap (λ (x : Pointer). x.value_id) here.2) (ap (λ (x : Pointer). is_used old x.value_id) (sym here.2) ∙ unused))
    | inr is ↦ (here.0 ∙ sym is.0, here.1 ∙ sym is.1)
  ]
]

-- a value that the new relation has gets its pointer
pub chunks_shared : (old : Store) (copies : List Copied) (r : Rewriting) (stage : RewriteStage) (k : ℕ) (pointer : Pointer) → busy_at stage ≡ busy_at r.stage → put_at stage ≡ put_at r.stage → IsMore r (at_stage r stage) k pointer
    → (is_used old pointer.value_id ≡ false → ⊥) → AreChunks old copies r → AreChunks old copies (at_stage r stage)
chunks_shared old copies r stage k pointer busy put more used chunks = record {
  each = λ tid chunk there. one tid chunk (chunks.each tid chunk there);
  undead = chunks.undead;
  once = once_more old copies r (at_stage r stage) k pointer more (λ from n p has same unused. used unused) chunks;
}
  where
    one : (tid : Tid) (chunk : Chunk) → IsNewChunk copies r tid chunk → IsNewChunk copies (at_stage r stage) tid chunk
    one tid chunk is = record {
      inserter = is.inserter;
      ender = is.ender;
      owned = elim is.owned [
        | inl on_its_way ↦ inl (busy ∙ on_its_way)
        | inr owned ↦ inr (owned_stays copies copies r (at_stage r stage) chunk.value_id (more_stays copies r (at_stage r stage) k pointer more) owned)
      ];
      named = elim is.named [ inl next ↦ inl (put ∙ next) | inr named ↦ inr named ];
    }

-- ---- pieces

-- a chunk after a step of the pieces: one that was there, which is named or comes next, or the piece that was put, whose entry comes next
pub record IsLaid (old later : Store) (job after : Piecing) (tid : Tid) (chunk : Chunk) : Type 0 where
  pub is : (item_in old.rel.pages tid ≡ Some chunk) ⊎ ((chunk.inserter ≡ job.xid) × (chunk.ender ≡ None) × (chunk.value_id ≡ job.value_id) × (put_by after.stage ≡ Some tid))
  pub stays : (put_by job.stage ≡ Some tid) ⊎ IsNamed old.index.entries tid → (put_by after.stage ≡ Some tid) ⊎ IsNamed later.index.entries tid

pub piece_laid : (old later : Store) (job after : Piecing) (tid : Tid) (chunk : Chunk) → PiecesStep old job later after → item_in later.rel.pages tid ≡ Some chunk → IsLaid old later job after tid chunk
piece_laid old later job after tid chunk step there = by_stage job.stage refl (ap (λ (j : Piecing). j.stage) step.job) step.rel step.index
  where
    by_stage : (s : PieceStage) → job.stage ≡ s → after.stage ≡ pieces_after old.rel job.value s → later.rel ≡ rel_after old.rel job s → IsIndexAfter job.value_id s old.index later.index → IsLaid old later job after tid chunk
    by_stage (Putting seq) at then rel index = record {
      is = elim (chunk_of-put (tuple_size job.value seq) (chunk_of job seq) old.rel.pages tid) [
        | inl same ↦ inl (sym same ∙ ap (λ (r : chunks.Relation). item_in r.pages tid) (sym rel) ∙ there)
        | inr here ↦
            let c : chunk ≡ chunk_of job seq = same_Some chunk (chunk_of job seq) (sym there ∙ ap (λ (r : chunks.Relation). item_in r.pages tid) rel ∙ here.1) in
            inr (ap (λ (x : Chunk). x.inserter) c, ap (λ (x : Chunk). x.ender) c, ap (λ (x : Chunk). x.value_id) c, ap put_by then ∙ ap (λ (t : Tid). Some t) (sym here.0))
      ];
      stays = λ was. elim was [
        | inl next ↦ absurd (none-some tid (ap put_by (sym at) ∙ next))
        | inr named ↦ inr (record { entry = named.entry; there = subst (λ (i : Index). Contains i.entries named.entry) (sym index) named.there; names = named.names })
      ];
    }
    by_stage (Indexing seq put) at then rel index = record {
      is = inl (ap (λ (r : chunks.Relation). item_in r.pages tid) (sym rel) ∙ there);
      stays = λ was. elim was [
        | inl next ↦
            let here : put ≡ tid = same_Some put tid (ap put_by (sym at) ∙ next) in
            let e : Entry = record { value_id = job.value_id; seq = seq; tid = put } in
            inr (record { entry = e; there = subst (λ (es : List Entry). Contains es e) (sym index.entries) (entry_added old.index.entries e); names = here })
        | inr named ↦
            let e : Entry = record { value_id = job.value_id; seq = seq; tid = put } in
            inr (record { entry = named.entry; there = subst (λ (es : List Entry). Contains es named.entry) (sym index.entries) (entry_stays old.index.entries e named.entry named.there); names = named.names })
      ];
    }
    by_stage Over at then rel index = record {
      is = inl (ap (λ (r : chunks.Relation). item_in r.pages tid) (sym rel) ∙ there);
      stays = λ was. elim was [
        | inl next ↦ absurd (none-some tid (ap put_by (sym at) ∙ next))
        | inr named ↦ inr (record { entry = named.entry; there = subst (λ (i : Index). Contains i.entries named.entry) (sym index) named.there; names = named.names })
      ];
    }

-- no slot is dead after it, if none was
undead_laid : (old later : Store) (job after : Piecing) → PiecesStep old job later after → ((tid : Tid) → IsDead (slot_of old.rel.pages tid) → ⊥) → (tid : Tid) → IsDead (slot_of later.rel.pages tid) → ⊥
undead_laid old later job after step undead tid dead = by_stage job.stage step.rel
  where
    by_stage : (s : PieceStage) → later.rel ≡ rel_after old.rel job s → ⊥
    by_stage (Putting seq) rel = elim (slot_of-put (tuple_size job.value seq) (chunk_of job seq) old.rel.pages tid) [
      | inl same ↦ undead tid (subst (λ line. IsDead line) (ap (λ (r : chunks.Relation). slot_of r.pages tid) rel ∙ same) dead)
      | inr put ↦ subst (λ line. IsDead line) (ap (λ (r : chunks.Relation). slot_of r.pages tid) rel ∙ put.1) dead
    ]
    by_stage (Indexing seq put) rel = undead tid (subst (λ (r : chunks.Relation). IsDead (slot_of r.pages tid)) rel dead)
    by_stage Over rel = undead tid (subst (λ (r : chunks.Relation). IsDead (slot_of r.pages tid)) rel dead)

-- each chunk after such a step, where the value that is on its way stays so, or is then owned
pub each_laid : (copies : List Copied) (r after : Rewriting) (job next : Piecing) → PiecesStep r.toast job after.toast next → job.xid ≡ r.xid → after.xid ≡ r.xid → busy_at r.stage ≡ Some job.value_id → put_at r.stage ≡ put_by job.stage → put_at after.stage ≡ put_by next.stage
    → PointersStay copies r copies after → (busy_at after.stage ≡ Some job.value_id) ⊎ IsOwned copies after job.value_id
    → ((tid : Tid) (chunk : Chunk) → item_in r.toast.rel.pages tid ≡ Some chunk → IsNewChunk copies r tid chunk) → (tid : Tid) (chunk : Chunk) → item_in after.toast.rel.pages tid ≡ Some chunk → IsNewChunk copies after tid chunk
each_laid copies r after job next step by same busy put then stay mine each tid chunk there = elim laid.is [
  | inl was ↦ let is = each tid chunk was in record {
    inserter = is.inserter ∙ sym same;
    ender = is.ender;
    owned = elim is.owned [
      | inl on_its_way ↦ under (same_Some chunk.value_id job.value_id (sym on_its_way ∙ busy))
      | inr owned ↦ inr (owned_stays copies copies r after chunk.value_id stay owned)
    ];
    named = named (elim is.named [ inl next_one ↦ inl (sym put ∙ next_one) | inr has ↦ inr has ]);
  }
  | inr new ↦ record { inserter = new.0 ∙ by ∙ sym same; ender = new.1; owned = under new.2; named = inl (then ∙ new.3) }
]
  where
    laid : IsLaid r.toast after.toast job next tid chunk
    laid = piece_laid r.toast after.toast job next tid chunk step there

    under : chunk.value_id ≡ job.value_id → (busy_at after.stage ≡ Some chunk.value_id) ⊎ IsOwned copies after chunk.value_id
    under is = subst (λ (n : ℕ). (busy_at after.stage ≡ Some n) ⊎ IsOwned copies after n) (sym is) mine

    named : (put_by job.stage ≡ Some tid) ⊎ IsNamed r.toast.index.entries tid → (put_at after.stage ≡ Some tid) ⊎ IsNamed after.toast.index.entries tid
    named was = elim (laid.stays was) [ inl next_one ↦ inl (then ∙ next_one) | inr has ↦ inr has ]

-- ---- where no value is on its way

pub idle_put : (s : RewriteStage) → busy_at s ≡ None → put_at s ≡ None
idle_put Visiting idle = refl
idle_put (Filling copy) idle = refl
idle_put (Reading copy at fetch) idle = refl
idle_put (Placing copy columns at) idle = refl
idle_put (Laying copy columns at job) idle = absurd (none-some (Piecing.value_id job) (sym idle))
idle_put Ready idle = refl

-- before the first step there is no chunk
pub chunks_none : (old : Store) (r : Rewriting) → ((tid : Tid) → item_in r.toast.rel.pages tid ≡ None) → ((tid : Tid) → IsDead (slot_of r.toast.rel.pages tid) → ⊥) → cells_at r.stage ≡ [] → AreChunks old [] r
chunks_none old r empty undead cells = record {
  each = λ tid chunk there. absurd (none-some chunk (sym (empty tid) ∙ there));
  undead = undead;
  once = λ from other n k p q first second same unused. absurd (no_pointer from n p first);
}
  where
    no_pointer : (from : Tid) (n : ℕ) (p : Pointer) → HasPointer [] r from n p → ⊥
    no_pointer from n p (Made copy held at there) = none_in_nil copy held
    no_pointer from n p (UnderWay at there) = none-some (Out p) (ap (λ (cs : List Cell). slice_get cs n) (sym cells) ∙ there)

-- ---- a value that goes on its way, and its last piece

-- the pieces go on
pub chunks_laid : (old : Store) (copies : List Copied) (r after : Rewriting) (job next : Piecing) → PiecesStep r.toast job after.toast next → job.xid ≡ r.xid → after.xid ≡ r.xid → after.place ≡ r.place → busy_at r.stage ≡ Some job.value_id → put_at r.stage ≡ put_by job.stage → put_at after.stage ≡ put_by next.stage
    → cells_at after.stage ≡ cells_at r.stage → busy_at after.stage ≡ Some job.value_id → AreChunks old copies r → AreChunks old copies after
chunks_laid old copies r after job next step by same place busy put then cells still chunks = record {
  each = each_laid copies r after job next step by same busy put then stay (inl still) chunks.each;
  undead = undead_laid r.toast after.toast job next step chunks.undead;
  once = λ from other n k p q first second id unused. chunks.once from other n k p q (back from n p first) (back other k q second) id unused;
}
  where
    stay : PointersStay copies r copies after
    stay = pointers_by copies r after place (λ n p there. ap (λ (cs : List Cell). slice_get cs n) cells ∙ there)

    back : PointersStay copies after copies r
    back = pointers_by copies after r (sym place) (λ n p there. ap (λ (cs : List Cell). slice_get cs n) (sym cells) ∙ there)

-- or the last was put: its column has the pointer, and no other has its id
pub chunks_over : (old : Store) (copies : List Copied) (r after : Rewriting) (job next : Piecing) (k : ℕ) (pointer : Pointer) → PiecesStep r.toast job after.toast next → job.xid ≡ r.xid → after.xid ≡ r.xid → busy_at r.stage ≡ Some job.value_id → put_at r.stage ≡ put_by job.stage → put_at after.stage ≡ put_by next.stage
    → IsMore r after k pointer → pointer.value_id ≡ job.value_id → ((from : Tid) (n : ℕ) (p : Pointer) → HasPointer copies r from n p → p.value_id ≡ pointer.value_id → ⊥) → AreChunks old copies r → AreChunks old copies after
chunks_over old copies r after job next k pointer step by same busy put then more id fresh chunks = record {
  each = each_laid copies r after job next step by same busy put then (more_stays copies r after k pointer more) (inr owned) chunks.each;
  undead = undead_laid r.toast after.toast job next step chunks.undead;
  once = once_more old copies r after k pointer more (λ from n p has its unused. fresh from n p has its) chunks;
}
  where
    owned : IsOwned copies after job.value_id
    owned = record { from = r.place; column = k; pointer = pointer; has = more_has copies r after k pointer more; id = id }
