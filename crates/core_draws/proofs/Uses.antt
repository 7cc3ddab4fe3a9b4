-- Which ids are in use after a change of a store, and after one of the ids in hand.
use Rattle.std.proofs.Common.{ap, arith, inl, inr, refl, ◌∙◌}
use Rattle.std.proofs.lemmas.Bool.Decides.{nat_tests}
use Rattle.std.specs.List.{cons_option, list_any}
use Rattle.std.specs.Prelude.{Bool, Contains, List, None, Option, Some, [], false, if◌then◌else◌, is_some, map, not, true, ℕ, ◌&&◌, ◌==◌, ◌||◌, ◌∷◌, ◌≡◌, ◌≢◌, ◌⊎◌}
use Rattle.list_facts.proofs.Members.{cases_in, none_in_nil}
use Rattle.slot_page.specs.Pages.{item_in}
use Rattle.chunk_relation.specs.Relations.{Pages, Relation, with_ended}
use Rattle.chunk_relation.specs.declared.chunk.Chunk.{Chunk}
use Rattle.chunk_index.specs.Entries.{of_id}
use Rattle.chunk_index.specs.Indexes.{Index}
use Rattle.chunk_index.specs.declared.entry.Entry.{Entry}
use Rattle.value_ids.specs.Ids.{is_held, released}
use Rattle.value_ids.specs.declared.pool.InHand.{InHand}
use Rattle.toast_store.proofs.Kept.{add_leaves, end_leaves_value_pieces, put_leaves}
use Rattle.toast_store.proofs.Laying.{unused_none}
use Rattle.toast_store.proofs.Walked.{entries_walked}
use Rattle.toast_store.specs.Marks.{Marking, marked, store_marked}
use Rattle.toast_store.specs.PieceJobs.{Piecing, PiecesStandAt, chunk_of, tuple_size}
use Rattle.toast_store.specs.Stores.{IsStore, Store, chunks_of, is_used, named_by}
use Rattle.toast_store.specs.Values.{piece_in}
use Rattle.toast_store.specs.Walks.{entry_at}
use Rattle.toast_store.specs.PieceJobs as pieces_job
use Rattle.toast_store.specs.declared.piece_job.PieceStage.{PieceStage}
use Rattle.toast_store.specs.declared.piece_job.PieceStage.TheVariants as pieces

-- ---- stores

clash : false ≡ true → ⊥
clash e = cc

-- entries of which one names a chunk give some
some_named : (pages : Pages) (entries : List Entry) → list_any (λ (e : Entry). is_some (item_in pages e.tid)) entries ≡ true → named_by pages entries ≢ []
some_named pages [] some = λ none. clash some
some_named pages (e ∷ es) some = by (item_in pages e.tid) some (some_named pages es)
  where
    by : (o : Option Chunk) → (is_some o || list_any (λ (f : Entry). is_some (item_in pages f.tid)) es) ≡ true → (list_any (λ (f : Entry). is_some (item_in pages f.tid)) es ≡ true → named_by pages es ≢ []) → cons_option o (named_by pages es) ≢ []
    by None some rest = rest some
    by (Some chunk) some rest = λ none. absurd (cc)

-- an id that is used has chunks; so it was used where it had none without having some now
pub used_before : (old new : Store) (id : ℕ) → (chunks_of old id ≡ [] → chunks_of new id ≡ []) → is_used new id ≡ true → is_used old id ≡ true
used_before old new id none used = by (is_used old id) refl
  where
    by : (b : Bool) → is_used old id ≡ b → is_used old id ≡ true
    by true is = is
    by false is = absurd (some_named new.rel.pages (of_id id new.index.entries) used (none (unused_none old id is)))

same_before : (old new : Store) (id : ℕ) → chunks_of new id ≡ chunks_of old id → is_used new id ≡ true → is_used old id ≡ true
same_before old new id same = used_before old new id (λ none. same ∙ none)

-- with the same chunks and entries the same ids are used
pub used_same : (old new : Store) (id : ℕ) → new.rel ≡ old.rel → new.index.entries ≡ old.index.entries → is_used new id ≡ true → is_used old id ≡ true
used_same old new id rel entries = same_before old new id (ap (λ (its : Relation). named_by its.pages (of_id id new.index.entries)) rel ∙ ap (λ (es : List Entry). named_by old.rel.pages (of_id id es)) entries)

map_nil : {X Y : Type 0} (f : X → Y) (xs ys : List X) → map f xs ≡ map f ys → ys ≡ [] → xs ≡ []
map_nil f [] ys same none = refl
map_nil f (x ∷ xs) [] same none = absurd (cc)
map_nil f (x ∷ xs) (y ∷ ys) same none = absurd (cc)

-- a step of a mark makes no id used
pub marked_before : (store : Store) (mark : Marking) (id : ℕ) → is_used (store_marked store mark) id ≡ true → is_used store id ≡ true
marked_before store mark id = by (entry_at mark.walk.stage)
  where
    by : (o : Option Entry) → is_used (record { rel = record store.rel { pages = marked mark.xid store.rel.pages o }; index = (store_marked store mark).index }) id ≡ true → is_used store id ≡ true
    by None = used_same store (record { rel = store.rel; index = (store_marked store mark).index }) id refl (entries_walked store.index mark.walk)
    by (Some e) = at (is_some (item_in store.rel.pages e.tid))
      where
        at : (b : Bool) → is_used (record { rel = record store.rel { pages = if b then with_ended mark.xid store.rel.pages e.tid else store.rel.pages }; index = (store_marked store mark).index }) id ≡ true → is_used store id ≡ true
        at true =
            let new : Store = record { rel = record store.rel { pages = with_ended mark.xid store.rel.pages e.tid }; index = (store_marked store mark).index } in
            used_before store new id (map_nil piece_in (chunks_of new id) (chunks_of store id) (end_leaves_value_pieces store new e.tid mark.xid id (record { pages = refl; entries = entries_walked store.index mark.walk })))
        at false = used_same store (record { rel = store.rel; index = (store_marked store mark).index }) id refl (entries_walked store.index mark.walk)

-- a step of the pieces of a value makes no other id used
pub laid_before : (old new : Store) (job : Piecing) (at : PieceStage) (id : ℕ) → IsStore old → PiecesStandAt old job at → new.rel ≡ pieces_job.rel_after old.rel job at → pieces_job.IsIndexAfter job.value_id at old.index new.index
    → job.value_id ≢ id → is_used new id ≡ true → is_used old id ≡ true
laid_before old new job (pieces.Putting seq) id is stands rel index differ =
    same_before old new id (put_leaves old new (tuple_size job.value seq) (chunk_of job seq) id is (record { pages = ap (λ (r : Relation). r.pages) rel; entries = ap (λ (i : Index). i.entries) index }))
laid_before old new job (pieces.Indexing seq tid) id is stands rel index differ =
    same_before old new id (add_leaves old new (record { value_id = job.value_id; seq = seq; tid = tid }) id
    (record { names = (chunk_of job seq, stands.1.there, refl, refl); pages = ap (λ (r : Relation). r.pages) rel; entries = index.entries }) differ)
laid_before old new job pieces.Over id is stands rel index differ = used_same old new id rel (ap (λ (i : Index). i.entries) index)

-- ---- both
-- an id in use is used, or in hand
pub in_use_cases : (a b : Bool) → (a || b) ≡ true → (a ≡ true) ⊎ (b ≡ true)
in_use_cases true b e = inl refl
in_use_cases false b e = inr e

pub used_in_use : (a b : Bool) → a ≡ true → (a || b) ≡ true
used_in_use true b e = refl
used_in_use false b e = absurd (clash e)

pub held_in_use : (a b : Bool) → b ≡ true → (a || b) ≡ true
held_in_use true b e = refl
held_in_use false b e = e

-- ---- ids in hand

-- none comes in hand where a session gives up its ids
pub released_before : (in_hand : List InHand) (s t id : ℕ) → is_held (released in_hand s) t id ≡ true → is_held in_hand t id ≡ true
released_before [] s t id held = held
released_before (one ∷ rest) s t id held = by (one.session == s) held (released_before rest s t id)
  where
    right : (a b : Bool) → b ≡ true → (a || b) ≡ true
    right true b e = refl
    right false b e = e

    first : (a b : Bool) → ((a || b) ≡ true) → (b ≡ true → is_held rest t id ≡ true) → (a || is_held rest t id) ≡ true
    first true b e later = refl
    first false b e later = later e

    by : (b : Bool) → is_held (if not b then one ∷ released rest s else released rest s) t id ≡ true → (is_held (released rest s) t id ≡ true → is_held rest t id ≡ true) → is_held (one ∷ rest) t id ≡ true
    by true e before = right ((one.table == t) && (one.id == id)) (is_held rest t id) (before e)
    by false e before = first ((one.table == t) && (one.id == id)) (is_held (released rest s) t id) e before

-- what is in hand is held
pub held_there : (in_hand : List InHand) (one : InHand) → Contains in_hand one → is_held in_hand one.table one.id ≡ true
held_there [] one e = absurd (none_in_nil one e)
held_there (held ∷ rest) one e = elim (cases_in held rest one e) [
  | inl is ↦
      let table = ap (λ (x : InHand). x.table) is in
      let id = ap (λ (x : InHand). x.id) is in
      grind (arith, nat_tests, table, id)
  | inr later ↦ held_in_use ((held.table == one.table) && (held.id == one.id)) (is_held rest one.table one.id) (held_there rest one later)
]
