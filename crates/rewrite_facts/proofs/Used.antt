-- Which ids a store uses, and values that are left, whole or shared.
use Rattle.std.proofs.Common.{◌≡◌, ◌≢◌, ℕ, zero, suc, ◌+◌, ◌<◌, Bool, true, false, ◌||◌, Option, Some, None, is_some, List, [], ◌∷◌, length, map, refl, sym, ap, ◌∙◌, subst, arith}
use Rattle.std.specs.List.{cons_option, list_any}
use Rattle.std.proofs.lemmas.Bool.{false≢true}
use Rattle.external_pointer.specs.declared.external.Pointer.{Pointer}
use Rattle.slot_page.specs.Pages.{item_in}
use Rattle.chunk_relation.specs.declared.chunk.Chunk.{Chunk}
use Rattle.chunk_relation.specs.Relations.{Pages}
use Rattle.chunk_index.specs.declared.entry.Entry.{Entry}
use Rattle.chunk_index.specs.Entries.{of_id}
use Rattle.toast_store.specs.Stores.{Store, chunks_of, is_used, named_by}
use Rattle.toast_store.specs.Values.{Piece, Whole, piece_count, piece_in, pieces_of, value_in}
use Rattle.toast_store.specs.Between.{LeavesValue}
use Rattle.toast_store.proofs.Kept.{whole_kept}
use Rattle.toast_store.proofs.Laying.{unused_none}
use Rattle.toast_store.proofs.ValueIn.{value_left, value_whole}
use Rattle.rewrite_facts.specs.Holds.{pieces_under}

-- whether a list has an element
abbrev has_some : {X : Type 0} → List X → Bool
has_some [] = false
has_some (x ∷ xs) = true

used_from : (pages : Pages) (entries : List Entry) → list_any (λ (e : Entry). is_some (item_in pages e.tid)) entries ≡ has_some (named_by pages entries)
used_from pages [] = refl
used_from pages (e ∷ es) = by_item (item_in pages e.tid) (used_from pages es)
  where
    by_item : (o : Option Chunk) → list_any (λ (f : Entry). is_some (item_in pages f.tid)) es ≡ has_some (named_by pages es)
        → (is_some o || list_any (λ (f : Entry). is_some (item_in pages f.tid)) es) ≡ has_some (cons_option o (named_by pages es))
    by_item None later = later
    by_item (Some chunk) later = refl

-- an id is used where a chunk is under it
used_is : (store : Store) (id : ℕ) → is_used store id ≡ has_some (chunks_of store id)
used_is store id = used_from store.rel.pages (of_id id store.index.entries)

-- so who leaves the chunks leaves that
pub used_left : (old new : Store) (id : ℕ) → LeavesValue id old new → is_used new id ≡ is_used old id
used_left old new id left = used_is new id ∙ ap has_some left ∙ sym (used_is old id)

length-pieces : (value : List ℕ) (first n : ℕ) → length (pieces_of value first n) ≡ n
length-pieces value first zero = refl
length-pieces value first (suc n) = ap (λ k. suc k) (length-pieces value (first + 1) n)

-- the id of a whole value that is not empty is used
pub whole_used : (store : Store) (pointer : Pointer) (value : List ℕ) → 0 < length value → Whole store pointer value → is_used store pointer.value_id ≡ true
whole_used store pointer value some whole = by_test (is_used store pointer.value_id) refl
  where
    count : 0 < piece_count (length value)
    count = omega (arith, some)

    none : chunks_of store pointer.value_id ≡ [] → ⊥
    none empty =
        let lens : 0 ≡ piece_count (length value) = ap (λ (cs : List Chunk). length (map piece_in cs)) (sym empty) ∙ ap (λ (ps : List Piece). length ps) whole.chunks ∙ length-pieces value 0 (piece_count (length value)) in
        omega (arith, lens, count)

    by_test : (b : Bool) → is_used store pointer.value_id ≡ b → is_used store pointer.value_id ≡ true
    by_test true is = is
    by_test false is = absurd (none (unused_none store pointer.value_id is))

-- so an id that is not used is not that of such a value
pub whole_other : (store : Store) (pointer : Pointer) (value : List ℕ) (id : ℕ) → 0 < length value → Whole store pointer value → is_used store id ≡ false → Some id ≢ Some pointer.value_id
whole_other store pointer value id some whole unused same =
    let is : id ≡ pointer.value_id = cc in
    false≢true (sym unused ∙ ap (is_used store) is ∙ whole_used store pointer value some whole)

-- a value that is left is whole with the same bytes
pub whole_left : (old new : Store) (pointer : Pointer) → LeavesValue pointer.value_id old new → Whole old pointer (value_in old pointer) → Whole new pointer (value_in new pointer)
whole_left old new pointer left whole = subst (Whole new pointer) (sym (value_left old new pointer left)) (whole_kept old new pointer (value_in old pointer) left whole)

-- a whole value has its bytes
pub whole_value : (store : Store) (pointer : Pointer) (value : List ℕ) → Whole store pointer value → Whole store pointer (value_in store pointer)
whole_value store pointer value whole = subst (Whole store pointer) (sym (value_whole store pointer value whole)) whole

-- the same pieces under an id in two stores: a value that is whole in one is so in the other
pub whole_shared : (old new : Store) (p q : Pointer) (value : List ℕ) → q.value_id ≡ p.value_id → q.size ≡ length value → pieces_under new p.value_id ≡ pieces_under old p.value_id → Whole old p value → Whole new q value
whole_shared old new p q value id size same whole = record { chunks = ap (pieces_under new) id ∙ same ∙ whole.chunks; size = size }
