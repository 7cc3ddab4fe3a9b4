-- The bytes of a value out of line: what its chunks give where it is whole, and who leaves them.
use Rattle.std.proofs.Common.{ℕ, ◌≡◌, ◌+◌, ◌*◌, zero, suc, List, [], ◌∷◌, ◌++◌, length, map, take, drop, Contains, sym, ap, ◌∙◌, refl, subst, arith}
use Rattle.std.specs.List.{flat_map, range_with_len}
use Rattle.std.proofs.lemmas.List.{take_all, drop-drop}
use Rattle.std.proofs.Math.Seq.{take-add}
use Rattle.external_pointer.specs.declared.external.Pointer.{Pointer}
use Rattle.slot_page.specs.declared.line.Tid.{Tid}
use Rattle.slice_fetch.specs.Spans.{chunk_size, piece}
use Rattle.xact_status.specs.Xacts.{Xacts}
use Rattle.chunk_relation.specs.declared.chunk.Chunk.{Chunk}
use Rattle.chunk_index.specs.Leaves.{Leaf}
use Rattle.toast_store.specs.Stores.{Store, chunks_of}
use Rattle.toast_store.specs.Values.{Piece, Whole, piece_count, piece_in, value_in}
use Rattle.toast_store.specs.Between.{LeavesValue, Ends, IsSpared, Prunes, Reaps, Sweeps}
use Rattle.toast_store.proofs.Kept.{end_leaves_value_pieces, prune_leaves, reap_leaves, sweep_leaves, whole_kept}

-- what is made of what was made of each, joined
flat_map-map : {X Y Z : Type 0} (g : Y → List Z) (f : X → Y) (xs : List X) → flat_map g (map f xs) ≡ flat_map (λ x. g (f x)) xs
flat_map-map g f [] = refl
flat_map-map g f (x ∷ xs) = ap (λ ys. g (f x) ++ ys) (flat_map-map g f xs)

-- pieces in a row are a part of the value
pieces_joined : (value : List ℕ) (n a : ℕ) → flat_map (piece value) (range_with_len a n) ≡ take (chunk_size * n) (drop (chunk_size * a) value)
pieces_joined value zero a = refl
pieces_joined value (suc n) a =
    let size : chunk_size * suc n ≡ chunk_size + chunk_size * n = omega arith in
    let place : chunk_size * a + chunk_size ≡ chunk_size * (a + 1) = omega arith in
    ap (λ later. piece value a ++ later) (pieces_joined value n (a + 1))
    ∙ sym (ap (λ m. take m (drop (chunk_size * a) value)) size ∙ take-add chunk_size (chunk_size * n) (drop (chunk_size * a) value) ∙ ap (λ ys. piece value a ++ take (chunk_size * n) ys) (drop-drop chunk_size (chunk_size * a) value ∙ ap (λ k. drop k value) place))

-- all of them are the value
all_joined : (value : List ℕ) → flat_map (piece value) (range_with_len 0 (piece_count (length value))) ≡ value
all_joined value = pieces_joined value (piece_count (length value)) 0 ∙ take_all (chunk_size * piece_count (length value)) value (omega arith)

-- where a value is whole, its chunks give its bytes
pub value_whole : (store : Store) (pointer : Pointer) (value : List ℕ) → Whole store pointer value → value_in store pointer ≡ value
value_whole store pointer value whole =
    sym (flat_map-map (λ (p : Piece). p.bytes) piece_in (chunks_of store pointer.value_id))
    ∙ ap (flat_map (λ (p : Piece). p.bytes)) whole.chunks
    ∙ flat_map-map (λ (p : Piece). p.bytes) (λ (seq : ℕ). record { seq = seq; bytes = piece value seq }) (range_with_len 0 (piece_count (length value)))
    ∙ all_joined value

-- who leaves the chunks leaves the bytes
pub value_left : (old new : Store) (pointer : Pointer) → LeavesValue pointer.value_id old new → value_in new pointer ≡ value_in old pointer
value_left old new pointer left = ap (flat_map (λ (c : Chunk). c.bytes)) left

-- and so does who ends one of them
pub end_keeps_value : (old new : Store) (tid : Tid) (xid : ℕ) (pointer : Pointer) → Ends old new tid xid → value_in new pointer ≡ value_in old pointer
end_keeps_value old new tid xid pointer ends =
    sym (flat_map-map (λ (p : Piece). p.bytes) piece_in (chunks_of new pointer.value_id))
    ∙ ap (flat_map (λ (p : Piece). p.bytes)) (end_leaves_value_pieces old new tid xid pointer.value_id ends)
    ∙ flat_map-map (λ (p : Piece). p.bytes) piece_in (chunks_of old pointer.value_id)

-- who leaves the chunks leaves them spared
pub spared_left : (old new : Store) (value_id : ℕ) (xacts : Xacts) (horizon : ℕ) → LeavesValue value_id old new → IsSpared old value_id xacts horizon → IsSpared new value_id xacts horizon
spared_left old new value_id xacts horizon left spared = record { each = λ chunk held. spared.each chunk (subst (λ (cs : List Chunk). Contains cs chunk) left held) }

-- a whole value stays whole through a prune that spares it, and through each sweep and reap of dead slots
pub prune_keeps_whole : (old new : Store) (xacts : Xacts) (horizon page : ℕ) (pointer : Pointer) (value : List ℕ) → Prunes old new xacts horizon page → IsSpared old pointer.value_id xacts horizon → Whole old pointer value → Whole new pointer value
prune_keeps_whole old new xacts horizon page pointer value prunes spared whole = whole_kept old new pointer value (prune_leaves old new xacts horizon page pointer.value_id prunes spared) whole

pub sweep_keeps_whole : (old new : Store) (leaf : Leaf) (dead : List Tid) (pointer : Pointer) (value : List ℕ) → Sweeps old new leaf dead → Whole old pointer value → Whole new pointer value
sweep_keeps_whole old new leaf dead pointer value sweeps whole = whole_kept old new pointer value (sweep_leaves old new leaf dead pointer.value_id sweeps) whole

pub reap_keeps_whole : (old new : Store) (tid : Tid) (pointer : Pointer) (value : List ℕ) → Reaps old new tid → Whole old pointer value → Whole new pointer value
reap_keeps_whole old new tid pointer value reaps whole = whole_kept old new pointer value (reap_leaves old new tid pointer.value_id reaps) whole
