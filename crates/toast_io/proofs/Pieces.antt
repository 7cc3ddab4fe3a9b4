-- One read of a source in memory.
use Rattle.std.proofs.Common.{◌≡◌, ◌≤◌, ◌<◌, ◌+◌, ◌-◌, ℕ, List, [], ◌++◌, length, min, take, drop, sym, ap, ◌∙◌, arith, length-append, length-drop}
use Rattle.std.proofs.lemmas.List.{length-take-le, nil_from_length, take-append-drop, take_at, take_rest, drop-drop}

-- the rest of the bytes as they lie there, under either name
pub rest_of : (bytes same : List ℕ) (at : ℕ) → same ≡ bytes → take (length same - at) (drop at same) ≡ drop at bytes
rest_of bytes same at is = take_rest same at ∙ ap (drop at) is

-- what was copied to the front of the buffer is what the rest loses
pub piece_given : (unread bytes rest copied tail : List ℕ) (at count : ℕ) → drop at bytes ≡ unread → rest ≡ drop at bytes → count ≤ length rest → copied ≡ take count rest
    → unread ≡ take count (copied ++ tail) ++ drop (at + count) bytes
piece_given unread bytes rest copied tail at count view is fits same =
    let size : length copied ≡ count = ap length same ∙ length-take-le count rest fits in
    let given : take count (copied ++ tail) ≡ take count rest = take_at copied tail count size ∙ same in
    let left : drop (at + count) bytes ≡ drop count rest = sym (ap (drop count) is ∙ drop-drop count at bytes) in
    rw (given, left) (sym view ∙ (sym is ∙ sym (take-append-drop count rest)))

-- nothing is given to a buffer that is not empty only at the end
pub piece_end : (bytes rest copied buffer : List ℕ) (at count piece : ℕ) → rest ≡ drop at bytes → count ≡ min (min piece (length buffer)) (length rest) → 0 < piece
    → copied ≡ take count rest → count ≡ 0 → 0 < length (copied ++ drop count buffer) → drop (at + count) bytes ≡ []
piece_end bytes rest copied buffer at count piece is amount some same none room =
    let fits : count ≤ length rest = omega arith in
    let size : length copied ≡ count = ap length same ∙ length-take-le count rest fits in
    let nothing : length rest ≡ 0 = omega (arith, length-append copied (drop count buffer), length-drop count buffer) in
    nil_from_length (drop (at + count) bytes) (omega (arith, length-drop (at + count) bytes, ap length is, length-drop at bytes))
