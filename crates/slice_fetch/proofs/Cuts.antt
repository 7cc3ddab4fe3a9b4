-- Pieces of a value joined and cut, and the spans of slices.
use Rattle.std.proofs.Common.{ℕ, ◌≡◌, ◌+◌, ◌-◌, ◌*◌, ◌/◌, ◌<◌, ◌≤◌, List, ◌++◌, take, drop, refl, sym, ◌∙◌, ap, arith, zero, suc}
use Rattle.std.proofs.lemmas.List.{drop-take, take-take, drop-drop}
use Rattle.std.proofs.Math.Seq.{take-add}
use Rattle.std.specs.List.{slice_range, flat_map, range_with_len}
use Rattle.slice_fetch.specs.declared.Span.{Span}
use Rattle.slice_fetch.specs.Spans.{bytes_in, chunk_size, piece, pieces_joined, seen_from}

-- so many pieces joined are so many bytes of the value
pub pieces_are : (bytes : List ℕ) (first n : ℕ) → flat_map (piece bytes) (range_with_len first n) ≡ take (chunk_size * n) (drop (chunk_size * first) bytes)
pieces_are bytes first zero = refl
pieces_are bytes first (suc n) =
    let rest = drop (chunk_size * first) bytes in
    let more : chunk_size * suc n ≡ chunk_size + chunk_size * n = omega arith in
    let next : chunk_size * (first + 1) ≡ chunk_size * first + chunk_size = omega arith in
    ap (λ later. piece bytes first ++ later) (pieces_are bytes (first + 1) n ∙ ap (λ k. take (chunk_size * n) (drop k bytes)) next ∙ ap (λ later. take (chunk_size * n) later) (sym (drop-drop chunk_size (chunk_size * first) bytes)))
    ∙ sym (ap (λ k. take k rest) more ∙ take-add chunk_size (chunk_size * n) rest)

-- a part of a part
pub part_of_part : (bytes : List ℕ) (from most start end : ℕ) → from ≤ start → start ≤ end → end ≤ from + most → slice_range (take most (drop from bytes)) (start - from) (end - from) ≡ slice_range bytes start end
part_of_part bytes from most start end h i j =
    let skipped = start - from in
    let left = most - (start - from) in
    let all : most ≡ skipped + left = omega arith in
    let len : end - from - (start - from) ≡ end - start = omega arith in
    let place : from + (start - from) ≡ start = omega arith in
    ap (λ k. take k (drop skipped (take most (drop from bytes)))) len
    ∙ ap (λ k. take (end - start) (drop skipped (take k (drop from bytes)))) all
    ∙ ap (λ later. take (end - start) later) (drop-take skipped left (drop from bytes))
    ∙ take-take (end - start) left (drop skipped (drop from bytes)) (omega arith)
    ∙ ap (λ later. take (end - start) later) (drop-drop skipped from bytes ∙ ap (λ k. drop k bytes) place)

-- the pieces of a span, cut to it, are its bytes
pub pieces_cut : (bytes : List ℕ) (span : Span) → span.start < span.end
    → bytes_in (seen_from (span.start / chunk_size) span) (pieces_joined bytes (span.start / chunk_size) ((span.end - 1) / chunk_size)) ≡ bytes_in span bytes
pieces_cut bytes span some =
    rw (pieces_are bytes (span.start / chunk_size) ((span.end - 1) / chunk_size + 1 - span.start / chunk_size))
    (part_of_part bytes (chunk_size * (span.start / chunk_size)) (chunk_size * ((span.end - 1) / chunk_size + 1 - span.start / chunk_size)) span.start span.end (omega arith) (omega arith) (omega arith))
