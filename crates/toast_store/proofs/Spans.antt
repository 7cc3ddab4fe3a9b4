-- The parts of a span that lie in the pieces of a value, joined.
use Rattle.std.proofs.Common.{ℕ, ◌≡◌, ◌+◌, ◌-◌, ◌*◌, ◌/◌, ◌<◌, ◌≤◌, zero, suc, inl, inr, nat_lt, List, ◌++◌, length, take, drop, min, max, sym, ap, ◌∙◌, arith}
use Rattle.std.specs.List.{slice_range, flat_map, range_with_len}
use Rattle.std.proofs.lemmas.Bool.{cases_lt, cond-true, lt-ltb}
use Rattle.std.proofs.lemmas.List.{take_all, drop-drop, length-take, length-drop}
use Rattle.std.proofs.Math.Seq.{take-add}
use Rattle.slice_fetch.specs.declared.Span.{Span}
use Rattle.slice_fetch.specs.Spans.{bytes_in, chunk_size, piece}
use Rattle.slice_fetch.proofs.Cuts.{part_of_part}
use Rattle.toast_store.specs.Fetches.{first_of, end_of, part_of}

-- what lies beyond the end of a list adds nothing to a part of it
capped : (xs : List ℕ) (most from to : ℕ) → length xs ≤ most → slice_range xs from to ≡ slice_range xs from (min to most)
capped xs most from to few = elim (cases_lt most to) [
  | inl beyond ↦
      let is : min to most ≡ most = omega (arith, beyond) in
      let left = length-drop from xs in
      take_all (to - from) (drop from xs) (omega (arith, beyond, left)) ∙ sym (take_all (most - from) (drop from xs) (omega (arith, left))) ∙ ap (slice_range xs from) (sym is)
  | inr within ↦ let is : min to most ≡ to = omega (arith, within) in ap (slice_range xs from) (sym is)
]

-- two parts side by side are one
parts_joined : (xs : List ℕ) (a b c : ℕ) → a ≤ b → b ≤ c → slice_range xs a b ++ slice_range xs b c ≡ slice_range xs a c
parts_joined xs a b c h i =
    let len : c - a ≡ (b - a) + (c - b) = omega arith in
    let place : a + (b - a) ≡ b = omega arith in
    sym (ap (λ n. take n (drop a xs)) len ∙ take-add (b - a) (c - b) (drop a xs) ∙ ap (λ ys. slice_range xs a b ++ take (c - b) ys) (drop-drop (b - a) a xs ∙ ap (λ n. drop n xs) place))

-- the part of a span in a piece is a part of the value
part_is : (value : List ℕ) (span : Span) (seq : ℕ) → span.start ≤ span.end → span.start < chunk_size * (seq + 1) → chunk_size * seq < span.end
    → part_of span seq (piece value seq) ≡ slice_range value (max span.start (chunk_size * seq)) (min span.end (chunk_size * (seq + 1)))
part_is value span seq ordered starts ends =
    let from = chunk_size * seq in
    let few : length (piece value seq) ≤ chunk_size = omega (arith, length-take chunk_size (drop from value)) in
    let start : span.start - from ≡ max span.start from - from = omega arith in
    let end : min (span.end - from) chunk_size ≡ min span.end (chunk_size * (seq + 1)) - from = omega arith in
    capped (piece value seq) chunk_size (span.start - from) (span.end - from) few
    ∙ ap (λ k. slice_range (piece value seq) k (min (span.end - from) chunk_size)) start
    ∙ ap (slice_range (piece value seq) (max span.start from - from)) end
    ∙ part_of_part value from chunk_size (max span.start from) (min span.end (chunk_size * (seq + 1))) (omega arith) (omega arith) (omega arith)

-- those of so many pieces in a row are too
parts_are : (value : List ℕ) (span : Span) (n seq : ℕ) → span.start ≤ span.end → span.start < chunk_size * (seq + 1) → chunk_size * (seq + n) < span.end + chunk_size
    → flat_map (λ k. part_of span k (piece value k)) (range_with_len seq n) ≡ slice_range value (max span.start (chunk_size * seq)) (max (max span.start (chunk_size * seq)) (min span.end (chunk_size * (seq + n))))
parts_are value span zero seq ordered starts ends =
    let none : max (max span.start (chunk_size * seq)) (min span.end (chunk_size * (seq + 0))) - max span.start (chunk_size * seq) ≡ 0 = omega arith in
    ap (λ n. take n (drop (max span.start (chunk_size * seq)) value)) (sym none)
parts_are value span (suc n) seq ordered starts ends =
    let y = min span.end (chunk_size * (seq + 1)) in
    let z = max (max span.start (chunk_size * seq)) (min span.end (chunk_size * (seq + suc n))) in
    ap (λ later. part_of span seq (piece value seq) ++ later) (parts_are value span n (seq + 1) ordered (omega arith) (omega arith))
    ∙ ap (λ part. part ++ slice_range value (max span.start (chunk_size * (seq + 1))) (max (max span.start (chunk_size * (seq + 1))) (min span.end (chunk_size * (seq + 1 + n))))) (part_is value span seq ordered starts (omega arith))
    ∙ ap (λ later. slice_range value (max span.start (chunk_size * seq)) y ++ later) (elim (cases_lt 0 n) [
      | inl some ↦
          let from : max span.start (chunk_size * (seq + 1)) ≡ y = omega (arith, some) in
          let to : max (max span.start (chunk_size * (seq + 1))) (min span.end (chunk_size * (seq + 1 + n))) ≡ z = omega (arith, some) in
          ap (λ k. slice_range value k (max (max span.start (chunk_size * (seq + 1))) (min span.end (chunk_size * (seq + 1 + n))))) from ∙ ap (slice_range value y) to
      | inr last ↦
          let none : max (max span.start (chunk_size * (seq + 1))) (min span.end (chunk_size * (seq + 1 + n))) - max span.start (chunk_size * (seq + 1)) ≡ 0 = omega (arith, last) in
          let none_here : z - y ≡ 0 = omega (arith, last) in
          ap (λ k. take k (drop (max span.start (chunk_size * (seq + 1))) value)) none ∙ sym (ap (λ k. take k (drop y value)) none_here)
    ])
    ∙ parts_joined value (max span.start (chunk_size * seq)) y z (omega arith) (omega arith)

-- the end of a span that is not empty
pub end_is : (span : Span) → span.start < span.end → end_of span ≡ (span.end - 1) / chunk_size + 1
end_is span some = cond-true (nat_lt span.start span.end) ((span.end - 1) / chunk_size + 1) (first_of span) (lt-ltb span.start span.end some)

-- so those of all its pieces are the bytes of the span
pub span_joined : (value : List ℕ) (span : Span) → span.start < span.end → flat_map (λ k. part_of span k (piece value k)) (range_with_len (first_of span) (end_of span - first_of span)) ≡ bytes_in span value
span_joined value span some =
    let n = (span.end - 1) / chunk_size + 1 - first_of span in
    let count : end_of span - first_of span ≡ n = ap (λ end. end - first_of span) (end_is span some) in
    let from : max span.start (chunk_size * first_of span) ≡ span.start = omega arith in
    let to : max (max span.start (chunk_size * first_of span)) (min span.end (chunk_size * (first_of span + n))) ≡ span.end = omega (arith, some) in
    ap (λ k. flat_map (λ seq. part_of span seq (piece value seq)) (range_with_len (first_of span) k)) count
    ∙ parts_are value span n (first_of span) (omega (arith, some)) (omega arith) (omega (arith, some))
    ∙ ap (slice_range value (max span.start (chunk_size * first_of span))) to ∙ ap (λ k. slice_range value k span.end) from
