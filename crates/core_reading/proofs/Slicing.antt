-- The span that a slice of a value names is the one that is due.
use Rattle.std.proofs.Common.{ap, arith, refl, ◌∙◌}
use Rattle.std.proofs.lemmas.Int.{ints}
use Rattle.std.proofs.lemmas.List.{length-drop, length-replicate, length-take}
use Rattle.std.specs.Prelude.{List, None, Some, drop, length, min, negsuc, pos, replicate, unsigned_abs, ℕ, ℤ, ◌+◌, ◌-◌, ◌<ℤ◌, ◌≡◌, ◌≤◌}
use Rattle.tuple_layout.specs.Slices.{slice}
use Rattle.slice_fetch.specs.Spans.{IsSlice, bytes_in}
use Rattle.slice_fetch.specs.declared.Span.{Span}
use Rattle.core_state.specs.Begun.{span_of}
use Rattle.core_reading.specs.Spans.{span_due}

-- a span has as many bytes as the slice of a value of its size
span_long : (size : ℕ) (offset len : ℤ) (span : Span) → span.start ≤ span.end → span.end ≤ size → IsSlice size offset len span → span.end ≡ span.start + length (slice (replicate size 0) offset len)
span_long size offset len span low high is =
    let zeros : List ℕ = replicate size 0 in
    let long : length zeros ≡ size = length-replicate {A = ℕ} size 0 in
    let same : length (bytes_in span zeros) ≡ length (slice zeros offset len) = ap (λ (bytes : List ℕ). length bytes) (is zeros long) in
    let taken : length (bytes_in span zeros) ≡ min (span.end - span.start) (length (drop span.start zeros)) = length-take (span.end - span.start) (drop span.start zeros) in
    let dropped : length (drop span.start zeros) ≡ length zeros - span.start = length-drop span.start zeros in
    omega (arith, long, same, taken, dropped)

pub span_is : (size : ℕ) (offset len : ℤ) (span : Span) → span.start ≡ min (unsigned_abs offset) size → span.start ≤ span.end → span.end ≤ size → IsSlice size offset len span → span ≡ span_of size offset len
span_is size offset len span first low high is =
    let last : span.end ≡ min (unsigned_abs offset) size + length (slice (replicate size 0) offset len) = span_long size offset len span low high is ∙ ap (λ (n : ℕ). n + length (slice (replicate size 0) offset len)) first in
    by span.end last
  where
    by : (end : ℕ) → end ≡ min (unsigned_abs offset) size + length (slice (replicate size 0) offset len) → ◌≡◌ {A = Span} (record { start = span.start; end = end }) (span_of size offset len)
    by end last = ap (λ (n : ℕ). record { start = n; end = end }) first ∙ ap (λ (n : ℕ). record { start = min (unsigned_abs offset) size; end = n }) last

pub span_told : (size : ℕ) (offset len : ℤ) (span : Span) → (offset <ℤ pos 0 → ⊥) → span.start ≡ min (unsigned_abs offset) size → span.start ≤ span.end → span.end ≤ size → IsSlice size offset len span → Some span ≡ span_due size offset len
span_told size (pos offset) len span fault first low high names = ap Some (span_is size (pos offset) len span first low high names)
span_told size (negsuc n) len span fault first low high names = absurd (fault (omega (arith, ints)))

pub span_refused : (size : ℕ) (offset len : ℤ) → offset <ℤ pos 0 → None ≡ span_due size offset len
span_refused size (pos offset) len fault = absurd (omega (arith, ints, fault))
span_refused size (negsuc n) len fault = refl
