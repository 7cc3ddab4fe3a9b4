-- The span of a slice lies in the value and names the slice's bytes.
use Rattle.std.proofs.Common.{ap, arith, sym, ◌∙◌}
use Rattle.std.proofs.lemmas.List.{drop_min, length-drop, length-replicate, length-take, take_all, take_min}
use Rattle.std.specs.Prelude.{Bool, List, drop, false, if◌then◌else◌, length, min, nat_le, negsuc, pos, replicate, take, true, ℕ, ℤ, ◌+◌, ◌-◌, ◌≡◌, ◌≤◌}
use Rattle.tuple_layout.specs.Slices.{last_place, slice}
use Rattle.slice_fetch.specs.Spans.{bytes_in}
use Rattle.read_steps.specs.Columns.{IsWithin}
use Rattle.core_state.specs.Begun.{span_of}

-- how many bytes a slice has depends on how many the value has
slice_long : (value other : List ℕ) (offset : ℕ) (len : ℤ) → length other ≡ length value → length (slice other (pos offset) len) ≡ length (slice value (pos offset) len)
slice_long value other offset len same = by len
  where
    dropped : length (drop offset other) ≡ length (drop offset value)
    dropped = length-drop offset other ∙ ap (λ (n : ℕ). n - offset) same ∙ sym (length-drop offset value)

    at : (n : ℕ) (b : Bool) → length (if b then take n (drop offset other) else drop offset other) ≡ length (if b then take n (drop offset value) else drop offset value)
    at n true = length-take n (drop offset other) ∙ ap (min n) dropped ∙ sym (length-take n (drop offset value))
    at n false = dropped

    by : (len : ℤ) → length (slice other (pos offset) len) ≡ length (slice value (pos offset) len)
    by (pos n) = at n (nat_le (offset + n) last_place)
    by (negsuc n) = dropped

-- a slice is the first bytes from its offset on
slice_first : (value : List ℕ) (offset : ℕ) (len : ℤ) → take (length (slice value (pos offset) len)) (drop offset value) ≡ slice value (pos offset) len
slice_first value offset len = by len
  where
    whole : take (length (drop offset value)) (drop offset value) ≡ drop offset value
    whole = take_all (length (drop offset value)) (drop offset value) (omega arith)

    at : (n : ℕ) (b : Bool) → take (length (if b then take n (drop offset value) else drop offset value)) (drop offset value) ≡ (if b then take n (drop offset value) else drop offset value)
    at n true = ap (λ (k : ℕ). take k (drop offset value)) (length-take n (drop offset value)) ∙ take_min n (drop offset value)
    at n false = whole

    by : (len : ℤ) → take (length (slice value (pos offset) len)) (drop offset value) ≡ slice value (pos offset) len
    by (pos n) = at n (nat_le (offset + n) last_place)
    by (negsuc n) = whole

-- and no more than there are
slice_most : (value : List ℕ) (offset : ℕ) (len : ℤ) → length (slice value (pos offset) len) ≤ length value - offset
slice_most value offset len = by len
  where
    dropped : length (drop offset value) ≡ length value - offset
    dropped = length-drop offset value

    at : (n : ℕ) (b : Bool) → length (if b then take n (drop offset value) else drop offset value) ≤ length value - offset
    at n true =
        let taken = length-take n (drop offset value) in
        omega (arith, taken, dropped)
    at n false = omega (arith, dropped)

    by : (len : ℤ) → length (slice value (pos offset) len) ≤ length value - offset
    by (pos n) = at n (nat_le (offset + n) last_place)
    by (negsuc n) = omega (arith, dropped)

-- the span lies in a value of its size
pub span_within : (size offset : ℕ) (len : ℤ) → IsWithin (span_of size (pos offset) len) size
span_within size offset len =
    let zeros : List ℕ = replicate size 0 in
    let most = slice_most zeros offset len in
    let long : length zeros ≡ size = length-replicate {A = ℕ} size 0 in
    record { ordered = omega arith; within = omega (arith, most, long) }

-- it names the bytes of the slice
pub span_slice : (value : List ℕ) (size offset : ℕ) (len : ℤ) → size ≡ length value → bytes_in (span_of size (pos offset) len) value ≡ slice value (pos offset) len
span_slice value size offset len same =
    let zeros : List ℕ = replicate size 0 in
    let long : length zeros ≡ length value = length-replicate {A = ℕ} size 0 ∙ same in
    let count : (min offset size + length (slice (replicate size 0) (pos offset) len)) - min offset size ≡ length (slice value (pos offset) len) = less ∙ slice_long value zeros offset len long in
    let from : drop (min offset size) value ≡ drop offset value = ap (λ (n : ℕ). drop (min offset n) value) same ∙ drop_min offset value in
    ap (λ (n : ℕ). take n (drop (min offset size) value)) count ∙ ap (take (length (slice value (pos offset) len))) from ∙ slice_first value offset len
  where
    less : (min offset size + length (slice (replicate size 0) (pos offset) len)) - min offset size ≡ length (slice (replicate size 0) (pos offset) len)
    less = omega arith
