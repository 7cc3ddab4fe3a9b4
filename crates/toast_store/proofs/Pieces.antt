-- The pieces of a value.
use Rattle.std.proofs.Common.{ℕ, ◌≡◌, ◌+◌, ◌-◌, ◌*◌, ◌<◌, zero, suc, inl, inr, List, [], ◌∷◌, Contains, length, map, take, drop, min, refl, sym, ap, ◌∙◌, arith}
use Rattle.std.proofs.lemmas.List.{take_all, take_min, length-drop}
use Rattle.std.specs.List.{range_with_len}
use Rattle.list_facts.proofs.Members.{none_in_nil, cases_in}
use Rattle.slice_fetch.specs.Spans.{chunk_size, piece}

-- a piece is cut from what is left of the value
pub piece_cut : (value : List ℕ) (seq n : ℕ) → n ≡ min (length (take (length value - seq * 1996) (drop (seq * 1996) value))) 1996 → take n (take (length value - seq * 1996) (drop (seq * 1996) value)) ≡ piece value seq
piece_cut value seq n is =
    let rest = drop (seq * 1996) value in
    let left : length rest ≡ length value - seq * 1996 = length-drop (seq * 1996) value in
    let all : take (length value - seq * 1996) rest ≡ rest = take_all (length value - seq * 1996) rest (omega (arith, left)) in
    let least : n ≡ min 1996 (length rest) = omega (arith, is, ap length all) in
    let place : seq * 1996 ≡ chunk_size * seq = omega arith in
    ap (take n) all ∙ ap (λ k. take k rest) least ∙ take_min 1996 rest ∙ ap (λ k. take 1996 (drop k value)) place

-- what is made of each element of what was made of each
pub map-map : {X Y Z : Type 0} (g : Y → Z) (f : X → Y) (xs : List X) → map g (map f xs) ≡ map (λ x. g (f x)) xs
map-map g f [] = refl
map-map g f (x ∷ xs) = ap (λ ys. g (f x) ∷ ys) (map-map g f xs)

-- what is made of so many numbers is made of one below their end
pub made_below : {X : Type 0} (f : ℕ → X) (a n : ℕ) (x : X) → Contains (map f (range_with_len a n)) x → (seq : ℕ) × (seq < a + n) × (x ≡ f seq)
made_below f a zero x held = absurd (none_in_nil x held)
made_below f a (suc n) x held = elim (cases_in (f a) (map f (range_with_len (a + 1) n)) x held) [
  | inl is ↦ (a, omega arith, sym is)
  | inr later ↦ let rest = made_below f (a + 1) n x later in (rest.0, omega (arith, rest.1), rest.2)
]
