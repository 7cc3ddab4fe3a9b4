-- What several reads take together, and what several writes give.
use Rattle.std.proofs.Common.{◌≡◌, ◌≤◌, ◌<◌, ◌+◌, ◌-◌, ℕ, List, [], ◌∷◌, ◌++◌, length, take, drop, None, Some, refl, sym, ap, ◌∙◌, arith, append-nil, length-append, length-drop}
use Rattle.std.proofs.Math.Seq.{take-add}
use Rattle.std.proofs.lemmas.List.{length-take, length-take-le, take-append-le, take_rest}
use Rattle.std.specs.Io.KnownBytes.{Appends, Consumes, IsAtEnd}
use Rattle.std.proofs.KnownBytes.{Appends-trans, Consumes-trans}
use Rattle.std.specs.Prelude.{Option}
use Rattle.toast_io.specs.Source.{Takes, TakesUpTo, ReadsToEnd}

-- the first n, and then the rest
drop-front : (front rest : List ℕ) → drop (length front) (front ++ rest) ≡ rest
drop-front [] rest = refl
drop-front (x ∷ front) rest = drop-front front rest

-- what was consumed was taken
pub consumed_takes : (old new : Option (List ℕ)) (bytes : List ℕ) (count : ℕ) → length bytes ≡ count → Consumes old new bytes → Takes old new count
consumed_takes None new bytes count size h = record { there = tt; rest = tt }
consumed_takes (Some x) None bytes count size h = absurd h
consumed_takes (Some x) (Some y) bytes count size h = record {
  there = omega (arith, ap length h, length-append bytes y);
  rest = ap Some (sym (ap (drop count) h ∙ (ap (λ n. drop n (bytes ++ y)) (sym size) ∙ drop-front bytes y)));
}

-- a write of the rest takes some of it
pub written_within : (bytes : List ℕ) (at count : ℕ) → at ≤ length bytes → count ≤ length (take (length bytes - at) (drop at bytes)) → at + count ≤ length bytes
written_within bytes at count before fits = omega (arith, length-take (length bytes - at) (drop at bytes), length-drop at bytes)

-- what was written before, and then some of the rest
pub appends_more : (a b c : Option (List ℕ)) (bytes : List ℕ) (at count : ℕ) → Appends a b (take at bytes) → Appends b c (take count (take (length bytes - at) (drop at bytes)))
    → Appends a c (take (at + count) bytes)
appends_more a b c bytes at count before more =
    rw (take-add at count bytes) (Appends-trans a b c _ _ before (rw take_rest at more))

-- after a first read, a second that fills its buffer up to one byte more than the limit
pub takes_one_more : (old mid new : Option (List ℕ)) (bytes buffer : List ℕ) (count room limit : ℕ) → Consumes old mid bytes → Consumes mid new (take count buffer)
    → count ≤ length buffer → length buffer ≤ room + 1 → length bytes + room ≡ limit → room < count → Takes old new (limit + 1)
takes_one_more old mid new bytes buffer count room limit first second fits small size above =
    let all : length (bytes ++ take count buffer) ≡ limit + 1 = omega (arith, length-append bytes (take count buffer), length-take-le count buffer fits) in
    consumed_takes old new (bytes ++ take count buffer) (limit + 1) all (Consumes-trans old mid new bytes (take count buffer) first second)

-- two reads within the limit
pub takes_within : (old mid new : Option (List ℕ)) (bytes buffer : List ℕ) (count room limit : ℕ) → Consumes old mid bytes → Consumes mid new (take count buffer)
    → count ≤ length buffer → length bytes + room ≡ limit → count ≤ room → TakesUpTo old new limit
takes_within old mid new bytes buffer count room limit first second fits size below = record {
  count = length (bytes ++ take count buffer);
  within = omega (arith, length-append bytes (take count buffer), length-take-le count buffer fits);
  takes = consumed_takes old new (bytes ++ take count buffer) _ refl (Consumes-trans old mid new bytes (take count buffer) first second);
}
