-- Digits that are added part by part.
use Rattle.std.proofs.Common.{◌≡◌, ℕ, ◌/◌, ◌%◌, List, [], ◌∷◌, ◌++◌, length, get_or, take, drop, Result, Ok, Err, refl, sym, ap, ◌∙◌, append_assoc}
use Rattle.std.proofs.lemmas.List.{append-nil, take-append-drop}
use Rattle.std.specs.Prelude.{OnErr}
use Rattle.hex.specs.Hex.{encode_with, encode_lower, lower_digits}
use Rattle.stream_wire.proofs.Fronts.{shorter_front}

-- the digits of two lists are those of one behind those of the other
pub encode-append : (t xs ys : List ℕ) → encode_with t (xs ++ ys) ≡ encode_with t xs ++ encode_with t ys
unfolding encode_with
encode-append t [] ys = refl
encode-append t (x ∷ xs) ys = ap (λ (zs : List ℕ). get_or t (x / 16) 0 ∷ get_or t (x % 16) 0 ∷ zs) (encode-append t xs ys)

encode-nil : (t : List ℕ) → encode_with t [] ≡ []
unfolding encode_with
encode-nil t = refl

-- the digits of a front are added, and the rest is left
pub record Goes (bytes rest old out : List ℕ) : Type 0 where
  pub front : List ℕ
  pub split : bytes ≡ front ++ rest
  pub added : out ≡ old ++ encode_lower front

pub at_start : (bytes old out : List ℕ) → out ≡ old → Goes bytes bytes old out
at_start bytes old out e = record {
  front = [];
  split = refl;
  added = e ∙ sym (append-nil old) ∙ ap (λ (x : List ℕ). old ++ x) (sym (encode-nil lower_digits));
}

pub one_more : (bytes rest old out part after new : List ℕ) → Goes bytes rest old out → rest ≡ part ++ after → new ≡ out ++ encode_lower part → Goes bytes after old new
one_more bytes rest old out part after new g is more = record {
  front = g.front ++ part;
  split = g.split ∙ ap (λ (x : List ℕ). g.front ++ x) is ∙ sym (append_assoc g.front part after);
  added = more ∙ ap (λ (x : List ℕ). x ++ encode_lower part) g.added ∙ append_assoc old (encode_lower g.front) (encode_lower part) ∙ ap (λ (x : List ℕ). old ++ x) (sym (encode-append lower_digits g.front part));
}

pub at_end : (bytes old out : List ℕ) → Goes bytes [] old out → out ≡ old ++ encode_lower bytes
at_end bytes old out g = g.added ∙ ap (λ (x : List ℕ). old ++ encode_lower x) (sym (g.split ∙ append-nil g.front))

pub kept : (bytes rest old out new : List ℕ) → Goes bytes rest old out → take (length out) new ≡ out → take (length old) new ≡ old
kept bytes rest old out new g e =
    shorter_front old (encode_lower g.front) new (ap (λ (x : List ℕ). take (length x) new) (sym g.added) ∙ e ∙ g.added)

pub on_err : {T E : Type 0} (r : Result T E) (P : Type 0) → P → OnErr r P
on_err (Ok x) P p = tt
on_err (Err e) P p = p

-- the parts that a list is split into
pub both_parts : (rest part after : List ℕ) (n : ℕ) → part ≡ take n rest → after ≡ drop n rest → rest ≡ part ++ after
both_parts rest part after n front back = rw (front, back) (sym (take-append-drop n rest))
