-- Digits that are printed part by part.
use Rattle.std.proofs.Common.{◌≡◌, ℕ, ◌/◌, ◌%◌, List, [], ◌∷◌, ◌++◌, get_or, take, drop, refl, sym, ap, ◌∙◌, subst, append_assoc}
use Rattle.std.proofs.lemmas.List.{append-nil, take-append-drop}
use Rattle.hex.specs.Hex.{encode_with, encode_lower, lower_digits}
use Rattle.line_printer.specs.Carried.{SinkTold, PrinterState, Prints}
use Rattle.line_printer.proofs.Carries.{prints_none, prints_on}

-- the digits of two lists are those of one behind those of the other
encode-append : (t xs ys : List ℕ) → encode_with t (xs ++ ys) ≡ encode_with t xs ++ encode_with t ys
unfolding encode_with
encode-append t [] ys = refl
encode-append t (x ∷ xs) ys = ap (λ (zs : List ℕ). get_or t (x / 16) 0 ∷ get_or t (x % 16) 0 ∷ zs) (encode-append t xs ys)

encode-nil : (t : List ℕ) → encode_with t [] ≡ []
unfolding encode_with
encode-nil t = refl

-- the digits of a front are printed, and the rest is left
pub record Goes (bytes rest : List ℕ) (old now : SinkTold) (printer printer' : PrinterState) : Type 0 where
  pub front : List ℕ
  pub split : bytes ≡ front ++ rest
  pub prints : Prints old now printer printer' (encode_lower front)

pub at_start : (bytes : List ℕ) (a : SinkTold) (p : PrinterState) → Goes bytes bytes a a p p
at_start bytes a p = record { front = []; split = refl; prints = subst (Prints a a p p) (sym (encode-nil lower_digits)) (prints_none a p) }

pub one_more : (bytes rest part after : List ℕ) (a b c : SinkTold) (p q r : PrinterState) → Goes bytes rest a b p q → rest ≡ part ++ after → Prints b c q r (encode_lower part) → Goes bytes after a c p r
one_more bytes rest part after a b c p q r g is more = record {
  front = g.front ++ part;
  split = g.split ∙ ap (λ (x : List ℕ). g.front ++ x) is ∙ sym (append_assoc g.front part after);
  prints = subst (Prints a c p r) (sym (encode-append lower_digits g.front part)) (prints_on a b c p q r (encode_lower g.front) (encode_lower part) g.prints more);
}

pub at_end : (bytes rest : List ℕ) (a b : SinkTold) (p q : PrinterState) → rest ≡ [] → Goes bytes rest a b p q → Prints a b p q (encode_lower bytes)
at_end bytes rest a b p q none g = subst (λ (x : List ℕ). Prints a b p q (encode_lower x)) (sym (g.split ∙ ap (λ (x : List ℕ). g.front ++ x) none ∙ append-nil g.front)) g.prints

-- the parts that a list is split into
pub both_parts : (rest part after : List ℕ) (n : ℕ) → part ≡ take n rest → after ≡ drop n rest → rest ≡ part ++ after
both_parts rest part after n front back = rw (front, back) (sym (take-append-drop n rest))
