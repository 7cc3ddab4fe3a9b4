-- A field that is read is the field that was written, and what was written is read again.
use Rattle.std.proofs.Common.{◌≡◌, ℕ, ℤ, suc, ◌+◌, ◌^◌, ◌<◌, ◌≤◌, Bool, true, false, cond, ltb, ◌||◌, ◌⊎◌, List, ◌∷◌, ◌++◌, length, get_or, take, drop, Option, Some, None, refl, sym, ap, subst, ◌∙◌, append_assoc, arith, inl, inr}
use Rattle.std.specs.Int.{Width, w16, w32, w64, byte_len, from_be_bytes, to_be_bytes, cast_signed, cast_unsigned}
use Rattle.std.specs.Int.RustNames.{FitsSigned}
use Rattle.std.proofs.lemmas.Bool.{cases_lt, ltb-false, le-ltb}
use Rattle.std.proofs.lemmas.Bool.Decides.{nat_tests}
use Rattle.std.proofs.lemmas.List.{take_at, drop_at, take-append-drop, length-append, length-take, get_or-drop, get_or-take, get_or_past}
use Rattle.std.proofs.lemmas.Nat.{be_bytes_2, be_bytes_4, be_bytes_8, from_be_bytes-to_be_bytes_2, from_be_bytes-to_be_bytes_4, from_be_bytes-to_be_bytes_8}
use Rattle.std.proofs.lemmas.Int.{to_z-of_z, of_z-to_z, ints}
use borrow.Author.Gap.{read_sfits}
use Rattle.stream_wire.specs.Spelling.{key_bytes}
use Rattle.stream_wire.specs.Reading.{◌>>=◌, number_at, ranged_at, key_at}

abbrev pub IsBytes : List ℕ → Type 0
IsBytes bytes = (i : ℕ) → get_or bytes i 0 < 256

pub IsBytes-drop : (n : ℕ) (bytes : List ℕ) → IsBytes bytes → IsBytes (drop n bytes)
IsBytes-drop n bytes h i = rw get_or-drop (h (n + i))

IsBytes-take : (n : ℕ) (bytes : List ℕ) → IsBytes bytes → IsBytes (take n bytes)
IsBytes-take n bytes h i =
    elim (cases_lt i n) [
      | inl lt ↦ rw (get_or-take n bytes i 0 lt) (h i)
      | inr le ↦ rw (get_or_past (take n bytes) i 0 (omega (arith, length-take n bytes))) (omega arith)
    ]

pub IsBytes-rest : (b : ℕ) (bytes : List ℕ) → IsBytes (b ∷ bytes) → IsBytes bytes
IsBytes-rest b bytes h i = h (suc i)

abbrev some : {A : Type 0} → A → Option A
some x = Some x

pub some_is : {A : Type 0} (x y : A) → some x ≡ some y → x ≡ y
some_is x y e = cc

-- the value of a step that gave one
pub bind_some : {A B : Type 0} (r : Option A) (f : A → Option B) (y : B) → (r >>= f) ≡ Some y → (x : A) × (r ≡ Some x) × (f x ≡ Some y)
bind_some (Some x) f y e = (x, refl, e)
bind_some None f y e = absurd cc

-- a test that let a value through
pub guard_some : {A : Type 0} (b : Bool) (x y : A) → cond b None (Some x) ≡ Some y → (b ≡ false) × (x ≡ y)
guard_some true x y e = absurd cc
guard_some false x y e = (refl, cc)

-- which of two gave the value
pub if_some : {A : Type 0} (b : Bool) (p q : Option A) (y : A) → cond b p q ≡ Some y → ((b ≡ true) × (p ≡ Some y)) ⊎ (q ≡ Some y)
if_some true p q y e = inl (refl, e)
if_some false p q y e = inr e

-- what a reader took from the front
pub record Takes (bytes text rest : List ℕ) : Type 0 where
  pub parts : bytes ≡ text ++ rest
  pub rest_fits : IsBytes rest

pub Takes-then : (a x b y c : List ℕ) → Takes a x b → Takes b y c → Takes a (x ++ y) c
Takes-then a x b y c p q = record { parts = p.parts ∙ ap (λ (t : List ℕ). x ++ t) q.parts ∙ sym (append_assoc x y c); rest_fits = q.rest_fits }

-- a letter in front
pub Takes-letter : (b letter : ℕ) (bytes text rest : List ℕ) → b ≡ letter → Takes bytes text rest → Takes (b ∷ bytes) (letter ∷ text) rest
Takes-letter b letter bytes text rest is t = record { parts = ap (λ (x : ℕ). x ∷ bytes) is ∙ ap (λ (w : List ℕ). letter ∷ w) t.parts; rest_fits = t.rest_fits }

-- ---- numbers

pub record IsWide (w : Width) (limit : ℕ) : Type 0 where
  pub len : (n : ℕ) → length (to_be_bytes w n) ≡ byte_len w
  pub back : (bytes : List ℕ) → length bytes ≡ byte_len w → IsBytes bytes → to_be_bytes w (from_be_bytes w bytes) ≡ bytes
  pub again : (n : ℕ) → n < limit → from_be_bytes w (to_be_bytes w n) ≡ n
  pub below : (bytes : List ℕ) → IsBytes bytes → from_be_bytes w bytes < limit

pub wide16 : IsWide w16 (2 ^ 16)
wide16 = record {
  len = λ n. refl;
  back = λ bytes len fits. be_bytes_2 bytes _ len fits refl;
  again = λ n lt. from_be_bytes-to_be_bytes_2 n lt;
  below = λ bytes fits. omega (arith, fits 0, fits 1);
}

pub wide32 : IsWide w32 (2 ^ 32)
wide32 = record {
  len = λ n. refl;
  back = λ bytes len fits. be_bytes_4 bytes _ len fits refl;
  again = λ n lt. from_be_bytes-to_be_bytes_4 n lt;
  below = λ bytes fits. omega (arith, fits 0, fits 1, fits 2, fits 3);
}

wide64 : IsWide w64 (2 ^ 64)
wide64 = record {
  len = λ n. refl;
  back = λ bytes len fits. be_bytes_8 bytes _ len fits refl;
  again = λ n lt. from_be_bytes-to_be_bytes_8 n lt;
  below = λ bytes fits. omega (arith, fits 0, fits 1, fits 2, fits 3, fits 4, fits 5, fits 6, fits 7);
}

number_takes : (w : Width) (limit : ℕ) (wide : IsWide w limit) (bytes : List ℕ) (n : ℕ) (rest : List ℕ) → IsBytes bytes → number_at w bytes ≡ Some (n, rest) → Takes bytes (to_be_bytes w n) rest × (n < limit)
number_takes w limit wide bytes n rest fits e =
    let g = guard_some (ltb (length bytes) (byte_len w)) (from_be_bytes w (take (byte_len w) bytes), drop (byte_len w) bytes) (n, rest) e in
    let long : byte_len w ≤ length bytes = ltb-false _ _ g.0 in
    let n-is : from_be_bytes w (take (byte_len w) bytes) ≡ n = ap (λ (p : ℕ × List ℕ). p.0) g.1 in
    let rest-is : drop (byte_len w) bytes ≡ rest = ap (λ (p : ℕ × List ℕ). p.1) g.1 in
    let front : to_be_bytes w n ≡ take (byte_len w) bytes = rw (← n-is) (wide.back (take (byte_len w) bytes) (omega (arith, length-take (byte_len w) bytes)) (IsBytes-take (byte_len w) bytes fits)) in
    (record { parts = rw (front, ← rest-is) (sym (take-append-drop (byte_len w) bytes)); rest_fits = rw (← rest-is) (IsBytes-drop (byte_len w) bytes fits) }, rw (← n-is) (wide.below (take (byte_len w) bytes) (IsBytes-take (byte_len w) bytes fits)))

number_again : (w : Width) (limit : ℕ) (wide : IsWide w limit) (n : ℕ) (rest : List ℕ) → n < limit → number_at w (to_be_bytes w n ++ rest) ≡ Some (n, rest)
number_again w limit wide n rest lt =
    let len = wide.len n in
    let long : ltb (length (to_be_bytes w n ++ rest)) (byte_len w) ≡ false = le-ltb _ _ (omega (arith, length-append (to_be_bytes w n) rest)) in
    rw (long, take_at (to_be_bytes w n) rest (byte_len w) len, drop_at (to_be_bytes w n) rest (byte_len w) len, wide.again n lt) refl

-- ---- numbers in a range

within_low : (n low high : ℕ) → (ltb n low || ltb high n) ≡ false → low ≤ n
within_low n low high e = grind (arith, nat_tests)

within_high : (n low high : ℕ) → (ltb n low || ltb high n) ≡ false → n ≤ high
within_high n low high e = grind (arith, nat_tests)

within : (n low high : ℕ) → low ≤ n → n ≤ high → (ltb n low || ltb high n) ≡ false
within n low high h k = grind (arith, nat_tests)

pub ranged_takes : (w : Width) (limit : ℕ) (wide : IsWide w limit) (low high : ℕ) (bytes : List ℕ) (x : ℕ × List ℕ) → IsBytes bytes → ranged_at w low high bytes ≡ Some x
    → Takes bytes (to_be_bytes w x.0) x.1 × (low ≤ x.0) × (x.0 ≤ high) × (x.0 < limit)
unfolding ranged_at
ranged_takes w limit wide low high bytes x fits e =
    let b = bind_some (number_at w bytes) (λ n. cond (ltb n.0 low || ltb high n.0) None (Some n)) x e in
    let g = guard_some (ltb b.0.0 low || ltb high b.0.0) b.0 x b.2 in
    let t = number_takes w limit wide bytes b.0.0 b.0.1 fits b.1 in
    subst (λ (p : ℕ × List ℕ). Takes bytes (to_be_bytes w p.0) p.1 × (low ≤ p.0) × (p.0 ≤ high) × (p.0 < limit)) g.1
    (t.0, within_low b.0.0 low high g.0, within_high b.0.0 low high g.0, t.1)

pub ranged_again : (w : Width) (limit : ℕ) (wide : IsWide w limit) (low high n : ℕ) (rest : List ℕ) → low ≤ n → n ≤ high → n < limit → ranged_at w low high (to_be_bytes w n ++ rest) ≡ Some (n, rest)
unfolding ranged_at
ranged_again w limit wide low high n rest h k lt =
    ap (λ (r : Option (ℕ × List ℕ)). r >>= λ n. cond (ltb n.0 low || ltb high n.0) None (Some n)) (number_again w limit wide n rest lt)
    ∙ ap (λ (b : Bool). cond b None (some (n, rest))) (within n low high h k)

-- ---- keys

pub key_takes : (bytes : List ℕ) (x : ℤ × List ℕ) → IsBytes bytes → key_at bytes ≡ Some x → Takes bytes (key_bytes x.0) x.1 × FitsSigned w64 x.0
unfolding key_at
key_takes bytes x fits e =
    let b = bind_some (number_at w64 bytes) (λ n. Some (cast_signed w64 n.0, n.1)) x e in
    let t = number_takes w64 (2 ^ 64) wide64 bytes b.0.0 b.0.1 fits b.1 in
    let back : cast_unsigned w64 (cast_signed w64 b.0.0) ≡ b.0.0 = of_z-to_z w64 b.0.0 t.1 in
    let made : Takes bytes (key_bytes (cast_signed w64 b.0.0)) b.0.1 = subst (λ (n : ℕ). Takes bytes (to_be_bytes w64 n) b.0.1) (sym back) t.0 in
    subst (λ (p : ℤ × List ℕ). Takes bytes (key_bytes p.0) p.1 × FitsSigned w64 p.0) (some_is (cast_signed w64 b.0.0, b.0.1) x b.2) (made, read_sfits w64 b.0.0)

bits_below : (key : ℤ) → FitsSigned w64 key → cast_unsigned w64 key < 2 ^ 64
bits_below key fits = omega (arith, ints)

pub key_again : (key : ℤ) (rest : List ℕ) → FitsSigned w64 key → key_at (key_bytes key ++ rest) ≡ Some (key, rest)
unfolding key_at
key_again key rest fits =
    ap (λ (r : Option (ℕ × List ℕ)). r >>= λ n. some (cast_signed w64 n.0, n.1)) (number_again w64 (2 ^ 64) wide64 (cast_unsigned w64 key) rest (bits_below key fits))
    ∙ ap (λ (k : ℤ). some (k, rest)) (to_z-of_z w64 key fits)
