-- The columns of a message, read and written.
use Rattle.std.proofs.Common.{◌≡◌, ℕ, zero, suc, ◌^◌, ◌<◌, ◌≤◌, true, false, cond, ltb, eqb, List, [], ◌∷◌, ◌++◌, length, take, drop, Some, None, refl, sym, ap, subst, ◌∙◌, append_assoc, arith, inl, inr, All}
use Rattle.std.specs.List.{flat_map}
use Rattle.std.specs.Int.{w16, w32, to_be_bytes}
use Rattle.std.proofs.lemmas.Bool.{ltb-false, le-ltb, eqb-true}
use Rattle.std.proofs.lemmas.List.{take_at, drop_at, take-append-drop, length-append, length-take}
use Rattle.std.proofs.lemmas.List.Elements.{All-nil, All-cons, All-head, All-tail}
use Rattle.stream_wire.specs.declared.message.Sent.{Sent}
use Rattle.stream_wire.specs.declared.message.Sent.TheVariants.{Null, Unchanged, Value}
use Rattle.stream_wire.specs.Spelling.{column_bytes, columns_bytes, IsShort, AreColumns}
use Rattle.stream_wire.specs.Reading.{◌>>=◌, ranged_at, value_at, column_at, columns_at, row_at}
use Rattle.stream_wire.proofs.Fields.{IsBytes, IsBytes-drop, IsBytes-rest, some_is, bind_some, guard_some, if_some, Takes, Takes-then, Takes-letter, wide16, wide32, ranged_takes, ranged_again}

-- ---- a value

abbrev value_bytes : List ℕ → List ℕ
value_bytes value = to_be_bytes w32 (length value) ++ value

-- a value with its length was taken
record TakesValue (bytes : List ℕ) (x : Sent × List ℕ) : Type 0 where
  pub value : List ℕ
  pub is : x.0 ≡ Value value
  pub takes : Takes bytes (value_bytes value) x.1
  pub short : length value ≤ 65536

value_takes : (bytes : List ℕ) (x : Sent × List ℕ) → IsBytes bytes → value_at bytes ≡ Some x → TakesValue bytes x
unfolding value_at
value_takes bytes x fits e =
    let b = bind_some (ranged_at w32 0 65536 bytes) (λ n. cond (ltb (length n.1) n.0) None (Some (Value (take n.0 n.1), drop n.0 n.1))) x e in
    let n = b.0 in
    let t = ranged_takes w32 (2 ^ 32) wide32 0 65536 bytes n fits b.1 in
    let g = guard_some (ltb (length n.1) n.0) (Value (take n.0 n.1), drop n.0 n.1) x b.2 in
    let long : n.0 ≤ length n.1 = ltb-false _ _ g.0 in
    let len : length (take n.0 n.1) ≡ n.0 = omega (arith, length-take n.0 n.1) in
    let second : Takes n.1 (take n.0 n.1) (drop n.0 n.1) = record { parts = sym (take-append-drop n.0 n.1); rest_fits = IsBytes-drop n.0 n.1 t.0.rest_fits } in
    let both = Takes-then bytes (to_be_bytes w32 n.0) n.1 (take n.0 n.1) (drop n.0 n.1) t.0 second in
    let whole : Takes bytes (value_bytes (take n.0 n.1)) (drop n.0 n.1) = subst (λ (k : ℕ). Takes bytes (to_be_bytes w32 k ++ take n.0 n.1) (drop n.0 n.1)) (sym len) both in
    subst (λ (p : Sent × List ℕ). TakesValue bytes p) g.1 (record { value = take n.0 n.1; is = refl; takes = whole; short = omega (arith, t.2) })

value_again : (value rest : List ℕ) → length value ≤ 65536 → value_at (value_bytes value ++ rest) ≡ Some (Value value, rest)
unfolding value_at
value_again value rest short =
    let long : ltb (length (value ++ rest)) (length value) ≡ false = le-ltb _ _ (omega (arith, length-append value rest)) in
    let lt : length value < 2 ^ 32 = omega arith in
    ap value_at (append_assoc (to_be_bytes w32 (length value)) value rest)
    ∙ rw (ranged_again w32 (2 ^ 32) wide32 0 65536 (length value) (value ++ rest) (omega arith) short lt, long, take_at value rest (length value) refl, drop_at value rest (length value) refl) refl

-- ---- a column

-- a column was taken
abbrev TakesColumn : List ℕ → Sent × List ℕ → Type 0
TakesColumn bytes x = Takes bytes (column_bytes x.0) x.1 × IsShort x.0

null_taken : (b : ℕ) (bytes : List ℕ) (x : Sent × List ℕ) → IsBytes (b ∷ bytes) → eqb b 110 ≡ true → Some (Null, bytes) ≡ Some x → TakesColumn (b ∷ bytes) x
null_taken b bytes x fits is e =
    subst (λ (p : Sent × List ℕ). TakesColumn (b ∷ bytes) p) (some_is (Null, bytes) x e)
    (Takes-letter b 110 bytes [] bytes (eqb-true b 110 is) (record { parts = refl; rest_fits = IsBytes-rest b bytes fits }), tt)

unchanged_taken : (b : ℕ) (bytes : List ℕ) (x : Sent × List ℕ) → IsBytes (b ∷ bytes) → eqb b 117 ≡ true → Some (Unchanged, bytes) ≡ Some x → TakesColumn (b ∷ bytes) x
unchanged_taken b bytes x fits is e =
    subst (λ (p : Sent × List ℕ). TakesColumn (b ∷ bytes) p) (some_is (Unchanged, bytes) x e)
    (Takes-letter b 117 bytes [] bytes (eqb-true b 117 is) (record { parts = refl; rest_fits = IsBytes-rest b bytes fits }), tt)

value_taken : (b : ℕ) (bytes : List ℕ) (x : Sent × List ℕ) → IsBytes (b ∷ bytes) → eqb b 98 ≡ true → value_at bytes ≡ Some x → TakesColumn (b ∷ bytes) x
value_taken b bytes x fits is e =
    let t = value_takes bytes x (IsBytes-rest b bytes fits) e in
    subst (λ (s : Sent). Takes (b ∷ bytes) (column_bytes s) x.1 × IsShort s) (sym t.is)
    (Takes-letter b 98 bytes (value_bytes t.value) x.1 (eqb-true b 98 is) t.takes, t.short)

nothing_taken : (bytes : List ℕ) (x : Sent × List ℕ) → None ≡ Some x → TakesColumn bytes x
nothing_taken bytes x e = absurd cc

column_takes : (bytes : List ℕ) (x : Sent × List ℕ) → IsBytes bytes → column_at bytes ≡ Some x → TakesColumn bytes x
unfolding column_at
column_takes [] x fits e = nothing_taken [] x e
column_takes (b ∷ bytes) x fits e =
    elim (if_some (eqb b 110) _ _ x e) [
      | inl h ↦ null_taken b bytes x fits h.0 h.1
      | inr e2 ↦ elim (if_some (eqb b 117) _ _ x e2) [
        | inl h ↦ unchanged_taken b bytes x fits h.0 h.1
        | inr e3 ↦ elim (if_some (eqb b 98) _ _ x e3) [
          | inl h ↦ value_taken b bytes x fits h.0 h.1
          | inr e4 ↦ nothing_taken (b ∷ bytes) x e4
        ]
      ]
    ]

column_again : (c : Sent) (rest : List ℕ) → IsShort c → column_at (column_bytes c ++ rest) ≡ Some (c, rest)
unfolding column_at
column_again Null rest short = refl
column_again Unchanged rest short = refl
column_again (Value value) rest short = value_again value rest short

-- ---- the columns

columns_take : (n : ℕ) (bytes : List ℕ) (x : List Sent × List ℕ) → IsBytes bytes → columns_at n bytes ≡ Some x → Takes bytes (flat_map column_bytes x.0) x.1 × (length x.0 ≡ n) × All IsShort x.0
unfolding columns_at
columns_take zero bytes x fits e =
    subst (λ (y : List Sent × List ℕ). Takes bytes (flat_map column_bytes y.0) y.1 × (length y.0 ≡ 0) × All IsShort y.0) (some_is ([], bytes) x e) (record { parts = refl; rest_fits = fits }, refl, All-nil IsShort)
columns_take (suc n) bytes x fits e =
    let a = bind_some (column_at bytes) (λ first. columns_at n first.1 >>= λ others. Some (first.0 ∷ others.0, others.1)) x e in
    let b = bind_some (columns_at n a.0.1) (λ others. Some (a.0.0 ∷ others.0, others.1)) x a.2 in
    let first = column_takes bytes a.0 fits a.1 in
    let second = columns_take n a.0.1 b.0 first.0.rest_fits b.1 in
    let both = Takes-then bytes (column_bytes a.0.0) a.0.1 (flat_map column_bytes b.0.0) b.0.1 first.0 second.0 in
    let made : List Sent × List ℕ = (a.0.0 ∷ b.0.0, b.0.1) in
    subst (λ (y : List Sent × List ℕ). Takes bytes (flat_map column_bytes y.0) y.1 × (length y.0 ≡ suc n) × All IsShort y.0) (some_is made x b.2) (both, ap suc second.1, All-cons IsShort a.0.0 b.0.0 first.1 second.2)

columns_again : (cs : List Sent) (rest : List ℕ) → All IsShort cs → columns_at (length cs) (flat_map column_bytes cs ++ rest) ≡ Some (cs, rest)
unfolding columns_at
columns_again [] rest fits = refl
columns_again (c ∷ cs) rest fits =
    let regrouped : flat_map column_bytes (c ∷ cs) ++ rest ≡ column_bytes c ++ (flat_map column_bytes cs ++ rest) = append_assoc (column_bytes c) (flat_map column_bytes cs) rest in
    ap (columns_at (suc (length cs))) regrouped ∙ rw (column_again c (flat_map column_bytes cs ++ rest) (All-head IsShort c cs fits), columns_again cs rest (All-tail IsShort c cs fits)) refl

pub row_takes : (bytes : List ℕ) (x : List Sent × List ℕ) → IsBytes bytes → row_at bytes ≡ Some x → Takes bytes (columns_bytes x.0) x.1 × AreColumns x.0
unfolding row_at
row_takes bytes x fits e =
    let b = bind_some (ranged_at w16 1 8 bytes) (λ count. columns_at count.0 count.1) x e in
    let n = b.0 in
    let t = ranged_takes w16 (2 ^ 16) wide16 1 8 bytes n fits b.1 in
    let second = columns_take n.0 n.1 x t.0.rest_fits b.2 in
    let both = Takes-then bytes (to_be_bytes w16 n.0) n.1 (flat_map column_bytes x.0) x.1 t.0 second.0 in
    (subst (λ (k : ℕ). Takes bytes (to_be_bytes w16 k ++ flat_map column_bytes x.0) x.1) (sym second.1) both, (omega (arith, second.1, t.1), omega (arith, second.1, t.2), second.2))

pub row_again : (cs : List Sent) (rest : List ℕ) → AreColumns cs → row_at (columns_bytes cs ++ rest) ≡ Some (cs, rest)
unfolding row_at
row_again cs rest fits =
    let lt : length cs < 2 ^ 16 = omega (arith, fits.1) in
    ap row_at (append_assoc (to_be_bytes w16 (length cs)) (flat_map column_bytes cs) rest)
    ∙ rw (ranged_again w16 (2 ^ 16) wide16 1 8 (length cs) (flat_map column_bytes cs ++ rest) fits.0 fits.1 lt, columns_again cs rest fits.2) refl
