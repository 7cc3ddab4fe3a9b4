-- What the words spell that are read.
use Rattle.std.proofs.Common.{◌≡◌, ◌<◌, ◌≤◌, ◌+◌, ◌-◌, ◌^◌, inl, inr, ℕ, zero, suc, Bool, true, false, List, [], ◌∷◌, ◌++◌, Option, Some, None, Result, Ok, Err, length, take, drop, map, refl, sym, ap, ◌∙◌, subst, arith}
use Rattle.std.specs.Prelude.{ℤ, pos, negsuc, neg_ℤ, Contains, ◌%◌, ◌&&◌, nat_eq, nat_le, codes, slice_index_or, if◌then◌else◌}
use Rattle.std.specs.List.{IsDistinct, after_first, before_first, list_any}
use Rattle.std.specs.Option.{ok_or, option_map}
use Rattle.std.specs.Str.{bytes_eq}
use Rattle.std.specs.Str.Parse.{starts_with_minus}
use Rattle.std.specs.Cmp.{nat_eq_equiv}
use Rattle.std.specs.Int.{w32, w64}
use Rattle.std.specs.Int.RustNames.{FitsSigned}
use Rattle.std.proofs.lemmas.Bool.Decides.{nat_tests}
use Rattle.std.proofs.lemmas.List.{map-append}
use Rattle.std.proofs.lemmas.List.Elements.{Contains-push_cases}
use Rattle.std.proofs.lemmas.List.FromFn.{length-map-range_with_len}
use Rattle.std.proofs.lemmas.Map.Keys.{IsDistinct-push}
use Rattle.std.proofs.lemmas.Option.{same_Some}
use Rattle.hex.proofs.HexLemmas.{decode_of-ok}
use Rattle.hex.specs.Hex.{decode_of}
use Rattle.hex.specs.declared.error.FromHexError.{FromHexError}
use Rattle.command_set.specs.declared.Set.{Set}
use Rattle.script_words.specs.Names.{lettered_in, ordinal_in}
use Rattle.script_words.specs.Numbers.{is_canonical, key_in, number_in, offset_in, signed_in}
use Rattle.script_words.specs.Reading.{◌>>=◌, each_of}
use Rattle.script_words.specs.Sets.{is_equals, is_set, set_in, sets_in, unset_in}
use Rattle.script_words.specs.Values.{IsShort, cycle, cycle_in, decoded, hex_in, is_dot, value_in}
use Rattle.script_words.specs.declared.fault.LineFault.{LineFault}
use Rattle.script_words.specs.declared.fault.LineFault.TheVariants.{BadName, BadValue}

-- a step that found no fault, and the next
pub record Bound {A B : Type 0} (r : Result A LineFault) (f : A → Result B LineFault) (y : B) : Type 0 where
  pub x : A
  pub is : r ≡ Ok x
  pub rest : f x ≡ Ok y

pub bound : {A B : Type 0} (r : Result A LineFault) (f : A → Result B LineFault) (y : B) → (r >>= f) ≡ Ok y → Bound r f y
bound (Ok x) f y e = record { x = x; is = refl; rest = e }
bound (Err fault) f y e = absurd (cc)

pub same_ok : {A E : Type 0} (x y : A) → ◌≡◌ {A = Result A E} (Ok x) (Ok y) → x ≡ y
same_ok x y e = cc

pub if_ok : {A : Type 0} (b : Bool) (r : Result A LineFault) (fault : LineFault) (y : A) → (if b then r else Err fault) ≡ Ok y → (b ≡ true) × (r ≡ Ok y)
if_ok true r fault y e = (refl, e)
if_ok false r fault y e = absurd (cc)

pub ok_or_is : {A : Type 0} (o : Option A) (fault : LineFault) (y : A) → ok_or o fault ≡ Ok y → o ≡ Some y
ok_or_is None fault y e = absurd (cc)
ok_or_is (Some x) fault y e = ap Some (same_ok x y e)

pub at_most : (a b : ℕ) → nat_le a b ≡ true → a ≤ b
at_most a b e = grind (arith, nat_tests)

-- a number within a range
pub record InRange (low high n : ℕ) : Type 0 where
  pub from : low ≤ n
  pub within : n ≤ high

within_by : (b c d : Bool) (low high v n : ℕ) → nat_le low v ≡ c → nat_le v high ≡ d → (if b && c && d then Some v else None) ≡ Some n → InRange low high n
within_by true true true low high v n c d e = let same : v ≡ n = same_Some v n e in record { from = grind (arith, nat_tests); within = grind (arith, nat_tests) }
within_by true true false low high v n c d e = absurd (cc)
within_by true false d' low high v n c d e = absurd (cc)
within_by false c' d' low high v n c d e = absurd (cc)

pub number_is : (low high : ℕ) (word : List ℕ) (n : ℕ) → number_in low high word ≡ Some n → InRange low high n
unfolding number_in
number_is low high word n e = within_by (is_canonical word) _ _ low high _ n refl refl e

pub ordinal_is : (most : ℕ) (word : List ℕ) (n : ℕ) → ordinal_in most word ≡ Ok n → InRange 1 most n
unfolding ordinal_in
ordinal_is most word n e = number_is 1 most word n (ok_or_is _ _ n e)

pub lettered_is : (letter : List ℕ) (most : ℕ) (word : List ℕ) (n : ℕ) → lettered_in letter most word ≡ Ok n → InRange 1 most n
unfolding lettered_in
lettered_is letter most word n e = ordinal_is most (drop 1 word) n (if_ok _ _ _ n e).1

-- numbers with a sign from -half to half - 1
abbrev Fits : ℕ → ℤ → Type 0
Fits half (pos n) = n < half
Fits half (negsuc n) = n < half

below_zero : (half n : ℕ) → 1 ≤ n → n ≤ half → Fits half (neg_ℤ (pos n))
below_zero half zero from within = absurd (omega (arith, from))
below_zero half (suc n) from within = omega (arith, within)

signed_by : (b : Bool) (half : ℕ) (below above : Option ℕ) (z : ℤ) → 1 ≤ half → ((n : ℕ) → below ≡ Some n → InRange 1 half n) → ((n : ℕ) → above ≡ Some n → InRange 0 (half - 1) n) → (if b then option_map (λ n. neg_ℤ (pos n)) below else option_map pos above) ≡ Some z → Fits half z
signed_by true half (Some n) above z some h k e = subst (Fits half) (same_Some _ z e) (let r = h n refl in below_zero half n r.from r.within)
signed_by true half None above z some h k e = absurd (cc)
signed_by false half below (Some n) z some h k e = subst (Fits half) (same_Some _ z e) (let r = k n refl in omega (arith, r.within, some))
signed_by false half below None z some h k e = absurd (cc)

signed_is : (half : ℕ) (word : List ℕ) (z : ℤ) → 1 ≤ half → signed_in half word ≡ Some z → Fits half z
unfolding signed_in
signed_is half word z some e = signed_by (starts_with_minus word) half (number_in 1 half (drop 1 word)) (number_in 0 (half - 1) word) z some (λ n is. number_is 1 half _ n is) (λ n is. number_is 0 (half - 1) _ n is) e

fits_64 : (z : ℤ) → Fits (2 ^ 63) z → FitsSigned w64 z
fits_64 (pos n) h = record { sfits = h }
fits_64 (negsuc n) h = record { sfits = h }

fits_32 : (z : ℤ) → Fits (2 ^ 31) z → FitsSigned w32 z
fits_32 (pos n) h = record { sfits = h }
fits_32 (negsuc n) h = record { sfits = h }

pub key_is : (word : List ℕ) (key : ℤ) → key_in word ≡ Ok key → FitsSigned w64 key
key_is word key e = fits_64 key (signed_is (2 ^ 63) word key (omega arith) (ok_or_is _ _ key e))

pub offset_is : (word : List ℕ) (offset : ℤ) → offset_in word ≡ Ok offset → FitsSigned w32 offset
offset_is word offset e = fits_32 offset (signed_is (2 ^ 31) word offset (omega arith) (ok_or_is _ _ offset e))

-- values are not too long
decoded_is : (r : Result (List ℕ) FromHexError) (bytes : List ℕ) → decoded r ≡ Ok bytes → r ≡ Ok bytes
decoded_is (Ok x) bytes e = ap Ok (same_ok x bytes e)
decoded_is (Err fault) bytes e = absurd (cc)

hex_short : (digits bytes : List ℕ) → hex_in digits ≡ Ok bytes → length bytes ≤ 65536
unfolding hex_in
hex_short digits bytes e =
    let both = if_ok (nat_le (length digits) 131072) (decoded (decode_of digits)) BadValue bytes e in
    let twice = (decode_of-ok digits bytes (decoded_is (decode_of digits) bytes both.1)).2 in
    omega (arith, twice, at_most (length digits) 131072 both.0)

cycle_short : (word bytes : List ℕ) → cycle_in word ≡ Ok bytes → length bytes ≤ 65536
unfolding cycle_in
cycle_short word bytes e =
    let len = bound (ok_or (number_in 0 65536 (before_first is_dot word)) BadValue) _ bytes e in
    let start = bound (ok_or (number_in 0 250 (after_first is_dot word)) BadValue) _ bytes len.rest in
    let few = number_is 0 65536 (before_first is_dot word) len.x (ok_or_is _ _ len.x len.is) in
    let same : cycle len.x start.x ≡ bytes = same_ok (cycle len.x start.x) bytes start.rest in
    omega (arith, few.within, ap length same, length-map-range_with_len (λ i. (start.x + i) % 251) 0 len.x)

spelled_bytes : (r : Result (List ℕ) LineFault) (value : Option (List ℕ)) → ((bytes : List ℕ) → r ≡ Ok bytes → length bytes ≤ 65536) → (r >>= λ bytes. Ok (Some bytes)) ≡ Ok value → IsShort value
spelled_bytes (Ok bytes) value short e x is = let same : bytes ≡ x = same_Some bytes x (same_ok (Some bytes) value e ∙ is) in subst (λ (b : List ℕ). length b ≤ 65536) same (short bytes refl)
spelled_bytes (Err fault) value short e x is = absurd (cc)

value_by : (a b c : Bool) (h k : Result (List ℕ) LineFault) (value : Option (List ℕ)) → ((bytes : List ℕ) → h ≡ Ok bytes → length bytes ≤ 65536) → ((bytes : List ℕ) → k ≡ Ok bytes → length bytes ≤ 65536)
    → (if a then Ok None else if b then (h >>= λ bytes. Ok (Some bytes)) else if c then (k >>= λ bytes. Ok (Some bytes)) else Err BadValue) ≡ Ok value → IsShort value
value_by true b c h k value hs ks e = λ x is. absurd (let none : None ≡ value = same_ok None value e in cc)
value_by false true c h k value hs ks e = spelled_bytes h value hs e
value_by false false true h k value hs ks e = spelled_bytes k value ks e
value_by false false false h k value hs ks e = absurd (cc)

pub value_is : (word : List ℕ) (value : Option (List ℕ)) → value_in word ≡ Ok value → IsShort value
unfolding value_in
value_is word value e = value_by (bytes_eq word (codes "null")) (bytes_eq (take 1 word) (codes "x")) (bytes_eq (take 1 word) (codes "c")) (hex_in (drop 1 word)) (cycle_in (drop 1 word)) value (λ bytes is. hex_short (drop 1 word) bytes is) (λ bytes is. cycle_short (drop 1 word) bytes is) e

-- words that are read one by one
contains_at : {A : Type 0} (P : A → Type 0) (y : A) (ys : List A) (x : A) (k : ℕ) → P y → ((z : A) → Contains ys z → P z) → k < length (y ∷ ys) → slice_index_or (y ∷ ys) k x ≡ x → P x
contains_at P y ys x zero here rest within is = subst P is here
contains_at P y ys x (suc k) here rest within is = rest x (k, omega (arith, within), is)

none_there : {A : Type 0} (P : A → Type 0) (x : A) → Contains [] x → P x
none_there P x there = absurd (omega (arith, there.1))

pub each_is : {A : Type 0} (read : List ℕ → Result A LineFault) (P : A → Type 0) (ws : List (List ℕ)) (xs : List A) → ((w : List ℕ) (x : A) → read w ≡ Ok x → P x) → each_of read ws ≡ Ok xs → (x : A) → Contains xs x → P x
unfolding each_of
each_is read P [] xs good e x there = none_there P x (subst (λ ys. Contains ys x) (sym (same_ok [] xs e)) there)
each_is read P (w ∷ ws) xs good e x there =
    let first = bound (read w) _ xs e in
    let more = bound (each_of read ws) _ xs first.rest in
    let inside : Contains (first.x ∷ more.x) x = subst (λ ys. Contains ys x) (sym (same_ok (first.x ∷ more.x) xs more.rest)) there in
    contains_at P first.x more.x x inside.0 (good w first.x first.is) (each_is read P ws more.x good more.is) inside.1 inside.2

pub each_length : {A : Type 0} (read : List ℕ → Result A LineFault) (ws : List (List ℕ)) (xs : List A) → each_of read ws ≡ Ok xs → length xs ≡ length ws
unfolding each_of
each_length read [] xs e = ap length (sym (same_ok [] xs e))
each_length read (w ∷ ws) xs e =
    let first = bound (read w) _ xs e in
    let more = bound (each_of read ws) _ xs first.rest in
    ap length (sym (same_ok (first.x ∷ more.x) xs more.rest)) ∙ ap (λ n. suc n) (each_length read ws more.x more.is)

-- columns that are set, of so many
pub record AreSets (most : ℕ) (sets : List Set) : Type 0 where
  pub columns : (set : Set) → Contains sets set → InRange 1 most set.column
  pub values : (set : Set) → Contains sets set → IsShort set.value
  pub once : IsDistinct nat_eq (map (λ set. set.column) sets)

record IsNewSet (most : ℕ) (sets : List Set) (set : Set) : Type 0 where
  column : InRange 1 most set.column
  value : IsShort set.value
  once : is_set sets set.column ≡ false

if_not : {A : Type 0} (b : Bool) (x y : A) → (if b then Err BadName else Ok x) ≡ Ok y → (b ≡ false) × (x ≡ y)
if_not true x y e = absurd (cc)
if_not false x y e = (refl, same_ok x y e)

unset_is : (columns : ℕ) (sets : List Set) (word : List ℕ) (c : ℕ) → unset_in columns sets word ≡ Ok c → InRange 1 columns c × (is_set sets c ≡ false)
unfolding unset_in
unset_is columns sets word c e =
    let column = bound (ordinal_in columns word) _ c e in
    let new = if_not (is_set sets column.x) column.x c column.rest in
    subst (λ (n : ℕ). InRange 1 columns n × (is_set sets n ≡ false)) new.1 (ordinal_is columns word column.x column.is, new.0)

set_is : (columns : ℕ) (sets : List Set) (word : List ℕ) (set : Set) → set_in columns sets word ≡ Ok set → IsNewSet columns sets set
unfolding set_in
set_is columns sets word set e =
    let whole = if_ok (list_any is_equals word) _ BadName set e in
    let column = bound (unset_in columns sets (before_first is_equals word)) _ set whole.1 in
    let value = bound (value_in (after_first is_equals word)) _ set column.rest in
    let new = unset_is columns sets _ column.x column.is in
    subst (IsNewSet columns sets) (same_ok (record { column = column.x; value = value.x }) set value.rest) (record { column = new.0; value = value_is _ value.x value.is; once = new.1 })

column_unset : (sets : List Set) (c : ℕ) → list_any (nat_eq c) (map (λ set. set.column) sets) ≡ is_set sets c
column_unset [] c = refl
column_unset (set ∷ sets) c = let turned = nat_eq_equiv.symm c set.column in let more = column_unset sets c in rw (turned, more) refl

sets_push : (columns : ℕ) (sets : List Set) (set : Set) → AreSets columns sets → IsNewSet columns sets set → AreSets columns (sets ++ set ∷ [])
sets_push columns sets set h new = record {
  columns = λ x there. elim (Contains-push_cases sets set x there) [
    | inl old ↦ h.columns x old
    | inr is ↦ subst (λ (y : Set). InRange 1 columns y.column) is new.column
  ];
  values = λ x there. elim (Contains-push_cases sets set x there) [
    | inl old ↦ h.values x old
    | inr is ↦ subst (λ (y : Set). IsShort y.value) is new.value
  ];
  once = subst (λ (xs : List ℕ). IsDistinct nat_eq xs) (sym (map-append (λ set. set.column) sets (set ∷ []))) (IsDistinct-push nat_eq_equiv (map (λ set. set.column) sets) set.column h.once (column_unset sets set.column ∙ new.once));
}

sets_from : (columns : ℕ) (ws : List (List ℕ)) (front sets : List Set) → AreSets columns front → sets_in columns front ws ≡ Ok sets → AreSets columns sets
unfolding sets_in
sets_from columns [] front sets h e = subst (AreSets columns) (same_ok front sets e) h
sets_from columns (w ∷ ws) front sets h e =
    let set = bound (set_in columns front w) _ sets e in
    sets_from columns ws (front ++ set.x ∷ []) sets (sets_push columns front set.x h (set_is columns front w set.x set.is)) set.rest

no_sets : (columns : ℕ) → AreSets columns []
unfolding IsDistinct
no_sets columns = record { columns = λ x there. none_there (λ (y : Set). InRange 1 columns y.column) x there; values = λ x there. none_there (λ (y : Set). IsShort y.value) x there; once = tt }

pub sets_are : (columns : ℕ) (ws : List (List ℕ)) (sets : List Set) → sets_in columns [] ws ≡ Ok sets → AreSets columns sets
sets_are columns ws sets e = sets_from columns ws [] sets (no_sets columns) e
