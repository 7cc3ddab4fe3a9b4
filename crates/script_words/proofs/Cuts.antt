-- Where a list is cut at the first element that passes a test, and how lines and words are cut off there.
use Rattle.std.proofs.Common.{◌≡◌, ◌≢◌, ◌<◌, ◌≤◌, ◌+◌, ◌-◌, ℕ, Bool, true, false, List, [], ◌∷◌, Option, Some, None, length, take, drop, refl, sym, ap, ◌∙◌, arith, cond, ltb, not, zero, suc, length-drop, length-take}
use Rattle.std.specs.Prelude.{unwrap_or, nat_lt}
use Rattle.std.specs.List.{slice_split, position_or_len, position_from, onto_first, before_first, after_first, filter}
use Rattle.std.proofs.lemmas.Iterator.Adapters.{position_from-zero}
use Rattle.std.proofs.lemmas.List.Sums.{prefix_len-le-length}
use Rattle.std.proofs.Math.Seq.{take-length}
use Rattle.std.proofs.lemmas.Bool.Decides.{nat_tests}
use Rattle.script_words.specs.Lines.{lines, words, is_blank, is_solid, is_line_feed, without_empty_end}

pub place_within : (p : ℕ → Bool) (xs : List ℕ) → position_or_len p xs ≤ length xs
place_within p xs = prefix_len-le-length (λ x. not (p x)) xs

first_or : (n m : ℕ) (b : Bool) → ltb n m ≡ b → n ≤ m → unwrap_or (cond b (Some n) None) m ≡ n
first_or n m true e h = refl
first_or n m false e h = grind (arith, nat_tests)

-- the first place that passes, or the length, from what `position` answers
pub place_from : (p : ℕ → Bool) (xs : List ℕ) → unwrap_or (position_from p 0 xs) (length xs) ≡ position_or_len p xs
place_from p xs =
    ap (λ (o : Option ℕ). unwrap_or o (length xs)) (sym (position_from-zero p xs))
    ∙ first_or (position_or_len p xs) (length xs) (ltb (position_or_len p xs) (length xs)) refl (place_within p xs)

-- a list is what stands before a place past its end
pub all_taken : (xs : List ℕ) (n : ℕ) → length xs ≤ n → n ≤ length xs → xs ≡ take n xs
all_taken xs n low high =
    let e : length xs ≡ n = omega arith in
    sym (take-length xs) ∙ ap (λ (k : ℕ). take k xs) e

-- nothing stands past the end
pub none_left : (xs : List ℕ) (n : ℕ) → length xs ≤ n → drop n xs ≡ []
none_left [] zero h = refl
none_left [] (suc n) h = refl
none_left (x ∷ xs) zero h = absurd (omega (arith, h))
none_left (x ∷ xs) (suc n) h = none_left xs n (omega (arith, h))

pub past_end : (xs : List ℕ) (n : ℕ) → length xs ≤ n → drop (length xs) xs ≡ drop (n + 1) xs
past_end xs n h = none_left xs (length xs) (omega arith) ∙ sym (none_left xs (n + 1) (omega arith))

-- the pieces behind a separator at the front, if one is there
abbrev pieces_behind : (ℕ → Bool) → List ℕ → List (List ℕ)
pieces_behind p [] = []
pieces_behind p (y ∷ ys) = slice_split p ys

-- a list is empty or begins with an element that passes
abbrev BeginsWith : (ℕ → Bool) → List ℕ → Type 0
BeginsWith p [] = Unit {0}
BeginsWith p (y ∷ ys) = p y ≡ true

split_step : (p : ℕ → Bool) (b : Bool) (x : ℕ) (xs : List ℕ) (n : ℕ) → slice_split p xs ≡ take n xs ∷ pieces_behind p (drop n xs) →
    cond b ([] ∷ slice_split p xs) (onto_first x (slice_split p xs)) ≡ take (cond (not b) (1 + n) 0) (x ∷ xs) ∷ pieces_behind p (drop (cond (not b) (1 + n) 0) (x ∷ xs))
split_step p true x xs n h = refl
split_step p false x xs n h =
    let e : 1 + n ≡ suc n = omega arith in
    rw e (ap (onto_first x) h)

-- the first piece ends at the first separator
pub split_cut : (p : ℕ → Bool) (xs : List ℕ) → slice_split p xs ≡ take (position_or_len p xs) xs ∷ pieces_behind p (drop (position_or_len p xs) xs)
split_cut p [] = refl
split_cut p (x ∷ xs) = split_step p (p x) x xs (position_or_len p xs) (split_cut p xs)

begins_step : (p : ℕ → Bool) (b : Bool) (x : ℕ) (xs : List ℕ) (n : ℕ) → p x ≡ b → BeginsWith p (drop n xs) → BeginsWith p (drop (cond (not b) (1 + n) 0) (x ∷ xs))
begins_step p true x xs n e h = e
begins_step p false x xs n e h =
    let suc_is : 1 + n ≡ suc n = omega arith in
    rw suc_is h

-- a separator stands at the first place of one
pub begins_there : (p : ℕ → Bool) (xs : List ℕ) → BeginsWith p (drop (position_or_len p xs) xs)
begins_there p [] = tt
begins_there p (x ∷ xs) = begins_step p (p x) x xs (position_or_len p xs) refl (begins_there p xs)

drop_more : (xs : List ℕ) (n : ℕ) (y : ℕ) (ys : List ℕ) → drop n xs ≡ y ∷ ys → drop (n + 1) xs ≡ ys
drop_more [] zero y ys e = absurd (cc)
drop_more [] (suc n) y ys e = absurd (cc)
drop_more (x ∷ xs) zero y ys e = cc
drop_more (x ∷ xs) (suc n) y ys e =
    let suc_is : suc n + 1 ≡ suc (n + 1) = omega arith in
    rw suc_is (drop_more xs n y ys e)

drop_end : (xs : List ℕ) (n : ℕ) → drop n xs ≡ [] → length xs ≤ n
drop_end [] n e = omega arith
drop_end (x ∷ xs) zero e = absurd (cc)
drop_end (x ∷ xs) (suc n) e = let h = drop_end xs n e in omega arith

without_first : (piece next : List ℕ) (pieces : List (List ℕ)) → without_empty_end (piece ∷ next ∷ pieces) ≡ piece ∷ without_empty_end (next ∷ pieces)
without_first [] next pieces = refl
without_first (x ∷ piece) next pieces = refl

without_only : (piece : List ℕ) → 0 < length piece → without_empty_end (piece ∷ []) ≡ piece ∷ []
without_only [] h = absurd (omega (arith, h))
without_only (x ∷ piece) h = refl

lines_by : (xs rest : List ℕ) (n : ℕ) → 0 < length xs → n ≤ length xs → drop n xs ≡ rest → slice_split is_line_feed xs ≡ take n xs ∷ pieces_behind is_line_feed rest → lines xs ≡ take n xs ∷ lines (drop (n + 1) xs)
unfolding lines
lines_by xs [] n some within left cut =
    let past = drop_end xs n left in
    let whole = all_taken xs n past within in
    rw (cut, none_left xs (n + 1) (omega arith), ← whole) (without_only xs some)
lines_by xs (y ∷ ys) n some within left cut =
    rw (cut, drop_more xs n y ys left, split_cut is_line_feed ys) (without_first (take n xs) _ _)

-- the first line ends at the first line feed
pub lines_cut : (xs : List ℕ) → 0 < length xs → lines xs ≡ before_first is_line_feed xs ∷ lines (after_first is_line_feed xs)
lines_cut xs some = lines_by xs _ (position_or_len is_line_feed xs) some (place_within is_line_feed xs) refl (split_cut is_line_feed xs)

skip_step : (b : Bool) (x : ℕ) (xs : List ℕ) (n : ℕ) → is_blank x ≡ b → words xs ≡ words (drop n xs) → words (x ∷ xs) ≡ words (drop (cond (not (not b)) (1 + n) 0) (x ∷ xs))
unfolding words
skip_step true x xs n e h =
    let suc_is : 1 + n ≡ suc n = omega arith in
    rw (suc_is, e) h
skip_step false x xs n e h = refl

-- blanks at the front are passed over
pub words_skip : (xs : List ℕ) → words xs ≡ words (drop (position_or_len is_solid xs) xs)
unfolding words
words_skip [] = refl
words_skip (x ∷ xs) = skip_step (is_blank x) x xs (position_or_len is_solid xs) refl (words_skip xs)

-- nothing but blanks has no words
pub words_none : words [] ≡ []
unfolding words
words_none = refl

behind_words : (ys : List ℕ) → BeginsWith is_blank ys → filter (λ piece. nat_lt 0 (length piece)) (pieces_behind is_blank ys) ≡ words ys
unfolding words
behind_words [] h = refl
behind_words (y ∷ ys) h = rw h refl

first_kept : (piece : List ℕ) (pieces : List (List ℕ)) → 0 < length piece → filter (λ piece. nat_lt 0 (length piece)) (piece ∷ pieces) ≡ piece ∷ filter (λ piece. nat_lt 0 (length piece)) pieces
first_kept piece pieces h =
    let e : ltb 0 (length piece) ≡ true = grind (arith, nat_tests) in
    rw e refl

-- a word ends at the first blank
pub words_cut : (xs : List ℕ) (n : ℕ) → n ≡ position_or_len is_blank xs → 0 < length (take n xs) → words xs ≡ take n xs ∷ words (drop n xs)
unfolding words
words_cut xs n is some =
    rw (split_cut is_blank xs, ← is) (first_kept (take n xs) (pieces_behind is_blank (drop n xs)) some ∙ ap (λ (rest : List (List ℕ)). take n xs ∷ rest) (behind_words (drop n xs) (rw is (begins_there is_blank xs))))

first_solid_there : (b : Bool) (n : ℕ) → not b ≡ true → 0 < cond (not b) (1 + n) 0
first_solid_there true n h = absurd (cc)
first_solid_there false n h = omega arith

-- the first blank of a text that begins with none stands behind that
pub word_begins : (ys : List ℕ) → BeginsWith is_solid ys → 0 < length ys → 0 < position_or_len is_blank ys
word_begins [] h some = absurd (omega (arith, some))
word_begins (y ∷ ys) h some = first_solid_there (is_blank y) (position_or_len is_blank ys) h

-- where blanks go to the end, there are no words
pub no_word : (xs : List ℕ) (n : ℕ) → n ≡ position_or_len is_solid xs → n ≡ length xs → words xs ≡ []
no_word xs n is end =
    words_skip xs ∙ ap (λ (k : ℕ). words (drop k xs)) (sym is) ∙ ap words (none_left xs n (omega arith)) ∙ words_none

-- behind the blanks at its front a text has a first word, which is not empty
pub word_starts : (xs ys : List ℕ) (n m : ℕ) → n ≡ position_or_len is_solid xs → n ≤ length xs → n ≢ length xs → ys ≡ drop n xs → m ≡ position_or_len is_blank ys → 0 < m
word_starts xs ys n m is within more drops first =
    let begins : BeginsWith is_solid ys = rw (drops, is) (begins_there is_solid xs) in
    let some : 0 < length ys = rw drops (omega (arith, length-drop n xs)) in
    rw first (word_begins ys begins some)

pub word_found : (xs ys word rest : List ℕ) (n m : ℕ) → n ≡ position_or_len is_solid xs → n ≤ length xs → n ≢ length xs → ys ≡ drop n xs → m ≡ position_or_len is_blank ys → m ≤ length ys → word ≡ take m ys → rest ≡ drop m ys → words xs ≡ word ∷ words rest
word_found xs ys word rest n m is within more drops first small front back =
    let starts = word_starts xs ys n m is within more drops first in
    let some : 0 < length (take m ys) = omega (arith, length-take m ys) in
    let from : words xs ≡ words ys = words_skip xs ∙ ap (λ (k : ℕ). words (drop k xs)) (sym is) ∙ ap words (sym drops) in
    from ∙ words_cut ys m first some ∙ ap (λ (w : List ℕ). w ∷ words (drop m ys)) (sym front) ∙ ap (λ (r : List ℕ). word ∷ words r) (sym back)

pub word_shorter : (xs ys rest : List ℕ) (n m : ℕ) → n ≡ position_or_len is_solid xs → n ≤ length xs → n ≢ length xs → ys ≡ drop n xs → m ≡ position_or_len is_blank ys → m ≤ length ys → rest ≡ drop m ys → length rest < length xs
word_shorter xs ys rest n m is within more drops first small back =
    let starts = word_starts xs ys n m is within more drops first in
    let rest_len : length rest ≡ length ys - m = ap length back ∙ length-drop m ys in
    let ys_len : length ys ≡ length xs - n = ap length drops ∙ length-drop n xs in
    omega arith
