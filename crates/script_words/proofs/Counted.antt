-- Words that are taken one at a time, and what their number tells.
use Rattle.std.proofs.Common.{◌≡◌, ◌≢◌, ◌<◌, ◌≤◌, ◌+◌, ◌==◌, ℕ, Bool, true, false, List, [], ◌∷◌, ◌++◌, Result, Ok, Err, length, take, drop, set, map, refl, sym, ap, ◌∙◌, arith, cond, leb, zero, suc, length-append, length-take, length-drop}
use Rattle.std.proofs.Math.Seq.{take-length}
use Rattle.std.proofs.lemmas.Bool.Decides.{nat_tests}
use Rattle.script_words.specs.Words.{counted, first_of, leading}
use Rattle.script_words.specs.declared.fault.LineFault.{LineFault}
use Rattle.script_words.specs.declared.fault.LineFault.TheVariants.{WordCount}

-- what stands behind the first word
pub first_cut : (rest after : List (List ℕ)) (w : List ℕ) → first_of rest ≡ Ok (w, after) → rest ≡ w ∷ after
first_cut [] after w e = absurd (cc)
first_cut (r ∷ rest) after w e = let same : ◌≡◌ {A = List ℕ × List (List ℕ)} (r, rest) (w, after) = cc in ap (λ (p : List ℕ × List (List ℕ)). p.0 ∷ p.1) same

-- the words so far, with one more in its place
pub word_more : {A : Type 0} (view : A → List ℕ) (places : List A) (i : ℕ) (w : A) (before after text : List (List ℕ)) → i < length places → before ≡ view w ∷ after → take i (map view places) ++ before ≡ text → take (i + 1) (map view (set places i w)) ++ after ≡ text
word_more view [] i w before after text h cut e = absurd (omega (arith, h))
word_more view (p ∷ ps) zero w before after text h cut e = sym cut ∙ e
word_more view (p ∷ ps) (suc i) w before after text h cut e =
    let suc_is : suc i + 1 ≡ suc (i + 1) = omega arith in
    rw suc_is (ap (λ (t : List (List ℕ)). view p ∷ t) (word_more view ps i w before after _ (omega (arith, h)) cut refl) ∙ e)

map_length : {A : Type 0} (view : A → List ℕ) (places : List A) → length (map view places) ≡ length places
map_length view [] = refl
map_length view (p ∷ ps) = ap (λ n. suc n) (map_length view ps)

-- how many words there are
words_number : {A : Type 0} (view : A → List ℕ) (places : List A) (i : ℕ) (rest text : List (List ℕ)) → i ≤ length places → take i (map view places) ++ rest ≡ text → length text ≡ i + length rest
words_number view places i rest text h e = omega (arith, ap length e, length-append (take i (map view places)) rest, length-take i (map view places), map_length view places)

abbrev cut_at : Bool → ℕ → List (List ℕ) → Result (List (List ℕ) × List (List ℕ)) LineFault
cut_at b count text = cond b (Ok (take count text, drop count text)) (Err WordCount)

too_short : (count : ℕ) (text : List (List ℕ)) → length text < count → leading count text ≡ Err WordCount
too_short count text h =
    let no : leb count (length text) ≡ false = grind (arith, nat_tests) in
    ap (λ b. cut_at b count text) no

none_first : (rest : List (List ℕ)) (fault : LineFault) → first_of rest ≡ Err fault → (rest ≡ []) × (fault ≡ WordCount)
none_first [] fault e = (refl, cc)
none_first (w ∷ ws) fault e = absurd (cc)

-- there are no more words, and too few
pub too_few : {A : Type 0} (view : A → List ℕ) (places : List A) (i count : ℕ) (rest text : List (List ℕ)) (fault : LineFault) → i < count → count ≤ length places → take i (map view places) ++ rest ≡ text → first_of rest ≡ Err fault → leading count text ≡ Err fault
too_few view places i count rest text fault more room e none =
    let gone = none_first rest fault none in
    let number = words_number view places i rest text (omega arith) e in
    let short : length text < count = omega (arith, number, ap length gone.0) in
    too_short count text short ∙ ap (λ f. Err f) (sym gone.1)

cut_behind : (front rest : List (List ℕ)) → (take (length front) (front ++ rest) ≡ front) × (drop (length front) (front ++ rest) ≡ rest)
cut_behind [] rest = (refl, refl)
cut_behind (f ∷ front) rest = let more = cut_behind front rest in (ap (λ (t : List (List ℕ)). f ∷ t) more.0, more.1)

leads_by : (count : ℕ) (text front rest : List (List ℕ)) → count ≤ length text → take count text ≡ front → drop count text ≡ rest → leading count text ≡ Ok (front, rest)
leads_by count text front rest h is left =
    let yes : leb count (length text) ≡ true = grind (arith, nat_tests) in
    rw (yes, is, left) refl

-- there are enough words
pub enough : {A : Type 0} (view : A → List ℕ) (places : List A) (count : ℕ) (rest text : List (List ℕ)) → count ≤ length places → take count (map view places) ++ rest ≡ text → leading count text ≡ Ok (take count (map view places), rest)
enough view places count rest text room e =
    let number = words_number view places count rest text room e in
    let long : length (take count (map view places)) ≡ count = omega (arith, length-take count (map view places), map_length view places) in
    let cut = cut_behind (take count (map view places)) rest in
    leads_by count text _ rest (omega (arith, number)) (ap (λ (t : List (List ℕ)). take count t) (sym e) ∙ (rw long at cut.0)) (ap (λ (t : List (List ℕ)). drop count t) (sym e) ∙ (rw long at cut.1))

-- words that are cut behind a number of them
record Cut (count : ℕ) (text front rest : List (List ℕ)) : Type 0 where
  there : count ≤ length text
  front_is : front ≡ take count text
  rest_is : rest ≡ drop count text

cut_by : (b : Bool) (count : ℕ) (text front rest : List (List ℕ)) → leb count (length text) ≡ b → cut_at b count text ≡ Ok (front, rest) → Cut count text front rest
cut_by true count text front rest is e =
    let same : ◌≡◌ {A = List (List ℕ) × List (List ℕ)} (take count text, drop count text) (front, rest) = cc in
    record { there = grind (arith, nat_tests); front_is = sym (ap (λ (p : List (List ℕ) × List (List ℕ)). p.0) same); rest_is = sym (ap (λ (p : List (List ℕ) × List (List ℕ)). p.1) same) }
cut_by false count text front rest is e = absurd (cc)

short_by : (b : Bool) (count : ℕ) (text : List (List ℕ)) (fault : LineFault) → leb count (length text) ≡ b → cut_at b count text ≡ Err fault → (length text < count) × (fault ≡ WordCount)
short_by true count text fault is e = absurd (cc)
short_by false count text fault is e = (grind (arith, nat_tests), cc)

another : (count : ℕ) (text : List (List ℕ)) → length text ≢ count → counted count text ≡ Err WordCount
another count text h =
    let no : (length text == count) ≡ false = grind (arith, nat_tests) in
    ap (λ b. cond b (Ok text) (Err WordCount)) no

refused_by : (b : Bool) (count : ℕ) (rest : List (List ℕ)) (fault : LineFault) → (length rest == count) ≡ b → cond b (Ok rest) (Err WordCount) ≡ Err fault → (length rest ≢ count) × (fault ≡ WordCount)
refused_by true count rest fault is e = absurd (cc)
refused_by false count rest fault is e = (grind (arith, nat_tests), cc)

counted_by : (b : Bool) (count : ℕ) (rest found : List (List ℕ)) → (length rest == count) ≡ b → cond b (Ok rest) (Err WordCount) ≡ Ok found → length rest ≡ count
counted_by true count rest found is e = grind (arith, nat_tests)
counted_by false count rest found is e = absurd (cc)

-- where there are too few words to lead, there are not so many
pub not_counted : (count : ℕ) (text : List (List ℕ)) (fault : LineFault) → leading count text ≡ Err fault → counted count text ≡ Err fault
not_counted count text fault e =
    let short = short_by (leb count (length text)) count text fault refl e in
    another count text (omega (arith, short.0)) ∙ ap (λ f. Err f) (sym short.1)

-- there are more words
pub too_many : (count : ℕ) (text front rest : List (List ℕ)) (fault : LineFault) → leading count text ≡ Ok (front, rest) → counted 0 rest ≡ Err fault → counted count text ≡ Err fault
too_many count text front rest fault e some =
    let cut = cut_by (leb count (length text)) count text front rest refl e in
    let left = refused_by (length rest == 0) 0 rest fault refl some in
    let long : length text ≢ count = omega (arith, left.0, ap length cut.rest_is, length-drop count text) in
    another count text long ∙ ap (λ f. Err f) (sym left.1)

-- there are so many words
pub all_there : (count : ℕ) (text front rest found : List (List ℕ)) → leading count text ≡ Ok (front, rest) → counted 0 rest ≡ Ok found → counted count text ≡ Ok front
all_there count text front rest found e none =
    let cut = cut_by (leb count (length text)) count text front rest refl e in
    let gone = counted_by (length rest == 0) 0 rest found refl none in
    let all : length text ≡ count = omega (arith, gone, cut.there, ap length cut.rest_is, length-drop count text) in
    let is : (length text == count) ≡ true = grind (arith, nat_tests) in
    let whole : text ≡ front = sym (take-length text) ∙ ap (λ n. take n text) all ∙ sym cut.front_is in
    ap (λ b. cond b (Ok text) (Err WordCount)) is ∙ ap (λ (t : List (List ℕ)). Ok t) whole
