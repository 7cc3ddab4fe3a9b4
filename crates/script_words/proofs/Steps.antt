-- Reading goes on behind what was read.
use Rattle.std.proofs.Common.{◌≡◌, ◌++◌, ◌∷◌, [], ℕ, List, Result, Ok, Err, refl, sym, ap, ◌∙◌, append_assoc}
use Rattle.command_set.specs.declared.Set.{Set}
use Rattle.script_words.specs.Reading.{◌>>=◌, Gives, each_of}
use Rattle.script_words.specs.Sets.{set_in, sets_in}
use Rattle.script_words.specs.declared.fault.LineFault.{LineFault}
use Rattle.script_words.specs.declared.fault.Refusal.{Refusal}
use Rattle.script_words.specs.declared.fault.Refusal.TheVariants.{Fault, Memory}

-- what was read before goes in front of what is read
abbrev pub with_front : {A : Type 0} → List A → Result (List A) LineFault → Result (List A) LineFault
with_front front read = read >>= λ rest. Ok (front ++ rest)

front_more : {A : Type 0} (front : List A) (x : A) (read : Result (List A) LineFault) → with_front front (read >>= λ xs. Ok (x ∷ xs)) ≡ with_front (front ++ x ∷ []) read
front_more front x (Ok xs) = ap (λ ys. Ok ys) (sym (append_assoc front (x ∷ []) xs))
front_more front x (Err fault) = refl

nothing_behind : {A : Type 0} (xs : List A) → xs ++ [] ≡ xs
nothing_behind [] = refl
nothing_behind (x ∷ xs) = ap (λ ys. x ∷ ys) (nothing_behind xs)

-- one word more
pub each_on : {A : Type 0} (read : List ℕ → Result A LineFault) (front after : List A) (before rest : List (List ℕ)) (w : List ℕ) (v : A) (whole : Result (List A) LineFault) → before ≡ w ∷ rest → read w ≡ Ok v → after ≡ front ++ v ∷ [] → with_front front (each_of read before) ≡ whole → with_front after (each_of read rest) ≡ whole
unfolding each_of
each_on read front after before rest w v whole cut is grown h =
    rw grown (sym (front_more front v (each_of read rest)) ∙ (rw (cut, is) at h))

-- no more words
pub each_end : {A : Type 0} (read : List ℕ → Result A LineFault) (front : List A) (before : List (List ℕ)) (whole : Result (List A) LineFault) → before ≡ [] → with_front front (each_of read before) ≡ whole → whole ≡ Ok front
unfolding each_of
each_end read front before whole cut h = sym (rw cut at h) ∙ ap (λ xs. Ok xs) (nothing_behind front)

-- a word that is bad
pub each_bad : {A : Type 0} (read : List ℕ → Result A LineFault) (fault : LineFault) (front : List A) (before rest : List (List ℕ)) (w : List ℕ) (whole : Result (List A) LineFault) → before ≡ w ∷ rest → read w ≡ Err fault → with_front front (each_of read before) ≡ whole → whole ≡ Err fault
unfolding each_of
each_bad read fault front before rest w whole cut is h = sym (rw (cut, is) at h)

-- a word that is refused
pub each_refused : {A : Type 0} (read : List ℕ → Result A LineFault) (r : Refusal) (front : List A) (before rest : List (List ℕ)) (w : List ℕ) (whole : Result (List A) LineFault) → before ≡ w ∷ rest → Gives {A = A} (Err r) (read w) → with_front front (each_of read before) ≡ whole → Gives {A = List A} (Err r) whole
each_refused read Memory front before rest w whole cut is h = tt
each_refused read (Fault fault) front before rest w whole cut is h = each_bad read fault front before rest w whole cut is h

-- one set more
pub sets_on : (columns : ℕ) (front after : List Set) (before rest : List (List ℕ)) (w : List ℕ) (v : Set) (whole : Result (List Set) LineFault) → before ≡ w ∷ rest → set_in columns front w ≡ Ok v → after ≡ front ++ v ∷ [] → sets_in columns front before ≡ whole → sets_in columns after rest ≡ whole
unfolding sets_in
sets_on columns front after before rest w v whole cut is grown h = rw grown (rw (cut, is) at h)

-- no more sets
pub sets_end : (columns : ℕ) (front : List Set) (before : List (List ℕ)) (whole : Result (List Set) LineFault) → before ≡ [] → sets_in columns front before ≡ whole → whole ≡ Ok front
unfolding sets_in
sets_end columns front before whole cut h = sym (rw cut at h)

-- a set that is refused
pub sets_refused : (columns : ℕ) (r : Refusal) (front : List Set) (before rest : List (List ℕ)) (w : List ℕ) (whole : Result (List Set) LineFault) → before ≡ w ∷ rest → Gives {A = Set} (Err r) (set_in columns front w) → sets_in columns front before ≡ whole → Gives {A = List Set} (Err r) whole
unfolding sets_in
sets_refused columns Memory front before rest w whole cut is h = tt
sets_refused columns (Fault fault) front before rest w whole cut is h = sym (rw (cut, is) at h)
