-- How many words there are, and the words at the front.
use Rattle.std.specs.Prelude.{ℕ, ◌==◌, nat_le, List, [], ◌∷◌, length, map, take, drop, slice_index_or, Result, Ok, Err, if◌then◌else◌}
use Rattle.std.specs.Borrow.{Bor}
use Rattle.script_words.specs.Reading.{◌>>=◌}
use Rattle.script_words.specs.declared.fault.LineFault.{LineFault}
use Rattle.script_words.specs.declared.fault.LineFault.TheVariants.{WordCount}

-- so many words
abbrev pub counted : ℕ → List (List ℕ) → Result (List (List ℕ)) LineFault
counted count words = if length words == count then Ok words else Err WordCount

-- so many words at the front, and those after them
abbrev pub leading : ℕ → List (List ℕ) → Result (List (List ℕ) × List (List ℕ)) LineFault
leading count words = if nat_le count (length words) then Ok (take count words, drop count words) else Err WordCount

-- the words that are lent
abbrev pub lent : List (Bor (List ℕ)) → List (List ℕ)
lent words = map (λ word. word.now) words

-- the word at a place, from 0
abbrev pub word_at : List (List ℕ) → ℕ → List ℕ
word_at words i = slice_index_or words i []

-- one word or more: the first, and those after it
abbrev pub first_of : List (List ℕ) → Result (List ℕ × List (List ℕ)) LineFault
first_of [] = Err WordCount
first_of (word ∷ words) = Ok (word, words)

-- so many words: the first, and those after it
abbrev pub first_of_all : ℕ → List (List ℕ) → Result (List ℕ × List (List ℕ)) LineFault
first_of_all count words = counted count words >>= first_of
