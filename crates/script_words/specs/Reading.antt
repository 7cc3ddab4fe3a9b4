-- Steps of reading, each of which may find the first fault of a line.
use Rattle.std.specs.Prelude.{◌≡◌, ℕ, List, [], ◌∷◌, Result, Ok, Err}
use Rattle.script_words.specs.declared.fault.LineFault.{LineFault}
use Rattle.script_words.specs.declared.fault.Refusal.{Refusal}
use Rattle.script_words.specs.declared.fault.Refusal.TheVariants.{Fault, Memory}

-- the next step, if this one found no fault
infixl 10 ◌>>=◌
abbrev pub ◌>>=◌ : {A B : Type 0} → Result A LineFault → (A → Result B LineFault) → Result B LineFault
(Ok x) >>= f = f x
(Err fault) >>= f = Err fault

-- what was read is what reading gives, value or fault; want of memory says nothing
abbrev pub Gives : {A : Type 0} → Result A Refusal → Result A LineFault → Type 0
Gives (Ok x) read = read ≡ Ok x
Gives (Err Memory) read = Unit {0}
Gives (Err (Fault fault)) read = read ≡ Err fault

-- what was found, seen by a view, is what reading gives, value or fault
abbrev pub Finds : {X A : Type 0} → (X → A) → Result X LineFault → Result A LineFault → Type 0
Finds view (Ok x) read = read ≡ Ok (view x)
Finds view (Err fault) read = read ≡ Err fault

-- what words spell, each by itself
unfoldable pub each_of : {A : Type 0} → (List ℕ → Result A LineFault) → List (List ℕ) → Result (List A) LineFault
each_of read [] = Ok []
each_of read (word ∷ words) = do
  first ← read word
  rest ← each_of read words
  Ok (first ∷ rest)
