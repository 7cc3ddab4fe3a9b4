-- The words of a command line, and the command that they are.
use Rattle.std.specs.Prelude.{◌≡◌, ◌↔◌, ◌≤◌, ℕ, List, [], ◌∷◌, Option, Some, None, codes, if◌then◌else◌}
use Rattle.std.specs.Option.{option_map}
use Rattle.std.specs.Str.{bytes_eq}
use Rattle.std.specs.Fmt.{decimal}
use Rattle.script_words.specs.Numbers.{number_in}
use Rattle.command_words.specs.declared.CommandWords.{CommandWords}
use Rattle.command_words.specs.declared.CommandWords.TheVariants.{Replay, Run, Make}

-- how a command is spelled
abbrev pub spelled : CommandWords → List (List ℕ)
spelled Replay = codes "replay" ∷ []
spelled Run = codes "run" ∷ []
spelled (Make n) = codes "make" ∷ decimal n ∷ []

-- what is a command: a made script has from 1 to 1,000 keys
abbrev pub IsCommand : CommandWords → Type 0
IsCommand Replay = Unit {0}
IsCommand Run = Unit {0}
IsCommand (Make n) = (1 ≤ n) × (n ≤ 1000)

-- the command that one word is
abbrev pub alone_in : List ℕ → Option CommandWords
alone_in word = if bytes_eq word (codes "replay") then Some Replay else if bytes_eq word (codes "run") then Some Run else None

-- the command that a word with a number behind it is
abbrev pub numbered_in : List ℕ → List ℕ → Option CommandWords
numbered_in word count = if bytes_eq word (codes "make") then option_map Make (number_in 1 1000 count) else None

-- the command that words are
abbrev pub command_in : List (List ℕ) → Option CommandWords
command_in (word ∷ []) = alone_in word
command_in (word ∷ count ∷ []) = numbered_in word count
command_in words = None

-- words are a command exactly where they are its spelling
abbrev pub CommandsAreSpelled : Type 0
CommandsAreSpelled = (words : List (List ℕ)) (command : CommandWords) → (command_in words ≡ Some command) ↔ (IsCommand command × (words ≡ spelled command))
