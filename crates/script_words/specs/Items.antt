-- How the items of a schedule are spelled, and how many turns they are.
use Rattle.std.specs.Prelude.{ℕ, ◌-◌, ◌*◌, ◌==◌, Bool, List, length, take, drop, codes, Result, Ok, if◌then◌else◌}
use Rattle.std.specs.List.{before_first, after_first, list_any, sum_by}
use Rattle.std.specs.Option.{ok_or}
use Rattle.std.specs.Str.{bytes_eq}
use Rattle.command_set.specs.declared.Item.{Item}
use Rattle.command_set.specs.declared.Item.TheVariants.{Once, Times, Whole}
use Rattle.command_set.specs.declared.Passage.{Passage}
use Rattle.script_words.specs.Numbers.{number_in}
use Rattle.script_words.specs.Names.{ordinal_in}
use Rattle.script_words.specs.Reading.{◌>>=◌, each_of}
use Rattle.script_words.specs.declared.fault.LineFault.{LineFault}
use Rattle.script_words.specs.declared.fault.LineFault.TheVariants.{BadName}

-- a star
abbrev pub is_star : ℕ → Bool
is_star b = b == 42

-- `N!`, `N*K` or `N`, where N is one of so many sessions
unfoldable pub item_in : ℕ → List ℕ → Result Item LineFault
item_in sessions word =
    if bytes_eq (drop (length word - 1) word) (codes "!") then (ordinal_in sessions (take (length word - 1) word) >>= λ s. Ok (Whole s))
    else if list_any is_star word then (do
      s ← ordinal_in sessions (before_first is_star word)
      count ← ok_or (number_in 1 100000 (after_first is_star word)) BadName
      Ok (Times s count))
    else (ordinal_in sessions word >>= λ s. Ok (Once s))

-- the items that words spell
abbrev pub items_in : ℕ → List (List ℕ) → Result (List Item) LineFault
items_in sessions words = each_of (item_in sessions) words

-- how many turns an item counts as
abbrev pub turns_of : Item → ℕ
turns_of (Once s) = 1
turns_of (Times s count) = count
turns_of (Whole s) = 1

-- how many turns a passage counts as
abbrev pub passage_turns : Passage → ℕ
passage_turns passage = passage.count * sum_by turns_of passage.items
