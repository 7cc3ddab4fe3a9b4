-- Where a journal's answers name a size beyond its type.
use Rattle.std.specs.Prelude.{Bool, false, List, [], ◌∷◌, ◌||◌}
use Rattle.std.specs.Option.{option_map_or}
use Rattle.command_set.specs.declared.Command.{Command}
use Rattle.command_set.specs.declared.Script.{Script}
use Rattle.command_set.specs.declared.JournalEntry.{JournalEntry}
use Rattle.command_set.specs.declared.Kind.{Kind}
use Rattle.command_set.specs.declared.Kind.TheVariants as kinds
use Rattle.command_set.specs.declared.journal.Run.{Run}
use Rattle.command_set.specs.Answers.{answer}
use Rattle.command_set.specs.Journals.{after_entry, command_at, first_run}
use Rattle.plain_program.specs.Words.{is_beyond}

-- whether a command's entry of this kind answers beyond its reply's type
abbrev pub is_beyond_kind : Script → Run → JournalEntry → Command → Kind → Bool
is_beyond_kind script run e command kinds.Run = is_beyond (answer script.schemas run.plain e.session command).reply
is_beyond_kind script run e command kind = false

-- whether an entry answers beyond its reply's type
abbrev pub is_beyond_at : Script → Run → JournalEntry → Bool
is_beyond_at script run e = option_map_or (λ command. is_beyond_kind script run e command e.kind) (command_at script e.session e.number) false

-- whether one of these entries answers beyond its reply's type
abbrev pub is_beyond_on : Script → Run → List JournalEntry → Bool
is_beyond_on script run [] = false
is_beyond_on script run (e ∷ es) = is_beyond_at script run e || is_beyond_on script (after_entry script run e) es

-- whether some moment of a journal answers that a tuple would have 4 GiB or more
abbrev pub answers_beyond : Script → List JournalEntry → Bool
answers_beyond script journal = is_beyond_on script (first_run script) journal
