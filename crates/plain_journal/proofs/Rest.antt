-- What is left of a list, in words of journals.
use Rattle.std.specs.Prelude.{ℕ, Bool, List, length, not, slice_get, ◌==◌}
use Rattle.std.specs.List.{enumerate_from, filter, list_all}
use Rattle.std.specs.Option.{unwrap_or}
use Rattle.command_set.specs.declared.Command.{Command}
use Rattle.command_set.specs.declared.journal.Told.{Told}
use Rattle.command_set.specs.declared.state.Running.{Running}
use Rattle.command_set.specs.Journals.{has_ended, untold}

-- the upkeep that is not a session's
abbrev pub others_in : ℕ → List Running → List Running
others_in s upkeep = filter (λ running. not (running.session == s)) upkeep

-- whether these sessions, the first of which has this place, have gone through their commands
abbrev pub ended_from : ℕ → List Told → List (List Command) → Bool
ended_from k told sessions = list_all (λ (n, session). has_ended (unwrap_or (slice_get told n) untold) (length session)) (enumerate_from k sessions)
