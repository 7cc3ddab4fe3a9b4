-- The least session in the way, from a number on.
use Rattle.std.specs.Prelude.{ℕ, List, Option, ◌==◌, ◌&&◌, not}
use Rattle.std.specs.List.{enumerate_from, find}
use Rattle.std.specs.Option.{option_map}
use Rattle.command_set.specs.declared.state.Plain.{Plain}
use Rattle.command_set.specs.declared.state.Session.{Session}
use Rattle.plain_program.specs.declared.obstacles.Obstacle.{Obstacle}
use Rattle.plain_program.specs.Words.{stands_in}

-- the least of these sessions other than s that is in the way, where the first of them has this number
abbrev pub least_from : ℕ → Plain → ℕ → Obstacle → List Session → Option ℕ
least_from k m s way sessions = option_map (λ (n, session). n) (find (λ (n, session). not (n == s) && stands_in m way n session) (enumerate_from k sessions))
