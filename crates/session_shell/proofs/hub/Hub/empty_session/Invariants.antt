use Rattle.std.proofs.Common.{◌-◌, length}
use Rattle.session_shell.specs.Hubs.{commands_of}
use Rattle.session_shell.specs.Turns.{place_of, places_in}
use Rattle.session_shell.proofs.Finishing.{EmptiedTo}
use Rattle.session_shell.proofs.hub.Hub.empty_session.Given as goal

abbrev pub invariant-commands : goal.invariant-commands
invariant-commands l = EmptiedTo l.initial.self l.self l.session

abbrev pub decreases-commands : goal.decreases-commands
decreases-commands l = length (commands_of l.self.script l.session) - (place_of (places_in l.self) l.session).begun
