-- A journal has at most two entries for each command of its script.
use Rattle.std.proofs.Common.{arith}
use Rattle.session_shell.specs.contracts.hub.Hub.{the_view}
use Rattle.session_shell.proofs.Made.{fits}
use Rattle.session_shell.proofs.history.HubCounted.count.Goals as goal

pub returns-clause-short : goal.returns-clause-short
returns-clause-short c =
    let room = fits (the_view c.self.inside) c.self.inside.progress.items c.self.invariant.0 in
    omega (arith, room.journal_fits, room.few, c.len.ensures)
