use Rattle.std.proofs.Common.{◌-◌, get_or, ap, ◌∙◌}
use Rattle.session_shell.specs.contracts.hub.Hub.{the_view}
use Rattle.session_shell.proofs.Finishing.{left_by}
use Rattle.session_shell.proofs.hub.Hub.has_command_left.Goals as goal

pub returns : goal.returns
returns c =
    let q = rw (← c.self.view_is) at c.requires in
    rw (← c.self.view_is) (left_by (the_view c.self.inside) c.self.inside.progress.items c.args.session c.len.result c.index.result.now c.index-as_slice-at.result c.self.invariant.0 q.from_one q.within c.index.ensures (c.index-as_slice-at.is ∙ ap (λ sessions. get_or sessions (c.args.session - 1) c.index-as_slice-at.result) c.as_slice.ensures) c.len.ensures)
