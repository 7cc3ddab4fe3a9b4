use Rattle.std.proofs.Common.{sym, ◌∙◌}
use Rattle.command_set.specs.Journals.{run_of, told_of}
use Rattle.core_state.specs.State.{seat_of}
use Rattle.session_shell.specs.contracts.hub.Hub.{the_view}
use Rattle.session_shell.proofs.News.{idle_of, past_of}
use Rattle.session_shell.proofs.Finishing.{ends_idle, ends_whole}
use Rattle.session_shell.proofs.hub.Hub.end_session.Goals as goal

pub returns-in-Nothing : goal.returns-in-Nothing
returns-in-Nothing c =
    let q = rw (← c.self.view_is) at c.requires in
    rw (← c.self.view_is) (ends_idle (the_view c.self.inside) c.self.inside.progress.items c.args.session c.self.invariant.0 q.from_one q.within (idle_of (seat_of c.self.inside.core c.args.session).job (sym c.in-Nothing.ensures)))

pub returns-in_default : goal.returns-in_default
returns-in_default c =
    let q = rw (← c.self.view_is) at c.requires in
    let w = rw (← c.self.view_is) at c.turn_until_ended.ensures in
    let past = past_of c.self.inside.script c.args.session (told_of (run_of c.self.inside.script c.self.inside.journal.items) c.args.session) (seat_of c.self.inside.core c.args.session).job (λ e. c.in_default.not-Nothing (c.busy_with.ensures ∙ e)) (c.self.invariant.0.each c.args.session q.from_one q.within).busy in
    rw (← c.self.view_is) (ends_whole (the_view c.self.inside) c.turn_until_ended.new.self c.self.inside.progress.items c.args.session c.self.invariant.0 q.from_one q.within past w)
