-- A session that is idle begins a command, any other goes on with its own.
use Rattle.std.proofs.Common.{arith, sym, ◌∙◌}
use Rattle.command_set.specs.Journals.{run_of, told_of}
use Rattle.core_state.specs.State.{seat_of}
use Rattle.session_shell.proofs.News.{idle_of, idle_not_past, past_of}
use Rattle.session_shell.proofs.hub.Hub.turn.Goals as goal

pub busy_with-requires : goal.busy_with-requires
busy_with-requires c =
    let q = rw (← c.self.view_is) at c.requires in
    record { from_one = q.from_one; within = omega (arith, q.within, c.self.invariant.0.seats) }

pub begin_next-requires-clause-session : goal.begin_next-requires-clause-session
begin_next-requires-clause-session c = c.requires

pub begin_next-requires-clause-idle : goal.begin_next-requires-clause-idle
begin_next-requires-clause-idle c = rw (← c.self.view_is) (idle_of (seat_of c.self.inside.core c.args.session).job (sym c.in-Nothing.ensures))

pub go_on-requires : goal.go_on-requires
go_on-requires c =
    let q = rw (← c.self.view_is) at c.requires in
    record {
      session = c.requires;
      under_way = rw (← c.self.view_is) (past_of c.self.inside.script c.args.session (told_of (run_of c.self.inside.script c.self.inside.journal.items) c.args.session) (seat_of c.self.inside.core c.args.session).job (λ e. c.in_default.not-Nothing (c.busy_with.ensures ∙ e)) (c.self.invariant.0.each c.args.session q.from_one q.within).busy);
    }

pub returns-in-Nothing-clause-left : goal.returns-in-Nothing-clause-left
returns-in-Nothing-clause-left c = rw (← c.self.view_is) (λ past. absurd (idle_not_past (seat_of c.self.inside.core c.args.session).job (sym c.in-Nothing.ensures) past))
