use Rattle.std.proofs.Common.{ap, arith, ◌∙◌}
use Rattle.core_state.specs.State.{CoreState}
use Rattle.session_shell.proofs.Drawing.{drawn_first}
use Rattle.session_shell.proofs.News.{first_is, new_is, new_places}
use Rattle.session_shell.proofs.Turning.{turned_none}
use Rattle.session_shell.proofs.hub.Hub.new.Goals as goal

pub invariant_of-result : goal.invariant_of-result
invariant_of-result c = (
  new_is c.args.script c.in_ok-core.core c.in_ok-journal.journal.items c.in_ok-kept.kept.items c.in_ok-progress.progress.items c.len-sessions.result c.len.result c.requires c.in_ok-journal.ensures.items c.in_ok-kept.ensures.items c.len-sessions.ensures c.len.ensures (c.in_ok-core.ensures.schemas ∙ c.in_ok-schemas.ensures) (ap (λ (core : CoreState). core.seats) c.in_ok-core.ensures.core) (c.in_ok-progress.ensures.items_if_clones_equal (λ y e. e)) c.in_ok-core.ensures.stands,
  omega (arith, c.in_ok-journal.ensures.capacity, c.count_commands-commands.ensures),
  omega (arith, c.in_ok-kept.ensures.capacity, c.count_commands-commands.ensures),
  turned_none _ c.args.script (first_is c.args.script c.in_ok-core.core c.in_ok-journal.journal.items c.in_ok-kept.kept.items _ c.len-sessions.result c.in_ok-journal.ensures.items c.in_ok-kept.ensures.items c.in_ok-schemas.ensures c.len-sessions.ensures c.in_ok-core.ensures.core),
  drawn_first _ c.args.script (first_is c.args.script c.in_ok-core.core c.in_ok-journal.journal.items c.in_ok-kept.kept.items _ c.len-sessions.result c.in_ok-journal.ensures.items c.in_ok-kept.ensures.items c.in_ok-schemas.ensures c.len-sessions.ensures c.in_ok-core.ensures.core) c.in_ok-core.ensures.kept,
)

pub returns-clause-first : goal.returns-clause-first
returns-clause-first c = first_is c.args.script c.in_ok-core.core c.in_ok-journal.journal.items c.in_ok-kept.kept.items _ c.len-sessions.result c.in_ok-journal.ensures.items c.in_ok-kept.ensures.items c.in_ok-schemas.ensures c.len-sessions.ensures c.in_ok-core.ensures.core

pub returns-clause-places : goal.returns-clause-places
returns-clause-places c = new_places c.args.script c.in_ok-core.core c.in_ok-journal.journal.items c.len-sessions.result c.in_ok-journal.ensures.items c.len-sessions.ensures (ap (λ (core : CoreState). core.seats) c.in_ok-core.ensures.core)
