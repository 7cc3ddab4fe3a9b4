use Rattle.std.proofs.Common.{ap, ◌∙◌}
use Rattle.core_parts.specs.contracts.parts.CoreParts.{the_view}
use Rattle.core_state.specs.State.{CoreState}
use Rattle.core_reading.proofs.Few.{can_keep, few_by, keeps_by}
use Rattle.core_reading.proofs.Free.{free_to_use}
use Rattle.core_reading.proofs.Opening.{opened_is}
use Rattle.core_reading.proofs.Using.{asked_by, on_err}
use Rattle.core_reading.specs.Handles.{once_opened}
use Rattle.core_reading.proofs.handles.open_value.Goals as goal

pub use_table-requires : goal.use_table-requires
use_table-requires c = free_to_use c.args.core.now c.args.session c.args.table c.requires.ready.sound

pub open_used-requires-clause-keeps : goal.open_used-requires-clause-keeps
open_used-requires-clause-keeps c =
    let few = few_by c.args.core.now (the_view c.core.inside) c.as_slice.result.now c.core.view_is c.as_slice.ensures.value c.seats_fit.ensures in
    keeps_by c.args.core.now c.use_table.new.self c.args.session c.args.table c.args.handle c.in_ok-use_table.ensures.ok
    (can_keep c.args.core.now c.args.session c.args.handle c.requires.ready.there c.requires.ready.sound few c.requires.new)

pub returns-in_err-advance-clause-err : goal.returns-in_err-advance-clause-err
returns-in_err-advance-clause-err c =
    on_err c.from_residual-in_err-advance.result (asked_by c.args.core.now c.args.session c.args.table c.use_table.new.self c.open_used.new.core c.requires.ready c.in_ok-use_table.ensures.ok c.in_err-advance.ensures.err)

pub returns-clause-ok : goal.returns-clause-ok
returns-clause-ok c =
    c.in_ok-advance.ensures.ok
    ∙ ap (λ (used : CoreState). once_opened used c.args.session c.args.handle c.args.table c.args.held) c.in_ok-use_table.ensures.ok
    ∙ opened_is c.args.core.now c.args.session c.args.table c.args.handle c.args.held c.requires.ready.there c.requires.ready.idle
