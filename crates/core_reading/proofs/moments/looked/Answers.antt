use Rattle.core_reading.proofs.Using.{asked_by, looked_by, on_err}
use Rattle.core_reading.proofs.Free.{free_to_use}
use Rattle.core_reading.proofs.moments.looked.Goals as goal

pub use_table-requires : goal.use_table-requires
use_table-requires c = free_to_use c.args.core.now c.args.session c.args.table c.requires.sound

pub returns-in_err-advance-clause-err : goal.returns-in_err-advance-clause-err
returns-in_err-advance-clause-err c =
    on_err c.from_residual-in_err-advance.result (asked_by c.args.core.now c.args.session c.args.table c.use_table.new.self c.look.new.self c.requires c.in_ok-use_table.ensures.ok c.in_err-advance.ensures.err)

pub returns-clause-after : goal.returns-clause-after
returns-clause-after c = looked_by c.args.core.now c.args.session c.args.table c.use_table.new.self c.look.new.self c.requires c.in_ok-use_table.ensures.ok c.in_ok-advance.ensures.ok
