use Rattle.std.proofs.Common.{sym, ◌∙◌}
use Rattle.core_reading.proofs.Opening.{none_made}
use Rattle.core_reading.proofs.handles.open_new.Goals as goal

pub returns-in_ok-advance-in-Err-clause-ok : goal.returns-in_ok-advance-in-Err-clause-ok
returns-in_ok-advance-in-Err-clause-ok c =
    none_made c.args.core.now c.args.session c.args.handle c.args.table c.args.key.now c.args.column c.in-Err.reply c.looked.new.core c.in_ok-advance-in-Err.advance c.requires.inside c.requires.new (sym c.in_ok-held.ensures ∙ c.in-Err.is)
    c.in_ok-advance-in-Err.ensures.after c.in_ok-advance-in-Err.ensures.told
