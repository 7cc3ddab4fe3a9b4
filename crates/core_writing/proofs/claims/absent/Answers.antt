use Rattle.core_writing.proofs.Asking.{asked_by, asks_locked, cut_where}
use Rattle.core_writing.proofs.Claimers.{uses_freely}
use Rattle.core_writing.proofs.claims.absent.Goals as goal

pub use_table-requires : goal.use_table-requires
use_table-requires c = uses_freely c.args.core.now c.args.session c.args.table c.requires.sound

pub returns-clause-err : goal.returns-clause-err
returns-clause-err c = cut_where c.args.core.now c.args.session _ _ c.look.result (asked_by c.args.core.now c.args.session _ _ c.in_ok-use_table.ensures.ok (asks_locked c.args.core.now c.args.session c.args.table c.requires.there c.requires.sound)) c.look.ensures.err
