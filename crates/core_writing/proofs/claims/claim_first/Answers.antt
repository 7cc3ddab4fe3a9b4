use Rattle.core_writing.proofs.Asking.{asked_where, busy_used, free_used}
use Rattle.core_writing.proofs.Claimers.{uses_freely}
use Rattle.core_writing.proofs.claims.claim_first.Goals as goal

pub use_table-requires : goal.use_table-requires
use_table-requires c = uses_freely c.args.core.now c.args.session c.args.table c.requires.sound

pub returns-clause-free : goal.returns-clause-free
returns-clause-free c = free_used c.args.core.now c.args.session c.args.table c.args.key.now _ c.claim.result c.requires.there c.requires.sound c.in_ok-use_table.ensures.ok c.claim.ensures.free

pub returns-clause-err : goal.returns-clause-err
returns-clause-err c = busy_used c.args.core.now c.args.session c.args.table c.args.key.now _ c.claim.result c.requires.there c.requires.sound c.in_ok-use_table.ensures.ok c.claim.ensures.err

pub returns-clause-asked : goal.returns-clause-asked
returns-clause-asked c = asked_where c.args.core.now c.args.session c.args.table _ _ c.claim.result c.requires.there c.requires.sound c.in_ok-use_table.ensures.ok c.claim.ensures.same
