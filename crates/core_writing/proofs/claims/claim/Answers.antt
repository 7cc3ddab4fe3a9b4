use Rattle.std.proofs.Common.{refl, subst}
use Rattle.std.specs.Prelude.{None, Some}
use Rattle.lock_table.specs.Locks.{IsFirstInWay, row_lock}
use Rattle.core_writing.proofs.Asking.{busy_is}
use Rattle.core_writing.proofs.claims.claim.Goals as goal

pub returns-in-None-clause-free : goal.returns-in-None-clause-free
returns-in-None-clause-free c = busy_is c.args.core.now c.args.session c.args.table c.args.key.now None (subst (IsFirstInWay c.args.core.now.locks c.args.session (row_lock c.args.table c.args.key.now)) c.in-None.is c.in_ok-claim.ensures.other)

pub returns-in-Some-clause-err : goal.returns-in-Some-clause-err
returns-in-Some-clause-err c = (busy_is c.args.core.now c.args.session c.args.table c.args.key.now (Some c.in-Some.session) (subst (IsFirstInWay c.args.core.now.locks c.args.session (row_lock c.args.table c.args.key.now)) c.in-Some.is c.in_ok-claim.ensures.other), refl)
