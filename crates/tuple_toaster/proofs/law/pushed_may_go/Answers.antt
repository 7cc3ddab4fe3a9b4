use Rattle.tuple_toaster.proofs.Going.{pushed_go, pushed_distinct}
use Rattle.tuple_toaster.proofs.law.pushed_may_go.Goals as goal

pub returns-clause-each : goal.returns-clause-each
returns-clause-each c = pushed_go

pub returns-clause-once : goal.returns-clause-once
returns-clause-once c = pushed_distinct
