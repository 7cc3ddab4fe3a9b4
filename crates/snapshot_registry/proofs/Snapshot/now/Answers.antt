use Rattle.std.proofs.Common.{◌∙◌}
use Rattle.snapshot_registry.proofs.Bodies.{fields_now}
use Rattle.snapshot_registry.proofs.Snapshot.now.Goals as goal

-- the running xids ascend, so the first is the least
pub returns-clause-taken : goal.returns-clause-taken
returns-clause-taken c = fields_now _ _ _ _ _ _ c.running-running.ensures.all c.next-xmax.ensures.next (c.copied.ensures ∙ c.first.ensures.value) c.unwrap_or-xmin.ensures c.in_ok-running.ensures
