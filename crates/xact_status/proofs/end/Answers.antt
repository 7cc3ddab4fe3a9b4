use Rattle.std.proofs.Common.{◌∙◌}
use Rattle.std.proofs.Common.{Ok, Err}
use Rattle.xact_status.proofs.RunningLists.{running_searched}
use Rattle.xact_status.proofs.end.Goals as goal

-- the xid runs, so it is found
pub unreachable-requires : goal.unreachable-requires
unreachable-requires c = running_searched _ _ _ (Err c.in-Err.field-0) c.requires.runs (c.deref.ensures.value ∙ c.requires.kept) c.in-Err.ensures.position

-- the place that was found is that of the xid
pub returns-clause-kept : goal.returns-clause-kept
returns-clause-kept c = c.remove-ended.ensures.items ∙ running_searched _ _ _ (Ok c.in-Ok.at) c.requires.runs c.requires.kept (rw c.deref.ensures.value at c.in-Ok.ensures.position) _ c.requires.over
