use Rattle.std.proofs.Common.{◌∙◌}
use Rattle.snapshot_registry.proofs.Bodies.{search_running}
use Rattle.snapshot_registry.proofs.Snapshot.ran.Goals as goal

-- the search finds the xid exactly where it is held
pub returns : goal.returns
returns c = c.is_ok.ensures.value ∙ search_running _ _ _ _ c.requires c.as_slice.ensures c.binary_search.ensures.position
