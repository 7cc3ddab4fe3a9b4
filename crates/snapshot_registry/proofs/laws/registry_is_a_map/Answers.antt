use Rattle.snapshot_registry.proofs.Entries.{registry_is_a_map}
use Rattle.snapshot_registry.proofs.laws.registry_is_a_map.Goals as goal

pub returns : goal.returns
returns c = registry_is_a_map
