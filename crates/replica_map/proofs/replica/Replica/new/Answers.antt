-- No row is there.
use Rattle.std.specs.FinMap as finite
use Rattle.tuple_layout.specs.Places.{place_cmp}
use Rattle.replica_map.proofs.replica.Replica.new.Goals as goal

pub invariant_of-result : goal.invariant_of-result
invariant_of-result c = λ p. rw (c.new.ensures.empty, finite.get-empty place_cmp p) tt
