use Rattle.read_trials.specs.Readers.{AreAlive, IsLaid}
use Rattle.read_trials.proofs.reads.read_to_each.Given as goal

abbrev pub invariant-loop-end : goal.invariant-loop-end
invariant-loop-end g l = record {
  alive : AreAlive l.xacts 16385 l.store;
  laid : IsLaid l.store l.others.value_id l.others.laid;
}
