use Rattle.read_trials.specs.Readers.{AreAlive, IsLaid}
use Rattle.read_trials.proofs.reads.read_from_each.Given as goal

abbrev pub invariant-loop-first : goal.invariant-loop-first
invariant-loop-first g l = record {
  alive : AreAlive l.xacts 16385 l.store;
  laid : IsLaid l.store l.others.value_id l.others.laid;
}
