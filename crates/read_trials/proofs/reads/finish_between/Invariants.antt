use Rattle.read_trials.specs.Readers.{AreAlive, IsLaid, IsReader}
use Rattle.read_trials.proofs.reads.finish_between.Given as goal

abbrev pub invariant-loop-step : goal.invariant-loop-step
invariant-loop-step g l = record {
  alive : AreAlive l.xacts 16385 l.store;
  laid : IsLaid l.store l.others.value_id l.others.laid;
  reader : IsReader 16385 l.store l.read;
}
