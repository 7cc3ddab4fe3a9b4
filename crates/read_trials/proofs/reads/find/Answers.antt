use Rattle.std.proofs.Common.{ap, ◌∙◌}
use Rattle.toast_store.specs.Fetches.{Fetching, new_fetch, outcome}
use Rattle.toast_store.proofs.Walked.{begun}
use Rattle.read_trials.proofs.Reading.{outcome_pins}
use Rattle.read_trials.proofs.reads.find.Goals as goal

pub loop-fetch-init : goal.loop-fetch-init
loop-fetch-init c = record {
  ready = begun c.unpin.new.store.index _ _ _ _ 5 (ap (λ (f : Fetching). f.walk) c.in_ok-fetch.ensures.fetch) c.unpin.ensures.free;
  same = ap (outcome c.unpin.new.store) c.in_ok-fetch.ensures.fetch ∙ outcome_pins c.args.store.now c.unpin.new.store (new_fetch c.args.p c.args.span 5) c.unpin.ensures.same;
  pins = c.unpin.ensures.same;
}
