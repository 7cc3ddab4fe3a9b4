use Rattle.std.proofs.Common.{ap}
use Rattle.chunk_index.specs.Pinned.{pin_of}
use Rattle.toast_store.specs.Walks.{Walking}
use Rattle.toast_store.proofs.Walked.{can_still}
use Rattle.store_trials.proofs.fetches.a_fetch_is_not_disturbed_by_another_value.Goals as goal

pub is_undisturbed-requires-clause-ready : goal.is_undisturbed-requires-clause-ready
is_undisturbed-requires-clause-ready g c = can_still c.begin.new.store.index c.disturb.new.store.index c.in_ok-fetch.fetch.walk (ap (λ pins. pin_of pins (Walking.session c.in_ok-fetch.fetch.walk)) c.disturb.ensures.pins) c.in_ok-fetch.ensures.ready
