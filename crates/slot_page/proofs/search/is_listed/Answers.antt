use Rattle.std.proofs.Common.{◌∙◌}
use Rattle.slot_page.proofs.Searches.{found_listed}
use Rattle.slot_page.proofs.search.is_listed.Goals as goal

pub returns : goal.returns
returns c = c.is_ok.ensures.value ∙ found_listed c.args.tid.now c.args.tids.now c.binary_search.result c.requires c.binary_search.ensures.bound c.binary_search.ensures.position
