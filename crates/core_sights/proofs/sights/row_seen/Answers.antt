use Rattle.std.proofs.Common.{ap, sym, ◌∙◌}
use Rattle.core_state.specs.State.{snapshot_of}
use Rattle.core_sights.proofs.Looks.{sight_by}
use Rattle.core_sights.proofs.sights.row_seen.Goals as goal

pub returns-in-None : goal.returns-in-None
returns-in-None c = sight_by c.args.core.now c.args.session c.args.table c.args.key.now c.row_now.result (ap snapshot_of (sym c.state.ensures) ∙ sym c.snapshot_of.ensures ∙ c.in-None.is) c.row_now.ensures
