use Rattle.std.proofs.Common.{ap, sym, ◌∙◌}
use Rattle.std.specs.Prelude.{not}
use Rattle.core_state.specs.State.{snapshot_of}
use Rattle.core_parts.specs.Found.{as_old}
use Rattle.core_sights.proofs.Changed.{changed_is}
use Rattle.core_sights.proofs.sights.has_changed.Goals as goal

pub returns-in-Some : goal.returns-in-Some
returns-in-Some c =
    ap not c.is_there_now.ensures
    ∙ changed_is c.args.core.now c.args.session c.args.table c.args.key.now c.in-Some.field-0 (as_old c.args.found.now) c.requires.look (ap snapshot_of (sym c.state.ensures) ∙ sym c.snapshot_of.ensures ∙ c.in-Some.is) c.requires.seen
