use Rattle.core_parts.proofs.Ending.{can_end}
use Rattle.core_reading.proofs.handles.open_inside.Goals as goal

pub refuse-requires : goal.refuse-requires
refuse-requires c = can_end c.args.core.now c.args.session c.requires.inside.ready.there c.requires.inside.ready.sound
