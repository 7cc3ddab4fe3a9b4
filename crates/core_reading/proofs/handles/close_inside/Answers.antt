use Rattle.std.proofs.Common.{refl, sym}
use Rattle.core_parts.proofs.Ending.{can_end}
use Rattle.core_reading.proofs.Closing.{close_made, used_there}
use Rattle.core_reading.proofs.handles.close_inside.Goals as goal

pub give_back-requires-clause-used : goal.give_back-requires-clause-used
give_back-requires-clause-used c = used_there c.args.core.now c.args.session c.args.handle c.in-Some.kept.now c.requires.ready (sym c.in-Some.ensures)

pub refuse-requires : goal.refuse-requires
refuse-requires c = can_end c.args.core.now c.args.session c.requires.ready.there c.requires.ready.sound

pub returns-in-Some : goal.returns-in-Some
returns-in-Some c = close_made c.args.core.now c.args.session c.args.handle c.in-Some.kept.now c.give_back.new.core _ c.requires (sym c.in-Some.ensures) c.give_back.ensures refl
