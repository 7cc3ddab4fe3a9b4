use Rattle.std.proofs.Common.{sym, ◌∙◌}
use Rattle.core_parts.proofs.Ending.{can_end}
use Rattle.core_parts.proofs.Made.{open_is, rolled_failed, rolled_open, rolled_outside}
use Rattle.core_parts.proofs.parts.CoreParts.rollback.Goals as goal

pub returns-in-Outside : goal.returns-in-Outside
returns-in-Outside c = rolled_outside c.args.self.now c.args.session c.requires.session c.requires.idle (sym c.state.ensures ∙ c.in-Outside.is)

pub returns-in-Failed : goal.returns-in-Failed
returns-in-Failed c = rolled_failed c.args.self.now c.args.session _ c.requires.session c.requires.idle (sym c.state.ensures ∙ c.in-Failed.is) c.set_state.ensures

pub give_up-requires : goal.give_up-requires
give_up-requires c = can_end c.args.self.now c.args.session c.requires.session c.requires.sound

pub returns-in-Open : goal.returns-in-Open
returns-in-Open c = rolled_open c.args.self.now c.args.session _ c.requires.session (open_is _ _ _ _ (sym c.state.ensures ∙ c.in-Open.is)) c.give_up.ensures
