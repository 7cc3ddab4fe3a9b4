use Rattle.std.proofs.Common.{sym, ◌∙◌}
use Rattle.core_parts.proofs.Made.{begun_failed, begun_inside, begun_outside, open_is}
use Rattle.core_parts.proofs.parts.CoreParts.begin.Goals as goal

pub returns-in-Outside : goal.returns-in-Outside
returns-in-Outside c = begun_outside c.args.self.now c.args.session c.args.level _ c.requires.session c.requires.idle (sym c.state.ensures ∙ c.in-Outside.is) c.set_state.ensures

pub returns-in-Failed : goal.returns-in-Failed
returns-in-Failed c = begun_failed c.args.self.now c.args.session c.args.level c.requires.session c.requires.idle (sym c.state.ensures ∙ c.in-Failed.is)

pub returns-in-Open : goal.returns-in-Open
returns-in-Open c = begun_inside c.args.self.now c.args.session c.args.level c.requires.session c.requires.idle (open_is _ _ _ _ (sym c.state.ensures ∙ c.in-Open.is))
