use Rattle.std.proofs.Common.{sym, ◌∙◌}
use Rattle.core_parts.proofs.Ending.{can_end}
use Rattle.core_parts.proofs.Made.{committed_failed, committed_open, committed_outside, open_is}
use Rattle.core_parts.proofs.parts.CoreParts.commit.Goals as goal

pub returns-in-Outside : goal.returns-in-Outside
returns-in-Outside c = committed_outside c.args.self.now c.args.session c.requires.session c.requires.idle (sym c.state.ensures ∙ c.in-Outside.is)

pub returns-in-Failed : goal.returns-in-Failed
returns-in-Failed c = committed_failed c.args.self.now c.args.session _ c.requires.session c.requires.idle (sym c.state.ensures ∙ c.in-Failed.is) c.set_state.ensures

pub end_committed-requires : goal.end_committed-requires
end_committed-requires c = can_end c.args.self.now c.args.session c.requires.session c.requires.sound

pub returns-in-Open : goal.returns-in-Open
returns-in-Open c = committed_open c.args.self.now c.args.session _ c.requires.session (open_is _ _ _ _ (sym c.state.ensures ∙ c.in-Open.is)) c.end_committed.ensures
