use Rattle.std.proofs.Common.{ap, sym, ◌∙◌}
use Rattle.std.specs.FinMap as map
use Rattle.command_set.proofs.Edits.{get_handles}
use Rattle.command_set.proofs.rows.HandleMap.get.Goals as goal

pub returns : goal.returns
returns c = c.newest_bytes.ensures ∙ sym (get_handles c.self.inside.log.items c.args.handle) ∙ ap (λ handles. map.get handles c.args.handle) c.self.view_is
