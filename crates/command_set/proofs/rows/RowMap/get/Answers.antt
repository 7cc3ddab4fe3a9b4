use Rattle.std.proofs.Common.{ap, sym, ◌∙◌}
use Rattle.std.specs.FinMap as map
use Rattle.command_set.proofs.Edits.{get_rows}
use Rattle.command_set.proofs.rows.RowMap.get.Goals as goal

pub returns : goal.returns
returns c = c.newest_row.ensures ∙ sym (get_rows c.self.inside.log.items c.args.place.now) ∙ ap (λ rows. map.get rows c.args.place.now) c.self.view_is
