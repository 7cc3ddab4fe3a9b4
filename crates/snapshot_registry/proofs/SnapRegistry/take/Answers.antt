use Rattle.std.proofs.Common.{◌∙◌, sym, ap, subst}
use Rattle.snapshot_registry.specs.Snapshots.{IsLeastFree, least_free}
use Rattle.snapshot_registry.proofs.Entries.{least_free_is_least}
use Rattle.snapshot_registry.proofs.SnapRegistry.take.Goals as goal

-- the id is the least free one of the entries
pub returns-clause-least : goal.returns-clause-least
returns-clause-least c = subst (IsLeastFree c.args.self.now) (sym (c.first_free-id.ensures.id ∙ ap least_free (c.deref.ensures.value ∙ c.self.view_is))) (least_free_is_least c.args.self.now)
