use Rattle.std.proofs.Common.{◌∙◌}
use Rattle.snapshot_registry.proofs.Bodies.{horizon_start}
use Rattle.snapshot_registry.proofs.SnapRegistry.horizon.Goals as goal

-- the running xids ascend, so the first is the least
pub loop-entry-init : goal.loop-entry-init
loop-entry-init c = horizon_start _ _ _ _ _ _ _ c.running.ensures.all c.next.ensures.next (c.copied.ensures ∙ c.first.ensures.value) c.unwrap_or-least.ensures (c.deref-entry-items.ensures.value ∙ c.self.view_is)
