use Rattle.std.proofs.Common.{◌++◌, sym, ap, ◌∙◌}
use Rattle.slot_page.specs.Pages.{page_at}
use Rattle.slot_page.specs.DeadSlots.{dead_tids}
use Rattle.slot_page.proofs.Gathered.{gathered_dead}
use Rattle.chunk_relation.proofs.Events.{assigned_pruned, assigned_reaped}
use Rattle.chunk_relation.proofs.tests.prune_and_reap.Goals as goal

pub reap-requires : goal.reap-requires
reap-requires g c =
    let pages = c.prune_page.new.self.pages in
    let is = gathered_dead 0 0 (page_at pages 0) c.prune_page.new.dead c.in-Some.tid.now (c.in_ok-count.ensures.gathered ∙ ap (λ ts. ts ++ dead_tids 0 (page_at pages 0)) c.new-dead.ensures) (sym c.in-Some.ensures) in
    rw is.0 is.1

pub returns-in-Some : goal.returns-in-Some
returns-in-Some g c = rw (c.reap.ensures, c.in_ok-count.ensures.pruned) (assigned_reaped c.args.xacts.now _ c.in-Some.tid.now (assigned_pruned c.args.xacts.now c.args.horizon c.args.rel.now.pages 0 c.requires))
