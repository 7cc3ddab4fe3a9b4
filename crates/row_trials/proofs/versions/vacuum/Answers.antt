use Rattle.std.proofs.Common.{◌++◌, sym, ap, ◌∙◌, subst}
use Rattle.std.specs.List.Sorted.{IsSorted}
use Rattle.slot_page.specs.Tids.{tid_cmp}
use Rattle.slot_page.specs.Pages.{page_at}
use Rattle.slot_page.specs.DeadSlots.{dead_tids}
use Rattle.row_versions.proofs.Entries.{unnamed_after}
use Rattle.slot_page.proofs.Gathered.{dead_tids_sorted, gathered_are, listed_at}
use Rattle.row_versions.proofs.Events.{assigned_pruned, assigned_reaped}
use Rattle.row_trials.proofs.versions.vacuum.Goals as goal

pub unindex-removed-requires-clause-sorted : goal.unindex-removed-requires-clause-sorted
unindex-removed-requires-clause-sorted g c =
    let slots = page_at c.prune_page.new.self.pages 0 in
    subst (IsSorted tid_cmp) (sym (c.in_ok-count.ensures.gathered ∙ ap (λ ts. ts ++ dead_tids 0 slots) c.new-dead.ensures)) (dead_tids_sorted 0 slots)

pub unindex-removed-requires-clause-dead : goal.unindex-removed-requires-clause-dead
unindex-removed-requires-clause-dead g c =
    let pages = c.prune_page.new.self.pages in
    λ t held. gathered_are pages 0 c.prune_page.new.dead t (c.in_ok-count.ensures.gathered ∙ ap (λ ts. ts ++ dead_tids 0 (page_at pages 0)) c.new-dead.ensures) held

pub reap-requires-clause-dead : goal.reap-requires-clause-dead
reap-requires-clause-dead g c =
    let pages = c.prune_page.new.self.pages in
    rw c.unindex-removed.ensures.removed (gathered_are pages 0 c.prune_page.new.dead c.in-Some.tid.now (c.in_ok-count.ensures.gathered ∙ ap (λ ts. ts ++ dead_tids 0 (page_at pages 0)) c.new-dead.ensures) (listed_at c.prune_page.new.dead 0 c.in-Some.tid.now (sym c.in-Some.ensures)))

pub reap-requires-clause-unnamed : goal.reap-requires-clause-unnamed
reap-requires-clause-unnamed g c =
    rw c.unindex-removed.ensures.removed (unnamed_after c.prune_page.new.dead c.prune_page.new.self.entries c.in-Some.tid.now (listed_at c.prune_page.new.dead 0 c.in-Some.tid.now (sym c.in-Some.ensures)))

pub returns-in-Some : goal.returns-in-Some
returns-in-Some g c =
    rw (c.reap.ensures.freed, c.unindex-removed.ensures.removed, c.in_ok-count.ensures.pruned) (assigned_reaped c.args.xacts.now _ c.in-Some.tid.now (assigned_pruned c.args.xacts.now c.args.horizon c.args.rel.now.pages 0 c.requires))
