use Rattle.std.proofs.Common.{◌++◌, sym, ap, ◌∙◌, subst}
use Rattle.std.specs.List.Sorted.{IsSorted}
use Rattle.slot_page.specs.Tids.{tid_cmp}
use Rattle.slot_page.specs.DeadSlots.{dead_tids}
use Rattle.slot_page.specs.Pages.{page_at}
use Rattle.slot_page.proofs.Gathered.{dead_tids_sorted}
use Rattle.read_trials.proofs.Passing.{passes_then, prune_passes, sweep_passes}
use Rattle.read_trials.proofs.reads.sweep_other.Goals as goal

pub sweep_leaf-requires : goal.sweep_leaf-requires
sweep_leaf-requires g c =
    let slots = page_at c.prune_page.new.self.rel.pages c.args.tid.page in
    subst (IsSorted tid_cmp) (sym (c.in_ok-_count.ensures.gathered ∙ ap (λ ts. ts ++ dead_tids c.args.tid.page slots) c.new-dead.ensures)) (dead_tids_sorted c.args.tid.page slots)

pub returns : goal.returns
returns g c =
    let slots = page_at c.prune_page.new.self.rel.pages c.args.tid.page in
    let first = prune_passes c.args.xacts.now 16385 c.args.store.now c.prune_page.new.self c.args.tid.page c.in_ok-_count.ensures.pruned c.requires.alive in
    passes_then c.args.xacts.now 16385 c.args.store.now c.prune_page.new.self c.sweep_leaf.new.self first
    (sweep_passes c.args.xacts.now 16385 c.prune_page.new.self c.sweep_leaf.new.self c.args.tid.page _ c.prune_page.new.dead (c.in_ok-_count.ensures.gathered ∙ ap (λ ts. ts ++ dead_tids c.args.tid.page slots) c.new-dead.ensures) c.sweep_leaf.ensures.swept first.alive)
