-- A page with no dead slot after a prune is as it was before.
use Rattle.std.proofs.Common.{◌≡◌, ◌++◌, slice_set, map, sym, ap, ◌∙◌, arith}
use Rattle.slot_page.specs.Pages.{page_at}
use Rattle.slot_page.specs.DeadSlots.{dead_tids}
use Rattle.slot_page.proofs.Pages.{page_same}
use Rattle.slot_page.proofs.Gathered.{none_gathered}
use Rattle.heap_prune.specs.Lines.{is_newly_dead, pruned}
use Rattle.heap_prune.proofs.Events.{page_assigned}
use Rattle.heap_prune.proofs.prune.prune_page.Goals as goal

pub add_dead-requires : goal.add_dead-requires
add_dead-requires g c = rw c.page.ensures (page_assigned g.T.Stamped.stamp_of c.args.xacts.now c.args.pages.now c.args.page c.requires.assigned)

pub prune-requires : goal.prune-requires
prune-requires g c = rw c.page_mut.ensures.page (page_assigned g.T.Stamped.stamp_of c.args.xacts.now c.args.pages.now c.args.page c.requires.assigned)

pub returns-then-len-before-clause-count : goal.returns-then-len-before-clause-count
returns-then-len-before-clause-count g c =
    let slots = page_at c.args.pages.now c.args.page in
    let prunes = pruned g.T.Stamped.stamp_of c.args.xacts.now c.args.horizon in
    let gathered : c.add_dead.new.dead ≡ c.args.dead.now ++ dead_tids c.args.page (map prunes slots) = c.in_ok-add_dead.ensures.gathered ∙ ap (λ s. c.args.dead.now ++ dead_tids c.args.page (map prunes s)) c.page.ensures in
    let none = none_gathered (is_newly_dead g.T.Stamped.stamp_of c.args.xacts.now c.args.horizon) c.args.page slots c.args.dead.now c.add_dead.new.dead gathered (omega (arith, c.len.ensures, c.len-before.ensures, c.if-len-before.true)) in
    sym none.0

pub returns-then-len-before-clause-pruned : goal.returns-then-len-before-clause-pruned
returns-then-len-before-clause-pruned g c =
    let slots = page_at c.args.pages.now c.args.page in
    let prunes = pruned g.T.Stamped.stamp_of c.args.xacts.now c.args.horizon in
    let gathered : c.add_dead.new.dead ≡ c.args.dead.now ++ dead_tids c.args.page (map prunes slots) = c.in_ok-add_dead.ensures.gathered ∙ ap (λ s. c.args.dead.now ++ dead_tids c.args.page (map prunes s)) c.page.ensures in
    let none = none_gathered (is_newly_dead g.T.Stamped.stamp_of c.args.xacts.now c.args.horizon) c.args.page slots c.args.dead.now c.add_dead.new.dead gathered (omega (arith, c.len.ensures, c.len-before.ensures, c.if-len-before.true)) in
    sym (ap (slice_set c.args.pages.now c.args.page) none.1 ∙ page_same c.args.pages.now c.args.page)

pub returns-then-len-before-clause-gathered : goal.returns-then-len-before-clause-gathered
returns-then-len-before-clause-gathered g c =
    let slots = page_at c.args.pages.now c.args.page in
    let prunes = pruned g.T.Stamped.stamp_of c.args.xacts.now c.args.horizon in
    let gathered : c.add_dead.new.dead ≡ c.args.dead.now ++ dead_tids c.args.page (map prunes slots) = c.in_ok-add_dead.ensures.gathered ∙ ap (λ s. c.args.dead.now ++ dead_tids c.args.page (map prunes s)) c.page.ensures in
    let none = none_gathered (is_newly_dead g.T.Stamped.stamp_of c.args.xacts.now c.args.horizon) c.args.page slots c.args.dead.now c.add_dead.new.dead gathered (omega (arith, c.len.ensures, c.len-before.ensures, c.if-len-before.true)) in
    gathered ∙ ap (λ s. c.args.dead.now ++ dead_tids c.args.page s) none.1
