use Rattle.std.proofs.Common.{◌++◌, Contains, sym, ap, ◌∙◌, subst}
use Rattle.list_facts.proofs.Members.{none_in_nil}
use Rattle.slot_page.specs.Pages.{page_at}
use Rattle.slot_page.specs.DeadSlots.{dead_tids}
use Rattle.slot_page.proofs.Gathered.{gathered_dead}
use Rattle.toast_store.specs.Stores.{Store}
use Rattle.store_trials.proofs.saves.prune_and_reap.Goals as goal

pub reap-requires-clause-dead : goal.reap-requires-clause-dead
reap-requires-clause-dead g c =
    let pages = c.prune_page.new.self.rel.pages in
    let is = gathered_dead 0 0 (page_at pages 0) c.prune_page.new.dead c.in-Some.tid.now (c.in_ok-count.ensures.gathered ∙ ap (λ ts. ts ++ dead_tids 0 (page_at pages 0)) c.new-dead.ensures) (sym c.in-Some.ensures) in
    rw is.0 is.1

pub reap-requires-clause-unnamed : goal.reap-requires-clause-unnamed
reap-requires-clause-unnamed g c = record { by_none = λ e held. absurd (none_in_nil e (subst (λ es. Contains es e) (ap (λ (s : Store). s.index.entries) c.in_ok-count.ensures.pruned ∙ c.requires.entries) held)) }
