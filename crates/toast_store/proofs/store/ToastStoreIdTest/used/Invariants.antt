use Rattle.std.proofs.Common.{◌≡◌, ◌-◌, false, length, take, is_some}
use Rattle.std.specs.List.{list_any}
use Rattle.slot_page.specs.Pages.{item_in}
use Rattle.chunk_index.specs.Entries.{of_id}
use Rattle.toast_store.proofs.store.ToastStoreIdTest.used.Given as goal

abbrev pub invariant-loop-entry : goal.invariant-loop-entry
invariant-loop-entry l = list_any (λ e. is_some (item_in l.self-inside.rel.pages e.tid)) (take l.n (of_id l.id l.self-inside.index.entries)) ≡ false

abbrev pub decreases-loop-entry : goal.decreases-loop-entry
decreases-loop-entry l = length (of_id l.id l.self-inside.index.entries) - l.n
