use Rattle.std.proofs.Common.{◌≡◌, ◌+◌, sum_by, drop}
use Rattle.script_words.specs.Items.{turns_of}
use Rattle.script_text.proofs.draft.once_through.Given as goal

abbrev pub invariant-loop-item : goal.invariant-loop-item
invariant-loop-item l = sum_by turns_of l.items + l.room ≡ l.most + sum_by turns_of (drop l.item-index l.items)
