use Rattle.std.proofs.Common.{◌-◌, length}
use Rattle.tuple_layout.specs.Tuples.{cell_widths}
use Rattle.tuple_toaster.proofs.Walks.{Chosen}
use Rattle.tuple_toaster.proofs.choice.choose.Given as goal

abbrev pub invariant-loop-out : goal.invariant-loop-out
invariant-loop-out l = Chosen l.fn.schema.storages (cell_widths l.fn.cells) l.fn.target l.out

abbrev pub decreases-loop-out : goal.decreases-loop-out
decreases-loop-out l = length l.fn.schema.storages - length l.out
