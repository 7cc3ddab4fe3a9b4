use Rattle.std.proofs.Common.{◌≡◌, map, take}
use Rattle.rewrite_facts.specs.Copies.{id_of}
use Rattle.rewrite_full.proofs.copies.ids_of.Given as goal

-- those of the first columns
abbrev pub invariant-loop-cell : goal.invariant-loop-cell
invariant-loop-cell l = l.ids ≡ map id_of (take l.cell-index l.cells)
