use Rattle.std.proofs.Common.{◌≡◌, ◌≤◌, ◌+◌, ℕ}
use Rattle.std_alloc.specs.Vec.{vec_capacity, vec_len}
use Rattle.cell_arena.specs.Entries.{AreAdded, AreFree}
use Rattle.cell_arena.proofs.table.add_all.Given as goal

abbrev pub invariant-loop-block : goal.invariant-loop-block
invariant-loop-block l = record {
  room : vec_len l.entries + vec_len l.fresh ≤ vec_capacity l.entries;
  fresh : AreFree l.fresh.items;
  count : ℕ;
  counted : vec_len l.fresh + count ≡ vec_len l.fn.fresh;
  added : AreAdded l.fn.entries.items count l.entries.items l.last;
}

abbrev pub decreases-loop-block : goal.decreases-loop-block
decreases-loop-block l = goal.left-loop-block l
