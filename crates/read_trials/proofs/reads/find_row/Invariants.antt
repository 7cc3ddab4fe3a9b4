use Rattle.std.proofs.Common.{ℕ, ◌≡◌, ◌<◌, None, get_or}
use Rattle.std.specs.Prelude.{IsSome}
use Rattle.tuple_layout.specs.declared.cell.Cell.TheVariants.{Null}
use Rattle.chunk_index.specs.Pinned.{pin_of}
use Rattle.read_steps.specs.Reads.{value_of}
use Rattle.read_trials.proofs.reads.find_row.Given as goal

abbrev pub invariant-loop-cell : goal.invariant-loop-cell
invariant-loop-cell l = record {
  free : pin_of l.store.index.pins 5 ≡ None;
  there : (k : ℕ) → k < l.cell-index → IsSome (value_of l.store 5 (get_or l.cells k Null));
}
