use Rattle.std.proofs.Common.{ℕ, ◌<◌, get_or}
use Rattle.stream_wire.specs.declared.message.Sent.{Sent}
use Rattle.stream_wire.specs.Spelling.{IsShort}
use Rattle.stream_trials.proofs.streams.are_columns.Given as goal

abbrev pub invariant-loop-column : goal.invariant-loop-column
invariant-loop-column l = (k : ℕ) (d : Sent) → k < l.column-index → IsShort (get_or l.columns k d)
