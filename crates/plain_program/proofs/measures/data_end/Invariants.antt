use Rattle.std.proofs.Common.{◌≡◌, ◌≤◌, ◌+◌, ◌*◌, ◌^◌, drop}
use Rattle.plain_program.specs.Words.{data_end_all_out}
use Rattle.plain_program.proofs.measures.data_end.Given as goal

abbrev pub invariant-loop-column : goal.invariant-loop-column
invariant-loop-column l = (l.at ≤ 8 + l.column * 2 ^ 65) × (data_end_all_out l.at (drop l.column l.schema) (drop l.column l.row) ≡ data_end_all_out 8 l.schema l.row)
