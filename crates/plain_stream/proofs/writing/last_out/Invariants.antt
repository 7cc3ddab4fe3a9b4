use Rattle.std.proofs.Common.{◌≡◌, drop}
use Rattle.std.specs.Option.{option_copied, option_or}
use Rattle.change_stream.specs.Streams.{last_out}
use Rattle.plain_stream.proofs.writing.last_out.Given as goal

abbrev pub invariant-loop-change : goal.invariant-loop-change
invariant-loop-change l = option_or (last_out (drop l.change-index l.written) l.place) (option_copied l.last) ≡ last_out l.written l.place
