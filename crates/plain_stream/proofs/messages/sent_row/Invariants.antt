use Rattle.std.proofs.Common.{◌≡◌, ◌+◌, ◌++◌, drop}
use Rattle.plain_stream.proofs.Rest.{sent_from}
use Rattle.plain_stream.proofs.messages.sent_row.Given as goal

abbrev pub invariant-loop-at : goal.invariant-loop-at
invariant-loop-at l = l.columns ++ sent_from l.kept (l.at + 1) (drop l.at l.values) ≡ sent_from l.kept 1 l.values
