use Rattle.std.proofs.Common.{◌≡◌, ◌+◌, ◌++◌, drop}
use Rattle.plain_stream.proofs.Rest.{messages_from}
use Rattle.plain_stream.proofs.messages.messages_of.Given as goal

abbrev pub invariant-loop-at : goal.invariant-loop-at
invariant-loop-at l = l.messages ++ messages_from (l.at + 1) (drop l.at l.transactions) ≡ messages_from 1 l.transactions
