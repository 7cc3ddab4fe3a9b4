use Rattle.std.proofs.Common.{◌≡◌, ◌++◌, drop}
use Rattle.std.specs.Prelude.{map as mapped}
use Rattle.change_stream.specs.Streams.{message_of}
use Rattle.plain_stream.proofs.messages.with_changes.Given as goal

abbrev pub invariant-loop-change : goal.invariant-loop-change
invariant-loop-change l = l.all ++ mapped message_of (drop l.change-index l.written) ≡ l.initial.all ++ mapped message_of l.written
