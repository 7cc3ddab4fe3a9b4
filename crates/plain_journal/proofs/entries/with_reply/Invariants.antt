use Rattle.std.proofs.Common.{◌≡◌}
use Rattle.command_set.specs.Journals.{with_reply}
use Rattle.plain_journal.proofs.entries.with_reply.Given as goal

abbrev pub invariant-loop-line : goal.invariant-loop-line
invariant-loop-line l = l.all ≡ with_reply l.yielded l.entry l.reply
