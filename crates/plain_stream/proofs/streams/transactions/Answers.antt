use Rattle.std.proofs.Common.{rules}
use Rattle.plain_stream.proofs.Following.{begins, goes_on}
use Rattle.plain_stream.proofs.streams.transactions.Goals as goal

pub loop-entry-init : goal.loop-entry-init
loop-entry-init c = begins c.args.script.now c.args.journal.now c.in_ok-so_far.so_far c.requires c.in_ok-so_far.ensures.plain c.in_ok-so_far.ensures.stream

pub loop-entry-preserved : goal.loop-entry-preserved
loop-entry-preserved c =
    goes_on c.args.script.now c.args.journal.now c.loop-entry.entry-index c.loop-entry.so_far c.in_ok-so_far-2.so_far _ c.loop-entry-test.true (search rules) c.in_ok-so_far-2.ensures.plain c.in_ok-so_far-2.ensures.stream c.loop-entry.invariant
