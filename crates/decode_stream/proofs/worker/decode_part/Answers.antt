-- The worker begins with nothing, and at the end its part is whole.
use Rattle.std.proofs.Common.{◌+◌, take, drop, arith}
use Rattle.decode_stream.proofs.Lists.{found_within, split_found}
use Rattle.decode_stream.proofs.Parts.{fits_own, works_start, works_done}
use Rattle.decode_stream.proofs.worker.decode_part.Goals as goal

pub loop-n-init : goal.loop-n-init
loop-n-init c = works_start c.args.workers c.args.worker c.args.log.now.entries _ _ c.in_ok-table.ensures c.new-part.ensures

pub unreachable-requires : goal.unreachable-requires
unreachable-requires c = found_within c.args.log.now.entries c.loop-n.n (omega (arith, c.loop-n-test.true, c.len-n-end.ensures)) c.in_default.ensures

pub visit-requires-clause-fits : goal.visit-requires-clause-fits
visit-requires-clause-fits c =
    λ own.
    fits_own c.args.workers c.args.worker c.args.log.now.entries (take c.loop-n.n c.args.log.now.entries) (drop (c.loop-n.n + 1) c.args.log.now.entries) c.in-Some.e.now c.loop-n.table c.requires.log
    (split_found c.args.log.now.entries c.loop-n.n c.in-Some.e.now c.in-Some.ensures)
    own c.loop-n.invariant.open_ones

pub returns : goal.returns
returns c = works_done c.args.workers c.args.worker c.loop-n.n c.args.log.now.entries c.loop-n.table c.loop-n.part (omega (arith, c.loop-n-test.false, c.len-n-end.ensures)) c.loop-n.invariant
