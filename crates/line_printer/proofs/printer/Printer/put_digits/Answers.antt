use Rattle.line_printer.proofs.Digits.{at_start, one_more, both_parts}
use Rattle.line_printer.proofs.printer.Printer.put_digits.Goals as goal

pub loop-rest-init : goal.loop-rest-init
loop-rest-init g c = at_start _ _ _

pub loop-rest-preserved : goal.loop-rest-preserved
loop-rest-preserved g c =
    one_more c.args.bytes.now c.loop-rest.rest.now c.split_at.result.0.now c.split_at.result.1.now _ _ _ _ _ _ c.loop-rest.invariant
    (both_parts _ _ _ _ c.split_at.ensures.front c.split_at.ensures.back) c.put_part.ensures
