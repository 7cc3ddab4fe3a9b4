use Rattle.transcript.proofs.Digits.{at_start, one_more, kept, on_err, both_parts}
use Rattle.transcript.proofs.put.put_digits.Goals as goal

pub loop-rest-init : goal.loop-rest-init
loop-rest-init c = at_start _ _ _ c.reserve.ensures

pub returns-in_err-put_part-clause-kept : goal.returns-in_err-put_part-clause-kept
returns-in_err-put_part-clause-kept c =
    on_err _ _ (kept c.args.bytes.now c.loop-rest.rest.now c.args.out.now c.loop-rest.out c.put_part.new.out c.loop-rest.invariant c.in_err-put_part.ensures.kept)

pub loop-rest-preserved : goal.loop-rest-preserved
loop-rest-preserved c =
    one_more c.args.bytes.now c.loop-rest.rest.now c.args.out.now c.loop-rest.out c.split_at.result.0.now c.split_at.result.1.now c.put_part.new.out
    c.loop-rest.invariant (both_parts _ _ _ _ c.split_at.ensures.front c.split_at.ensures.back) c.in_ok-put_part.ensures.ok
