-- The results' parts are those that the workers decode.
use Rattle.std.proofs.Common.{arith}
use Rattle.decode_stream.proofs.Parts.{parts_whole}
use Rattle.decode_stream.proofs.split.decode_all.Goals as goal

pub merge-requires-clause-parts : goal.merge-requires-clause-parts
merge-requires-clause-parts g c = parts_whole c.args.log.now.entries c.args.workers _ _ c.in_ok-parts.ensures.each (λ w d f low. c.in_ok-parts-2.ensures.each w d f (omega (arith, low, c.in_ok-parts.ensures.len)))
