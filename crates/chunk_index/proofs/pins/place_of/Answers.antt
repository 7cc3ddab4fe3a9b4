use Rattle.std.proofs.Common.{arith, nat_lt, not}
use Rattle.std.proofs.lemmas.Grind.{common_steps}
use Rattle.std.proofs.lemmas.List.Sums.{prefix_len-le-length}
use Rattle.chunk_index.specs.declared.entry.Pin.{Pin}
use Rattle.chunk_index.proofs.pins.place_of.Goals as goal

pub returns-clause-place : goal.returns-clause-place
returns-clause-place c = grind (arith, common_steps, prefix_len-le-length (λ (p : Pin). not (nat_lt c.args.session p.session)) c.args.pins.now)
