-- The transaction of one entry, from that of none.
use Rattle.std.proofs.Common.{[], sym, subst}
use Rattle.decode_stream.specs.States.{OpenState, IsOpen}
use Rattle.decode_stream.proofs.Opens.{open_none}
use Rattle.decode_stream.proofs.table.first_of.Goals as goal

pub returns-clause-ok : goal.returns-clause-ok
returns-clause-ok c = c.in_ok-take_in.ensures.ok [] (subst (λ (state : OpenState). IsOpen state []) (sym c.new-transaction.ensures) open_none)
