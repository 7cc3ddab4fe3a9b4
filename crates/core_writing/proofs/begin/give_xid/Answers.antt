use Rattle.core_parts.specs.contracts.parts.CoreParts.{the_view}
use Rattle.core_writing.proofs.Given.{given_at}
use Rattle.core_writing.proofs.begin.give_xid.Goals as goal

pub returns-clause-ok : goal.returns-clause-ok
returns-clause-ok c =
    given_at (the_view c.core.inside) c.args.core.now c.args.session c.from.result c.index_mut-seat.result.now c.take_copy.new.state c.take_xid.new.state c.take_copy.new.snaps c.take_xid.new.xacts c.take_xid.new.log c.core.view_is c.requires c.from.ensures c.index_mut-seat.ensures.value
    c.in_ok-take_copy.ensures.state c.in_ok-take_copy.ensures.snaps c.in_ok-xid.ensures.state c.in_ok-xid.ensures.xacts c.in_ok-xid.ensures.log
