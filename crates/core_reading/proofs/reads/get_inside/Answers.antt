use Rattle.core_parts.specs.Found.{as_old}
use Rattle.core_reading.proofs.Found.{row_can, seen_some}
use Rattle.core_reading.proofs.Made.{get_made}
use Rattle.core_reading.proofs.reads.get_inside.Goals as goal

pub begin_read-requires-clause-can : goal.begin_read-requires-clause-can
begin_read-requires-clause-can c =
    row_can c.args.core.now c.args.session c.args.table c.args.key.now (as_old c.in-Some.row) c.read_of-read.result c.requires (seen_some c.in_ok-row_seen.field-0 c.in-Some.row _ c.in_ok-row_seen.ensures c.in-Some.is) c.read_of-read.ensures

pub returns-in_ok-advance-in-Some-clause-ok : goal.returns-in_ok-advance-in-Some-clause-ok
returns-in_ok-advance-in-Some-clause-ok c =
    get_made c.args.core.now c.args.session c.args.table c.args.key.now (as_old c.in-Some.row) c.read_of-read.result c.begin_read.new.core c.in_ok-advance-in-Some.advance c.requires
    (seen_some c.in_ok-row_seen.field-0 c.in-Some.row _ c.in_ok-row_seen.ensures c.in-Some.is) c.read_of-read.ensures c.in_ok-advance-in-Some.ensures.ok
