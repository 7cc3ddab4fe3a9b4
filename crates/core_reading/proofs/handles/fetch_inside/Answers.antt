use Rattle.std.proofs.Common.{sym}
use Rattle.core_parts.proofs.Ending.{can_end}
use Rattle.core_reading.proofs.Fetching.{begins_by, held_most, read_made, table_there}
use Rattle.core_reading.proofs.handles.fetch_inside.Goals as goal

pub refuse-requires : goal.refuse-requires
refuse-requires c = can_end c.args.core.now c.args.session c.requires.ready.there c.requires.ready.sound

pub slice_read-requires : goal.slice_read-requires
slice_read-requires c = held_most c.args.core.now c.args.session c.args.handle c.in-Some.kept.now c.requires.ready (sym c.in-Some.ensures)

pub refuse-requires-in_default-2 : goal.refuse-requires-in_default-2
refuse-requires-in_default-2 c = can_end c.args.core.now c.args.session c.requires.ready.there c.requires.ready.sound

pub begin_fetch-requires-clause-of_table : goal.begin_fetch-requires-clause-of_table
begin_fetch-requires-clause-of_table c = table_there c.args.core.now c.args.session c.args.handle c.in-Some.kept.now c.requires.ready (sym c.in-Some.ensures)

pub begin_fetch-requires-clause-can : goal.begin_fetch-requires-clause-can
begin_fetch-requires-clause-can c =
    begins_by c.args.core.now c.args.session c.args.handle c.args.offset.now c.args.length.now c.in-Some.kept.now c.in_ok-read.field-0 c.in-Some-2.read c.requires (sym c.in-Some.ensures) c.in_ok-read.ensures c.in-Some-2.is

pub returns-clause-ok : goal.returns-clause-ok
returns-clause-ok c =
    read_made c.args.core.now c.args.session c.args.handle c.args.offset.now c.args.length.now c.in-Some.kept.now c.in_ok-read.field-0 c.in-Some-2.read c.begin_fetch.new.core c.in_ok-advance.advance c.requires (sym c.in-Some.ensures) c.in_ok-read.ensures c.in-Some-2.is
    c.in_ok-advance.ensures.ok
