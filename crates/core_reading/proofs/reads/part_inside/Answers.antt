use Rattle.core_parts.specs.Found.{as_old}
use Rattle.core_reading.proofs.Found.{found_by, seen_some}
use Rattle.core_reading.proofs.reads.part_inside.Goals as goal

pub part_of_row-requires : goal.part_of_row-requires
part_of_row-requires c =
    found_by c.args.core.now c.args.session c.args.table c.args.key.now (as_old c.in-Some.row) c.args.column c.requires.inside (seen_some c.in_ok-row_seen.field-0 c.in-Some.row _ c.in_ok-row_seen.ensures c.in-Some.is) c.requires.fits
