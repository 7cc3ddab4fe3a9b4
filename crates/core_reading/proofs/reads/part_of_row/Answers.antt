use Rattle.std.proofs.Common.{sym, ◌∙◌}
use Rattle.core_parts.proofs.Ending.{can_end}
use Rattle.core_parts.specs.Found.{as_old}
use Rattle.core_reading.proofs.Found.{part_can}
use Rattle.core_reading.proofs.Made.{part_made, part_null, part_refused}
use Rattle.core_reading.proofs.reads.part_of_row.Goals as goal

pub returns-in_default-clause-ok : goal.returns-in_default-clause-ok
returns-in_default-clause-ok c =
    part_null c.args.core.now c.args.session c.args.table c.args.column c.args.offset.now c.args.length.now (as_old c.args.row) c.looked.new.core c.in_ok-advance.advance c.requires (sym c.size_at.ensures ∙ c.in_default.is)
    c.in_ok-advance.ensures.after c.in_ok-advance.ensures.told

pub refuse-requires : goal.refuse-requires
refuse-requires c = can_end c.args.core.now c.args.session c.requires.inside.ready.there c.requires.inside.ready.sound

pub returns-in_default-span_of-clause-ok : goal.returns-in_default-span_of-clause-ok
returns-in_default-span_of-clause-ok c =
    part_refused c.args.core.now c.args.session c.args.table c.args.column c.in-Some.size c.args.offset.now c.args.length.now (as_old c.args.row) c.refuse.new.self c.refuse.result c.requires (sym c.size_at.ensures ∙ c.in-Some.is)
    (sym c.span_of.ensures ∙ c.in_default-span_of.is) c.refuse.ensures.after c.refuse.ensures.done

pub begin_read-requires-clause-can : goal.begin_read-requires-clause-can
begin_read-requires-clause-can c =
    part_can c.args.core.now c.args.session c.args.table c.requires.key (as_old c.args.row) c.args.column c.in-Some.size c.args.offset.now c.args.length.now c.in-Some-span_of.span c.read_of-read.result c.requires.inside c.requires.seen
    (sym c.size_at.ensures ∙ c.in-Some.is) (sym c.span_of.ensures ∙ c.in-Some-span_of.is) c.read_of-read.ensures

pub returns-clause-ok : goal.returns-clause-ok
returns-clause-ok c =
    part_made c.args.core.now c.args.session c.args.table c.args.column c.in-Some.size c.args.offset.now c.args.length.now c.in-Some-span_of.span c.read_of-read.result (as_old c.args.row) c.begin_read.new.core c.in_ok-advance-2.advance c.requires
    (sym c.size_at.ensures ∙ c.in-Some.is) (sym c.span_of.ensures ∙ c.in-Some-span_of.is) c.read_of-read.ensures c.in_ok-advance-2.ensures.ok
