use Rattle.std.proofs.Common.{refl, subst}
use Rattle.std.specs.List.{All}
use Rattle.std.specs.Prelude.{pos}
use Rattle.tuple_layout.specs.Tuples.{IsWithinLimits}
use Rattle.tuple_layout.specs.Schemas.{TableSchema}
use Rattle.tuple_layout.specs.declared.cell.Stored.{Stored}
use Rattle.write_steps.specs.Writes.{parts_of}
use Rattle.write_trials.proofs.Plans.{can_push_by, chosen, fits, stands_first}
use Rattle.write_trials.proofs.written.putting.Goals as goal

pub start-requires : goal.start-requires
start-requires g c =
    let new : Stored = record { key = pos 1; cells = c.in_ok-cells.cells } in
    let schema = c.args.desk.now.rows.schema in
    let within = c.are_within.ensures (cc) in
    can_push_by (TableSchema.storages schema) new c.in_ok-plan.plan (chosen schema c.schema-2.result.now new c.as_slice-2.result.now c.in_ok-plan.plan c.schema-2.ensures.schema c.as_slice-2.ensures c.in_ok-plan.ensures.columns)
    (cc) (subst (All IsWithinLimits) c.as_slice.ensures within)

pub returns : goal.returns
returns g c =
    let new : Stored = record { key = pos 1; cells = c.in_ok-cells.cells } in
    let schema = c.args.desk.now.rows.schema in
    let within = c.are_within.ensures (cc) in
    stands_first (parts_of c.args.desk.now.rows c.args.desk.now.toast c.args.desk.now.ids c.args.desk.now.log) c.args.xid c.args.old new c.in_ok-plan.plan c.start.result c.start.ensures
    (chosen schema c.schema-2.result.now new c.as_slice-2.result.now c.in_ok-plan.plan c.schema-2.ensures.schema c.as_slice-2.ensures c.in_ok-plan.ensures.columns)
    c.requires.there c.requires.free (cc) (subst (All IsWithinLimits) c.as_slice.ensures within)
    (fits schema c.schema-2.result.now new c.as_slice-2.result.now c.schema-2.ensures.schema c.as_slice-2.ensures (c.in_ok-plan.ensures.fits refl))
