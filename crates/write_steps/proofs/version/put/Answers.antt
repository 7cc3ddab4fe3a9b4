use Rattle.std.proofs.Common.{sym, subst}
use Rattle.row_versions.specs.Relations.{Relation}
use Rattle.row_versions.specs.Versions.{new_version}
use Rattle.write_steps.specs.Standing.{AreSized, IsOldThere}
use Rattle.write_steps.proofs.Keeping.{there_put}
use Rattle.write_steps.proofs.Pointers.{sized_dropped}
use Rattle.write_steps.proofs.version.put.Goals as goal

pub end_old-requires : goal.end_old-requires
end_old-requires c = subst (λ (rows : Relation). IsOldThere rows c.args.old.now) (sym c.in_default.ensures.put) (there_put c.args.rows.now (new_version c.args.new.now.key c.args.owner.xid c.in_ok-tuple.tuple) c.args.old.now c.requires.there)

pub returns-clause-sized : goal.returns-clause-sized
returns-clause-sized c = subst AreSized (sym c.in_ok-dropped.ensures) (sized_dropped c.old_cells.result.now c.as_slice.result.now)
