use Rattle.row_versions.proofs.Sizes.{relation_none}
use Rattle.row_versions.specs.Relations.{Relation}
use Rattle.row_versions.proofs.relation.RowVersions.new.Goals as goal

pub invariant_of-result : goal.invariant_of-result
invariant_of-result c =
    rw (c.new.ensures, c.new-2.ensures.items) (relation_none c.args.schema)

pub returns-clause-sound : goal.returns-clause-sound
returns-clause-sound c =
    rw (c.new.ensures, c.new-2.ensures.items) (relation_none c.args.schema)
