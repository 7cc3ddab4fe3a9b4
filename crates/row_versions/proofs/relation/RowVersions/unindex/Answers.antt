use Rattle.row_versions.proofs.Sizes.{relation_unindexed}
use Rattle.row_versions.specs.Relations.{Relation}
use Rattle.row_versions.proofs.relation.RowVersions.unindex.Goals as goal

pub invariant_of-self : goal.invariant_of-self
invariant_of-self c =
    let rel : Relation = record { schema = c.self.inside.schema; pages = c.self.inside.pages; entries = c.self.inside.entries.items } in
    rw c.remove_entries.ensures.kept (relation_unindexed rel c.args.dead.now c.self.invariant (rw (← c.self.view_is) at c.requires.dead))

pub returns-clause-sound : goal.returns-clause-sound
returns-clause-sound c =
    let rel : Relation = record { schema = c.self.inside.schema; pages = c.self.inside.pages; entries = c.self.inside.entries.items } in
    rw c.remove_entries.ensures.kept (relation_unindexed rel c.args.dead.now c.self.invariant (rw (← c.self.view_is) at c.requires.dead))
