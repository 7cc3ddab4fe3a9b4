use Rattle.row_versions.proofs.Sizes.{relation_reaped}
use Rattle.row_versions.specs.Relations.{Relation}
use Rattle.row_versions.proofs.relation.RowVersions.reap.Goals as goal

pub invariant_of-self : goal.invariant_of-self
invariant_of-self c =
    let rel : Relation = record { schema = c.self.inside.schema; pages = c.self.inside.pages; entries = c.self.inside.entries.items } in
    rw (c.make_unused.ensures, c.page_mut.ensures.page) (relation_reaped rel c.args.tid c.self.invariant (rw (← c.self.view_is) at c.requires.dead) (rw (← c.self.view_is) at c.requires.unnamed))

pub returns-clause-sound : goal.returns-clause-sound
returns-clause-sound c =
    let rel : Relation = record { schema = c.self.inside.schema; pages = c.self.inside.pages; entries = c.self.inside.entries.items } in
    rw (c.make_unused.ensures, c.page_mut.ensures.page) (relation_reaped rel c.args.tid c.self.invariant (rw (← c.self.view_is) at c.requires.dead) (rw (← c.self.view_is) at c.requires.unnamed))
