use Rattle.row_versions.proofs.KeyMaps.{ended_in_place}
use Rattle.row_versions.proofs.Sizes.{relation_ended}
use Rattle.row_versions.specs.Relations.{Relation}
use Rattle.row_versions.proofs.relation.RowVersions.set_ender.Goals as goal

pub invariant_of-self : goal.invariant_of-self
invariant_of-self c =
    let rel : Relation = record { schema = c.self.inside.schema; pages = c.self.inside.pages; entries = c.self.inside.entries.items } in
    rw (ended_in_place c.args.xid c.self.inside.pages c.args.tid c.in-Some.version.now c.in-Some.ensures.item) (relation_ended rel c.args.tid c.args.xid c.self.invariant)

pub returns-clause-sound : goal.returns-clause-sound
returns-clause-sound c =
    let rel : Relation = record { schema = c.self.inside.schema; pages = c.self.inside.pages; entries = c.self.inside.entries.items } in
    rw (ended_in_place c.args.xid c.self.inside.pages c.args.tid c.in-Some.version.now c.in-Some.ensures.item) (relation_ended rel c.args.tid c.args.xid c.self.invariant)
