-- The version that was put has its entry, and its tuple the size of one.
use Rattle.std.proofs.Common.{ap}
use Rattle.row_versions.specs.declared.version.Version.{Version}
use Rattle.row_versions.specs.Relations.{Relation}
use Rattle.row_versions.proofs.Sizes.{relation_after_put}
use Rattle.row_versions.proofs.relation.RowVersions.put_copy.Goals as goal

pub invariant_of-self-2 : goal.invariant_of-self-2
invariant_of-self-2 c =
    let rel : Relation = record { schema = c.self.inside.schema; pages = c.self.inside.pages; entries = c.self.inside.entries.items } in
    relation_after_put rel c.new-version.result _ c.len-size.result c.args.tuple c.in_ok-tid.tid c.put.new.self c.reserve.new.self.items c.insert_entry.new.entries.items c.entry_of.result c.self.invariant (ap (λ (v : Version). v.key) c.new-version.ensures) (ap (λ (v : Version). v.tuple) c.new-version.ensures) c.requires.least c.requires.most c.len-size.ensures c.in_ok-tid.ensures.tid c.in_ok-tid.ensures.put c.reserve.ensures.items c.entry_of.ensures c.insert_entry.ensures

pub returns-clause-sound : goal.returns-clause-sound
returns-clause-sound c =
    let rel : Relation = record { schema = c.self.inside.schema; pages = c.self.inside.pages; entries = c.self.inside.entries.items } in
    relation_after_put rel c.new-version.result _ c.len-size.result c.args.tuple c.in_ok-tid.tid c.put.new.self c.reserve.new.self.items c.insert_entry.new.entries.items c.entry_of.result c.self.invariant (ap (λ (v : Version). v.key) c.new-version.ensures) (ap (λ (v : Version). v.tuple) c.new-version.ensures) c.requires.least c.requires.most c.len-size.ensures c.in_ok-tid.ensures.tid c.in_ok-tid.ensures.put c.reserve.ensures.items c.entry_of.ensures c.insert_entry.ensures
