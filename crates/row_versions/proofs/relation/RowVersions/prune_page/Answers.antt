-- A page that is pruned leaves the relation sound, and so does want of memory.
use Rattle.row_versions.specs.Relations.{Relation}
use Rattle.row_versions.proofs.Sizes.{relation_after_prune}
use Rattle.row_versions.proofs.relation.RowVersions.prune_page.Goals as goal

pub invariant_of-self : goal.invariant_of-self
invariant_of-self c =
    let rel : Relation = record { schema = c.self.inside.schema; pages = c.self.inside.pages; entries = c.self.inside.entries.items } in
    relation_after_prune c.args.xacts.now c.args.horizon rel c.args.page c.prune_page.result c.prune_page.new.pages c.self.invariant c.prune_page.ensures.pruned c.prune_page.ensures.unchanged

pub returns-clause-sound : goal.returns-clause-sound
returns-clause-sound c =
    let rel : Relation = record { schema = c.self.inside.schema; pages = c.self.inside.pages; entries = c.self.inside.entries.items } in
    relation_after_prune c.args.xacts.now c.args.horizon rel c.args.page c.prune_page.result c.prune_page.new.pages c.self.invariant c.prune_page.ensures.pruned c.prune_page.ensures.unchanged
