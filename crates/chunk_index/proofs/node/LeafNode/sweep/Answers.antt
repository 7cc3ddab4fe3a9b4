use Rattle.std.proofs.Common.{◌≡◌, not, filter, ap, rules, List}
use Rattle.std.proofs.lemmas.Fn.{filter_same}
use Rattle.chunk_index.specs.declared.entry.Entry.{Entry}
use Rattle.chunk_index.specs.Nodes.{Node}
use Rattle.slot_page.specs.Tids.{is_listed}
use Rattle.chunk_index.proofs.node.LeafNode.sweep.Goals as goal

pub returns-clause-swept : goal.returns-clause-swept
returns-clause-swept c =
    let unlisted = λ (e : Entry). not (is_listed c.args.dead.now e.tid) in
    let kept : c.retain.new.self.items ≡ filter unlisted c.self.inside.entries.items = filter_same _ unlisted _ (λ x b f' k. search (rules, c.requires)) _ _ c.retain.ensures.filtered in
    let with_entries : List Entry → Node = λ es. record { bound = c.self.inside.bound; entries = es } in
    rw (← c.self.view_is) (ap with_entries kept)
