use Rattle.std.proofs.Common.{take, sym, ap, ◌∙◌}
use Rattle.std.proofs.lemmas.List.{take_rest}
use Rattle.chunk_index.specs.Entries.{entry_cmp}
use Rattle.chunk_index.proofs.Searches.{sorted_drop}
use Rattle.chunk_index.proofs.Wants.{wanted_run}
use Rattle.chunk_index.proofs.wanted.Wanted.among.Goals as goal

pub count-requires : goal.count-requires
count-requires c = rw (take_rest c.args.entries.now c.start.result) (sorted_drop entry_cmp c.args.entries.now c.start.result c.requires)

pub returns : goal.returns
returns c =
    let wanted = c.args.self.now in
    let entries = c.args.entries.now in
    let rest = take_rest entries c.start.result in
    ap (take c.count.result) rest ∙ sym (wanted_run wanted.value_id wanted.from wanted.to wanted.after entries c.start.result c.count.result c.start.ensures.within c.start.ensures.start (rw rest at c.count.ensures.count))
