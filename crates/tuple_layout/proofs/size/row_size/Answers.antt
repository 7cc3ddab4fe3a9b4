use Rattle.std.proofs.Common.{◌≡◌, rules, length, min}
use Rattle.std.proofs.lemmas.Slice.Zip.{zip_end}
use Rattle.tuple_layout.proofs.DataLemmas.{end_all, size_is}
use Rattle.tuple_layout.proofs.size.row_size.Goals as goal

pub returns : goal.returns
returns c =
    let schema = c.args.schema.now.storages in
    let cells = c.args.cells.now in
    let all : length c.loop-storage.yielded ≡ min (length schema) (length cells) =
    zip_end schema cells c.loop-storage.yielded c.into_iter-storage-iterator.result c.loop-storage.storage-iterator c.next.new.self c.next.result (search rules) (search rules) c.loop-storage.yielded_by c.in-None.is c.next.ensures.steps in
    let end = end_all schema cells _ c.loop-storage.end c.requires.one_each all c.loop-storage.invariant.rest in
    size_is schema cells c.header_size.result c.loop-storage.end c.has_null.result c.requires.one_each c.has_null.ensures c.header_size.ensures end
