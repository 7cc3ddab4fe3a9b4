use Rattle.std.proofs.Common.{◌+◌, length, ap, ◌∙◌, rules, sym}
use Rattle.std.proofs.lemmas.List.{length_push}
use Rattle.std.proofs.lemmas.Slice.Zip.{zip_turn}
use Rattle.tuple_toaster.proofs.Walks.{best_step}
use Rattle.tuple_toaster.proofs.largest.largest.Goals as goal

pub loop-storage-preserved : goal.loop-storage-preserved
loop-storage-preserved c =
    let l = c.loop-storage in
    let schema = c.args.schema.now.storages in
    let cells = c.args.cells.now in
    let turn = zip_turn schema cells l.yielded c.into_iter-storage-iterator.result l.storage-iterator c.next.new.self c.next.result (search rules) (search rules) l.yielded_by (c.in-Some.storage, c.in-Some.cell) c.in-Some.is c.next.ensures.steps in
    let more = length_push l.yielded (c.in-Some.storage, c.in-Some.cell) in
    record {
      count = ap (λ n. n + 1) l.invariant.count ∙ sym more;
      best = best_step schema cells c.args.out.now (length l.yielded) _ l.column l.best c.candidate_besides.result c.longer-best.result _ c.in-Some.storage.now c.in-Some.cell.now more l.invariant.count c.longer-best.ensures c.candidate_besides.ensures turn.0 turn.1 (turn.2 _) (turn.3 _) l.invariant.best;
    }
