use Rattle.std.proofs.Common.{◌≡◌, ◌<◌, ◌+◌, [], ℕ, length, drop, refl, sym, ap, ◌∙◌, arith}
use Rattle.std.proofs.lemmas.List.{length_push, length-drop}
use Rattle.std.proofs.lemmas.Result.{err_from_is_err_and}
use Rattle.tuple_layout.specs.Faults.{is_present}
use Rattle.tuple_layout.proofs.ColumnLemmas.{end_none, holds_none, end_more, holds_more, stops_in, storage_is}
use Rattle.tuple_layout.proofs.read.read_columns.Goals as goal

pub loop-storage-init : goal.loop-storage-init
loop-storage-init c =
    let none : c.new-cells.result ≡ [] = c.new-cells.ensures in
    rw none (record {
      count = refl;
      place = sym (end_none c.args.schema.now.storages);
      within = c.requires;
      holds = holds_none c.args.schema.now.storages c.args.bitmap c.args.body.now;
    })

pub returns-in_err-cell-clause-fault : goal.returns-in_err-cell-clause-fault
returns-in_err-cell-clause-fault c =
    let l = c.loop-storage in
    let schema = c.args.schema.now.storages in
    let p = err_from_is_err_and c.from_residual.result c.from_residual.ensures.1 in
    let more : length l.cells < length schema = omega (arith, ap length c.storages-storage-items.ensures.all, c.loop-storage-test.true, l.invariant.count) in
    let storage = storage_is schema c.storages-storage-items.result.now l.storage-index (length l.cells) c.storages-storage-items.ensures.all l.invariant.count c.loop-storage-test.true in
    let column : c.len.result + 1 ≡ length l.cells + 1 = ap (λ (n : ℕ). n + 1) c.len.ensures in
    let fault = rw c.split_at.ensures.back at c.in_err-cell.ensures.fault in
    rw (p.1, p.2) (stops_in schema c.args.bitmap c.args.body.now l.cells _ l.at (c.len.result + 1) c.is_present-there.result c.in_err-cell.field-0.0 more storage l.invariant.place column c.is_present-there.ensures l.invariant.holds fault)

pub loop-storage-preserved : goal.loop-storage-preserved
loop-storage-preserved c =
    let l = c.loop-storage in
    let schema = c.args.schema.now.storages in
    let bytes = c.args.body.now in
    let size = c.in_ok-cell.size in
    let more : length l.cells < length schema = omega (arith, ap length c.storages-storage-items.ensures.all, c.loop-storage-test.true, l.invariant.count) in
    let storage = storage_is schema c.storages-storage-items.result.now l.storage-index (length l.cells) c.storages-storage-items.ensures.all l.invariant.count c.loop-storage-test.true in
    let there = c.is_present-there.ensures ∙ ap (λ (n : ℕ). is_present c.args.bitmap (n + 1)) c.len.ensures in
    let column = rw c.split_at.ensures.back at c.in_ok-cell.ensures.found in
    let within = rw c.split_at.ensures.back at c.in_ok-cell.ensures.within in
    rw c.in_ok-push.ensures.ok (record {
      count = length_push l.cells c.in_ok-cell.cell ∙ ap (λ (n : ℕ). n + 1) l.invariant.count;
      place = end_more schema l.cells c.in_ok-cell.cell _ l.at size (drop l.at bytes) c.is_present-there.result more storage l.invariant.place column within;
      within = omega (arith, within, length-drop l.at bytes, l.invariant.within);
      holds = holds_more schema c.args.bitmap bytes l.cells c.in_ok-cell.cell _ l.at size c.is_present-there.result more storage l.invariant.place there l.invariant.holds column;
    })
