-- An entry of another worker is passed over; one of its own is told.
use Rattle.std.proofs.Common.{sym, ◌∙◌, eq-eqb}
use Rattle.std.proofs.lemmas.Bool.{ne_eqb}
use Rattle.decode_stream.proofs.Parts.{works_past, visit_told}
use Rattle.decode_stream.proofs.worker.visit.Goals as goal

pub returns-then-worker_of-worker : goal.returns-then-worker_of-worker
returns-then-worker_of-worker c =
    λ log at works. works_past c.args.share.0 c.args.share.1 log c.args.n c.args.e.now at c.args.table.now c.args.part.now (ne_eqb _ _ (λ h. c.if-worker_of-worker.true (c.worker_of.ensures.worker ∙ h))) works

pub returns : goal.returns
returns c =
    visit_told c.take_own.result c.args.share.0 c.args.share.1 c.args.n c.args.e.now c.args.table.now c.take_own.new.table c.args.part.now c.take_own.new.part
    (eq-eqb _ _ (sym c.worker_of.ensures.worker ∙ c.if-worker_of-worker.false))
    c.take_own.ensures.told c.take_own.ensures.others c.take_own.ensures.goes c.take_own.ensures.stops
