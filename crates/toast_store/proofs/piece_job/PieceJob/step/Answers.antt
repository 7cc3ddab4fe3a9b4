use Rattle.std.proofs.Common.{ℕ, List, refl, sym, ap, ◌∙◌, subst}
use Rattle.slice_fetch.specs.Spans.{piece}
use Rattle.toast_store.specs.PieceJobs.{Piecing, IsPieceStage, PiecesStand, PiecesStep, stage_passed}
use Rattle.toast_store.specs.contracts.piece_job.PieceJob.{the_view}
use Rattle.toast_store.specs.declared.piece_job.PieceStage.{PieceStage}
use Rattle.toast_store.specs.declared.piece_job.PieceStage.TheVariants.{Indexing}
use Rattle.toast_store.proofs.Laying.{index_step, not_there, put_step, stands_here}
use Rattle.toast_store.proofs.piece_job.PieceJob.step.Goals as goal

pub insert-requires-clause-absent : goal.insert-requires-clause-absent
insert-requires-clause-absent c = not_there c.args.store.now.index.entries _ (stands_here c.args.store.now (the_view c.self.inside) c.args.self.now _ c.self.view_is c.in-Indexing.is c.requires.stands).1.unnamed

pub insert-requires-clause-names : goal.insert-requires-clause-names
insert-requires-clause-names c = (_, (stands_here c.args.store.now (the_view c.self.inside) c.args.self.now _ c.self.view_is c.in-Indexing.is c.requires.stands).1.there, refl, refl)

pub returns-in_ok-tid-in-Putting-clause-ok : goal.returns-in_ok-tid-in-Putting-clause-ok
returns-in_ok-tid-in-Putting-clause-ok c =
    let within = subst (IsPieceStage c.self.inside.value) c.in-Putting.is c.self.invariant.stage in
    let stands = subst (PiecesStand c.args.store.now) (sym c.self.view_is) c.requires.stands in
    subst (λ (j : Piecing). PiecesStep c.args.store.now j c.put_chunk.new.self (record (the_view c.self.inside) { stage = Indexing c.in-Putting.seq c.in_ok-tid-in-Putting.tid })) c.self.view_is
    (put_step c.args.store.now c.put_chunk.new.self (the_view c.self.inside) c.in-Putting.seq c.in_ok-tid-in-Putting.tid _ c.in-Putting.is (c.piece_of-piece.ensures.piece ∙ ap (λ (v : List ℕ). piece v c.in-Putting.seq) c.as_slice.ensures) c.facts.ensures c.in_ok-tid-in-Putting.ensures.put c.in_ok-tid-in-Putting.ensures.tid within stands)

pub returns-in_ok-insert-in-Indexing-clause-ok : goal.returns-in_ok-insert-in-Indexing-clause-ok
returns-in_ok-insert-in-Indexing-clause-ok c =
    let within = subst (IsPieceStage c.self.inside.value) c.in-Indexing.is c.self.invariant.stage in
    let stands = subst (PiecesStand c.args.store.now) (sym c.self.view_is) c.requires.stands in
    let added = c.in_ok-insert-in-Indexing.ensures in
    subst (λ (s : PieceStage). PiecesStep c.args.store.now c.args.self.now c.insert.new.self (record (the_view c.self.inside) { stage = s })) (sym (c.stage_passed-self-inside.ensures.stage ∙ ap (λ (v : List ℕ). stage_passed v c.in-Indexing.seq) c.as_slice-in-Indexing.ensures))
    (subst (λ (j : Piecing). PiecesStep c.args.store.now j c.insert.new.self (record (the_view c.self.inside) { stage = stage_passed c.self.inside.value c.in-Indexing.seq })) c.self.view_is
    (index_step c.args.store.now c.insert.new.self (the_view c.self.inside) c.in-Indexing.seq c.in-Indexing.tid c.in-Indexing.is c.facts.ensures added.rel (record { entries = added.entries; bounds = added.bounds; pins = added.pins }) within stands))
