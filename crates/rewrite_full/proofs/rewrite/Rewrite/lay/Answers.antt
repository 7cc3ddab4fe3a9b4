use Rattle.std.proofs.Common.{◌≡◌, ℕ, List, ◌+◌, sym, ap, ◌∙◌, subst}
use Rattle.tuple_layout.specs.declared.cell.Cell.TheVariants.{Out}
use Rattle.chunk_relation.specs.Relations.{Relation}
use Rattle.toast_store.specs.PieceJobs.{pointer_to}
use Rattle.toast_store.proofs.Laying.{laid_over}
use Rattle.rewrite_facts.specs.Rewrites.{Rewriting, column_at, with_cell}
use Rattle.rewrite_facts.specs.declared.stage.RewriteStage.TheVariants.{Placing}
use Rattle.rewrite_full.specs.Stages.{Ends, LaysOn}
use Rattle.rewrite_full.proofs.rewrite.Rewrite.lay.Goals as goal

pub returns-clause-ok : goal.returns-clause-ok
returns-clause-ok c =
    let rel_is : c.rel_id-toast_rel.result ≡ c.self.inside.toast.rel.rel_id = c.rel_id-toast_rel.ensures ∙ ap (λ (rel : Relation). rel.rel_id) c.rel.ensures.rel in
    subst (λ (r : Rewriting). LaysOn r.toast c.args.copy c.args.columns c.args.at c.args.pieces r.toast.rel.rel_id c.step.new.store (Placing c.with_pointer.result c.args.columns (c.args.at + 1))) c.self.view_is
    (record {
      left = c.step.new.self;
      step = c.in_ok-step.ensures.ok;
      laid = Ends c.pointer-pointer.result (laid_over c.step.new.self.stage (sym c.is_over.ensures.over ∙ c.if-not-is_over.false)) c.pointer-pointer.ensures.in_range (c.pointer-pointer.ensures.pointer ∙ ap (pointer_to c.step.new.self) rel_is) (ap (λ copy. Placing copy c.args.columns (c.args.at + 1)) (c.with_pointer.ensures ∙ ap (λ (cs : List ℕ). with_cell c.args.copy (column_at cs c.args.at) (Out c.pointer-pointer.result)) c.as_slice.ensures.all));
    })
