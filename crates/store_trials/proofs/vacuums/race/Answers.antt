use Rattle.std.proofs.Common.{sym, subst, arith}
use Rattle.chunk_relation.specs.Relations.{AreAssigned, Relation}
use Rattle.store_trials.proofs.Readers.{reads_on, reads_still}
use Rattle.store_trials.proofs.vacuums.race.Goals.{in-0+in_ok-answer-in-0+else-assert, in-1+in_ok-near-in-1, in_default+in_ok-far-in_default}
use Rattle.store_trials.proofs.vacuums.race.Goals as goal

pub loop-turn-preserved : goal.loop-turn-preserved
loop-turn-preserved g c =
    let xacts = c.args.xacts.now in
    let old = c.loop-turn.store.index in
    let was = c.loop-turn.invariant in
    elim c.match-turn.branch [
      | in-0+in_ok-answer-in-0+else-assert w ↦ record {
        assigned = rw w.store-is w.step.ensures.assigned;
        holds = rw (w.store-is, w.vacuum-is) w.step.ensures.holds;
        near = rw (w.store-is, w.near-is) (reads_still old w.step.new.store.index 1 c.loop-turn.near w.step.ensures.pins was.near);
        far = rw (w.store-is, w.far-is) (reads_still old w.step.new.store.index 2 c.loop-turn.far w.step.ensures.pins was.far);
      }
      | in-1+in_ok-near-in-1 w ↦ record {
        assigned = rw w.store-is (subst (λ (r : Relation). AreAssigned xacts r.pages) (sym w.in_ok-near-in-1.ensures.rel) was.assigned);
        holds = rw (w.store-is, w.vacuum-is) (w.in_ok-near-in-1.ensures.holds xacts c.loop-turn.vacuum was.holds);
        near = rw (w.store-is, w.near-is) w.in_ok-near-in-1.ensures.ready;
        far = rw (w.store-is, w.far-is) (reads_on old w.read.new.store.index 1 2 c.loop-turn.far (λ same. omega (arith, same)) w.in_ok-near-in-1.ensures.others was.far);
      }
      | in_default+in_ok-far-in_default w ↦ record {
        assigned = rw w.store-is (subst (λ (r : Relation). AreAssigned xacts r.pages) (sym w.in_ok-far-in_default.ensures.rel) was.assigned);
        holds = rw (w.store-is, w.vacuum-is) (w.in_ok-far-in_default.ensures.holds xacts c.loop-turn.vacuum was.holds);
        near = rw (w.store-is, w.near-is) (reads_on old w.read-in_default.new.store.index 2 1 c.loop-turn.near (λ same. omega (arith, same)) w.in_ok-far-in_default.ensures.others was.near);
        far = rw (w.store-is, w.far-is) w.in_ok-far-in_default.ensures.ready;
      }
    ]
