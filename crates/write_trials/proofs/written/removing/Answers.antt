use Rattle.std.proofs.Common.{◌≡◌, Some, subst}
use Rattle.slot_page.specs.Slots.{IsNormal}
use Rattle.slot_page.specs.Pages.{slot_of}
use Rattle.write_steps.specs.declared.stage.OldRow.{OldRow}
use Rattle.write_trials.proofs.written.removing.Goals as goal

pub returns : goal.returns
returns c = rw c.start.ensures (record { there = λ row e. subst (λ (r : OldRow). IsNormal (slot_of c.args.desk.now.rows.pages r.tid)) (same c.args.old row e) c.requires.there; free = c.requires.free })
  where
    same : (a b : OldRow) → Some a ≡ Some b → a ≡ b
    same a b e = cc
