use Rattle.toast_store.proofs.Marking.{marking_new}
use Rattle.toast_store.proofs.Held.{held_new}
use Rattle.toast_store.proofs.mark.Mark.new.Goals as goal

pub returns-clause-marking : goal.returns-clause-marking
returns-clause-marking c = λ store. rw c.new.ensures (marking_new c.args.p.value_id c.div_ceil.result c.args.xid c.args.session store)

pub returns-clause-batch : goal.returns-clause-batch
returns-clause-batch c = λ store. rw c.new.ensures (held_new c.args.p.value_id 0 c.div_ceil.result c.args.session store.index.entries)
