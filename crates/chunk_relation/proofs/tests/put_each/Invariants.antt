use Rattle.chunk_relation.specs.Relations.{AreAssigned}
use Rattle.chunk_relation.proofs.tests.put_each.Given as goal

abbrev pub invariant-loop-xid : goal.invariant-loop-xid
invariant-loop-xid g l = AreAssigned l.xacts l.rel.pages
