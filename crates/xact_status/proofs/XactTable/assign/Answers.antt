use Rattle.std.proofs.Common.{◌∙◌, sym, ap, ◌++◌, ◌∷◌, []}
use Rattle.xact_status.specs.Xacts.{next_xid}
use Rattle.xact_status.proofs.Numbers.{kept_assign}
use Rattle.xact_status.proofs.XactTable.assign.Goals as goal

-- the new transaction is no commit, and its xid is the last of those that run
pub invariant_of-self-2 : goal.invariant_of-self-2
invariant_of-self-2 c = kept_assign _ _ _ _ _ _ _ c.self.invariant c.in_ok-push.ensures.items (c.next-xid.ensures.next ∙ sym (ap next_xid c.self.view_is)) (c.push_reserved.ensures ∙ ap (λ xs. xs ++ c.next-xid.result ∷ []) c.in_ok-reserve.ensures.items)

pub returns-clause-numbered : goal.returns-clause-numbered
returns-clause-numbered c = (kept_assign _ _ _ _ _ _ _ c.self.invariant c.in_ok-push.ensures.items (c.next-xid.ensures.next ∙ sym (ap next_xid c.self.view_is)) (c.push_reserved.ensures ∙ ap (λ xs. xs ++ c.next-xid.result ∷ []) c.in_ok-reserve.ensures.items)).numbered
