-- The entry's transaction has it as one more, or as its first.
use Rattle.std.proofs.Common.{Option, Some, IsSome, nat_eq, refl, sym, ap, subst, ◌∙◌}
use Rattle.std.proofs.lemmas.Result.{on_ok_weaker, on_err_weaker}
use Rattle.decode_stream.specs.Decoding.{xid_of, fault_of}
use Rattle.decode_stream.specs.States.{Fits, OpenState, found_of}
use Rattle.decode_stream.specs.Steps.{Tells}
use Rattle.decode_stream.proofs.Tables.{set_same}
use Rattle.decode_stream.proofs.Opens.{at_xid, updated, one_more, one_first}
use Rattle.decode_stream.proofs.table.Table.take_in.Goals as goal

pub take_in-requires-clause-fits : goal.take_in-requires-clause-fits
take_in-requires-clause-fits c =
    subst (λ (o : Option OpenState). Fits (found_of o) c.args.e.now)
    (at_xid c.args.self.now _ _ (xid_of c.args.e.now) _ c.in-Some.ensures.value c.self.view_is c.xid_of_entry-xid.ensures)
    c.requires.fits

pub returns-clause-fault : goal.returns-clause-fault
returns-clause-fault c =
    subst (λ (o : Option OpenState). Tells (fault_of (found_of o) c.args.e.now) c.take_in.result)
    (sym (at_xid c.args.self.now _ _ (xid_of c.args.e.now) _ c.in-Some.ensures.value c.self.view_is c.xid_of_entry-xid.ensures))
    c.take_in.ensures.fault

pub returns-clause-err : goal.returns-clause-err
returns-clause-err c =
    on_err_weaker c.take_in.result
    (λ same. (c.get_mut.follows.holds c.take_in.new.self).0 ∙ set_same (nat_eq c.xid_of_entry-xid.result) _ _ (sym c.in-Some.ensures.value ∙ ap (λ v. Some v) (sym same)) ∙ c.self.view_is)
    c.take_in.ensures.err

pub returns-clause-ok : goal.returns-clause-ok
returns-clause-ok c =
    on_ok_weaker c.take_in.result
    (λ step log are.
    one_more log c.args.e.now c.args.self.now _ c.in-Some.transaction.now c.take_in.new.self c.requires.inside
    (at_xid c.args.self.now _ _ (xid_of c.args.e.now) _ c.in-Some.ensures.value c.self.view_is c.xid_of_entry-xid.ensures)
    (updated c.args.self.now _ _ _ (xid_of c.args.e.now) _ c.self.view_is c.xid_of_entry-xid.ensures ((c.get_mut.follows.holds c.take_in.new.self).3 (subst IsSome c.in-Some.ensures.value refl)).0)
    step are)
    c.take_in.ensures.ok

pub returns-in_default-clause-fault : goal.returns-in_default-clause-fault
returns-in_default-clause-fault c =
    subst (λ (o : Option OpenState). Tells (fault_of (found_of o) c.args.e.now) c.start.result)
    (sym (at_xid c.args.self.now _ _ (xid_of c.args.e.now) _ c.in_default.ensures.value c.self.view_is c.xid_of_entry-xid.ensures))
    c.start.ensures.fault

pub returns-in_default-clause-ok : goal.returns-in_default-clause-ok
returns-in_default-clause-ok c =
    on_ok_weaker c.start.result
    (λ made log are.
    one_first log c.args.e.now c.args.self.now _ c.requires.inside
    (at_xid c.args.self.now _ _ (xid_of c.args.e.now) _ c.in_default.ensures.value c.self.view_is c.xid_of_entry-xid.ensures)
    (made.0, made.1, updated c.args.self.now _ _ _ (xid_of c.args.e.now) _ ((λ i. (c.get_mut.follows.holds-at-none i).entries) ∙ c.self.view_is) c.xid_of_entry-xid.ensures made.2)
    are)
    c.start.ensures.ok
