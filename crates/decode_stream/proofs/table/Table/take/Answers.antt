-- An entry that ends its transaction leaves nothing of it, and any other is taken in.
use Rattle.std.proofs.Common.{List, Option, refl, sym, ◌∙◌}
use Rattle.std.proofs.lemmas.Result.{err_from_is_err_and}
use Rattle.stream_wire.specs.declared.message.Message.{Message}
use Rattle.decode_stream.specs.Decoding.{open_entries}
use Rattle.decode_stream.proofs.Results.{tells_err}
use Rattle.decode_stream.proofs.Opens.{are_open-end, ended_is, fault_is, no_commit}
use Rattle.decode_stream.proofs.table.Table.take.Goals as goal

pub returns-in-Commit-clause-ok : goal.returns-in-Commit-clause-ok
returns-in-Commit-clause-ok c = rw c.in-Commit.is (λ log are. are_open-end log _ c.args.self.now c.end.new.self refl c.end.ensures.left are)

pub returns-in-Commit-clause-commit : goal.returns-in-Commit-clause-commit
returns-in-Commit-clause-commit c = rw c.in-Commit.is (λ log are. c.end.ensures.changes ∙ ended_is log c.args.e.now _ (open_entries c.in-Commit.xid log) (are c.in-Commit.xid))

pub returns-in-Abort-clause-ok : goal.returns-in-Abort-clause-ok
returns-in-Abort-clause-ok c = rw c.in-Abort.is (λ log are. are_open-end log _ c.args.self.now c.end-in-Abort.new.self refl c.end-in-Abort.ensures.left are)

pub returns-in_err-take_in-in_default : goal.returns-in_err-take_in-in_default
returns-in_err-take_in-in_default c =
    let p = err_from_is_err_and c.from_residual.result c.from_residual.ensures.1 in
    rw (p.1, p.2) (record {
      ok = tt;
      commit = tt;
      some = tt;
      fault = λ log are. tells_err (Unit {0}) (Option (List Message)) (fault_is log c.args.e.now c.args.self.now are) c.in_err-take_in-in_default.field-0.0 c.in_err-take_in-in_default.ensures.fault;
      err = c.in_err-take_in-in_default.ensures.err;
    })

pub returns-in_ok-take_in-in_default : goal.returns-in_ok-take_in-in_default
returns-in_ok-take_in-in_default c = record {
  ok = c.in_ok-take_in-in_default.ensures.ok;
  commit = λ log are. no_commit _ c.args.e.now c.in_default.not-Commit;
  some = tt;
  fault = λ log are. sym (fault_is log c.args.e.now c.args.self.now are) ∙ c.in_ok-take_in-in_default.ensures.fault;
  err = tt;
}
