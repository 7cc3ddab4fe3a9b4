-- A value that is refused a chunk is written back as it was.
use Rattle.std.proofs.Common.{Some, sym, ap, ◌∙◌}
use Rattle.decode_stream.specs.States.{same_name}
use Rattle.decode_stream.proofs.Results.{on_err}
use Rattle.decode_stream.proofs.Tables.{set_same}
use Rattle.decode_stream.proofs.gathered.gather.Goals as goal

pub returns-then-seq-wanted-clause-err : goal.returns-then-seq-wanted-clause-err
returns-then-seq-wanted-clause-err c = (c.get_mut.follows.holds c.in-Some.value.now).0 ∙ set_same (same_name c.args.name) _ _ (sym c.in-Some.ensures.value)

pub returns-in_err-add-clause-err : goal.returns-in_err-add-clause-err
returns-in_err-add-clause-err c =
    on_err _ ((c.get_mut.follows.holds c.add.new.self).0 ∙ set_same (same_name c.args.name) _ _ (sym c.in-Some.ensures.value ∙ ap (λ v. Some v) (sym c.in_err-add.ensures.err)))
