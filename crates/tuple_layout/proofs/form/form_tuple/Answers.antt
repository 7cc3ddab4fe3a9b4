use Rattle.std.proofs.Common.{◌≡◌, length, ap, ◌∙◌, rules}
use Rattle.tuple_layout.specs.Tuples.{tuple}
use Rattle.tuple_layout.proofs.HeaderRead.{length-tuple}
use Rattle.tuple_layout.proofs.form.form_tuple.Goals as goal

pub returns-clause-size : goal.returns-clause-size
returns-clause-size c =
    let made : c.from_vec.result ≡ tuple c.args.schema.now.storages c.args.stored.now = search rules in
    ap length made ∙ length-tuple c.args.schema.now.storages c.args.stored.now c.in_ok-put_tuple.ensures.few c.requires.one_each
