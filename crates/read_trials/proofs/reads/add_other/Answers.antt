use Rattle.std.proofs.Common.{sym, ap, ◌∙◌, subst, arith}
use Rattle.chunk_relation.specs.Relations.{Relation}
use Rattle.chunk_index.specs.declared.entry.Entry.{Entry}
use Rattle.toast_store.proofs.Laying.{not_there}
use Rattle.read_trials.specs.Readers.{IsLaid}
use Rattle.read_trials.proofs.Passing.{add_passes}
use Rattle.read_trials.proofs.reads.add_other.Goals as goal

pub insert-requires-clause-absent : goal.insert-requires-clause-absent
insert-requires-clause-absent g c =
    let laid = subst (IsLaid c.args.store.now c.args.others.now.value_id) (sym c.take.ensures.value ∙ c.in-Some.is) c.requires.laid in
    not_there c.args.store.now.index.entries _ laid.1

pub returns-in_ok-insert-clause-passes : goal.returns-in_ok-insert-clause-passes
returns-in_ok-insert-clause-passes g c =
    let laid = subst (IsLaid c.args.store.now c.args.others.now.value_id) (sym c.take.ensures.value ∙ c.in-Some.is) c.requires.laid in
    let entry : Entry = record { value_id = c.args.others.now.value_id; seq = 99; tid = c.in-Some.tid } in
    add_passes c.args.xacts.now 16385 c.args.store.now c.insert.new.self entry (record { names = laid.0; pages = ap (λ (r : Relation). r.pages) c.in_ok-insert.ensures.rel; entries = c.in_ok-insert.ensures.entries }) c.in_ok-insert.ensures.rel c.in_ok-insert.ensures.pins (λ same. omega (arith, same)) c.requires.alive
