use Rattle.std.proofs.Common.{refl}
use Rattle.chunk_index.specs.declared.entry.Entry.{Entry}
use Rattle.toast_store.proofs.Laying.{not_there}
use Rattle.read_trials.proofs.Passing.{add_alive, put_alive}
use Rattle.read_trials.proofs.Puts.{given_three, not_dead, there, unnamed}
use Rattle.read_trials.proofs.reads.put.Goals as goal

pub insert-requires-clause-absent : goal.insert-requires-clause-absent
insert-requires-clause-absent g c = not_there c.put_chunk.new.self.index.entries _ (unnamed c.args.store.now c.put_chunk.new.self _ _ c.in_ok-tid.tid c.rel.ensures.sound c.in_ok-tid.ensures.put c.in_ok-tid.ensures.tid)

pub insert-requires-clause-names : goal.insert-requires-clause-names
insert-requires-clause-names g c = (_, there c.args.store.now c.put_chunk.new.self _ _ c.in_ok-tid.tid c.in_ok-tid.ensures.put c.in_ok-tid.ensures.tid, refl, refl)

pub insert-requires-clause-unnamed : goal.insert-requires-clause-unnamed
insert-requires-clause-unnamed g c = unnamed c.args.store.now c.put_chunk.new.self _ _ c.in_ok-tid.tid c.rel.ensures.sound c.in_ok-tid.ensures.put c.in_ok-tid.ensures.tid

pub returns : goal.returns
returns g c = λ xacts given alive.
    let entry : Entry = record { value_id = c.args.value_id; seq = c.args.seq; tid = c.in_ok-tid.tid } in
    add_alive xacts 16385 c.put_chunk.new.self c.insert.new.self entry c.in_ok-insert.ensures.rel c.in_ok-insert.ensures.entries
    (λ same. (_, there c.args.store.now c.put_chunk.new.self _ _ c.in_ok-tid.tid c.in_ok-tid.ensures.put c.in_ok-tid.ensures.tid, not_dead xacts c.args.value_id c.args.seq c.args.bytes.now given))
    (put_alive xacts 16385 c.args.store.now c.put_chunk.new.self _ _ (given_three xacts given) c.in_ok-tid.ensures.put alive)
