use Rattle.std.proofs.Common.{◌≡◌, Some, ap, arith, sym, ◌∙◌}
use Rattle.std.specs.Option.{option_map}
use Rattle.std.proofs.lemmas.Option.{same_Some}
use Rattle.slot_page.specs.Pages.{item_in}
use Rattle.chunk_relation.specs.declared.chunk.Chunk.{Chunk}
use Rattle.chunk_relation.specs.Chunks.{chunk_shown}
use Rattle.chunk_relation.specs.Relations.{Relation}
use Rattle.read_trials.proofs.Passing.{end_passes}
use Rattle.read_trials.proofs.reads.end_other.Goals as goal

pub returns : goal.returns
returns g c = end_passes c.args.xacts.now 16385 c.args.store.now c.set_ender.new.self c.args.tid 4 c.rel.ensures.sound (record { from_first = omega arith; below_next = omega (arith, c.requires.given.next) }) c.set_ender.ensures.ended
    (λ chunk at same.
    let shown : Some (chunk_shown c.expect-chunk.result) ≡ Some chunk = sym (ap (option_map chunk_shown) c.expect-chunk.ensures) ∙ c.chunk_at.ensures ∙ ap (λ (r : Relation). item_in r.pages c.args.tid) c.rel.ensures.rel ∙ at in
    let is = ap (λ (d : Chunk). d.value_id) (same_Some (chunk_shown c.expect-chunk.result) chunk shown) in
    omega (arith, is, same))
    c.requires.alive
