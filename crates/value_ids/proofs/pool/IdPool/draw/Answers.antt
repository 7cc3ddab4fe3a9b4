use Rattle.std.proofs.Common.{sym}
use Rattle.value_ids.proofs.Drawn.{drawn_within, after_within}
use Rattle.value_ids.proofs.pool.IdPool.draw.Goals as goal

pub id_after-self-inside-requires : goal.id_after-self-inside-requires
id_after-self-inside-requires g c =
    let within = drawn_within (g.T.IdTest.is_used c.args.test.now) c.args.self.now c.args.table c.in-Some.id c.in-Some.ensures.sound (sym c.in-Some.ensures.id) in
    rw (← c.self.view_is) at within.1

pub invariant_of-self-2 : goal.invariant_of-self-2
invariant_of-self-2 g c =
    let within = drawn_within (g.T.IdTest.is_used c.args.test.now) c.args.self.now c.args.table c.in-Some.id c.in-Some.ensures.sound (sym c.in-Some.ensures.id) in
    let after = after_within c.args.self.now c.in-Some.id c.in-Some.ensures.sound within.0 within.1 in
    rw c.id_after-self-inside.ensures (rw (← c.self.view_is) at after)

pub returns-clause-sound : goal.returns-clause-sound
returns-clause-sound g c =
    let within = drawn_within (g.T.IdTest.is_used c.args.test.now) c.args.self.now c.args.table c.in-Some.id c.in-Some.ensures.sound (sym c.in-Some.ensures.id) in
    let after = after_within c.args.self.now c.in-Some.id c.in-Some.ensures.sound within.0 within.1 in
    let inside = rw (← c.self.view_is) at after in
    rw c.id_after-self-inside.ensures (record { from_low = inside.0; to_high = inside.1 })
