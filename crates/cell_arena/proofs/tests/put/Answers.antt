use Rattle.std.proofs.Common.{ℕ, List, Some, ◌∷◌, [], ◌++◌, sym, subst}
use Rattle.cell_arena.specs.Held.{AreHeld}
use Rattle.cell_arena.proofs.Held.{held_more}
use Rattle.cell_arena.proofs.tests.put.Goals as goal

pub returns : goal.returns
returns c =
    let p = c.put-id.ensures in
    let more = held_more c.args.arena.now.cells c.args.ids.now.items c.put-id.result c.args.bytes.now c.requires.held p.id.0 p.id.1 c.requires.bytes.0 in
    let kept = subst (λ (cells : List (List ℕ)). AreHeld cells (c.args.ids.now.items ++ Some c.put-id.result ∷ [])) (sym p.cells) more in
    subst (AreHeld c.put-id.new.self.cells) (sym c.in_ok-push.ensures.items) kept
