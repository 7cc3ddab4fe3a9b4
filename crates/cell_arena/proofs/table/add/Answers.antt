use Rattle.std.proofs.Common.{◌≡◌, ⊎_elim, inr, length, ap, ◌∙◌, arith}
use Rattle.cell_arena.proofs.Lists.{get_below}
use Rattle.cell_arena.proofs.table.add.Goals as goal

pub returns-else-place-len-clause-added : goal.returns-else-place-len-clause-added
returns-else-place-len-clause-added c =
    let same = ap length c.deref.ensures.value in
    let long = c.args.entries.now.ok.0 in
    let len = c.len.ensures in
    let over = c.if-place-len.false in
    let last : c.vacant_from-place.result ≡ length c.args.entries.now.items = ⊎_elim (λ t. t ∙ same) (λ v. let b = get_below c.deref.result.now c.vacant_from-place.result v.0 v.1 in absurd (omega (arith, b, same, long, len, over))) c.vacant_from-place.ensures in
    inr (last, c.push_reserved.ensures.items)
