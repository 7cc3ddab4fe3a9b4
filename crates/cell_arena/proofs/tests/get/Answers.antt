use Rattle.std.proofs.Common.{ℕ, Option, sym, ap, ◌∙◌}
use mathlib.Core.Option.{some}
use Rattle.cell_arena.proofs.Lists.{index_is}
use Rattle.cell_arena.proofs.tests.get.Goals as goal

pub get-requires : goal.get-requires
get-requires c = c.requires.held.each c.args.k c.in-Some.id (index_is c.args.ids.now c.args.k c.index-ids-k.result c.requires.there ∙ ap (λ (x : Option ℕ). some x) (sym c.index-ids-k.is ∙ c.in-Some.is))
