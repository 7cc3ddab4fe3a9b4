use Rattle.std.proofs.Common.{sym, subst}
use Rattle.chunk_index.specs.Places.{IsSweepPlace}
use Rattle.chunk_index.proofs.Placed.{leaf_is}
use Rattle.chunk_index.proofs.leaves.place_at.Goals as goal

pub returns-in-Some : goal.returns-in-Some
returns-in-Some c = subst (λ o. IsSweepPlace c.args.nodes.now o c.place_of.result) (sym c.in-Some.is) (leaf_is c.args.nodes.now c.in-Some.e c.place_of.result c.requires c.place_of.ensures)
