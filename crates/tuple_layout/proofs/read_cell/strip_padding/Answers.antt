use Rattle.std.proofs.Common.{◌≡◌, List, ℕ, [], ◌∷◌, ◌++◌, take, subst}
use Rattle.std.specs.Prelude.{MatchOption}
use Rattle.std.proofs.lemmas.Slice.Eq.{strip_prefix_is}
use Rattle.std.proofs.lemmas.Bool.Decides.{Decides-eqb}
use Rattle.tuple_layout.proofs.CellFaultLemmas.{zeros_are_padding}
use Rattle.tuple_layout.proofs.read_cell.strip_padding.Goals as goal

pub returns : goal.returns
returns c =
    let by_zeros = strip_prefix_is Decides-eqb c.args.rest.now (take c.padding.result (0 ∷ 0 ∷ 0 ∷ [])) c.strip_prefix.result c.strip_prefix.ensures.cases in
    subst (λ (p : List ℕ). MatchOption c.strip_prefix.result ((body : List ℕ) → c.args.rest.now ≡ p ++ body → ⊥) (λ body. c.args.rest.now ≡ p ++ body.now))
    (zeros_are_padding c.args.at c.padding.result c.padding.ensures.aligned c.padding.ensures.few) by_zeros
