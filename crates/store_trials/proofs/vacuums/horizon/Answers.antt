use Rattle.std.proofs.Common.{ℕ, ◌≡◌, List, [], ◌∷◌, Contains, length, arith}
use Rattle.std.proofs.lemmas.Bool.Decides.{nat_tests}
use Rattle.list_facts.proofs.Members.{none_in_nil}
use Rattle.store_trials.proofs.vacuums.horizon.Goals as goal

none_in : (xs : List ℕ) (x : ℕ) → length xs ≡ 0 → Contains xs x → ⊥
none_in [] x is held = none_in_nil x held
none_in (y ∷ ys) x is held = omega (arith, is)

pub returns : goal.returns
returns g c =
    let nil : length c.running.result.now ≡ 0 = grind (arith, nat_tests) in
    record {
      running = λ xid runs. (let among = c.running.ensures.members xid in absurd (none_in c.running.result.now xid nil (among.1 runs)));
      next = omega arith;
    }
