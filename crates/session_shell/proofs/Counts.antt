-- The commands of sessions, counted.
use Rattle.std.proofs.Common.{◌≡◌, ◌<◌, ◌≤◌, ◌+◌, ℕ, List, [], ◌∷◌, ◌++◌, length, get_or, take, drop, sym, ap, ◌∙◌, arith}
use Rattle.std.specs.List.{sum_by}
use Rattle.std.proofs.lemmas.List.{take_more, take_all, get_or_read, take-append-drop}
use Rattle.std.proofs.lemmas.List.Sums.{sum_by_push, sum_by-append}
use Rattle.command_set.specs.declared.Command.{Command}

-- one session more
pub counted : (sessions : List (List Command)) (i count : ℕ) (session : List Command) → i < length sessions → session ≡ get_or sessions i session → count ≡ sum_by length (take i sessions) → count + length session ≡ sum_by length (take (i + 1) sessions)
counted sessions i count session within is so =
    ap (λ (n : ℕ). n + length session) so
    ∙ sym (sum_by_push length (take i sessions) session)
    ∙ ap (λ (x : List Command). sum_by length (take i sessions ++ x ∷ [])) (get_or_read sessions i session within is [])
    ∙ sym (ap (sum_by length) (take_more sessions i [] within))

-- a front counts no more than all
pub front_within : (sessions : List (List Command)) (i : ℕ) → sum_by length (take i sessions) ≤ sum_by length sessions
front_within sessions i = omega (arith, sum_by-append length (take i sessions) (drop i sessions), ap (sum_by length) (take-append-drop i sessions))

-- all sessions
pub all_counted : (sessions : List (List Command)) (i count : ℕ) → length sessions ≤ i → count ≡ sum_by length (take i sessions) → count ≡ sum_by length sessions
all_counted sessions i count past so = so ∙ ap (sum_by length) (take_all i sessions past)
