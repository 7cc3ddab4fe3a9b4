-- The answer of `read_all` after want of memory.
use Rattle.std.proofs.Common.{◌≡◌, ℕ, List, Option, Result, Ok, Err, IsErrAnd, sym, subst}
use Rattle.toast_io.specs.Source.{TakesUpTo}
use Rattle.toast_io.specs.ReadAll.{TakesByAnswer}
use Rattle.toast_io.specs.declared.fault.ReadAllFault.{ReadAllFault}
use Rattle.toast_io.specs.declared.fault.ReadAllFault.TheVariants.{Memory}

-- what the answer is known to be decides what may have been taken
pub memory_answered : (limit : ℕ) (old new : Option (List ℕ)) (answer : Result (List ℕ) ReadAllFault) → IsErrAnd answer (λ fault. fault ≡ Memory)
    → TakesUpTo old new limit → TakesByAnswer limit old new answer
memory_answered limit old new (Ok bytes) is taken = absurd is
memory_answered limit old new (Err fault) is taken =
    let P : ReadAllFault → Type 0 = λ f. TakesByAnswer limit old new (Err f) in
    subst P (sym is) taken
