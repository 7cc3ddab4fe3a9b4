-- Clauses of a result.
use Rattle.std.specs.Prelude.{IfOk, OnErr, Result}
use Rattle.std.specs.declared.result.Result.TheVariants as results

pub ok_as : {A E : Type 0} (P Q : A → Type 0) → ((a : A) → P a → Q a) → (r : Result A E) → IfOk r P → IfOk r Q
ok_as P Q f (results.Ok a) p = f a p
ok_as P Q f (results.Err e) p = tt

pub on_err : {A E : Type 0} (P : Type 0) → P → (r : Result A E) → OnErr r P
on_err P p (results.Ok a) = tt
on_err P p (results.Err e) = p
