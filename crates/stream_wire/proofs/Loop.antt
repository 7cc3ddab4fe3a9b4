-- Reading columns one after the other, as a loop does.
use Rattle.std.proofs.Common.{◌≡◌, ℕ, suc, ◌-◌, ◌+◌, ◌≤◌, ◌<◌, List, [], ◌∷◌, ◌++◌, Option, Some, None, refl, sym, ap, ◌∙◌, append_assoc, arith}
use Rattle.std.proofs.lemmas.List.{append-nil}
use Rattle.stream_wire.specs.declared.message.Sent.{Sent}
use Rattle.stream_wire.specs.declared.read.Refused.{Refused}
use Rattle.stream_wire.specs.declared.read.Refused.TheVariants.{NoMessage, Memory}
use Rattle.stream_wire.specs.Reading.{◌>>=◌, Fails, column_at, columns_at}

-- what was read before, and what is still read
abbrev pub with_front : List Sent → Option (List Sent × List ℕ) → Option (List Sent × List ℕ)
with_front front read = read >>= λ x. Some (front ++ x.0, x.1)

regroup : (front : List Sent) (n : Sent) (read : Option (List Sent × List ℕ)) → with_front front (read >>= λ x. Some (n ∷ x.0, x.1)) ≡ with_front (front ++ n ∷ []) read
regroup front n (Some x) = ap (λ (ns : List Sent). Some (ns, x.1)) (simp append_assoc)
regroup front n None = refl

pub goes_on : (front : List Sent) (count i : ℕ) (bytes : List ℕ) (n : Sent) (after : List ℕ) (total : Option (List Sent × List ℕ)) → i < count → column_at bytes ≡ Some (n, after)
    → with_front front (columns_at (count - i) bytes) ≡ total → with_front (front ++ n ∷ []) (columns_at (count - (i + 1)) after) ≡ total
unfolding columns_at
goes_on front count i bytes n after total lt h so_far =
    let k : count - i ≡ suc (count - (i + 1)) = omega arith in
    let one : with_front front (columns_at (count - i) bytes) ≡ with_front (front ++ n ∷ []) (columns_at (count - (i + 1)) after) = rw (k, h) (regroup front n (columns_at (count - (i + 1)) after)) in
    sym one ∙ so_far

pub ends : (e : Refused) (front : List Sent) (count i : ℕ) (bytes : List ℕ) (total : Option (List Sent × List ℕ)) → i < count → Fails e (column_at bytes)
    → with_front front (columns_at (count - i) bytes) ≡ total → Fails e total
unfolding columns_at
ends Memory front count i bytes total lt h so_far = tt
ends NoMessage front count i bytes total lt h so_far =
    let k : count - i ≡ suc (count - (i + 1)) = omega arith in
    let one : with_front front (columns_at (count - i) bytes) ≡ None = rw (k, h) refl in
    sym so_far ∙ one

pub is_done : (front : List Sent) (count i : ℕ) (bytes : List ℕ) (total : Option (List Sent × List ℕ)) → count ≤ i → with_front front (columns_at (count - i) bytes) ≡ total → total ≡ Some (front, bytes)
unfolding columns_at
is_done front count i bytes total le so_far =
    let k : count - i ≡ 0 = omega arith in
    let one : with_front front (columns_at (count - i) bytes) ≡ Some (front, bytes) = rw k (ap (λ (ns : List Sent). Some (ns, bytes)) (append-nil front)) in
    sym so_far ∙ one
