-- Who is in the way of a write: no session where it uses its table, and the claimer of its key.
use Rattle.std.proofs.Common.{ap, arith, cond, refl, subst, sym, ◌∙◌}
use Rattle.std.proofs.lemmas.Bool.{cases_lt}
use Rattle.std.proofs.lemmas.Bool.Decides.{nat_tests}
use Rattle.std.proofs.lemmas.List.{get_or_past, length-set}
use Rattle.std.proofs.Common.{inl, inr}
use Rattle.std.specs.List.{enumerate_from}
use Rattle.std.specs.Option.{option_map}
use Rattle.std.specs.Prelude.{Bool, Contains, List, None, Option, Some, [], false, find, length, nat_lt, not, replicate, slice_get, slice_set, suc, true, zero, ℕ, ℤ, ◌&&◌, ◌+◌, ◌++◌, ◌-◌, ◌<◌, ◌==◌, ◌||◌, ◌∷◌, ◌≡◌, ◌≢◌}
use Rattle.list_facts.proofs.Members.{first_in, later_in, none_in_nil}
use Rattle.lock_table.proofs.Holders.{granted_other}
use Rattle.lock_table.specs.Held.{holds_row, nothing, table_in_way, with_lock}
use Rattle.lock_table.specs.Locks.{IsFirstInWay, granted, held_by, row_lock, table_lock}
use Rattle.lock_table.specs.Modes.{conflicts}
use Rattle.lock_table.specs.declared.held.SessionLocks.{SessionLocks}
use Rattle.lock_table.specs.declared.lock.Lock.{Lock}
use Rattle.lock_table.specs.declared.lock.LockMode.TheVariants.{Use}
use Rattle.lock_table.specs.declared.lock.RowKey.{RowKey}
use Rattle.lock_table.specs.declared.lock.TableLock.{TableLock}
use Rattle.core_state.proofs.Lists.{read_found, read_there}
use Rattle.core_state.specs.Facts.{IsSound}
use Rattle.core_state.specs.State.{CoreState, nobody}
use Rattle.core_looks.proofs.Claims.{first_number, numbers_same}
use Rattle.core_looks.specs.Due.{claim_of, claimer_of}

-- ---- the first number that passes

cond_number : {X : Type 0} (b : Bool) (n : ℕ) (x : X) (o : Option (ℕ × X)) → option_map (λ (k, y). k) (cond b (Some (n, x)) o) ≡ cond b (Some n) (option_map (λ (k, y). k) o)
cond_number true n x o = refl
cond_number false n x o = refl

number_here : {X : Type 0} (test : ℕ × X → Bool) (n : ℕ) (x : X) (xs : List X) (b : Bool) → test (n, x) ≡ b → first_number test n (x ∷ xs) ≡ cond b (Some n) (first_number test (n + 1) xs)
number_here test n x xs b e = cond_number (test (n, x)) n x (find test (enumerate_from (n + 1) xs)) ∙ ap (λ (its : Bool). cond its (Some n) (first_number test (n + 1) xs)) e

-- one list of what is held, from a number on
number_none : (test : ℕ × SessionLocks → Bool) (n : ℕ) (locks : List SessionLocks) → ((i : ℕ) → test (n + i, held_by locks i) ≡ false) → first_number test n locks ≡ None
number_none test n [] none = refl
number_none test n (held ∷ locks) none =
    let at : n + 0 ≡ n = omega arith in
    number_here test n held locks false (subst (λ (k : ℕ). test (k, held) ≡ false) at (none 0))
    ∙ number_none test (n + 1) locks (λ i. subst (λ (k : ℕ). test (k, held_by locks i) ≡ false) (omega arith) (none (suc i)))

number_some : (test : ℕ × SessionLocks → Bool) (n k : ℕ) (locks : List SessionLocks) → ((i : ℕ) → test (i, nothing) ≡ false) → test (n + k, held_by locks k) ≡ true → ((i : ℕ) → i < k → test (n + i, held_by locks i) ≡ false)
    → first_number test n locks ≡ Some (n + k)
number_some test n k [] bare here before =
    let not_here = bare (n + k) in
    absurd (cc)
number_some test n zero (held ∷ locks) bare here before =
    let at : n + 0 ≡ n = omega arith in
    number_here test n held locks true (subst (λ (k : ℕ). test (k, held) ≡ true) at here) ∙ ap Some (sym at)
number_some test n (suc k) (held ∷ locks) bare here before =
    let at : n + 0 ≡ n = omega arith in
    let next : n + suc k ≡ n + 1 + k = omega arith in
    number_here test n held locks false (subst (λ (k : ℕ). test (k, held) ≡ false) at (before 0 (omega arith)))
    ∙ number_some test (n + 1) k locks bare (subst (λ (j : ℕ). test (j, held_by locks k) ≡ true) next here) (λ i low. subst (λ (j : ℕ). test (j, held_by locks i) ≡ false) (omega arith) (before (suc i) (omega (arith, low))))
    ∙ ap Some (sym next)

-- ---- the claimer of a row

-- the test of the claimer
abbrev claims : ℕ → RowKey → ℕ × SessionLocks → Bool
claims s row = λ (n, held). not (n == s) && holds_row held.rows row

none_claimed : (b : Bool) → (b && false) ≡ false
none_claimed true = refl
none_claimed false = refl

-- who is first in the way of a claim is the claimer
pub claimer_first : (locks : List SessionLocks) (s t : ℕ) (key : ℤ) (other : Option ℕ) → IsFirstInWay locks s (row_lock t key) other → claimer_of locks s (claim_of t key) ≡ other
claimer_first locks s t key None first = number_none (claims s (claim_of t key)) 0 locks (λ i. subst (λ (n : ℕ). claims s (claim_of t key) (n, held_by locks i) ≡ false) (omega arith) (first i))
claimer_first locks s t key (Some other) first =
    let at : other ≡ 0 + other = omega arith in
    number_some (claims s (claim_of t key)) 0 other locks (λ i. none_claimed (not (i == s))) (subst (λ (n : ℕ). claims s (claim_of t key) (n, held_by locks other) ≡ true) at first.0)
    (λ i low. subst (λ (n : ℕ). claims s (claim_of t key) (n, held_by locks i) ≡ false) (omega arith) (first.1 i low))
    ∙ ap Some (sym at)

pub long_granted : (locks : List SessionLocks) (s : ℕ) (lock : Lock) → s < length locks → length (granted locks s lock) ≡ length locks
long_granted locks s lock low =
    let there : nat_lt s (length locks) ≡ true = grind (arith, nat_tests, low) in
    ap (λ (b : Bool). length (cond b (slice_set locks s (with_lock lock (held_by locks s))) (locks ++ (replicate (s - length locks) nothing ++ with_lock lock (held_by locks s) ∷ [])))) there
    ∙ length-set locks s (with_lock lock (held_by locks s))

-- a lock of the session itself changes nothing of it
pub claimer_granted : (locks : List SessionLocks) (s : ℕ) (lock : Lock) (row : RowKey) → s < length locks → claimer_of (granted locks s lock) s row ≡ claimer_of locks s row
claimer_granted locks s lock row low = numbers_same (claims s row) (claims s row) 0 (granted locks s lock) locks (long_granted locks s lock low) each
  where
    each : (i : ℕ) (held was : SessionLocks) → slice_get (granted locks s lock) i ≡ Some held → slice_get locks i ≡ Some was → claims s row (0 + i, held) ≡ claims s row (0 + i, was)
    each i held was e f = by (0 + i == s) refl
      where
        by : (b : Bool) → (0 + i == s) ≡ b → (not (0 + i == s) && holds_row held.rows row) ≡ (not (0 + i == s) && holds_row was.rows row)
        by true same = rw same refl
        by false differ =
            let apart : i ≢ s = grind (arith, nat_tests, differ) in
            let is : held ≡ was = sym (read_found (granted locks s lock) i held nothing e) ∙ granted_other locks s i lock apart ∙ read_found locks i was nothing f in
            ap (λ (its : SessionLocks). not (0 + i == s) && holds_row its.rows row) is

-- ---- the use of a table

use_free : (t : ℕ) (tables : List TableLock) → ((lock : TableLock) → Contains tables lock → lock.mode ≡ Use) → table_in_way (record { table = t; mode = Use }) tables ≡ false
use_free t [] plain = refl
use_free t (lock ∷ tables) plain =
    let mode : conflicts Use lock.mode ≡ false = ap (conflicts Use) (plain lock (first_in lock tables lock refl)) in
    ap (λ (b : Bool). (lock.table == t && b) || table_in_way (record { table = t; mode = Use }) tables) mode
    ∙ ap (λ (b : Bool). b || table_in_way (record { table = t; mode = Use }) tables) (none_claimed (lock.table == t))
    ∙ use_free t tables (λ other there. plain other (later_in lock tables other there))

held_plain : (c : CoreState) (n : ℕ) → IsSound c → (lock : TableLock) → Contains (held_by c.locks n).tables lock → lock.mode ≡ Use
held_plain c zero sound lock there = absurd (none_in_nil lock (subst (λ (held : SessionLocks). Contains held.tables lock) sound.apart.nobody there))
held_plain c (suc i) sound lock there = elim (cases_lt i (length c.seats)) [
  | inl within ↦ (sound.each i _ (read_there c.seats i nobody within)).locks.plain lock there
  | inr past ↦
      let places = sound.places in
      absurd (none_in_nil lock (subst (λ (held : SessionLocks). Contains held.tables lock) (get_or_past c.locks (suc i) nothing (omega (arith, past, places))) there))
]

-- no session is in the way of a table's use
pub uses_freely : (c : CoreState) (s t : ℕ) → IsSound c → IsFirstInWay c.locks s (table_lock t Use) None
uses_freely c s t sound other =
    ap (λ (b : Bool). not (other == s) && b) (use_free t (held_by c.locks other).tables (held_plain c other sound)) ∙ none_claimed (not (other == s))
