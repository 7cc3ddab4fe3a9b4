-- What a session has locked once it uses a table.
use Rattle.std.proofs.Common.{ap, arith, inl, inr, refl, subst, sym, ◌∙◌}
use Rattle.std.proofs.lemmas.Bool.{lt-ltb}
use Rattle.std.proofs.lemmas.Bool.Decides.{nat_tests}
use Rattle.std.proofs.lemmas.List.{length-set}
use Rattle.std.proofs.lemmas.List.Folds.{list_any-append}
use Rattle.std.specs.Prelude.{Bool, Contains, List, [], false, if◌then◌else◌, length, true, ℕ, ◌&&◌, ◌++◌, ◌<◌, ◌==◌, ◌||◌, ◌∷◌, ◌≡◌, ◌≢◌, ◌≤◌}
use Rattle.lock_table.proofs.Holders.{granted_other, granted_same}
use Rattle.lock_table.specs.Held.{holds_row, holds_table, with_lock, with_table}
use Rattle.lock_table.specs.Locks.{granted, held_by, table_lock}
use Rattle.lock_table.specs.Modes.{same_mode}
use Rattle.lock_table.specs.declared.held.SessionLocks.{SessionLocks}
use Rattle.lock_table.specs.declared.lock.LockMode.TheVariants.{Use}
use Rattle.lock_table.specs.declared.lock.RowKey.{RowKey}
use Rattle.lock_table.specs.declared.lock.TableLock.{TableLock}
use Rattle.core_state.proofs.Lists.{in_append, only_one}
use Rattle.core_state.proofs.Moved.{KeepsLocks}
use Rattle.core_state.specs.Facts.{AreApart, Uses}

-- a lock for use
abbrev pub use_of : ℕ → TableLock
use_of t = record { table = t; mode = Use }

abbrev pub locks_used : List SessionLocks → ℕ → ℕ → List SessionLocks
locks_used locks s t = granted locks s (table_lock t Use)

-- ---- one session's

-- it uses what it has used, and this table
pub holds_with : (tables : List TableLock) (t u : ℕ) → holds_table (with_table tables (use_of t)) (use_of u) ≡ (holds_table tables (use_of u) || (t == u))
holds_with tables t u = by (holds_table tables (use_of t)) refl
  where
    or_false : (a b : Bool) → ((a && true) || false) ≡ a
    or_false true b = refl
    or_false false b = refl

    same : (b : Bool) → (t == u) ≡ b → holds_table tables (use_of t) ≡ true → holds_table tables (use_of u) ≡ (holds_table tables (use_of u) || b)
    same true e there =
        let is : t ≡ u = grind (arith, nat_tests, e) in
        let here : holds_table tables (use_of u) ≡ true = subst (λ (n : ℕ). holds_table tables (use_of n) ≡ true) is there in
        here ∙ sym (ap (λ (b : Bool). b || true) here)
    same false e there = alone (holds_table tables (use_of u))
      where
        alone : (a : Bool) → a ≡ (a || false)
        alone true = refl
        alone false = refl

    by : (b : Bool) → holds_table tables (use_of t) ≡ b → holds_table (if b then tables else tables ++ use_of t ∷ []) (use_of u) ≡ (holds_table tables (use_of u) || (t == u))
    by true there = same (t == u) refl there
    by false there =
        list_any-append (λ (other : TableLock). other.table == u && same_mode other.mode Use) tables (use_of t ∷ [])
        ∙ ap (λ (b : Bool). holds_table tables (use_of u) || b) (or_false (t == u) true)

pub held_own : (locks : List SessionLocks) (s t : ℕ) → held_by (locks_used locks s t) s ≡ record (held_by locks s) { tables = with_table (held_by locks s).tables (use_of t) }
held_own locks s t = granted_same locks s (table_lock t Use)

pub uses_own : (locks : List SessionLocks) (s t u : ℕ) → holds_table (held_by (locks_used locks s t) s).tables (use_of u) ≡ (holds_table (held_by locks s).tables (use_of u) || (t == u))
uses_own locks s t u = ap (λ (held : SessionLocks). holds_table held.tables (use_of u)) (held_own locks s t) ∙ holds_with (held_by locks s).tables t u

pub rows_own : (locks : List SessionLocks) (s t : ℕ) → (held_by (locks_used locks s t) s).rows ≡ (held_by locks s).rows
rows_own locks s t = ap (λ (held : SessionLocks). held.rows) (held_own locks s t)

pub uses_kept : (locks : List SessionLocks) (s t u : ℕ) → Uses (held_by locks s) u → Uses (held_by (locks_used locks s t) s) u
uses_kept locks s t u e = uses_own locks s t u ∙ ap (λ (b : Bool). b || (t == u)) e

-- it uses the table
pub uses_it : (locks : List SessionLocks) (s t : ℕ) → Uses (held_by (locks_used locks s t) s) t
uses_it locks s t = uses_own locks s t t ∙ by (holds_table (held_by locks s).tables (use_of t)) (t == t) (grind (arith, nat_tests))
  where
    by : (a b : Bool) → b ≡ true → (a || b) ≡ true
    by true b e = refl
    by false b e = e

-- its tables are locked for use alone, if they were
pub plain_own : (locks : List SessionLocks) (s t : ℕ) → ((lock : TableLock) → Contains (held_by locks s).tables lock → lock.mode ≡ Use) → (lock : TableLock) → Contains (held_by (locks_used locks s t) s).tables lock → lock.mode ≡ Use
plain_own locks s t plain lock e = by (holds_table (held_by locks s).tables (use_of t)) (subst (λ (held : SessionLocks). Contains held.tables lock) (held_own locks s t) e)
  where
    by : (b : Bool) → Contains (if b then (held_by locks s).tables else (held_by locks s).tables ++ use_of t ∷ []) lock → lock.mode ≡ Use
    by true f = plain lock f
    by false f = elim (in_append (held_by locks s).tables (use_of t ∷ []) lock f) [
      | inl g ↦ plain lock g
      | inr g ↦ ap (λ (its : TableLock). its.mode) (sym (only_one (use_of t) lock g))
    ]

-- ---- all sessions'

pub rows_all : (locks : List SessionLocks) (s t n : ℕ) → (held_by (locks_used locks s t) n).rows ≡ (held_by locks n).rows
rows_all locks s t n = by (n == s) refl
  where
    by : (b : Bool) → (n == s) ≡ b → (held_by (locks_used locks s t) n).rows ≡ (held_by locks n).rows
    by true e =
        let is : n ≡ s = grind (arith, nat_tests, e) in
        subst (λ (k : ℕ). (held_by (locks_used locks s t) k).rows ≡ (held_by locks k).rows) (sym is) (rows_own locks s t)
    by false e =
        let apart : n ≢ s = grind (arith, nat_tests, e) in
        ap (λ (held : SessionLocks). held.rows) (granted_other locks s n (table_lock t Use) apart)

pub long_used : (locks : List SessionLocks) (s t : ℕ) → s < length locks → length (locks_used locks s t) ≡ length locks
long_used locks s t h = rw (lt-ltb s (length locks) h) (length-set locks s (with_lock (table_lock t Use) (held_by locks s)))

pub keeps_used : (locks : List SessionLocks) (s t : ℕ) → KeepsLocks locks (locks_used locks s t) s
keeps_used locks s t = record {
  others = λ other apart. granted_other locks s other (table_lock t Use) apart;
  rows = λ row e. ap (λ (rows : List RowKey). holds_row rows row) (rows_own locks s t) ∙ e;
  uses = uses_kept locks s t;
}

pub apart_used : (locks : List SessionLocks) (s t : ℕ) → 1 ≤ s → AreApart locks → AreApart (locks_used locks s t)
apart_used locks s t low old = record {
  nobody = granted_other locks s 0 (table_lock t Use) (λ e. absurd (omega (arith, e, low))) ∙ old.nobody;
  claims = λ a b row differ e.
      let was : holds_row (held_by locks a).rows row ≡ true = sym (ap (λ (rows : List RowKey). holds_row rows row) (rows_all locks s t a)) ∙ e in
      ap (λ (rows : List RowKey). holds_row rows row) (rows_all locks s t b) ∙ old.claims a b row differ was;
}
