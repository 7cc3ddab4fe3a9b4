-- No session is in the way of a use: tables are locked for use alone, as no upkeep is built.
use Rattle.std.proofs.Common.{ap, arith, inl, inr, subst, refl, ◌∙◌}
use Rattle.std.proofs.lemmas.Bool.{cases_lt}
use Rattle.std.proofs.lemmas.List.{get_or_past}
use Rattle.std.specs.Prelude.{Bool, Contains, List, None, [], false, length, not, suc, true, zero, ℕ, ◌&&◌, ◌==◌, ◌||◌, ◌∷◌, ◌≡◌}
use Rattle.list_facts.proofs.Members.{first_in, later_in, none_in_nil}
use Rattle.lock_table.specs.Held.{is_in_way, nothing, table_in_way}
use Rattle.lock_table.specs.Locks.{IsFirstInWay, held_by, table_lock}
use Rattle.lock_table.specs.Modes.{conflicts}
use Rattle.lock_table.specs.declared.held.SessionLocks.{SessionLocks}
use Rattle.lock_table.specs.declared.lock.LockMode.{LockMode}
use Rattle.lock_table.specs.declared.lock.LockMode.TheVariants.{Use}
use Rattle.lock_table.specs.declared.lock.TableLock.{TableLock}
use Rattle.core_looks.proofs.Locks.{use_of}
use Rattle.core_state.proofs.Lists.{read_there}
use Rattle.core_state.specs.Facts.{IsSound}
use Rattle.core_state.specs.State.{CoreState, nobody}

-- tables that are locked for use alone
abbrev ArePlain : List TableLock → Type 0
ArePlain tables = (lock : TableLock) → Contains tables lock → lock.mode ≡ Use

-- one more is in nobody's way
one_free : (lock : TableLock) (tables : List TableLock) (t : ℕ) → lock.mode ≡ Use → table_in_way (use_of t) tables ≡ false → table_in_way (use_of t) (lock ∷ tables) ≡ false
one_free lock tables t plain rest = ap (λ (mode : LockMode). (lock.table == t && conflicts Use mode) || table_in_way (use_of t) tables) plain ∙ by (lock.table == t)
  where
    by : (b : Bool) → ((b && false) || table_in_way (use_of t) tables) ≡ false
    by true = rest
    by false = rest

plain_free : (tables : List TableLock) (t : ℕ) → ArePlain tables → table_in_way (use_of t) tables ≡ false
plain_free [] t plain = refl
plain_free (lock ∷ tables) t plain = one_free lock tables t (plain lock (first_in lock tables lock refl)) (plain_free tables t (λ other e. plain other (later_in lock tables other e)))

plain_nothing : (held : SessionLocks) → held ≡ nothing → ArePlain held.tables
plain_nothing held is lock e = absurd (none_in_nil lock (subst (λ (its : SessionLocks). Contains its.tables lock) is e))

-- every session's are
plain_of : (c : CoreState) (n : ℕ) → IsSound c → ArePlain (held_by c.locks n).tables
plain_of c zero sound = plain_nothing (held_by c.locks zero) sound.apart.nobody
plain_of c (suc i) sound = elim (cases_lt i (length c.seats)) [
  | inl there ↦ (sound.each i _ (read_there c.seats i nobody there)).locks.plain
  | inr past ↦
      let places = sound.places in
      plain_nothing (held_by c.locks (suc i)) (get_or_past c.locks (suc i) nothing (omega (arith, places, past)))
]

pub free_to_use : (c : CoreState) (s t : ℕ) → IsSound c → IsFirstInWay c.locks s (table_lock t Use) None
free_to_use c s t sound other = by (not (other == s)) (is_in_way (table_lock t Use) (held_by c.locks other)) (plain_free (held_by c.locks other).tables t (plain_of c other sound))
  where
    by : (b other : Bool) → other ≡ false → (b && other) ≡ false
    by true other e = e
    by false other e = refl
