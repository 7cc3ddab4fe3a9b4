-- What each session holds after a lock is granted or a session has ended.
use Rattle.std.proofs.Common.{◌≡◌, ◌≢◌, ℕ, ◌<◌, ◌-◌, inl, inr, List, [], ◌∷◌, ◌++◌, length, get_or, refl, sym, ap, ◌∙◌, arith}
use Rattle.std.specs.Prelude.{replicate}
use Rattle.std.proofs.lemmas.Bool.{cases_lt, lt-ltb, le-ltb}
use Rattle.std.proofs.lemmas.List.{get_or-set_same, get_or-set_other, get_or_past, get_or_append_left, get_or-append_right, get_or-replicate, get_or_at, length-append, length-replicate, set_past}
use Rattle.lock_table.specs.declared.lock.Lock.{Lock}
use Rattle.lock_table.specs.declared.held.SessionLocks.{SessionLocks}
use Rattle.lock_table.specs.Held.{nothing, with_lock}
use Rattle.lock_table.specs.Locks.{held_by, with_locks, granted, after_end}

-- past the end of a list nothing is held, at places that were added with nothing neither
past_or_padded : (n k : ℕ) (held : SessionLocks) → k ≢ n → get_or (replicate n nothing ++ held ∷ []) k nothing ≡ nothing
past_or_padded n k held other = elim (cases_lt k n) [
  | inl padded ↦
      let within : k < length (replicate n nothing) = omega (arith, length-replicate n nothing) in
      get_or_append_left (replicate n nothing) (held ∷ []) nothing k within ∙ get_or-replicate n k nothing nothing padded
  | inr past ↦ get_or_past (replicate n nothing ++ held ∷ []) k nothing (omega (arith, length-append (replicate n nothing) (held ∷ []), length-replicate n nothing, other))
]

-- a session whose locks were written holds these
pub with_same : (locks : List SessionLocks) (session : ℕ) (held : SessionLocks) → held_by (with_locks locks session held) session ≡ held
with_same locks session held = elim (cases_lt session (length locks)) [
  | inl there ↦ rw (lt-ltb session (length locks) there) (get_or-set_same locks session held nothing there)
  | inr past ↦ rw (le-ltb session (length locks) past) (
      get_or-append_right locks (replicate (session - length locks) nothing ++ held ∷ []) (length locks) session nothing refl past
      ∙ get_or_at (replicate (session - length locks) nothing) held [] nothing (session - length locks) (length-replicate (session - length locks) nothing))
]

-- every other session holds what it held
pub with_other : (locks : List SessionLocks) (session other : ℕ) (held : SessionLocks) → other ≢ session → held_by (with_locks locks session held) other ≡ held_by locks other
with_other locks session other held apart = elim (cases_lt session (length locks)) [
  | inl there ↦ rw (lt-ltb session (length locks) there) (get_or-set_other locks session other held nothing apart)
  | inr past ↦ rw (le-ltb session (length locks) past) (elim (cases_lt other (length locks)) [
    | inl within ↦ get_or_append_left locks (replicate (session - length locks) nothing ++ held ∷ []) nothing other within
    | inr beyond ↦
        get_or-append_right locks (replicate (session - length locks) nothing ++ held ∷ []) (length locks) other nothing refl beyond
        ∙ past_or_padded (session - length locks) (other - length locks) held (λ e. apart (omega (arith, e, past, beyond)))
        ∙ sym (get_or_past locks other nothing beyond)
  ])
]

-- a session that was granted a lock holds it beside what it held
pub granted_same : (locks : List SessionLocks) (session : ℕ) (lock : Lock) → held_by (granted locks session lock) session ≡ with_lock lock (held_by locks session)
granted_same locks session lock = with_same locks session (with_lock lock (held_by locks session))

pub granted_other : (locks : List SessionLocks) (session other : ℕ) (lock : Lock) → other ≢ session → held_by (granted locks session lock) other ≡ held_by locks other
granted_other locks session other lock apart = with_other locks session other (with_lock lock (held_by locks session)) apart

-- a session that has ended holds nothing
pub end_same : (locks : List SessionLocks) (session : ℕ) → held_by (after_end locks session) session ≡ nothing
end_same locks session = elim (cases_lt session (length locks)) [
  | inl there ↦ get_or-set_same locks session nothing nothing there
  | inr past ↦ ap (λ all. held_by all session) (set_past locks session nothing past) ∙ get_or_past locks session nothing past
]

pub end_other : (locks : List SessionLocks) (session other : ℕ) → other ≢ session → held_by (after_end locks session) other ≡ held_by locks other
end_other locks session other apart = get_or-set_other locks session other nothing nothing apart
