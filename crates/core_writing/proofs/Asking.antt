-- What a session has asked for at a write's moment, and where the moment is cut short.
use Rattle.std.proofs.Common.{ap, arith, cond, inl, inr, refl, subst, sym, ◌∙◌}
use Rattle.std.specs.Option.{option_map}
use Rattle.std.specs.Prelude.{Bool, Err, IfErr, List, None, Ok, OnErr, OnOk, Option, Result, [], false, length, true, ℕ, ℤ, ◌<◌, ◌∷◌, ◌≡◌, ◌⊎◌}
use Rattle.snapshot_registry.specs.Snapshots.{after_take, least_free}
use Rattle.lock_table.specs.Locks.{IsFirstInWay, after_end, granted, row_lock, table_lock}
use Rattle.lock_table.specs.declared.held.SessionLocks.{SessionLocks}
use Rattle.lock_table.specs.declared.lock.LockMode.TheVariants.{Use}
use Rattle.command_set.specs.declared.Reply.{Reply}
use Rattle.core_state.specs.Facts.{IsSound}
use Rattle.core_state.specs.Lines.{seated, takes_copy, with_snapshot}
use Rattle.core_state.specs.State.{CoreState, IsSession, seat_of}
use Rattle.core_looks.specs.Due.{busy_due, claim_of}
use Rattle.core_parts.proofs.Ending.{asks_granted, asks_nothing}
use Rattle.core_parts.specs.Moments.{HasAsked, IsCutShort}
use Rattle.core_parts.specs.Takes.{locked, once_asked, with_copy}
use Rattle.core_writing.proofs.Claimers.{claimer_first, claimer_granted, long_granted}
use Rattle.core_writing.specs.Begins.{keys_locked}
use Rattle.core_writing.specs.Stops.{IsStopBy}
use Rattle.core_writing.specs.declared.stop.Stop.{Stop}
use Rattle.command_set.specs.declared.Reply.TheVariants as replies

place_within : (c : CoreState) (s : ℕ) → IsSession c.seats s → IsSound c → s < length c.locks
place_within c s there sound =
    let within = there.within in
    let places = sound.places in
    omega (arith, within, places)

-- ---- whether a key is claimed

pub busy_is : (c : CoreState) (s t : ℕ) (key : ℤ) (other : Option ℕ) → IsFirstInWay c.locks s (row_lock t key) other → busy_due c s t key ≡ option_map replies.Busy other
busy_is c s t key other first = ap (option_map replies.Busy) (claimer_first c.locks s t key other first)

pub busy_locked : (c : CoreState) (s t u : ℕ) (key : ℤ) → IsSession c.seats s → IsSound c → busy_due (locked c s u) s t key ≡ busy_due c s t key
busy_locked c s t u key there sound = ap (option_map replies.Busy) (claimer_granted c.locks s (table_lock u Use) (claim_of t key) (place_within c s there sound))

pub busy_claimed : (c : CoreState) (s t : ℕ) (key first : ℤ) → IsSession c.seats s → IsSound c → busy_due (keys_locked c s t (first ∷ [])) s t key ≡ busy_due c s t key
busy_claimed c s t key first there sound =
    let low = place_within c s there sound in
    let long = long_granted c.locks s (table_lock t Use) low in
    ap (option_map replies.Busy) (claimer_granted (granted c.locks s (table_lock t Use)) s (row_lock t first) (claim_of t key) (omega (arith, low, long)))
    ∙ busy_locked c s t t key there sound

-- ---- what is asked for

pub asks_locked : (c : CoreState) (s t : ℕ) → IsSession c.seats s → IsSound c → HasAsked c s (locked c s t)
asks_locked c s t there sound = asks_granted c s c (table_lock t Use) there sound.places (asks_nothing c s) refl

pub asks_first : (c : CoreState) (s t : ℕ) (key : ℤ) → IsSession c.seats s → IsSound c → HasAsked c s (keys_locked c s t (key ∷ []))
asks_first c s t key there sound = asks_granted c s (locked c s t) (row_lock t key) there sound.places (asks_locked c s t there sound) (long_granted c.locks s (table_lock t Use) (place_within c s there sound))

pub asks_both : (c : CoreState) (s t : ℕ) (first second : ℤ) → IsSession c.seats s → IsSound c → HasAsked c s (keys_locked c s t (first ∷ second ∷ []))
asks_both c s t first second there sound =
    let low = place_within c s there sound in
    let once = long_granted c.locks s (table_lock t Use) low in
    let twice = long_granted (granted c.locks s (table_lock t Use)) s (row_lock t first) (omega (arith, low, once)) in
    asks_granted c s (keys_locked c s t (first ∷ [])) (row_lock t second) there sound.places (asks_first c s t first there sound) (twice ∙ once)

pub asked_same : (c : CoreState) (s : ℕ) (new : CoreState) → new ≡ c → HasAsked c s new
asked_same c s new is = subst (HasAsked c s) (sym is) (asks_nothing c s)

-- ---- where it is cut short

-- its transaction has taken its copy since it asked
copied_after : (c : CoreState) (s : ℕ) (locks : List SessionLocks) → after_end locks s ≡ after_end c.locks s → HasAsked (with_copy c s) s (with_copy (record c { locks = locks }) s)
copied_after c s locks same = by (takes_copy (seat_of c s).state)
  where
    by : (b : Bool) → HasAsked (cond b (seated (record c { snaps = after_take c.snaps c.xacts }) s (record (seat_of c s) { state = with_snapshot (seat_of c s).state (least_free c.snaps) })) c) s
        (cond b (seated (record c { snaps = after_take c.snaps c.xacts; locks = locks }) s (record (seat_of c s) { state = with_snapshot (seat_of c s).state (least_free c.snaps) })) (record c { locks = locks }))
    by true = record { is = refl; locks = same }
    by false = record { is = refl; locks = same }

pub cut_by : (c : CoreState) (s : ℕ) (mid new : CoreState) → HasAsked c s mid → (new ≡ mid) ⊎ (new ≡ with_copy mid s) → IsCutShort c s new
cut_by c s mid new asked by = elim by [
  | inl same ↦ inl (subst (HasAsked c s) (sym same) asked)
  | inr copied ↦ inr (subst (HasAsked (with_copy c s) s) (sym (copied ∙ ap (λ (v : CoreState). with_copy v s) asked.is)) (copied_after c s mid.locks asked.locks))
]

-- ---- by what a call answers

-- a core that has asked, and stays where a call fails
pub asked_by : (c : CoreState) (s : ℕ) (mid asked : CoreState) → mid ≡ asked → HasAsked c s asked → HasAsked c s mid
asked_by c s mid asked is has = subst (HasAsked c s) (sym is) has

pub cut_where : {T E : Type 0} (c : CoreState) (s : ℕ) (mid new : CoreState) (answered : Result T E) → HasAsked c s mid → OnErr answered (new ≡ mid) → OnErr answered (IsCutShort c s new)
cut_where c s mid new (Ok x) asked stays = tt
cut_where c s mid new (Err e) asked stays = inl (subst (HasAsked c s) (sym stays) asked)

pub asked_where : {T E : Type 0} (c : CoreState) (s t : ℕ) (mid new : CoreState) (answered : Result T E) → IsSession c.seats s → IsSound c → mid ≡ locked c s t → OnErr answered (new ≡ mid) → OnErr answered (HasAsked c s new)
asked_where c s t mid new (Ok x) there sound is stays = tt
asked_where c s t mid new (Err e) there sound is stays = subst (HasAsked c s) (sym (stays ∙ is)) (asks_locked c s t there sound)

-- a claim once the table is used
pub free_used : {T E : Type 0} (c : CoreState) (s t : ℕ) (key : ℤ) (mid : CoreState) (answered : Result T E) → IsSession c.seats s → IsSound c → mid ≡ locked c s t → OnOk answered (busy_due mid s t key ≡ None) → OnOk answered (busy_due c s t key ≡ None)
free_used c s t key mid (Ok x) there sound is free = sym (ap (λ (v : CoreState). busy_due v s t key) is ∙ busy_locked c s t t key there sound) ∙ free
free_used c s t key mid (Err e) there sound is free = tt

pub busy_used : {T : Type 0} (c : CoreState) (s t : ℕ) (key : ℤ) (mid : CoreState) (answered : Result T Stop) → IsSession c.seats s → IsSound c → mid ≡ locked c s t → IfErr answered (IsStopBy (busy_due mid s t key)) → IfErr answered (IsStopBy (busy_due c s t key))
busy_used c s t key mid (Ok x) there sound is stops = tt
busy_used c s t key mid (Err e) there sound is stops = subst (λ (due : Option Reply). IsStopBy due e) (ap (λ (v : CoreState). busy_due v s t key) is ∙ busy_locked c s t t key there sound) stops

-- the second key of a rekey, past the first
pub locked_both : (c : CoreState) (s t : ℕ) (from to : ℤ) (mid new : CoreState) → mid ≡ keys_locked c s t (from ∷ []) → new ≡ once_asked mid s t to None → new ≡ keys_locked c s t (from ∷ to ∷ [])
locked_both c s t from to mid new is asked = asked ∙ ap (λ (v : CoreState). once_asked v s t to None) is

pub busy_second : (c : CoreState) (s t : ℕ) (from to : ℤ) (mid : CoreState) (due : Option Reply) → IsSession c.seats s → IsSound c → mid ≡ keys_locked c s t (from ∷ []) → busy_due mid s t to ≡ due → busy_due c s t to ≡ due
busy_second c s t from to mid due there sound is answers = sym (ap (λ (v : CoreState). busy_due v s t to) is ∙ busy_claimed c s t to from there sound) ∙ answers

-- for want of memory, where nothing else was taken
pub cut_asked : (c : CoreState) (s : ℕ) (new : CoreState) → HasAsked c s new → IsCutShort c s new
cut_asked c s new asked = inl asked
