-- The claims of the sessions are the changes of the plain store's, and so who is in the way of a row is who is busy with it there.
use Rattle.std.proofs.Common.{ap, arith, refl, subst, sym, ◌∙◌}
use Rattle.std.proofs.lemmas.Bool.Decides.{nat_tests}
use Rattle.std.proofs.lemmas.List.{length-set}
use Rattle.std.specs.List.{enumerate_from, find}
use Rattle.std.specs.Option.{option_map}
use Rattle.std.specs.Prelude.{Bool, List, Option, Some, [], cond, false, length, not, slice_get, slice_index_or, slice_set, suc, true, ℕ, ◌&&◌, ◌+◌, ◌-◌, ◌==◌, ◌∷◌, ◌≡◌, ◌≢◌, ◌≤◌}
use Rattle.list_facts.proofs.Changed.{get_set_other}
use Rattle.tuple_layout.specs.declared.Place.{Place}
use Rattle.lock_table.specs.Held.{holds_row, nothing}
use Rattle.lock_table.specs.Locks.{held_by}
use Rattle.lock_table.specs.declared.held.SessionLocks.{SessionLocks}
use Rattle.lock_table.specs.declared.lock.RowKey.{RowKey}
use Rattle.command_set.specs.Plain.{with_session}
use Rattle.command_set.specs.Replies.{changer_of, has_changed}
use Rattle.command_set.specs.declared.Reply.{Reply}
use Rattle.command_set.specs.declared.state.Plain.{Plain}
use Rattle.command_set.specs.declared.state.Session.{Session}
use Rattle.core_state.proofs.Answered.{within}
use Rattle.core_state.proofs.Lists.{read_found, read_there}
use Rattle.core_state.specs.Facts.{IsSound, LocksAreSound}
use Rattle.core_state.specs.Stands.{SessionStands, Stands}
use Rattle.core_state.specs.State.{CoreState, nobody}
use Rattle.core_state.specs.declared.seat.Seat.{Seat}
use Rattle.core_state.specs.declared.seat.State.{State}
use Rattle.core_looks.specs.Due.{claim_of, claimer_of}
use Rattle.command_set.specs.declared.state.Session.TheVariants as plain
use Rattle.core_state.specs.declared.seat.State.TheVariants as states

-- the number that a search finds
abbrev pub first_number : {X : Type 0} → (ℕ × X → Bool) → ℕ → List X → Option ℕ
first_number test n xs = option_map (λ (k, x). k) (find test (enumerate_from n xs))

cond_number : {X : Type 0} (b : Bool) (n : ℕ) (x : X) (o : Option (ℕ × X)) → option_map (λ (k, y). k) (cond b (Some (n, x)) o) ≡ cond b (Some n) (option_map (λ (k, y). k) o)
cond_number true n x o = refl
cond_number false n x o = refl

-- two lists of one length whose tests answer the same at each place find the same number
pub numbers_same : {X Y : Type 0} (p : ℕ × X → Bool) (q : ℕ × Y → Bool) (n : ℕ) (xs : List X) (ys : List Y) → length xs ≡ length ys
    → ((i : ℕ) (x : X) (y : Y) → slice_get xs i ≡ Some x → slice_get ys i ≡ Some y → p (n + i, x) ≡ q (n + i, y)) → first_number p n xs ≡ first_number q n ys
numbers_same p q n [] [] long same = refl
numbers_same p q n [] (y ∷ ys) long same = absurd (omega (arith, long))
numbers_same p q n (x ∷ xs) [] long same = absurd (omega (arith, long))
numbers_same p q n (x ∷ xs) (y ∷ ys) long same =
    let at : n + 0 ≡ n = omega arith in
    let here : p (n, x) ≡ q (n, y) = subst (λ (k : ℕ). p (k, x) ≡ q (k, y)) at (same 0 x y refl refl) in
    let rest = numbers_same p q (n + 1) xs ys (omega (arith, long)) (λ i x' y' e f. subst (λ (k : ℕ). p (k, x') ≡ q (k, y')) (omega arith) (same (suc i) x' y' e f)) in
    cond_number (p (n, x)) n x (find p (enumerate_from (n + 1) xs))
    ∙ ap (λ (b : Bool). cond b (Some n) (first_number p (n + 1) xs)) here
    ∙ ap (cond (q (n, y)) (Some n)) rest
    ∙ sym (cond_number (q (n, y)) n y (find q (enumerate_from (n + 1) ys)))

-- a session has changed a place exactly where it has claimed it
changed_is : (c : CoreState) (m : Plain) (held : SessionLocks) (seat : Seat) (state : State) (session : Session) (p : Place) → LocksAreSound held state → SessionStands c.xacts c.snaps held c.log.entries c.tables m.latest seat state session
    → has_changed session p ≡ holds_row held.rows (claim_of p.table p.key)
changed_is c m held seat states.Outside plain.Outside p locks stands = sym (ap (λ (its : SessionLocks). holds_row its.rows (claim_of p.table p.key)) (locks.outside refl))
changed_is c m held seat states.Outside plain.Failed p locks stands = absurd stands
changed_is c m held seat states.Outside (plain.Open t) p locks stands = absurd stands
changed_is c m held seat states.Failed plain.Outside p locks stands = absurd stands
changed_is c m held seat states.Failed plain.Failed p locks stands = sym (ap (λ (its : SessionLocks). holds_row its.rows (claim_of p.table p.key)) (locks.outside refl))
changed_is c m held seat states.Failed (plain.Open t) p locks stands = absurd stands
changed_is c m held seat (states.Open level xid snapshot) plain.Outside p locks stands = absurd stands
changed_is c m held seat (states.Open level xid snapshot) plain.Failed p locks stands = absurd stands
changed_is c m held seat (states.Open level xid snapshot) (plain.Open t) p locks stands = stands.claimed p

pub claimed_is : (c : CoreState) (m : Plain) (replies : List (Option Reply)) (i : ℕ) (session : Session) (p : Place) → IsSound c → Stands c m replies → slice_get m.sessions i ≡ Some session → has_changed session p ≡ holds_row (held_by c.locks (suc i)).rows (claim_of p.table p.key)
claimed_is c m replies i session p sound stands at =
    let low = within m.sessions i session at in
    let count = stands.count in
    let there = read_there c.seats i nobody (omega (arith, low, count)) in
    let seat = slice_index_or c.seats i nobody in
    changed_is c m (held_by c.locks (suc i)) seat seat.state session p (sound.each i seat there).locks (stands.sessions i seat session there at)

-- what is held at the places of the locks
pub claimer_is : (c : CoreState) (m : Plain) (replies : List (Option Reply)) (s : ℕ) (new : Session) (p : Place) → 1 ≤ s → IsSound c → Stands c m replies → changer_of (with_session m s new) s p ≡ claimer_of c.locks s (claim_of p.table p.key)
claimer_is c m replies s new p low sound stands = by c.locks refl
  where
    row : RowKey
    row = claim_of p.table p.key

    none_first : (b : Bool) (held : SessionLocks) → held ≡ nothing → (not b && holds_row held.rows row) ≡ false
    none_first true held e = refl
    none_first false held e = ap (λ (its : SessionLocks). holds_row its.rows row) e

    by_test : (b : Bool) (x y : Bool) → (b ≡ false → x ≡ y) → (not b && x) ≡ (not b && y)
    by_test true x y same = refl
    by_test false x y same = same refl

    by : (locks : List SessionLocks) → c.locks ≡ locks → changer_of (with_session m s new) s p ≡ claimer_of locks s row
    by [] is =
        let places = sound.places in
        let none : length c.locks ≡ 0 = ap length is in
        absurd (omega (arith, places, none))
    by (first ∷ rest) is =
        let nobody_holds : first ≡ nothing = ap (λ (locks : List SessionLocks). held_by locks 0) (sym is) ∙ sound.apart.nobody in
        let places = sound.places in
        let whole : length c.locks ≡ suc (length rest) = ap length is in
        let count = stands.count in
        let set = length-set m.sessions (s - 1) new in
        numbers_same (λ (n, session). not (n == s) && has_changed session p) (λ (n, held). not (n == s) && holds_row held.rows row) 1 (slice_set m.sessions (s - 1) new) rest (omega (arith, places, whole, count, set)) (each first rest is)
        ∙ sym (ap (λ (b : Bool). option_map (λ (k, held). k) (cond b (Some (0, first)) (find (λ (n, held). not (n == s) && holds_row held.rows row) (enumerate_from 1 rest)))) (none_first (0 == s) first nobody_holds))
      where
        each : (head : SessionLocks) (tail : List SessionLocks) → c.locks ≡ head ∷ tail → (i : ℕ) (session : Session) (held : SessionLocks) → slice_get (slice_set m.sessions (s - 1) new) i ≡ Some session → slice_get tail i ≡ Some held
            → (not (1 + i == s) && has_changed session p) ≡ (not (1 + i == s) && holds_row held.rows row)
        each head tail same i session held at at_held =
            by_test (1 + i == s) (has_changed session p) (holds_row held.rows row)
            (λ e.
            let apart : 1 + i ≢ s = grind (arith, nat_tests, e) in
            let other : i ≢ s - 1 = λ f. apart (omega (arith, f, low)) in
            let was : slice_get m.sessions i ≡ Some session = sym (get_set_other m.sessions (s - 1) i new other) ∙ at in
            let its : held_by c.locks (suc i) ≡ held = ap (λ (locks : List SessionLocks). held_by locks (suc i)) same ∙ read_found tail i held nothing at_held in
            claimed_is c m replies i session p sound stands was ∙ ap (λ (h : SessionLocks). holds_row h.rows row) its)
