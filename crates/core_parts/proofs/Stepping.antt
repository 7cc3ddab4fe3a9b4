-- What is lent for a step past a moment, and that it may be made.
use Rattle.std.proofs.Common.{ap, arith, inl, inr, refl, subst, sym, ◌∙◌}
use Rattle.std.specs.Prelude.{List, Option, Some, length, map, option_to_list, slice_get, slice_index_or, slice_set, suc, zero, ℕ, ◌++◌, ◌-◌, ◌<◌, ◌≡◌}
use Rattle.lock_table.specs.Locks.{held_by}
use Rattle.table_state.specs.declared.table.Table.{Table}
use Rattle.toast_store.specs.Stores.{Store}
use Rattle.core_state.proofs.Ended.{job_there, uses_most}
use Rattle.core_state.proofs.Lists.{read_found, read_there}
use Rattle.core_state.proofs.Seats.{place_within, seat_there, sound_of}
use Rattle.core_state.specs.Lines.{after_failing}
use Rattle.list_facts.proofs.Changed.{set_same}
use Rattle.value_ids.specs.declared.fault.DrawFault.TheVariants.{NoValueId}
use Rattle.core_state.specs.Facts.{IsSound, JobIsSound}
use Rattle.core_state.specs.State.{CoreState, IsSession, IsTableOf, job_snapshot, job_table, no_table, nobody, seat_of, snapshot_of, table_at, uses_of}
use Rattle.core_state.specs.declared.advance.Advance.{Advance}
use Rattle.core_state.specs.declared.seat.Handle.{Handle}
use Rattle.core_state.specs.declared.seat.Job.{Job}
use Rattle.core_state.specs.declared.seat.Seat.{Seat}
use Rattle.core_parts.proofs.Uses.{can_first, can_skip}
use Rattle.core_parts.specs.Ends.{CanRelease}
use Rattle.core_parts.specs.Later.{IsStepMade, StepsBy, given_back, lent_at}
use Rattle.core_parts.specs.Steps.{CanGoOn, IsStepCause, Lent, Steps, lent_of}
use Rattle.command_set.specs.declared.Reply.TheVariants as replies
use Rattle.core_state.specs.declared.advance.Advance.TheVariants as advances
use Rattle.core_state.specs.declared.seat.Job.TheVariants as jobs

-- ---- what is lent

-- an item that was lent is the one at its place, whatever stands past the end
pub lent_item : {T : Type 0} (xs : List T) (i : ℕ) (x d : T) → i < length xs → x ≡ slice_index_or xs i x → x ≡ slice_index_or xs i d
lent_item xs i x d within is =
    let there = read_there xs i x within in
    is ∙ sym (read_found xs i (slice_index_or xs i x) d there)

pub lent_seat : (c : CoreState) (s at : ℕ) (seat : Seat) → IsSession c.seats s → at ≡ s - 1 → seat ≡ slice_index_or c.seats at seat → seat ≡ seat_of c s
lent_seat c s at seat there at_is is =
    lent_item c.seats (s - 1) seat nobody (place_within c.seats s there) (is ∙ ap (λ (n : ℕ). slice_index_or c.seats n seat) at_is)

table_number : (tables : List Table) (t : ℕ) → IsTableOf tables t → table_at tables t ≡ slice_index_or tables (t - 1) no_table
table_number tables zero there = absurd (omega (arith, there.from_one))
table_number tables (suc t) there =
    let same : t ≡ suc t - 1 = omega arith in
    ap (λ (n : ℕ). slice_index_or tables n no_table) same

pub lent_table : (tables : List Table) (t at : ℕ) (table : Table) → IsTableOf tables t → at ≡ t - 1 → table ≡ slice_index_or tables at table → table ≡ table_at tables t
lent_table tables t at table there at_is is =
    let low = there.from_one in
    let high = there.within in
    lent_item tables (t - 1) table no_table (omega (arith, low, high)) (is ∙ ap (λ (n : ℕ). slice_index_or tables n table) at_is) ∙ sym (table_number tables t there)

-- ---- that the step may be made

-- the table of a seat that was lent is there
pub its_table : (c : CoreState) (s t : ℕ) (seat : Seat) (o : Option ℕ) → IsSession c.seats s → IsSound c → seat ≡ seat_of c s → o ≡ job_table seat.job → o ≡ Some t → IsTableOf c.tables t
its_table c s t seat o there sound is o_is some = job_there c s there sound t (ap (λ (x : Seat). job_table x.job) (sym is) ∙ sym o_is ∙ some)

can_go : (c : CoreState) (s t : ℕ) (job : Job) → IsSession c.seats s → IsSound c → (seat_of c s).job ≡ job → job_table job ≡ Some t
    → JobIsSound c.xacts c.snaps c.ids (held_by c.locks s) c.tables s (seat_of c s) job → CanGoOn (lent_at c s t) job
can_go c s t jobs.Idle there sound is some job = absurd (cc)
can_go c s t (jobs.Submitted command) there sound is some job = absurd (cc)
can_go c s t (jobs.Reading table snapshot read) there sound is some job =
    let same : table ≡ t = cc in
    let uses : CanRelease c.snaps (uses_of (seat_of c s)) = record { each = uses_most c s there sound } in
    let rest = can_skip c.snaps (option_to_list (snapshot_of (seat_of c s).state)) (option_to_list (job_snapshot (seat_of c s).job) ++ map (λ (h : Handle). h.snapshot) (seat_of c s).handles) uses in
    let mine = can_first c.snaps (option_to_list (job_snapshot (seat_of c s).job)) (map (λ (h : Handle). h.snapshot) (seat_of c s).handles) rest in
    subst (λ (n : ℕ). CanGoOn (lent_at c s n) (jobs.Reading table snapshot read)) same (record {
      can = job.1.can;
      comes = job.1.comes;
      releases = subst (λ (j : Job). CanRelease c.snaps (option_to_list (job_snapshot j))) is mine;
    })
can_go c s t (jobs.Writing table write) there sound is some job =
    let same : table ≡ t = cc in
    subst (λ (n : ℕ). CanGoOn (lent_at c s n) (jobs.Writing table write)) same (job.1.stands c.log)

pub can_go_on : (c : CoreState) (s t : ℕ) (seat : Seat) (table : Table) (o : Option ℕ) → IsSession c.seats s → IsSound c → seat ≡ seat_of c s → o ≡ job_table seat.job → o ≡ Some t → table ≡ table_at c.tables t
    → CanGoOn (lent_of seat table c.ids c.snaps c.log) seat.job
can_go_on c s t seat table o there sound seat_is o_is some table_is =
    let here = can_go c s t (seat_of c s).job there sound refl (ap (λ (x : Seat). job_table x.job) (sym seat_is) ∙ sym o_is ∙ some) (sound_of c s there sound).job in
    let by_seat = subst (λ (x : Seat). CanGoOn (lent_of x (table_at c.tables t) c.ids c.snaps c.log) x.job) (sym seat_is) here in
    subst (λ (x : Table). CanGoOn (lent_of seat x c.ids c.snaps c.log) seat.job) (sym table_is) by_seat

-- ---- what it makes of the core

pub step_made : (c : CoreState) (s t : ℕ) (seat : Seat) (table : Table) (o : Option ℕ) (lent : Lent) (new : CoreState) (advance : Advance) → seat ≡ seat_of c s → o ≡ job_table seat.job → o ≡ Some t → table ≡ table_at c.tables t
    → Steps (lent_of seat table c.ids c.snaps c.log) s lent advance → new ≡ given_back c s t lent → IsStepMade c s new advance
step_made c s t seat table o lent new advance seat_is o_is some table_is steps is =
    let by_seat = subst (λ (x : Seat). Steps (lent_of x table c.ids c.snaps c.log) s lent advance) seat_is steps in
    let by_table = subst (λ (x : Table). Steps (lent_of (seat_of c s) x c.ids c.snaps c.log) s lent advance) table_is by_seat in
    let which = ap (λ (x : Seat). job_table x.job) (sym seat_is) ∙ sym o_is ∙ some in
    record { by = subst (λ (x : Option ℕ). StepsBy x c s new advance) (sym which) (inl (record { lent = lent; steps = by_table; is = is })) }

-- ---- what was lent, given back

pub given_at : (c : CoreState) (s t k at : ℕ) (lent : Lent) → k ≡ t - 1 → at ≡ s - 1
    → ◌≡◌ {A = CoreState} (record c { ids = lent.ids; snaps = lent.snaps; log = lent.log; tables = slice_set c.tables k lent.table; seats = slice_set c.seats at lent.seat }) (given_back c s t lent)
given_at c s t k at lent k_is at_is = rw (k_is, at_is) refl

table_there : (tables : List Table) (t : ℕ) → IsTableOf tables t → slice_get tables (t - 1) ≡ Some (table_at tables t)
table_there tables t there =
    let low = there.from_one in
    let high = there.within in
    read_there tables (t - 1) no_table (omega (arith, low, high)) ∙ ap Some (sym (table_number tables t there))

-- as it was
pub back_same : (c : CoreState) (s t k at : ℕ) (lent : Lent) → IsSession c.seats s → IsTableOf c.tables t → k ≡ t - 1 → at ≡ s - 1 → lent ≡ lent_at c s t
    → ◌≡◌ {A = CoreState} (record c { ids = lent.ids; snaps = lent.snaps; log = lent.log; tables = slice_set c.tables k lent.table; seats = slice_set c.seats at lent.seat }) c
back_same c s t k at lent there is_table k_is at_is is = given_at c s t k at lent k_is at_is ∙ ap (given_back c s t) is
    ∙ ap (λ (tables : List Table). record c { tables = tables; seats = slice_set c.seats (s - 1) (seat_of c s) }) (set_same c.tables (t - 1) (table_at c.tables t) (table_there c.tables t is_table))
    ∙ ap (λ (seats : List Seat). record c { seats = seats }) (set_same c.seats (s - 1) (seat_of c s) (seat_there c.seats s there))

pub same_lent : (c : CoreState) (s t : ℕ) (seat : Seat) (table : Table) (lent : Lent) → seat ≡ seat_of c s → table ≡ table_at c.tables t → lent ≡ lent_of seat table c.ids c.snaps c.log → lent ≡ lent_at c s t
same_lent c s t seat table lent seat_is table_is is = is ∙ ap (λ (x : Seat). lent_of x table c.ids c.snaps c.log) seat_is ∙ ap (λ (x : Table). lent_of (seat_of c s) x c.ids c.snaps c.log) table_is

-- a draw that is refused
pub step_refused : (c : CoreState) (s t : ℕ) (seat : Seat) (table : Table) (o : Option ℕ) (in_use : ℕ) (new : CoreState) (advance : Advance) → seat ≡ seat_of c s → o ≡ job_table seat.job → o ≡ Some t → table ≡ table_at c.tables t
    → IsStepCause (lent_of seat table c.ids c.snaps c.log) seat.job (NoValueId in_use) → new ≡ after_failing c s → advance ≡ advances.Done replies.NoValueId → IsStepMade c s new advance
step_refused c s t seat table o in_use new advance seat_is o_is some table_is cause is told =
    let by_seat = subst (λ (x : Seat). IsStepCause (lent_of x table c.ids c.snaps c.log) x.job (NoValueId in_use)) seat_is cause in
    let by_table = subst (λ (x : Table). IsStepCause (lent_of (seat_of c s) x c.ids c.snaps c.log) (seat_of c s).job (NoValueId in_use)) table_is by_seat in
    let which = ap (λ (x : Seat). job_table x.job) (sym seat_is) ∙ sym o_is ∙ some in
    record { by = subst (λ (x : Option ℕ). StepsBy x c s new advance) (sym which) (inr (record { in_use = in_use; cause = by_table; is = is; told = told })) }

-- of a core that is named otherwise
pub made_of : (c old : CoreState) (s : ℕ) (new : CoreState) (advance : Advance) → c ≡ old → IsStepMade c s new advance → IsStepMade old s new advance
made_of c old s new advance same made = subst (λ (v : CoreState). IsStepMade v s new advance) same made

-- a table whose values out of line stay
pub table_same : (c : CoreState) (t k : ℕ) (table : Table) (toast : Store) → IsTableOf c.tables t → k ≡ t - 1 → table ≡ table_at c.tables t → toast ≡ table.toast
    → ◌≡◌ {A = CoreState} (record c { tables = slice_set c.tables k (record table { toast = toast }) }) c
table_same c t k table toast is_table k_is table_is is =
    ap (λ (x : Store). record c { tables = slice_set c.tables k (record table { toast = x }) }) is
    ∙ ap (λ (n : ℕ). record c { tables = slice_set c.tables n table }) k_is
    ∙ ap (λ (x : Table). record c { tables = slice_set c.tables (t - 1) x }) table_is
    ∙ ap (λ (tables : List Table). record c { tables = tables }) (set_same c.tables (t - 1) (table_at c.tables t) (table_there c.tables t is_table))
