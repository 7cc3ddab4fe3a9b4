-- A commit carries the columns of its changes over to the committed rows, and leaves what is told of the rows of other sessions.
use Rattle.std.proofs.Common.{ap, arith, inl, inr, refl, subst, sym, ◌∙◌}
use Rattle.std.proofs.lemmas.Bool.{cases_Bool}
use Rattle.std.specs.Option.{option_map_or, option_or, unwrap_or}
use Rattle.std.specs.Prelude.{Bool, Contains, List, None, Option, Some, [], false, if◌then◌else◌, is_some, map as mapped, option_to_list, slice_get, slice_index_or, suc, true, ℕ, ◌-◌, ◌||◌, ◌∷◌, ◌≡◌, ◌≢◌}
use Rattle.list_facts.proofs.Changed.{after_set}
use Rattle.list_facts.proofs.Members.{first_in}
use Rattle.tuple_layout.specs.Places.{same_place}
use Rattle.tuple_layout.specs.declared.Place.{Place}
use Rattle.tuple_layout.specs.declared.cell.Stored.{Stored}
use Rattle.xact_status.specs.Versions.{counts_for}
use Rattle.xact_status.specs.Xacts.{Xacts, after_commit, is_committed, is_running}
use Rattle.row_versions.specs.Relations.{Relation}
use Rattle.lock_table.specs.Held.{holds_row}
use Rattle.lock_table.specs.Locks.{held_by}
use Rattle.command_set.proofs.Named.{named_append}
use Rattle.command_set.specs.Changes.{is_named, keys_of, place, places_of}
use Rattle.command_set.specs.declared.state.Change.{Change}
use Rattle.command_set.specs.declared.state.Change.TheVariants.{Insert, Move, Remove, Update}
use Rattle.table_rows.proofs.Records.{moments_tell}
use Rattle.table_rows.specs.Worlds.{tuple_in}
use Rattle.table_state.specs.Cells.{cells_in}
use Rattle.table_state.specs.declared.table.Table.{Table}
use Rattle.core_state.proofs.Answered.{within}
use Rattle.core_state.proofs.Ended.{job_there, once_unpins}
use Rattle.core_state.proofs.Lists.{in_append_right, read_found}
use Rattle.core_state.proofs.Pins.{rows_unpinned}
use Rattle.core_state.proofs.Seats.{number_at, seat_there, seat_written, sound_of}
use Rattle.core_state.specs.Coming.{keys_left, new_left, old_left, to_push}
use Rattle.core_state.specs.Facts.{IsSound, JobIsSound}
use Rattle.core_state.specs.Lines.{after_commit_of, once_committed, once_unpinned}
use Rattle.core_state.specs.Moves.{OthersStay}
use Rattle.core_state.specs.State.{CoreState, IsSession, is_open, job_table, nobody, seat_of, table_at, xid_of}
use Rattle.core_state.specs.declared.seat.Job.{Job}
use Rattle.core_state.specs.declared.seat.Seat.{Seat}
use Rattle.core_looks.proofs.Sights.{untouched}
use Rattle.core_looks.specs.Due.{claim_of}
use Rattle.change_stream.specs.Streams.{last_out, outs_with, puts_at}
use Rattle.change_stream.specs.declared.written.Written.{Written}
use Rattle.core_outs.proofs.Frames.{closed_out, out_then}
use Rattle.core_outs.specs.Outs.{AreOut, AreOutIn, OutsStand, PutsOut, SeatOuts, WillBeOut, is_put_at, put_place}
use Rattle.core_state.specs.declared.seat.Job.TheVariants as jobs
use Rattle.core_state.specs.declared.seat.State.TheVariants as states

-- ---- the places that are written

abbrev pub changes_written : List Written → List Change
changes_written ws = mapped (λ w. w.change) ws

left_false : (a b : Bool) → (a || b) ≡ false → a ≡ false
left_false true b e = absurd (cc)
left_false false b e = refl

right_false : (a b : Bool) → (a || b) ≡ false → b ≡ false
right_false true b e = absurd (cc)
right_false false b e = e

-- a change puts no row at a place that it does not name
unnamed_puts : (change : Change) (p : Place) → is_named (places_of change) p ≡ false → puts_at change p ≡ false
unnamed_puts (Insert t k row) p e = left_false (same_place p (place t k)) false e
unnamed_puts (Update t k row) p e = left_false (same_place p (place t k)) false e
unnamed_puts (Move t from to row) p e = left_false (same_place p (place t to)) false (right_false (same_place p (place t from)) (same_place p (place t to) || false) e)
unnamed_puts (Remove t k) p e = refl

-- so no change tells of a place that none names
pub unnamed_out : (ws : List Written) (p : Place) → is_named (keys_of (changes_written ws)) p ≡ false → last_out ws p ≡ None
unnamed_out [] p e = refl
unnamed_out (w ∷ ws) p e =
    let both = sym (named_append (places_of w.change) (keys_of (changes_written ws)) p) ∙ e in
    let rest = unnamed_out ws p (right_false (is_named (places_of w.change) p) (is_named (keys_of (changes_written ws)) p) both) in
    let here = unnamed_puts w.change p (left_false (is_named (places_of w.change) p) (is_named (keys_of (changes_written ws)) p) both) in
    ap (λ (o : Option (List ℕ)). option_or o (if puts_at w.change p then Some w.out else None)) rest ∙ ap (λ (b : Bool). if b then Some w.out else None) here

-- what an open session's changes name is what it claims
pub record AreClaimed (c : CoreState) (written : ℕ → List Written) : Type 0 where
  pub each : (i : ℕ) (seat : Seat) → slice_get c.seats i ≡ Some seat → is_open seat.state ≡ true → (p : Place) → is_named (keys_of (changes_written (written (suc i)))) p ≡ holds_row (held_by c.locks (suc i)).rows (claim_of p.table p.key)

-- ---- the commit

-- the session that commits, with its xid
pub record CommitsOut (c : CoreState) (s x : ℕ) (outs : Place → List ℕ) (written : ℕ → List Written) : Type 0 where
  pub there : IsSession c.seats s
  pub sound : IsSound c
  pub mine : xid_of (seat_of c s).state ≡ Some x
  pub opened : is_open (seat_of c s).state ≡ true
  pub none : put_place (seat_of c s).job ≡ None
  pub claimed : AreClaimed c written
  pub old : OutsStand c outs written

runs_at : (c : CoreState) (s x : ℕ) (outs : Place → List ℕ) (written : ℕ → List Written) → CommitsOut c s x outs written → is_running c.xacts x ≡ true
runs_at c s x outs written at = ap is_some ((sound_of c s at.there at.sound).runs x at.mine)

-- what it claims, by what its changes name
claims_at : (c : CoreState) (s x : ℕ) (outs : Place → List ℕ) (written : ℕ → List Written) (p : Place) → CommitsOut c s x outs written → is_named (keys_of (changes_written (written s))) p ≡ holds_row (held_by c.locks s).rows (claim_of p.table p.key)
claims_at c s x outs written p at =
    subst (λ (n : ℕ). is_named (keys_of (changes_written (written n))) p ≡ holds_row (held_by c.locks n).rows (claim_of p.table p.key)) (number_at s at.there.from_one)
    (at.claimed.each (s - 1) (seat_of c s) (seat_there c.seats s at.there) at.opened p)

-- what is told of its own rows
own_at : (c : CoreState) (s x : ℕ) (outs : Place → List ℕ) (written : ℕ → List Written) → CommitsOut c s x outs written → AreOutIn c.tables (counts_for c.xacts (Some x)) (outs_with outs (written s)) (λ p. false)
own_at c s x outs written at =
    let was : SeatOuts c.xacts c.tables (outs_with outs (written s)) (seat_of c s) = subst (λ (n : ℕ). SeatOuts c.xacts c.tables (outs_with outs (written n)) (seat_of c s)) (number_at s at.there.from_one) (at.old.each (s - 1) (seat_of c s) (seat_there c.seats s at.there)) in
    let now = subst (λ (o : Option ℕ). AreOutIn c.tables (counts_for c.xacts o) (outs_with outs (written s)) (is_put_at (seat_of c s).job)) at.mine (was.now at.opened) in
    record { each = λ p bytes e there. now.each p bytes (ap (λ (o : Option Place). option_map_or (λ q. same_place q p) o false) at.none) there }

-- the tables then have the rows that they had
rows_then : (c : CoreState) (s t : ℕ) → IsSession c.seats s → IsSound c → (table_at (after_commit_of c s).tables t).rows ≡ (table_at c.tables t).rows
rows_then c s t there sound = rows_unpinned c.tables (once_unpinned c.tables s (job_table (seat_of c s).job)) s t (once_unpins c.tables s (job_table (seat_of c s).job) (job_there c s there sound))

-- what the session has not claimed its changes do not tell
untold : (c : CoreState) (s x : ℕ) (outs : Place → List ℕ) (written : ℕ → List Written) (p : Place) → CommitsOut c s x outs written → holds_row (held_by c.locks s).rows (claim_of p.table p.key) ≡ false → outs_with outs (written s) p ≡ outs p
untold c s x outs written p at free = ap (λ (o : Option (List ℕ)). unwrap_or o (outs p)) (unnamed_out (written s) p (claims_at c s x outs written p at ∙ free))

-- another session
other_out : (c : CoreState) (s x : ℕ) (outs : Place → List ℕ) (written : ℕ → List Written) (i : ℕ) (seat : Seat) → CommitsOut c s x outs written → suc i ≢ s → slice_get c.seats i ≡ Some seat
    → SeatOuts (after_commit c.xacts x) (after_commit_of c s).tables (outs_with (outs_with outs (written s)) (written (suc i))) seat
other_out c s x outs written i seat at differ at_seat = record {
  now = λ opened. record { each = λ p bytes e there. by (xid_of seat.state) refl opened p bytes e there };
  coming = puts seat.job refl was.coming;
}
  where
    was : SeatOuts c.xacts c.tables (outs_with outs (written (suc i))) seat
    was = at.old.each i seat at_seat

    later : List Table
    later = (after_commit_of c s).tables

    -- a place that it claims the other has not written
    kept : (p : Place) → holds_row (held_by c.locks (suc i)).rows (claim_of p.table p.key) ≡ true → outs_with (outs_with outs (written s)) (written (suc i)) p ≡ outs_with outs (written (suc i)) p
    kept p claimed = ap (λ (columns : List ℕ). unwrap_or (last_out (written (suc i)) p) columns) (untold c s x outs written p at (at.sound.apart.claims (suc i) s (claim_of p.table p.key) differ claimed))

    here : (p : Place) (bytes : List ℕ) (counts after : ℕ → Bool) → tuple_in after (table_at c.tables p.table).rows.pages p.key ≡ tuple_in counts (table_at c.tables p.table).rows.pages p.key
        → tuple_in after (table_at later p.table).rows.pages p.key ≡ Some bytes → tuple_in counts (table_at c.tables p.table).rows.pages p.key ≡ Some bytes
    here p bytes counts after same there = sym same ∙ subst (λ (rows : Relation). tuple_in after rows.pages p.key ≡ Some bytes) (rows_then c s p.table at.there at.sound) there

    out_in : (p : Place) (bytes : List ℕ) (columns told : List ℕ) → told ≡ columns → AreOut columns (cells_in (table_at c.tables p.table).rows.schema.storages bytes) → AreOut told (cells_in (table_at later p.table).rows.schema.storages bytes)
    out_in p bytes columns told same out =
        subst (λ (its : List ℕ). AreOut its (cells_in (table_at later p.table).rows.schema.storages bytes)) (sym same)
        (subst (λ (rows : Relation). AreOut columns (cells_in rows.schema.storages bytes)) (sym (rows_then c s p.table at.there at.sound)) out)

    -- at a place that it does not claim it sees what the other has, and tells nothing of it
    followed : (p : Place) (bytes : List ℕ) (own : Option ℕ) → is_open seat.state ≡ true → holds_row (held_by c.locks (suc i)).rows (claim_of p.table p.key) ≡ false
        → tuple_in (counts_for (after_commit c.xacts x) own) (table_at c.tables p.table).rows.pages p.key ≡ tuple_in (counts_for c.xacts (Some x)) (table_at c.tables p.table).rows.pages p.key
        → tuple_in (counts_for (after_commit c.xacts x) own) (table_at later p.table).rows.pages p.key ≡ Some bytes → AreOut (outs_with (outs_with outs (written s)) (written (suc i)) p) (cells_in (table_at later p.table).rows.schema.storages bytes)
    followed p bytes own opened free same there =
        let none = unnamed_out (written (suc i)) p (at.claimed.each i seat at_seat opened p ∙ free) in
        out_in p bytes (outs_with outs (written s) p) (outs_with (outs_with outs (written s)) (written (suc i)) p) (ap (λ (o : Option (List ℕ)). unwrap_or o (outs_with outs (written s) p)) none)
        ((own_at c s x outs written at).each p bytes refl (here p bytes (counts_for c.xacts (Some x)) (counts_for (after_commit c.xacts x) own) same there))

    seat_is : seat_of c (suc i) ≡ seat
    seat_is =
        let place : suc i - 1 ≡ i = omega arith in
        ap (λ (k : ℕ). slice_index_or c.seats k nobody) place ∙ read_found c.seats i seat nobody at_seat

    there_is : IsSession c.seats (suc i)
    there_is =
        let low = within c.seats i seat at_seat in
        record { from_one = omega arith; within = omega (arith, low) }

    by : (own : Option ℕ) → xid_of seat.state ≡ own → is_open seat.state ≡ true → (p : Place) (bytes : List ℕ) → is_put_at seat.job p ≡ false → tuple_in (counts_for (after_commit c.xacts x) (xid_of seat.state)) (table_at later p.table).rows.pages p.key ≡ Some bytes
        → AreOut (outs_with (outs_with outs (written s)) (written (suc i)) p) (cells_in (table_at later p.table).rows.schema.storages bytes)
    by None none opened p bytes e there =
        let free = (at.sound.each i seat at_seat).locks.unclaimed (claim_of p.table p.key) none in
        followed p bytes None opened free (moments_tell.latest_at_commit c.xacts x (table_at c.tables p.table).rows.pages p.key (runs_at c s x outs written at))
        (subst (λ (o : Option ℕ). tuple_in (counts_for (after_commit c.xacts x) o) (table_at later p.table).rows.pages p.key ≡ Some bytes) none there)
    by (Some y) its opened p bytes e there =
        let found = subst (λ (o : Option ℕ). tuple_in (counts_for (after_commit c.xacts x) o) (table_at later p.table).rows.pages p.key ≡ Some bytes) its there in
        elim (cases_Bool (holds_row (held_by c.locks (suc i)).rows (claim_of p.table p.key))) [
          | inl claimed ↦
              let unclaimed = at.sound.apart.claims (suc i) s (claim_of p.table p.key) differ claimed in
              let alone = untouched c s p.table x p.key at.there at.sound at.mine unclaimed in
              let same = moments_tell.own_at_commit c.xacts x y (table_at c.tables p.table).rows.pages p.key (runs_at c s x outs written at) alone in
              let before = here p bytes (counts_for c.xacts (Some y)) (counts_for (after_commit c.xacts x) (Some y)) same found in
              out_in p bytes (outs_with outs (written (suc i)) p) (outs_with (outs_with outs (written s)) (written (suc i)) p) (kept p claimed)
              ((was.now opened).each p bytes e (subst (λ (o : Option ℕ). tuple_in (counts_for c.xacts o) (table_at c.tables p.table).rows.pages p.key ≡ Some bytes) (sym its) before))
          | inr free ↦
              let alone = untouched c (suc i) p.table y p.key there_is at.sound (ap (λ (one : Seat). xid_of one.state) seat_is ∙ its) free in
              followed p bytes (Some y) opened free (moments_tell.own_follows_commit c.xacts x y (table_at c.tables p.table).rows.pages p.key (runs_at c s x outs written at) alone) found
        ]

    -- the row that it is still to put lies at a place that it claims
    puts : (job : Job) → seat.job ≡ job → PutsOut (outs_with outs (written (suc i))) job → PutsOut (outs_with (outs_with outs (written s)) (written (suc i))) job
    puts jobs.Idle is old = tt
    puts (jobs.Submitted command) is old = tt
    puts (jobs.Reading t snapshot read) is old = tt
    puts (jobs.Writing t write) is old = λ new e.
        let job : JobIsSound c.xacts c.snaps c.ids (held_by c.locks (suc i)) c.tables (suc i) seat (jobs.Writing t write) = subst (λ (its : Job). JobIsSound c.xacts c.snaps c.ids (held_by c.locks (suc i)) c.tables (suc i) seat its) is (at.sound.each i seat at_seat).job in
        let key : Contains (keys_left write.stage) new.key = in_append_right (mapped (λ old. old.stored.key) (option_to_list (old_left write.stage))) (mapped (λ row. row.key) (option_to_list (new_left write.stage))) new.key
        (subst (λ (o : Option Stored). Contains (mapped (λ row. row.key) (option_to_list o)) new.key) (sym e) (first_in new.key [] new.key refl)) in
        subst (λ (columns : List ℕ). WillBeOut columns new.cells (to_push write.stage)) (sym (kept (place t new.key) (job.1.own.claimed new.key key))) (old new e)

-- where the session has an xid
pub outs_committed_with : (c : CoreState) (s x : ℕ) (outs : Place → List ℕ) (written later : ℕ → List Written) → CommitsOut c s x outs written → OthersStay c s (after_commit_of c s) → ((k : ℕ) → k ≢ s → later k ≡ written k)
    → OutsStand (after_commit_of c s) (outs_with outs (written s)) later
outs_committed_with c s x outs written later at others same =
    subst (λ (xacts : Xacts). OutsStand (record (after_commit_of c s) { xacts = xacts }) (outs_with outs (written s)) later) (sym (ap (once_committed c.xacts) at.mine)) made
  where
    v : CoreState
    v = record (after_commit_of c s) { xacts = after_commit c.xacts x }

    seat : seat_of v s ≡ record { state = states.Outside; handles = []; job = jobs.Idle }
    seat = seat_written c.seats s (record { state = states.Outside; handles = []; job = jobs.Idle }) at.there

    made : OutsStand v (outs_with outs (written s)) later
    made = record {
      latest = out_then c.tables v.tables (counts_for c.xacts (Some x)) (is_committed (after_commit c.xacts x)) (outs_with outs (written s)) (outs_with outs (written s)) (λ p. false) (λ p. false)
          (record { rows = λ t. rows_then c s t at.there at.sound; world = λ p. moments_tell.latest_at_commit c.xacts x (table_at c.tables p.table).rows.pages p.key (runs_at c s x outs written at) }) (λ p e. (refl, refl))
          (own_at c s x outs written at);
      each = λ i one at_one. elim (after_set c.seats (s - 1) (record { state = states.Outside; handles = []; job = jobs.Idle }) i one at_one) [
        | inl h ↦ subst (λ (its : Seat). SeatOuts v.xacts v.tables (outs_with (outs_with outs (written s)) (later (suc i))) its) (sym h.1) (closed_out v.xacts v.tables (outs_with (outs_with outs (written s)) (later (suc i))) (record { state = states.Outside; handles = []; job = jobs.Idle }) refl refl)
        | inr h ↦
            let differ : suc i ≢ s = λ e. h.0 (omega (arith, e)) in
            subst (λ (ws : List Written). SeatOuts v.xacts v.tables (outs_with (outs_with outs (written s)) ws) one) (sym (same (suc i) differ)) (other_out c s x outs written i one at differ h.1)
      ];
    }
