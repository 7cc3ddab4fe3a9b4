-- The laws of what the stream tells of a core's rows, and of the draws that a moment begins.
use Rattle.std.proofs.Common.{ap, arith, inl, inr, refl, subst, sym, ◌∙◌}
use Rattle.std.specs.Option.{option_map_or, unwrap_or}
use Rattle.std.specs.Prelude.{Bool, List, None, Option, Some, [], drop, if◌then◌else◌, length, replicate, slice_get, slice_index_or, suc, sum_by, true, zero, ℕ, ℤ, ◌&&◌, ◌+◌, ◌-◌, ◌∷◌, ◌≡◌, ◌≢◌, ◌≤◌, ◌⊎◌}
use Rattle.tuple_layout.specs.Schemas.{TableSchema}
use Rattle.tuple_layout.specs.declared.Place.{Place}
use Rattle.command_set.proofs.Numbered.{nth_set_other, nth_set_same}
use Rattle.command_set.specs.Changes.{is_named, keys_of}
use Rattle.command_set.specs.Journals.{Moment, is_run}
use Rattle.command_set.specs.Replies.{is_granted, schema_of}
use Rattle.command_set.specs.declared.Kind.{Kind}
use Rattle.command_set.specs.declared.Kind.TheVariants as kinds
use Rattle.command_set.specs.declared.Script.{Script}
use Rattle.xact_status.specs.Xacts.{is_committed}
use Rattle.table_rows.specs.Worlds.{tuple_in}
use Rattle.write_steps.specs.Writes.{Writing}
use Rattle.core_state.proofs.Answered.{within}
use Rattle.core_state.proofs.Lists.{read_found}
use Rattle.core_state.specs.Events.{Event, IsDrawRefused, IsDue, IsMoment, IsWriteDue, IsWriteOn}
use Rattle.core_state.specs.Facts.{IsSound}
use Rattle.core_state.specs.Moves.{OthersStay, Says}
use Rattle.core_state.specs.State.{CoreState, IsSession, is_open, is_past_moment, no_table, nobody, seat_of, table_at}
use Rattle.core_state.specs.declared.advance.Advance.{Advance}
use Rattle.core_state.specs.declared.seat.Job.{Job}
use Rattle.core_state.specs.declared.seat.Seat.{Seat}
use Rattle.core_parts.specs.First.{first_core, tables_from}
use Rattle.core_events.specs.Laws.{IsSoundAt}
use Rattle.core_draws.specs.Draws.{draws_of}
use Rattle.change_stream.specs.Sets.{out_beside}
use Rattle.change_stream.specs.Streams.{Stream, first_stream, is_commit, is_end, is_rewrite_of, kept_by, outs_with, stream_after, written_after, written_of}
use Rattle.change_stream.specs.declared.written.Written.{Written}
use Rattle.core_outs.proofs.Changes.{claims_stand}
use Rattle.core_outs.proofs.Commits.{AreClaimed}
use Rattle.core_outs.proofs.Draws.{granted_draws}
use Rattle.core_outs.proofs.Frames.{closed_out}
use Rattle.core_outs.proofs.Moments.{carried, moment_out, outs_same}
use Rattle.core_outs.proofs.Quiet.{IsMomentOf}
use Rattle.core_outs.proofs.Steps.{outs_copied, outs_failed, outs_read, outs_submitted, outs_written}
use Rattle.core_outs.specs.Counts.{pushed_at, pushed_by}
use Rattle.core_outs.specs.Laws.{IsCut, IsRun, OutsKeep, RunsOut, StreamOuts}
use Rattle.core_outs.specs.Outs.{OutsStand, SeatOuts, put_place}
use Rattle.command_set.specs.declared.Reply.TheVariants as replies
use Rattle.std.specs.FinMap as map
use Rattle.core_state.specs.declared.advance.Advance.TheVariants as advances
use Rattle.core_state.specs.declared.seat.Job.TheVariants as jobs

-- ---- a new core

first_none : (number : ℕ) (schemas : List TableSchema) (i : ℕ) (counts : ℕ → Bool) (key : ℤ) → tuple_in counts (slice_index_or (tables_from number schemas) i no_table).rows.pages key ≡ None
first_none number [] i counts key = refl
first_none number (schema ∷ schemas) zero counts key = refl
first_none number (schema ∷ schemas) (suc i) counts key = first_none (number + 1) schemas i counts key

replicated : {X : Type 0} (n i : ℕ) (x y : X) → slice_get (replicate n x) i ≡ Some y → x ≡ y
replicated zero i x y e = absurd (cc)
replicated (suc n) zero x y e = cc
replicated (suc n) (suc i) x y e = replicated n i x y e

first_outs : (schemas : List TableSchema) (low high sessions : ℕ) → StreamOuts (first_core schemas low high sessions) (first_stream sessions)
first_outs schemas low high sessions = record {
  latest = record { each = λ p bytes e there. absurd (some bytes (sym (none p.table p.key) ∙ there)) };
  each = λ i seat at.
      let is = replicated sessions i nobody seat at in
      subst (λ (one : Seat). SeatOuts c.xacts c.tables (outs_with (first_stream sessions).outs (written_of (first_stream sessions) (suc i))) one) is
      (closed_out c.xacts c.tables (outs_with (first_stream sessions).outs (written_of (first_stream sessions) (suc i))) nobody refl refl);
}
  where
    c : CoreState
    c = first_core schemas low high sessions

    some : (bytes : List ℕ) → None ≡ Some bytes → ⊥
    some bytes e = cc

    none : (t : ℕ) (key : ℤ) → tuple_in (is_committed (first_core schemas low high sessions).xacts) (table_at (first_core schemas low high sessions).tables t).rows.pages key ≡ None
    none zero key = refl
    none (suc i) key = first_none 1 schemas i (is_committed (first_core schemas low high sessions).xacts) key

-- ---- the stream after a moment

-- what is told of the session of the moment, and of another
own_written : (script : Script) (st : Stream) (x : Moment) (n : ℕ) → 1 ≤ x.entry.session → x.entry.session ≤ n → length st.written ≡ n → written_of (stream_after script st x) x.entry.session ≡ written_after script st x
own_written script st x n low high count = ap (λ (o : Option (List Written)). unwrap_or o []) (nth_set_same st.written x.entry.session (written_after script st x) low (omega (arith, high, count)))

other_written : (script : Script) (st : Stream) (x : Moment) (k : ℕ) → 1 ≤ x.entry.session → k ≢ x.entry.session → written_of (stream_after script st x) k ≡ written_of st k
other_written script st x k low differ = ap (λ (o : Option (List Written)). unwrap_or o []) (nth_set_other st.written x.entry.session k (written_after script st x) low differ)

-- what is told of committed rows, by the kind of its entry
abbrev told_by : Script → Stream → Moment → Place → Kind → List ℕ
told_by script st x p kind =
    if is_run kind && (is_commit x.command && is_granted x.reply) then outs_with st.outs (written_of st x.entry.session) p
    else if is_end kind && is_rewrite_of p.table x.command then option_map_or (λ row. out_beside (schema_of script.schemas p.table).storages row []) (map.get x.after.latest p) []
    else st.outs p

run_outs : (script : Script) (st : Stream) (x : Moment) (p : Place) → x.entry.kind ≡ kinds.Run → (stream_after script st x).outs p ≡ carried x.command x.reply st.outs (written_of st x.entry.session) p
run_outs script st x p kind = ap (told_by script st x p) kind

cut_outs : (script : Script) (st : Stream) (x : Moment) (p : Place) → (x.entry.kind ≡ kinds.NoValueId) ⊎ (x.entry.kind ≡ kinds.Memory) → (stream_after script st x).outs p ≡ st.outs p
cut_outs script st x p kind = elim kind [
  | inl h ↦ ap (told_by script st x p) h
  | inr h ↦ ap (told_by script st x p) h
]

-- ---- a moment

-- what each open session's changes name is what it claims
claimed_all : (c new : CoreState) (advance : Advance) (script : Script) (st : Stream) (x : Moment) → IsRun c new advance script st x → AreClaimed c (written_of st)
claimed_all c new advance script st x run = record {
  each = λ i seat at opened p.
      let low = within c.seats i seat at in
      let there : IsSession c.seats (suc i) = record { from_one = omega arith; within = omega (arith, low) } in
      let place : suc i - 1 ≡ i = omega arith in
      let is : seat_of c (suc i) ≡ seat = ap (λ (k : ℕ). slice_index_or c.seats k nobody) place ∙ read_found c.seats i seat nobody at in
      ap (λ changes. is_named (keys_of changes) p) (run.told (suc i)) ∙ claims_stand c (suc i) x.before run.replies there run.stood (ap (λ (one : Seat). is_open one.state) is ∙ opened) p;
}

moment_is : (c new : CoreState) (advance : Advance) (script : Script) (st : Stream) (x : Moment) → IsRun c new advance script st x → StreamOuts c st
    → IsMomentOf c new x.entry.session script (kept_by x.command (outs_with st.outs (written_of st x.entry.session))) st.outs (written_of st) (written_of (stream_after script st x))
moment_is c new advance script st x run old = record {
  there = run.at.there;
  sound = run.at.sound;
  others = run.others;
  before = x.before;
  after = x.after;
  replies_before = run.replies;
  replies_after = run.later;
  stood = run.stood;
  stands = run.stands;
  told = run.told x.entry.session;
  next = own_written script st x (length c.seats) run.at.there.from_one run.at.there.within run.count;
  same = λ k differ. other_written script st x k run.at.there.from_one differ;
  none = ap put_place run.job;
  old = old;
}

due_of : (c new : CoreState) (advance : Advance) (script : Script) (st : Stream) (x : Moment) → IsRun c new advance script st x → IsMoment c x.entry.session x.command new advance
due_of c new advance script st x run = subst (λ (job : Job). IsDue job c x.entry.session new advance) run.job run.event.is

run_outs_are : (c new : CoreState) (advance : Advance) (script : Script) (st : Stream) (x : Moment) → IsRun c new advance script st x → StreamOuts c st → StreamOuts new (stream_after script st x)
run_outs_are c new advance script st x run old =
    outs_same new (carried x.command x.reply st.outs (written_of st x.entry.session)) (stream_after script st x).outs (written_of (stream_after script st x)) (λ p. run_outs script st x p run.kind)
    (moment_out c new x.entry.session script st.outs (written_of st) (written_of (stream_after script st x)) x.command advance x.reply run.job run.sound run.schemas (claimed_all c new advance script st x run) (moment_is c new advance script st x run old)
    (due_of c new advance script st x run) run.says)

run_draws : (c new : CoreState) (advance : Advance) (script : Script) (st : Stream) (x : Moment) (t : ℕ) → IsRun c new advance script st x → StreamOuts c st → draws_of t (seat_of new x.entry.session).job ≤ pushed_at script st x t
run_draws c new advance script st x t run old = by advance (due_of c new advance script st x run) run.says
  where
    own : written_of (stream_after script st x) x.entry.session ≡ written_after script st x
    own = own_written script st x (length c.seats) run.at.there.from_one run.at.there.within run.count

    by : (told : Advance) → IsMoment c x.entry.session x.command new told → Says x.command (seat_of new x.entry.session).job told x.reply → draws_of t (seat_of new x.entry.session).job ≤ pushed_at script st x t
    by advances.Idle due says = absurd due
    by advances.More due says =
        let most = subst (λ (v : CoreState). IsSound v → IsMomentOf c v x.entry.session script (kept_by x.command (outs_with st.outs (written_of st x.entry.session))) st.outs (written_of st) (written_of (stream_after script st x))
        → draws_of t (seat_of v x.entry.session).job ≤ sum_by (pushed_by script t) (drop (length (written_of st x.entry.session)) (written_of (stream_after script st x) x.entry.session))) (sym due.0)
        (λ sound at. granted_draws c x.entry.session script st.outs (written_of st) (written_of (stream_after script st x)) x.command t says.0 run.job sound run.schemas at) run.sound (moment_is c new advance script st x run old) in
        subst (λ (ws : List Written). draws_of t (seat_of new x.entry.session).job ≤ sum_by (pushed_by script t) (drop (length (written_of st x.entry.session)) ws)) own most
    by (advances.Done said) due says =
        let none : draws_of t (seat_of new x.entry.session).job ≡ 0 = ap (draws_of t) due.1 in
        omega (arith, none)

pub runs_out : RunsOut
runs_out = record { outs = run_outs_are; draws = run_draws }

-- ---- all else

written_due : (c : CoreState) (s t : ℕ) (write : Writing) (new : CoreState) (advance : Advance) → advance ≢ advances.Done replies.NoValueId → IsWriteDue c s t write new advance → IsWriteOn c s t write new advance
written_due c s t write new (advances.Done replies.NoValueId) differ due = absurd (differ refl)
written_due c s t write new advance differ due = due

stepped_outs : (c : CoreState) (s : ℕ) (new : CoreState) (advance : Advance) (st : Stream) → IsSoundAt c s → OthersStay c s new → is_past_moment (seat_of c s).job ≡ true → Event c s new advance → advance ≢ advances.Done replies.NoValueId → StreamOuts c st → StreamOuts new st
stepped_outs c s new advance st at others past event differ old = by (seat_of c s).job refl past event.is
  where
    by : (job : Job) → (seat_of c s).job ≡ job → is_past_moment job ≡ true → IsDue job c s new advance → StreamOuts new st
    by jobs.Idle is e due = absurd (cc)
    by (jobs.Submitted command) is e due = absurd (cc)
    by (jobs.Reading t snapshot read) is e due = outs_read c new s t snapshot read st.outs (written_of st) at.there at.sound others is due.0 old
    by (jobs.Writing t write) is e due = outs_written c new s t write advance st.outs (written_of st) at.there at.sound at.parts others is (written_due c s t write new advance differ due) old

-- after an entry that tells of an early end
cut_told : (c new : CoreState) (script : Script) (st : Stream) (x : Moment) → IsCut c new st x → OutsStand new st.outs (written_of (stream_after script st x)) → StreamOuts new (stream_after script st x)
cut_told c new script st x cut outs = outs_same new st.outs (stream_after script st x).outs (written_of (stream_after script st x)) (λ p. cut_outs script st x p cut.kind) outs

pub outs_keep : OutsKeep
outs_keep = record {
  first = first_outs;
  submitted = λ c s command st at others idle old. outs_submitted c s command st.outs (written_of st) at.there others idle old;
  stepped = stepped_outs;
  refused = λ c new script st x t write cut job event old.
      let due : IsDrawRefused c x.entry.session t write new = subst (λ (its : Job). IsDue its c x.entry.session new (advances.Done replies.NoValueId)) job event.is in
      cut_told c new script st x cut
      (outs_failed c new x.entry.session st.outs (written_of st) (written_of (stream_after script st x)) cut.at.there cut.at.sound cut.others due.is (λ k differ. other_written script st x k cut.at.there.from_one differ) old);
  failed = λ c new script st x cut fails old. cut_told c new script st x cut (elim fails [
    | inl h ↦ outs_failed c new x.entry.session st.outs (written_of st) (written_of (stream_after script st x)) cut.at.there cut.at.sound cut.others h (λ k differ. other_written script st x k cut.at.there.from_one differ) old
    | inr h ↦ outs_copied c new x.entry.session st.outs (written_of st) (written_of (stream_after script st x)) cut.at.there cut.at.sound cut.others h.1 (λ k differ. other_written script st x k cut.at.there.from_one differ) old
  ]);
}
