-- The granted moment of a fetch: the handle keeps its value, so the read of a part of it may begin.
use Rattle.std.proofs.Common.{ap, arith, inl, inr, refl, subst, sym, ◌∙◌}
use Rattle.std.specs.Option.{option_map_or}
use Rattle.std.specs.Prelude.{Bool, Contains, List, None, Option, Some, [], false, if◌then◌else◌, length, map, negsuc, not, option_to_list, pos, slice_set, suc, true, ℕ, ℤ, ◌&&◌, ◌-◌, ◌<◌, ◌==◌, ◌||◌, ◌∷◌, ◌≡◌}
use Rattle.list_facts.proofs.Members.{found_in, none_in_nil}
use Rattle.external_pointer.specs.declared.external.Pointer.{Pointer}
use Rattle.tuple_layout.specs.Slices.{slice}
use Rattle.tuple_layout.specs.declared.cell.Cell.TheVariants.{Out}
use Rattle.slice_fetch.specs.declared.Span.{Span}
use Rattle.xact_status.specs.Xacts.{Xacts, is_committed}
use Rattle.snapshot_registry.specs.Snapshots.{Snaps, is_protected, seen_by_any}
use Rattle.row_versions.specs.declared.version.Version.{Version}
use Rattle.value_holders.proofs.Readers.{readers_are_safe}
use Rattle.value_holders.specs.Stamps as stamps
use Rattle.lock_table.specs.Locks.{held_by}
use Rattle.toast_store.specs.Stores.{IsStore}
use Rattle.toast_store.specs.Values.{Whole, value_in}
use Rattle.command_set.specs.Plain.{session_of}
use Rattle.command_set.specs.Replies.{bad_offset, is_granted}
use Rattle.command_set.specs.declared.Command.{Command}
use Rattle.command_set.specs.declared.Reply.{Reply}
use Rattle.command_set.specs.declared.state.Answered.{Answered}
use Rattle.table_state.proofs.Ids.{id_from}
use Rattle.table_state.specs.Tables.{IsTable, cells_of}
use Rattle.table_state.specs.declared.table.Table.{Table}
use Rattle.read_steps.specs.Reads.{Reading, held_read, needs_store, read_left, reply_of, stage_held}
use Rattle.read_steps.specs.declared.wanted.Held.{Held}
use Rattle.core_looks.proofs.Replies.{none_used}
use Rattle.core_looks.proofs.Sights.{table_made, table_sound}
use Rattle.core_looks.specs.Due.{granted_due, no_handle_due, reply_due}
use Rattle.core_state.proofs.Begins.{left_over}
use Rattle.core_state.proofs.Lists.{in_append_right, mapped_in, only_one}
use Rattle.core_state.proofs.Overs.{sound_refused}
use Rattle.core_state.proofs.Seats.{seat_written, sound_of}
use Rattle.core_state.specs.Begun.{begun, handle_read, held_size, span_of}
use Rattle.core_state.specs.Events.{FetchBegun, MomentLine, Over, at_moment, job_left, left, left_by, line_fetching, line_granted}
use Rattle.core_state.specs.Facts.{HandleIsSound, IsSound, IsThereFor, KeepsId, KeepsPointer, PartsAreSound, ReadIsSound, WorksOn, ids_to_read}
use Rattle.core_state.specs.Lines.{after_fetch_begun, after_over}
use Rattle.core_state.specs.Moves.{Runs, Says}
use Rattle.core_state.specs.Stands.{Stands}
use Rattle.core_state.specs.State.{CoreState, IsSession, handle_of, is_open, is_past_moment, seat_of, snapshot_of, table_at, uses_of, xid_of}
use Rattle.core_state.specs.Views.{held_value}
use Rattle.core_state.specs.declared.seat.Handle.{Handle}
use Rattle.core_state.specs.declared.seat.Job.{Job}
use Rattle.core_state.specs.declared.seat.Seat.{Seat}
use Rattle.core_reads.proofs.Begins.{sound_goes}
use Rattle.core_reads.proofs.Begun.{no_pin, runs_of}
use Rattle.core_reads.proofs.Due.{grants_handle, grants_inside}
use Rattle.core_reads.proofs.Fresh.{IsNew, fresh_sound}
use Rattle.core_reads.proofs.Moments.{stands_goes}
use Rattle.core_reads.proofs.Reading.{with_job}
use Rattle.core_reads.proofs.Replies.{part_comes}
use Rattle.core_reads.proofs.Spans.{span_slice}
use Rattle.core_reads.proofs.Told.{granted_answer}
use Rattle.core_reads.specs.Laws.{Begins, advance_by, told_then}
use Rattle.command_set.specs.declared.Command.TheVariants as commands
use Rattle.command_set.specs.declared.Reply.TheVariants as replies
use Rattle.core_state.specs.declared.seat.Job.TheVariants as jobs
use Rattle.read_steps.specs.declared.wanted.Held.TheVariants as helds

-- ---- what a handle keeps

-- a version that is there for a session must be kept
protected_there : (xacts : Xacts) (snaps : Snaps) (uses : List ℕ) (own : Option ℕ) (version : Version) → stamps.Runs xacts own → IsThereFor xacts snaps uses own version → is_protected xacts snaps version.inserter version.ender ≡ true
protected_there xacts snaps uses own version runs there = elim there [
  | inl mine ↦
      let running = subst (λ (o : Option ℕ). stamps.Runs xacts o) mine runs in
      ap (λ (b : Bool). b || (is_committed xacts version.inserter && (not (option_map_or (is_committed xacts) version.ender false) || seen_by_any xacts snaps version.inserter version.ender))) running
  | inr seen ↦ readers_are_safe.seen_is_protected xacts snaps seen.0 version.inserter version.ender None tt seen.2
]

-- so the value of a pointer that is kept is whole
pub kept_whole : (number : ℕ) (xacts : Xacts) (snaps : Snaps) (table : Table) (uses : List ℕ) (own : Option ℕ) (pointer : Pointer) → IsTable number xacts snaps table → stamps.Runs xacts own → KeepsPointer xacts snaps table uses own pointer
    → Whole table.toast pointer (value_in table.toast pointer)
kept_whole number xacts snaps table uses own pointer is runs kept = is.whole kept.tid kept.version pointer kept.there (protected_there xacts snaps uses own kept.version runs kept.seen) kept.holds

-- and a session keeps its id that uses the handle's snapshot
kept_id : (xacts : Xacts) (snaps : Snaps) (table : Table) (uses : List ℕ) (own : Option ℕ) (snapshot : ℕ) (pointer : Pointer) → Contains uses snapshot → KeepsPointer xacts snaps table (snapshot ∷ []) own pointer → KeepsId xacts snaps table uses own pointer.value_id
kept_id xacts snaps table uses own snapshot pointer used kept = record {
  tid = kept.tid;
  version = kept.version;
  there = kept.there;
  holds = id_from pointer.value_id (cells_of table kept.version) pointer refl kept.holds;
  seen = elim kept.seen [
    | inl mine ↦ inl mine
    | inr seen ↦ inr (seen.0, subst (λ (n : ℕ). Contains uses n) (only_one snapshot seen.0 seen.1) used, seen.2)
  ];
}

-- ---- the read of a part of it

held_new : (held : Held) (span : Span) → IsNew (stage_held held span)
held_new (helds.Inline bytes) span = tt
held_new (helds.Out pointer) span = tt

held_comes : (tables : List Table) (t s : ℕ) (held : Held) (n : ℕ) (len : ℤ) → IsStore (table_at tables t).toast → ((pointer : Pointer) → held ≡ helds.Out pointer → Whole (table_at tables t).toast pointer (value_in (table_at tables t).toast pointer))
    → reply_of (table_at tables t).toast (held_read held (span_of (held_size held) (pos n) len) s) ≡ Some (replies.Bytes (slice (held_value tables t held) (pos n) len))
held_comes tables t s (helds.Inline bytes) n len store whole = ap (λ (its : List ℕ). Some (replies.Bytes its)) (span_slice bytes (length bytes) n len refl)
held_comes tables t s (helds.Out pointer) n len store whole = part_comes (table_at tables t).toast s (Out pointer) n len store (λ other e. at other e)
  where
    at : (other : Pointer) → Out pointer ≡ Out other → Whole (table_at tables t).toast other (value_in (table_at tables t).toast other)
    at other e =
        let same : pointer ≡ other = cc in
        subst (λ (p : Pointer). Whole (table_at tables t).toast p (value_in (table_at tables t).toast p)) same (whole pointer refl)

held_kept : (xacts : Xacts) (snaps : Snaps) (table : Table) (uses : List ℕ) (own : Option ℕ) (snapshot : ℕ) (held : Held) (span : Span) → Contains uses snapshot → ((pointer : Pointer) → held ≡ helds.Out pointer → KeepsPointer xacts snaps table (snapshot ∷ []) own pointer)
    → (value_id : ℕ) → Contains (ids_to_read (stage_held held span)) value_id → KeepsId xacts snaps table uses own value_id
held_kept xacts snaps table uses own snapshot (helds.Inline bytes) span used kept value_id e = absurd (none_in_nil value_id e)
held_kept xacts snaps table uses own snapshot (helds.Out pointer) span used kept value_id e =
    subst (λ (n : ℕ). KeepsId xacts snaps table uses own n) (only_one pointer.value_id value_id e) (kept_id xacts snaps table uses own snapshot pointer used (kept pointer refl))

-- ---- its moment

pub record FetchDue (c : CoreState) (s name n : ℕ) (len : ℤ) : Type 0 where
  pub handle : Handle
  pub inside : is_open (seat_of c s).state ≡ true
  pub at : handle_of (seat_of c s).handles name ≡ Some handle
  pub said : reply_due c s (commands.Fetch name (pos n) len) ≡ replies.Bytes (slice (held_value c.tables handle.table handle.held) (pos n) len)

pub fetch_granted : (c : CoreState) (s name n : ℕ) (len : ℤ) → is_granted (reply_due c s (commands.Fetch name (pos n) len)) ≡ true → FetchDue c s name n len
fetch_granted c s name n len granted =
    let reply = granted_due c s (commands.Fetch name (pos n) len) in
    let opened = grants_inside (seat_of c s).state (no_handle_due c s name ∷ bad_offset (pos n) ∷ []) reply granted in
    let its = grants_handle (handle_of (seat_of c s).handles name) (bad_offset (pos n) ∷ []) reply opened.rest in
    record {
      handle = its.is.0;
      inside = opened.is;
      at = its.is.1;
      said = opened.same ∙ its.same ∙ ap (λ (o : Option Handle). replies.Bytes (slice (option_map_or (λ (h : Handle). held_value c.tables h.table h.held) o []) (pos n) len)) its.is.1;
    }

-- the read that it begins
abbrev read_of : ℕ → Handle → ℕ → ℤ → Reading
read_of s handle n len = held_read handle.held (span_of (held_size handle.held) (pos n) len) s

-- an open handle
pub handle_there : (c : CoreState) (s name : ℕ) (handle : Handle) → IsSession c.seats s → handle_of (seat_of c s).handles name ≡ Some handle → IsSound c → Contains (seat_of c s).handles handle × HandleIsSound c.xacts c.snaps (held_by c.locks s) c.tables (xid_of (seat_of c s).state) handle
handle_there c s name handle there at sound =
    let among = (found_in (λ (h : Handle). h.name == name) (seat_of c s).handles handle at).0 in
    (among, (sound_of c s there sound).handles.each handle among)

pub fetch_comes : (c : CoreState) (s name n : ℕ) (len : ℤ) (due : FetchDue c s name n len) → IsSession c.seats s → PartsAreSound c → IsSound c
    → reply_of (table_at c.tables due.handle.table).toast (held_read due.handle.held (span_of (held_size due.handle.held) (pos n) len) s) ≡ Some (reply_due c s (commands.Fetch name (pos n) len))
fetch_comes c s name n len due there parts sound =
    let its = (handle_there c s name due.handle there due.at sound).1 in
    let runs = runs_of c.xacts s (xid_of (seat_of c s).state) (sound_of c s there sound).runs in
    held_comes c.tables due.handle.table s due.handle.held n len (table_made c due.handle.table its.of_table parts).toast
    (λ pointer e. kept_whole due.handle.table c.xacts c.snaps (table_at c.tables due.handle.table) (due.handle.snapshot ∷ []) (xid_of (seat_of c s).state) pointer (table_sound c due.handle.table its.of_table sound) runs (its.kept pointer e))
    ∙ ap Some (sym due.said)

fetch_job : (c : CoreState) (s name n : ℕ) (len : ℤ) (due : FetchDue c s name n len) → IsSession c.seats s → (seat_of c s).job ≡ jobs.Submitted (commands.Fetch name (pos n) len) → PartsAreSound c → IsSound c
    → WorksOn (held_by c.locks s) c.tables due.handle.table (seat_of c s).state
    × ReadIsSound c.xacts c.snaps (table_at c.tables due.handle.table) s (with_job c s (jobs.Reading due.handle.table None (held_read due.handle.held (span_of (held_size due.handle.held) (pos n) len) s))) (held_read due.handle.held (span_of (held_size due.handle.held) (pos n) len) s)
fetch_job c s name n len due there is parts sound =
    let both = handle_there c s name due.handle there due.at sound in
    let its = both.1 in
    let seat = with_job c s (jobs.Reading due.handle.table None (held_read due.handle.held (span_of (held_size due.handle.held) (pos n) len) s)) in
    let used : Contains (uses_of seat) due.handle.snapshot = in_append_right (option_to_list (snapshot_of (seat_of c s).state)) (map (λ (h : Handle). h.snapshot) (seat_of c s).handles) due.handle.snapshot (mapped_in (λ (h : Handle). h.snapshot) (seat_of c s).handles due.handle both.0) in (
      record { of_table = its.of_table; inside = due.inside; used = its.used },
      fresh_sound c.xacts c.snaps (table_at c.tables due.handle.table) s seat (stage_held due.handle.held (span_of (held_size due.handle.held) (pos n) len)) (reply_due c s (commands.Fetch name (pos n) len))
          (no_pin c s due.handle.table (commands.Fetch name (pos n) len) there is sound) (held_new due.handle.held (span_of (held_size due.handle.held) (pos n) len)) (fetch_comes c s name n len due there parts sound)
          (held_kept c.xacts c.snaps (table_at c.tables due.handle.table) (uses_of seat) (xid_of (seat_of c s).state) due.handle.snapshot due.handle.held (span_of (held_size due.handle.held) (pos n) len) used its.kept),
    )

fetch_line : (c : CoreState) (s name : ℕ) (offset len : ℤ) (handle : Handle) → handle_of (seat_of c s).handles name ≡ Some handle
    → line_granted c s (commands.Fetch name offset len) ≡ line_fetching (seat_of c s).state handle.table (held_read handle.held (span_of (held_size handle.held) offset len) s)
fetch_line c s name offset len handle at = ap (λ (o : Option Handle). option_map_or (λ (h : Handle). line_fetching (seat_of c s).state h.table (held_read h.held (span_of (held_size h.held) offset len) s)) o (Over (seat_of c s).state)) at

fetch_begun : (c : CoreState) (s name : ℕ) (offset len : ℤ) (handle : Handle) → handle_of (seat_of c s).handles name ≡ Some handle → begun c s (commands.Fetch name offset len) ≡ handle_read s offset len handle
fetch_begun c s name offset len handle at = ap (λ (o : Option Handle). option_map_or (handle_read s offset len) o jobs.Idle) at

fetch_sound : (c : CoreState) (s name n : ℕ) (len : ℤ) (due : FetchDue c s name n len) → IsSession c.seats s → (seat_of c s).job ≡ jobs.Submitted (commands.Fetch name (pos n) len) → PartsAreSound c → IsSound c
    → IsSound (at_moment (line_fetching (seat_of c s).state due.handle.table (read_of s due.handle n len)) c s)
fetch_sound c s name n len due there is parts sound = by (needs_store (read_of s due.handle n len))
  where
    by : (b : Bool) → IsSound (at_moment (if b then FetchBegun due.handle.table (read_of s due.handle n len) else Over (seat_of c s).state) c s)
    by true = sound_goes c s (commands.Fetch name (pos n) len) (jobs.Reading due.handle.table None (read_of s due.handle n len)) there is refl (fetch_job c s name n len due there is parts sound) sound
    by false = sound_refused c s (commands.Fetch name (pos n) len) there is sound

fetch_runs : (c : CoreState) (s name n : ℕ) (len : ℤ) (due : FetchDue c s name n len) → IsSession c.seats s → (seat_of c s).job ≡ jobs.Submitted (commands.Fetch name (pos n) len) → is_granted (reply_due c s (commands.Fetch name (pos n) len)) ≡ true → PartsAreSound c → IsSound c
    → Runs c s (commands.Fetch name (pos n) len) (at_moment (line_fetching (seat_of c s).state due.handle.table (read_of s due.handle n len)) c s) (advance_by (handle_read s (pos n) len due.handle) (reply_due c s (commands.Fetch name (pos n) len)))
fetch_runs c s name n len due there is granted parts sound m told counted stands =
    subst (λ (a : Answered). Stands (at_moment (line_fetching (seat_of c s).state due.handle.table read) c s) a.after (slice_set told (s - 1) (Some a.reply))
    × Says command (seat_of (at_moment (line_fetching (seat_of c s).state due.handle.table read) c s) s).job (advance_by (handle_read s (pos n) len due.handle) reply) a.reply)
    (sym (granted_answer c s command m m told there is granted parts sound stands (none_used m s (session_of m s)))) (by (needs_store read))
  where
    command : Command
    command = commands.Fetch name (pos n) len

    reply : Reply
    reply = reply_due c s (commands.Fetch name (pos n) len)

    read : Reading
    read = read_of s due.handle n len

    says : (said : Reply) → reply_of (table_at c.tables due.handle.table).toast read ≡ Some said → said ≡ reply
    says said e = some_is said reply (sym e ∙ fetch_comes c s name n len due there parts sound)
      where
        some_is : (a b : Reply) → Some a ≡ Some b → a ≡ b
        some_is a b is = cc

    by : (b : Bool)
        → Stands (at_moment (if b then FetchBegun due.handle.table read else Over (seat_of c s).state) c s) m (slice_set told (s - 1) (Some reply))
        × Says command (seat_of (at_moment (if b then FetchBegun due.handle.table read else Over (seat_of c s).state) c s) s).job (advance_by (if b then jobs.Reading due.handle.table None read else jobs.Idle) reply) reply
    by true = (
      stands_goes c s command (jobs.Reading due.handle.table None read) m told reply there is counted refl says stands,
      (refl, granted, ap (λ (seat : Seat). is_past_moment seat.job) (seat_written c.seats s (with_job c s (jobs.Reading due.handle.table None read)) there)),
    )
    by false = (stands_goes c s command jobs.Idle m told reply there is counted refl (λ said pends. absurd (cc)) stands, (refl, ap (λ (seat : Seat). seat.job) (seat_written c.seats s (with_job c s jobs.Idle) there)))

fetch_falls : (c : CoreState) (s name n : ℕ) (len : ℤ) (due : FetchDue c s name n len) → IsSession c.seats s → (seat_of c s).job ≡ jobs.Submitted (commands.Fetch name (pos n) len)
    → left (at_moment (line_fetching (seat_of c s).state due.handle.table (read_of s due.handle n len)) c s) s < left c s
fetch_falls c s name n len due there is = by (needs_store read) refl
  where
    read : Reading
    read = read_of s due.handle n len

    was : left c s ≡ suc (job_left c.tables (handle_read s (pos n) len due.handle))
    was = ap (left_by c s) is ∙ ap (λ (job : Job). suc (job_left c.tables job)) (fetch_begun c s name (pos n) len due.handle due.at)

    by : (b : Bool) → needs_store read ≡ b → left (at_moment (if b then FetchBegun due.handle.table read else Over (seat_of c s).state) c s) s < left c s
    by true e =
        let now : left (after_fetch_begun c s due.handle.table read) s ≡ read_left (table_at c.tables due.handle.table).toast.index.entries read =
        ap (λ (seat : Seat). left_by (after_fetch_begun c s due.handle.table read) s seat.job) (seat_written c.seats s (with_job c s (jobs.Reading due.handle.table None read)) there) in
        let before : job_left c.tables (handle_read s (pos n) len due.handle) ≡ read_left (table_at c.tables due.handle.table).toast.index.entries read = ap (λ (b : Bool). job_left c.tables (if b then jobs.Reading due.handle.table None read else jobs.Idle)) e in
        omega (arith, was, now, before)
    by false e = left_over c (after_over c s (seat_of c s).state) s (commands.Fetch name (pos n) len) is (ap (λ (seat : Seat). seat.job) (seat_written c.seats s (with_job c s jobs.Idle) there))

fetch_from : (name n : ℕ) (len : ℤ) → Begins (commands.Fetch name (pos n) len)
fetch_from name n len = record {
  sound = λ c s there is granted parts sound.
      let due = fetch_granted c s name n len granted in
      subst (λ (line : MomentLine). IsSound (at_moment line c s)) (sym (fetch_line c s name (pos n) len due.handle due.at)) (fetch_sound c s name n len due there is parts sound);
  runs = λ c s there is granted parts sound.
      let due = fetch_granted c s name n len granted in
      let command = commands.Fetch name (pos n) len in
      subst (λ (line : MomentLine). Runs c s command (at_moment line c s) (told_then c s command)) (sym (fetch_line c s name (pos n) len due.handle due.at))
      (subst (λ (job : Job). Runs c s command (at_moment (line_fetching (seat_of c s).state due.handle.table (read_of s due.handle n len)) c s) (advance_by job (reply_due c s command))) (sym (fetch_begun c s name (pos n) len due.handle due.at))
      (fetch_runs c s name n len due there is granted parts sound));
  falls = λ c s there is granted.
      let due = fetch_granted c s name n len granted in
      subst (λ (line : MomentLine). left (at_moment line c s) s < left c s) (sym (fetch_line c s name (pos n) len due.handle due.at)) (fetch_falls c s name n len due there is);
}

-- an offset below the first byte is refused
below_refused : (c : CoreState) (s name n : ℕ) (len : ℤ) → is_granted (reply_due c s (commands.Fetch name (negsuc n) len)) ≡ true → ⊥
below_refused c s name n len granted =
    let reply = granted_due c s (commands.Fetch name (negsuc n) len) in
    let opened = grants_inside (seat_of c s).state (no_handle_due c s name ∷ bad_offset (negsuc n) ∷ []) reply granted in
    let its = grants_handle (handle_of (seat_of c s).handles name) (bad_offset (negsuc n) ∷ []) reply opened.rest in
    let last = its.rest in
    absurd (cc)

pub fetch_begins : (name : ℕ) (offset len : ℤ) → Begins (commands.Fetch name offset len)
fetch_begins name (pos n) len = fetch_from name n len
fetch_begins name (negsuc n) len = record {
  sound = λ c s there is granted parts sound. absurd (below_refused c s name n len granted);
  runs = λ c s there is granted parts sound. absurd (below_refused c s name n len granted);
  falls = λ c s there is granted. absurd (below_refused c s name n len granted);
}
