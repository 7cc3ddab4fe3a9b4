-- The moment of a fetch, by what it finds.
use Rattle.std.proofs.Common.{ap, refl, subst, ◌∙◌}
use Rattle.std.specs.Option.{option_map_or}
use Rattle.std.specs.Prelude.{Bool, IfSome, None, Option, Some, [], false, if◌then◌else◌, is_none, is_some, negsuc, pos, true, ℕ, ℤ, ◌∷◌, ◌≡◌, ◌≤◌}
use Rattle.tuple_layout.specs.Slices.{slice}
use Rattle.tuple_layout.specs.declared.cell.Cell.TheVariants.{Out}
use Rattle.slice_fetch.specs.declared.Span.{Span}
use Rattle.chunk_index.specs.Indexes.{Index}
use Rattle.chunk_index.specs.Pinned.{pin_of}
use Rattle.toast_store.specs.Fetches.{Fetching}
use Rattle.toast_store.specs.Walks.{CanStep}
use Rattle.command_set.specs.Replies.{answers_if, bad_offset, first_of}
use Rattle.command_set.specs.declared.Reply.{Reply}
use Rattle.read_steps.specs.Reads.{IsUnderWay, Reading, fetch_at, held_read, needs_store, stage_held}
use Rattle.read_steps.specs.declared.wanted.Held.{Held}
use Rattle.core_state.proofs.Seats.{seat_written}
use Rattle.core_state.specs.Begun.{held_size, span_of}
use Rattle.core_state.specs.Events.{FetchBegun, Over, at_moment, line_due, line_fetching}
use Rattle.core_state.specs.State.{CoreState, IsTableOf, handle_of, is_past_moment, seat_of, table_at}
use Rattle.core_state.specs.Views.{held_value}
use Rattle.core_state.specs.declared.advance.Advance.{Advance}
use Rattle.core_state.specs.declared.seat.Handle.{Handle}
use Rattle.core_state.specs.declared.seat.Seat.{Seat}
use Rattle.core_looks.specs.Due.{granted_due, no_handle_due, reply_due}
use Rattle.core_reads.proofs.Fetched.{FetchDue, fetch_comes, handle_there}
use Rattle.core_parts.proofs.Made.{first_inside, made_on, made_over}
use Rattle.core_parts.specs.Moments.{IsMade, told_at}
use Rattle.core_reading.proofs.Found.{free_pin, part_begins}
use Rattle.core_reading.specs.Handles.{BeginsFetch, InTransaction, slice_read}
use Rattle.core_reading.specs.Reads.{CanBegin}
use Rattle.core_sights.specs.Ready.{IsReady}
use Rattle.command_set.specs.declared.Command.TheVariants as commands
use Rattle.command_set.specs.declared.Reply.TheVariants as replies
use Rattle.core_state.specs.declared.seat.Job.TheVariants as jobs
use Rattle.read_steps.specs.declared.wanted.Held.TheVariants as helds

-- ---- the read of a slice of a kept value

-- it may make its first step
held_way : (held : Held) (span : Span) → IsUnderWay (stage_held held span)
held_way (helds.Inline value) span = tt
held_way (helds.Out pointer) span = tt

held_begins : (index : Index) (s : ℕ) (held : Held) (span : Span) → pin_of index.pins s ≡ None → IfSome (fetch_at s (stage_held held span)) (λ (fetch : Fetching). CanStep index fetch.walk)
held_begins index s (helds.Inline value) span free = tt
held_begins index s (helds.Out pointer) span free = part_begins index s (Out pointer) span free

-- ---- a fetch of an open handle

-- the read that is due by its offset
abbrev pub fetch_read : ℕ → ℕ → ℤ → Handle → Reading
fetch_read s n len handle = held_read handle.held (span_of (held_size handle.held) (pos n) len) s

-- the rest of its refusals
rest_due : (c : CoreState) (s name : ℕ) (offset len : ℤ) → InTransaction c s → reply_due c s (commands.Fetch name offset len) ≡ first_of (no_handle_due c s name ∷ bad_offset offset ∷ []) (granted_due c s (commands.Fetch name offset len))
rest_due c s name offset len inside = first_inside (seat_of c s).state (no_handle_due c s name ∷ bad_offset offset ∷ []) (granted_due c s (commands.Fetch name offset len)) inside.inside

named_due : (c : CoreState) (s name : ℕ) (offset len : ℤ) (o : Option Handle) → InTransaction c s → handle_of (seat_of c s).handles name ≡ o
    → reply_due c s (commands.Fetch name offset len) ≡ first_of (answers_if (is_none o) replies.NoHandle ∷ bad_offset offset ∷ []) (replies.Bytes (slice (option_map_or (λ (h : Handle). held_value c.tables h.table h.held) o []) offset len))
named_due c s name offset len o inside at =
    rest_due c s name offset len inside
    ∙ ap (λ (x : Option Handle). first_of (answers_if (is_none x) replies.NoHandle ∷ bad_offset offset ∷ []) (replies.Bytes (slice (option_map_or (λ (h : Handle). held_value c.tables h.table h.held) x []) offset len))) at

pub fetch_due : (c : CoreState) (s name n : ℕ) (len : ℤ) (handle : Handle) → InTransaction c s → handle_of (seat_of c s).handles name ≡ Some handle → FetchDue c s name n len
fetch_due c s name n len handle inside at = record { handle = handle; inside = inside.inside; at = at; said = named_due c s name (pos n) len (Some handle) inside at }

-- it may begin
pub fetch_can : (c : CoreState) (s name n : ℕ) (len : ℤ) (handle : Handle) → InTransaction c s → handle_of (seat_of c s).handles name ≡ Some handle → CanBegin (table_at c.tables handle.table).toast (fetch_read s n len handle)
unfolding fetch_due
fetch_can c s name n len handle inside at = record {
  can = record {
    under_way = held_way handle.held (span_of (held_size handle.held) (pos n) len);
    can_step = held_begins (table_at c.tables handle.table).toast.index s handle.held (span_of (held_size handle.held) (pos n) len) (free_pin c s handle.table inside.ready);
  };
  comes = ap is_some (fetch_comes c s name n len (fetch_due c s name n len handle inside at) inside.ready.there inside.ready.parts inside.ready.sound);
}

-- of the read that the code has made
pub begins_by : (c : CoreState) (s name : ℕ) (offset len : ℤ) (handle : Handle) (o : Option Reading) (read : Reading) → InTransaction c s → handle_of (seat_of c s).handles name ≡ Some handle → o ≡ slice_read s offset len handle.held → o ≡ Some read → CanBegin (table_at c.tables handle.table).toast read
begins_by c s name (pos n) len handle o read inside at due some =
    let is : fetch_read s n len handle ≡ read = cc in
    subst (CanBegin (table_at c.tables handle.table).toast) is (fetch_can c s name n len handle inside at)
begins_by c s name (negsuc n) len handle o read inside at due some = absurd (cc)

-- a handle's table is there, and its value is not too long
pub table_there : (c : CoreState) (s name : ℕ) (handle : Handle) → IsReady c s → handle_of (seat_of c s).handles name ≡ Some handle → IsTableOf c.tables handle.table
table_there c s name handle ready at = (handle_there c s name handle ready.there at ready.sound).1.of_table

pub held_most : (c : CoreState) (s name : ℕ) (handle : Handle) → IsReady c s → handle_of (seat_of c s).handles name ≡ Some handle → held_size handle.held ≤ 65536
held_most c s name handle ready at = (handle_there c s name handle ready.there at ready.sound).1.most

-- ---- its moment

fetch_made : (c : CoreState) (s name n : ℕ) (len : ℤ) (handle : Handle) (new : CoreState) (advance : Advance) → InTransaction c s → handle_of (seat_of c s).handles name ≡ Some handle → BeginsFetch c s handle.table (fetch_read s n len handle) new advance
    → IsMade c s (commands.Fetch name (pos n) len) new advance
unfolding fetch_due
fetch_made c s name n len handle new advance inside at begins = by (needs_store read) refl
  where
    read : Reading
    read = fetch_read s n len handle

    reply : Reply
    reply = replies.Bytes (slice (held_value c.tables handle.table handle.held) (pos n) len)

    due : reply_due c s (commands.Fetch name (pos n) len) ≡ reply
    due = named_due c s name (pos n) len (Some handle) inside at

    told : advance ≡ told_at (needs_store read) reply
    told = begins.told reply (fetch_comes c s name n len (fetch_due c s name n len handle inside at) inside.ready.there inside.ready.parts inside.ready.sound ∙ ap Some due)

    line : line_due c s (commands.Fetch name (pos n) len) reply ≡ line_fetching (seat_of c s).state handle.table read
    line = ap (λ (o : Option Handle). option_map_or (λ (h : Handle). line_fetching (seat_of c s).state h.table (held_read h.held (span_of (held_size h.held) (pos n) len) s)) o (Over (seat_of c s).state)) at

    by : (b : Bool) → needs_store read ≡ b → IsMade c s (commands.Fetch name (pos n) len) new advance
    by true e =
        let is : new ≡ at_moment (FetchBegun handle.table read) c s = begins.is ∙ ap (λ (b : Bool). at_moment (if b then FetchBegun handle.table read else Over (seat_of c s).state) c s) e in
        made_on c s (commands.Fetch name (pos n) len) reply (line_fetching (seat_of c s).state handle.table read) new advance due line begins.is
        (ap (λ (v : CoreState). is_past_moment (seat_of v s).job) is ∙ ap (λ (seat : Seat). is_past_moment seat.job) (seat_written c.seats s (record (seat_of c s) { job = jobs.Reading handle.table None read }) inside.ready.there))
        (told ∙ ap (λ (b : Bool). told_at b reply) e)
    by false e =
        let is : new ≡ at_moment (Over (seat_of c s).state) c s = begins.is ∙ ap (λ (b : Bool). at_moment (if b then FetchBegun handle.table read else Over (seat_of c s).state) c s) e in
        made_over c s (commands.Fetch name (pos n) len) reply (line_fetching (seat_of c s).state handle.table read) new advance due line begins.is
        (ap (λ (v : CoreState). (seat_of v s).job) is ∙ ap (λ (seat : Seat). seat.job) (seat_written c.seats s (record (seat_of c s) { job = jobs.Idle }) inside.ready.there))
        (told ∙ ap (λ (b : Bool). told_at b reply) e)

pub read_made : (c : CoreState) (s name : ℕ) (offset len : ℤ) (handle : Handle) (o : Option Reading) (read : Reading) (new : CoreState) (advance : Advance) → InTransaction c s → handle_of (seat_of c s).handles name ≡ Some handle → o ≡ slice_read s offset len handle.held → o ≡ Some read
    → BeginsFetch c s handle.table read new advance → IsMade c s (commands.Fetch name offset len) new advance
read_made c s name (pos n) len handle o read new advance inside at due some begins =
    let is : read ≡ fetch_read s n len handle = cc in
    fetch_made c s name n len handle new advance inside at (subst (λ (r : Reading). BeginsFetch c s handle.table r new advance) is begins)
read_made c s name (negsuc n) len handle o read new advance inside at due some begins = absurd (cc)
