-- What the plain store says of a session's changes, by its core, and what the stream tells of them.
use Rattle.std.proofs.Common.{ap, arith, refl, ◌∙◌}
use Rattle.std.proofs.lemmas.Bool.Decides.{nat_tests}
use Rattle.std.specs.List.{cons_option, filter_map}
use Rattle.std.specs.Option.{option_map_or}
use Rattle.std.specs.Prelude.{Bool, Contains, List, None, Option, [], drop, false, if◌then◌else◌, length, map as mapped, take, true, ℕ, ◌++◌, ◌<◌, ◌==◌, ◌∷◌, ◌≡◌}
use Rattle.list_facts.proofs.Members.{first_in, later_in}
use Rattle.change_log.specs.declared.entry.LogEntry.{LogEntry}
use Rattle.xact_status.specs.Xacts.{IsAssigned, Xacts, next_xid}
use Rattle.tuple_layout.specs.declared.Place.{Place}
use Rattle.lock_table.specs.Held.{holds_row}
use Rattle.command_set.specs.Changes.{is_named, keys_of}
use Rattle.core_looks.specs.Due.{claim_of}
use Rattle.command_set.specs.Replies.{open_transaction}
use Rattle.command_set.specs.declared.Reply.{Reply}
use Rattle.command_set.specs.declared.Script.{Script}
use Rattle.command_set.specs.declared.state.Change.{Change}
use Rattle.command_set.specs.declared.state.Plain.{Plain}
use Rattle.command_set.specs.declared.state.Session.{Session}
use Rattle.command_set.specs.declared.state.Session.TheVariants as plain
use Rattle.command_set.specs.declared.state.Transaction.{Transaction}
use Rattle.lock_table.specs.Locks.{held_by}
use Rattle.table_state.specs.declared.table.Table.{Table}
use Rattle.core_state.proofs.Answered.{session_at_place}
use Rattle.core_state.proofs.Standing.{its_session}
use Rattle.core_state.specs.Coming.{xid_logged}
use Rattle.core_state.specs.Stands.{SessionStands, Stands, change_logged, change_of, changes_in}
use Rattle.core_state.specs.State.{CoreState, IsSession, is_open, seat_of}
use Rattle.core_state.specs.declared.seat.State.{State}
use Rattle.core_state.specs.declared.seat.State.TheVariants as states
use Rattle.change_stream.specs.Streams.{changes_of, written_as}
use Rattle.change_stream.specs.declared.written.Written.{Written}
use Rattle.core_outs.proofs.Commits.{changes_written}

-- ---- the plain store's

-- the changes of an open session are those that its core tells
pub changes_stand : (c : CoreState) (s : ℕ) (m : Plain) (replies : List (Option Reply)) → IsSession c.seats s → Stands c m replies → is_open (seat_of c s).state ≡ true → changes_of m s ≡ changes_in c.tables c.log.entries (seat_of c s)
changes_stand c s m replies there stands opened =
    let its = its_session c s m replies there stands in
    ap (λ (session : Session). option_map_or (λ (t : Transaction). t.changes) (open_transaction session) []) (session_at_place m s its.session its.from_one its.at)
    ∙ by (seat_of c s).state its.session opened its.stands
  where
    by : (state : State) (session : Session) → is_open state ≡ true → SessionStands c.xacts c.snaps (held_by c.locks s) c.log.entries c.tables m.latest (seat_of c s) state session
        → option_map_or (λ (t : Transaction). t.changes) (open_transaction session) [] ≡ changes_in c.tables c.log.entries (seat_of c s)
    by states.Outside session e stands_so = absurd (cc)
    by states.Failed session e stands_so = absurd (cc)
    by (states.Open level xid snapshot) plain.Outside e stands_so = absurd stands_so
    by (states.Open level xid snapshot) plain.Failed e stands_so = absurd stands_so
    by (states.Open level xid snapshot) (plain.Open t) e stands_so = stands_so.changes

-- and a session that is in no open transaction has none
pub changes_closed : (c : CoreState) (s : ℕ) (m : Plain) (replies : List (Option Reply)) → IsSession c.seats s → Stands c m replies → is_open (seat_of c s).state ≡ false → changes_of m s ≡ []
changes_closed c s m replies there stands closed =
    let its = its_session c s m replies there stands in
    ap (λ (session : Session). option_map_or (λ (t : Transaction). t.changes) (open_transaction session) []) (session_at_place m s its.session its.from_one its.at)
    ∙ by (seat_of c s).state its.session closed its.stands
  where
    by : (state : State) (session : Session) → is_open state ≡ false → SessionStands c.xacts c.snaps (held_by c.locks s) c.log.entries c.tables m.latest (seat_of c s) state session → option_map_or (λ (t : Transaction). t.changes) (open_transaction session) [] ≡ []
    by states.Outside plain.Outside e stands_so = refl
    by states.Outside plain.Failed e stands_so = absurd stands_so
    by states.Outside (plain.Open t) e stands_so = absurd stands_so
    by states.Failed plain.Outside e stands_so = absurd stands_so
    by states.Failed plain.Failed e stands_so = refl
    by states.Failed (plain.Open t) e stands_so = absurd stands_so
    by (states.Open level xid snapshot) session e stands_so = absurd (cc)

-- what an open session's changes name is what it claims
pub claims_stand : (c : CoreState) (s : ℕ) (m : Plain) (replies : List (Option Reply)) → IsSession c.seats s → Stands c m replies → is_open (seat_of c s).state ≡ true → (p : Place) → is_named (keys_of (changes_of m s)) p ≡ holds_row (held_by c.locks s).rows (claim_of p.table p.key)
claims_stand c s m replies there stands opened p =
    let its = its_session c s m replies there stands in
    ap (λ (session : Session). is_named (keys_of (option_map_or (λ (t : Transaction). t.changes) (open_transaction session) [])) p) (session_at_place m s its.session its.from_one its.at)
    ∙ by (seat_of c s).state its.session opened its.stands
  where
    by : (state : State) (session : Session) → is_open state ≡ true → SessionStands c.xacts c.snaps (held_by c.locks s) c.log.entries c.tables m.latest (seat_of c s) state session
        → is_named (keys_of (option_map_or (λ (t : Transaction). t.changes) (open_transaction session) [])) p ≡ holds_row (held_by c.locks s).rows (claim_of p.table p.key)
    by states.Outside session e stands_so = absurd (cc)
    by states.Failed session e stands_so = absurd (cc)
    by (states.Open level xid snapshot) plain.Outside e stands_so = absurd stands_so
    by (states.Open level xid snapshot) plain.Failed e stands_so = absurd stands_so
    by (states.Open level xid snapshot) (plain.Open t) e stands_so = stands_so.claimed p

-- an xid that was not given is that of no entry, which so tells none of its changes
pub none_logged : (tables : List Table) (xacts : Xacts) (log : List LogEntry) → ((entry : LogEntry) → Contains log entry → IsAssigned xacts (xid_logged entry)) → filter_map (change_of tables (next_xid xacts)) log ≡ []
none_logged tables xacts [] given = refl
none_logged tables xacts (entry ∷ log) given =
    let below = (given entry (first_in entry log entry refl)).below_next in
    let rest = none_logged tables xacts log (λ e there. given e (later_in entry log e there)) in
    by (xid_logged entry == next_xid xacts) refl below rest
  where
    by : (b : Bool) → (xid_logged entry == next_xid xacts) ≡ b → xid_logged entry < next_xid xacts → filter_map (change_of tables (next_xid xacts)) log ≡ []
        → cons_option (if b then change_logged tables entry else None) (filter_map (change_of tables (next_xid xacts)) log) ≡ []
    by true same below rest =
        let is : xid_logged entry ≡ next_xid xacts = grind (arith, nat_tests, same) in
        absurd (omega (arith, is, below))
    by false apart below rest = rest

-- ---- the stream's

-- the changes with their columns after a moment that leaves these
abbrev pub next_written : Script → List ℕ → List Written → List Change → List Written
next_written script kept ws left = take (length left) ws ++ mapped (λ change. written_as script change kept) (drop (length ws) left)

pub next_none : (script : Script) (kept : List ℕ) (ws : List Written) → next_written script kept ws [] ≡ []
next_none script kept [] = refl
next_none script kept (w ∷ ws) = refl

pub next_same : (script : Script) (kept : List ℕ) (ws : List Written) → next_written script kept ws (changes_written ws) ≡ ws
next_same script kept [] = refl
next_same script kept (w ∷ ws) = ap (λ rest. w ∷ rest) (next_same script kept ws)

pub next_more : (script : Script) (kept : List ℕ) (ws : List Written) (change : Change) → next_written script kept ws (changes_written ws ++ change ∷ []) ≡ ws ++ written_as script change kept ∷ []
next_more script kept [] change = refl
next_more script kept (w ∷ ws) change = ap (λ rest. w ∷ rest) (next_more script kept ws change)

-- of no change nothing is told
pub none_written : (ws : List Written) → changes_written ws ≡ [] → ws ≡ []
none_written [] e = refl
none_written (w ∷ ws) e = absurd (cc)
