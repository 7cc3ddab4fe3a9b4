-- What a turn of the hub makes of a pass, and what passes know of the sessions that have ended.
use Rattle.std.proofs.Common.{◌≡◌, ◌≤◌, ◌+◌, ◌-◌, ℕ, Bool, true, false, List, [], ◌++◌, Option, Some, None, length, refl, sym, ap, ◌∙◌, subst, inl, inr, arith, append-nil}
use Rattle.std.specs.Option.{unwrap_or}
use Rattle.std.proofs.lemmas.List.{length-map}
use Rattle.std.proofs.lemmas.Bool.{cases_lt}
use mathlib.Core.List.{IsPrefix}
use Rattle.command_set.specs.declared.Command.{Command}
use Rattle.command_set.specs.declared.JournalEntry.{JournalEntry}
use Rattle.command_set.specs.declared.Script.{Script}
use Rattle.command_set.specs.declared.journal.Run.{Run}
use Rattle.command_set.specs.declared.journal.Told.{Told}
use Rattle.command_set.specs.Journals.{command_at, has_ended, is_complete, is_legal, run_of, told_of, untold}
use Rattle.command_set.proofs.Numbered.{nth_is}
use Rattle.core_state.specs.State.{is_past_moment, seat_of}
use Rattle.turn_hall.specs.Passes.{Entry, Extends, PassModel, Took, Won, after_turn, longer, mine_after}
use Rattle.turn_hall.proofs.Prefixes.{longer_case, prefix_refl, prefix_trans}
use Rattle.session_shell.specs.declared.hub.Turn.{Turn}
use Rattle.session_shell.specs.declared.hub.Turn.TheVariants as turns
use Rattle.session_shell.specs.History.{history_of}
use Rattle.session_shell.specs.Hubs.{HubState, IsScript, LastIsRun, commands_of}
use Rattle.session_shell.specs.Turns.{BeginsBy, MakesTurn, Nothing, Place, TurnBy, TurnMade, end_of, entry_in, place_of, places_in, turn_made}
use Rattle.session_shell.proofs.Frames.{place_is}
use Rattle.shared_store.specs.Shares.{AreDone, AreDoneFrom, IsDone, SharesTurn, TellsLegal, positions_of}
use Rattle.shared_store.proofs.Ends.{complete_where_each, each_where_complete, ended_stays, ended_where_none}
use Rattle.shared_store.proofs.Histories.{begins_after, begins_journal, grows, mine_grows}

-- ---- a turn that does nothing

-- it has no entry, and its session no next command
record Leaves (script : Script) (place : Place) (t : TurnMade) : Type 0 where
  pub entry : t.entry ≡ None
  pub next : command_at script t.session (place.begun + 1) ≡ None

leaves_by : (script : Script) (run : Run) (place : Place) (t : TurnMade) (under_way : Bool) → t.end ≡ Nothing → TurnBy under_way script run place t → Leaves script place t
leaves_by script run place t true end h = absurd (h.made end)
leaves_by script run place t false end h = by (command_at script t.session (place.begun + 1)) refl h
  where
    by : (o : Option Command) → command_at script t.session (place.begun + 1) ≡ o → BeginsBy script run place t o → Leaves script place t
    by None is h = record { entry = h.entry; next = is }
    by (Some command) is h = absurd (h.made end)

-- after it the session has gone through its commands
pub nothing_left : (before after : HubState) (s : ℕ) (turn : Turn) → IsScript before.script → MakesTurn before s after turn → turn ≡ turns.Nothing → has_ended (told_of (run_of before.script after.journal) s) (length (commands_of before.script s)) ≡ true
nothing_left before after s turn rules made nothing =
    let t = turn_made s made.entry turn in
    let lead = made.ran.chain.1 in
    let run = run_of before.script before.journal in
    let place = place_of (places_in before) s in
    let rest = leaves_by before.script run place t place.under_way (ap end_of nothing) lead.turn in
    let journal : after.journal ≡ before.journal = made.ran.journal ∙ ap (λ o. before.journal ++ (entry_in o ++ [])) rest.entry ∙ append-nil before.journal in
    let one = lead.at.there.from_one in
    let place_here : place ≡ record { begun = (told_of run s).begun; under_way = is_past_moment (seat_of before.core s).job } =
    place_is run.told before.core.seats (s - 1) (omega (arith, lead.at.told, length-map run.told (λ (t : Told). t.reply))) (omega (arith, one, lead.at.there.within))
    ∙ ap (λ (o : Option Told). record { begun = (unwrap_or o untold).begun; under_way = is_past_moment (seat_of before.core s).job }) (sym (nth_is run.told s one)) in
    let none : command_at before.script s ((told_of run s).begun + 1) ≡ None = ap (λ (p : Place). command_at before.script s (p.begun + 1)) (sym place_here) ∙ rest.next in
    subst (λ (j : List JournalEntry). has_ended (told_of (run_of before.script j) s) (length (commands_of before.script s)) ≡ true) (sym journal) (ended_where_none before.script before.journal s rules none)

-- ---- a turn of the hub that a pass holds

pub turn_extends : (before after : HubState) (s : ℕ) (turn : Turn) → MakesTurn before s after turn → Extends (history_of before.journal) (history_of after.journal)
turn_extends before after s turn made = grows before.journal after.journal made.entry made.ran.journal

-- what the pass is once the hub has been given back
pub turn_shared : (script : Script) (before after : HubState) (old new : PassModel Script) (s : ℕ) (turn : Turn) → IsScript script → before.script ≡ script → old.seen ≡ history_of before.journal → MakesTurn before s after turn → is_legal after.script after.journal ≡ true
    → (turn ≡ turns.More → LastIsRun after s) → new ≡ after_turn old (history_of after.journal) → SharesTurn script old s new turn
turn_shared script before after old new s turn rules same seen made legal more is = record {
  before = before;
  after = after;
  same = same;
  begins = subst (λ h. IsPrefix h (history_of before.journal)) (sym seen) (prefix_refl (history_of before.journal));
  made = made;
  legal = ap (λ z. is_legal z after.journal) (sym (made.ran.script ∙ same)) ∙ legal;
  seen = ap (λ (p : PassModel Script). p.seen) is;
  mine = ap (λ (p : PassModel Script). p.mine) is ∙ ap (λ h. mine_after old.mine h (history_of after.journal)) seen ∙ mine_grows old.mine before.journal after.journal made.entry made.ran.journal;
  more = more;
  nothing = λ e. subst (λ z. has_ended (told_of (run_of z after.journal) s) (length (commands_of z s)) ≡ true) same (nothing_left before after s turn (subst IsScript (sym same) rules) made e);
}

-- what a pass is once it has taken the hub
pub waited_begins : (old mid : PassModel Script) (history : List Entry) → Took old history mid → IsPrefix old.seen mid.seen
waited_begins old mid history h = subst (IsPrefix old.seen) (sym (ap (λ (p : PassModel Script). p.seen) h.1.4)) h.0

pub waited_mine : (old mid : PassModel Script) (history : List Entry) → Took old history mid → mid.mine ≡ old.mine
waited_mine old mid history h = ap (λ (p : PassModel Script). p.mine) h.1.4

pub won_begins : (old mid : PassModel Script) (history : List Entry) → Won old history mid → IsPrefix old.seen mid.seen
won_begins old mid history h = subst (IsPrefix old.seen) (sym (ap (λ (p : PassModel Script). p.seen) h.2.2)) h.1

pub won_mine : (old mid : PassModel Script) (history : List Entry) → Won old history mid → mid.mine ≡ old.mine
won_mine old mid history h = ap (λ (p : PassModel Script). p.mine) h.2.2

-- a turn of the pass before it took the hub
pub turn_taken : (script : Script) (old mid new : PassModel Script) (s : ℕ) (turn : Turn) → IsPrefix old.seen mid.seen → mid.mine ≡ old.mine → SharesTurn script mid s new turn → SharesTurn script old s new turn
turn_taken script old mid new s turn begins mine h = record {
  before = h.before;
  after = h.after;
  same = h.same;
  begins = prefix_trans old.seen mid.seen _ begins h.begins;
  made = h.made;
  legal = h.legal;
  seen = h.seen;
  mine = h.mine ∙ ap (λ (ps : List ℕ). ps ++ positions_of h.made.entry (length h.before.journal)) mine;
  more = h.more;
  nothing = h.nothing;
}

-- what a pass has seen after a turn
pub turn_seen : (script : Script) (old new : PassModel Script) (s : ℕ) (turn : Turn) → SharesTurn script old s new turn → IsPrefix old.seen new.seen
turn_seen script old new s turn h =
    subst (IsPrefix old.seen) (sym h.seen) (prefix_trans old.seen _ _ h.begins (begins_after h.before.journal h.after.journal h.made.entry h.made.ran.journal))

pub turn_tells : (script : Script) (old new : PassModel Script) (s : ℕ) (turn : Turn) → SharesTurn script old s new turn → TellsLegal script new.seen
turn_tells script old new s turn h = record { journal = h.after.journal; is = sym h.seen; legal = h.legal }

pub turn_done : (script : Script) (old new : PassModel Script) (s : ℕ) (turn : Turn) → SharesTurn script old s new turn → turn ≡ turns.Nothing → IsDone script s new.seen
unfolding turn_tells
turn_done script old new s turn h e = record { tells = turn_tells script old new s turn h; ended = h.nothing e }

-- ---- passes made one

pub tells_longer : (script : Script) (xs ys : List Entry) → TellsLegal script xs → TellsLegal script ys → TellsLegal script (longer xs ys)
tells_longer script xs ys h k = longer_case (TellsLegal script) xs ys h k

pub tells_none : (script : Script) → TellsLegal script []
tells_none script = record { journal = []; is = refl; legal = refl }

-- ---- sessions that have ended

stays : (script : Script) (s : ℕ) (xs : List Entry) (journal : List JournalEntry) → IsDone script s xs → IsPrefix xs (history_of journal) → is_legal script journal ≡ true → has_ended (told_of (run_of script journal) s) (length (commands_of script s)) ≡ true
stays script s xs journal h begins legal =
    let es = h.tells.journal in
    let split = begins_journal es journal (subst (λ l. IsPrefix l (history_of journal)) (sym h.tells.is) begins) in
    subst (λ j. has_ended (told_of (run_of script j) s) (length (commands_of script s)) ≡ true) (sym split.1)
    (ended_stays script es split.0 s (ap (is_legal script) (sym split.1) ∙ legal) h.ended)

-- a session that is over stays so
pub done_later : (script : Script) (s : ℕ) (xs ys : List Entry) → IsDone script s xs → IsPrefix xs ys → TellsLegal script ys → IsDone script s ys
done_later script s xs ys h begins tells = record { tells = tells; ended = stays script s xs tells.journal h (subst (IsPrefix xs) (sym tells.is) begins) tells.legal }

-- where all sessions are, the journal is complete
pub done_all : (script : Script) (xs : List Entry) → TellsLegal script xs → ((s : ℕ) → 1 ≤ s → s ≤ length script.sessions → IsDone script s xs) → AreDone script xs
done_all script xs tells each = record {
  tells = tells;
  complete = complete_where_each script tells.journal (λ s one within. stays script s xs tells.journal (each s one within) (subst (IsPrefix xs) (sym tells.is) (prefix_refl xs)) tells.legal);
}

-- and so is each legal journal that begins with it
pub complete_later : (script : Script) (xs : List Entry) (journal : List JournalEntry) → AreDone script xs → IsPrefix xs (history_of journal) → is_legal script journal ≡ true → is_complete script journal ≡ true
complete_later script xs journal h begins legal = complete_where_each script journal (λ s one within.
    stays script s xs journal (record { tells = h.tells; ended = each_where_complete script h.tells.journal s h.complete one within }) begins legal)

-- ---- sessions in a row

pub done_one : (script : Script) (from count : ℕ) (xs : List Entry) → count ≡ 1 → IsDone script from xs → AreDoneFrom script from count xs
done_one script from count xs one h = record { each = λ s low high. let same : from ≡ s = omega (arith, low, high, one) in subst (λ k. IsDone script k xs) same h }

-- both halves, as a pass knows that has seen what either's had seen
pub done_both : (script : Script) (from low up high count : ℕ) (xs ys zs : List Entry) → up ≡ from + low → low + high ≡ count → AreDoneFrom script from low xs → AreDoneFrom script up high ys → IsPrefix xs zs → IsPrefix ys zs → TellsLegal script zs → AreDoneFrom script from count zs
done_both script from low up high count xs ys zs next sum h k begins begins' tells = record {
  each = λ s first last. elim (cases_lt s up) [
    | inl below ↦ done_later script s xs zs (h.each s first (omega (arith, below, next))) begins tells
    | inr past ↦ done_later script s ys zs (k.each s past (omega (arith, last, next, sum))) begins' tells
  ];
}
