-- The text of a hub's lines where nothing is under way.
use Rattle.std.proofs.Common.{◌≡◌, ◌<◌, ◌≤◌, ◌+◌, ◌-◌, inl, inr, ℕ, suc, Bool, true, false, List, [], ◌∷◌, ◌++◌, Option, Some, None, length, get_or, slice_get, take, drop, refl, sym, ap, ◌∙◌, arith, append-nil}
use Rattle.std.specs.Prelude.{is_some, ◌==◌, ◌&&◌, if◌then◌else◌}
use Rattle.std.specs.List.{flat_map}
use Rattle.std.specs.Option.{option_map, option_map_or}
use Rattle.std.proofs.lemmas.Bool.{cases_lt}
use Rattle.std.proofs.lemmas.List.{get_or_past, take-append-drop, take_more}
use Rattle.std.proofs.lemmas.List.Concat.{flat_map-append}
use Rattle.std.proofs.lemmas.Option.{slice_get_read, same_Some}
use Rattle.command_set.specs.declared.journal.Line.{Line}
use Rattle.command_set.specs.declared.Reply.{Reply}
use Rattle.command_set.specs.declared.Script.{Script}
use Rattle.transcript.specs.Lines.{reply_line}
use Rattle.command_set.specs.Journals.{command_at, run_of, told_of}
use Rattle.core_state.specs.declared.seat.Job.{Job}
use Rattle.core_state.specs.declared.seat.Seat.{Seat}
use Rattle.core_state.specs.State.{seat_of, nobody, is_past_moment}
use Rattle.session_shell.specs.declared.hub.KeptLine.{KeptLine}
use Rattle.session_shell.specs.declared.hub.Progress.{Progress}
use Rattle.session_shell.specs.Hubs.{HubState, IsHub, is_read, kept_of}
use Rattle.session_shell.specs.Turns.{Place}
use Rattle.session_shell.specs.Follows.{IsIdle}
use Rattle.session_shell.specs.Text.{AreSaid, line_text, said_by, said_text, text_of}
use Rattle.session_shell.proofs.Runs.{and_none}
use Rattle.session_shell.proofs.Kept.{KeptAs, kept_by, refit, said_of}
use Rattle.session_shell.proofs.Made.{place_in_is}

said_quiet : (script : Script) (begun : ℕ) (job : Job) (line : Line) → is_past_moment job ≡ false → kept_by script begun job line ≡ said_of line
said_quiet script begun job line quiet =
    ap (λ (b : Bool). record { session = line.session; number = line.number; reply = if (line.number == begun) && (b && option_map_or is_read (command_at script line.session line.number) false) then None else Some line.reply }) quiet
    ∙ ap (λ (b : Bool). record { session = line.session; number = line.number; reply = if b then None else Some line.reply }) (and_none (line.number == begun) false refl)

quiet_at : (hub : HubState) (ps : List Progress) (s : ℕ) → IsHub hub ps → IsIdle hub → 1 ≤ s → is_past_moment (seat_of hub.core s).job ≡ false
quiet_at hub ps s h idle one = elim (cases_lt (length hub.script.sessions) s) [
  | inl past ↦ ap (λ (seat : Seat). is_past_moment seat.job) (get_or_past hub.core.seats (s - 1) nobody (omega (arith, h.seats)))
  | inr within ↦
      ap (λ (p : Place). p.under_way) (sym (place_in_is hub.script hub.core hub.journal hub.kept ps (run_of hub.script hub.journal) s h one within))
      ∙ idle.each s (record { from_one = one; within = within })
]

-- each kept line is the printed one
pub kept_said : (hub : HubState) (ps : List Progress) → IsHub hub ps → IsIdle hub → KeptAs hub.kept said_of (run_of hub.script hub.journal).lines
kept_said hub ps h idle =
    let run = run_of hub.script hub.journal in
    refit hub.kept (kept_of hub.script run hub.core) said_of run.lines h.lines (λ k line there. said_quiet hub.script (told_of run line.session).begun (seat_of hub.core line.session).job line (quiet_at hub ps line.session h idle (h.from_one k line there)))

flat_said : (kept : List KeptLine) (lines : List Line) → KeptAs kept said_of lines → flat_map said_text kept ≡ flat_map line_text lines
flat_said [] [] seen = refl
flat_said [] (line ∷ lines) seen = absurd (let n = seen 0 in cc)
flat_said (k ∷ kept) [] seen = absurd (let n = seen 0 in cc)
flat_said (k ∷ kept) (line ∷ lines) seen =
    ap (λ (x : KeptLine). said_text x ++ flat_map said_text kept) (same_Some k (said_of line) (seen 0))
    ∙ ap (λ (bytes : List ℕ). line_text line ++ bytes) (flat_said kept lines (λ i. seen (suc i)))

said_at : (o : Option Line) (x : KeptLine) → option_map said_of o ≡ Some x → is_some x.reply ≡ true
said_at None x e = absurd (cc)
said_at (Some line) x e = ap (λ (y : KeptLine). is_some y.reply) (sym (same_Some (said_of line) x e))

pub all_said : (hub : HubState) (ps : List Progress) → IsHub hub ps → IsIdle hub → AreSaid hub.kept
all_said hub ps h idle = record { each = λ k line there. said_at (slice_get (run_of hub.script hub.journal).lines k) line (sym (kept_said hub ps h idle k) ∙ there) }

-- the text of the kept lines is that of the printed ones
pub text_is : (hub : HubState) (ps : List Progress) → IsHub hub ps → IsIdle hub → flat_map said_text hub.kept ≡ text_of hub.script hub.journal
text_is hub ps h idle = flat_said hub.kept (run_of hub.script hub.journal).lines (kept_said hub ps h idle)

-- a line that has its reply
pub never_unsaid : (kept : List KeptLine) (i : ℕ) (line : KeptLine) → AreSaid kept → i < length kept → line ≡ get_or kept i line → line.reply ≡ None → ⊥
never_unsaid kept i line said within is none =
    let some : is_some line.reply ≡ true = said.each i line (slice_get_read kept (length kept) i line refl within is) in
    let not : is_some line.reply ≡ false = ap is_some none in
    cc

-- the text of one line more
pub said_more : (kept : List KeptLine) (i : ℕ) (line : KeptLine) (reply : Reply) → i < length kept → line ≡ get_or kept i line → line.reply ≡ Some reply → flat_map said_text (take (i + 1) kept) ≡ flat_map said_text (take i kept) ++ reply_line line.session line.number reply
said_more kept i line reply within is said =
    ap (flat_map said_text) (take_more kept i line within ∙ ap (λ (x : KeptLine). take i kept ++ x ∷ []) (sym is))
    ∙ flat_map-append said_text (take i kept) (line ∷ [])
    ∙ ap (λ (text : List ℕ). flat_map said_text (take i kept) ++ text) (append-nil (said_text line) ∙ ap (said_by line.session line.number) said)

-- and of all
pub said_rest : (kept : List KeptLine) (i : ℕ) → flat_map said_text (take i kept) ++ flat_map said_text (drop i kept) ≡ flat_map said_text kept
said_rest kept i = sym (flat_map-append said_text (take i kept) (drop i kept)) ∙ ap (flat_map said_text) (take-append-drop i kept)
