-- What came of a command that runs a script, by its status, and what that says.
use Rattle.std.proofs.Common.{◌≡◌, ℕ, List, length, drop, length-drop, Option, Some, Result, Ok, Err, ◌⊎◌, inl, inr, refl, sym, ap, ◌∙◌, arith, subst}
use Rattle.std.specs.Prelude.{◌≢◌, true}
use Rattle.toast_io.specs.Faults.{HasRisen}
use Rattle.toast_io.specs.Source.{Takes, TakesUpTo}
use Rattle.toast_io.specs.ReadAll.{IsWhole}
use Rattle.toast_io.proofs.Told.{told_whole, told_taken}
use Rattle.command_set.specs.declared.Script.{Script}
use Rattle.command_set.specs.Journals.{is_complete, is_legal}
use Rattle.draw_counts.specs.Drawn.{ReachesIds}
use Rattle.script_text.specs.Scripts.{script_in}
use Rattle.script_words.specs.declared.fault.LineFault.{LineFault}
use Rattle.script_text.specs.declared.fault.ScriptFault.{ScriptFault}
use Rattle.script_text.specs.declared.fault.ScriptFault.TheVariants as scripts
use Rattle.session_shell.specs.Hubs.{HubState}
use Rattle.session_shell.specs.Follows.{IsIdle, IsOfTurns, RunsFinish}
use Rattle.session_shell.specs.Replay.{PrintsBy, ReadsByAnswer, ReadsNoScript, ReadsScript, TellsWhole, Told, WritesNothing}
use Rattle.session_shell.specs.declared.Status.{Status}
use Rattle.session_shell.specs.declared.Status.TheVariants.{Done, Usage, BadScript, ReadFault, WriteFault, TooLong, Memory}
use Rattle.session_shell.proofs.Outcomes.{taken_whole}
use Rattle.toast_program.specs.Runs.{HasRunFreely, PrintsPart, PrintsText, PrintsWanting, RunsBy}

-- what came of it, by its status
abbrev OutcomeBy : (Script → HubState → Type 0) → Told → Status → Type 0
OutcomeBy P t Done = PrintsText P t
OutcomeBy P t Usage = ⊥
OutcomeBy P t (BadScript line) = ReadsNoScript t.left t.left' line × WritesNothing t.written t.written' t.kept'
OutcomeBy P t ReadFault = TakesUpTo t.left t.left' 4194304 × HasRisen t.reads t.reads' × WritesNothing t.written t.written' t.kept'
OutcomeBy P t WriteFault = PrintsPart P t × HasRisen t.writes t.writes'
OutcomeBy P t TooLong = Takes t.left t.left' 4194305 × WritesNothing t.written t.written' t.kept'
OutcomeBy P t Memory = TakesUpTo t.left t.left' 4194304 × (WritesNothing t.written t.written' t.kept' ⊎ PrintsWanting P t)

-- what was taken within the limit is not one byte more
not_one_more : (old new : Option (List ℕ)) (left : List ℕ) → old ≡ Some left → TakesUpTo old new 4194304 → Takes old new 4194305 → ⊥
not_one_more old new left told some more =
    let a = told_taken old new some.count left told some.takes in
    let b = told_taken old new 4194305 left told more in
    let same : drop some.count left ≡ drop 4194305 left = cc (a.1, b.1) in
    omega (arith, a.0, b.0, some.within, length-drop some.count left, length-drop 4194305 left, ap length same)

whole_not_more : (old new : Option (List ℕ)) (bytes left : List ℕ) → old ≡ Some left → IsWhole 4194304 old new bytes → Takes old new 4194305 → ⊥
whole_not_more old new bytes left told whole more = not_one_more old new left told (taken_whole old new bytes whole) more

command_of : (P : Script → HubState → Type 0) (t : Told) (status : Status) → OutcomeBy P t status → status ≢ Usage
command_of P t status h e = absurd (subst (OutcomeBy P t) e h)

unwritten_of : (P : Script → HubState → Type 0) (t : Told) (status : Status) → OutcomeBy P t status → status ≢ Done → status ≢ WriteFault → status ≢ Memory → WritesNothing t.written t.written' t.kept'
unwritten_of P t Done h a b c = absurd (a refl)
unwritten_of P t Usage h a b c = absurd h
unwritten_of P t (BadScript line) h a b c = h.1
unwritten_of P t ReadFault h a b c = h.2
unwritten_of P t WriteFault h a b c = absurd (b refl)
unwritten_of P t TooLong h a b c = h.1
unwritten_of P t Memory h a b c = absurd (c refl)

-- one byte more than the limit is taken only where the script is too long
taken_of : (P : Script → HubState → Type 0) (t : Told) (status : Status) (left : List ℕ) → OutcomeBy P t status → t.left ≡ Some left → Takes t.left t.left' 4194305 → status ≡ TooLong
taken_of P t Done left h told more = absurd (whole_not_more t.left t.left' h.by.reads.bytes left told h.by.reads.whole more)
taken_of P t Usage left h told more = absurd h
taken_of P t (BadScript line) left h told more = absurd (whole_not_more t.left t.left' h.0.bytes left told h.0.whole more)
taken_of P t ReadFault left h told more = absurd (not_one_more t.left t.left' left told h.0 more)
taken_of P t WriteFault left h told more = absurd (whole_not_more t.left t.left' h.0.by.reads.bytes left told h.0.by.reads.whole more)
taken_of P t TooLong left h told more = refl
taken_of P t Memory left h told more = absurd (not_one_more t.left t.left' left told h.0 more)

same_line : (n m : ℕ) (c d : LineFault) → ◌≡◌ {A = Result Script ScriptFault} (Err (scripts.BadScript n c)) (Err (scripts.BadScript m d)) → n ≡ m
same_line n m c d e = cc

told_bytes : (t : Told) (bytes whole : List ℕ) → t.left ≡ Some bytes → IsWhole 4194304 t.left t.left' whole → bytes ≡ whole
told_bytes t bytes whole told h = sym (told_whole t.left t.left' whole bytes told h.reads).0

-- bytes that are no script were not read as one, and the other way round
no_script : (t : Told) (script : Script) (bytes : List ℕ) (fault : ScriptFault) → ReadsScript t.left t.left' script → t.left ≡ Some bytes → script_in bytes ≡ Err fault → ⊥
no_script t script bytes fault reads told bad =
    let clash : Err fault ≡ Ok script = sym bad ∙ ap script_in (told_bytes t bytes reads.bytes told reads.whole) ∙ reads.spelled in cc

is_script : (t : Told) (script : Script) (bytes : List ℕ) (line : ℕ) → ReadsNoScript t.left t.left' line → t.left ≡ Some bytes → script_in bytes ≡ Ok script → ⊥
is_script t script bytes line reads told good =
    let clash : ◌≡◌ {A = Result Script ScriptFault} (Ok script) (Err (scripts.BadScript line reads.cause)) = sym good ∙ ap script_in (told_bytes t bytes reads.bytes told reads.whole) ∙ reads.refused in cc

not_too_long : (t : Told) (bytes : List ℕ) → TellsWhole t.left t.reads t.reads' bytes → Takes t.left t.left' 4194305 → ⊥
not_too_long t bytes tells more = omega (arith, (told_taken t.left t.left' 4194305 bytes tells.told more).0, tells.within)

-- bytes that are no script are refused at their first bad line
refuses_of : (P : Script → HubState → Type 0) (t : Told) (status : Status) (bytes : List ℕ) (line : ℕ) (cause : LineFault) → OutcomeBy P t status → TellsWhole t.left t.reads t.reads' bytes → script_in bytes ≡ Err (scripts.BadScript line cause) → (status ≡ BadScript line) ⊎ (status ≡ Memory)
refuses_of P t Done bytes line cause h tells bad = absurd (no_script t h.by.script bytes _ h.by.reads tells.told bad)
refuses_of P t Usage bytes line cause h tells bad = absurd h
refuses_of P t (BadScript n) bytes line cause h tells bad =
    let clash : ◌≡◌ {A = Result Script ScriptFault} (Err (scripts.BadScript line cause)) (Err (scripts.BadScript n h.0.cause)) = sym bad ∙ ap script_in (told_bytes t bytes h.0.bytes tells.told h.0.whole) ∙ h.0.refused in
    inl (ap BadScript (same_line n line h.0.cause cause (sym clash)))
refuses_of P t ReadFault bytes line cause h tells bad = absurd (tells.sound h.1)
refuses_of P t WriteFault bytes line cause h tells bad = absurd (no_script t h.0.by.script bytes _ h.0.by.reads tells.told bad)
refuses_of P t TooLong bytes line cause h tells bad = absurd (not_too_long t bytes tells h.0)
refuses_of P t Memory bytes line cause h tells bad = inr refl

-- a script is done where no write failed
answers_of : (P : Script → HubState → Type 0) (t : Told) (status : Status) (bytes : List ℕ) (script : Script) → OutcomeBy P t status → TellsWhole t.left t.reads t.reads' bytes → ¬ (HasRisen t.writes t.writes') → script_in bytes ≡ Ok script → (status ≡ Done) ⊎ (status ≡ Memory)
answers_of P t Done bytes script h tells sound good = inl refl
answers_of P t Usage bytes script h tells sound good = absurd h
answers_of P t (BadScript n) bytes script h tells sound good = absurd (is_script t script bytes n h.0 tells.told good)
answers_of P t ReadFault bytes script h tells sound good = absurd (tells.sound h.1)
answers_of P t WriteFault bytes script h tells sound good = absurd (sound h.1)
answers_of P t TooLong bytes script h tells sound good = absurd (not_too_long t bytes tells h.0)
answers_of P t Memory bytes script h tells sound good = inr refl

-- what came of it says what was promised
promised : (P : Script → HubState → Type 0) (t : Told) (status : Status) → OutcomeBy P t status → RunsBy P t status
promised P t status h = record {
  command = command_of P t status h;
  done = λ e. subst (OutcomeBy P t) e h;
  write_fault = λ e. (subst (OutcomeBy P t) e h).0;
  memory = λ e. (subst (OutcomeBy P t) e h).1;
  unwritten = unwritten_of P t status h;
  read_cause = λ e. (subst (OutcomeBy P t) e h).1;
  write_cause = λ e. (subst (OutcomeBy P t) e h).1;
  too_long = λ e. (subst (OutcomeBy P t) e h).0;
  taken = λ bytes told more. taken_of P t status bytes h told more;
  bad_script = λ line e. (subst (OutcomeBy P t) e h).0;
  refuses = λ bytes line cause tells bad. refuses_of P t status bytes line cause h tells bad;
  answers = λ bytes script tells sound good. answers_of P t status bytes script h tells sound good;
}

-- no script was read
unread_outcome : (P : Script → HubState → Type 0) (t : Told) (status : Status) → ReadsByAnswer t.left t.left' (Err status) → (status ≡ ReadFault → HasRisen t.reads t.reads') → WritesNothing t.written t.written' t.kept' → OutcomeBy P t status
unread_outcome P t Done reads risen none = absurd reads
unread_outcome P t Usage reads risen none = absurd reads
unread_outcome P t (BadScript line) reads risen none = (reads, none)
unread_outcome P t ReadFault reads risen none = (reads, risen refl, none)
unread_outcome P t WriteFault reads risen none = absurd reads
unread_outcome P t TooLong reads risen none = (reads, none)
unread_outcome P t Memory reads risen none = (reads, inl none)

pub unread : (P : Script → HubState → Type 0) (t : Told) (status : Status) → ReadsByAnswer t.left t.left' (Err status) → (status ≡ ReadFault → HasRisen t.reads t.reads') → WritesNothing t.written t.written' t.kept' → RunsBy P t status
unread P t status reads risen none = promised P t status (unread_outcome P t status reads risen none)

-- a script was read, and there was no memory to run it
pub unrun : (P : Script → HubState → Type 0) (t : Told) (script : Script) → ReadsScript t.left t.left' script → WritesNothing t.written t.written' t.kept' → RunsBy P t Memory
unrun P t script reads none = promised P t Memory (taken_whole t.left t.left' reads.bytes reads.whole, inl none)

-- a hub ran a script, and its lines were printed
printed_outcome : (P : Script → HubState → Type 0) (t : Told) (script : Script) (hub : HubState) (status : Status) → ReadsScript t.left t.left' script → P script hub → t.kept' ≡ Some hub → PrintsBy hub t.written t.written' t.writes t.writes' status → OutcomeBy P t status
printed_outcome P t script hub Done reads run is h = record { by = record { script = script; reads = reads; hub = hub; is = is; run = run }; sound = h.0; text = h.1 }
printed_outcome P t script hub Usage reads run is h = absurd h
printed_outcome P t script hub (BadScript line) reads run is h = absurd h
printed_outcome P t script hub ReadFault reads run is h = absurd h
printed_outcome P t script hub WriteFault reads run is h = (record { by = record { script = script; reads = reads; hub = hub; is = is; run = run }; part = h.0 }, h.1)
printed_outcome P t script hub TooLong reads run is h = absurd h
printed_outcome P t script hub Memory reads run is h = (taken_whole t.left t.left' reads.bytes reads.whole, inr (record { by = record { script = script; reads = reads; hub = hub; is = is; run = run }; wanting = h.0; text = h.1 }))

pub printed : (P : Script → HubState → Type 0) (t : Told) (script : Script) (hub : HubState) (status : Status) → ReadsScript t.left t.left' script → P script hub → t.kept' ≡ Some hub → PrintsBy hub t.written t.written' t.writes t.writes' status → RunsBy P t status
printed P t script hub status reads run is h = promised P t status (printed_outcome P t script hub status reads run is h)

-- a hub whose turns are made has run its script
pub has_run_freely : (script : Script) (a b : HubState) → a.script ≡ script → RunsFinish a b → IsOfTurns b.script b.journal → is_legal b.script b.journal ≡ true → is_complete b.script b.journal ≡ true → ReachesIds b.script b.journal → IsIdle b → HasRunFreely script b
has_run_freely script a b own f turns legal complete draws idle =
    let same : b.script ≡ script = f.ran.script ∙ own in
    record {
      own = same;
      legal = subst (λ (s : Script). is_legal s b.journal ≡ true) same legal;
      complete = subst (λ (s : Script). is_complete s b.journal ≡ true) same complete;
      turns = subst (λ (s : Script). IsOfTurns s b.journal) same turns;
      draws = subst (λ (s : Script). ReachesIds s b.journal) same draws;
      idle = idle;
    }
