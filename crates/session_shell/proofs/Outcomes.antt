-- What a replay's words and outcomes say.
use Rattle.std.proofs.Common.{◌≡◌, ◌≤◌, ℕ, List, length, drop, length-drop, Option, Some, None, Result, Ok, Err, ◌⊎◌, inl, inr, refl, sym, ap, ◌∙◌, arith, subst}
use Rattle.std.specs.Prelude.{IsTrue, ◌↔◌, ◌≢◌, true, false}
use Rattle.std.proofs.Math.Seq.{drop-length}
use Rattle.command_words.specs.Commands.{command_in}
use Rattle.command_words.specs.declared.CommandWords.{CommandWords}
use Rattle.command_words.specs.declared.CommandWords.TheVariants as commands
use Rattle.command_words.proofs.Spelled.{commands_spelled}
use Rattle.toast_io.specs.Source.{Takes, TakesUpTo}
use Rattle.toast_io.specs.ReadAll.{IsWhole}
use Rattle.toast_io.proofs.Told.{told_whole, told_taken}
use Rattle.command_set.specs.declared.Script.{Script}
use Rattle.script_text.specs.Scripts.{script_in}
use Rattle.script_words.specs.declared.fault.LineFault.{LineFault}
use Rattle.script_text.specs.declared.fault.ScriptFault.{ScriptFault}
use Rattle.script_text.specs.declared.fault.ScriptFault.TheVariants as scripts
use Rattle.toast_io.specs.Faults.{HasRisen}
use Rattle.session_shell.specs.Hubs.{HubState}
use Rattle.session_shell.specs.Replay.{replay_words, HasRun, PrintsBy, ReadsScript, TellsWhole, Told, Replays}
use Rattle.session_shell.specs.declared.Status.{Status}
use Rattle.session_shell.specs.declared.Status.TheVariants.{Done, Usage, BadScript, ReadFault, WriteFault, TooLong, Memory}

-- words are read as `replay` exactly where they are that one word
pub read_replay : (words : List (List ℕ)) → command_in words ≡ Some commands.Replay → IsTrue true ↔ (words ≡ replay_words)
read_replay words is = (λ yes. ((commands_spelled words commands.Replay).0 is).1, λ same. refl)

pub read_other : (words : List (List ℕ)) (read : Option CommandWords) → read ≡ command_in words → read ≢ Some commands.Replay → IsTrue false ↔ (words ≡ replay_words)
read_other words read is other = (λ no. absurd (cc), λ same. absurd (other (is ∙ (commands_spelled words commands.Replay).1 (tt, same))))

-- all that was left is taken
pub taken_whole : (old new : Option (List ℕ)) (bytes : List ℕ) → IsWhole 4194304 old new bytes → TakesUpTo old new 4194304
taken_whole None new bytes whole = record { count = 0; within = omega arith; takes = record { there = tt; rest = tt } }
taken_whole (Some left) new bytes whole =
    let told = told_whole (Some left) new bytes left refl whole.reads in
    record {
      count = length left;
      within = subst (λ (bs : List ℕ). length bs ≤ 4194304) told.0 whole.within;
      takes = record { there = omega arith; rest = told.1 ∙ ap Some (sym (drop-length left)) };
    }

-- what was taken within the limit is not one byte more
not_one_more : (old new : Option (List ℕ)) (left : List ℕ) → old ≡ Some left → TakesUpTo old new 4194304 → Takes old new 4194305 → ⊥
not_one_more old new left told some more =
    let a = told_taken old new some.count left told some.takes in
    let b = told_taken old new 4194305 left told more in
    let same : drop some.count left ≡ drop 4194305 left = cc (a.1, b.1) in
    omega (arith, a.0, b.0, some.within, length-drop some.count left, length-drop 4194305 left, ap length same)

whole_not_more : (old new : Option (List ℕ)) (bytes left : List ℕ) → old ≡ Some left → IsWhole 4194304 old new bytes → Takes old new 4194305 → ⊥
whole_not_more old new bytes left told whole more = not_one_more old new left told (taken_whole old new bytes whole) more

-- a source that stays as it was gave nothing
pub none_taken : (old : Option (List ℕ)) (left : List ℕ) → old ≡ Some left → Takes old old 4194305 → ⊥
none_taken old left told more =
    let b = told_taken old old 4194305 left told more in
    let same : left ≡ drop 4194305 left = cc (told, b.1) in
    omega (arith, b.0, length-drop 4194305 left, ap length same)

-- one byte more than the limit is taken only where the script is too long
pub too_long_taken : (t : Told) (status : Status) (left : List ℕ) → Replays t status → t.left ≡ Some left → Takes t.left t.left' 4194305 → status ≡ TooLong
too_long_taken t Done left h told more = absurd (whole_not_more t.left t.left' h.by.reads.bytes left told h.by.reads.whole more)
too_long_taken t Usage left h told more = absurd h
too_long_taken t (BadScript line) left h told more = absurd (whole_not_more t.left t.left' h.0.bytes left told h.0.whole more)
too_long_taken t ReadFault left h told more = absurd (not_one_more t.left t.left' left told h.0 more)
too_long_taken t WriteFault left h told more = absurd (whole_not_more t.left t.left' h.0.by.reads.bytes left told h.0.by.reads.whole more)
too_long_taken t TooLong left h told more = refl
too_long_taken t Memory left h told more = absurd (not_one_more t.left t.left' left told h.0 more)

same_line : (n m : ℕ) (c d : LineFault) → ◌≡◌ {A = Result Script ScriptFault} (Err (scripts.BadScript n c)) (Err (scripts.BadScript m d)) → n ≡ m
same_line n m c d e = cc

-- a hub that ran a script, and how its lines were printed
pub replays_by : (t : Told) (script : Script) (hub : HubState) (status : Status) → ReadsScript t.left t.left' script → HasRun script hub → t.kept' ≡ Some hub → PrintsBy hub t.written t.written' t.writes t.writes' status → Replays t status
replays_by t script hub Done reads run is h = record { by = record { script = script; reads = reads; hub = hub; is = is; run = run }; sound = h.0; text = h.1 }
replays_by t script hub Usage reads run is h = absurd h
replays_by t script hub (BadScript line) reads run is h = absurd h
replays_by t script hub ReadFault reads run is h = absurd h
replays_by t script hub WriteFault reads run is h = (record { by = record { script = script; reads = reads; hub = hub; is = is; run = run }; part = h.0 }, h.1)
replays_by t script hub TooLong reads run is h = absurd h
replays_by t script hub Memory reads run is h = (taken_whole t.left t.left' reads.bytes reads.whole, inr (record { by = record { script = script; reads = reads; hub = hub; is = is; run = run }; wanting = h.0; text = h.1 }))

told_bytes : (t : Told) (bytes whole : List ℕ) → t.left ≡ Some bytes → IsWhole 4194304 t.left t.left' whole → bytes ≡ whole
told_bytes t bytes whole told h = sym (told_whole t.left t.left' whole bytes told h.reads).0

-- no read failed, and not too much was taken
not_risen : (t : Told) (bytes : List ℕ) → TellsWhole t.left t.reads t.reads' bytes → HasRisen t.reads t.reads' → ⊥
not_risen t bytes tells risen = tells.sound risen

not_too_long : (t : Told) (bytes : List ℕ) → TellsWhole t.left t.reads t.reads' bytes → Takes t.left t.left' 4194305 → ⊥
not_too_long t bytes tells more = omega (arith, (told_taken t.left t.left' 4194305 bytes tells.told more).0, tells.within)

-- bytes that are no script are refused at their first bad line
pub refused_at : (t : Told) (status : Status) (bytes : List ℕ) (line : ℕ) (cause : LineFault) → Replays t status → TellsWhole t.left t.reads t.reads' bytes → script_in bytes ≡ Err (scripts.BadScript line cause) → (status ≡ BadScript line) ⊎ (status ≡ Memory)
refused_at t Done bytes line cause h tells bad = absurd (let same = told_bytes t bytes h.by.reads.bytes tells.told h.by.reads.whole in let spelled = h.by.reads.spelled in let clash : Err (scripts.BadScript line cause) ≡ Ok h.by.script = sym bad ∙ ap script_in same ∙ spelled in cc)
refused_at t Usage bytes line cause h tells bad = absurd h
refused_at t (BadScript n) bytes line cause h tells bad =
    let same = told_bytes t bytes h.0.bytes tells.told h.0.whole in
    let clash : ◌≡◌ {A = Result Script ScriptFault} (Err (scripts.BadScript line cause)) (Err (scripts.BadScript n h.0.cause)) = sym bad ∙ ap script_in same ∙ h.0.refused in
    inl (ap BadScript (same_line n line h.0.cause cause (sym clash)))
refused_at t ReadFault bytes line cause h tells bad = absurd (not_risen t bytes tells h.1)
refused_at t WriteFault bytes line cause h tells bad = absurd (let same = told_bytes t bytes h.0.by.reads.bytes tells.told h.0.by.reads.whole in let spelled = h.0.by.reads.spelled in let clash : Err (scripts.BadScript line cause) ≡ Ok h.0.by.script = sym bad ∙ ap script_in same ∙ spelled in cc)
refused_at t TooLong bytes line cause h tells bad = absurd (not_too_long t bytes tells h.0)
refused_at t Memory bytes line cause h tells bad = inr refl

-- a script is done where no write failed
pub answered : (t : Told) (status : Status) (bytes : List ℕ) (script : Script) → Replays t status → TellsWhole t.left t.reads t.reads' bytes → ¬ (HasRisen t.writes t.writes') → script_in bytes ≡ Ok script → (status ≡ Done) ⊎ (status ≡ Memory)
answered t Done bytes script h tells sound good = inl refl
answered t Usage bytes script h tells sound good = absurd h
answered t (BadScript n) bytes script h tells sound good =
    absurd (let same = told_bytes t bytes h.0.bytes tells.told h.0.whole in let clash : ◌≡◌ {A = Result Script ScriptFault} (Ok script) (Err (scripts.BadScript n h.0.cause)) = sym good ∙ ap script_in same ∙ h.0.refused in cc)
answered t ReadFault bytes script h tells sound good = absurd (not_risen t bytes tells h.1)
answered t WriteFault bytes script h tells sound good = absurd (sound h.1)
answered t TooLong bytes script h tells sound good = absurd (not_too_long t bytes tells h.0)
answered t Memory bytes script h tells sound good = inr refl
