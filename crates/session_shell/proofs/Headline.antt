-- A script that has run.
use Rattle.std.proofs.Common.{◌≡◌, true, List, [], ◌++◌, replicate, length, sym, ap, ◌∙◌, subst}
use Rattle.command_set.specs.declared.Script.{Script}
use Rattle.command_set.specs.declared.JournalEntry.{JournalEntry}
use Rattle.command_set.specs.Journals.{first_run, is_complete, is_legal, run_of}
use Rattle.draw_counts.specs.Drawn.{ReachesIds}
use Rattle.session_shell.specs.Hubs.{HubState}
use Rattle.session_shell.specs.Turns.{Place, AreTurns, Leads, after_turns, first_hub, entries_of, places_in, at_start}
use Rattle.session_shell.specs.Follows.{AreOfItems, Finishes, IsIdle, RunsFinish, RunsItems, items_of}
use Rattle.session_shell.specs.Owed.{AreEnough, first_owed}
use Rattle.session_shell.proofs.Owing.{enough_first}
use Rattle.session_shell.specs.Replay.{HasRun}
use Rattle.session_shell.proofs.Turning.{ran_on}

-- a new hub that went through its schedule and finished has run its script
pub has_run : (script : Script) (a b c : HubState) → a.script ≡ script → a.journal ≡ [] → places_in a ≡ replicate (length script.sessions) at_start → a ≡ first_hub script → RunsItems a b (items_of a.script.schedule) → RunsFinish b c → is_legal c.script c.journal ≡ true → is_complete c.script c.journal ≡ true → ReachesIds c.script c.journal → IsIdle c → HasRun script c
has_run script a b c own empty places first r f legal complete draws idle =
    let all = ran_on a b c r.turns f.turns r.ran f.ran in
    let same : c.script ≡ script = all.script ∙ own in
    record {
      own = same;
      legal = subst (λ (s : Script). is_legal s c.journal ≡ true) same legal;
      complete = subst (λ (s : Script). is_complete s c.journal ≡ true) same complete;
      follows = record {
        scheduled = r.turns;
        finishing = f.turns;
        entries = sym (all.journal ∙ ap (λ (es : List JournalEntry). es ++ entries_of (r.turns ++ f.turns)) empty);
        each = subst (λ (ps : List Place). AreTurns script (first_run script) ps (r.turns ++ f.turns)) places
            (subst (λ (js : List JournalEntry). AreTurns script (run_of script js) (places_in a) (r.turns ++ f.turns)) empty
            (subst (λ (s : Script). AreTurns s (run_of s a.journal) (places_in a) (r.turns ++ f.turns)) own all.each));
        schedule = subst (λ (s : Script). AreOfItems (items_of s.schedule) r.turns) own r.each;
        finish = subst (λ (ps : List Place). Finishes script ps f.turns) (r.ran.places ∙ ap (λ (ps : List Place). after_turns ps r.turns) places)
            (subst (λ (s : Script). Finishes s (places_in b) f.turns) (r.ran.script ∙ own) f.finish);
        enough = subst (λ (ps : List Place). AreEnough script (first_run script) ps (first_owed script) (r.turns ++ f.turns)) (sym (ap places_in first) ∙ places)
            (enough_first script c (r.turns ++ f.turns) (subst (λ (hub : HubState). Leads hub (r.turns ++ f.turns) c) first all.chain));
      };
      draws = subst (λ (s : Script). ReachesIds s c.journal) same draws;
      idle = idle;
    }
