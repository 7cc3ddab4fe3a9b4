-- What a journal tells, entry by entry.
use Rattle.std.proofs.Common.{◌≡◌, List, [], ◌∷◌, ◌++◌, Option, Some, None, refl, sym, ap, ◌∙◌}
use Rattle.command_set.specs.declared.JournalEntry.{JournalEntry}
use Rattle.command_set.specs.declared.Script.{Script}
use Rattle.command_set.specs.declared.journal.Run.{Run}
use Rattle.command_set.specs.Journals.{Moment, after_entry, after_moment, first_run, moment_of, moments_on, run_of, run_on, run_through, state_after}
use Rattle.std.specs.Option.{option_map_or, option_to_list}

-- the first entry's moment is told before those of the others
first_told : (script : Script) (run : Run) (x : Option Moment) (es : List JournalEntry) → run_through run (option_to_list x ++ moments_on script (state_after run.plain x) es) ≡ run_on script (option_map_or (after_moment run) x run) es
first_told script run None es = refl
first_told script run (Some x) es = refl

-- what entries tell is what the others tell after the first
pub run_on-cons : (script : Script) (run : Run) (e : JournalEntry) (es : List JournalEntry) → run_on script run (e ∷ es) ≡ run_on script (after_entry script run e) es
run_on-cons script run e es = first_told script run (moment_of script run.plain e) es

-- entries one after another
pub run_on-append : (script : Script) (run : Run) (es more : List JournalEntry) → run_on script run (es ++ more) ≡ run_on script (run_on script run es) more
run_on-append script run [] more = refl
run_on-append script run (e ∷ es) more =
    run_on-cons script run e (es ++ more)
    ∙ run_on-append script (after_entry script run e) es more
    ∙ ap (λ r. run_on script r more) (sym (run_on-cons script run e es))

-- one entry more
pub run_of-push : (script : Script) (journal : List JournalEntry) (e : JournalEntry) → run_of script (journal ++ e ∷ []) ≡ after_entry script (run_of script journal) e
run_of-push script journal e =
    run_on-append script (first_run script) journal (e ∷ [])
    ∙ run_on-cons script (run_of script journal) e []
