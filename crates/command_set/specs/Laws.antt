-- What holds of changes and of what a journal tells.
use Rattle.std.specs.Prelude.{◌≡◌, List, [], ◌∷◌, ◌++◌, None, false}
use Rattle.std.specs.Option.{option_or, unwrap_or}
use Rattle.std.specs.FinMap as map
use Rattle.tuple_layout.specs.declared.Place.{Place}
use Rattle.tuple_layout.specs.Places.{Rows}
use Rattle.command_set.specs.declared.state.Change.{Change}
use Rattle.command_set.specs.declared.JournalEntry.{JournalEntry}
use Rattle.command_set.specs.declared.Script.{Script}
use Rattle.command_set.specs.Changes.{fold_changes, is_named, keys_of, made, outcome, said}
use Rattle.command_set.specs.Journals.{after_entry, run_of}

-- what changes leave: the rows of a list by its outcome, and what one change more leaves
pub record RowsByOutcome : Type 0 where
  pub rows : (changes : List Change) (rows : Rows) (p : Place) → map.get (fold_changes changes rows) p ≡ unwrap_or (outcome changes p) (map.get rows p)
  pub one_more : (changes : List Change) (change : Change) (rows : Rows) → fold_changes (changes ++ change ∷ []) rows ≡ made change (fold_changes changes rows)
  pub one_more_leaves : (changes : List Change) (change : Change) (p : Place) → outcome (changes ++ change ∷ []) p ≡ option_or (said change p) (outcome changes p)
  pub unnamed : (changes : List Change) (p : Place) → is_named (keys_of changes) p ≡ false → outcome changes p ≡ None

-- what a journal with one entry more tells
abbrev pub OneEntryMore : Type 0
OneEntryMore = (script : Script) (journal : List JournalEntry) (e : JournalEntry) → run_of script (journal ++ e ∷ []) ≡ after_entry script (run_of script journal) e
