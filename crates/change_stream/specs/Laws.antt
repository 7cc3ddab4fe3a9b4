-- The law of the stream.
use Rattle.std.specs.Prelude.{◌≡◌, List, Ok}
use Rattle.command_set.specs.declared.JournalEntry.{JournalEntry}
use Rattle.command_set.specs.declared.Script.{Script}
use Rattle.command_set.specs.Journals.{plain_run}
use Rattle.replica_map.specs.Applies.{apply_stream}
use Rattle.change_stream.specs.Streams.{stream}

-- a replica refuses no message of a journal, and after all of them it has exactly the rows that are committed at the journal's end
abbrev pub StreamLaw : Type 0
StreamLaw = (script : Script) (journal : List JournalEntry) → apply_stream (stream script journal) ≡ Ok (plain_run script journal).latest
