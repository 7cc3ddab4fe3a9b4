-- A hub's history: its journal, in numbers.
use Rattle.std.specs.Prelude.{ℕ, List, map as mapped}
use Rattle.command_set.specs.declared.JournalEntry.{JournalEntry}
use Rattle.command_set.specs.declared.Kind.{Kind}
use Rattle.command_set.specs.declared.Kind.TheVariants as kinds

-- the place of a kind among the kinds, from 0
abbrev pub kind_place : Kind → ℕ
kind_place kinds.Run = 0
kind_place kinds.End = 1
kind_place kinds.NoValueId = 2
kind_place kinds.Memory = 3

-- an entry as three numbers: its session, the number of its command, and the place of its kind
abbrev pub numbers_of : JournalEntry → ℕ × ℕ × ℕ
numbers_of e = (e.session, e.number, kind_place e.kind)

-- a journal's entries as numbers
abbrev pub history_of : List JournalEntry → List (ℕ × ℕ × ℕ)
history_of journal = mapped numbers_of journal
