-- How the entries of one session go through its commands.
use Rattle.std.specs.Prelude.{◌≡◌, ℕ, ◌+◌, true, false, List, [], ◌∷◌, Some, ◌==◌}
use Rattle.std.specs.List.{filter}
use Rattle.command_set.specs.declared.Script.{Script}
use Rattle.command_set.specs.declared.JournalEntry.{JournalEntry}
use Rattle.command_set.specs.declared.Kind.TheVariants as kinds
use Rattle.command_set.specs.Journals.{Moment, command_at, is_legal, is_started, may_come_second, moments, takes_no_memory}

-- the moments of a session, in order
abbrev pub of_session : ℕ → List Moment → List Moment
of_session s xs = filter (λ x. x.entry.session == s) xs

-- a moment is one of a session's command with this number
pub record IsOf (script : Script) (s n : ℕ) (x : Moment) : Type 0 where
  pub session : x.entry.session ≡ s
  pub number : x.entry.number ≡ n
  pub command : command_at script s n ≡ Some x.command

-- a session's moments go through its commands in order, from the command with this number on
pub data GoThrough (script : Script) (s : ℕ) : ℕ → List Moment → Type 0 where
  -- they end
  over : (n : ℕ) → GoThrough script s n []
  -- want of memory is the command's only entry, unless it takes no memory
  wanted : (n : ℕ) (x : Moment) (xs : List Moment) → IsOf script s n x → x.entry.kind ≡ kinds.Memory → takes_no_memory x.command ≡ false → GoThrough script s (n + 1) xs → GoThrough script s n (x ∷ xs)
  -- its moment is its only entry, unless it began upkeep
  answered : (n : ℕ) (x : Moment) (xs : List Moment) → IsOf script s n x → x.entry.kind ≡ kinds.Run → is_started x.reply ≡ false → GoThrough script s (n + 1) xs → GoThrough script s n (x ∷ xs)
  -- its moment began upkeep, which is under way as they end
  under_way : (n : ℕ) (x : Moment) → IsOf script s n x → x.entry.kind ≡ kinds.Run → is_started x.reply ≡ true → GoThrough script s n (x ∷ [])
  -- an entry that may come second for the command and its reply stands after its moment
  ended : (n : ℕ) (x y : Moment) (xs : List Moment) → IsOf script s n x → x.entry.kind ≡ kinds.Run → IsOf script s n y → may_come_second x.command x.reply y.entry.kind ≡ true → GoThrough script s (n + 1) xs → GoThrough script s n (x ∷ y ∷ xs)

-- the moments of a legal journal go, for each session, through its commands in order from the first on
abbrev pub LegalInOrder : Type 0
LegalInOrder = (script : Script) (journal : List JournalEntry) (s : ℕ) → is_legal script journal ≡ true → GoThrough script s 1 (of_session s (moments script journal))
