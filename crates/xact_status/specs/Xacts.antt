-- Transactions by their numbers (xids), and how each of them stands. Documentation: "Transaction Processing, Transactions and Identifiers".
use Rattle.std.specs.Prelude.{◌≡◌, ℕ, suc, ◌+◌, ◌-◌, ◌<◌, ◌≤◌, Bool, true, false, List, [], ◌∷◌, ◌++◌, length, slice_get, slice_set, Option, Some, None, is_some, option_and_then, count_by, nat_lt, if◌then◌else◌}
use Rattle.std.specs.Option.{option_map, option_map_or}
use Rattle.xact_status.specs.declared.Xact.{Xact}
use Rattle.xact_status.specs.declared.Xact.TheVariants.{Running, Committed, Aborted}
use Rattle.xact_status.specs.declared.XactState.{XactState}
use Rattle.xact_status.specs.declared.XactState.TheVariants as states

-- the transactions that were given an xid, in the order of their xids
abbrev pub Xacts : Type 0
Xacts = List Xact

-- the first xid that is given. Lower ones have meanings of their own ("Routine Vacuuming, Preventing Transaction ID Wraparound Failures")
abbrev pub first_xid : ℕ
first_xid = 3

-- the xid that is given next
abbrev pub next_xid : Xacts → ℕ
next_xid xacts = first_xid + length xacts

-- the xid has been given
pub record IsAssigned (xacts : Xacts) (xid : ℕ) : Type 0 where
  pub from_first : first_xid ≤ xid
  pub below_next : xid < next_xid xacts

-- the transaction that has the xid, if that was given
abbrev pub xact_at : Xacts → ℕ → Option Xact
xact_at xacts xid = if nat_lt xid first_xid then None else slice_get xacts (xid - first_xid)

-- how a transaction stands
abbrev pub state_of : Xact → XactState
state_of (Running session) = states.Running
state_of (Committed number) = states.Committed number
state_of Aborted = states.Aborted

-- the session for which a transaction runs, if it runs
abbrev pub session_of : Xact → Option ℕ
session_of (Running session) = Some session
session_of (Committed number) = None
session_of Aborted = None

-- the number of a transaction's commit, if it has committed
abbrev pub number_of : Xact → Option ℕ
number_of (Running session) = None
number_of (Committed number) = Some number
number_of Aborted = None

-- the number of a commit, in the state of a transaction that has committed
abbrev pub number_of_state : XactState → Option ℕ
number_of_state states.Running = None
number_of_state (states.Committed number) = Some number
number_of_state states.Aborted = None

-- whether a transaction has aborted
abbrev pub has_aborted : Xact → Bool
has_aborted (Running session) = false
has_aborted (Committed number) = false
has_aborted Aborted = true

-- how the transaction with an xid stands: the map from xids to states
abbrev pub status : Xacts → ℕ → Option XactState
status xacts xid = option_map state_of (xact_at xacts xid)

-- the session for which an xid runs, if it runs
abbrev pub session_at : Xacts → ℕ → Option ℕ
session_at xacts xid = option_and_then session_of (xact_at xacts xid)

-- the number under which an xid has committed, if it has
abbrev pub commit_number : Xacts → ℕ → Option ℕ
commit_number xacts xid = option_and_then number_of (xact_at xacts xid)

-- whether an xid runs
abbrev pub is_running : Xacts → ℕ → Bool
is_running xacts xid = is_some (session_at xacts xid)

-- whether an xid has committed
abbrev pub is_committed : Xacts → ℕ → Bool
is_committed xacts xid = is_some (commit_number xacts xid)

-- whether an xid has aborted
abbrev pub is_aborted : Xacts → ℕ → Bool
is_aborted xacts xid = option_map_or has_aborted (xact_at xacts xid) false

-- of these transactions, the first of which has the given xid, the xids of those that run
abbrev pub running_from : ℕ → Xacts → List ℕ
running_from xid [] = []
running_from xid (xact ∷ rest) = if is_some (session_of xact) then xid ∷ running_from (suc xid) rest else running_from (suc xid) rest

-- the running xids, ascending
abbrev pub running_xids : Xacts → List ℕ
running_xids xacts = running_from first_xid xacts

-- how many transactions have committed
abbrev pub commit_count : Xacts → ℕ
commit_count xacts = count_by (λ xact. is_some (number_of xact)) xacts

-- the commits have numbers from 1 to their count, and no two have the same
pub record IsNumbered (xacts : Xacts) : Type 0 where
  pub at_least_one : (xid number : ℕ) → commit_number xacts xid ≡ Some number → 1 ≤ number
  pub at_most_count : (xid number : ℕ) → commit_number xacts xid ≡ Some number → number ≤ commit_count xacts
  pub distinct : (xid other number : ℕ) → commit_number xacts xid ≡ Some number → commit_number xacts other ≡ Some number → xid ≡ other

-- a session's transaction is given the next xid, and runs
abbrev pub after_assign : Xacts → ℕ → Xacts
after_assign xacts session = xacts ++ Running session ∷ []

-- a running transaction commits, with the next number
abbrev pub after_commit : Xacts → ℕ → Xacts
after_commit xacts xid = slice_set xacts (xid - first_xid) (Committed (commit_count xacts + 1))

-- a running transaction aborts
abbrev pub after_abort : Xacts → ℕ → Xacts
after_abort xacts xid = slice_set xacts (xid - first_xid) Aborted

-- what a table keeps beside the transactions: the running xids and the number of commits
pub record IsKept (xacts : Xacts) (running : List ℕ) (commits : ℕ) : Type 0 where
  pub running_is : running ≡ running_xids xacts
  pub commits_is : commits ≡ commit_count xacts
  pub numbered : IsNumbered xacts
