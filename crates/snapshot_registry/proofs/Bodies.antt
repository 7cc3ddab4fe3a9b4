-- What single steps of the code compute.
use Rattle.std.proofs.Common.{◌≡◌, ◌<◌, ℕ, List, Option, Some, unwrap_or, length, get_or, slice_get, Result, is_ok, refl, sym, ap, ◌∙◌, arith}
use Rattle.std.specs.List.Sorted.{IsStrictlyIncreasing, IsBinarySearchResult}
use Rattle.std.specs.Option.{option_flatten}
use Rattle.std.specs.Ordering.{nat_cmp}
use Rattle.std.proofs.lemmas.Option.{slice_get_read}
use Rattle.xact_status.proofs.Ascending.{AscendsFrom_increasing}
use Rattle.xact_status.proofs.Members.{search_holds}
use Rattle.xact_status.specs.Xacts.{Xacts, next_xid, first_xid, running_xids}
use Rattle.xact_status.proofs.Places.{assigned_from_running}
use Rattle.xact_status.proofs.RunningLists.{running_ascends, running_holds}
use Rattle.snapshot_registry.specs.declared.Snapshot.{Snapshot}
use Rattle.snapshot_registry.specs.declared.Held.{Held}
use Rattle.snapshot_registry.specs.Snapshots.{Snaps, IsSound, IsSoundHeld, least, holds, snapshot_now, horizon}
use Rattle.snapshot_registry.proofs.Least.{least_ascending, least_append}
use Rattle.snapshot_registry.proofs.Horizons.{xmins}

-- the first running xid, or the next one where none runs, is the least of these
first_is_least : (xacts : Xacts) → least (next_xid xacts) (running_xids xacts) ≡ unwrap_or (slice_get (running_xids xacts) 0) (next_xid xacts)
first_is_least xacts = least_ascending first_xid (next_xid xacts) (running_xids xacts) (running_ascends first_xid xacts) (λ xid held. (assigned_from_running xacts xid (sym (running_holds xacts xid) ∙ held)).below_next)

-- the fields of a new snapshot are those of this moment
pub fields_now : (xacts : Xacts) (running copy : List ℕ) (first : Option ℕ) (xmin xmax : ℕ) → running ≡ running_xids xacts → xmax ≡ next_xid xacts → first ≡ slice_get running 0 → xmin ≡ unwrap_or first xmax → copy ≡ running → ◌≡◌ {A = Snapshot} (record { xmin = xmin; xmax = xmax; running = copy }) (snapshot_now xacts)
fields_now xacts running copy first xmin xmax is next at_first low copied =
    let least_is : xmin ≡ least (next_xid xacts) (running_xids xacts) = low ∙ ap (λ n. unwrap_or first n) next ∙ ap (λ o. unwrap_or o (next_xid xacts)) (at_first ∙ ap (λ xs. slice_get xs 0) is) ∙ sym (first_is_least xacts) in
    ap (λ n. record { xmin = n; xmax = xmax; running = copy }) least_is ∙ ap (λ n. record { xmin = least (next_xid xacts) (running_xids xacts); xmax = n; running = copy }) next ∙ ap (λ xs. record { xmin = least (next_xid xacts) (running_xids xacts); xmax = next_xid xacts; running = xs }) (copied ∙ is)

-- the least of the next xid and the running xids, and then of the xmins, is the horizon
pub horizon_start : (xacts : Xacts) (running : List ℕ) (first : Option ℕ) (start next : ℕ) (items snaps : Snaps) → running ≡ running_xids xacts → next ≡ next_xid xacts → first ≡ slice_get running 0 → start ≡ unwrap_or first next → items ≡ snaps → least start (xmins items) ≡ horizon xacts snaps
horizon_start xacts running first start next items snaps is is_next at_first low same =
    let least_is : start ≡ least (next_xid xacts) (running_xids xacts) = low ∙ ap (λ n. unwrap_or first n) is_next ∙ ap (λ o. unwrap_or o (next_xid xacts)) (at_first ∙ ap (λ xs. slice_get xs 0) is) ∙ sym (first_is_least xacts) in
    ap (λ n. least n (xmins items)) least_is ∙ ap (λ xs. least (least (next_xid xacts) (running_xids xacts)) (xmins xs)) same ∙ sym (least_append (next_xid xacts) (running_xids xacts) (xmins snaps))

-- a binary search among a snapshot's running xids says whether it holds an xid
pub search_running : (running slice : List ℕ) (xid : ℕ) (r : Result ℕ ℕ) → IsStrictlyIncreasing running → slice ≡ running → IsBinarySearchResult (λ y. nat_cmp y xid) slice r → is_ok r ≡ holds running xid
search_running running slice xid r up is answer = ap (λ xs. is_ok r) is ∙ search_holds 0 running xid r (AscendsFrom_increasing running 0 up (λ h. omega arith)) (rw (← is) answer)

-- an entry that was read is sound
pub sound_entry : (snaps : Snaps) (i : ℕ) (entry : Option Held) (held : Held) → IsSound snaps → i < length snaps → entry ≡ get_or snaps i entry → entry ≡ Some held → IsSoundHeld held
sound_entry snaps i entry held sound h is some = sound.each i held (ap option_flatten (slice_get_read snaps (length snaps) i entry refl h is) ∙ some)
