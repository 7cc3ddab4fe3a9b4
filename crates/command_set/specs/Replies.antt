-- What each command answers: the first of its replies whose test holds.
use Rattle.std.specs.Prelude.{ℕ, ℤ, pos, negsuc, Bool, true, false, List, [], ◌∷◌, ◌++◌, Option, Some, None, is_some, is_none, ◌==◌, ◌&&◌, ◌||◌, not, nat_lt}
use Rattle.std.specs.List.{list_any, enumerate_from, find}
use Rattle.std.specs.Option.{option_map, option_map_or, unwrap_or}
use Rattle.std.specs.FinMap as map
use Rattle.tuple_layout.specs.declared.Place.{Place}
use Rattle.tuple_layout.specs.Schemas.{TableSchema, no_columns}
use Rattle.tuple_layout.specs.Places.{Row, Rows}
use Rattle.tuple_layout.specs.Sizes.{all_out_size, largest_tuple}
use Rattle.tuple_layout.specs.Slices.{slice}
use Rattle.command_set.specs.Changes.{place, keys_of, is_named}
use Rattle.command_set.specs.Plain.{nth, session_of, view_of, now_of, row_at, value_at, row_with}
use Rattle.command_set.specs.declared.state.Plain.{Plain}
use Rattle.command_set.specs.declared.state.Transaction.{Transaction}
use Rattle.command_set.specs.declared.state.Session.{Session}
use Rattle.command_set.specs.declared.state.Session.TheVariants.{Outside, Failed, Open}
use Rattle.command_set.specs.declared.state.Upkeep.{Upkeep}
use Rattle.command_set.specs.declared.state.Upkeep.TheVariants.{Main, Toast, Rewrite}
use Rattle.command_set.specs.declared.Command.{Command}
use Rattle.command_set.specs.declared.Command.TheVariants as commands
use Rattle.command_set.specs.declared.Level.{Level}
use Rattle.command_set.specs.declared.Level.TheVariants as levels
use Rattle.command_set.specs.declared.Reply.{Reply}
use Rattle.command_set.specs.declared.Reply.TheVariants as replies

-- the reply if the test holds
abbrev pub answers_if : Bool → Reply → Option Reply
answers_if true reply = Some reply
answers_if false reply = None

-- the first refusal that is there, else the granted reply
abbrev pub first_of : List (Option Reply) → Reply → Reply
first_of [] granted = granted
first_of (Some reply ∷ rest) granted = reply
first_of (None ∷ rest) granted = first_of rest granted

-- the least session other than s that the test picks, if there is one
abbrev pub least_other : Plain → ℕ → (ℕ → Session → Bool) → Option ℕ
least_other m s test = option_map (λ (n, session). n) (find (λ (n, session). not (n == s) && test n session) (enumerate_from 1 m.sessions))

-- the transaction that a session has open, if it has one
abbrev pub open_transaction : Session → Option Transaction
open_transaction Outside = None
open_transaction Failed = None
open_transaction (Open t) = Some t

-- the places that a session claims: those that its open transaction has changed
abbrev pub claims_of : Session → List Place
claims_of session = option_map_or (λ t. keys_of t.changes) (open_transaction session) []

-- whether the open transaction of a session has changed a place
abbrev pub has_changed : Session → Place → Bool
has_changed session p = is_named (claims_of session) p

-- whether the open transaction of a session has used a table
abbrev pub has_used : Session → ℕ → Bool
has_used session table = option_map_or (λ t. list_any (λ used. used == table) t.used) (open_transaction session) false

-- whether one kind of upkeep of a table waits for the other to end: two of the same kind, and a rewrite and any
abbrev pub conflicts : Upkeep → Upkeep → Bool
conflicts Main Main = true
conflicts Main Toast = false
conflicts Main Rewrite = true
conflicts Toast Main = false
conflicts Toast Toast = true
conflicts Toast Rewrite = true
conflicts Rewrite other = true

-- whether a session runs upkeep of a table that conflicts with this kind
abbrev pub runs_in_conflict : Plain → ℕ → ℕ → Upkeep → Bool
runs_in_conflict m n table kind = list_any (λ running. (running.session == n) && (running.table == table) && conflicts kind running.kind) m.upkeep

-- whether upkeep is a rewrite
abbrev pub is_rewrite : Upkeep → Bool
is_rewrite Main = false
is_rewrite Toast = false
is_rewrite Rewrite = true

-- the least other session that is in the way of a data command on a table: it rewrites the table
abbrev pub rewriter_of : Plain → ℕ → ℕ → Option ℕ
rewriter_of m s table = least_other m s (λ n session. list_any (λ running. (running.session == n) && (running.table == table) && is_rewrite running.kind) m.upkeep)

-- the least other session that is in the way of upkeep of a table: it runs upkeep that conflicts, or has used a table that is to be rewritten
abbrev pub holder_of : Plain → ℕ → ℕ → Upkeep → Option ℕ
holder_of m s table kind = least_other m s (λ n session. runs_in_conflict m n table kind || (is_rewrite kind && has_used session table))

-- the least other session whose open transaction has changed a place
abbrev pub changer_of : Plain → ℕ → Place → Option ℕ
changer_of m s p = least_other m s (λ n session. has_changed session p)

-- a transaction that has done nothing yet
abbrev pub new_transaction : Level → Transaction
new_transaction level = record { level = level; base = None; changes = []; since = []; used = []; handles = map.empty }

-- the transaction that a session has open; of any other session one that has done nothing
abbrev pub transaction_of : Session → Transaction
transaction_of session = unwrap_or (open_transaction session) (new_transaction levels.Rc)

-- whether a session is in no transaction
abbrev pub is_outside : Session → Bool
is_outside Outside = true
is_outside Failed = false
is_outside (Open t) = false

-- whether a session is in a failed transaction
abbrev pub is_failed : Session → Bool
is_failed Outside = false
is_failed Failed = true
is_failed (Open t) = false

-- the refusals follow, each where its test holds; p is the place of the command's key

-- the session is in no transaction
abbrev pub outside : Plain → ℕ → Option Reply
outside m s = answers_if (is_outside (session_of m s)) replies.Outside

-- the session is in a transaction, open or failed
abbrev pub inside : Plain → ℕ → Option Reply
inside m s = answers_if (not (is_outside (session_of m s))) replies.Inside

-- its transaction has failed
abbrev pub failed : Plain → ℕ → Option Reply
failed m s = answers_if (is_failed (session_of m s)) replies.Failed

-- the transaction that ends has failed
abbrev pub rolled_back : Plain → ℕ → Option Reply
rolled_back m s = answers_if (is_failed (session_of m s)) replies.RolledBack

-- a session is in the way
abbrev pub locked : Option ℕ → Option Reply
locked = option_map replies.Locked

-- the view has no such key
abbrev pub absent : Rows → Place → Option Reply
absent view p = answers_if (is_none (map.get view p)) replies.Absent

-- the column's value is null
abbrev pub null : Option (List ℕ) → Option Reply
null value = answers_if (is_none value) replies.Null

-- the key is among the keys changed by another session's open transaction
abbrev pub busy : Plain → ℕ → Place → Option Reply
busy m s p = option_map replies.Busy (changer_of m s p)

-- another session has committed a change of the key since the copy was taken, and this transaction has not changed it
abbrev pub changed : Transaction → Place → Option Reply
changed t p = answers_if (is_some t.base && is_named t.since p && not (is_named (keys_of t.changes) p)) replies.Changed

-- the key is there now, or in the view
abbrev pub taken : Plain → Transaction → Place → Option Reply
taken m t p = answers_if (is_some (map.get (now_of m t) p) || is_some (map.get (view_of m t) p)) replies.Taken

-- the tuple is too large with every column out of line that may be
abbrev pub too_big : TableSchema → Row → Option Reply
too_big schema row = let n = all_out_size schema.storages row in answers_if (nat_lt largest_tuple n) (replies.TooBig n)

-- the offset is negative
abbrev pub bad_offset : ℤ → Option Reply
bad_offset (pos offset) = None
bad_offset (negsuc n) = Some replies.BadOffset

-- no handle of this name is open
abbrev pub no_handle : Transaction → ℕ → Option Reply
no_handle t handle = answers_if (is_none (map.get t.handles handle)) replies.NoHandle

-- a handle of this name is open
abbrev pub handle_there : Transaction → ℕ → Option Reply
handle_there t handle = answers_if (is_some (map.get t.handles handle)) replies.HandleThere

-- the refusals of a data command on a table before the table is used
abbrev pub refused_before_use : Plain → ℕ → ℕ → List (Option Reply)
refused_before_use m s table = outside m s ∷ failed m s ∷ locked (rewriter_of m s table) ∷ []

-- the refusals of upkeep
abbrev pub refused_upkeep : Plain → ℕ → ℕ → Upkeep → List (Option Reply)
refused_upkeep m s table kind = inside m s ∷ locked (holder_of m s table kind) ∷ []

-- the schema of a table, from 1; no columns where there is no such table
abbrev pub schema_of : List TableSchema → ℕ → TableSchema
schema_of schemas table = unwrap_or (nth schemas table) no_columns

-- the refusals of a command in their order, once its table is used and its copy is taken, in a state m where t is the session's transaction
abbrev pub refusals : List TableSchema → Plain → ℕ → Transaction → Command → List (Option Reply)
refusals schemas m s t (commands.Begin level) = inside m s ∷ []
refusals schemas m s t commands.Commit = outside m s ∷ rolled_back m s ∷ []
refusals schemas m s t commands.Rollback = outside m s ∷ []
refusals schemas m s t (commands.Get table key) =
    let p = place table key in
    refused_before_use m s table ++ absent (view_of m t) p ∷ []
refusals schemas m s t (commands.Part table key column offset len) =
    let p = place table key in
    refused_before_use m s table ++ absent (view_of m t) p ∷ null (value_at (row_at (view_of m t) p) column) ∷ bad_offset offset ∷ []
refusals schemas m s t (commands.Open handle table key column) =
    let p = place table key in
    refused_before_use m s table ++ handle_there t handle ∷ absent (view_of m t) p ∷ null (value_at (row_at (view_of m t) p) column) ∷ []
refusals schemas m s t (commands.Fetch handle offset len) = outside m s ∷ failed m s ∷ no_handle t handle ∷ bad_offset offset ∷ []
refusals schemas m s t (commands.Close handle) = outside m s ∷ failed m s ∷ no_handle t handle ∷ []
refusals schemas m s t (commands.Insert table key row) =
    let p = place table key in
    refused_before_use m s table ++ busy m s p ∷ taken m t p ∷ too_big (schema_of schemas table) row ∷ []
refusals schemas m s t (commands.Update table key sets) =
    let p = place table key in
    let row = row_with (row_at (view_of m t) p) sets in
    refused_before_use m s table ++ absent (view_of m t) p ∷ busy m s p ∷ changed t p ∷ too_big (schema_of schemas table) row ∷ []
refusals schemas m s t (commands.Delete table key) =
    let p = place table key in
    refused_before_use m s table ++ absent (view_of m t) p ∷ busy m s p ∷ changed t p ∷ []
refusals schemas m s t (commands.Rekey table from to sets) =
    let p = place table from in
    let q = place table to in
    let row = row_with (row_at (view_of m t) p) sets in
    refused_before_use m s table ++ absent (view_of m t) p ∷ busy m s p ∷ changed t p ∷ busy m s q ∷ taken m t q ∷ too_big (schema_of schemas table) row ∷ []
refusals schemas m s t (commands.VacuumMain table) = refused_upkeep m s table Main
refusals schemas m s t (commands.VacuumToast table) = refused_upkeep m s table Toast
refusals schemas m s t (commands.Rewrite table) = refused_upkeep m s table Rewrite

-- what a granted command answers
abbrev pub granted : Plain → Transaction → Command → Reply
granted m t (commands.Begin level) = replies.Okay
granted m t commands.Commit = replies.Okay
granted m t commands.Rollback = replies.Okay
granted m t (commands.Get table key) = replies.Row key (row_at (view_of m t) (place table key))
granted m t (commands.Part table key column offset len) = replies.Bytes (slice (unwrap_or (value_at (row_at (view_of m t) (place table key)) column) []) offset len)
granted m t (commands.Open handle table key column) = replies.Okay
granted m t (commands.Fetch handle offset len) = replies.Bytes (slice (unwrap_or (map.get t.handles handle) []) offset len)
granted m t (commands.Close handle) = replies.Okay
granted m t (commands.Insert table key row) = replies.Okay
granted m t (commands.Update table key sets) = replies.Okay
granted m t (commands.Delete table key) = replies.Okay
granted m t (commands.Rekey table from to sets) = replies.Okay
granted m t (commands.VacuumMain table) = replies.Started
granted m t (commands.VacuumToast table) = replies.Started
granted m t (commands.Rewrite table) = replies.Started

-- the first reply of a command whose test holds, once its table is used and its copy is taken
abbrev pub reply_of : List TableSchema → Plain → ℕ → Command → Reply
reply_of schemas m s command =
    let t = transaction_of (session_of m s) in
    first_of (refusals schemas m s t command) (granted m t command)

-- whether a reply to a command is the granted one, the last of its row
abbrev pub is_granted : Reply → Bool
is_granted replies.Okay = true
is_granted (replies.Row key row) = true
is_granted (replies.Bytes bytes) = true
is_granted replies.Started = true
is_granted reply = false

-- whether a refusal fails an open transaction
abbrev pub fails : Reply → Bool
fails replies.Taken = true
fails (replies.Busy n) = true
fails replies.Changed = true
fails (replies.Locked n) = true
fails (replies.TooBig n) = true
fails replies.BadOffset = true
fails replies.NoHandle = true
fails replies.HandleThere = true
fails replies.NoValueId = true
fails replies.Memory = true
fails reply = false
