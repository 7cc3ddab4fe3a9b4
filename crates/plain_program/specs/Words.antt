-- Words that the plain program's own contracts use, beside the plain store's.
use Rattle.std.specs.Prelude.{ℕ, ◌+◌, ◌^◌, ℤ, pos, negsuc, drop, take, nat_le, if◌then◌else◌, Bool, List, [], ◌∷◌, ◌++◌, true, false, Option, Some, None, ◌==◌, ◌&&◌, ◌||◌}
use Rattle.std.specs.List.{list_any}
use Rattle.std.specs.Option.{option_or}
use Rattle.tuple_layout.specs.declared.Place.{Place}
use Rattle.tuple_layout.specs.declared.Storage.{Storage}
use Rattle.tuple_layout.specs.Schemas.{TableSchema}
use Rattle.tuple_layout.specs.Places.{Row}
use Rattle.tuple_layout.specs.Sizes.{column_end, is_eligible, width}
use Rattle.tuple_layout.specs.Slices.{last_place}
use Rattle.command_set.specs.declared.Command.{Command}
use Rattle.command_set.specs.declared.Command.TheVariants as commands
use Rattle.command_set.specs.declared.Reply.{Reply}
use Rattle.command_set.specs.declared.Reply.TheVariants as replies
use Rattle.command_set.specs.declared.state.Plain.{Plain}
use Rattle.command_set.specs.declared.state.Running.{Running}
use Rattle.command_set.specs.declared.state.Session.{Session}
use Rattle.command_set.specs.declared.state.Session.TheVariants.{Outside, Failed, Open}
use Rattle.command_set.specs.declared.state.Transaction.{Transaction}
use Rattle.command_set.specs.Plain.{view_of}
use Rattle.command_set.specs.Replies.{absent, busy, changed, first_of, granted, has_changed, has_used, is_rewrite, refusals, refused_before_use, runs_in_conflict, schema_of, taken, too_big}
use Rattle.plain_program.specs.declared.obstacles.Obstacle.{Obstacle}
use Rattle.plain_program.specs.declared.obstacles.Obstacle.TheVariants.{Change, Upkeep, Rewrite}

-- whether a reply names a number beyond its type: a tuple of 4 GiB or more
abbrev pub is_beyond : Reply → Bool
is_beyond (replies.TooBig size) = nat_le (2 ^ 32) size
is_beyond reply = false

-- the first refusal that is there
abbrev pub first_refusal : List (Option Reply) → Option Reply
first_refusal [] = None
first_refusal (refusal ∷ refusals) = option_or refusal (first_refusal refusals)

-- whether a session rewrites a table
abbrev pub is_rewriter : List Running → ℕ → ℕ → Bool
is_rewriter upkeep n table = list_any (λ running. (running.session == n) && (running.table == table) && is_rewrite running.kind) upkeep

-- whether a session is in the way
abbrev pub stands_in : Plain → Obstacle → ℕ → Session → Bool
stands_in m (Change p) n session = has_changed session p
stands_in m (Upkeep table kind) n session = runs_in_conflict m n table kind || (is_rewrite kind && has_used session table)
stands_in m (Rewrite table) n session = is_rewriter m.upkeep n table

-- the first reply of a command whose test holds, where t is the session's transaction
abbrev pub reply_within : List TableSchema → Plain → ℕ → Transaction → Command → Reply
reply_within schemas m s t command = first_of (refusals schemas m s t command) (granted m t command)

-- the reply to an update that puts this row at a place
abbrev pub update_reply : List TableSchema → Plain → ℕ → Transaction → Place → Row → Reply
update_reply schemas m s t p row =
    first_of (refused_before_use m s p.table ++ absent (view_of m t) p ∷ busy m s p ∷ changed t p ∷ too_big (schema_of schemas p.table) row ∷ []) replies.Okay

-- the reply to a move from one place to another that puts this row
abbrev pub rekey_reply : List TableSchema → Plain → ℕ → Transaction → Place → Place → Row → Reply
rekey_reply schemas m s t p q row =
    first_of (refused_before_use m s p.table ++ absent (view_of m t) p ∷ busy m s p ∷ changed t p ∷ busy m s q ∷ taken m t q ∷ too_big (schema_of schemas p.table) row ∷ []) replies.Okay

-- a number that is not negative
abbrev pub natural : ℤ → Option ℕ
natural (pos n) = Some n
natural (negsuc n) = None

-- the bytes from an offset on, so many, or all where no length is given or it leads past the last place
abbrev pub slice_from : List ℕ → ℕ → Option ℕ → List ℕ
slice_from bytes offset None = drop offset bytes
slice_from bytes offset (Some len) = if nat_le (offset + len) last_place then take len (drop offset bytes) else drop offset bytes

-- where the data end after these values, each out of line that may be, if the data before them end at this place
abbrev pub data_end_all_out : ℕ → List Storage → Row → ℕ
data_end_all_out at [] row = at
data_end_all_out at (storage ∷ storages) [] = at
data_end_all_out at (storage ∷ storages) (value ∷ row) = data_end_all_out (column_end storage at (width value (is_eligible storage value))) storages row

-- whether a command puts a row
abbrev pub IsPut : Command → Type 0
IsPut (commands.Insert table key row) = Unit {0}
IsPut (commands.Update table key sets) = Unit {0}
IsPut (commands.Rekey table from to sets) = Unit {0}
IsPut command = ⊥

-- whether a command asks for a part of a value, or puts a row
abbrev pub IsPartOrPut : Command → Type 0
IsPartOrPut (commands.Part table key column offset len) = Unit {0}
IsPartOrPut (commands.Fetch handle offset len) = Unit {0}
IsPartOrPut command = IsPut command

-- whether a command names a key or a handle, and is not the closing of one
abbrev pub IsOnData : Command → Type 0
IsOnData (commands.Get table key) = Unit {0}
IsOnData (commands.Delete table key) = Unit {0}
IsOnData (commands.Open handle table key column) = Unit {0}
IsOnData command = IsPartOrPut command

-- whether a command changes rows
abbrev pub IsWrite : Command → Type 0
IsWrite (commands.Delete table key) = Unit {0}
IsWrite command = IsPut command

-- whether a session is in an open transaction
abbrev pub is_open : Session → Bool
is_open Outside = false
is_open Failed = false
is_open (Open t) = true
