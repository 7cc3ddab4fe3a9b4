-- Why bytes do not begin with a datum.
use Rattle.std.specs.Prelude.{◌≡◌, ◌≢◌, ◌≤◌, ◌<◌, ℕ, ◌/◌, ◌%◌, List, length, slice_index, nat_lt, ◌==◌, if◌then◌else◌}
use Rattle.std.specs.Int.{w32, from_le_bytes}
use Rattle.varlena_form.specs.declared.fault.FormFault.{FormFault}
use Rattle.varlena_form.specs.declared.fault.FormFault.TheVariants.{Truncated, BadTag, BadLength}

-- how many bytes are needed, as far as the ones that are there tell: a wrong tag asks for no more than itself
abbrev pub needed : List ℕ → ℕ
needed bytes =
    if length bytes == 0 then 1
    else if slice_index bytes 0 == 1 then (if slice_index bytes 1 == 18 then 18 else 2)
    else if slice_index bytes 0 % 2 == 1 then slice_index bytes 0 / 2
    else if nat_lt (length bytes) 4 then 4
    else from_le_bytes w32 bytes / 4

-- the first check that fails at the front of the bytes
abbrev pub IsFault : List ℕ → FormFault → Type 0
IsFault bytes (Truncated need have) = (need ≡ needed bytes) × (have ≡ length bytes) × (have < need)
IsFault bytes (BadTag tag) = (2 ≤ length bytes) × (slice_index bytes 0 ≡ 1) × (slice_index bytes 1 ≡ tag) × (tag ≢ 18)
IsFault bytes (BadLength len) = (4 ≤ length bytes) × (slice_index bytes 0 % 2 ≡ 0) × (from_le_bytes w32 bytes / 4 ≡ len) × (len < 4)
