-- The bytes of the printed lines.
use Rattle.std.specs.Prelude.{ℕ, ℤ, List, ◌++◌, Option, Some, None, codes}
use Rattle.std.specs.List.{flat_map}
use Rattle.std.specs.Fmt.{decimal, signed_decimal}
use Rattle.hex.specs.Hex.{encode_lower}
use Rattle.tuple_layout.specs.Places.{Row}
use Rattle.command_set.specs.declared.Reply.{Reply}
use Rattle.command_set.specs.declared.Reply.TheVariants as replies
use Rattle.stream_wire.specs.Spelling.{spelling}
use Rattle.stream_wire.specs.declared.message.Message.{Message}

-- a byte string in lower-case hexadecimal digits, or null
abbrev pub value_text : Option (List ℕ) → List ℕ
value_text None = codes "null"
value_text (Some bytes) = codes "x" ++ encode_lower bytes

-- a row's values, each behind a space
abbrev pub values_text : Row → List ℕ
values_text row = flat_map (λ value. codes " " ++ value_text value) row

-- a reply's words
abbrev pub reply_text : Reply → List ℕ
reply_text replies.Okay = codes "ok"
reply_text replies.RolledBack = codes "rolled back"
reply_text (replies.Row key row) = codes "row " ++ signed_decimal key ++ values_text row
reply_text (replies.Bytes bytes) = codes "bytes " ++ value_text (Some bytes)
reply_text replies.Null = codes "null"
reply_text replies.Absent = codes "none"
reply_text replies.Taken = codes "taken"
reply_text (replies.Busy session) = codes "busy s" ++ decimal session
reply_text replies.Changed = codes "changed"
reply_text (replies.Locked session) = codes "locked s" ++ decimal session
reply_text replies.Failed = codes "failed"
reply_text replies.Outside = codes "outside"
reply_text replies.Inside = codes "inside"
reply_text (replies.TooBig size) = codes "too big " ++ decimal size
reply_text replies.BadOffset = codes "bad offset"
reply_text replies.NoHandle = codes "no handle"
reply_text replies.HandleThere = codes "handle there"
reply_text replies.NoValueId = codes "no value id"
reply_text replies.Started = codes "started"
reply_text replies.Done = codes "done"
reply_text replies.Memory = codes "want of memory"

-- the line of a session's command with this number, from 1, and the reply to it
abbrev pub reply_line : ℕ → ℕ → Reply → List ℕ
reply_line session number reply = codes "s" ++ decimal session ++ codes "." ++ decimal number ++ codes " " ++ reply_text reply ++ codes "\n"

-- the line of a message: its bytes in hexadecimal digits
abbrev pub message_line : Message → List ℕ
message_line m = codes "msg " ++ encode_lower (spelling m) ++ codes "\n"

-- the line of a replica's row
abbrev pub row_line : ℕ → ℤ → Row → List ℕ
row_line table key row = codes "replica t" ++ decimal table ++ codes " " ++ signed_decimal key ++ values_text row ++ codes "\n"
