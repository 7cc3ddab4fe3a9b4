-- What is left of a list, in words of the stream.
use Rattle.std.specs.Prelude.{ℕ, List, map as mapped, if◌then◌else◌}
use Rattle.std.specs.List.{enumerate_from, flat_map}
use Rattle.tuple_layout.specs.Places.{Row}
use Rattle.tuple_toaster.specs.Pushed.{is_among}
use Rattle.command_set.specs.declared.Script.{Script}
use Rattle.command_set.specs.declared.state.Change.{Change}
use Rattle.stream_wire.specs.Transactions as wire
use Rattle.stream_wire.specs.declared.message.Message.{Message}
use Rattle.stream_wire.specs.declared.message.Sent.{Sent}
use Rattle.stream_wire.specs.declared.message.Sent.TheVariants as sent
use Rattle.change_stream.specs.declared.written.Written.{Written}
use Rattle.change_stream.specs.Streams.{sent_changes, sent_value, written_as}

-- changes with their columns, where they keep these
abbrev pub written_each : Script → List ℕ → List Change → List Written
written_each script kept changes = mapped (λ change. written_as script change kept) changes

-- a row's columns from this one on, as they are sent
abbrev pub sent_from : List ℕ → ℕ → Row → List Sent
sent_from kept n row = mapped (λ (column, value). if is_among kept column then sent.Unchanged else sent_value value) (enumerate_from n row)

-- transactions as messages, numbered from this number on
abbrev pub messages_from : ℕ → List (List Written) → List Message
messages_from n transactions = flat_map wire.transaction (enumerate_from n (sent_changes transactions))
