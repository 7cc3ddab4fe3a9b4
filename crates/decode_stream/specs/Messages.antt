-- The messages of transactions.
use Rattle.std.specs.Prelude.{List, flat_map}
use Rattle.stream_wire.specs.Transactions.{transaction}
use Rattle.stream_wire.specs.declared.message.Message.{Message}
use Rattle.decode_stream.specs.Decoding.{TransactionState}

-- a transaction as it is sent: its `Begin`, its changes and its `Commit`
abbrev pub messages_of : TransactionState → List Message
messages_of sent = transaction (sent.number, sent.changes)

-- transactions as they are sent, one behind the other
abbrev pub all_messages : List TransactionState → List Message
all_messages transactions = flat_map messages_of transactions
