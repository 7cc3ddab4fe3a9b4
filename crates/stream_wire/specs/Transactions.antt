-- Transactions as messages.
use Rattle.std.specs.Prelude.{ℕ, List, [], ◌∷◌, ◌++◌}
use Rattle.std.specs.List.{enumerate_from, flat_map}
use Rattle.stream_wire.specs.declared.message.Message.{Message}
use Rattle.stream_wire.specs.declared.message.Message.TheVariants.{Begin, Commit}

-- a transaction as it is sent, with its number: its `Begin`, its changes and its `Commit`
abbrev pub transaction : ℕ × List Message → List Message
transaction (number, changes) = Begin number ∷ changes ++ Commit number ∷ []

-- transactions in order, numbered from 1, by the changes of each
abbrev pub messages_of : List (List Message) → List Message
messages_of transactions = flat_map transaction (enumerate_from 1 transactions)
