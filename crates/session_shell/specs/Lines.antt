-- A kept line with its reply.
use Rattle.std.specs.Prelude.{Option, None}
use Rattle.command_set.specs.declared.Reply.{Reply}
use Rattle.session_shell.specs.declared.hub.KeptLine.{KeptLine}

-- no line
abbrev pub no_line : KeptLine
no_line = record { session = 0; number = 0; reply = None }

-- a kept line with this reply
abbrev pub with_reply : KeptLine → Option Reply → KeptLine
with_reply line reply = record line { reply = reply }
