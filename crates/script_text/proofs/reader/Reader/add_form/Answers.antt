use Rattle.std.proofs.Common.{sym, ◌∙◌}
use Rattle.script_text.specs.Drafts.{read_of}
use Rattle.script_text.proofs.Rooms.{placed_room}
use Rattle.script_text.proofs.reader.Reader.add_form.Goals as goal

pub add-requires-clause-placed : goal.add-requires-clause-placed
add-requires-clause-placed c = placed_room (read_of c.args.self.now) c.args.form _ c.in_ok-line.line (sym c.may_stand.ensures ∙ c.if-not-may_stand.false) c.in_ok-line.ensures
