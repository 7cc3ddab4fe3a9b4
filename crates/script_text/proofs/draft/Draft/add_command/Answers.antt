use Rattle.std.proofs.Common.{◌≡◌, ◌<◌, length, arith}
use Rattle.script_text.specs.Scripts.{with_command}
use Rattle.script_text.specs.Drafts.{script_of}
use Rattle.script_text.proofs.Counts.{command_heavy, command_many, command_fits, keeps}
use Rattle.script_text.proofs.draft.Draft.add_command.Goals as goal

pub returns-in_default : goal.returns-in_default
returns-in_default c = command_heavy (script_of c.args.self.now) c.args.command c.args.self.now.bytes c.requires.counts.within (omega (arith, c.args.self.now.sessions.ok.0)) c.requires.counts.bytes c.in_default.ensures

pub returns-then-self-eq-MOST_COMMANDS : goal.returns-then-self-eq-MOST_COMMANDS
returns-then-self-eq-MOST_COMMANDS c = command_many (script_of c.args.self.now) c.args.command c.args.self.now.commands c.requires.counts.within (omega (arith, c.args.self.now.sessions.ok.0)) c.requires.counts.commands c.if-self-eq-MOST_COMMANDS.true

pub returns : goal.returns
returns c =
    let some : 0 < length c.args.self.now.sessions.items = omega (arith, c.args.self.now.sessions.ok.0) in
    let fits = command_fits (script_of c.args.self.now) c.args.command c.args.self.now.commands c.args.self.now.bytes c.in-Some.bytes c.requires.counts.within some c.requires.counts.commands c.requires.counts.bytes c.if-self-eq-MOST_COMMANDS.false c.in-Some.ensures in
    let kept = keeps _ fits.within in
    let grown : c.push_last.new.sessions.items ≡ with_command c.args.command c.args.self.now.sessions.items = c.in_ok-push_last.ensures in (
      rw grown kept,
      record {
        commands = rw grown fits.commands_are;
        bytes = rw grown fits.bytes_are;
        turns = c.requires.counts.turns;
        within = rw grown fits.within;
      },
    )
