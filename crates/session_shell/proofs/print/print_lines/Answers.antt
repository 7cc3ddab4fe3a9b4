use Rattle.std.proofs.Common.{subst, sym, ◌∙◌}
use Rattle.line_printer.specs.Carried.{Prints}
use Rattle.line_printer.proofs.Carries.{breaks_more, prints_on}
use Rattle.session_shell.proofs.Texts.{never_unsaid, said_more, said_rest}
use Rattle.session_shell.proofs.print.print_lines.Goals as goal

pub unreachable-requires : goal.unreachable-requires
unreachable-requires g c = never_unsaid c.args.kept.now c.loop-line.line-index c.line-item.result c.requires c.loop-line-test.true c.line-item.is c.in-None.is

pub returns-then-has_failed : goal.returns-then-has_failed
returns-then-has_failed g c = subst (Prints _ _ _ _) (said_rest c.args.kept.now c.loop-line.line-index) (breaks_more _ _ _ _ _ _ (sym c.has_failed.ensures ∙ c.if-has_failed.true) c.loop-line.invariant)

pub loop-line-preserved : goal.loop-line-preserved
loop-line-preserved g c =
    subst (Prints _ _ _ _) (sym (said_more c.args.kept.now c.loop-line.line-index c.line-item.result c.in-Some.reply c.loop-line-test.true c.line-item.is c.in-Some.is))
    (prints_on _ _ _ _ _ _ _ _ c.loop-line.invariant c.print_reply.ensures)
