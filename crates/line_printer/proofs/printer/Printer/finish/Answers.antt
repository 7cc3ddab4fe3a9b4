use Rattle.std.proofs.Common.{ap, subst, sym, ◌∙◌}
use Rattle.std.proofs.lemmas.Result.{err_from_is_err_and}
use Rattle.toast_io.specs.Sink.{AppendsPart}
use Rattle.line_printer.specs.Carried.{PrinterState}
use Rattle.line_printer.proofs.Carries.{less_written}
use Rattle.line_printer.proofs.printer.Printer.finish.Goals as goal

pub returns-in_err-write_all-clause-err : goal.returns-in_err-write_all-clause-err
returns-in_err-write_all-clause-err g c =
    let p = err_from_is_err_and c.from_residual.result c.from_residual.ensures.1 in
    let held = c.deref.ensures.value ∙ ap (λ (printer : PrinterState). printer.held) c.self.view_is in
    rw p.1 (less_written _ _ c.args.self (ap (λ (printer : PrinterState). printer.failed) (sym c.self.view_is) ∙ c.if-self.false) (subst (AppendsPart _ _) held c.in_err-write_all.ensures.failed) c.in_err-write_all.ensures.cause)
