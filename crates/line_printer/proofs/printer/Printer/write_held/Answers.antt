use Rattle.std.proofs.Common.{ap, refl, subst, sym, ◌∙◌}
use Rattle.toast_io.specs.Sink.{AppendsPart}
use Rattle.line_printer.specs.Carried.{PrinterState}
use Rattle.line_printer.proofs.Carries.{writes_less_on}
use Rattle.line_printer.proofs.printer.Printer.write_held.Goals as goal

pub returns-in-Err-clause-prints : goal.returns-in-Err-clause-prints
returns-in-Err-clause-prints g c =
    let held = c.deref.ensures.value ∙ ap (λ (printer : PrinterState). printer.held) c.self.view_is in
    writes_less_on _ _ c.args.self.now _ (ap (λ (printer : PrinterState). printer.failed) (sym c.self.view_is) ∙ c.if-self.false) refl (subst (AppendsPart _ _) held c.in-Err.ensures.failed) c.in-Err.ensures.count c.in-Err.ensures.cause
