use Rattle.std.proofs.Common.{refl, sym}
use Rattle.core_reading.proofs.Few.{few_by_last, few_if_none}
use Rattle.core_reading.proofs.names.handles_fit.Goals as goal

pub returns-in-Some : goal.returns-in-Some
returns-in-Some c = few_by_last c.args.handles.now _ c.in-Some.handle.now refl (sym c.in-Some.ensures.value) c.number_of.ensures.fits

pub returns-in_default : goal.returns-in_default
returns-in_default c = λ named. few_if_none c.args.handles.now _ refl c.in_default.ensures.value
