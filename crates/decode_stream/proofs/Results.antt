-- Results whose fault is passed on.
use Rattle.std.proofs.Common.{◌≡◌, Option, sym, ◌∙◌}
use Rattle.std.specs.Prelude.{Result, Ok, Err, OnErr}
use Rattle.decode_stream.specs.declared.fault.DecodeFault.{DecodeFault}
use Rattle.decode_stream.specs.declared.fault.DecodeFault.TheVariants.{ChunkOrder, SizeOf, Memory}
use Rattle.decode_stream.specs.Steps.{Tells}

pub on_err : {T E P : Type 0} (r : Result T E) → P → OnErr r P
on_err (Ok x) p = tt
on_err (Err e) p = p

-- a fault that is passed on tells the same of another name of the fault
pub tells_err : (X Y : Type 0) {a b : Option DecodeFault} → a ≡ b → (e : DecodeFault) → Tells {X = X} a (Err e) → Tells {X = Y} b (Err e)
tells_err X Y same (ChunkOrder got wanted) h = sym same ∙ h
tells_err X Y same (SizeOf got wanted) h = sym same ∙ h
tells_err X Y same Memory h = tt
