use Rattle.std.proofs.Common.{◌/◌, arith}
use Rattle.std.proofs.lemmas.Nat.{and_mask}
use Rattle.varlena_form.proofs.Found.{plain_found, compressed_found}
use Rattle.varlena_form.proofs.parse.parse_long.Goals as goal

pub returns-then-header-eq0-clause-found : goal.returns-then-header-eq0-clause-found
returns-then-header-eq0-clause-found c =
    let h = c.from_le_bytes-header.result in
    plain_found c.args.bytes.now (h / 4) (λ i. omega (arith, c.type_inv.bytes i)) (omega arith) (omega arith) (omega (arith, and_mask h 2))

pub returns-else-header-eq0-clause-found : goal.returns-else-header-eq0-clause-found
returns-else-header-eq0-clause-found c =
    let h = c.from_le_bytes-header.result in
    compressed_found c.args.bytes.now (h / 4) (λ i. omega (arith, c.type_inv.bytes i)) (omega arith) (omega arith) (omega (arith, and_mask h 2))
