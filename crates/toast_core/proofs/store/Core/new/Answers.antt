use Rattle.std.proofs.Common.{subst, sym}
use Rattle.std.specs.Prelude.{None, replicate}
use Rattle.command_set.specs.Plain.{first_state}
use Rattle.core_state.specs.Stands.{Stands}
use Rattle.core_state.specs.State.{CoreState}
use Rattle.core_parts.proofs.First.{first_stands}
use Rattle.toast_core.proofs.Kept.{first_kept, first_schemas}
use Rattle.toast_core.proofs.store.Core.new.Goals as goal

pub invariant_of-result : goal.invariant_of-result
invariant_of-result c =
    let setup = c.args.setup.now in
    first_kept setup.schemas setup.low setup.high setup.sessions c.in_ok-parts.parts c.requires.ids.1 c.requires.tables c.requires.sessions c.in_ok-parts.ensures.core c.in_ok-parts.ensures.made

pub returns-clause-schemas : goal.returns-clause-schemas
returns-clause-schemas c =
    let setup = c.args.setup.now in
    first_schemas setup.schemas setup.low setup.high setup.sessions c.in_ok-parts.parts c.in_ok-parts.ensures.core

pub returns-clause-stands : goal.returns-clause-stands
returns-clause-stands c =
    let setup = c.args.setup.now in
    subst (λ (v : CoreState). Stands v (first_state setup.sessions) (replicate setup.sessions None)) (sym c.in_ok-parts.ensures.core) (first_stands setup.schemas setup.low setup.high setup.sessions)

pub returns-clause-kept : goal.returns-clause-kept
returns-clause-kept c =
    let setup = c.args.setup.now in
    first_kept setup.schemas setup.low setup.high setup.sessions c.in_ok-parts.parts c.requires.ids.1 c.requires.tables c.requires.sessions c.in_ok-parts.ensures.core c.in_ok-parts.ensures.made
