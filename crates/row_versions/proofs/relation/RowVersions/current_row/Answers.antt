-- What is found is there, and where nothing is found nothing is there.
use Rattle.std.proofs.Common.{◌≡◌, Bool, refl}
use Rattle.std.proofs.lemmas.Int.{to_z-of_z}
use mir.Syntax.{w64}
use Rattle.xact_status.specs.Versions.{is_current}
use Rattle.row_versions.specs.declared.version.Version.{Version}
use Rattle.row_versions.specs.Versions.{version_stamp}
use Rattle.row_versions.specs.Relations.{Relation}
use Rattle.row_versions.proofs.Histories.{fails_if_nothing, passes_if_some, walk}
use Rattle.row_versions.proofs.relation.RowVersions.current_row.Goals as goal

pub returns-clause-there : goal.returns-clause-there
returns-clause-there c =
    let rel : Relation = record { schema = c.self.inside.schema; pages = c.self.inside.pages; entries = c.self.inside.entries.items } in
    let current : Version → Bool = λ version. is_current c.args.xacts.now c.args.own (version_stamp version) in
    let found : c.first_current.result ≡ walk current rel c.args.key = rw (c.first_current.ensures, c.entries_of-entries.ensures, c.deref.ensures.value, to_z-of_z w64 c.args.key c.ranges.key) refl in
    rw (← c.self.view_is) (passes_if_some current rel c.args.key c.first_current.result c.self.invariant.keys found)

pub returns-clause-none : goal.returns-clause-none
returns-clause-none c =
    let rel : Relation = record { schema = c.self.inside.schema; pages = c.self.inside.pages; entries = c.self.inside.entries.items } in
    let current : Version → Bool = λ version. is_current c.args.xacts.now c.args.own (version_stamp version) in
    let found : c.first_current.result ≡ walk current rel c.args.key = rw (c.first_current.ensures, c.entries_of-entries.ensures, c.deref.ensures.value, to_z-of_z w64 c.args.key c.ranges.key) refl in
    rw (← c.self.view_is) (fails_if_nothing current rel c.args.key c.first_current.result c.self.invariant.keys found)
