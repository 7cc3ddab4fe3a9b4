-- What is found is seen, and where nothing is found nothing is seen.
use Rattle.std.proofs.Common.{◌≡◌, Bool, refl}
use Rattle.std.proofs.lemmas.Int.{to_z-of_z}
use mir.Syntax.{w64}
use Rattle.snapshot_registry.specs.Snapshots.{sees_at}
use Rattle.row_versions.specs.declared.version.Version.{Version}
use Rattle.row_versions.specs.Relations.{Relation}
use Rattle.row_versions.proofs.Histories.{fails_if_nothing, passes_if_some, walk}
use Rattle.row_versions.proofs.relation.RowVersions.seen_row.Goals as goal

pub returns-clause-seen : goal.returns-clause-seen
returns-clause-seen c =
    let rel : Relation = record { schema = c.self.inside.schema; pages = c.self.inside.pages; entries = c.self.inside.entries.items } in
    let sees : Version → Bool = λ version. sees_at c.args.xacts.now c.args.snaps.now c.args.snap version.inserter version.ender c.args.own in
    let found : c.first_seen.result ≡ walk sees rel c.args.key = rw (c.first_seen.ensures, c.entries_of-entries.ensures, c.deref.ensures.value, to_z-of_z w64 c.args.key c.ranges.key) refl in
    rw (← c.self.view_is) (passes_if_some sees rel c.args.key c.first_seen.result c.self.invariant.keys found)

pub returns-clause-none : goal.returns-clause-none
returns-clause-none c =
    let rel : Relation = record { schema = c.self.inside.schema; pages = c.self.inside.pages; entries = c.self.inside.entries.items } in
    let sees : Version → Bool = λ version. sees_at c.args.xacts.now c.args.snaps.now c.args.snap version.inserter version.ender c.args.own in
    let found : c.first_seen.result ≡ walk sees rel c.args.key = rw (c.first_seen.ensures, c.entries_of-entries.ensures, c.deref.ensures.value, to_z-of_z w64 c.args.key c.ranges.key) refl in
    rw (← c.self.view_is) (fails_if_nothing sees rel c.args.key c.first_seen.result c.self.invariant.keys found)
