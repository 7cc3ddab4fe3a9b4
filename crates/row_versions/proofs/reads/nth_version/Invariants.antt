-- What is sought is, among the entries that are left, as many versions further on as `left` says.
use Rattle.std.proofs.Common.{◌≡◌, drop, slice_get}
use Rattle.row_versions.specs.Relations.{with_versions}
use Rattle.row_versions.proofs.reads.nth_version.Given as goal

abbrev pub invariant-loop-entry : goal.invariant-loop-entry
invariant-loop-entry l = slice_get (with_versions l.pages (drop l.entry-index l.entries)) l.left ≡ slice_get (with_versions l.pages l.entries) l.n
