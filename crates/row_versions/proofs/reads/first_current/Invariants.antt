-- What is sought is among the entries that are left.
use Rattle.std.proofs.Common.{◌≡◌, drop, find, map}
use Rattle.row_versions.specs.Relations.{is_current_at}
use Rattle.row_versions.proofs.reads.first_current.Given as goal

abbrev pub invariant-loop-entry : goal.invariant-loop-entry
invariant-loop-entry l = find (is_current_at l.xacts l.own l.pages) (map (λ e. e.tid) (drop l.entry-index l.entries)) ≡ find (is_current_at l.xacts l.own l.pages) (map (λ e. e.tid) l.entries)
