-- Which columns of a row are stored out of line.
use Rattle.std.specs.Prelude.{ℕ, ◌++◌, List}
use Rattle.tuple_layout.specs.declared.Storage.{Storage}
use Rattle.tuple_layout.specs.Places.{Row}
use Rattle.tuple_layout.specs.Sizes.{widths}
use Rattle.tuple_toaster.specs.Pushed.{is_among, pushed, tuple_target}

-- the columns of a row that are out of line when it is written and these of them stay there: these, and those that go out beside them
abbrev pub out_beside : List Storage → Row → List ℕ → List ℕ
out_beside schema row kept = kept ++ pushed schema (widths row (is_among kept)) tuple_target
