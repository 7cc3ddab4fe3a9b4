-- Walks that have something to take, or have ended.
use Rattle.std.specs.Prelude.{◌<◌, length, ⊤}
use Rattle.toast_store.specs.declared.walk.WalkStage.{WalkStage}
use Rattle.toast_store.specs.declared.walk.WalkStage.TheVariants.{Empty, Asking, Reading, Over}

-- a walk over some numbers, with an entry of its batch still to be taken, or one that has ended
abbrev pub IsOverSome : WalkStage → Type 0
IsOverSome Empty = ⊥
IsOverSome (Asking after) = ⊤
IsOverSome (Reading batch at) = at < length batch.entries
IsOverSome Over = ⊤
