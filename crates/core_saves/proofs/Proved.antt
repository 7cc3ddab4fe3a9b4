-- The laws of saves and marks, from the lemmas on each.
use Rattle.core_saves.proofs.Kept.{marks_keep_all, marks_last_all, saves_keep_all}
use Rattle.core_saves.proofs.Made.{steps_made}
use Rattle.core_saves.proofs.Falls.{marks_fall_all, marks_last_fall}
use Rattle.core_saves.proofs.SaveFalls.{saves_fall_all}
use Rattle.core_saves.proofs.Standing.{marks_last_stay, marks_stay_all, saves_stay_all}
use Rattle.core_saves.specs.Laws.{MarksFall, MarksKeep, MarksStay, SavesFall, SavesKeep, SavesStay, StepsAreMade}

pub steps_are_made : StepsAreMade
steps_are_made = record { made = steps_made }

pub saves_keep : SavesKeep
saves_keep = record { saved = saves_keep_all }

pub saves_fall : SavesFall
saves_fall = record { saved = saves_fall_all }

pub marks_keep : MarksKeep
marks_keep = record { goes = marks_keep_all; last = marks_last_all }

pub saves_stay : SavesStay
saves_stay = record { saved = saves_stay_all }

pub marks_stay : MarksStay
marks_stay = record { goes = marks_stay_all; last = marks_last_stay }

pub marks_fall : MarksFall
marks_fall = record { goes = marks_fall_all; last = marks_last_fall }
