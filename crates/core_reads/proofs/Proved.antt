-- The laws of the lines of reads, from the lemmas on each.
use Rattle.core_state.proofs.Below.{below}
use Rattle.core_reads.proofs.Closed.{close_begins}
use Rattle.core_reads.proofs.Fetched.{fetch_begins}
use Rattle.core_reads.proofs.Made.{made_stays}
use Rattle.core_reads.proofs.Opened.{open_begins}
use Rattle.core_reads.proofs.Reading.{step_falls, step_sound, step_stays}
use Rattle.core_reads.proofs.Wanted.{get_begins, part_begins}
use Rattle.core_reads.specs.Laws.{HandlesBegin, MadeStays, ReadStepsKeep, ReadsBegin}

pub read_steps_keep : ReadStepsKeep
read_steps_keep = record { sound = step_sound below; stays = step_stays; falls = step_falls }

pub reads_begin : ReadsBegin
reads_begin = record { row = get_begins; part = part_begins }

pub handles_begin : HandlesBegin
handles_begin = record { opening = open_begins; fetch = fetch_begins; closing = close_begins }

pub reads_stay_made : MadeStays
reads_stay_made = made_stays
