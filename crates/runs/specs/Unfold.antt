-- One name that unfolds every definition of this crate, for examples by computation.
use Rattle.runs.specs.Cuts.{ended_first, tape_answer, jobs_done, jobs_judged, jobs_of, passes_by, held_behind, is_lowered}
use Rattle.runs.specs.Joined.{judged_in, judged_held, joined_from, joined, accepted_events, after_record, after_records}
use Rattle.runs.specs.Runs.{number_in_run, hold, sheet_held, refused_with, held_after, read_held, lower_held, answered_first, run_calls, run}

unfoldable pub computes : Unit {0}
unfolding ended_first tape_answer jobs_done jobs_judged jobs_of passes_by held_behind is_lowered judged_in judged_held joined_from joined accepted_events after_record after_records
    number_in_run hold sheet_held refused_with held_after read_held lower_held answered_first run_calls run
computes = tt
