-- The schedule of a loop's clause as it is written.
use Rattle.c_model.specs.declared.point.Schedule.{Schedule}
use Rattle.c_model.specs.declared.point.Schedule.TheVariants as schedule
use Rattle.team_parts.specs.declared.meeting.Schedule.{Schedule as Dealt}
use Rattle.team_parts.specs.declared.meeting.Schedule.TheVariants as dealt

-- the same schedule of a team, with the same size
abbrev pub as_written : Schedule → Dealt
as_written (schedule.Static size) = dealt.Static size
as_written (schedule.Dynamic size) = dealt.Dynamic size
as_written (schedule.Guided size) = dealt.Guided size
