-- Two members share a loop of three iterations, wait at a barrier, and share two sections.
use Rattle.std.specs.Prelude.{true, false, pos, Some, None, Ok, Err, List, [], ◌∷◌}
use Rattle.team_parts.specs.declared.meeting.Schedule.TheVariants.{Dynamic}
use Rattle.team_parts.specs.declared.meeting.Meeting.{Meeting}
use Rattle.team_parts.specs.declared.meeting.Meeting.TheVariants.{Loop, Sections, Single, Barrier}
use Rattle.team_words.specs.Calls.{TeamAnswer, TeamCall}
use Rattle.team_words.specs.Calls.TeamCall.{Meet, WouldMeet, TakeChunk, TakeSection, Arrive, MayPass, Pass}
use Rattle.team_words.specs.Calls.TeamAnswer.{Meets, Chunk, Section, Ends, Done}

abbrev pub loop_met : Meeting
loop_met = Loop 7 (pos 0) 3 (pos 1) (Dynamic 2)

abbrev pub barrier_met : Meeting
barrier_met = Barrier 7 1

abbrev pub sections_met : Meeting
sections_met = Sections 9 2

abbrev pub calls : List TeamCall
calls =
    Meet 0 loop_met
    ∷ Meet 1 loop_met
    ∷ TakeChunk 1
    ∷ TakeChunk 0
    ∷ TakeChunk 0
    ∷ TakeChunk 1
    ∷ Meet 0 barrier_met
    ∷ WouldMeet 1 (Single 8)
    ∷ Meet 1 barrier_met
    ∷ Arrive 0
    ∷ MayPass 0 0
    ∷ Arrive 1
    ∷ MayPass 1 1
    ∷ MayPass 1 0
    ∷ Pass 1
    ∷ MayPass 0 1
    ∷ Pass 0
    ∷ Meet 1 sections_met
    ∷ Meet 0 sections_met
    ∷ TakeSection 0
    ∷ TakeSection 1
    ∷ TakeSection 0
    ∷ []

abbrev pub answers : List TeamAnswer
answers =
    Meets (Ok true)
    ∷ Meets (Ok false)
    ∷ Chunk (Some (0, 2))
    ∷ Chunk (Some (2, 1))
    ∷ Chunk None
    ∷ Chunk None
    ∷ Meets (Ok true)
    ∷ Meets (Err (record {}))
    ∷ Meets (Ok false)
    ∷ Done
    ∷ Ends false
    ∷ Done
    ∷ Ends false
    ∷ Ends true
    ∷ Done
    ∷ Ends true
    ∷ Done
    ∷ Meets (Ok true)
    ∷ Meets (Ok false)
    ∷ Section (Some 0)
    ∷ Section (Some 1)
    ∷ Section None
    ∷ []
