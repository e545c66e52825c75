-- Silent steps: what a thread does between events. A step of its current task's code may have to be told the next chunk, the next section, or
-- whether a lock is owned.
use Rattle.std.specs.Prelude.{ℕ, ◌+◌, ◌&&◌, nat_le, nat_lt, not, if◌then◌else◌, Bool, List, slice_index_or, Option, Some, None, option_map}
use Rattle.c_syntax.specs.language.Tree.{Tree, nothing}
use Rattle.c_model.specs.declared.question.Answer.{Answer}
use Rattle.c_model.specs.declared.question.Answer.TheVariants as answer
use Rattle.c_model.specs.declared.question.Ask.{Ask}
use Rattle.c_model.specs.declared.question.Ask.TheVariants as ask
use Rattle.c_model.specs.Asked.{count_asked, sections_asked}
use Rattle.c_model.specs.Clauses.{statements_among}
use Rattle.c_model.specs.AfterEvents.{after_answer}
use Rattle.c_model.specs.Parts.{parts}
use Rattle.c_model.specs.Program.{place_of}
use Rattle.c_model.specs.Step.{settled_task, silent}
use Rattle.c_model.specs.Task.{Item, Outcome}
use Rattle.c_model.specs.Task.Outcome.{Asks, Ends, Limits, Occurs, StepsTo, Traps}
use Rattle.team_parts.specs.Team.{TeamView, after_chunk, after_section, next_chunk, next_section}
use Rattle.omp_model.specs.declared.event.Halt.{Halt}
use Rattle.omp_model.specs.declared.event.Halt.TheVariants.{Limit, Trap}
use Rattle.omp_model.specs.declared.event.Share.{Share}
use Rattle.omp_model.specs.declared.event.Share.TheVariants.{Chunk, Section}
use Rattle.omp_model.specs.State.{Run, World}
use Rattle.omp_model.specs.Members.{code_of, current, current_index, current_region, current_team, is_member, moment_of, view_of}
use Rattle.omp_model.specs.Gates.{is_owned}
use Rattle.omp_model.specs.Changes.{gone_to, with_taken_share, with_team}

-- What the team deals is given where it fits the work that asks: a chunk that has an iteration and lies within the loop, and a section that the
-- construct has. In runs of 1 to 16 threads of a program that breaks no rule, and
-- whose tree has the shape of one that a text spells, it always fits, so nothing is counted as taken that isn't given.
abbrev pub fits_loop : ℕ → ℕ × ℕ → Bool
fits_loop count chunk = nat_lt 0 chunk.1 && nat_le (chunk.0 + chunk.1) count

abbrev pub fitting_chunk : ℕ → Option (ℕ × ℕ) → Option (ℕ × ℕ)
fitting_chunk count None = None
fitting_chunk count (Some chunk) = if fits_loop count chunk then Some chunk else None

abbrev pub fitting_section : ℕ → Option ℕ → Option ℕ
fitting_section count None = None
fitting_section count (Some section) = if nat_lt section count then Some section else None

-- what the team deals to the thread next
abbrev pub chunk_dealt : World → ℕ → Option (ℕ × ℕ)
chunk_dealt W t = if is_member W t then next_chunk (current_team W t) (current_index W t) else None

abbrev pub section_dealt : World → ℕ → Option ℕ
section_dealt W t = if is_member W t then next_section (current_team W t) (current_index W t) else None

-- the code that asks: what asks stands first
abbrev pub items_asking : World → ℕ → List Item
items_asking W t = (settled_task (view_of W t) (code_of W t)).todo

-- what the team and the locks answer to what is asked
abbrev pub answer_to : World → ℕ → Ask → Answer
answer_to W t ask.Chunk = answer.Chunk (fitting_chunk (count_asked (items_asking W t)) (chunk_dealt W t))
answer_to W t ask.Section = answer.Section (fitting_section (sections_asked (items_asking W t)) (section_dealt W t))
answer_to W t (ask.LockFree wait_id) = answer.Free (not (is_owned W wait_id))

-- the team after that
abbrev pub team_asked : TeamView → ℕ → Ask → TeamView
team_asked team i ask.Chunk = after_chunk team i
team_asked team i ask.Section = after_section team i
team_asked team i (ask.LockFree wait_id) = team

abbrev pub team_after : World → ℕ → Ask → TeamView
team_after W t ask = if is_member W t then team_asked (current_team W t) (current_index W t) ask else current_team W t

-- the share of work that was taken, if one was
abbrev pub share_of_chunk : ℕ × ℕ → Share
share_of_chunk chunk = Chunk chunk.0 chunk.1

-- a section stands at its directive, and a first one without a directive at its statement
abbrev pub share_of_section : Tree → ℕ → Share
share_of_section construct section = Section (place_of (slice_index_or (statements_among (parts construct)) section nothing))

abbrev pub share_taken : Tree → Answer → Option Share
share_taken construct (answer.Chunk chunk) = option_map share_of_chunk chunk
share_taken construct (answer.Section section) = option_map (share_of_section construct) section
share_taken construct (answer.Free free) = None

-- the world after what was asked in this construct or call has been answered
abbrev pub answered_by : World → ℕ → Ask → Tree → Answer → World
answered_by W t ask tree given =
    with_team
    (with_taken_share (gone_to W (current W t) (after_answer (view_of W t) given (moment_of W t))) t (share_taken tree given))
    (current_region W t)
    (team_after W t ask)

abbrev pub answered : World → ℕ → Ask → Tree → World
answered W t ask tree = answered_by W t ask tree (answer_to W t ask)

-- What one silent step comes to: the world after it, or the trap or limit that halts the run. An event or the end is no silent step, and nothing is done
-- there.
pub data Silence : Type 0 where
  Goes : (after : World) → Silence
  Stops : Halt → Silence

abbrev pub silence_of : World → ℕ → Outcome → Silence
silence_of W t (StepsTo now) = Goes (gone_to W (current W t) now)
silence_of W t (Asks ask tree) = Goes (answered W t ask tree)
silence_of W t (Occurs point tree) = Goes W
silence_of W t (Ends number) = Goes W
silence_of W t (Traps trap) = Stops (Trap trap)
silence_of W t (Limits limit) = Stops (Limit limit)

unfoldable pub silent_step : Run → World → ℕ → Silence
silent_step run W t = silence_of W t (silent run.program (view_of W t) (moment_of W t))
