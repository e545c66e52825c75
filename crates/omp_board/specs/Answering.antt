-- A silent step of a thread's task: what its code comes to, and what is answered where it asks.
use Rattle.std.specs.Prelude.{◌≡◌, ℕ, Option}
use Rattle.c_syntax.specs.language.Numbered.{TreeView}
use Rattle.c_model.specs.declared.question.Answer.{Answer}
use Rattle.c_model.specs.declared.question.Ask.{Ask}
use Rattle.c_model.specs.declared.view.View.{View}
use Rattle.c_model.specs.Asked.{count_asked, sections_asked}
use Rattle.c_model.specs.AfterEvents.{settled_after_answer}
use Rattle.c_model.specs.Step.{settled_task, silent}
use Rattle.c_model.specs.Task.{Moment}
use Rattle.c_steps.specs.declared.next.Next.{Next}
use Rattle.c_steps.specs.ControlView.{outcome_at}
use Rattle.omp_model.specs.State.{World, task_at}
use Rattle.omp_model.specs.Members.{code_of, current, current_region, moment_of, view_of}
use Rattle.omp_model.specs.Changes.{gone_to, with_team}
use Rattle.omp_model.specs.Silent.{chunk_dealt, fitting_chunk, fitting_section, section_dealt, team_after}

-- the code of the thread's task has left out what it goes past
abbrev pub IsSettled : World → ℕ → Type 0
IsSettled W t = settled_task (view_of W t) (code_of W t) ≡ code_of W t

-- the code of the thread's task, which sees this of its team, has come to what was found, and stands after it now
abbrev pub ComesTo : TreeView → View → ℕ → World → Next → World → Type 0
ComesTo program view t W found after =
    outcome_at program found (moment_of after t) ≡ silent program view (moment_of W t)

-- the code of the thread's task has come as far as it has after it, and nothing else has changed
abbrev pub gone_as : World → ℕ → World → World
gone_as W t after = gone_to W (current W t) (moment_of after t)

-- what the team deals to the thread's task that fits what asks, where what asks stands first
abbrev pub chunk_given : World → ℕ → Option (ℕ × ℕ)
chunk_given W t = fitting_chunk (count_asked (code_of W t).todo) (chunk_dealt W t)

abbrev pub section_given : World → ℕ → Option ℕ
section_given W t = fitting_section (sections_asked (code_of W t).todo) (section_dealt W t)

-- the thread's team has dealt what was asked
abbrev pub dealt : World → ℕ → Ask → World
dealt W t ask = with_team W (current_region W t) (team_after W t ask)

-- the code of the task, and what all code shares
abbrev pub moment_at : World → ℕ → Moment
moment_at W k = record { task = (task_at W k).code; store = W.store }

-- the code of the task goes on with this answer to what stands first in it
abbrev pub told_answer : World → ℕ → Answer → World
told_answer W k given = gone_to W k (settled_after_answer given (moment_at W k))
