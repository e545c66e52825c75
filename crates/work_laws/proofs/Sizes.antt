-- A loop that begins deals its iterations by the schedule as it is written.
use Rattle.work_laws.proofs.Items.{AnyTree}
use Rattle.std.proofs.Common.{ℕ, ℤ, ◌≡◌, ◌≤◌, false, max, List, [], ◌∷◌, refl, ap, arith, subst, sym}
use Rattle.c_syntax.specs.language.Tree.{Tree}
use Rattle.c_check.specs.Checked.{Checked}
use Rattle.c_model.specs.declared.point.Point.{Point}
use Rattle.c_model.specs.declared.point.Point.TheVariants as point
use Rattle.c_model.specs.declared.point.Schedule.{Schedule}
use Rattle.c_model.specs.declared.point.Schedule.TheVariants.{Dynamic, Guided, Static}
use Rattle.c_model.specs.declared.point.Work.TheVariants as work
use Rattle.c_model.specs.Formed.{IsProgramFormed}
use Rattle.c_model.specs.Step.{settled_task, silent}
use Rattle.c_model.specs.Task.{Item}
use Rattle.c_model.specs.Task.Outcome.{Occurs}
use Rattle.team_parts.specs.declared.meeting.Schedule.TheVariants as dealt
use Rattle.omp_model.specs.declared.history.Entry.{Entry}
use Rattle.omp_model.specs.EventEffects.{dealt_by, told}
use Rattle.omp_model.specs.Legal.{after}
use Rattle.omp_model.specs.Members.{view_of}
use Rattle.omp_model.specs.State.{Run}
use Rattle.omp_model.specs.Turn.{walk}
use Rattle.work_laws.specs.Sizes.{as_written}
use Rattle.work_laws.proofs.CodeRuns.{AnyEnd, all-walk, any-single, holds-told}
use Rattle.work_laws.proofs.ItemSteps.{TellsNext, holds-event}
use Rattle.work_laws.proofs.SizedPrograms.{functions-sized}
use Rattle.work_laws.proofs.SizedTrees.{HasSize, Sized, sized-rules, HasSized}

-- nothing is raised
not-raised : (size : ℕ) → 1 ≤ size → max 1 size ≡ size
not-raised size some = omega (arith, some)

written : (how : Schedule) → HasSize how → dealt_by how ≡ as_written how
written (Static size) some = refl
written (Dynamic size) some = ap (λ (size : ℕ). dealt.Dynamic size) (not-raised size some)
written (Guided size) some = ap (λ (size : ℕ). dealt.Guided size) (not-raised size some)

-- what stands next is a loop with such a schedule
sized-next : (codeptr count : ℕ) (start step : ℤ) (how : Schedule) (items : List Item) →
    TellsNext Sized HasSized AnyTree AnyEnd sized-rules any-single (point.WorkBegin codeptr (work.Loop start count step how)) items → HasSize how
sized-next codeptr count start step how [] tells = absurd tells
sized-next codeptr count start step how (item ∷ items) tells = subst HasSize (sym tells.1) tells.0

pub dealt-as-written : (run : Run) (history : List Entry) (t steps codeptr count : ℕ) (start step : ℤ) (how : Schedule) (construct : Tree) →
    Checked run.program → IsProgramFormed run.program → let W = (walk run steps 0 (after run history) t).state.world in
    silent run.program (view_of W t) (told W t) ≡ Occurs (point.WorkBegin codeptr (work.Loop start count step how)) construct →
    dealt_by how ≡ as_written how
dealt-as-written run history t steps codeptr count start step how construct checked formed is =
    let W = (walk run steps 0 (after run history) t).state.world in
    let what : Point = point.WorkBegin codeptr (work.Loop start count step how) in
    let functions = functions-sized run.program checked formed in
    let holds = holds-told run Sized HasSized sized-rules functions W t (all-walk run Sized HasSized sized-rules functions history t steps) in
    let event = holds-event Sized HasSized AnyTree AnyEnd sized-rules any-single run.program (view_of W t) (told W t) what false construct functions holds is in
    written how (sized-next codeptr count start step how (settled_task (view_of W t) (told W t).task).todo event.1)
