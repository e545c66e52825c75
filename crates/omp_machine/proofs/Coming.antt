-- What the Go of an event of the code makes of a turn.
use Rattle.std.proofs.Common.{◌≡◌, ℕ, Result, Ok, Err, IfOk, IfErr, sym, ap, ◌∙◌}
use Rattle.c_syntax.specs.language.Numbered.{TreeView}
use Rattle.omp_model.specs.declared.event.Event.{Event}
use Rattle.omp_model.specs.declared.event.Halt.{Halt}
use Rattle.omp_model.specs.State.{Run, State, World}
use Rattle.omp_model.specs.Changes.{with_masked_skipped}
use Rattle.omp_model.specs.EventEffects.{Halts, Happens, go_of_code}
use Rattle.omp_model.specs.Turn.{Turn, state_past_masked, halted, with_going}
use Rattle.omp_board.specs.Board.{IsGoing, run_of}
use Rattle.omp_machine.specs.State.{happened}
use Rattle.omp_machine.proofs.Programs.{same-going}

pub comes-turn : (run : Run) (S : State) (t made : ℕ) (program : TreeView) (answer : Result Event Halt) (after : World) (T : Turn) → run.program ≡ program → IsGoing program (with_masked_skipped S.world t) t answer after → IfOk answer (λ event. happened (record S { world = after }) t event ≡ T) → IfErr answer (λ halt. halted (record S { world = after }) halt ≡ T) → with_going (state_past_masked S t) made t (go_of_code run (with_masked_skipped S.world t) t) ≡ T
comes-turn run S t made program (Ok event) after T same went happens halts =
    let went_so : go_of_code run (with_masked_skipped S.world t) t ≡ Happens event after =
    same-going run (with_masked_skipped S.world t) t ∙ ap (λ p. go_of_code (run_of p) (with_masked_skipped S.world t) t) same ∙ went in
    ap (with_going (state_past_masked S t) made t) went_so ∙ happens
comes-turn run S t made program (Err halt) after T same went happens halts =
    let went_so : go_of_code run (with_masked_skipped S.world t) t ≡ Halts halt =
    same-going run (with_masked_skipped S.world t) t ∙ ap (λ p. go_of_code (run_of p) (with_masked_skipped S.world t) t) same ∙ went.0 in
    ap (with_going (state_past_masked S t) made t) went_so ∙ ap (λ (W : World). halted (record S { world = W }) halt) (sym went.1) ∙ halts
