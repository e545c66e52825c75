-- What a state of the code is seen as: the program, the state of the machine, and room for a turn.
use Rattle.std.specs.Prelude.{ℕ, ◌≡◌, ◌≤◌, ◌+◌, Bool, true, false, List, Option, Some, slice_set, refl}
use Rattle.std.specs.Coded.{Coded, code_by, coded×, coded_ℕ, coded_list, coded_option}
use Rattle.c_syntax.specs.workings.Codes.{tree_view_code}
use Rattle.c_syntax.specs.language.Numbered.{TreeView}
use Rattle.omp_model.specs.declared.event.Callback.{Callback}
use Rattle.omp_model.specs.contracts.event.Callback as callback
use Rattle.omp_model.specs.declared.event.Event.{Event}
use Rattle.omp_model.specs.declared.event.Halt.{Halt}
use Rattle.omp_model.specs.declared.event.Outcome.TheVariants as outcome
use Rattle.omp_model.specs.Turn.{Turn, called, counted}
use Rattle.omp_model.specs.contracts.event.Halt as halt
use Rattle.omp_model.specs.State.{Run, State, World}
use Rattle.omp_board.specs.Board.{BoardRoom, BoardView, room_code, world_code}
use Rattle.omp_board.specs.Board as boards
use Rattle.omp_machine.specs.declared.settings.Settings.{Settings}

pub record StateView : Type 0 where
  pub program : TreeView
  pub state : State
  pub room : BoardRoom

abbrev pub state_code : Coded State
state_code =
    code_by (World × (List (Option Callback) × (ℕ × (ℕ × Option Halt))))
    (coded× world_code (coded× (coded_list (coded_option callback.the_row.coded)) (coded× coded_ℕ (coded× coded_ℕ (coded_option halt.the_row.coded)))))
    (λ S. (S.world, (S.pending, (S.steps, (S.turns, S.halt)))))
    (λ p. record { world = p.0; pending = p.1.0; steps = p.1.1.0; turns = p.1.1.1.0; halt = p.1.1.1.1 })
    (λ _. refl)

abbrev pub state_view_code : Coded StateView
state_view_code =
    code_by (TreeView × (State × BoardRoom)) (coded× tree_view_code (coded× state_code room_code))
    (λ view. (view.program, (view.state, view.room)))
    (λ p. record { program = p.0; state = p.1.0; room = p.1.1 })
    (λ _. refl)

abbrev pub run_code : Coded Run
run_code =
    code_by (TreeView × (ℕ × (ℕ × ℕ))) (coded× tree_view_code (coded× coded_ℕ (coded× coded_ℕ coded_ℕ)))
    (λ run. (run.program, (run.mask, (run.threads, run.steps))))
    (λ p. record { program = p.0; mask = p.1.0; threads = p.1.1.0; steps = p.1.1.1 })
    (λ _. refl)

-- the run that settings fix, of a program
abbrev pub run_in : TreeView → Settings → Run
run_in program settings =
    record { program = program; mask = settings.mask; threads = settings.limits.threads; steps = settings.limits.steps }

-- an event has occurred on the thread, and the world is that after it
abbrev pub happened : State → ℕ → Event → Turn
happened S t event =
    record { outcome = outcome.Happens event; state = record (counted S) { pending = slice_set S.pending t (Some (called event)) } }

-- what silent steps leave
pub record SameCounts (old new : State) : Type 0 where
  pub turns : new.turns ≡ old.turns
  pub pending : new.pending ≡ old.pending
  pub halt : new.halt ≡ old.halt

-- the part of a state that its board has
abbrev pub board_of : StateView → BoardView
board_of view = record { program = view.program; world = view.state.world; room = view.room }

-- so many silent steps of the thread were made, one after another, and counted
pub record HaveStepped (old : StateView) (t count : ℕ) (new : StateView) : Type 0 where
  pub steps : boards.HaveStepped count (board_of old) t (board_of new)
  pub counted : new.state ≡ record old.state { world = new.state.world; steps = old.state.steps + count }
