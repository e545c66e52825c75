-- A function returns: the call that was opened last is closed, and its value goes to its target.
use Rattle.std.specs.Prelude.{◌≡◌, ℕ, ◌<◌, List, [], ◌∷◌, take, Option, Some, None, ℤ, pos, slice_set, refl}
use Rattle.std.proofs.Common.{ap, subst, sym, ◌∙◌, arith}
use Rattle.std.proofs.lemmas.List.{drop_min, take_min}
use Rattle.std.proofs.lemmas.List.Elements.{All-cons, All-nil, All-tail}
use Rattle.c_syntax.specs.language.Numbered.{TreeView}
use Rattle.c_model.specs.declared.view.View.{View}
use Rattle.c_model.specs.declared.point.Target.{Target}
use Rattle.c_model.specs.declared.point.Target.TheVariants as target
use Rattle.c_model.specs.Calls.{ends_test, returns, returns_to, value_cells}
use Rattle.c_model.specs.Task.{OpenCall, Store}
use Rattle.c_model.specs.Task.Item.{Return}
use Rattle.c_model.specs.Task.Outcome.{StepsTo}
use Rattle.c_steps.specs.declared.frame.Frame.{Frame}
use Rattle.c_steps.specs.declared.frame.Frame.TheVariants as frame
use Rattle.c_steps.specs.declared.item.Item.TheVariants as item
use Rattle.c_steps.specs.ControlView.{ControlView, env_at, here_at, moment_at}
use Rattle.c_steps.specs.Items.{begun, calls_at, todo_at}
use Rattle.c_steps.specs.Moves.{below_call, cells_given, closed, closed_to, delivered, given_back, last_call, stepping}
use Rattle.c_steps.specs.Ready.{AreFrames, IsAfterStep, IsFrame, IsStepping}
use Rattle.c_steps.proofs.Frames.{calls_by_last, calls_from_last}

are_below : (program : TreeView) (frames : List Frame) → AreFrames program frames → AreFrames program (below_call frames)
unfolding below_call
are_below program [] are = are
are_below program (frame.One it ∷ frames) are = are_below program frames (All-tail (IsFrame program) (frame.One it) frames are)
are_below program (frame.Parts block place at names ∷ frames) are = are_below program frames (All-tail (IsFrame program) (frame.Parts block place at names) frames are)
are_below program (frame.Combining construct from names ∷ frames) are = are_below program frames (All-tail (IsFrame program) (frame.Combining construct from names) frames are)
are_below program (frame.Combines operator name construct from names ∷ frames) are = are_below program frames (All-tail (IsFrame program) (frame.Combines operator name construct from names) frames are)
are_below program (frame.Caller base to ∷ frames) are = All-tail (IsFrame program) (frame.Caller base to) frames are

module _ (program : TreeView) (view : View) (held : ControlView) (store : Store) (number : ℤ) where
  -- what is there when the call that was opened last has been closed, if it is this
  abbrev after_call : Option (ℕ × Target) → ControlView
  after_call last = record (given_back last number (closed_to last (stepping held))) { returned = Some number }

  abbrev after_cells : Option (ℕ × Target) → Store
  after_cells last = record store { cells = cells_given last number store.cells }

  returns_by : (last : Option (ℕ × Target)) →
      calls_at program (take held.base held.names) held.frames ≡ calls_from_last program (take held.base held.names) (below_call (begun held.frames)) last →
      StepsTo (moment_at program (after_call last) (after_cells last))
      ≡ returns_to (calls_from_last program (take held.base held.names) (below_call (begun held.frames)) last) (here_at program view held store) number
  unfolding todo_at calls_at
  returns_by None is = ap (λ (calls : List OpenCall). StepsTo (record { task = record { todo = []; env = env_at program held; calls = calls; returned = Some number }; store = store })) (sym is)
  returns_by (Some (base, target.Nowhere)) is = rw (drop_min base (take held.base held.names), take_min base (take held.base held.names)) refl
  returns_by (Some (base, target.Cell cell)) is = rw (drop_min base (take held.base held.names), take_min base (take held.base held.names)) refl
  returns_by (Some (base, target.Return)) is = rw (drop_min base (take held.base held.names), take_min base (take held.base held.names)) refl

  pub returned_is : IsStepping program held → StepsTo (moment_at program (after_call (last_call (begun held.frames))) (after_cells (last_call (begun held.frames)))) ≡ returns (here_at program view held store) number
  returned_is ready =
      let calls : calls_at program (take held.base held.names) held.frames ≡ calls_from_last program (take held.base held.names) (below_call (begun held.frames)) (last_call (begun held.frames)) =
      sym (ready.calls (take held.base held.names)) ∙ calls_by_last program (take held.base held.names) (begun held.frames) in
      returns_by (last_call (begun held.frames)) calls ∙ ap (λ (calls : List OpenCall). returns_to calls (here_at program view held store) number) (sym calls)

  after_by : (last : Option (ℕ × Target)) → 0 < held.spare → IsAfterStep held (after_call last)
  after_by None spare = record { spare = omega (arith, spare); passes = refl; step_names = refl; room = refl }
  after_by (Some (base, target.Nowhere)) spare = record { spare = omega (arith, spare); passes = refl; step_names = refl; room = refl }
  after_by (Some (base, target.Cell cell)) spare = record { spare = omega (arith, spare); passes = refl; step_names = refl; room = refl }
  after_by (Some (base, target.Return)) spare = record { spare = omega (arith, spare); passes = refl; step_names = refl; room = refl }

  pub returned_after : IsStepping program held → IsAfterStep held (after_call (last_call (begun held.frames)))
  returned_after ready = after_by (last_call (begun held.frames)) ready.spare

  frames_by : (last : Option (ℕ × Target)) → AreFrames program (begun held.frames) → AreFrames program (after_call last).frames
  frames_by None are = All-nil (IsFrame program)
  frames_by (Some (base, target.Nowhere)) are = are_below program (begun held.frames) are
  frames_by (Some (base, target.Cell cell)) are = are_below program (begun held.frames) are
  frames_by (Some (base, target.Return)) are = All-cons (IsFrame program) (frame.One (item.Return number)) (below_call (begun held.frames)) tt (are_below program (begun held.frames) are)

  -- the control when the function has returned
  pub returned_frames : (steps new : ControlView) → IsStepping program held → steps ≡ stepping held →
      new ≡ record (given_back (last_call steps.frames) number (closed steps)) { returned = Some number } → AreFrames program new.frames
  returned_frames steps new ready is_step is =
      let all : new ≡ after_call (last_call (begun held.frames)) =
      is ∙ ap (λ (it : ControlView). record (given_back (last_call it.frames) number (closed it)) { returned = Some number }) is_step in
      subst (λ (it : ControlView). AreFrames program it.frames) (sym all) (frames_by (last_call (begun held.frames)) ready.are_begun)

-- an `omp_test_lock` ends
module _ (program : TreeView) (view : View) (held : ControlView) (store : Store) where
  pub test_ended : (to : Target) → IsStepping program held →
      StepsTo (moment_at program (delivered to (pos 1) (stepping held)) (record store { cells = value_cells to (pos 1) store.cells })) ≡ ends_test (here_at program view held store) to
  unfolding todo_at calls_at
  test_ended target.Nowhere ready =
      ap (λ (calls : List OpenCall). StepsTo (record { task = record { todo = todo_at program (begun held.frames); env = env_at program held; calls = calls; returned = held.returned }; store = store })) (ready.calls (take held.base held.names))
  test_ended (target.Cell cell) ready =
      ap (λ (calls : List OpenCall). StepsTo (record { task = record { todo = todo_at program (begun held.frames); env = env_at program held; calls = calls; returned = held.returned }; store = record store { cells = slice_set store.cells cell (pos 1) } })) (ready.calls (take held.base held.names))
  test_ended target.Return ready =
      ap (λ (calls : List OpenCall). StepsTo (record { task = record { todo = Return (pos 1) ∷ todo_at program (begun held.frames); env = env_at program held; calls = calls; returned = held.returned }; store = store })) (ready.calls (take held.base held.names))
