-- Where the code of a task begins.
use Rattle.std.proofs.Common.{◌≡◌, ℕ, ◌+◌, ◌<◌, ◌≤◌, List, [], ◌∷◌, ◌++◌, length, Option, None, refl, sym, subst, arith}
use Rattle.std.proofs.lemmas.List.{append-nil}
use Rattle.std.proofs.lemmas.List.Elements.{All-cons, All-nil}
use Rattle.c_syntax.specs.language.Numbered.{TreeView}
use Rattle.c_model.specs.declared.entry.Entry.{Entry}
use Rattle.c_model.specs.declared.limits.TheConstants.{CALL_LIMIT}
use Rattle.c_model.specs.declared.point.Target.TheVariants.{Nowhere}
use Rattle.c_model.specs.Begin.{main_task}
use Rattle.c_model.specs.Calls.{file_bound}
use Rattle.c_model.specs.Program.{body_of, function_named}
use Rattle.c_model.specs.Width.{IsCallWithin, IsWithin, most_names, width}
use Rattle.c_model.proofs.WidthTasks.{main_is_within}
use Rattle.c_steps.specs.declared.frame.Frame.{Frame}
use Rattle.c_steps.specs.declared.frame.Frame.TheVariants as frame
use Rattle.c_steps.specs.declared.item.Item.TheVariants as item
use Rattle.c_steps.specs.ControlView.{ControlView, task_at}
use Rattle.c_steps.specs.Items.{calls_at, file_names, todo_at}
use Rattle.c_steps.specs.OfProgram.{IsMadeFor, blank_held}
use Rattle.c_steps.specs.Moves.{cleared, opened, roomy, then_item}
use Rattle.c_steps.specs.Nodes.{IsPart, part_at}
use Rattle.c_steps.specs.Ready.{IsFrame}
use Rattle.c_steps.specs.Rooming.{AreEntries, HasRoomFor, open_calls}

-- the names of the file are all that are in scope
file-alone : (program : TreeView) → length (file_names program ++ []) ≤ width program
unfolding file_names
file-alone program = rw (append-nil (file_names program)) (omega arith)

pub blank_within : (program : TreeView) (held : ControlView) → IsWithin program (task_at program (cleared held))
unfolding todo_at calls_at most_names
blank_within program held = record { now = file-alone program; calls = All-nil (IsCallWithin program) }

pub made_cleared : (program : TreeView) (held : ControlView) → IsMadeFor program held → IsMadeFor program (cleared held)
made_cleared program held made =
    record { are_frames = All-nil (IsFrame program); brings = made.brings; fits = made.fits; is_within = blank_within program held }

pub made_blank : (program : TreeView) → IsMadeFor program (blank_held program)
made_blank program =
    record { are_frames = All-nil (IsFrame program); brings = refl; fits = omega arith; is_within = blank_within program (blank_held program) }

pub made_roomy : (program : TreeView) (held : ControlView) → IsMadeFor program held → IsMadeFor program (roomy held)
made_roomy program held made = record { are_frames = made.are_frames; brings = made.brings; fits = made.fits; is_within = made.is_within }

-- main
module _ (program : TreeView) (body : Option ℕ) (is : part_at program.trees body ≡ body_of (function_named program program.main)) where
  pub main_stands : task_at program (then_item (item.Start body) (then_item item.FallOff (opened Nowhere (blank_held program)))) ≡ main_task program
  unfolding todo_at calls_at file_names
  main_stands = rw (is, append-nil (file_bound program).env) refl

  pub made_main : IsPart program.trees body → IsMadeFor program (then_item (item.Start body) (then_item item.FallOff (opened Nowhere (blank_held program))))
  made_main there =
      record {
        are_frames =
            All-cons (IsFrame program) (frame.One (item.Start body)) (frame.One item.FallOff ∷ frame.Caller 0 Nowhere ∷ []) there
            (All-cons (IsFrame program) (frame.One item.FallOff) (frame.Caller 0 Nowhere ∷ []) tt (All-cons (IsFrame program) (frame.Caller 0 Nowhere) [] tt (All-nil (IsFrame program))));
        brings = refl;
        fits = omega arith;
        is_within = subst (IsWithin program) (sym main_stands) (main_is_within program);
      }

-- a control without code has room for the first frames
pub room_of_none : (free_frames free_names step_names room : ℕ) (frames : List Frame) (names : List Entry) → frames ≡ [] → AreEntries names → 4 ≤ free_frames → room ≤ length names + free_names →
    HasRoomFor free_frames free_names 0 (record { frames = frames; names = names; base = 0; returned = None; spare = 0; passes = 0; frames_now = 4; names_now = 0; step_names = step_names; room = room })
unfolding open_calls
room_of_none free_frames free_names step_names room frames names none entries least enough =
    record { base = omega arith; entries = entries; frames = omega arith; names = omega arith; room = enough; counted = rw none refl }

pub none_open : (program : TreeView) (held : ControlView) → held ≡ blank_held program → open_calls held.frames < CALL_LIMIT
unfolding open_calls
none_open program held is = rw is (omega arith)
