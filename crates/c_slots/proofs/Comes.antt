-- Whatever a task of a text that breaks no rule comes to, all that it uses is there.
use Rattle.std.specs.Prelude.{ℕ, List, length}
use Rattle.c_syntax.specs.language.Numbered.{TreeView, root_tree}
use Rattle.c_syntax.specs.language.Words.{words_of}
use Rattle.c_check.specs.Checked.{Checked}
use Rattle.c_model.specs.Formed.{IsProgramFormed}
use Rattle.c_model.specs.UsedCells.{IsTaskMade}
use Rattle.c_model.specs.Scoped.{IsScoped, IsWellScoped}
use Rattle.c_model.specs.Step.{settled_task}
use Rattle.c_model.specs.Task.{Moment}
use Rattle.c_model.proofs.GrammarTrees.{spelled_is_formed}
use Rattle.c_model.proofs.MadeCells.{task_more}
use Rattle.c_model.proofs.MadeTasks.{answer_is_made, event_is_made, explicit_is_made, main_is_made, member_is_made, step_is_made}
use Rattle.c_model.proofs.ScopeProgram.{well_scoped}
use Rattle.c_model.proofs.ScopeTasks.{answer_is_scoped, event_is_scoped, explicit_is_scoped, main_is_scoped, member_is_scoped, step_is_scoped}
use Rattle.c_syntax.specs.language.Texts.{Spells}
use Rattle.c_slots.specs.CodesOfRun.{ComesTo, IsWhole}
use Rattle.c_slots.specs.Slotted.{IsSlotted, IsWellSlotted}
use Rattle.c_slots.proofs.Files.{well_slotted}
use Rattle.c_slots.proofs.ProductionPlaces.{texts_have_own_places}
use Rattle.c_slots.proofs.Tasks.{answer_is_slotted, copies_in_scope, event_is_slotted, explicit_is_slotted, main_is_slotted, member_is_slotted}
use Rattle.c_slots.proofs.Tasks.{settled_is_slotted, step_is_slotted}

-- all that is so but for the copies, which follow from it
record HasAll (program : TreeView) (now : Moment) : Type 0 where
  scoped : IsScoped program now.task
  slotted : IsSlotted program now.task
  made : IsTaskMade program (length now.store.cells) now.task

module _ (program : TreeView) (well : IsWellScoped program) (places : IsWellSlotted program) where
  whole : {now : Moment} → ComesTo program now → HasAll program now
  whole ComesTo.begins = record { scoped = main_is_scoped program well; slotted = main_is_slotted program places; made = main_is_made program well }
  whole (ComesTo.waits {now = now} comes store more) =
      let is = whole comes in
      record { scoped = is.scoped; slotted = is.slotted; made = task_more program _ _ now.task more is.made }
  whole (ComesTo.steps {now = now} comes view next same) =
      let is = whole comes in
      record {
        scoped = step_is_scoped program view now next well is.scoped same;
        slotted = step_is_slotted program view now next places is.slotted same;
        made = (step_is_made program view now next well is.scoped is.made same).0;
      }
  whole (ComesTo.is_answered {now = now} comes view given) =
      let is = whole comes in
      record {
        scoped = answer_is_scoped program view given now is.scoped;
        slotted = answer_is_slotted program view given now is.slotted;
        made = (answer_is_made program view given now is.made).0;
      }
  whole (ComesTo.goes_past {now = now} comes view point executes tree same) =
      let is = whole comes in
      record {
        scoped = event_is_scoped program view point executes now tree well is.scoped same;
        slotted = event_is_slotted program view point executes now tree places is.slotted same;
        made = event_is_made program view point executes now tree well is.scoped is.made same;
      }
  whole (ComesTo.forks {now = now} comes) =
      let is = whole comes in
      record {
        scoped = member_is_scoped program now.task is.scoped;
        slotted = member_is_slotted program now.task is.slotted;
        made = member_is_made program _ now.task is.made;
      }
  whole (ComesTo.creates {now = now} comes view codeptr undeferred tree same) =
      let is = whole comes in
      record {
        scoped = explicit_is_scoped program view now codeptr undeferred tree well is.scoped same;
        slotted = explicit_is_slotted program view now codeptr undeferred tree places is.slotted same;
        made = (explicit_is_made program view now codeptr undeferred tree well is.scoped is.made same
            (copies_in_scope program _ places (settled_is_slotted program view now.task is.slotted))).0;
      }

pub text_is_whole : (text : List ℕ) (program : TreeView) (now : Moment) → Spells text (root_tree program) → Checked program → ComesTo program now
    → IsWhole program now
text_is_whole text program now is checked comes =
    let words = words_of text is.tokens in
    let formed : IsProgramFormed program = spelled_is_formed words program is.spelled in
    let places = well_slotted program (texts_have_own_places text program is) checked formed in
    let has = whole program (well_scoped program checked formed) places comes in
    record {
      scoped = has.scoped;
      slotted = has.slotted;
      made = has.made;
      copied = λ view. copies_in_scope program (settled_task view now.task) places (settled_is_slotted program view now.task has.slotted);
    }
