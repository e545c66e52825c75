-- What is answered was asked, and with an answer of that kind.
use Rattle.std.specs.Prelude.{List, [], ◌∷◌}
use Rattle.c_syntax.specs.language.Numbered.{TreeView}
use Rattle.c_model.specs.declared.question.Answer.{Answer}
use Rattle.c_model.specs.declared.question.Answer.TheVariants as answer
use Rattle.c_model.specs.declared.view.View.{View}
use Rattle.c_model.specs.Answers.{Answers, AnswersFirst, AnswersItem, AsksFor, IsChunkAnswer, IsLockAnswer, IsSectionAnswer}
use Rattle.c_model.specs.Constructs.{next_chunk}
use Rattle.c_model.specs.Step.{items_from_next, silent, step_at, step_of}
use Rattle.c_model.specs.Task.{StepStart, Item, Moment, SharedLoop}
use Rattle.c_model.specs.Task.Item.{Start, Declare, Leave, Test, Third, Initialise, Return, FallOff, Forked, Inside, MakeCells, NextChunk, Iterations, NextSection, Combine, EndWork, EndMasked, Sync, Acquire, Release, TestLock, Tested}

asked-chunk : (loop : SharedLoop) (given : Answer) → IsChunkAnswer loop.count given → AsksFor (next_chunk loop) given
unfolding IsChunkAnswer AsksFor
asked-chunk loop (answer.Chunk chunk) is = tt
asked-chunk loop (answer.Section section) is = absurd is
asked-chunk loop (answer.Free free) is = absurd is

asked-item : (item : Item) (given : Answer) (here : StepStart) → AnswersItem item given → AsksFor (step_of item here) given
unfolding AnswersItem IsChunkAnswer IsSectionAnswer IsLockAnswer AsksFor
asked-item (NextChunk loop) given here is = asked-chunk loop given is
asked-item (NextSection construct names) (answer.Section section) here is = tt
asked-item (NextSection construct names) (answer.Chunk chunk) here is = absurd is
asked-item (NextSection construct names) (answer.Free free) here is = absurd is
asked-item (TestLock call id to) (answer.Free free) here is = tt
asked-item (TestLock call id to) (answer.Chunk chunk) here is = absurd is
asked-item (TestLock call id to) (answer.Section section) here is = absurd is
asked-item (Start tree) given here is = absurd is
asked-item (Declare tree) given here is = absurd is
asked-item (Leave names) given here is = absurd is
asked-item (Test tree names) given here is = absurd is
asked-item (Third tree names) given here is = absurd is
asked-item (Initialise tree entry) given here is = absurd is
asked-item (Return number) given here is = absurd is
asked-item FallOff given here is = absurd is
asked-item (Forked construct) given here is = absurd is
asked-item (Inside construct) given here is = absurd is
asked-item (MakeCells construct) given here is = absurd is
asked-item (Iterations loop at upto) given here is = absurd is
asked-item (Combine operator name names) given here is = absurd is
asked-item (EndWork construct kind count names) given here is = absurd is
asked-item (EndMasked construct) given here is = absurd is
asked-item (Sync tree kind stage) given here is = absurd is
asked-item (Acquire tree kind id) given here is = absurd is
asked-item (Release tree id) given here is = absurd is
asked-item (Tested to) given here is = absurd is

asked-first : (items : List Item) (given : Answer) (program : TreeView) (view : View) (now : Moment) → AnswersFirst items given → AsksFor (step_at items program view now) given
unfolding AnswersFirst
asked-first [] given program view now is = absurd is
asked-first (item ∷ items) given program view now is =
    asked-item item given (record { program = program; view = view; task = record now.task { todo = items }; store = now.store }) is

pub answered_asks : (program : TreeView) (view : View) (given : Answer) (now : Moment) → Answers view now.task given → AsksFor (silent program view now) given
unfolding silent
answered_asks program view given now is = asked-first (items_from_next view now.task.todo) given program view now is
