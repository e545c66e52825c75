use Rattle.std.proofs.Common.{◌<◌, length, sym, ◌∙◌, subst}
use Rattle.c_syntax.specs.language.Numbered.{tree_at}
use Rattle.c_model.specs.declared.question.Answer.{Answer}
use Rattle.c_model.specs.Answers.{AnswersFirst}
use Rattle.omp_model.specs.State.{task_at}
use Rattle.omp_model.specs.Silent.{answer_to}
use Rattle.omp_board.specs.Board.{BoardView}
use Rattle.omp_board.proofs.Silence.{construct_there, reply_fits}
use Rattle.omp_board.proofs.board.Board.answer.Goals as goal

pub share_in-share-requires : goal.share_in-share-requires
share_in-share-requires c section given =
    subst (λ (board : BoardView). c.args.node < length board.program.trees) (sym c.reply-answer.ensures.taken)
    (construct_there c.args.self.now.program c.args.self.now.world c.args.thread c.args.node c.requires.settled c.args.ask c.requires.asked section (sym c.reply-answer.ensures.answer ∙ given))

pub give-requires-clause-asked : goal.give-requires-clause-asked
give-requires-clause-asked c =
    let fits = reply_fits c.args.self.now.world c.args.thread c.requires.settled (tree_at c.args.self.now.program.trees c.args.node) c.args.ask c.requires.asked in
    let given = subst (λ (given : Answer). AnswersFirst (task_at c.args.self.now.world c.current-task.result).code.todo given) (sym c.reply-answer.ensures.answer)
    (subst (λ k. AnswersFirst (task_at c.args.self.now.world k).code.todo (answer_to c.args.self.now.world c.args.thread c.args.ask)) (sym c.current-task.ensures) fits) in
    subst (λ (board : BoardView). AnswersFirst (task_at board.world c.current-task.result).code.todo c.reply-answer.result) (sym c.reply-answer.ensures.taken) given
