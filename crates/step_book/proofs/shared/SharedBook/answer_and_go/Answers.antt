use Rattle.step_book.proofs.Answering.{answers-memory, answers-ok}
use Rattle.step_book.proofs.shared.SharedBook.answer_and_go.Goals as goal

pub returns-clause-ok : goal.returns-clause-ok
returns-clause-ok g c =
    answers-ok c.args.pass.now c.answer.new.pass c.go-result.new.pass _ c.answer.ensures.seen c.answer.ensures.ended g.K.BookName.run c.go-result.result c.go-result.ensures.ok

pub returns-clause-memory : goal.returns-clause-memory
returns-clause-memory g c =
    answers-memory c.args.pass.now c.answer.new.pass c.go-result.new.pass _ c.answer.ensures.seen c.answer.ensures.ended c.go-result.result c.go-result.ensures.memory
