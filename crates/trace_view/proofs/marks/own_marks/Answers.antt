use Rattle.std.proofs.Common.{sym, ap, ◌∙◌}
use Rattle.std.proofs.lemmas.List.{append-nil}
use Rattle.trace_view.specs.Chrome.{own_marks}
use Rattle.trace_view.specs.Marking.{marks_of}
use Rattle.trace_view.proofs.marks.own_marks.Goals as goal

pub returns-in-MutexReleased : goal.returns-in-MutexReleased
returns-in-MutexReleased c = λ t. append-nil (marks_of t c.released.result)
    ∙ (c.released.ensures t c.in-MutexReleased.codeptr ∙ ap (own_marks t) (sym c.in-MutexReleased.is))

pub returns-in-MutexAcquire : goal.returns-in-MutexAcquire
returns-in-MutexAcquire c = λ t. append-nil (marks_of t c.asked.result)
    ∙ (c.asked.ensures t c.in-MutexAcquire.hint c.in-MutexAcquire.variant c.in-MutexAcquire.codeptr ∙ ap (own_marks t) (sym c.in-MutexAcquire.is))

pub returns-in-MutexAcquired : goal.returns-in-MutexAcquired
returns-in-MutexAcquired c = λ t. c.acquired.ensures t c.in-MutexAcquired.codeptr ∙ ap (own_marks t) (sym c.in-MutexAcquired.is)
