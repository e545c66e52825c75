-- An answer, and then a visit of the same thread, as two holds.
use Rattle.std.proofs.Common.{◌≡◌, List, [], Result, Ok, Err, IfOk, OnErr}
use Rattle.omp_model.specs.declared.history.Entry.{Entry}
use Rattle.omp_model.specs.State.{Run}
use Rattle.step_book.specs.declared.step.Step.{Step}
use Rattle.step_book.specs.Sharing.{AnswersThen, VisitsAfterOthers, AddsHold, PassView}

module _ {E : Type 0} (before answered after : PassView) (entries : List Entry) (grows : AddsHold before answered entries) (same : answered.ended ≡ before.ended) where
  pub answers-ok : (run : Run) (result : Result Step E) → IfOk result (λ step. VisitsAfterOthers run answered step after) → IfOk result (λ step. AnswersThen before entries (λ answered. VisitsAfterOthers run answered step after))
  answers-ok run (Ok step) goes = record { answered = answered; grows = grows; ended = same; next = goes }
  answers-ok run (Err e) goes = tt

  pub answers-memory : (result : Result Step E) → OnErr result (AddsHold answered after []) → OnErr result (AnswersThen before entries (λ answered. AddsHold answered after []))
  answers-memory (Ok step) none = tt
  answers-memory (Err e) none = record { answered = answered; grows = grows; ended = same; next = none }
