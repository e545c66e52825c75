-- What closing a book tells of the passes.
use Rattle.std.proofs.Common.{◌≡◌, ℕ, ◌+◌, ◌<◌, List, length, get_or, set, sym, ap, ◌∙◌, subst, inl, inr, arith}
use Rattle.std.proofs.lemmas.Bool.{cases_eq}
use Rattle.std.proofs.lemmas.List.{get_or_default, set-get_or}
use Rattle.omp_model.specs.declared.history.Entry.{Entry}
use Rattle.omp_model.specs.State.{Run}
use Rattle.omp_model.specs.Legal.{Legal}
use Rattle.step_book.specs.declared.hold.Hold.{Hold}
use Rattle.step_book.specs.Rule.{AllBelow, IsBeginning, entries_of}
use Rattle.step_book.specs.Sharing.{AreOwn, IsClosed, PassView, fresh_pass}
use Rattle.step_book.proofs.Longest.{longest}

pub closing :
    (run : Run) (passes : List PassView) (all : List Hold) (history : List Entry) → 0 < run.threads → length passes ≡ run.threads → ((k : ℕ) (d : PassView) → k < run.threads → (get_or passes k d).thread ≡ k)
    → history ≡ entries_of all → Legal run history → AreOwn all → ((k : ℕ) (d : PassView) → k < run.threads → IsBeginning (get_or passes k d).thread (get_or passes k d).seen all) → AllBelow run.threads all → IsClosed run passes history
closing run passes all history some count order entries legal own begins below =
    let each : (k : ℕ) (d : PassView) → k < run.threads → IsBeginning k (get_or passes k d).seen all = λ k d less. subst (λ thread. IsBeginning thread (get_or passes k d).seen all) (order k d less) (begins k d less) in
    let none = fresh_pass 0 in
    let whole = longest run.threads (λ k. (get_or passes k none).seen) all some below (λ k less. each k none less) in
    record {
      all = all;
      entries = entries;
      legal = legal;
      own = own;
      below = below;
      begins = each;
      longest = (whole.0, whole.1, λ d. ap (λ (pass : PassView). pass.seen) (get_or_default passes whole.0 d none (omega (arith, whole.1, count))) ∙ whole.2);
    }

-- so many passes were compared with all holds
pub record IsChecked (threads checked : ℕ) (all : List Hold) (given passes : List PassView) : Type 0 where
  pub same : passes ≡ given
  pub begins : (k : ℕ) (d : PassView) → k < checked → IsBeginning (get_or passes k d).thread (get_or passes k d).seen all
  pub below : 0 < checked → AllBelow threads all

-- and one more
pub check-next :
    (threads place : ℕ) (all next : List Hold) (given passes : List PassView) (pass after : PassView) → IsChecked threads place all given passes → place < length passes → next ≡ all → after ≡ pass → pass ≡ get_or passes place pass → IsBeginning pass.thread pass.seen all → AllBelow threads all
    → IsChecked threads (place + 1) next given (set passes place after)
check-next threads place all next given passes pass after checked within same_book same_pass is begins below =
    let kept : set passes place after ≡ passes = ap (set passes place) (same_pass ∙ is) ∙ set-get_or passes place pass in
    let there : (k : ℕ) (d : PassView) → k < place + 1 → IsBeginning (get_or passes k d).thread (get_or passes k d).seen all = λ k d less. elim (cases_eq k place) [
      | inl here ↦ subst (λ k. IsBeginning (get_or passes k d).thread (get_or passes k d).seen all) (sym here) (subst (λ (pass : PassView). IsBeginning pass.thread pass.seen all) (is ∙ get_or_default passes place pass d within) begins)
      | inr other ↦ checked.begins k d (omega (arith, less, other))
    ] in
    record {
      same = kept ∙ checked.same;
      begins = rw (same_book, kept) there;
      below = λ some. rw same_book below;
    }
