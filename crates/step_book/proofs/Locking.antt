-- One hold of a pass, said of the book's seat, the pass's badge and the book.
use Rattle.std.proofs.Common.{◌≡◌, ℕ, Bool, ◌-◌, ◌≤◌, List, [], ◌∷◌, ◌++◌, drop, take, length, length-append, Some, None, Result, Ok, Err, IfOk, OnOk, OnErr, refl, sym, ap, subst, ◌∙◌, append-nil, arith}
use Rattle.std.proofs.lemmas.List.{drop_all, take_all}
use Rattle.atomic_table.specs.Seated.{TableId}
use Rattle.atomic_table.specs.Table.{Me}
use Rattle.ompt_calls.specs.declared.snapshot.Snapshot.{Snapshot}
use Rattle.omp_model.specs.declared.history.Entry.{Entry}
use Rattle.omp_model.specs.State.{Run}
use Rattle.step_book.specs.declared.hold.Hold.{Hold}
use Rattle.step_book.specs.declared.step.Step.{Step}
use Rattle.step_book.specs.declared.step.Step.TheVariants.{Told, Quiet, NotYet, Ended}
use Rattle.step_book.specs.declared.view.SeatView.{SeatView}
use Rattle.step_book.specs.declared.view.SeatView.TheVariants.{OfPass, OfBook}
use Rattle.step_book.specs.Owing.{Owes, OwesAnswer, OwesStep}
use Rattle.step_book.specs.BookView.{BookView, with_entries}
use Rattle.step_book.specs.Rule.{IsBeginning, entries_of}
use Rattle.step_book.specs.Sharing.{AllBy, AreOwn, VisitsAfterOthers, AddsHold, IsLockedBook, IsHold, PassView, holds_in, book_after, seen_in}
use Rattle.step_book.specs.Steps.{LookTells, held_pass, hold_by, pass_of, view_in, with_hold, with_pass, without_pass}
use Rattle.step_book.specs.Visit.{visit}
use Rattle.step_book.proofs.Others.{entries-append, holds-others, owes-still, own-append, own-back, visit-own}

-- the holds with one more of the thread at their end
abbrev pub with_last : List Hold → ℕ → List Entry → List Hold
with_last holds thread entries = holds ++ hold_by thread entries ∷ []

-- what the book's seat and the pass know after the hold, and what the pass knew before it
pub record Round (holds seen : List Hold) (thread threads : ℕ) (me : Me (Unit {0}) SeatView) (views : List SeatView) (entries : List Entry) : Type 0 where
  pub begins : IsBeginning thread seen holds
  pub seat : me ≡ (OfBook (with_last holds thread entries) threads None, [])
  pub badge : views ≡ OfPass thread (with_last holds thread entries) ∷ []

pub round :
    (holds seen : List Hold) (thread threads : ℕ) (before taken added given : Me (Unit {0}) SeatView) (views later : List SeatView) (entries : List Entry)
    → before ≡ (OfBook holds threads None, []) → views ≡ OfPass thread seen ∷ [] → taken ≡ (with_pass before.0 (view_in views), before.1) → LookTells taken.0
    → added ≡ (with_hold taken.0 entries, taken.1) → given ≡ (without_pass added.0, added.1) → later ≡ held_pass added.0 ∷ [] → Round holds seen thread threads given later entries
round holds seen thread threads before taken added given views later entries seat badge takes told adds gives back =
    let took : taken ≡ (OfBook holds threads (Some (pass_of thread seen)), []) = rw (takes, seat, badge) refl in
    let put : added ≡ (OfBook (with_last holds thread entries) threads (Some (pass_of thread (with_last holds thread entries))), []) = rw (adds, took) refl in
    let tells : LookTells (OfBook holds threads (Some (pass_of thread seen))) = subst (λ (me : Me (Unit {0}) SeatView). LookTells me.0) took told in
    record { begins = tells.1; seat = rw (gives, put) refl; badge = rw (back, put) refl }

-- the entries of the holds with that one
entries-last : (holds : List Hold) (thread : ℕ) (entries : List Entry) → entries_of (with_last holds thread entries) ≡ entries_of holds ++ entries
entries-last holds thread entries =
    entries-append holds (hold_by thread entries ∷ []) ∙ ap (λ more. entries_of holds ++ more) (append-nil entries)

pub locked-after :
    (table at later : TableId) (run : Run) (before after : Me (Unit {0}) SeatView) (book next : BookView) (seen : List Hold) (thread : ℕ) (views : List SeatView) (entries : List Entry)
    → IsLockedBook table at run before book → Round (holds_in before.0) seen thread run.threads after views entries → later ≡ table → next.run ≡ book.run → next.history ≡ book.history ++ entries → AllBy thread entries → IsLockedBook table later run after next
locked-after table at later run before after book next seen thread views entries locked made table_is same longer own =
    let all = with_last (holds_in before.0) thread entries in
    let holds : holds_in after.0 ≡ all = ap (λ (me : Me (Unit {0}) SeatView). holds_in me.0) made.seat in
    record {
      table_is = table_is;
      run_is = same ∙ locked.run_is;
      seat = made.seat ∙ ap (λ holds. (OfBook holds run.threads None, [])) (sym holds);
      history = longer ∙ ap (λ history. history ++ entries) locked.history ∙ sym (entries-last (holds_in before.0) thread entries) ∙ ap entries_of (sym holds);
      own = subst AreOwn (sym holds) (own-append (holds_in before.0) (hold_by thread entries ∷ []) locked.own (own, tt));
    }

-- the hold as the pass sees it
pub hold-made :
    (holds seen : List Hold) (thread threads : ℕ) (me : Me (Unit {0}) SeatView) (views : List SeatView) (entries : List Entry) (made : Round holds seen thread threads me views entries) → AreOwn holds
    → (ended over later told : Bool) (before : PassView) → record { thread = thread; seen = seen; ended = ended; told_over = over } ≡ before → IsHold before (record { thread = thread; seen = seen_in (view_in views); ended = later; told_over = told }) made.begins.rest entries
hold-made holds seen thread threads me views entries made own ended over later told before view =
    let rest = made.begins.rest in
    let sees : seen_in (view_in views) ≡ with_last holds thread entries = ap (λ views. seen_in (view_in views)) made.badge in
    subst (λ (before : PassView). IsHold before (record { thread = thread; seen = seen_in (view_in views); ended = later; told_over = told }) rest entries) view (record {
      others = made.begins.others;
      not_by = holds-others thread rest (own-back seen rest (subst AreOwn made.begins.whole own)) made.begins.others;
      seen = sees ∙ ap (λ holds. with_last holds thread entries) made.begins.whole;
      thread = refl;
    })

pub grown : (before after : PassView) (between : List Hold) (entries wanted : List Entry) → IsHold before after between entries → entries ≡ wanted → AddsHold before after wanted
grown before after between entries wanted made same =
    record { between = between; is_hold = subst (IsHold before after between) same made }

-- the book as it stands when the pass has been taken in
pub book-now : (table at : TableId) (run : Run) (me : Me (Unit {0}) SeatView) (book : BookView) (thread : ℕ) (seen : List Hold) (locked : IsLockedBook table at run me book) (begins : IsBeginning thread seen (holds_in me.0)) → book ≡ book_after run (seen ++ begins.rest) book.ended
book-now table at run me book thread seen locked begins =
    let history : book.history ≡ entries_of (seen ++ begins.rest) = locked.history ∙ ap entries_of begins.whole in
    ap (λ (run : Run). record { run = run; history = book.history; ended = book.ended }) locked.run_is ∙ ap (λ history. record { run = run; history = history; ended = book.ended }) history

-- the answer that a pass owes is owed to the book
pub owes-now :
    (table at : TableId) (run : Run) (me : Me (Unit {0}) SeatView) (book : BookView) (thread : ℕ) (seen : List Hold) (ended : Bool) (snapshot : Snapshot) → IsLockedBook table at run me book → IsBeginning thread seen (holds_in me.0)
    → OwesAnswer (book_after run seen ended) thread snapshot → OwesAnswer book thread snapshot
owes-now table at run me book thread seen ended snapshot locked begins owes =
    let rest = begins.rest in
    let none = holds-others thread rest (own-back seen rest (subst AreOwn begins.whole locked.own)) begins.others in
    let still = owes-still run (entries_of seen) (entries_of rest) thread owes.seq owes.call snapshot owes.owes none in
    let there : OwesAnswer (book_after run (seen ++ rest) book.ended) thread snapshot = record {
      seq = owes.seq;
      call = owes.call;
      owes = subst (λ history. Owes run history thread owes.seq owes.call snapshot) (sym (entries-append seen rest)) still;
    } in
    subst (λ (book : BookView). OwesAnswer book thread snapshot) (sym (book-now table at run me book thread seen locked begins)) there

-- the step of a pass owes what the book says that it owes
pub owes-seen : (book : BookView) (run : Run) (holds : List Hold) (ended : Bool) (thread : ℕ) (step : Step) → book.run ≡ run → book.history ≡ entries_of holds → OwesStep book thread step → OwesStep (book_after run holds ended) thread step
owes-seen book run holds ended thread (Told seq call snapshot) same history owes = rw (← same, ← history) owes
owes-seen book run holds ended thread Quiet same history owes = tt
owes-seen book run holds ended thread NotYet same history owes = tt
owes-seen book run holds ended thread (Ended cause) same history owes = tt

-- the entries that a visit has added to the book, whether or not it found memory
pub record HasGone (book next : BookView) (thread : ℕ) : Type 0 where
  pub added : List Entry
  pub whole : next ≡ with_entries book added
  pub own : AllBy thread added

pub has-gone : {E : Type 0} (result : Result Step E) (book next : BookView) (thread : ℕ) → OnOk result (next ≡ with_entries book (visit book thread).added) → OnErr result (next ≡ book) → HasGone book next thread
has-gone (Ok step) book next thread ok err = record { added = (visit book thread).added; whole = ok; own = visit-own book thread }
has-gone (Err e) book next thread ok err =
    record { added = []; whole = err ∙ ap (λ history. record book { history = history }) (sym (append-nil book.history)); own = tt }

drop-front : {A : Type 0} (xs ys : List A) → drop (length xs) (xs ++ ys) ≡ ys
drop-front [] ys = refl
drop-front (x ∷ xs) ys = drop-front xs ys

-- a slice of a list from a place on
abbrev pub from_place : List Entry → ℕ → List Entry
from_place entries place = take (length entries - place) (drop place entries)

-- the entries beyond those that stood there
pub beyond : (book next : BookView) (before after added : List Entry) → before ≡ book.history → after ≡ next.history → next ≡ with_entries book added → from_place after (length before) ≡ added
beyond book next before after added is_before is_after whole =
    let longer : after ≡ before ++ added = is_after ∙ ap (λ (book : BookView). book.history) whole ∙ ap (λ history. history ++ added) (sym is_before) in
    let rest : drop (length before) after ≡ added = ap (drop (length before)) longer ∙ drop-front before added in
    let few : length added ≤ length after - length before = omega (arith, ap length longer, length-append before added) in
    ap (take (length after - length before)) rest ∙ take_all (length after - length before) added few

-- no entry stands beyond all
pub beyond-all : (entries : List Entry) → from_place entries (length entries) ≡ []
beyond-all entries =
    let rest : drop (length entries) entries ≡ [] = drop_all (length entries) entries (omega arith) in
    ap (take (length entries - length entries)) rest ∙ take_all (length entries - length entries) [] (omega arith)

-- what the pass has seen that was taken in
pub taken : (holds seen : List Hold) (thread threads : ℕ) (before took : Me (Unit {0}) SeatView) (views : List SeatView) → before ≡ (OfBook holds threads None, []) → views ≡ OfPass thread seen ∷ [] → took ≡ (with_pass before.0 (view_in views), before.1) → LookTells took.0 → IsBeginning thread seen holds
taken holds seen thread threads before took views seat badge takes told =
    let is : took ≡ (OfBook holds threads (Some (pass_of thread seen)), []) = rw (takes, seat, badge) refl in
    let tells : LookTells (OfBook holds threads (Some (pass_of thread seen))) = subst (λ (me : Me (Unit {0}) SeatView). LookTells me.0) is told in
    tells.1

-- a visit of the pass, by its answer
module _ {E : Type 0} (run : Run) (book next : BookView) (before after : PassView) (between : List Hold) (entries : List Entry) (made : IsHold before after between entries) (now : book ≡ book_after run (before.seen ++ between) book.ended) (is : (added : List Entry) → next ≡ with_entries book added → entries ≡ added) where
  pub goes-ok : (result : Result Step E) → IfOk result (λ step. step ≡ (visit book before.thread).step) → OnOk result (next ≡ with_entries book (visit book before.thread).added) → IfOk result (λ step. VisitsAfterOthers run before step after)
  goes-ok (Ok step) step_is whole =
      record {
        between = between;
        ended = book.ended;
        step_is = subst (λ (pages : BookView). step ≡ (visit pages before.thread).step) now step_is;
        is_hold = subst (λ (pages : BookView). IsHold before after between (visit pages before.thread).added) now (subst (IsHold before after between) (is (visit book before.thread).added whole) made);
      }
  goes-ok (Err e) step_is whole = tt

  pub goes-memory : (result : Result Step E) → OnErr result (next ≡ book) → OnErr result (AddsHold before after [])
  goes-memory (Ok step) same = tt
  goes-memory (Err e) same =
      grown before after between entries [] made (is [] (same ∙ ap (λ history. record book { history = history }) (sym (append-nil book.history))))

pub owes-ok : {E : Type 0} (result : Result Step E) (book : BookView) (run : Run) (holds : List Hold) (ended : Bool) (thread : ℕ) → book.run ≡ run → book.history ≡ entries_of holds → IfOk result (λ step. OwesStep book thread step) → IfOk result (λ step. OwesStep (book_after run holds ended) thread step)
owes-ok (Ok step) book run holds ended thread same history owes = owes-seen book run holds ended thread step same history owes
owes-ok (Err e) book run holds ended thread same history owes = tt
