-- What the seats know, when one of them learns something else or one more comes.
use Rattle.std.proofs.Common.{◌≡◌, ℕ, ◌+◌, ◌<◌, ◌≢◌, List, [], ◌∷◌, ◌++◌, length, set, Option, Some, None, sym, refl, ap, ◌∙◌, subst, ⊎_elim, append_assoc, arith}
use Rattle.std.proofs.lemmas.List.{append-nil}
use Rattle.std.proofs.lemmas.List.Elements.{All-nil, All-push}
use Rattle.std.proofs.lemmas.Option.{none-some, same_Some}
use Rattle.atomic_table.proofs.Lists.{at_set}
use Rattle.step_book.specs.declared.hold.Hold.{Hold}
use Rattle.step_book.specs.declared.view.TakenPass.{TakenPass}
use Rattle.step_book.specs.declared.view.SeatView.{SeatView}
use Rattle.step_book.specs.declared.view.SeatView.TheVariants.{Spent, OfPass, OfBook}
use Rattle.step_book.specs.Rule.{NoneBy, IsBeginning, MayHold, MayKnow, thread_of_held, thread_in, SeatKnows, IsSeated}
use Rattle.step_book.proofs.Lists.{at_more}

-- one seat learns something else
pub seated_set : (views : List SeatView) (seat : ℕ) (w : SeatView) (old all : List Hold) (before made : ℕ)
    → IsSeated old before views
    → MayKnow all made seat w
    → ((i : ℕ) (u : SeatView) → i ≢ seat → SeatKnows views i u → MayKnow all made i u)
    → ((i : ℕ) (u : SeatView) (t : ℕ) → i ≢ seat → SeatKnows views i u → thread_in u ≡ Some t → ¬ (thread_in w ≡ Some t))
    → IsSeated all made (set views seat w)
seated_set views seat w old all before made seated fit others free =
    record {
      fits = λ i u at. ⊎_elim (λ here. subst (λ x. MayKnow all made i x) here.1 (subst (λ k. MayKnow all made k w) (sym here.0) fit)) (λ else. others i u else.0 else.1) (at_set views seat i w u at);
      distinct = λ i j u v t at p next q.
          ⊎_elim
          (λ here. ⊎_elim (λ same. here.0 ∙ sym same.0) (λ other. absurd (free j v t other.0 other.1 q (subst (λ x. thread_in x ≡ Some t) (sym here.1) p))) (at_set views seat j w v next))
          (λ there. ⊎_elim (λ same. absurd (free i u t there.0 there.1 p (subst (λ x. thread_in x ≡ Some t) (sym same.1) q))) (λ other. seated.distinct i j u v t there.1 p other.1 q) (at_set views seat j w v next))
          (at_set views seat i w u at);
    }

-- one seat more
pub seated_more : (views : List SeatView) (w : SeatView) (all : List Hold) (made : ℕ)
    → IsSeated all made views
    → MayKnow all made (length views) w
    → ((i : ℕ) (u : SeatView) (t : ℕ) → SeatKnows views i u → thread_in u ≡ Some t → ¬ (thread_in w ≡ Some t))
    → IsSeated all made (views ++ w ∷ [])
seated_more views w all made seated fit free =
    record {
      fits = λ i u at. ⊎_elim (λ old. seated.fits i u old) (λ last. subst (λ x. MayKnow all made i x) last.1 (subst (λ k. MayKnow all made k w) (sym last.0) fit)) (at_more views w u i at);
      distinct = λ i j u v t at p next q.
          ⊎_elim
          (λ old. ⊎_elim (λ other. seated.distinct i j u v t old p other q) (λ last. absurd (free i u t old p (subst (λ x. thread_in x ≡ Some t) (sym last.1) q))) (at_more views w v j next))
          (λ last. ⊎_elim (λ other. absurd (free j v t other q (subst (λ x. thread_in x ≡ Some t) (sym last.1) p))) (λ same. last.0 ∙ sym same.0) (at_more views w v j next))
          (at_more views w u i at);
    }

-- a seat that has no other pass than before has none that others have
pub free_as : (views : List SeatView) (seat : ℕ) (v w : SeatView) (all : List Hold) (made : ℕ)
    → IsSeated all made views → SeatKnows views seat v → ((t : ℕ) → thread_in w ≡ Some t → thread_in v ≡ Some t)
    → (i : ℕ) (u : SeatView) (t : ℕ) → i ≢ seat → SeatKnows views i u → thread_in u ≡ Some t → ¬ (thread_in w ≡ Some t)
free_as views seat v w all made seated at no_more i u t apart other p q = apart (seated.distinct i seat u v t other p at (no_more t q))

-- a hold of another thread is put last
pub begins_more : (thread : ℕ) (seen all : List Hold) (hold : Hold) → IsBeginning thread seen all → hold.thread ≢ thread → IsBeginning thread seen (all ++ hold ∷ [])
begins_more thread seen all hold begins other =
    record {
      rest = begins.rest ++ hold ∷ [];
      whole = ap (λ (xs : List Hold). xs ++ hold ∷ []) begins.whole ∙ append_assoc seen begins.rest (hold ∷ []);
      others = All-push (λ (h : Hold). h.thread ≢ thread) begins.rest hold begins.others other;
    }

-- the whole list
pub begins_whole : (thread : ℕ) (all : List Hold) → IsBeginning thread all all
begins_whole thread all =
    record { rest = []; whole = sym (append-nil all); others = All-nil (λ (h : Hold). h.thread ≢ thread) }

-- nothing, where no hold is of this thread
pub begins_none : (thread : ℕ) (all : List Hold) → NoneBy thread all → IsBeginning thread [] all
begins_none thread all none = record { rest = all; whole = refl; others = none }

-- a hold is put last, that is of no pass which the seat has
pub may_know-more : (all : List Hold) (made seat : ℕ) (hold : Hold) (u : SeatView) → seat ≢ 0 → MayKnow all made seat u → ¬ (thread_in u ≡ Some hold.thread) → MayKnow (all ++ hold ∷ []) made seat u
may_know-more all made seat hold Spent other fit free = tt
may_know-more all made seat hold (OfPass thread seen) other fit free =
    record { below = fit.below; begins = begins_more thread seen all hold fit.begins (λ same. free (ap Some (sym same))) }
may_know-more all made seat hold (OfBook holds count held) other fit free = absurd (other fit.0)

-- a pass is made
pub may_know-made : (all : List Hold) (made seat : ℕ) (u : SeatView) → seat ≢ 0 → MayKnow all made seat u → MayKnow all (made + 1) seat u
may_know-made all made seat Spent other fit = tt
may_know-made all made seat (OfPass thread seen) other fit = record { below = omega (arith, fit.below); begins = fit.begins }
may_know-made all made seat (OfBook holds count held) other fit = absurd (other fit.0)

pub may_hold-made : (all : List Hold) (made : ℕ) (held : Option TakenPass) → MayHold all made held → MayHold all (made + 1) held
may_hold-made all made None fit = tt
may_hold-made all made (Some held) fit = record { below = omega (arith, fit.below); begins = fit.begins }

may_hold-below : (all : List Hold) (made : ℕ) (held : Option TakenPass) (t : ℕ) → MayHold all made held → thread_of_held held ≡ Some t → t < made
may_hold-below all made None t fit p = absurd (none-some t p)
may_hold-below all made (Some held) t fit p = omega (arith, fit.below, same_Some held.thread t p)

-- each pass has a number below that of the passes made
pub may_know-below : (all : List Hold) (made seat : ℕ) (u : SeatView) (t : ℕ) → MayKnow all made seat u → thread_in u ≡ Some t → t < made
may_know-below all made seat Spent t fit p = absurd (none-some t p)
may_know-below all made seat (OfPass thread seen) t fit p = omega (arith, fit.below, same_Some thread t p)
may_know-below all made seat (OfBook holds count held) t fit p = may_hold-below all made held t fit.3 p
