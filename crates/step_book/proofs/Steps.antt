-- Each kind of step keeps the rule.
use Rattle.std.proofs.Common.{◌≡◌, ℕ, ◌+◌, ◌%◌, ◌^◌, ◌<◌, ◌≢◌, ⊎_elim, List, [], ◌∷◌, ◌++◌, length, get_or, set, Option, Some, None, sym, refl, ap, ◌∙◌, subst, append-nil, length-append, arith}
use Rattle.std.proofs.Math.Nat.{mod-eq_of_lt}
use Rattle.std.proofs.lemmas.Grind.{flat_map-append}
use Rattle.std.proofs.lemmas.List.Elements.{All-nil, All-push, All-weaker}
use Rattle.std.proofs.lemmas.Option.{none-some, same_Some}
use mathlib.Core.Option.{some-ne-none}
use Rattle.atomic_table.specs.Table.{Me, keeps, opening, Allows, Splits, Joins}
use Rattle.atomic_table.proofs.Lists.{at_set, set_again, set_else}
use Rattle.omp_model.specs.declared.history.Entry.{Entry}
use Rattle.step_book.specs.declared.hold.Hold.{Hold}
use Rattle.step_book.specs.declared.view.TakenPass.{TakenPass}
use Rattle.step_book.specs.declared.view.SeatView.{SeatView}
use Rattle.step_book.specs.declared.view.SeatView.TheVariants.{Spent, OfPass, OfBook}
use Rattle.step_book.specs.Rule.{entries_of, MayHold, MayKnow, thread_in, SeatKnows, IsSeated, IsOneHistory, TableState, HasOneHistory}
use Rattle.step_book.specs.Steps.{first_view, one_more_pass, next_pass, with_pass, pass_of, hold_by, with_hold, HasRoom, without_pass, held_pass, BeginsHeld, LookTells}
use Rattle.step_book.proofs.Lists.{set_either}
use Rattle.step_book.proofs.Seated.{seated_set, seated_more, free_as, begins_whole, begins_none, may_know-more, may_know-made, may_hold-made, may_know-below}

-- where the book knows this, these are all holds and so many passes were made
as_book : (table : TableState) (seat : ℕ) (holds : List Hold) (made : ℕ) (held : Option TakenPass) → HasOneHistory table → SeatKnows table.views seat (OfBook holds made held) → IsOneHistory table.words table.views holds made
as_book table seat holds made held (all, count, one) at =
    let fit = one.seated.fits seat (OfBook holds made held) at in
    subst (λ (hs : List Hold). IsOneHistory table.words table.views hs made) (sym fit.1) (subst (λ (n : ℕ). IsOneHistory table.words table.views all n) (sym fit.2) one)

-- the book's seat is the first, so no other is
not_first : (views : List SeatView) (all : List Hold) (made seat : ℕ) (holds : List Hold) (count : ℕ) (held : Option TakenPass) → IsSeated all made views → SeatKnows views seat (OfBook holds count held) → (i : ℕ) → i ≢ seat → i ≢ 0
not_first views all made seat holds count held seated at i other first = other (first ∙ sym (seated.fits seat (OfBook holds count held) at).0)

-- the table is made
pub opens : HasOneHistory (opening (0 ∷ []) [] first_view)
opens = (
  [],
  0,
  record {
    count = refl;
    seated = seated_more [] first_view [] 0 (record { fits = λ i u at. absurd (some-ne-none u (sym at)); distinct = λ i j u v t at p next q. absurd (some-ne-none u (sym at)) }) (refl, refl, refl, tt) (λ i u t at p q. none-some t q);
    below = All-nil (λ (h : Hold). h.thread < 0);
  },
)

-- a seat more, with a spent view
spent_more : (words : List ℕ) (views : List SeatView) (all : List Hold) (made : ℕ) → IsOneHistory words views all made → IsOneHistory words (views ++ Spent ∷ []) all made
spent_more words views all made one =
    record {
      count = one.count;
      seated = seated_more views Spent all made one.seated tt (λ i u t at p q. none-some t q);
      below = one.below;
    }

same_more : (table : TableState) (seat : ℕ) (v : SeatView) → HasOneHistory table → SeatKnows table.views seat v → HasOneHistory (record table { views = set table.views seat v ++ Spent ∷ [] })
same_more table seat v (all, made, one) at =
    (all, made, subst (λ (views : List SeatView). IsOneHistory table.words (views ++ Spent ∷ []) all made) (sym (set_again table.views seat v at)) (spent_more table.words table.views all made one))

-- after the book has made one more pass, each other pass still has a number below that of the passes made before
all_below : (views : List SeatView) (seat : ℕ) (holds : List Hold) (made : ℕ) (held : Option TakenPass) → IsSeated holds made views → SeatKnows views seat (OfBook holds made held)
    → (i : ℕ) (u : SeatView) (t : ℕ) → SeatKnows (set views seat (OfBook holds (made + 1) held)) i u → thread_in u ≡ Some t → t < made
all_below views seat holds made held seated at i u t there p =
    ⊎_elim
    (λ here. may_know-below holds made seat (OfBook holds made held) t (seated.fits seat (OfBook holds made held) at) (subst (λ x. thread_in x ≡ Some t) (sym here.1) p))
    (λ else. may_know-below holds made i u t (seated.fits i u else.1) p)
    (at_set views seat i (OfBook holds (made + 1) held) u there)

-- a pass is made for the next thread
makes-book : (words : List ℕ) (views : List SeatView) (seat : ℕ) (holds : List Hold) (made : ℕ) (held : Option TakenPass) → IsOneHistory words views holds made → SeatKnows views seat (OfBook holds made held) → IsOneHistory words (set views seat (OfBook holds (made + 1) held) ++ OfPass made [] ∷ []) holds (made + 1)
makes-book words views seat holds made held one at =
    let v = OfBook holds made held in
    let w = OfBook holds (made + 1) held in
    let fit = one.seated.fits seat v at in
    let book : MayKnow holds (made + 1) seat w = (fit.0, refl, refl, may_hold-made holds made held fit.3) in
    let elsewhere = not_first views holds made seat holds made held one.seated at in
    let free = free_as views seat v w holds made one.seated at (λ t p. p) in
    let longer = seated_set views seat w holds holds made (made + 1) one.seated book (λ i u other there. may_know-made holds made i u (elsewhere i other) (one.seated.fits i u there)) free in
    let none = All-weaker (λ (h : Hold). h.thread < made) (λ (h : Hold). h.thread ≢ made) (λ h less. omega (arith, less)) holds one.below in
    let pass : MayKnow holds (made + 1) (length (set views seat w)) (OfPass made []) = record { below = omega arith; begins = begins_none made holds none } in
    record {
      count = one.count;
      seated = seated_more (set views seat w) (OfPass made []) holds (made + 1) longer pass
          (λ i u t there p q. omega (arith, same_Some made t q, all_below views seat holds made held one.seated at i u t there p));
      below = All-weaker (λ (h : Hold). h.thread < made) (λ (h : Hold). h.thread < made + 1) (λ h less. omega (arith, less)) holds one.below;
    }

pub makes : (seat : ℕ) (v : SeatView) → Splits HasOneHistory seat v (one_more_pass v) (next_pass v)
makes seat Spent table has at = same_more table seat Spent has at
makes seat (OfPass thread seen) table has at = same_more table seat (OfPass thread seen) has at
makes seat (OfBook all made held) table has at = (all, made + 1, makes-book table.words table.views seat all made held (as_book table seat all made held has at) at)

-- a view is spent
spends : (words : List ℕ) (views : List SeatView) (all : List Hold) (made seat : ℕ) → IsOneHistory words views all made → IsOneHistory words (set views seat Spent) all made
spends words views all made seat one =
    record {
      count = one.count;
      seated = seated_set views seat Spent all all made made one.seated tt (λ i u other there. one.seated.fits i u there) (λ i u t other there p q. none-some t q);
      below = one.below;
    }

same_spends : (table : TableState) (seat other : ℕ) (v : SeatView) → HasOneHistory table → SeatKnows table.views seat v → HasOneHistory (record table { views = set (set table.views seat v) other Spent })
same_spends table seat other v (all, made, one) at =
    (all, made, subst (λ (views : List SeatView). IsOneHistory table.words (set views other Spent) all made) (sym (set_again table.views seat v at)) (spends table.words table.views all made other one))

-- once a pass is spent, no seat has a pass of its thread
none_left : (views : List SeatView) (other : ℕ) (all : List Hold) (made thread : ℕ) (seen : List Hold) → IsSeated all made views → SeatKnows views other (OfPass thread seen)
    → (i : ℕ) (u : SeatView) (t : ℕ) → SeatKnows (set views other Spent) i u → thread_in u ≡ Some t → ¬ (Some thread ≡ Some t)
none_left views other all made thread seen seated next i u t there p q =
    ⊎_elim
    (λ here. none-some t (subst (λ x. thread_in x ≡ Some t) (sym here.1) p))
    (λ else. else.0 (seated.distinct i other u (OfPass thread seen) t else.1 p next q))
    (at_set views other i Spent u there)

-- the book takes in a pass
takes-pass : (words : List ℕ) (views : List SeatView) (seat other : ℕ) (all : List Hold) (made : ℕ) (held : Option TakenPass) (thread : ℕ) (seen : List Hold)
    → IsOneHistory words views all made → SeatKnows views seat (OfBook all made held) → other ≢ seat → SeatKnows views other (OfPass thread seen)
    → IsOneHistory words (set (set views seat (OfBook all made (Some (pass_of thread seen)))) other Spent) all made
takes-pass words views seat other all made held thread seen one at apart next =
    let w = OfBook all made (Some (pass_of thread seen)) in
    let pass = one.seated.fits other (OfPass thread seen) next in
    let book : MayKnow all made seat w = ((one.seated.fits seat (OfBook all made held) at).0, refl, refl, pass) in
    let spent = (spends words views all made other one).seated in
    let free = none_left views other all made thread seen one.seated next in
    let taken = seated_set (set views other Spent) seat w all all made made spent book (λ i u there-not there. spent.fits i u there) (λ i u t there-not there p q. free i u t there p q) in
    record {
      count = one.count;
      seated = subst (λ (vs : List SeatView). IsSeated all made vs) (set_either views other seat Spent w apart) taken;
      below = one.below;
    }

pub takes : (seat : ℕ) (v : SeatView) (other : ℕ) (w : SeatView) → Joins HasOneHistory seat v other w (with_pass v w) Spent
takes seat Spent other w table has at apart next = same_spends table seat other Spent has at
takes seat (OfPass thread seen) other w table has at apart next = same_spends table seat other (OfPass thread seen) has at
takes seat (OfBook all made held) other Spent table has at apart next = same_spends table seat other (OfBook all made held) has at
takes seat (OfBook all made held) other (OfBook holds count it) table has at apart next = same_spends table seat other (OfBook all made held) has at
takes seat (OfBook all made held) other (OfPass thread seen) table has at apart next =
    let there = sym (set_else table.views seat other (OfBook all made (Some (pass_of thread seen))) apart) ∙ next in
    (all, made, takes-pass table.words table.views seat other all made held thread seen (as_book table seat all made held has at) at apart there)

-- the book gives its pass back
gives-pass : (words : List ℕ) (views : List SeatView) (seat : ℕ) (all : List Hold) (made : ℕ) (held : TakenPass) → IsOneHistory words views all made → SeatKnows views seat (OfBook all made (Some held)) → IsOneHistory words (set views seat (OfBook all made None) ++ OfPass held.thread held.seen ∷ []) all made
gives-pass words views seat all made held one at =
    let v = OfBook all made (Some held) in
    let w = OfBook all made None in
    let fit = one.seated.fits seat v at in
    let book : MayKnow all made seat w = (fit.0, refl, refl, tt) in
    let without = seated_set views seat w all all made made one.seated book (λ i u other there. one.seated.fits i u there) (λ i u t other there p q. none-some t q) in
    record {
      count = one.count;
      seated = seated_more (set views seat w) (OfPass held.thread held.seen) all made without fit.3
          (λ i u t there p q. ⊎_elim
          (λ here. none-some t (subst (λ x. thread_in x ≡ Some t) (sym here.1) p))
          (λ else. else.0 (one.seated.distinct i seat u v t else.1 p at q))
          (at_set views seat i w u there));
      below = one.below;
    }

pub gives : (seat : ℕ) (v : SeatView) → Splits HasOneHistory seat v (without_pass v) (held_pass v)
gives seat Spent table has at = same_more table seat Spent has at
gives seat (OfPass thread seen) table has at = same_more table seat (OfPass thread seen) has at
gives seat (OfBook all made None) table has at = same_more table seat (OfBook all made None) has at
gives seat (OfBook all made (Some held)) table has at =
    (all, made, gives-pass table.words table.views seat all made held (as_book table seat all made (Some held) has at) at)

-- a look tells what the book knows
tells-held : (all : List Hold) (made : ℕ) (held : Option TakenPass) → MayHold all made held → BeginsHeld all held
tells-held all made None fit = tt
tells-held all made (Some held) fit = fit.begins

tells : (table : TableState) (seat : ℕ) (v : SeatView) → HasOneHistory table → SeatKnows table.views seat v → LookTells v
tells table seat Spent has at = tt
tells table seat (OfPass thread seen) has at = tt
tells table seat (OfBook all made held) has at =
    let one = as_book table seat all made held has at in
    (one.below, tells-held all made held (one.seated.fits seat (OfBook all made held) at).3)

same_word : (n : ℕ) (words : List ℕ) → words ≡ n ∷ [] → set words 0 (get_or words 0 0) ≡ words
same_word n words is = subst (λ (ns : List ℕ). set ns 0 (get_or ns 0 0) ≡ ns) (sym is) refl

same_all : (words : List ℕ) (views : List SeatView) (all : List Hold) (made seat : ℕ) (v : SeatView) → IsOneHistory words views all made → SeatKnows views seat v → IsOneHistory (set words 0 (get_or words 0 0)) (set views seat v) all made
same_all words views all made seat v one at =
    subst (λ (ns : List ℕ). IsOneHistory ns (set views seat v) all made) (sym (same_word (length (entries_of all)) words one.count))
    (subst (λ (vs : List SeatView). IsOneHistory words vs all made) (sym (set_again views seat v at)) one)

pub looks : (slots seat : ℕ) (me : Me (Unit {0}) SeatView) → Allows HasOneHistory slots seat me 0 (λ n. n) (λ found after. (after ≡ me) × LookTells me.0)
looks slots seat me table has long at fits =
    (me.0, keeps, tt, (has.0, has.1, same_all table.words table.views has.0 has.1 seat me.0 has.2 at), (refl, tells table seat me.0 has at))

-- a hold is put last, and the word counts its entries
entries-more : (all : List Hold) (hold : Hold) → length (entries_of (all ++ hold ∷ [])) ≡ length (entries_of all) + length hold.entries
entries-more all hold =
    ap (λ (es : List Entry). length es) (flat_map-append (λ (h : Hold). h.entries) all (hold ∷ []))
    ∙ length-append (entries_of all) (entries_of (hold ∷ []))
    ∙ ap (λ (es : List Entry). length (entries_of all) + length es) (append-nil hold.entries)

adds-count : (words : List ℕ) (all : List Hold) (thread : ℕ) (entries : List Entry) (k : ℕ) → words ≡ length (entries_of all) ∷ [] → length entries ≡ k → length (entries_of all) + k < 2 ^ 64
    → set words 0 ((get_or words 0 0 + k) % 2 ^ 64) ≡ length (entries_of (all ++ hold_by thread entries ∷ [])) ∷ []
adds-count words all thread entries k count long room =
    let after = length (entries_of (all ++ hold_by thread entries ∷ [])) in
    let sum : length (entries_of all) + k ≡ after = omega (arith, long, entries-more all (hold_by thread entries)) in
    subst (λ (ns : List ℕ). set ns 0 ((get_or ns 0 0 + k) % 2 ^ 64) ≡ after ∷ []) (sym count) (ap (λ n. n ∷ []) (mod-eq_of_lt room ∙ sum))

adds-hold : (words : List ℕ) (views : List SeatView) (seat : ℕ) (all : List Hold) (made : ℕ) (held : TakenPass) (entries : List Entry) (k : ℕ)
    → IsOneHistory words views all made → SeatKnows views seat (OfBook all made (Some held)) → length entries ≡ k → length (entries_of all) + k < 2 ^ 64
    → IsOneHistory (set words 0 ((get_or words 0 0 + k) % 2 ^ 64)) (set views seat (with_hold (OfBook all made (Some held)) entries)) (all ++ hold_by held.thread entries ∷ []) made
adds-hold words views seat all made held entries k one at long room =
    let v = OfBook all made (Some held) in
    let hold = hold_by held.thread entries in
    let more = all ++ hold ∷ [] in
    let w = OfBook more made (Some (pass_of held.thread more)) in
    let fit = one.seated.fits seat v at in
    let book : MayKnow more made seat w = (fit.0, refl, refl, record { below = fit.3.below; begins = begins_whole held.thread more }) in
    let elsewhere = not_first views all made seat all made (Some held) one.seated at in
    let others = λ (i : ℕ) (u : SeatView) (other : i ≢ seat) (there : SeatKnows views i u). may_know-more all made i hold u (elsewhere i other) (one.seated.fits i u there) (λ p. other (one.seated.distinct i seat u v held.thread there p at refl)) in
    let free = free_as views seat v w all made one.seated at (λ t p. p) in
    record {
      count = adds-count words all held.thread entries k one.count long room;
      seated = seated_set views seat w all more made made one.seated book others free;
      below = All-push (λ (h : Hold). h.thread < made) all hold one.below fit.3.below;
    }

pub adds : (slots seat : ℕ) (v : SeatView) (out : List (ℕ × Unit {0})) (entries : List Entry) (k : ℕ) → length entries ≡ k → HasRoom v k
    → Allows HasOneHistory slots seat (v, out) 0 (λ n. (n + k) % 2 ^ 64) (λ found after. after ≡ (with_hold v entries, out))
adds slots seat (OfBook all made (Some held)) out entries k long room table has same at fits =
    let one = as_book table seat all made (Some held) has at in
    let more = adds-hold table.words table.views seat all made held entries k one at long room in
    (with_hold (OfBook all made (Some held)) entries, keeps, tt, (all ++ hold_by held.thread entries ∷ [], made, more), refl)
adds slots seat Spent out entries k long none table has same at fits = absurd none
adds slots seat (OfPass thread seen) out entries k long none table has same at fits = absurd none
adds slots seat (OfBook all made None) out entries k long none table has same at fits = absurd none
