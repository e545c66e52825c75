-- Sets of numbers that are gathered from lists.
use Rattle.std.proofs.Common.{ℕ, ◌≡◌, ◌+◌, ◌<◌, ◌==◌, ◌||◌, Bool, true, false, cond, List, [], ◌∷◌, ◌++◌, length, get_or, take, refl, sym, ap, subst, ◌∙◌}
use Rattle.std.specs.Ordering.{nat_cmp}
use Rattle.std.specs.BTreeSet.{BTreeSet, contains}
use Rattle.std.proofs.lemmas.Grind.{flat_map-append}
use Rattle.std.proofs.lemmas.List.{append-nil, take_more}
use Rattle.ompt_calls.specs.declared.event.EventRecord.{EventRecord}
use Rattle.trace_format.specs.Validity.{is_among}
use Rattle.trace_view.specs.Bold.{Gains, HasNumbers}
use Rattle.trace_view.specs.Dot.{crossed_tasks, listed, named_at, named_task}

or_assoc : (a b c : Bool) → (a || b) || c ≡ a || (b || c)
or_assoc true b c = refl
or_assoc false b c = refl

-- a number among two lists is among one of them
pub among_both : (xs ys : List ℕ) (n : ℕ) → is_among (xs ++ ys) n ≡ is_among xs n || is_among ys n
among_both [] ys n = refl
among_both (x ∷ xs) ys n = ap (λ (b : Bool). (n == x) || b) (among_both xs ys n) ∙ sym (or_assoc (n == x) (is_among xs n) (is_among ys n))

-- a set that has some numbers gains others
has_more : (old new : BTreeSet ℕ) (numbers more all : List ℕ) → all ≡ numbers ++ more → HasNumbers old numbers → Gains old new more → HasNumbers new all
has_more old new numbers more all is has gains = λ n.
    gains n ∙ (ap (λ (b : Bool). b || is_among more n) (has n) ∙ (sym (among_both numbers more n) ∙ ap (λ (list : List ℕ). is_among list n) (sym is)))

-- .. the next one of a list
pub has_next : (old new : BTreeSet ℕ) (numbers : List ℕ) (place : ℕ) → place < length numbers → HasNumbers old (take place numbers)
    → Gains old new (get_or numbers place 0 ∷ []) → HasNumbers new (take (place + 1) numbers)
has_next old new numbers place within has gains =
    has_more old new (take place numbers) (get_or numbers place 0 ∷ []) (take (place + 1) numbers) (take_more numbers place 0 within) has gains

-- .. what the next event names
pub has_crossed : (positions old new : BTreeSet ℕ) (chain : List ℕ) (events : List EventRecord) (place : ℕ) (event none : EventRecord)
    → place < length events → event ≡ get_or events place none → HasNumbers positions chain → HasNumbers old (crossed_tasks chain (take place events))
    → Gains old new (cond (contains nat_cmp positions event.seq) (listed (named_task event.call)) [])
    → HasNumbers new (crossed_tasks chain (take (place + 1) events))
has_crossed positions old new chain events place event none within is at has gains =
    has_more old new (crossed_tasks chain (take place events)) (named_at chain event) (crossed_tasks chain (take (place + 1) events)) more has
    (subst (λ (b : Bool). Gains old new (cond b (listed (named_task event.call)) [])) (at event.seq) gains)
  where
    more : crossed_tasks chain (take (place + 1) events) ≡ crossed_tasks chain (take place events) ++ named_at chain event
    more =
        ap (crossed_tasks chain) (take_more events place none within ∙ ap (λ (e : EventRecord). take place events ++ e ∷ []) (sym is))
        ∙ (flat_map-append (named_at chain) (take place events) (event ∷ [])
        ∙ ap (λ (list : List ℕ). crossed_tasks chain (take place events) ++ list) (append-nil (named_at chain event)))
