-- What a thread hears of a history in which entries of others stand between its own.
use Rattle.std.proofs.Common.{◌≡◌, ◌≢◌, ℕ, ◌+◌, ◌<◌, ◌==◌, ◌&&◌, ◌||◌, Bool, true, false, List, [], ◌∷◌, ◌++◌, length, Option, Some, None, IsSome, is_some, get_or-set_same, refl, sym, ap, subst, ◌∙◌, append_assoc, eq-eqb, arith, inl, inr}
use Rattle.std.proofs.lemmas.{Bool.true≢false, Bool.and_right, Bool.cond_both, Bool.or_from, Bool.or_parts, Bool.or_right, Bool.ne_eqb, Bool.Decides.eqb_tells, List.length-set, List.Elements.filter-append}
use Rattle.omp_model.specs.declared.event.Outcome.TheVariants as outcome
use Rattle.omp_model.specs.Heard.{has_back, heard_at, heard_event, heard_from, heard_outcome, is_back, stores_at, stores_in}
use Rattle.omp_model.{specs.declared.history.What.What, specs.declared.history.What.TheVariants.Go, specs.declared.history.What.TheVariants.Put, specs.declared.history.What.TheVariants.Back, specs.State.World, specs.Legal.does, specs.Storing.put_at, proofs.Turns.Leaves, proofs.Turns.leaves-turn, proofs.Turns.turn-pending, proofs.Later.at-set}
use Rattle.team_run.specs.Names.{Item, is_registered, Stored, Callback, Event, Outcome, Entry, Run, State, pending_at, call_of, callback_of, after_from, back_from, entered, put_from, snap_of, event_reply, go_at, called, turn, NotBy}
use Rattle.team_run.proofs.Serving.{on_thread}

-- a Back of the thread among these or those entries
pub back-append : (t : ℕ) (xs ys : List Entry) → has_back t ys ≡ false → has_back t (xs ++ ys) ≡ has_back t xs
back-append t [] ys none = none
back-append t (entry ∷ xs) ys none = ap (λ more. (is_back entry.what && entry.thread == t) || more) (back-append t xs ys none)

-- and the Back that stands among these
back-front : (t : ℕ) (xs ys : List Entry) → has_back t xs ≡ true → has_back t (xs ++ ys) ≡ true
back-front t [] ys back = absurd (true≢false (sym back))
back-front t (entry ∷ xs) ys back =
    elim (is_back entry.what && entry.thread == t) as (λ b. (b || has_back t xs) ≡ true → (b || has_back t (xs ++ ys)) ≡ true) [
      | true ↦ λ said. refl
      | false ↦ λ said. back-front t xs ys said
    ] back

-- others' entries have no Back of the thread
pub back-others : (t : ℕ) (xs : List Entry) → NotBy t xs → has_back t xs ≡ false
back-others t [] none = refl
back-others t (entry ∷ xs) none = or_from _ _ (and_right _ _ (ne_eqb entry.thread t none.0)) (back-others t xs none.1)

-- the stores up to the Back are the same, whatever follows
stores-front : (t : ℕ) (xs ys : List Entry) → has_back t xs ≡ true → stores_in t (xs ++ ys) ≡ stores_in t xs
stores-front t [] ys back = absurd (true≢false (sym back))
stores-front t (entry ∷ xs) ys back = elim (eqb_tells entry.thread t) [
  | inl same ↦ rw same.0 (stores-own t entry.what xs ys (rw same.0 at back) (stores-front t xs ys))
  | inr other ↦ rw other.0 (stores-front t xs ys (behind entry.what (has_back t xs) (rw other.0 at back)))
]
  where
    behind : (what : What) (b : Bool) → ((is_back what && false) || b) ≡ true → b ≡ true
    behind Go b said = said
    behind what b said = said

    stores-own : (t : ℕ) (what : What) (xs ys : List Entry) → ((is_back what && true) || has_back t xs) ≡ true → (has_back t xs ≡ true → stores_in t (xs ++ ys) ≡ stores_in t xs) → stores_at what (stores_in t (xs ++ ys)) ≡ stores_at what (stores_in t xs)
    stores-own t Go xs ys back more = more back
    stores-own t (Put place word) xs ys back more = ap (λ stores. record { target = place; word = word } ∷ stores) (more back)
    stores-own t Back xs ys back more = refl

-- What an entry of another thread, and of the thread itself, adds.

-- the item of an event with these stores
abbrev pub item_with : ℕ → ℕ → World → Event → List Stored → Item
item_with position t W event stores =
    record { seq = position; thread = t; call = call_of W t event; snapshot = snap_of W t event; stores = stores }

at-other : (run : Run) (S : State) (position u : ℕ) (what : What) (rest : List Entry) (t : ℕ) → (u == t) ≡ false → on_thread t (heard_at run S position u what rest) ≡ []
at-other run S position u Go rest t other =
    let next = (turn run S u).state in
    elim (turn run S u).outcome as (λ o. on_thread t (heard_outcome run position u next o rest) ≡ []) [
      | outcome.Happens event ↦ cond_both _ (item_with position u next.world event (stores_in u rest) ∷ []) []
          (λ items. on_thread t items ≡ []) (λ yes. rw other refl) (λ no. refl)
      | o ↦ refl
    ]
at-other run S position u what rest t other = refl

-- what follows an event says the same of it with more behind, where its Back stands there, or no Back stands in what is more
event-front : (run : Run) (position t : ℕ) (W : World) (event : Event) (rest more : List Entry)
    → has_back t (rest ++ more) ≡ has_back t rest
    → heard_event run position t W event (rest ++ more) ≡ heard_event run position t W event rest
event-front run position t W event rest more same =
    elim (has_back t rest)
    as (λ b. has_back t rest ≡ b → heard_event run position t W event (rest ++ more) ≡ heard_event run position t W event rest) [
      | true ↦ λ there. rw (same, stores-front t rest more there) refl
      | false ↦ λ none. rw (same, and_right)
    ] refl

at-front : (run : Run) (S : State) (position t : ℕ) (what : What) (rest more : List Entry)
    → ((event : Event) → what ≡ Go → (turn run S t).outcome ≡ outcome.Happens event → has_back t (rest ++ more) ≡ has_back t rest)
    → heard_at run S position t what (rest ++ more) ≡ heard_at run S position t what rest
at-front run S position t Go rest more same = by (turn run S t).outcome refl
  where
    by : (o : Outcome) → (turn run S t).outcome ≡ o
        → heard_outcome run position t (turn run S t).state o (rest ++ more) ≡ heard_outcome run position t (turn run S t).state o rest
    by (outcome.Happens event) is = event-front run position t (turn run S t).state.world event rest more (same event refl is)
    by o is = refl
at-front run S position t what rest more same = refl

-- nothing is heard of entries without a Back of the thread
at-without : (run : Run) (S : State) (position t : ℕ) (what : What) (rest : List Entry) → has_back t rest ≡ false → heard_at run S position t what rest ≡ []
at-without run S position t Go rest none =
    let next = (turn run S t).state in
    elim (turn run S t).outcome as (λ o. heard_outcome run position t next o rest ≡ []) [
      | outcome.Happens event ↦ rw and_right
      | o ↦ refl
    ]
at-without run S position t what rest none = refl

-- what one thread hears of these entries, from this state and position on
abbrev pub heard_on : Run → State → ℕ → List Entry → ℕ → List Item
heard_on run S position entries t = on_thread t (heard_from run S position entries)

-- .. by the first of them and by the others
abbrev head-of : Run → State → ℕ → ℕ → Entry → List Entry → List Item
head-of run S position t entry rest = on_thread t (heard_at run S position entry.thread entry.what rest)

heard-first : (run : Run) (S : State) (position t : ℕ) (entry : Entry) (rest : List Entry)
    → heard_on run S position (entry ∷ rest) t
    ≡ head-of run S position t entry rest ++ heard_on run (entered run S entry) (position + 1) rest t
heard-first run S position t entry rest = filter-append (λ (item : Item). item.thread == t)
    (heard_at run S position entry.thread entry.what rest) (heard_from run (entered run S entry) (position + 1) rest)

pub without-back : (run : Run) (S : State) (position t : ℕ) (entries : List Entry) → has_back t entries ≡ false → heard_on run S position entries t ≡ []
without-back run S position t [] none = refl
without-back run S position t (entry ∷ rest) none =
    let parts = or_parts (is_back entry.what && entry.thread == t) (has_back t rest) none in
    let head : head-of run S position t entry rest ≡ [] = elim (eqb_tells entry.thread t) [
      | inl same ↦ subst (λ u. on_thread t (heard_at run S position u entry.what rest) ≡ []) (sym same.1) (ap (on_thread t) (at-without run S position t entry.what rest parts.1))
      | inr other ↦ at-other run S position entry.thread entry.what rest t other.0
    ] in
    rw (heard-first run S position t entry rest, head, without-back run (entered run S entry) (position + 1) t rest parts.1) refl

-- the first entry is heard alike whatever follows, where it is so for the thread's own
head-front : (run : Run) (S : State) (position t : ℕ) (entry : Entry) (rest more : List Entry)
    → (entry.thread ≡ t → heard_at run S position t entry.what (rest ++ more) ≡ heard_at run S position t entry.what rest)
    → head-of run S position t entry (rest ++ more) ≡ head-of run S position t entry rest
head-front run S position t entry rest more own = elim (eqb_tells entry.thread t) [
  | inl same ↦ subst (λ u. on_thread t (heard_at run S position u entry.what (rest ++ more)) ≡ on_thread t
      (heard_at run S position u entry.what rest)) (sym same.1) (ap (on_thread t) (own same.1))
  | inr other ↦ at-other run S position entry.thread entry.what (rest ++ more) t other.0 ∙ sym (at-other run S position entry.thread entry.what rest t other.0)
]

-- more entries without a Back of the thread change nothing of what it hears
pub more-without : (run : Run) (S : State) (position t : ℕ) (entries more : List Entry) → has_back t more ≡ false → heard_on run S position (entries ++ more) t ≡ heard_on run S position entries t
more-without run S position t [] more none = without-back run S position t more none
more-without run S position t (entry ∷ rest) more none =
    let own : entry.thread ≡ t → heard_at run S position t entry.what (rest ++ more) ≡ heard_at run S position t entry.what rest =
    λ same. at-front run S position t entry.what rest more (λ event go is. back-append t rest more none) in
    rw (heard-first run S position t entry (rest ++ more), heard-first run S position t entry rest)
    (rw (head-front run S position t entry rest more own, more-without run (entered run S entry) (position + 1) t rest more none))

-- A thread that is inside a callback leaves it by its Back alone.

abbrev Inside : State → ℕ → Type 0
Inside S t = IsSome (pending_at S t)

does-inside : (run : Run) (S : State) (u t : ℕ) (what : What) → (is_back what && u == t) ≡ false → Inside S t → Inside (does run S u what) t
does-inside run S u t Go none inside = by (turn run S u).outcome (leaves-turn run S u)
  where
    by : (o : Outcome) → Leaves S u (turn run S u).state o → Inside (turn run S u).state t
    by (outcome.Happens event) leaves =
        rw leaves.2 (at-set (λ (callback : Option Callback). IsSome callback) None S.pending u t (Some (called event)) inside
        (λ same. refl))
    by o leaves = rw leaves.2 inside
does-inside run S u t (Put place word) none inside = elim (pending_at S u) as (λ callback. Inside (put_from S u place word callback) t) [
  | None ↦ inside
  | Some callback ↦ at-set (λ (callback : Option Callback). IsSome callback) None S.pending u t
      (Some (record callback { stores = callback.stores + 1 })) inside (λ same. refl)
]
does-inside run S u t Back none inside = elim (pending_at S u) as (λ callback. Inside (back_from S u callback) t) [
  | None ↦ inside
  | Some callback ↦ at-set (λ (callback : Option Callback). IsSome callback) None S.pending u t None inside
      (λ same. absurd (true≢false (sym (eq-eqb u t (sym same)) ∙ none)))
]

-- where it has left it, its Back stands there
left-by-back : (run : Run) (S : State) (t : ℕ) (entries : List Entry) → Inside S t → pending_at (after_from run S entries) t ≡ None → has_back t entries ≡ true
left-by-back run S t [] inside outside = absurd (true≢false (sym inside ∙ ap is_some outside))
left-by-back run S t (entry ∷ rest) inside outside =
    elim (is_back entry.what && entry.thread == t) as (λ b. (is_back entry.what && entry.thread == t) ≡ b → (b || has_back t rest) ≡ true) [
      | true ↦ λ is. refl
      | false ↦ λ is. left-by-back run (entered run S entry) t rest (does-inside run S entry.thread t entry.what is inside) outside
    ] refl

-- a turn with an event takes the thread inside
goes-inside : (run : Run) (S : State) (t : ℕ) (event : Event) → t < length S.pending → (turn run S t).outcome ≡ outcome.Happens event → Inside (turn run S t).state t
goes-inside run S t event within happens =
    rw (turn-pending run S t event happens, get_or-set_same S.pending t (Some (called event)) None within) refl

-- the threads that there are
does-many : (run : Run) (S : State) (u : ℕ) (what : What) → length (does run S u what).pending ≡ length S.pending
does-many run S u Go = by (turn run S u).outcome (leaves-turn run S u)
  where
    by : (o : Outcome) → Leaves S u (turn run S u).state o → length (turn run S u).state.pending ≡ length S.pending
    by (outcome.Happens event) leaves = rw leaves.2 (length-set S.pending u (Some (called event)))
    by o leaves = rw leaves.2
does-many run S u (Put place word) = elim (pending_at S u) as (λ callback. length (put_from S u place word callback).pending ≡ length S.pending) [ None ↦ refl | Some callback ↦ length-set S.pending u (Some (record callback { stores = callback.stores + 1 })) ]
does-many run S u Back = elim (pending_at S u) as (λ callback. length (back_from S u callback).pending ≡ length S.pending) [ None ↦ refl | Some callback ↦ length-set S.pending u None ]

-- what a thread hears of entries after which it is inside no callback is heard of them whatever follows
pub heard-split : (run : Run) (S : State) (position t : ℕ) (entries more : List Entry) → t < length S.pending
    → pending_at (after_from run S entries) t ≡ None
    → heard_on run S position (entries ++ more) t ≡ heard_on run S position entries t ++ heard_on run (after_from run S entries) (position + length entries) more t
heard-split run S position t [] more within outside = ap (λ place. heard_on run S place more t) (omega arith)
heard-split run S position t (entry ∷ rest) more within outside =
    let next = entered run S entry in
    let own : entry.thread ≡ t → heard_at run S position t entry.what (rest ++ more) ≡ heard_at run S position t entry.what rest =
    λ same. at-front run S position t entry.what rest more (λ event go is.
    let inside = goes-inside run S t event within is in
    let there = left-by-back run (turn run S t).state t rest inside (rw (same, go) at outside) in
    back-front t rest more there ∙ sym there) in
    let place : position + 1 + length rest ≡ position + length (entry ∷ rest) = omega arith in
    let many : t < length next.pending = rw (does-many run S entry.thread entry.what) within in
    rw (heard-first run S position t entry (rest ++ more), heard-first run S position t entry rest)
    (rw (head-front run S position t entry rest more own, heard-split run next (position + 1) t rest more many outside, ← place)
    (sym (append_assoc (head-of run S position t entry rest) (heard_on run next (position + 1) rest t)
    (heard_on run (after_from run next rest) (position + 1 + length rest) more t))))

-- nothing is heard of stores and Backs, nor, on the thread, of others' entries before them
reply-unheard : (run : Run) (S : State) (position t : ℕ) (since : List Entry) (stores : List Stored) → NotBy t since
    → heard_on run S position (since ++ event_reply t stores) t ≡ []
reply-unheard run S position t [] [] none = refl
reply-unheard run S position t [] (store ∷ rest) none = reply-unheard run (entered run S (put_at t store)) (position + 1) t [] rest tt
reply-unheard run S position t (entry ∷ since) stores none =
    let rest = since ++ event_reply t stores in
    rw (heard-first run S position t entry rest, at-other run S position entry.thread entry.what rest t (ne_eqb entry.thread t none.0))
    (reply-unheard run (entered run S entry) (position + 1) t since stores none.1)

-- the Back and the stores of a reply behind others' entries
reply-back : (t : ℕ) (since : List Entry) (stores : List Stored) → has_back t (since ++ event_reply t stores) ≡ true
reply-back t [] [] = rw (eq-eqb t t refl) refl
reply-back t [] (store ∷ rest) = reply-back t [] rest
reply-back t (entry ∷ since) stores = or_right _ _ (reply-back t since stores)

reply-stores : (t : ℕ) (since : List Entry) (stores : List Stored) → NotBy t since → stores_in t (since ++ event_reply t stores) ≡ stores
reply-stores t [] [] none = rw (eq-eqb t t refl) refl
reply-stores t [] (store ∷ rest) none = rw (eq-eqb t t refl) (ap (λ more. store ∷ more) (reply-stores t [] rest tt))
reply-stores t (entry ∷ since) stores none = rw (ne_eqb entry.thread t none.0) (reply-stores t since stores none.1)

-- the thread hears its event once it has answered
pub answered :
    (run : Run) (S : State) (position t : ℕ) (event : Event) (since : List Entry) (stores : List Stored) → (turn run S t).outcome ≡ outcome.Happens event → is_registered run.mask (callback_of event) ≡ true → NotBy t since
    → heard_on run S position (go_at t ∷ (since ++ event_reply t stores)) t
    ≡ item_with position t (turn run S t).state.world event stores ∷ []
answered run S position t event since stores happens registered none =
    let next = (turn run S t).state in
    let rest = since ++ event_reply t stores in
    let one : heard_at run S position t Go rest ≡ item_with position t next.world event stores ∷ [] =
    rw (happens, registered, reply-back t since stores, reply-stores t since stores none) refl in
    let tail : heard_on run next (position + 1) rest t ≡ [] = reply-unheard run next (position + 1) t since stores none in
    rw (heard-first run S position t (go_at t) rest, one, tail, eq-eqb t t refl) refl
