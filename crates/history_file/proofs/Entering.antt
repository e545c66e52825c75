-- Each kind of entry keeps what a rerun has come to.
use Rattle.std.proofs.Common.{◌≡◌, ◌≢◌, ℕ, ◌+◌, ◌<◌, ◌≤◌, ◌&&◌, ◌||◌, not, Bool, true, false, cond, if◌then◌else◌, List, [], ◌∷◌, ◌++◌, Option, Some, None, length, map, is_some, slice_index_or, slice_set, get_or-set_same, eq-eqb, ne_eqb, refl, sym, ap, ap₂, subst, ◌∙◌, append-nil, inl, inr, arith}
use Rattle.std.specs.Prelude.{filter}
use Rattle.std.proofs.lemmas.Bool.{cases_eq}
use Rattle.std.proofs.lemmas.List.{get_or-set_other, length-set}
use Rattle.std.proofs.lemmas.List.Elements.{filter-append}
use Rattle.ompt_calls.specs.declared.snapshot.Target.{Target}
use Rattle.ompt_calls.specs.Item.{Item}
use Rattle.ompt_calls.specs.Number.{is_registered}
use Rattle.omp_model.specs.declared.event.Callback.{Callback}
use Rattle.omp_model.specs.declared.event.Event.{Event}
use Rattle.omp_model.specs.declared.event.Halt.{Halt}
use Rattle.omp_model.specs.declared.event.Outcome.{Outcome}
use Rattle.omp_model.specs.declared.event.Outcome.TheVariants as outcome
use Rattle.omp_model.specs.declared.history.Entry.{Entry}
use Rattle.omp_model.specs.declared.history.What.TheVariants.{Back, Go, Put}
use Rattle.omp_model.specs.Calls.{call_of, callback_of}
use Rattle.omp_model.specs.Heard.{has_back, heard_at, heard_outcome, stores_in}
use Rattle.omp_model.specs.Legal.{back, back_from, may, put, put_from}
use Rattle.omp_model.specs.Snapshots.{snap_of}
use Rattle.omp_model.specs.State.{Run, State, pending_at}
use Rattle.omp_model.specs.Turn.{called, enabled, turn}
use Rattle.omp_model.proofs.MadeRuns.{made-after}
use Rattle.omp_model.proofs.Reading.{read-same}
use Rattle.omp_model.proofs.Turns.{halts-pending, quiet-pending, turn-goes, turn-pending}
use Rattle.history_file.specs.declared.verdict.HeardCall.{HeardCall}
use Rattle.history_file.specs.declared.waiting.Waiting.{Waiting}
use Rattle.history_file.specs.RerunProgress.{HasCome, entry_of, IsWaiting, is_kept, is_place, told_of, waits}
use Rattle.history_file.specs.Verdicts.{heard_call}
use Rattle.history_file.proofs.Coming.{before_last, before_more, one_more, same_filter}
use Rattle.history_file.proofs.Inside.{inside_of, none_waiting, one_waiting}

-- a thread with as much as before of what it waits for
kept_waits : (waiting : List (Option Waiting)) (t : ℕ) (now : Option Waiting) (call : HeardCall) → told_of now ≡ told_of (slice_index_or waiting t None) → waits (slice_set waiting t now) call ≡ waits waiting call
kept_waits waiting t now call same = ap (λ (told : Option ℕ). is_place told call.seq) (read-same told_of None waiting t call.thread now same)

kept_same : (waiting : List (Option Waiting)) (t : ℕ) (now : Option Waiting) (rest : List Entry) (call : HeardCall) → told_of now ≡ told_of (slice_index_or waiting t None)
    → is_kept waiting rest call ≡ is_kept (slice_set waiting t now) rest call
kept_same waiting t now rest call same = ap (λ (b : Bool). not b || has_back call.thread rest) (sym (kept_waits waiting t now call same))

-- the thread has come out of its callback

either : (w h : Bool) → (not w || (true || h)) ≡ true
either true h = refl
either false h = refl

kept_back : (waiting : List (Option Waiting)) (t : ℕ) (rest : List Entry) (call : HeardCall) → t < length waiting
    → is_kept waiting (entry_of t Back ∷ rest) call ≡ is_kept (slice_set waiting t None) rest call
kept_back waiting t rest call below =
    let here = waits waiting call in
    let later = has_back call.thread rest in
    elim (cases_eq call.thread t) [
      | inl same ↦
          let out : slice_index_or (slice_set waiting t None) call.thread None ≡ None =
          ap (λ (k : ℕ). slice_index_or (slice_set waiting t None) k None) same ∙ get_or-set_same waiting t None None below in
          ap (λ (b : Bool). not here || (b || later)) (eq-eqb t call.thread (sym same)) ∙ either here later
          ∙ sym (ap (λ (o : Option Waiting). not (is_place (told_of o) call.seq) || later) out)
      | inr other ↦
          ap (λ (b : Bool). not here || (b || later)) (ne_eqb t call.thread (λ is. other (sym is)))
          ∙ sym (ap (λ (o : Option Waiting). not (is_place (told_of o) call.seq) || later) (get_or-set_other waiting t call.thread None None other))
    ]

-- the thread is inside the callback of a told event
abbrev told_at : ℕ → Option Waiting
told_at place = Some (record { stores = 0; told = Some place })

kept_told : (waiting : List (Option Waiting)) (t place : ℕ) (rest : List Entry) (call : HeardCall) → t < length waiting → slice_index_or waiting t None ≡ None → call.seq < place
    → is_kept waiting rest call ≡ is_kept (slice_set waiting t (told_at place)) rest call
kept_told waiting t place rest call below outside less =
    let later = has_back call.thread rest in
    elim (cases_eq call.thread t) [
      | inl same ↦
          let was : slice_index_or waiting call.thread None ≡ None = ap (λ (k : ℕ). slice_index_or waiting k None) same ∙ outside in
          let now : slice_index_or (slice_set waiting t (told_at place)) call.thread None ≡ told_at place =
          ap (λ (k : ℕ). slice_index_or (slice_set waiting t (told_at place)) k None) same ∙ get_or-set_same waiting t (told_at place) None below in
          let differs : place ≢ call.seq = omega arith in
          ap (λ (o : Option Waiting). not (is_place (told_of o) call.seq) || later) was
          ∙ sym (ap (λ (o : Option Waiting). not (is_place (told_of o) call.seq) || later) now ∙ ap (λ (b : Bool). not b || later) (ne_eqb place call.seq differs))
      | inr other ↦
          sym (ap (λ (o : Option Waiting). not (is_place (told_of o) call.seq) || later) (get_or-set_other waiting t call.thread (told_at place) None other))
    ]

kept_last : (waiting : List (Option Waiting)) (rest : List Entry) (call : HeardCall) → call.thread < length waiting → is_kept (slice_set waiting call.thread (told_at call.seq)) rest call ≡ has_back call.thread rest
kept_last waiting rest call below =
    ap (λ (o : Option Waiting). not (is_place (told_of o) call.seq) || has_back call.thread rest) (get_or-set_same waiting call.thread (told_at call.seq) None below)
    ∙ ap (λ (b : Bool). not b || has_back call.thread rest) (eq-eqb call.seq call.seq refl)

-- What is heard of a turn with an event.

abbrev item_at : ℕ → ℕ → State → Event → List Entry → Item
item_at place t after event rest =
    record { seq = place; thread = t; call = call_of after.world t event; snapshot = snap_of after.world t event; stores = stores_in t rest }

heard_untold : (run : Run) (place t : ℕ) (after : State) (came : Outcome) (event : Event) (rest : List Entry) → came ≡ outcome.Happens event → is_registered run.mask (callback_of event) ≡ false
    → heard_outcome run place t after came rest ≡ []
heard_untold run place t after came event rest is unregistered =
    ap (λ (o : Outcome). heard_outcome run place t after o rest) is
    ∙ ap (λ (b : Bool). if b && has_back t rest then item_at place t after event rest ∷ [] else []) unregistered

heard_one : (h : Bool) (item : Item) → map heard_call (if true && h then item ∷ [] else []) ≡ cond h (heard_call item ∷ []) []
heard_one true item = refl
heard_one false item = refl

heard_told : (run : Run) (place t : ℕ) (after : State) (came : Outcome) (event : Event) (rest : List Entry) → came ≡ outcome.Happens event → is_registered run.mask (callback_of event) ≡ true
    → map heard_call (heard_outcome run place t after came rest) ≡ cond (has_back t rest) (record { seq = place; thread = t; call = call_of after.world t event } ∷ []) []
heard_told run place t after came event rest is registered =
    ap (λ (o : Outcome). map heard_call (heard_outcome run place t after o rest)) is
    ∙ ap (λ (b : Bool). map heard_call (if b && has_back t rest then item_at place t after event rest ∷ [] else [])) registered
    ∙ heard_one (has_back t rest) (item_at place t after event rest)

back_pending : (S : State) (t : ℕ) (inside : Option Callback) → is_some inside ≡ true → (back_from S t inside).pending ≡ slice_set S.pending t None
back_pending S t None is = cc
back_pending S t (Some callback) is = refl

module _ (run : Run) (done : List Entry) (S : State) (waiting : List (Option Waiting)) (calls : List HeardCall) (come : HasCome run done S waiting calls) where
  places : (t : ℕ) → t < run.threads → t < length S.pending
  places t one =
      let all : length S.pending ≡ run.threads = subst (λ (now : State). length now.pending ≡ run.threads) come.reached (made-after run done (omega arith)).places in
      omega arith

  slots : (t : ℕ) → t < run.threads → t < length waiting
  slots t one = let room = come.room in omega arith

  -- the thread of a turn is inside no callback before it
  outside : (t : ℕ) → enabled S t ≡ true → slice_index_or waiting t None ≡ None
  outside t goes = none_waiting run (slice_index_or waiting t None) (subst (IsWaiting run (slice_index_or waiting t None)) (turn-goes S t goes).outside (come.inside t))

  -- a turn that comes to no event
  alone : (t : ℕ) → enabled S t ≡ true → (turn run S t).state.pending ≡ S.pending → ((rest : List Entry) → heard_at run S (length done) t Go rest ≡ [])
      → HasCome run (done ++ entry_of t Go ∷ []) (turn run S t).state waiting calls
  alone t goes pending nothing =
      one_more run done S waiting calls come (entry_of t Go) waiting calls goes come.room
      (λ k. subst (λ (all : List (Option Callback)). IsWaiting run (slice_index_or waiting k None) (slice_index_or all k None)) (sym pending) (come.inside k))
      (λ rest. ap (λ (items : List Item). filter (is_kept waiting rest) calls ++ map heard_call items) (nothing rest) ∙ append-nil (filter (is_kept waiting rest) calls))
      (before_more (length done) calls come.early)

  pub after_quiet : (t : ℕ) → enabled S t ≡ true → (turn run S t).outcome ≡ outcome.Quiet → HasCome run (done ++ entry_of t Go ∷ []) (turn run S t).state waiting calls
  after_quiet t goes is =
      alone t goes (quiet-pending run S t is) (λ rest. ap (λ (o : Outcome). heard_outcome run (length done) t (turn run S t).state o rest) is)

  pub after_halt : (t : ℕ) (halt : Halt) → enabled S t ≡ true → (turn run S t).outcome ≡ outcome.Halts halt → HasCome run (done ++ entry_of t Go ∷ []) (turn run S t).state waiting calls
  after_halt t halt goes is =
      alone t goes (halts-pending run S t halt is) (λ rest. ap (λ (o : Outcome). heard_outcome run (length done) t (turn run S t).state o rest) is)

  -- the threads that are inside a callback after a turn with an event
  inside_after : (t : ℕ) (event : Event) (now : Waiting) → t < run.threads → (turn run S t).outcome ≡ outcome.Happens event → IsWaiting run (Some now) (Some (called event))
      → (k : ℕ) → IsWaiting run (slice_index_or (slice_set waiting t (Some now)) k None) (pending_at (turn run S t).state k)
  inside_after t event now one is waits k =
      subst (λ (all : List (Option Callback)). IsWaiting run (slice_index_or (slice_set waiting t (Some now)) k None) (slice_index_or all k None)) (sym (turn-pending run S t event is))
      (one_waiting run waiting S.pending t (Some now) (Some (called event)) (slots t one) (places t one) waits come.inside k)

  room_after : (t : ℕ) (now : Option Waiting) → run.threads ≤ length (slice_set waiting t now)
  room_after t now = let room = come.room in omega (arith, length-set waiting t now)

  pub after_untold : (t : ℕ) (event : Event) → t < run.threads → enabled S t ≡ true → (turn run S t).outcome ≡ outcome.Happens event → is_registered run.mask (callback_of event) ≡ false
      → HasCome run (done ++ entry_of t Go ∷ []) (turn run S t).state (slice_set waiting t (Some (record { stores = 0; told = None }))) calls
  after_untold t event one goes is unregistered =
      let now : Waiting = record { stores = 0; told = None } in
      let next = slice_set waiting t (Some now) in
      one_more run done S waiting calls come (entry_of t Go) next calls goes (room_after t (Some now))
      (inside_after t event now one is (refl, sym unregistered))
      (λ rest.
      ap (λ (items : List Item). filter (is_kept waiting rest) calls ++ map heard_call items) (heard_untold run (length done) t (turn run S t).state (turn run S t).outcome event rest is unregistered)
      ∙ append-nil (filter (is_kept waiting rest) calls)
      ∙ same_filter (is_kept waiting rest) (is_kept next rest) (length done) calls come.early (λ call less. kept_same waiting t (Some now) rest call (sym (ap told_of (outside t goes)))))
      (before_more (length done) calls come.early)

  pub after_told : (t : ℕ) (event : Event) → t < run.threads → enabled S t ≡ true → (turn run S t).outcome ≡ outcome.Happens event → is_registered run.mask (callback_of event) ≡ true
      → HasCome run (done ++ entry_of t Go ∷ []) (turn run S t).state (slice_set waiting t (told_at (length done)))
      (calls ++ record { seq = length done; thread = t; call = call_of (turn run S t).state.world t event } ∷ [])
  after_told t event one goes is registered =
      let now : Waiting = record { stores = 0; told = Some (length done) } in
      let next = slice_set waiting t (Some now) in
      let call : HeardCall = record { seq = length done; thread = t; call = call_of (turn run S t).state.world t event } in
      one_more run done S waiting calls come (entry_of t Go) next (calls ++ call ∷ []) goes (room_after t (Some now))
      (inside_after t event now one is (refl, sym registered))
      (λ rest.
      ap₂ (λ (front last : List HeardCall). front ++ last)
      (same_filter (is_kept waiting rest) (is_kept next rest) (length done) calls come.early (λ old less. kept_told waiting t (length done) rest old (slots t one) (outside t goes) less))
      (heard_told run (length done) t (turn run S t).state (turn run S t).outcome event rest is registered
      ∙ ap (λ (b : Bool). cond b (call ∷ []) []) (sym (kept_last waiting rest call (slots t one))))
      ∙ sym (filter-append (is_kept next rest) calls (call ∷ [])))
      (before_last (length done) calls call come.early refl)

  pub after_put : (t : ℕ) (place : Target) (word : ℕ) (now : Waiting) → t < run.threads → slice_index_or waiting t None ≡ Some now → may run S t (Put place word) ≡ true
      → HasCome run (done ++ entry_of t (Put place word) ∷ []) (put S t place word) (slice_set waiting t (Some (record now { stores = now.stores + 1 }))) calls
  after_put t place word now one is allowed =
      let later : Waiting = record now { stores = now.stores + 1 } in
      let next = slice_set waiting t (Some later) in
      let inside = inside_of run now (pending_at S t) (subst (λ (o : Option Waiting). IsWaiting run o (pending_at S t)) is (come.inside t)) in
      let callback : Callback = record inside.callback { stores = inside.callback.stores + 1 } in
      one_more run done S waiting calls come (entry_of t (Put place word)) next calls allowed (room_after t (Some later))
      (λ k.
      subst (λ (o : Option Callback). IsWaiting run (slice_index_or next k None) (slice_index_or (put_from S t place word o).pending k None)) (sym inside.is)
      (one_waiting run waiting S.pending t (Some later) (Some callback) (slots t one) (places t one) (ap (λ (stores : ℕ). stores + 1) inside.stores, inside.told) come.inside k))
      (λ rest.
      append-nil (filter (is_kept waiting rest) calls)
      ∙ same_filter (is_kept waiting rest) (is_kept next rest) (length done) calls come.early (λ call less. kept_same waiting t (Some later) rest call (sym (ap told_of is))))
      (before_more (length done) calls come.early)

  pub after_back : (t : ℕ) → t < run.threads → is_some (pending_at S t) ≡ true → HasCome run (done ++ entry_of t Back ∷ []) (back S t) (slice_set waiting t None) calls
  after_back t one inside =
      let next = slice_set waiting t None in
      one_more run done S waiting calls come (entry_of t Back) next calls inside (room_after t None)
      (λ k.
      subst (λ (all : List (Option Callback)). IsWaiting run (slice_index_or next k None) (slice_index_or all k None)) (sym (back_pending S t (pending_at S t) inside))
      (one_waiting run waiting S.pending t None None (slots t one) (places t one) tt come.inside k))
      (λ rest.
      append-nil (filter (is_kept waiting (entry_of t Back ∷ rest)) calls)
      ∙ same_filter (is_kept waiting (entry_of t Back ∷ rest)) (is_kept next rest) (length done) calls come.early (λ call less. kept_back waiting t rest call (slots t one)))
      (before_more (length done) calls come.early)
