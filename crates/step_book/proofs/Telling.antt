-- What a visit's answer says of the turn.
use Rattle.std.proofs.Common.{◌≡◌, ℕ, if◌then◌else◌, true, false, [], ◌∷◌, length, None, refl, sym, ap, ◌∙◌, inl, inr, ◌⊎◌}
use Rattle.ompt_calls.specs.declared.call.Call.{Call}
use Rattle.ompt_calls.specs.declared.snapshot.Snapshot.{Snapshot}
use Rattle.ompt_calls.specs.Number.{is_registered}
use Rattle.omp_model.specs.declared.cause.Cause.{Cause}
use Rattle.omp_model.specs.declared.cause.Cause.TheVariants as cause
use Rattle.omp_model.specs.declared.event.Halt.TheVariants.{Trap, Limit}
use Rattle.omp_model.specs.declared.event.Outcome.{Outcome}
use Rattle.omp_model.specs.declared.event.Outcome.TheVariants as outcome
use Rattle.omp_model.specs.State.{Run, State}
use Rattle.omp_model.specs.Calls.{call_of, callback_of}
use Rattle.omp_model.specs.Legal.{after}
use Rattle.omp_model.specs.Serial.{inside_after}
use Rattle.omp_model.specs.Snapshots.{snap_of}
use Rattle.omp_model.specs.Storing.{back_at, go_at}
use Rattle.omp_model.specs.Turn.{turn}
use Rattle.omp_machine.specs.declared.went.Went.{Went}
use Rattle.omp_machine.specs.declared.went.Went.TheVariants as went
use Rattle.omp_machine.specs.MachineView.{is_call, went_after, went_of}
use Rattle.omp_machine.proofs.Telling.{IsTold, IsUntold, alone-by, told-by, untold-by}
use Rattle.step_book.specs.declared.step.Step.TheVariants.{Told, Quiet, NotYet, Ended}
use Rattle.step_book.specs.BookView.{BookView, state_of}
use Rattle.step_book.specs.Visit.{Visit, turn_visit, visit_of_outcome}

-- the visit that belongs to what the machine tells of a turn
abbrev pub visit_of_went : ℕ → ℕ → Went → Visit
visit_of_went seq t went.Quiet = record { step = Quiet; added = go_at t ∷ [] }
visit_of_went seq t (went.Told call snapshot) = record { step = Told seq call snapshot; added = go_at t ∷ [] }
visit_of_went seq t went.Untold = record { step = Quiet; added = go_at t ∷ back_at t ∷ [] }
visit_of_went seq t (went.Trapped number) = record { step = Ended (cause.Trapped number); added = go_at t ∷ [] }
visit_of_went seq t (went.Limit number) = record { step = Ended (cause.Limit number); added = go_at t ∷ [] }

pub visit-went : (run : Run) (seq t : ℕ) (after : State) (o : Outcome) → visit_of_outcome run.mask seq t after.world o ≡ visit_of_went seq t (went_after run after t o)
visit-went run seq t after outcome.Idle = refl
visit-went run seq t after outcome.Quiet = refl
visit-went run seq t after (outcome.Happens event) =
    elim (is_registered run.mask (callback_of event)) as (λ b. (if◌then◌else◌ {A = Visit} b (record { step = Told seq (call_of after.world t event) (snap_of after.world t event); added = go_at t ∷ [] }) (record { step = Quiet; added = go_at t ∷ back_at t ∷ [] })) ≡ visit_of_went seq t (if◌then◌else◌ {A = Went} b (went.Told (call_of after.world t event) (snap_of after.world t event)) went.Untold)) [ true ↦ refl | false ↦ refl ]
visit-went run seq t after (outcome.Halts (Trap number)) = refl
visit-went run seq t after (outcome.Halts (Limit number)) = refl

-- the visit that is a turn, by what the machine tells of it
pub turn-went : (book : BookView) (S : State) (t : ℕ) (told : Went) → after book.run book.history ≡ S → told ≡ went_of book.run S t → turn_visit book t ≡ visit_of_went (length book.history) t told
turn-went book S t told reached is =
    rw (reached, is) (visit-went book.run (length book.history) t (turn book.run S t).state (turn book.run S t).outcome)

-- the state right after the turn, and what the turn came to
abbrev next : BookView → ℕ → State
next book t = (turn book.run (state_of book) t).state

abbrev came : BookView → ℕ → Outcome
came book t = (turn book.run (state_of book) t).outcome

-- an event was told
pub record HasTold (book : BookView) (t seq : ℕ) (call : Call) (snapshot : Snapshot) : Type 0 where
  pub is_told : IsTold book.run (turn book.run (state_of book) t).state t (turn book.run (state_of book) t).outcome call snapshot
  pub place : seq ≡ length book.history
  pub added_is : (turn_visit book t).added ≡ go_at t ∷ []

-- an event has occurred, and wasn't told
pub record HasUntold (book : BookView) (t : ℕ) : Type 0 where
  pub is_untold : IsUntold book.run (turn book.run (state_of book) t).outcome
  pub added_is : (turn_visit book t).added ≡ go_at t ∷ back_at t ∷ []

-- no event has occurred
pub record IsAlone (book : BookView) (t : ℕ) : Type 0 where
  pub none : inside_after (turn book.run (state_of book) t).outcome t ≡ None
  pub added_is : (turn_visit book t).added ≡ go_at t ∷ []

abbrev told_of : BookView → ℕ → Went
told_of book t = went_of book.run (state_of book) t

module _ (book : BookView) (t : ℕ) where
  visit-is : (told : Went) → told_of book t ≡ told → turn_visit book t ≡ visit_of_went (length book.history) t told
  visit-is told is = turn-went book (state_of book) t told refl (sym is)

  alone-went : (told : Went) → told_of book t ≡ told → is_call told ≡ false → (visit_of_went (length book.history) t told).added ≡ go_at t ∷ [] → IsAlone book t
  alone-went told is no_call added =
      record {
        none = alone-by book.run (next book t) t (came book t) (ap is_call is ∙ no_call);
        added_is = ap (λ (visit : Visit). visit.added) (visit-is told is) ∙ added;
      }

  told-went : (told : Went) → told_of book t ≡ told → (seq : ℕ) (call : Call) (snapshot : Snapshot) → (visit_of_went (length book.history) t told).step ≡ Told seq call snapshot → HasTold book t seq call snapshot
  told-went went.Quiet is seq call snapshot says = cc
  told-went (went.Told said shown) is seq call snapshot says =
      let same_call : said ≡ call = cc in
      let same_snapshot : shown ≡ snapshot = cc in
      let same_place : length book.history ≡ seq = cc in
      let is_told = told-by book.run (next book t) t (came book t) said shown is in
      record {
        is_told = record { event = is_told.event; happens = is_told.happens; registered = is_told.registered; call_is = is_told.call_is ∙ same_call; snapshot_is = is_told.snapshot_is ∙ same_snapshot };
        place = sym same_place;
        added_is = ap (λ (visit : Visit). visit.added) (visit-is (went.Told said shown) is);
      }
  told-went went.Untold is seq call snapshot says = cc
  told-went (went.Trapped number) is seq call snapshot says = cc
  told-went (went.Limit number) is seq call snapshot says = cc

  quiet-went : (told : Went) → told_of book t ≡ told → (visit_of_went (length book.history) t told).step ≡ Quiet → IsAlone book t ⊎ HasUntold book t
  quiet-went went.Quiet is says = inl (alone-went went.Quiet is refl refl)
  quiet-went (went.Told said shown) is says = cc
  quiet-went went.Untold is says =
      inr (record {
        is_untold = untold-by book.run (next book t) t (came book t) is;
        added_is = ap (λ (visit : Visit). visit.added) (visit-is went.Untold is);
      })
  quiet-went (went.Trapped number) is says = cc
  quiet-went (went.Limit number) is says = cc

  ended-went : (told : Went) → told_of book t ≡ told → (ended : Cause) → (visit_of_went (length book.history) t told).step ≡ Ended ended → IsAlone book t
  ended-went went.Quiet is ended says = cc
  ended-went (went.Told said shown) is ended says = cc
  ended-went went.Untold is ended says = cc
  ended-went (went.Trapped number) is ended says = alone-went (went.Trapped number) is refl refl
  ended-went (went.Limit number) is ended says = alone-went (went.Limit number) is refl refl

  not_yet-went : (told : Went) → (visit_of_went (length book.history) t told).step ≡ NotYet → ⊥
  not_yet-went went.Quiet says = cc
  not_yet-went (went.Told said shown) says = cc
  not_yet-went went.Untold says = cc
  not_yet-went (went.Trapped number) says = cc
  not_yet-went (went.Limit number) says = cc

  step-is : (turn_visit book t).step ≡ (visit_of_went (length book.history) t (told_of book t)).step
  step-is = ap (λ (visit : Visit). visit.step) (visit-is (told_of book t) refl)

  -- what follows from each answer of a turn
  pub told-step : (seq : ℕ) (call : Call) (snapshot : Snapshot) → (turn_visit book t).step ≡ Told seq call snapshot → HasTold book t seq call snapshot
  told-step seq call snapshot is = told-went (told_of book t) refl seq call snapshot (sym step-is ∙ is)

  pub quiet-step : (turn_visit book t).step ≡ Quiet → IsAlone book t ⊎ HasUntold book t
  quiet-step is = quiet-went (told_of book t) refl (sym step-is ∙ is)

  pub ended-step : (ended : Cause) → (turn_visit book t).step ≡ Ended ended → IsAlone book t
  ended-step ended is = ended-went (told_of book t) refl ended (sym step-is ∙ is)

  pub not_yet-step : (turn_visit book t).step ≡ NotYet → ⊥
  not_yet-step is = not_yet-went (told_of book t) (sym step-is ∙ is)
