-- What a turn's answer says of what the turn came to.
use Rattle.std.proofs.Common.{◌≡◌, ℕ, ◌∙◌, if◌then◌else◌, true, false, None, refl, sym}
use Rattle.std.proofs.lemmas.Bool.{true≢false}
use Rattle.ompt_calls.specs.declared.call.Call.{Call}
use Rattle.ompt_calls.specs.declared.snapshot.Snapshot.{Snapshot}
use Rattle.ompt_calls.specs.Number.{is_registered}
use Rattle.omp_model.specs.declared.event.Event.{Event}
use Rattle.omp_model.specs.declared.event.Halt.{Halt}
use Rattle.omp_model.specs.declared.event.Halt.TheVariants as halt
use Rattle.omp_model.specs.declared.event.Outcome.{Outcome}
use Rattle.omp_model.specs.declared.event.Outcome.TheVariants.{Idle, Quiet, Happens, Halts}
use Rattle.omp_model.specs.State.{Run, State}
use Rattle.omp_model.specs.Calls.{call_of, callback_of}
use Rattle.omp_model.specs.Snapshots.{snap_of}
use Rattle.omp_model.specs.Serial.{inside_after}
use Rattle.omp_machine.specs.declared.went.Went.{Went}
use Rattle.omp_machine.specs.declared.went.Went.TheVariants.{Told, Untold}
use Rattle.omp_machine.specs.MachineView.{told, went_of_halt, went_after, is_call}

-- the event that was told, which is registered
pub record IsTold (run : Run) (after : State) (t : ℕ) (outcome : Outcome) (call : Call) (snapshot : Snapshot) : Type 0 where
  pub event : Event
  pub happens : outcome ≡ Happens event
  pub registered : is_registered run.mask (callback_of event) ≡ true
  pub call_is : call_of after.world t event ≡ call
  pub snapshot_is : snap_of after.world t event ≡ snapshot

-- the event that was untold, which isn't
pub record IsUntold (run : Run) (outcome : Outcome) : Type 0 where
  pub event : Event
  pub happens : outcome ≡ Happens event
  pub unregistered : is_registered run.mask (callback_of event) ≡ false

halt-not_told : (h : Halt) (call : Call) (snapshot : Snapshot) → went_of_halt h ≡ Told call snapshot → ⊥
halt-not_told (halt.Trap number) call snapshot is = cc
halt-not_told (halt.Limit number) call snapshot is = cc

halt-not_untold : (h : Halt) → went_of_halt h ≡ Untold → ⊥
halt-not_untold (halt.Trap number) is = cc
halt-not_untold (halt.Limit number) is = cc

-- where an event was told, its callback is registered, and what was told is its call with its snapshot
record Says (mask number : ℕ) (said call : Call) (shown snapshot : Snapshot) : Type 0 where
  pub registered : is_registered mask number ≡ true
  pub call_is : said ≡ call
  pub snapshot_is : shown ≡ snapshot

told-says : (mask number : ℕ) (said call : Call) (shown snapshot : Snapshot) → told mask number said shown ≡ Told call snapshot → Says mask number said call shown snapshot
told-says mask number said call shown snapshot is =
    elim (is_registered mask number) as (λ b. is_registered mask number ≡ b → (if◌then◌else◌ {A = Went} b (Told said shown) Untold) ≡ Told call snapshot → Says mask number said call shown snapshot) [ true ↦ λ registered same. record { registered = registered; call_is = cc; snapshot_is = cc } | false ↦ λ unregistered same. cc ] refl is

-- where it was untold, it isn't registered
untold-says : (mask number : ℕ) (said : Call) (shown : Snapshot) → told mask number said shown ≡ Untold → is_registered mask number ≡ false
untold-says mask number said shown is =
    elim (is_registered mask number) as (λ b. is_registered mask number ≡ b → (if◌then◌else◌ {A = Went} b (Told said shown) Untold) ≡ Untold → is_registered mask number ≡ false) [ true ↦ λ registered same. cc | false ↦ λ unregistered same. unregistered ] refl is

pub told-by : (run : Run) (after : State) (t : ℕ) (outcome : Outcome) (call : Call) (snapshot : Snapshot) → went_after run after t outcome ≡ Told call snapshot → IsTold run after t outcome call snapshot
told-by run after t Idle call snapshot is = cc
told-by run after t Quiet call snapshot is = cc
told-by run after t (Happens event) call snapshot is =
    let says = told-says run.mask (callback_of event) (call_of after.world t event) call (snap_of after.world t event) snapshot is in
    record { event = event; happens = refl; registered = says.registered; call_is = says.call_is; snapshot_is = says.snapshot_is }
told-by run after t (Halts h) call snapshot is = absurd (halt-not_told h call snapshot is)

pub untold-by : (run : Run) (after : State) (t : ℕ) (outcome : Outcome) → went_after run after t outcome ≡ Untold → IsUntold run outcome
untold-by run after t Idle is = cc
untold-by run after t Quiet is = cc
untold-by run after t (Happens event) is =
    record { event = event; happens = refl; unregistered = untold-says run.mask (callback_of event) (call_of after.world t event) (snap_of after.world t event) is }
untold-by run after t (Halts h) is = absurd (halt-not_untold h is)

-- what is no call leaves nobody inside a callback
pub told-is_call : (mask number : ℕ) (call : Call) (snapshot : Snapshot) → is_call (told mask number call snapshot) ≡ true
told-is_call mask number call snapshot = elim (is_registered mask number) as (λ b. is_call (if◌then◌else◌ {A = Went} b (Told call snapshot) Untold) ≡ true) [ true ↦ refl | false ↦ refl ]

pub alone-by : (run : Run) (after : State) (t : ℕ) (outcome : Outcome) → is_call (went_after run after t outcome) ≡ false → inside_after outcome t ≡ None
alone-by run after t Idle none = refl
alone-by run after t Quiet none = refl
alone-by run after t (Happens event) none =
    absurd (true≢false (sym (told-is_call run.mask (callback_of event) (call_of after.world t event) (snap_of after.world t event)) ∙ none))
alone-by run after t (Halts h) none = refl
