-- The serial order: threads take turns round and round, each a whole turn with its callback.
use Rattle.std.specs.Prelude.{ℕ, zero, suc, ◌+◌, ◌-◌, ◌*◌, ◌≡◌, Bool, true, false, IsTrue, if◌then◌else◌, List, [], ◌∷◌, Option, Some, None}
use Rattle.omp_model.specs.declared.limits.TheConstants.{TURN_LIMIT}
use Rattle.omp_model.specs.declared.history.What.{What}
use Rattle.omp_model.specs.declared.history.What.TheVariants.{Go, Put, Back}
use Rattle.omp_model.specs.declared.history.Entry.{Entry}
use Rattle.omp_model.specs.State.{Run, State, first}
use Rattle.omp_model.specs.declared.event.Outcome.{Outcome}
use Rattle.omp_model.specs.declared.event.Outcome.TheVariants.{Happens}
use Rattle.omp_model.specs.Turn.{turn, enabled}
use Rattle.omp_model.specs.Legal.{Legal, put, back}

-- the first enabled one of `count` threads from `from` on
unfoldable pub enabled_among : State → ℕ → ℕ → Option ℕ
enabled_among S from zero = None
enabled_among S from (suc count) = if enabled S from then Some from else enabled_among S (from + 1) count

abbrev pub or_else : Option ℕ → Option ℕ → Option ℕ
or_else (Some t) other = Some t
or_else None other = other

-- the first enabled thread from `next` on, round and round
abbrev pub first_enabled : Run → State → ℕ → Option ℕ
first_enabled run S next = or_else (enabled_among S next (run.threads - next)) (enabled_among S 0 next)

-- where a serial run stands: the thread at which the search for an enabled one begins, and the thread inside a callback
pub record Visit : Type 0 where
  pub state : State
  pub next : ℕ
  pub inside : Option ℕ

abbrev pub start : Run → Visit
start run = record { state = first run; next = 0; inside = None }

abbrev pub go_of : Option ℕ → Option Entry
go_of None = None
go_of (Some t) = Some (record { thread = t; what = Go })

abbrev pub onward_from : Run → Visit → Option ℕ → Option Entry
onward_from run v (Some t) = Some (record { thread = t; what = Back })
onward_from run v None = go_of (first_enabled run v.state v.next)

-- the one entry that stands next where the tool of a callback stores nothing more
abbrev pub onward : Run → Visit → Option Entry
onward run v = onward_from run v v.inside

-- an event's callback comes directly after its Go
abbrev pub inside_after : Outcome → ℕ → Option ℕ
inside_after (Happens event) t = Some t
inside_after other t = None

abbrev pub moved_by : Run → Visit → ℕ → What → Visit
moved_by run v t Go =
    record { state = (turn run v.state t).state; next = t + 1; inside = inside_after (turn run v.state t).outcome t }
moved_by run v t (Put target word) = record { state = put v.state t target word; next = v.next; inside = v.inside }
moved_by run v t Back = record { state = back v.state t; next = v.next; inside = None }

-- where the run stands after an entry
abbrev pub moved : Run → Visit → Entry → Visit
moved run v entry = moved_by run v entry.thread entry.what

-- the entry may stand next: a store where its thread is inside a callback, or the one that stands next without a store
abbrev pub Follows : Run → Visit → ℕ → What → Type 0
Follows run v t Go = onward run v ≡ Some (record { thread = t; what = Go })
Follows run v t (Put target word) = v.inside ≡ Some t
Follows run v t Back = onward run v ≡ Some (record { thread = t; what = Back })

-- the entries lead from one place to another, each as it may stand next
abbrev pub Leads : Run → Visit → List Entry → Visit → Type 0
Leads run v [] last = v ≡ last
Leads run v (entry ∷ rest) last = Follows run v entry.thread entry.what × Leads run (moved run v entry) rest last

-- an entry that stores nothing
abbrev pub is_no_put : What → Bool
is_no_put Go = true
is_no_put (Put target word) = false
is_no_put Back = true

-- no entry stores anything
abbrev pub StoresNothing : List Entry → Type 0
StoresNothing [] = Unit {0}
StoresNothing (entry ∷ rest) = IsTrue (is_no_put entry.what) × StoresNothing rest

-- a legal history in which the stores and the Back of an event follow its Go directly, and each Go is of the first enabled
-- thread after the one of the Go before
pub record Serial (run : Run) (history : List Entry) : Type 0 where
  pub legal : Legal run history
  pub last : Visit
  pub in_turn : Leads run (start run) history last

-- a serial history to the end: nothing may stand next
pub record WholeSerial (run : Run) (history : List Entry) : Type 0 where
  pub legal : Legal run history
  pub last : Visit
  pub in_turn : Leads run (start run) history last
  pub ended : onward run last ≡ None

abbrev pub serial_on : Option Entry → (Entry → List Entry) → List Entry
serial_on None more = []
serial_on (Some entry) more = entry ∷ more entry

-- at most `most` entries, each the one that stands next without a store
unfoldable pub serial_from : Run → ℕ → Visit → List Entry
serial_from run zero v = []
serial_from run (suc most) v = serial_on (onward run v) (λ entry. serial_from run most (moved run v entry))

-- the one serial history to the end in which nothing is stored. A turn has at most two entries there
abbrev pub serial : Run → List Entry
serial run = serial_from run (2 * TURN_LIMIT) (start run)
