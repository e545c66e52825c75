-- Chains of charged events, of which each leads to the next.
use Rattle.std.specs.Prelude.{ℕ, ◌≡◌, ◌+◌, ◌≤◌, true, List, [], ◌∷◌, ◌++◌, is_some, length, reverse}
use Rattle.ompt_calls.specs.declared.event.EventRecord.{EventRecord}
use Rattle.tool_tasks.specs.Charge.{charged_task}
use Rattle.tool_tasks.specs.Leads.{leads}

-- a charged event is at this position
pub record IsCharged (events : List EventRecord) (seq : ℕ) : Type 0 where
  pub before : List EventRecord
  pub event : EventRecord
  pub behind : List EventRecord
  pub events_are : events ≡ before ++ event ∷ behind
  pub seq_is : event.seq ≡ seq
  pub charged : is_some (charged_task (reverse before) event) ≡ true

-- a charged event leads to a later one
pub record Leads (events : List EventRecord) (seq next : ℕ) : Type 0 where
  pub before : List EventRecord
  pub event : EventRecord
  pub between : List EventRecord
  pub later : EventRecord
  pub behind : List EventRecord
  pub events_are : events ≡ before ++ event ∷ between ++ later ∷ behind
  pub seq_is : event.seq ≡ seq
  pub next_is : later.seq ≡ next
  pub charged : is_some (charged_task (reverse before) event) ≡ true
  pub later_charged : is_some (charged_task (reverse (before ++ event ∷ between)) later) ≡ true
  pub leads : leads (reverse before) event (reverse (before ++ event ∷ between)) later ≡ true

-- the positions are a chain
abbrev pub IsChain : List EventRecord → List ℕ → Type 0
IsChain events [] = Unit {0}
IsChain events (seq ∷ []) = IsCharged events seq
IsChain events (seq ∷ next ∷ rest) = Leads events seq next × IsChain events (next ∷ rest)

-- the length of a longest chain
pub record IsSpan (events : List EventRecord) (span : ℕ) : Type 0 where
  pub chain : List ℕ
  pub is_chain : IsChain events chain
  pub length_is : length chain ≡ span
  pub longest : (other : List ℕ) → IsChain events other → length other ≤ span

-- positions that rise, from this least one on
abbrev pub AreRising : ℕ → List EventRecord → Type 0
AreRising least [] = Unit {0}
AreRising least (event ∷ rest) = (least ≤ event.seq) × AreRising (event.seq + 1) rest
