-- One more thread of a search for an enabled one.
use Rattle.std.proofs.Common.{◌≡◌, ℕ, suc, ◌+◌, ◌-◌, ◌<◌, ◌≤◌, true, false, Some, None, arith}
use Rattle.omp_model.specs.State.{State}
use Rattle.omp_model.specs.Turn.{enabled}
use Rattle.omp_model.specs.Serial.{enabled_among}

-- the thread is enabled, and so is found
pub among-found : (S : State) (t end : ℕ) → t < end → true ≡ enabled S t → enabled_among S t (end - t) ≡ Some t
unfolding enabled_among
among-found S t end below found = let more : end - t ≡ suc (end - (t + 1)) = omega arith in rw (more, ← found)

-- it isn't, and the next one stands next
pub among-next : (S : State) (t end : ℕ) → t < end → false ≡ enabled S t → enabled_among S t (end - t) ≡ enabled_among S (t + 1) (end - (t + 1))
unfolding enabled_among
among-next S t end below other = let more : end - t ≡ suc (end - (t + 1)) = omega arith in rw (more, ← other)

-- no thread is left
pub among-none : (S : State) (t end : ℕ) → end ≤ t → enabled_among S t (end - t) ≡ None
unfolding enabled_among
among-none S t end past = let none : end - t ≡ 0 = omega arith in rw none
