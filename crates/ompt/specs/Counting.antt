-- What a counter of calls stands for.
use Rattle.std.specs.Prelude.{ℕ, ◌≡◌, length, min}
use Rattle.omp_codes.specs.declared.callbacks.TheConstants.{PROFILE_MASK}
use Rattle.tool_api.specs.Record.{Record, StartedWith}

-- each start was answered by 1 and registered the callbacks of the profile, and the count is the number of calls, at most
-- 2^64 - 1
pub record CountsCalls (count : ℕ) (h : Record) : Type 0 where
  pub started : StartedWith 1 PROFILE_MASK h.started
  pub calls : count ≡ min (length h.calls) 18446744073709551615
