use Rattle.std.proofs.Common.{◌≡◌, ◌&&◌, ℕ, nat_lt, bit_or}
use Rattle.ompt_calls.specs.Number.{is_registered}
use Rattle.tool_both.proofs.masks.Masks.register.Given as goal

-- what both registered is registered as far as the loop has come
abbrev pub invariant-loop-number : goal.invariant-loop-number
invariant-loop-number l = (other : ℕ) → is_registered l.registrar other ≡ (is_registered (bit_or l.self.first l.self.second) other && nat_lt other l.number)
