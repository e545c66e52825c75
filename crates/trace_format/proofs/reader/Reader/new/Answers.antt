use Rattle.std.proofs.Common.{List, ℕ, [], ◌≡◌, refl}
use Rattle.trace_format.specs.Taking.{first_stage}
use Rattle.trace_format.proofs.Format.{start}
use Rattle.trace_format.proofs.Spelling.{nil_bytes}
use Rattle.trace_format.proofs.Standing.{Stands, has_taken, to_holds}
use Rattle.trace_format.proofs.Steps.{begins}
use Rattle.trace_format.proofs.reader.Reader.new.Goals as goal

first : (begun : List ℕ) → begun ≡ [] → Stands first_stage begun [] [] [] []
first begun e = record { reached = start; stage_is = refl; begun_is = e; bytes_are = refl }

pub invariant_of-result : goal.invariant_of-result
invariant_of-result c = λ unrefused. to_holds first_stage c.new.result [] [] [] [] 0 0 0 (first c.new.result c.new.ensures) refl refl refl (begins first_stage _ refl) nil_bytes

pub returns : goal.returns
returns c = record { taken = has_taken first_stage c.new.result [] [] [] [] 0 (first c.new.result c.new.ensures) refl (begins first_stage _ refl); unrefused = refl }
